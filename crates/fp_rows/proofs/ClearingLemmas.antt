-- The loop that makes a column 0.
use Rattle.std.proofs.Common.{◌≡◌, ℕ, ◌+◌, ◌<◌, ◌≤◌, ◌⊎◌, List, [], length, set, inl, inr, arith, ◌∙◌, refl}
use Rattle.std.proofs.lemmas.Bool.{cases_eq}
use Rattle.std.proofs.lemmas.List.{get_or-set_same, get_or-set_other, length-set}
use Rattle.std.proofs.Math.Nat.{sub-zero}
use Rattle.linear_algebra.specs.Rows.{entry, row, IsRow}
use Rattle.linear_algebra.specs.Elimination.{IsCleared, AreCleared}
use Rattle.linear_algebra.proofs.Congruences.{congruent_sym, to_congruent}

-- the first n rows of D are the rows of E, cleared at t, and the others are those of E
pub record AreClearedUpTo (p width t : ℕ) (v : List ℕ) (E D : List (List ℕ)) (n : ℕ) : Type 0 where
  pub same_length : length D ≡ length E
  pub done : (i : ℕ) → i < n → IsCleared p width t v (row E i) (row D i)
  pub rest : (i : ℕ) → n ≤ i → row D i ≡ row E i

pub cleared_start : {p width t : ℕ} {v : List ℕ} (E : List (List ℕ)) → AreClearedUpTo p width t v E E 0
cleared_start E = record { same_length = refl; done = λ i l. absurd (omega arith); rest = λ i l. refl }

pub cleared_end : {p width t : ℕ} {v : List ℕ} {E D : List (List ℕ)} (n : ℕ) → length E ≤ n
    → AreClearedUpTo p width t v E D n → AreCleared p width t v E D
cleared_end n l h = record { same_length = h.same_length; each = λ i b. h.done i (omega arith) }

pub cleared_step : {p width t : ℕ} {v : List ℕ} {E D : List (List ℕ)} {n : ℕ} (d : List ℕ) → n < length E
    → AreClearedUpTo p width t v E D n →
    IsCleared p width t v (row E n) d → AreClearedUpTo p width t v E (set D n d) (n + 1)
cleared_step {p} {width} {t} {v} {E} {D} {n} d l h c = record {
  same_length = length-set D n d ∙ h.same_length;
  done = λ i b. go i b (cases_eq i n);
  rest = λ i b. get_or-set_other D n i d [] (omega arith) ∙ h.rest i (omega arith);
}
  where
    go : (i : ℕ) → i < n + 1 → (i ≡ n) ⊎ (i ≡ n → ⊥) → IsCleared p width t v (row E i) (row (set D n d) i)
    go i b (inl e) = rw (e, get_or-set_same D n d [] (omega (arith, h.same_length))) c
    go i b (inr ne) = rw (get_or-set_other D n i d [] ne) (h.done i (omega arith))

pub cleared_zero : {p width t : ℕ} {v r : List ℕ} → IsRow p width r → entry r t ≡ 0
    → IsCleared p width t v r r
cleared_zero {p} {width} {t} {v} {r} h z =
    record {
      is_row = h;
      each = λ j. congruent_sym
          (to_congruent 0 (entry v j) (rw (z, sub-zero) (omega arith)));
    }

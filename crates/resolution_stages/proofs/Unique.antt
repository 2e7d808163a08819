-- The parts of the next stage are one.
use Rattle.std.proofs.Common.{◌≡◌, ℕ, suc, ◌+◌, ◌*◌, ◌<◌, List, [], length, arith, ap, sym, ◌∙◌}
use Rattle.std.proofs.lemmas.List.{ext_get_or}
use mathlib.Core.Path.{subst}
use Rattle.group_modules.specs.Module.{Module, sub}
use Rattle.group_modules.proofs.Laws.{map-sub, sub-self, sub-eq}
use Rattle.group_modules.specs.Tables.{Group, monoid, Table}
use Rattle.linear_algebra.specs.Modular.{IsCongruent, IsFieldModulo}
use Rattle.linear_algebra.specs.Rows.{entry, row, pivot, IsInSpan}
use Rattle.linear_algebra.proofs.Congruences.{congruent_trans, congruent_eq, congruent_sym}
use Rattle.linear_algebra.proofs.Pivots.{zero_at_pivots}
use Rattle.linear_algebra.proofs.EchelonLists.{HasPivots-from_echelon, Combines-from_combination}
use Rattle.linear_algebra.proofs.EchelonLists.{same_echelon}
use Rattle.linear_algebra.proofs.GreedyLemmas.{greedy_is_one}
use Rattle.radical_layers.specs.Coordinates.{Coordinates}
use Rattle.radical_layers.specs.Moves.{moves}
use Rattle.resolution_stages.specs.Checks.{StageParts, IsNextStage, del, chosen_row}
use Rattle.radical_layers.proofs.Bridge.{at, at-zero, at-sub, same-table}
use Rattle.radical_layers.proofs.Blocks.{f-linear}

abbrev parts : List ℕ → List (List ℕ) → List (List ℕ) → StageParts
parts xs k s = record { positions = xs; kernel = k; sections = s }

module _ {n : ℕ} (q : ℕ) (F : IsFieldModulo (suc q)) (Γ : Group n) (K : Coordinates q Γ) (b : ℕ)
    (E : List (List ℕ)) where
  abbrev Next : StageParts → Type 0
  Next Q = IsNextStage q Γ K b E Q

  kernel-one : (xs : List ℕ) (k k' s s' : List (List ℕ)) → Next (parts xs k s) → Next (parts xs k' s')
      → k ≡ k'
  kernel-one xs k k' s s' N N' = same_echelon F.above_one k k' N.kernel_is.matrix N'.kernel_is.matrix
      N.kernel_is.echelon N'.kernel_is.echelon
      (λ i l. N.kernel_is.spans (row k' i) (N'.kernel_is.members i l))
      (λ i l. N'.kernel_is.spans (row k i) (N.kernel_is.members i l))

  sections-one : (xs : List ℕ) (k s s' : List (List ℕ)) → Next (parts xs k s) → Next (parts xs k s') → s ≡ s'
  sections-one xs k s s' N N' = ext_get_or [] s s' (N.section_count ∙ sym N'.section_count) same
    where
      m : ℕ
      m = length xs

      P : Module (suc q) (monoid Γ)
      P = Table q Γ (length xs)

      same : (i : ℕ) → i < length s → row s i ≡ row s' i
      same i l = sym ((K (length xs)).row-table (row s i) (N.section_rows i l))
          ∙ ap (K (length xs)).row tables-same ∙ (K (length xs)).row-table (row s' i) (N'.section_rows i l')
        where
          l' : i < length s'
          l' = subst (λ c. i < c) (N.section_count ∙ sym N'.section_count) l

          lE : i < length E
          lE = subst (λ c. i < c) N.section_count l

          u : (Table q Γ (length xs)).of
          u = (K (length xs)).table (row s i)

          w : (Table q Γ (length xs)).of
          w = (K (length xs)).table (row s' i)

          d : (Table q Γ (length xs)).of
          d = sub (Table q Γ (length xs)) u w

          d-zero : del q Γ K b E (parts xs k s) d ≡ (Table q Γ b).zero
          d-zero = map-sub (Table q Γ (length xs)) (Table q Γ b) (λ v. del q Γ K b E (parts xs k s) v)
              (f-linear q Γ (length xs) (Table q Γ b) (chosen_row q Γ K b E (parts xs k s))).on-add u w
              ∙ ap (sub (Table q Γ b) (del q Γ K b E (parts xs k s) u)) (N'.sections_to_rows i lE
              ∙ sym (N.sections_to_rows i lE)) ∙ sub-self (Table q Γ b) (del q Γ K b E (parts xs k s) u)

          atP : (Table q Γ (length xs)).of → ℕ → ℕ
          atP v j = at q Γ (n * length xs) (Table q Γ (length xs)) (K (length xs)) v j

          c : IsInSpan (suc q) k (entry ((K (length xs)).row d))
          c = N.kernel_is.spans ((K (length xs)).row d) (
            (K (length xs)).row-is d,
            subst (λ v. del q Γ K b E (parts xs k s) v ≡ (Table q Γ b).zero)
                (sym ((K (length xs)).table-row d)) d-zero,
          )

          at-pivots : (j : ℕ) → j < length k
              → IsCongruent (suc q) (entry ((K (length xs)).row d) (pivot (row k j))) 0
          at-pivots j h = congruent_trans
              (at-sub q Γ (n * length xs) (Table q Γ (length xs)) (K (length xs)) u w (pivot (row k j)))
              (congruent_eq (ap (λ x. entry x (pivot (row k j)) + q * entry ((K (length xs)).row w)
              (pivot (row k j))) ((K (length xs)).row-table (row s i) (N.section_rows i l))
              ∙ ap (λ x. entry (row s i) (pivot (row k j)) + q * entry x (pivot (row k j)))
              ((K (length xs)).row-table (row s' i) (N'.section_rows i l'))
              ∙ ap (λ x. x + q * entry (row s' i) (pivot (row k j))) (N.zero_at_pivots i j lE h)
              ∙ ap (λ x. 0 + q * x) (N'.zero_at_pivots i j lE h)
              ∙ (let z : ◌≡◌ {A = ℕ} (0 + q * 0) 0 = omega arith in z)))

          tables-same : u ≡ w
          tables-same = sub-eq (Table q Γ (length xs)) u w
              (same-table q Γ (n * length xs) (Table q Γ (length xs)) (K (length xs)) d
              (Table q Γ (length xs)).zero
              (λ j. congruent_trans (zero_at_pivots (suc q) (length k) c.0 (λ i j. entry (row k i) j)
              (λ i. pivot (row k i)) (entry ((K (length xs)).row d))
              (HasPivots-from_echelon N.kernel_is.echelon) (Combines-from_combination c.1) at-pivots j)
              (congruent_sym (at-zero q Γ (n * length xs) (Table q Γ (length xs)) (K (length xs)) j))))

  -- two parts of the next stage are equal
  pub next-is-one : (Q Q' : StageParts) → Next Q → Next Q' → Q ≡ Q'
  next-is-one Q Q' N N' =
      ap (λ y. parts y Q.kernel Q.sections) e ∙ ap (λ y. parts Q'.positions y Q.sections) f
      ∙ ap (λ y. parts Q'.positions Q'.kernel y)
      (sections-one Q'.positions Q'.kernel Q.sections Q'.sections N2 N')
    where
      e : Q.positions ≡ Q'.positions
      e = greedy_is_one (suc q) E (moves Γ (Table q Γ b) (K b) E)
          (length E) Q.positions Q'.positions N.rows_are N'.rows_are

      N1 : Next (parts Q'.positions Q.kernel Q.sections)
      N1 = subst (λ y. Next (parts y Q.kernel Q.sections)) e N

      f : Q.kernel ≡ Q'.kernel
      f = kernel-one Q'.positions Q.kernel Q'.kernel Q.sections Q'.sections N1 N'

      N2 : Next (parts Q'.positions Q'.kernel Q.sections)
      N2 = subst (λ y. Next (parts Q'.positions y Q.sections)) f N1

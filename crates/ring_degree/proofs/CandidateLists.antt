-- The candidates of a list, one member after another.
use Rattle.std.proofs.Common.{◌≡◌, ℕ, ◌+◌, ◌<◌, ◌≤◌, List, [], ◌∷◌, ◌++◌, ◌⊎◌, inl, inr, length, take, get_or}
use Rattle.std.proofs.Common.{arith, sym, subst, ◌∙◌, refl}
use Rattle.std.specs.Prelude.{All}
use Rattle.std.proofs.lemmas.Bool.{cases_lt}
use Rattle.std.proofs.lemmas.List.{get_or-take, length-take, get_or_push, get_or_append_left, length_push}
use Rattle.std.proofs.lemmas.List.Elements.{All-from_get_or, All-get_or}
use Rattle.graded_polynomials.specs.Monomials.{IsGreater}
use Rattle.gc_poly.specs.Lists.{IsDescending}
use Rattle.ring_completion.specs.Candidates.{IsListed}
use Rattle.ring_degree.specs.Rests.{HasQuotientsIn, AreCandidatesIn}
use Rattle.ring_degree.specs.declared.table.Table.{Table}
use Rattle.ring_degree.proofs.Gaining.{listed-more, gains-push}

module _ (ds : List ℕ) (tables : List Table) (ms cs : List (List ℕ)) (k : ℕ) (l : k < length ms)
    (D : IsDescending ms) (C : AreCandidatesIn ds tables (take k ms) cs) where
  -- the candidates so far are greater than the next member
  pub greater-than-next : (m : List ℕ) → get_or ms k [] ≡ m → All (λ n. IsGreater n m) cs
  greater-than-next m e = All-from_get_or (λ (n : List ℕ). IsGreater n m) cs []
      (λ j b. at ((C.members (get_or cs j [])).0 (j, b, refl)).0)
    where
      at : {n : List ℕ} → IsListed (take k ms) n → IsGreater n m
      at {n} (j, b, z) = let c : j < k = omega (arith, b, length-take k ms) in
          subst (λ x. IsGreater n x) e
          (subst (λ x. IsGreater x (get_or ms k [])) (sym (get_or-take k ms j [] c) ∙ z) (D j k [] c l))

  -- one that is a candidate
  pub candidate-taken : (m : List ℕ) (new : List (List ℕ)) → get_or ms k [] ≡ m → HasQuotientsIn ds tables m
      → new ≡ cs ++ m ∷ [] → AreCandidatesIn ds tables (take (k + 1) ms) new
  candidate-taken m new e h z = rw z record {
    descending = push;
    members = λ v. ((λ x. to v ((gains-push cs (cs ++ m ∷ []) m refl v).0 x)), from v);
  }
    where
      push : IsDescending (cs ++ m ∷ [])
      push i j d o b = go (cases_lt j (length cs))
        where
          go : (j < length cs) ⊎ (length cs ≤ j) → IsGreater (get_or (cs ++ m ∷ []) i d)
              (get_or (cs ++ m ∷ []) j d)
          go (inl c) = rw (
            get_or_append_left cs (m ∷ []) d i (omega (arith, o, c)),
            get_or_append_left cs (m ∷ []) d j c,
          ) (C.descending i j d o c)
          go (inr c) = let q : j ≡ length cs = omega (arith, c, b, length_push cs m) in
              rw (get_or_append_left cs (m ∷ []) d i (omega (arith, o, q)), get_or_push cs m d j (sym q))
              (All-get_or (λ (n : List ℕ). IsGreater n m) cs i d (omega (arith, o, q))
              (greater-than-next m e))

      to : (v : List ℕ) → IsListed cs v ⊎ (v ≡ m) → IsListed (take (k + 1) ms) v × HasQuotientsIn ds tables v
      to v (inl x) = let y = (C.members v).0 x in ((listed-more ms k v l).1 (inl y.0), y.1)
      to v (inr x) = ((listed-more ms k v l).1 (inr (x ∙ sym e)), subst (HasQuotientsIn ds tables) (sym x) h)

      from : (v : List ℕ) → IsListed (take (k + 1) ms) v × HasQuotientsIn ds tables v
          → IsListed (cs ++ m ∷ []) v
      from v (x, y) = go ((listed-more ms k v l).0 x)
        where
          go : IsListed (take k ms) v ⊎ (v ≡ get_or ms k []) → IsListed (cs ++ m ∷ []) v
          go (inl a) = (gains-push cs (cs ++ m ∷ []) m refl v).1 (inl ((C.members v).1 (a, y)))
          go (inr a) = (gains-push cs (cs ++ m ∷ []) m refl v).1 (inr (a ∙ e))

  -- one that is none
  pub other-left : (m : List ℕ) → get_or ms k [] ≡ m → (HasQuotientsIn ds tables m → ⊥)
      → AreCandidatesIn ds tables (take (k + 1) ms) cs
  other-left m e h = record { descending = C.descending; members = λ v. (to v, from v) }
    where
      to : (v : List ℕ) → IsListed cs v → IsListed (take (k + 1) ms) v × HasQuotientsIn ds tables v
      to v x = let y = (C.members v).0 x in ((listed-more ms k v l).1 (inl y.0), y.1)

      from : (v : List ℕ) → IsListed (take (k + 1) ms) v × HasQuotientsIn ds tables v → IsListed cs v
      from v (x, y) = go ((listed-more ms k v l).0 x)
        where
          go : IsListed (take k ms) v ⊎ (v ≡ get_or ms k []) → IsListed cs v
          go (inl a) = (C.members v).1 (a, y)
          go (inr a) = absurd (h (subst (HasQuotientsIn ds tables) (a ∙ e) y))

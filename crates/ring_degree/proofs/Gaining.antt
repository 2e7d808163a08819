-- Lists that gain members.
use Rattle.std.proofs.Common.{◌≡◌, ℕ, ◌+◌, ◌<◌, ◌≤◌, ◌↔◌, true, false, List, [], ◌∷◌, ◌++◌, ◌⊎◌, inl, inr}
use Rattle.std.proofs.Common.{length, take, get_or, arith, sym, subst, ◌∙◌, refl}
use Rattle.std.proofs.lemmas.Bool.{cases_eq, cases_lt, false≢true}
use Rattle.std.proofs.lemmas.List.{get_or-take, length-take, get_or_push, get_or_append_left, length_push}
use Rattle.graded_polynomials.specs.Monomials.{fits, joined}
use Rattle.graded_polynomials.specs.Texts.{power}
use Rattle.ring_completion.specs.Candidates.{IsListed}
use Rattle.ring_degree.specs.Products.{Gains, IsProductWith}

-- one more member of the first ones
pub listed-more : (ss : List (List ℕ)) (k : ℕ) (x : List ℕ) → k < length ss
    → IsListed (take (k + 1) ss) x ↔ (IsListed (take k ss) x ⊎ (x ≡ get_or ss k []))
listed-more ss k x l = (to, from)
  where
    to : IsListed (take (k + 1) ss) x → IsListed (take k ss) x ⊎ (x ≡ get_or ss k [])
    to (i, b, e) = go (cases_eq i k)
      where
        within : i < k + 1
        within = omega (arith, b, length-take (k + 1) ss)

        go : (i ≡ k) ⊎ (i ≡ k → ⊥) → IsListed (take k ss) x ⊎ (x ≡ get_or ss k [])
        go (inl z) = inr (sym e ∙ get_or-take (k + 1) ss i [] within ∙ rw z refl)
        go (inr n) = inl (
          i,
          omega (arith, within, n, l, length-take k ss),
          get_or-take k ss i [] (omega (arith, within, n)) ∙ sym (get_or-take (k + 1) ss i [] within) ∙ e,
        )

    from : IsListed (take k ss) x ⊎ (x ≡ get_or ss k []) → IsListed (take (k + 1) ss) x
    from (inl (i, b, e)) = let c : i < k = omega (arith, b, length-take k ss) in (
      i,
      omega (arith, c, l, length-take (k + 1) ss),
      get_or-take (k + 1) ss i [] (omega (arith, c)) ∙ sym (get_or-take k ss i [] c) ∙ e,
    )
    from (inr e) = (
      k,
      omega (arith, l, length-take (k + 1) ss),
      get_or-take (k + 1) ss k [] (omega arith) ∙ sym e,
    )

-- a row that is pushed
pub gains-push : (rows new : List (List ℕ)) (r : List ℕ) → new ≡ rows ++ r ∷ [] → Gains (λ v. v ≡ r) rows new
gains-push rows new r e v = rw e (to, from)
  where
    to : IsListed (rows ++ r ∷ []) v → IsListed rows v ⊎ (v ≡ r)
    to (i, b, z) = go (cases_lt i (length rows))
      where
        go : (i < length rows) ⊎ (length rows ≤ i) → IsListed rows v ⊎ (v ≡ r)
        go (inl l) = inl (i, l, sym (get_or_append_left rows (r ∷ []) [] i l) ∙ z)
        go (inr l) = inr (sym z ∙ get_or_push rows r [] i (omega (arith, l, b, length_push rows r)))

    from : IsListed rows v ⊎ (v ≡ r) → IsListed (rows ++ r ∷ []) v
    from (inl (i, b, z)) = (
      i,
      omega (arith, b, length_push rows r),
      get_or_append_left rows (r ∷ []) [] i b ∙ z,
    )
    from (inr z) = (
      length rows,
      omega (arith, length_push rows r),
      get_or_push rows r [] (length rows) refl ∙ sym z,
    )

-- nothing is gained
pub gains-none : (P : List ℕ → Type 0) (rows : List (List ℕ)) → ((v : List ℕ) → P v → ⊥) → Gains P rows rows
gains-none P rows h v = ((λ l. inl l), from)
  where
    from : IsListed rows v ⊎ P v → IsListed rows v
    from (inl l) = l
    from (inr p) = absurd (h v p)

-- first these, and then those
pub gains-more : (P Q T : List ℕ → Type 0) (old mid new : List (List ℕ)) → Gains P old mid → Gains Q mid new
    → ((v : List ℕ) → T v ↔ (P v ⊎ Q v)) → Gains T old new
gains-more P Q T old mid new p q t v = ((λ l. to ((q v).0 l)), from)
  where
    first : IsListed old v ⊎ P v → IsListed old v ⊎ T v
    first (inl l) = inl l
    first (inr x) = inr ((t v).1 (inl x))

    to : IsListed mid v ⊎ Q v → IsListed old v ⊎ T v
    to (inl l) = first ((p v).0 l)
    to (inr x) = inr ((t v).1 (inr x))

    second : P v ⊎ Q v → IsListed new v
    second (inl x) = (q v).1 (inl ((p v).1 (inr x)))
    second (inr x) = (q v).1 (inr x)

    from : IsListed old v ⊎ T v → IsListed new v
    from (inl l) = (q v).1 (inl ((p v).1 (inl l)))
    from (inr x) = second ((t v).0 x)

-- the same members by another name
pub gains-same : (P T : List ℕ → Type 0) (old new : List (List ℕ)) → Gains P old new
    → ((v : List ℕ) → T v ↔ P v) → Gains T old new
gains-same P T old new p t v = ((λ l. to ((p v).0 l)), from)
  where
    to : IsListed old v ⊎ P v → IsListed old v ⊎ T v
    to (inl l) = inl l
    to (inr x) = inr ((t v).1 x)

    from : IsListed old v ⊎ T v → IsListed new v
    from (inl l) = (p v).1 (inl l)
    from (inr x) = (p v).1 (inr ((t v).0 x))

module _ (q : ℕ) (ds : List ℕ) (i : ℕ) (ss : List (List ℕ)) where
  pub no-products : (v : List ℕ) → IsProductWith q ds i (take 0 ss) v → ⊥
  no-products v x = let l = x.listed in let b = l.1 in absurd (omega (arith, b, length-take 0 ss))

  module _ (k : ℕ) (l : k < length ss) where
    pub product-more : (m : List ℕ) → m ≡ joined (power i 1) (get_or ss k [])
        → fits q ds (joined (power i 1) (get_or ss k [])) ≡ true → (v : List ℕ)
        → IsProductWith q ds i (take (k + 1) ss) v ↔ (IsProductWith q ds i (take k ss) v ⊎ (v ≡ m))
    product-more m e f v = (to, from)
      where
        to : IsProductWith q ds i (take (k + 1) ss) v → IsProductWith q ds i (take k ss) v ⊎ (v ≡ m)
        to x = go ((listed-more ss k x.factor l).0 x.listed)
          where
            go : IsListed (take k ss) x.factor ⊎ (x.factor ≡ get_or ss k [])
                → IsProductWith q ds i (take k ss) v ⊎ (v ≡ m)
            go (inl a) = inl record {
              factor = x.factor;
              listed = a;
              fitting = x.fitting;
              product = x.product;
            }
            go (inr a) = inr (let p = x.product in (rw a at p) ∙ sym e)

        from : IsProductWith q ds i (take k ss) v ⊎ (v ≡ m) → IsProductWith q ds i (take (k + 1) ss) v
        from (inl x) = record {
          factor = x.factor;
          listed = (listed-more ss k x.factor l).1 (inl x.listed);
          fitting = x.fitting;
          product = x.product;
        }
        from (inr z) = record {
          factor = get_or ss k [];
          listed = (listed-more ss k (get_or ss k []) l).1 (inr refl);
          fitting = f;
          product = z ∙ e;
        }

    pub product-same : fits q ds (joined (power i 1) (get_or ss k [])) ≡ false → (v : List ℕ)
        → IsProductWith q ds i (take (k + 1) ss) v ↔ IsProductWith q ds i (take k ss) v
    product-same f v = (to, from)
      where
        to : IsProductWith q ds i (take (k + 1) ss) v → IsProductWith q ds i (take k ss) v
        to x = go ((listed-more ss k x.factor l).0 x.listed)
          where
            go : IsListed (take k ss) x.factor ⊎ (x.factor ≡ get_or ss k [])
                → IsProductWith q ds i (take k ss) v
            go (inl a) = record { factor = x.factor; listed = a; fitting = x.fitting; product = x.product }
            go (inr a) = absurd (false≢true (sym f ∙ (let p = x.fitting in rw a at p)))

        from : IsProductWith q ds i (take k ss) v → IsProductWith q ds i (take (k + 1) ss) v
        from x = record {
          factor = x.factor;
          listed = (listed-more ss k x.factor l).1 (inl x.listed);
          fitting = x.fitting;
          product = x.product;
        }

-- with one more generator
pub one-more : (T : ℕ → List ℕ → Type 0) (P : List ℕ → Type 0) (i : ℕ) (old new : List (List ℕ))
    → ((m : List ℕ) → IsListed old m ↔ ((j : ℕ) × (j < i) × T j m)) → Gains P old new
    → ((m : List ℕ) → P m ↔ T i m) → (m : List ℕ) → IsListed new m ↔ ((j : ℕ) × (j < i + 1) × T j m)
one-more T P i old new h g t m = ((λ l. to ((g m).0 l)), from)
  where
    to : IsListed old m ⊎ P m → (j : ℕ) × (j < i + 1) × T j m
    to (inl l) = let x = (h m).0 l in (x.0, (let b = x.1 in omega (arith, b)), x.2)
    to (inr p) = (i, omega arith, (t m).0 p)

    from : (j : ℕ) × (j < i + 1) × T j m → IsListed new m
    from (j, b, x) = go (cases_eq j i)
      where
        go : (j ≡ i) ⊎ (j ≡ i → ⊥) → IsListed new m
        go (inl e) = (g m).1 (inr ((t m).1 (subst (λ a. T a m) e x)))
        go (inr n) = (g m).1 (inl ((h m).1 (j, omega (arith, b, n), x)))

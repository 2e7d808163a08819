-- The faces of a tuple by its list of numbers.
use Rattle.std.proofs.Common.{◌≡◌, ◌≢◌, ◌⊎◌, ℕ, zero, suc, ◌+◌, ◌-◌, ◌%◌, ◌<◌, Bool, true, false, not, List}
use Rattle.std.proofs.Common.{[], ◌∷◌, ◌++◌, length, take, drop, get_or, inl, inr, arith, ap, ap₂, sym, ◌∙◌}
use Rattle.std.proofs.Common.{refl}
use Rattle.std.proofs.Math.Nat.{mod-eq_of_lt}
use Rattle.std.proofs.lemmas.List.{append_assoc, length-drop, take_all}
use Rattle.std.proofs.lemmas.List.Elements.{All-append, All-drop, All-take}
use Rattle.std.specs.List.{All}
use mathlib.Core.Path.{subst}
use Rattle.group_table.specs.Tables.{product}
use Rattle.group_modules.specs.Tables.{monoid}
use Rattle.linear_algebra.proofs.Residues.{below-path}
use Rattle.bar_complex.specs.Boundary.{signed}
use Rattle.bar_complex.specs.Faces.{alternate, face}
use Rattle.p_groups.specs.PGroups.{PGroup, group, order_of}
use Rattle.chain_lift.specs.Embeddings.{element_of}
use Rattle.bar_eval.specs.Comparison.{tuple_of}

alternate-next : (s : Bool) (i : ℕ) → alternate s (suc i) ≡ not (alternate s i)
alternate-next s zero = refl
alternate-next s (suc i) = alternate-next (not s) i

-- signs alternate with the parity
sign-at : (i : ℕ) → ((i % 2 ≡ 0) × (alternate false i ≡ false)) ⊎ ((i % 2 ≡ 1) × (alternate false i ≡ true))
sign-at zero = inl (refl, refl)
sign-at (suc i) = next (sign-at i)
  where
    next : ((i % 2 ≡ 0) × (alternate false i ≡ false)) ⊎ ((i % 2 ≡ 1) × (alternate false i ≡ true))
        → ((suc i % 2 ≡ 0) × (alternate false (suc i) ≡ false))
        ⊎ ((suc i % 2 ≡ 1) × (alternate false (suc i) ≡ true))
    next (inl e) = inr (
      (let h : i % 2 ≡ 0 = e.0 in let z : suc i % 2 ≡ 1 = omega (arith, h) in z),
      alternate-next false i ∙ ap not e.1,
    )
    next (inr e) = inl (
      (let h : i % 2 ≡ 1 = e.0 in let z : suc i % 2 ≡ 0 = omega (arith, h) in z),
      alternate-next false i ∙ ap not e.1,
    )

pub even-sign : (q i : ℕ) → i % 2 ≡ 0 → q ≡ signed q (alternate false i)
even-sign q i e = go (sign-at i)
  where
    go : ((i % 2 ≡ 0) × (alternate false i ≡ false)) ⊎ ((i % 2 ≡ 1) × (alternate false i ≡ true))
        → q ≡ signed q (alternate false i)
    go (inl h) = ap (signed q) (sym h.1)
    go (inr h) = absurd (let k : i % 2 ≡ 1 = h.0 in omega (arith, e, k))

pub odd-sign : (q i : ℕ) → i % 2 ≢ 0 → 1 ≡ signed q (alternate false i)
odd-sign q i n = go (sign-at i)
  where
    go : ((i % 2 ≡ 0) × (alternate false i ≡ false)) ⊎ ((i % 2 ≡ 1) × (alternate false i ≡ true))
        → 1 ≡ signed q (alternate false i)
    go (inl h) = absurd (n h.0)
    go (inr h) = ap (signed q) (sym h.1)

-- entries i and i + 1 multiplied; at the last entry, that entry left out
abbrev pub joined : (ℕ → ℕ → ℕ) → ℕ → List ℕ → List ℕ
joined mul i [] = []
joined mul zero (x ∷ []) = []
joined mul zero (x ∷ y ∷ xs) = mul x y ∷ xs
joined mul (suc i) (x ∷ xs) = x ∷ joined mul i xs

pub joined-last : (mul : ℕ → ℕ → ℕ) (i : ℕ) (xs : List ℕ) → length xs ≡ suc i → joined mul i xs ≡ take i xs
joined-last mul zero [] e = refl
joined-last mul (suc i) [] e = refl
joined-last mul zero (x ∷ []) e = refl
joined-last mul zero (x ∷ y ∷ xs) e = absurd (omega (arith, e))
joined-last mul (suc i) (x ∷ xs) e = ap (λ ys. x ∷ ys) (joined-last mul i xs (omega (arith, e)))

pub joined-inside : (mul : ℕ → ℕ → ℕ) (i : ℕ) (xs : List ℕ) → suc i < length xs
    → joined mul i xs ≡ take i xs ++ (mul (get_or xs i 0) (get_or xs (suc i) 0) ∷ drop (suc (suc i)) xs)
joined-inside mul i [] l = absurd (omega (arith, l))
joined-inside mul zero (x ∷ []) l = absurd (omega (arith, l))
joined-inside mul zero (x ∷ y ∷ xs) l = refl
joined-inside mul (suc i) (x ∷ xs) l = ap (λ ys. x ∷ ys) (joined-inside mul i xs (omega (arith, l)))

-- the list in three pieces
pub in-pieces : (mul : ℕ → ℕ → ℕ) (i : ℕ) (xs front more whole : List ℕ) (y : ℕ) → i + 1 < length xs
    → front ≡ take i xs → y ≡ mul (get_or xs i 0) (get_or xs (i + 1) 0) → more ≡ front ++ y ∷ []
    → whole ≡ more ++ take (length xs - (i + 2)) (drop (i + 2) xs) → whole ≡ joined mul i xs
in-pieces mul i xs front more whole y l f e m w =
    let one : i + 1 ≡ suc i = omega arith in
    let two : i + 2 ≡ suc (suc i) = omega arith in
    let rest : List ℕ = drop (suc (suc i)) xs in
    let last : take (length xs - (i + 2)) (drop (i + 2) xs) ≡ rest =
    take_all (length xs - (i + 2)) (drop (i + 2) xs) (let n : length (drop (i + 2) xs) ≡ length xs - (i + 2) =
    length-drop (i + 2) xs in omega (arith, n)) ∙ ap (λ k. drop k xs) two in
    w ∙ ap₂ (λ (u v : List ℕ). u ++ v) (m ∙ ap₂ (λ (u : List ℕ) (v : ℕ). u ++ v ∷ []) f
    (e ∙ ap (λ k. mul (get_or xs i 0) (get_or xs k 0)) one)) last
    ∙ append_assoc (take i xs) (mul (get_or xs i 0) (get_or xs (suc i) 0) ∷ []) rest
    ∙ sym (joined-inside mul i xs (omega (arith, l)))

alone : (P : ℕ → Type 0) (y : ℕ) → P y → All P (y ∷ [])
alone P y h zero d l = h
alone P y h (suc k) d l = absurd (omega (arith, l))

pub all-pieces : (P : ℕ → Type 0) (xs front more whole : List ℕ) (y i n m : ℕ) → All P xs → P y
    → front ≡ take i xs → more ≡ front ++ y ∷ [] → whole ≡ more ++ take m (drop n xs) → All P whole
all-pieces P xs front more whole y i n m h k f e w =
    subst (All P) (sym (w ∙ ap (λ (u : List ℕ). u ++ take m (drop n xs)) (e
    ∙ ap (λ (u : List ℕ). u ++ y ∷ []) f)))
    (All-append P (take i xs ++ y ∷ []) (take m (drop n xs))
    (All-append P (take i xs) (y ∷ []) (All-take P i xs h) (alone P y k))
    (All-take P m (drop n xs) (All-drop P n xs h)))

module _ (G : PGroup) where
  -- all are numbers of elements
  abbrev pub AreBelow : List ℕ → Type 0
  AreBelow xs = All (λ x. x < order_of G) xs

  product-of : (x y : ℕ) → x < order_of G → y < order_of G
      → element_of G (product G.table x y) ≡ (group G).mul (element_of G x) (element_of G y)
  product-of x y k l = below-path _ _ (mod-eq_of_lt (G.law.law.closed x y k l)
      ∙ ap₂ (product G.table) (sym (mod-eq_of_lt k)) (sym (mod-eq_of_lt l)))

  tail-below : (x : ℕ) (xs : List ℕ) → AreBelow (x ∷ xs) → AreBelow xs
  tail-below x xs h k d l = h (suc k) d (omega (arith, l))

  pub face-is : (d i : ℕ) (xs : List ℕ) → AreBelow xs → length xs ≡ suc d
      → tuple_of G d (joined (product G.table) i xs) ≡ face (monoid (group G)) d i (tuple_of G (suc d) xs)
  face-is zero i xs h e = refl
  face-is (suc d) i [] h e = absurd (omega (arith, e))
  face-is (suc d) zero (x ∷ []) h e = absurd (omega (arith, e))
  face-is (suc d) zero (x ∷ y ∷ xs) h e = ap (λ g. (g, tuple_of G d xs))
      (product-of x y (h 0 0 (omega arith)) (h 1 0 (omega arith)))
  face-is (suc d) (suc i) (x ∷ xs) h e = ap (λ s. (element_of G x, s))
      (face-is d i xs (tail-below x xs h) (omega (arith, e)))

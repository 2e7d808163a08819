-- The places by layer, block and position are one for each block and member.
use Rattle.std.proofs.Common.{◌≡◌, ℕ, zero, suc, ◌+◌, ◌-◌, ◌*◌, ◌/◌, ◌%◌, ◌<◌, ◌≤◌, ◌⊎◌, List, [], ◌∷◌, inl}
use Rattle.std.proofs.Common.{inr, cond, ltb, arith, ap, ap₂, sym, ◌∙◌, refl}
use Rattle.std.proofs.lemmas.Bool.{cases_lt, lt-ltb, le-ltb}
use Rattle.std.proofs.lemmas.Nat.{div-mul-add, mod-mul-add, div_below, div-add-mod', mul-le, mod_below}
use Rattle.std.proofs.Math.Nat.{le_refl}
use mathlib.Core.Path.{subst}
use Rattle.group_modules.specs.Field.{Below}
use Rattle.linear_algebra.proofs.Residues.{below-path}
use Rattle.radical_layers.specs.Placing.{Placing, size_of, place_of, block_at, member_at}

-- a test that holds, and one that does not
yes : (a b x y : ℕ) → a < b → cond (ltb a b) x y ≡ x
yes a b x y l = ap (λ t. cond t x y) (lt-ltb a b l)

otherwise : (a b x y : ℕ) → b ≤ a → cond (ltb a b) x y ≡ y
otherwise a b x y l = ap (λ t. cond t x y) (le-ltb a b l)

below-product : (i b s k : ℕ) → i < b → k < s → i * s + k < b * s
below-product i b s k l m = chain (mul-le (suc i) s b s l (le_refl s))
  where
    chain : suc i * s ≤ b * s → i * s + k < b * s
    chain h = let e : suc i * s ≡ i * s + s = omega arith in omega (arith, e, h, m)

positive : (x b s : ℕ) → x < b * s → 0 < s
positive x b zero l = absurd (let e : b * 0 ≡ 0 = omega arith in omega (arith, e, l))
positive x b (suc s) l = omega arith

rest-below : (x b s t : ℕ) → x < (s + t) * b → b * s ≤ x → x - b * s < t * b
rest-below x b s t l m = let e : (s + t) * b ≡ b * s + t * b = omega arith in omega (arith, e, l, m)

module _ (b : ℕ) where
  place-below : (sizes : List ℕ) (i k : ℕ) → i < b → k < size_of sizes
      → place_of sizes b i k < size_of sizes * b
  place-below [] i k l m = absurd (omega (arith, m))
  place-below (s ∷ sizes) i k l m = at (cases_lt k s) (λ d. place-below sizes i (k - s) l d)
    where
      at : (k < s) ⊎ (s ≤ k) → (k - s < size_of sizes → place_of sizes b i (k - s) < size_of sizes * b)
          → place_of (s ∷ sizes) b i k < size_of (s ∷ sizes) * b
      at (inl d) ih = rw (yes k s (i * s + k) (b * s + place_of sizes b i (k - s)) d)
          (let e : (s + size_of sizes) * b ≡ b * s + size_of sizes * b = omega arith in
          let h : i * s + k < b * s = below-product i b s k l d in omega (arith, e, h))
      at (inr d) ih = rw (otherwise k s (i * s + k) (b * s + place_of sizes b i (k - s)) d)
          (let e : (s + size_of sizes) * b ≡ b * s + size_of sizes * b = omega arith in
          let h : place_of sizes b i (k - s) < size_of sizes * b = ih (omega (arith, m, d)) in
          omega (arith, e, h))

  block-below : (sizes : List ℕ) (x : ℕ) → x < size_of sizes * b → block_at sizes b x < b
  block-below [] x l = absurd (let e : 0 * b ≡ 0 = omega arith in omega (arith, e, l))
  block-below (s ∷ sizes) x l = at (cases_lt x (b * s)) (λ d. block-below sizes (x - b * s) d)
    where
      at : (x < b * s) ⊎ (b * s ≤ x) → (x - b * s < size_of sizes * b → block_at sizes b (x - b * s) < b)
          → block_at (s ∷ sizes) b x < b
      at (inl d) ih = rw (yes x (b * s) (x / s) (block_at sizes b (x - b * s)) d)
          (div_below x s b (positive x b s d) d)
      at (inr d) ih = rw (otherwise x (b * s) (x / s) (block_at sizes b (x - b * s)) d)
          (ih (rest-below x b s (size_of sizes) l d))

  member-below : (sizes : List ℕ) (x : ℕ) → x < size_of sizes * b → member_at sizes b x < size_of sizes
  member-below [] x l = absurd (let e : 0 * b ≡ 0 = omega arith in omega (arith, e, l))
  member-below (s ∷ sizes) x l = at (cases_lt x (b * s)) (λ d. member-below sizes (x - b * s) d)
    where
      at : (x < b * s) ⊎ (b * s ≤ x) → (x - b * s < size_of sizes * b
          → member_at sizes b (x - b * s) < size_of sizes) → member_at (s ∷ sizes) b x < size_of (s ∷ sizes)
      at (inl d) ih = rw (yes x (b * s) (x % s) (s + member_at sizes b (x - b * s)) d)
          (let h : x % s < s = mod_below x s (positive x b s d) in omega (arith, h))
      at (inr d) ih = rw (otherwise x (b * s) (x % s) (s + member_at sizes b (x - b * s)) d)
          (let h : member_at sizes b (x - b * s) < size_of sizes = ih
          (rest-below x b s (size_of sizes) l d) in omega (arith, h))

  after-all : (s : ℕ) (y : ℕ) → b * s + y - b * s ≡ y
  after-all s y = omega arith

  block-place : (sizes : List ℕ) (i k : ℕ) → i < b → k < size_of sizes
      → block_at sizes b (place_of sizes b i k) ≡ i
  block-place [] i k l m = absurd (omega (arith, m))
  block-place (s ∷ sizes) i k l m = at (cases_lt k s) (λ d. block-place sizes i (k - s) l d)
    where
      at : (k < s) ⊎ (s ≤ k) → (k - s < size_of sizes → block_at sizes b (place_of sizes b i (k - s)) ≡ i)
          → block_at (s ∷ sizes) b (place_of (s ∷ sizes) b i k) ≡ i
      at (inl d) ih = ap (block_at (s ∷ sizes) b) (yes k s (i * s + k) (b * s + place_of sizes b i (k - s)) d)
          ∙ yes (i * s + k) (b * s) ((i * s + k) / s) (block_at sizes b (i * s + k - b * s))
          (below-product i b s k l d) ∙ div-mul-add i s k d
      at (inr d) ih = let y : ℕ = place_of sizes b i (k - s) in
          ap (block_at (s ∷ sizes) b) (otherwise k s (i * s + k) (b * s + y) d)
          ∙ otherwise (b * s + y) (b * s) ((b * s + y) / s) (block_at sizes b (b * s + y - b * s))
          (let h : b * s ≤ b * s + y = omega arith in h)
          ∙ ap (block_at sizes b) (after-all s y) ∙ ih (omega (arith, m, d))

  member-place : (sizes : List ℕ) (i k : ℕ) → i < b → k < size_of sizes
      → member_at sizes b (place_of sizes b i k) ≡ k
  member-place [] i k l m = absurd (omega (arith, m))
  member-place (s ∷ sizes) i k l m = at (cases_lt k s) (λ d. member-place sizes i (k - s) l d)
    where
      at : (k < s) ⊎ (s ≤ k) → (k - s < size_of sizes
          → member_at sizes b (place_of sizes b i (k - s)) ≡ k - s)
          → member_at (s ∷ sizes) b (place_of (s ∷ sizes) b i k) ≡ k
      at (inl d) ih = ap (member_at (s ∷ sizes) b)
          (yes k s (i * s + k) (b * s + place_of sizes b i (k - s)) d)
          ∙ yes (i * s + k) (b * s) ((i * s + k) % s) (s + member_at sizes b (i * s + k - b * s))
          (below-product i b s k l d) ∙ mod-mul-add i s k d
      at (inr d) ih = let y : ℕ = place_of sizes b i (k - s) in
          ap (member_at (s ∷ sizes) b) (otherwise k s (i * s + k) (b * s + y) d)
          ∙ otherwise (b * s + y) (b * s) ((b * s + y) % s) (s + member_at sizes b (b * s + y - b * s))
          (let h : b * s ≤ b * s + y = omega arith in h)
          ∙ ap (λ z. s + member_at sizes b z) (after-all s y) ∙ ap (λ z. s + z) (ih (omega (arith, m, d)))
          ∙ (let e : s + (k - s) ≡ k = omega (arith, d) in e)

  place-at : (sizes : List ℕ) (x : ℕ) → x < size_of sizes * b
      → place_of sizes b (block_at sizes b x) (member_at sizes b x) ≡ x
  place-at [] x l = absurd (let e : 0 * b ≡ 0 = omega arith in omega (arith, e, l))
  place-at (s ∷ sizes) x l = at (cases_lt x (b * s)) (λ d. place-at sizes (x - b * s) d)
    where
      at : (x < b * s) ⊎ (b * s ≤ x) → (x - b * s < size_of sizes * b
          → place_of sizes b (block_at sizes b (x - b * s)) (member_at sizes b (x - b * s)) ≡ x - b * s)
          → place_of (s ∷ sizes) b (block_at (s ∷ sizes) b x) (member_at (s ∷ sizes) b x) ≡ x
      at (inl d) ih = ap₂ (place_of (s ∷ sizes) b) (yes x (b * s) (x / s) (block_at sizes b (x - b * s)) d)
          (yes x (b * s) (x % s) (s + member_at sizes b (x - b * s)) d)
          ∙ yes (x % s) s (x / s * s + x % s) (b * s + place_of sizes b (x / s) (x % s - s))
          (mod_below x s (positive x b s d)) ∙ div-add-mod' x s
      at (inr d) ih = let i : ℕ = block_at sizes b (x - b * s) in let k : ℕ = member_at sizes b (x - b * s) in
          ap₂ (place_of (s ∷ sizes) b) (otherwise x (b * s) (x / s) i d)
          (otherwise x (b * s) (x % s) (s + k) d)
          ∙ otherwise (s + k) s (i * s + (s + k)) (b * s + place_of sizes b i (s + k - s))
          (let h : s ≤ s + k = omega arith in h)
          ∙ ap (λ z. b * s + place_of sizes b i z) (let e : s + k - s ≡ k = omega arith in e)
          ∙ ap (λ z. b * s + z) (ih (rest-below x b s (size_of sizes) l d))
          ∙ (let e : b * s + (x - b * s) ≡ x = omega (arith, d) in e)

  -- the places by layers of these sizes
  pub placing : (sizes : List ℕ) (n : ℕ) → size_of sizes ≡ n → Placing b n (n * b)
  placing sizes n e = record {
    place = λ i k. (
      place_of sizes b i.0 k.0,
      subst (λ m. place_of sizes b i.0 k.0 < m * b) e (place-below sizes i.0 k.0 i.1 (member k)),
    );
    block = λ x. (block_at sizes b x.0, block-below sizes x.0 (inside x));
    member = λ x. (
      member_at sizes b x.0,
      subst (λ m. member_at sizes b x.0 < m) e (member-below sizes x.0 (inside x)),
    );
    block-place = λ i k. below-path _ i (block-place sizes i.0 k.0 i.1 (member k));
    member-place = λ i k. below-path _ k (member-place sizes i.0 k.0 i.1 (member k));
    place-at = λ x. below-path _ x (place-at sizes x.0 (inside x));
  }
    where
      inside : (x : Below (n * b)) → x.0 < size_of sizes * b
      inside x = subst (λ m. x.0 < m * b) (sym e) x.1

      member : (k : Below n) → k.0 < size_of sizes
      member k = subst (λ m. k.0 < m) (sym e) k.1

  pub placing-place : (sizes : List ℕ) (n : ℕ) (e : size_of sizes ≡ n) (i : Below b) (k : Below n)
      → ((placing sizes n e).place i k).0 ≡ place_of sizes b i.0 k.0
  unfolding placing
  placing-place sizes n e i k = refl

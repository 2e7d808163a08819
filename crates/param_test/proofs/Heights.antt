-- The walk goes up: a list of k numbers below R as a number with k digits.
use Rattle.std.proofs.Common.{◌≡◌, ℕ, zero, suc, ◌+◌, ◌-◌, ◌*◌, ◌<◌, ◌≤◌, List, [], ◌∷◌, ◌++◌, length, sym}
use Rattle.std.proofs.Common.{subst, arith, append_assoc}
use Rattle.std.proofs.Math.Nat.{mul-le-mul_right}
use Rattle.param_test.specs.Tuples.{Ascends}

abbrev pub cells : ℕ → ℕ → ℕ
cells R zero = 1
cells R (suc k) = R * cells R k

abbrev pub height : ℕ → ℕ → List ℕ → ℕ
height R zero q = 0
height R (suc k) [] = 0
height R (suc k) (x ∷ q) = x * cells R k + height R k q

pub cells-positive : (R k : ℕ) → 0 < cells (suc R) k
cells-positive R zero = omega arith
cells-positive R (suc k) = let c : 0 < cells (suc R) k = cells-positive R k in omega arith

pub height-below : (R k low : ℕ) (q : List ℕ) → Ascends low (suc R) q → height (suc R) k q < cells (suc R) k
height-below R zero low q a = omega arith
height-below R (suc k) low [] a = cells-positive R (suc k)
height-below R (suc k) low (x ∷ q) a =
    let h : height (suc R) k q < cells (suc R) k = height-below R k (suc x) q a.2 in
    let l : suc x ≤ suc R = omega (arith, a.1) in
    let m : suc x * cells (suc R) k ≤ suc R * cells (suc R) k = mul-le-mul_right (cells (suc R) k) l in
    omega arith

pub height-more : (R k : ℕ) (pre v w : List ℕ) → height R k v < height R k w
    → height R (length pre + k) (pre ++ v) < height R (length pre + k) (pre ++ w)
height-more R k [] v w h = subst (λ z. height R z v < height R z w) e h
  where
    e : k ≡ length {A = ℕ} [] + k
    e = omega arith
height-more R k (x ∷ pre) v w h =
    let i : height R (length pre + k) (pre ++ v) < height R (length pre + k) (pre ++ w) =
    height-more R k pre v w h in
    let e : suc (length pre + k) ≡ length (x ∷ pre) + k = omega arith in
    subst (λ z. height R z (x ∷ (pre ++ v)) < height R z (x ∷ (pre ++ w))) e (omega arith)

pub height-at : (R r k : ℕ) (pre v w : List ℕ) → r ≡ length pre + k → height R k v < height R k w
    → height R r (pre ++ v) < height R r (pre ++ w)
height-at R r k pre v w e h = subst (λ z. height R z (pre ++ v) < height R z (pre ++ w)) (sym e)
    (height-more R k pre v w h)

module _ (R r : ℕ) where
  -- what remains to be gone through
  abbrev pub remains : List ℕ → ℕ
  remains q = cells (suc R) r - height (suc R) r q

  pub remains-less : (low : ℕ) (q u : List ℕ) → Ascends low (suc R) q
      → height (suc R) r q < height (suc R) r u → remains u < remains q
  remains-less low q u a h = let b : height (suc R) r q < cells (suc R) r = height-below R r low q a in
      omega arith

  pub push-less : (pre : List ℕ) (next : ℕ) → length pre + 1 < r → Ascends 0 (suc R) (pre ++ next ∷ [])
      → remains ((pre ++ next ∷ []) ++ (next + 1) ∷ []) < remains (pre ++ next ∷ [])
  push-less pre next n a =
      let k : ℕ = r - length pre - 2 in
      let e : r ≡ length pre + suc (suc k) = omega arith in
      let c : 0 < cells (suc R) k = cells-positive R k in
      rw (append_assoc pre (next ∷ []) ((next + 1) ∷ []))
      (remains-less 0 (pre ++ next ∷ []) (pre ++ next ∷ (next + 1) ∷ []) a
      (height-at (suc R) r (suc (suc k)) pre (next ∷ []) (next ∷ (next + 1) ∷ []) e (inner k c)))
    where
      inner : (k : ℕ) → 0 < cells (suc R) k
          → height (suc R) (suc (suc k)) (next ∷ []) < height (suc R) (suc (suc k)) (next ∷ (next + 1) ∷ [])
      inner zero c = omega arith
      inner (suc k) c = omega arith

  pub visit-less : (pre : List ℕ) (next : ℕ) → length pre + 1 ≡ r → Ascends 0 (suc R) (pre ++ next ∷ [])
      → remains (pre ++ (next + 1) ∷ []) < remains (pre ++ next ∷ [])
  visit-less pre next n a =
      remains-less 0 (pre ++ next ∷ []) (pre ++ (next + 1) ∷ []) a
      (height-at (suc R) r 1 pre (next ∷ []) ((next + 1) ∷ []) (omega arith) (omega arith))

  pub pop-less : (pre : List ℕ) (x next : ℕ) → length pre + 1 < r → next ≤ R
      → Ascends 0 (suc R) ((pre ++ x ∷ []) ++ next ∷ [])
      → remains (pre ++ (x + 1) ∷ []) < remains ((pre ++ x ∷ []) ++ next ∷ [])
  pop-less pre x next n l a =
      let k : ℕ = r - length pre - 2 in
      let e : r ≡ length pre + suc (suc k) = omega arith in
      let c : 0 < cells (suc R) k = cells-positive R k in
      remains-less 0 ((pre ++ x ∷ []) ++ next ∷ []) (pre ++ (x + 1) ∷ []) a
      (rw (append_assoc pre (x ∷ []) (next ∷ []))
      (height-at (suc R) r (suc (suc k)) pre (x ∷ next ∷ []) ((x + 1) ∷ []) e (inner k c)))
    where
      inner : (k : ℕ) → 0 < cells (suc R) k
          → height (suc R) (suc (suc k)) (x ∷ next ∷ []) < height (suc R) (suc (suc k)) ((x + 1) ∷ [])
      inner zero c = let m : next * 1 ≤ R * 1 = omega arith in omega arith
      inner (suc k) c = let m : next * cells (suc R) (suc k) ≤ R * cells (suc R) (suc k) =
          mul-le-mul_right (cells (suc R) (suc k)) l in omega arith

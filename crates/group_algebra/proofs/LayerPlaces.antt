-- The places of a layer of one block are one part of a row.
use Rattle.std.proofs.Common.{◌≡◌, ℕ, zero, suc, ◌+◌, ◌-◌, ◌*◌, ◌%◌, ◌<◌, ◌≤◌, ◌⊎◌, List, [], ◌∷◌}
use Rattle.std.proofs.Common.{length, take, drop, get_or, slice_range, inl, inr, arith, ap, sym}
use Rattle.std.proofs.Common.{◌∙◌, refl}
use Rattle.std.proofs.lemmas.Bool.{cases_lt}
use Rattle.std.proofs.lemmas.List.{get_or-take, get_or-drop, length-take, length-drop}
use Rattle.std.proofs.Math.Nat.{mul-le-mul_right, mod-eq_of_lt}
use mathlib.Core.Path.{subst}
use Rattle.linear_algebra.specs.Modular.{IsCongruent, sum_below}
use Rattle.linear_algebra.specs.Rows.{entry, IsRow}
use Rattle.linear_algebra.proofs.Congruences.{congruent_trans, congruent_eq, congruent_mod, congruent_add}
use Rattle.linear_algebra.proofs.Sums.{sum_below-same}
use Rattle.radical_layers.specs.Placing.{place_of, size_of}
use Rattle.fp_rows.specs.Parts.{GainsPart, IsZero}
use Rattle.fp_rows.proofs.PartLemmas.{part_is_row}
use Rattle.group_algebra.specs.Gains.{BlockGains, IsZeroBlock}
use Rattle.group_algebra.specs.Places.{start_at}
use Rattle.group_algebra.proofs.PlaceLemmas.{yes, otherwise, place-differs-of}

pub start-next : (ss : List ℕ) (i : ℕ) → i < length ss → start_at ss (i + 1) ≡ start_at ss i + get_or ss i 0
start-next [] i l = absurd (omega arith)
start-next (s ∷ ss) zero l = let z : s + 0 ≡ 0 + s = omega arith in z
start-next (s ∷ ss) (suc i) l =
    ap (λ k. size_of (take k (s ∷ ss))) (let z : suc i + 1 ≡ suc (i + 1) = omega arith in z)
    ∙ ap (λ x. s + x) (start-next ss i (omega arith))
    ∙ (let z : s + (start_at ss i + get_or ss i 0) ≡ s + start_at ss i + get_or ss i 0 = omega arith in z)

pub start_within : (ss : List ℕ) (i : ℕ) → i < length ss → start_at ss i + get_or ss i 0 ≤ size_of ss
start_within [] i l = absurd (omega arith)
start_within (s ∷ ss) zero l = let z : 0 + s ≤ s + size_of ss = omega arith in z
start_within (s ∷ ss) (suc i) l = let h : start_at ss i + get_or ss i 0 ≤ size_of ss = start_within ss i
    (omega arith) in
    let z : s + start_at ss i + get_or ss i 0 ≤ s + size_of ss = omega arith in z

pub start-end : (ss : List ℕ) (i : ℕ) → length ss ≤ i → start_at ss i ≡ size_of ss
start-end [] zero l = refl
start-end [] (suc i) l = refl
start-end (s ∷ ss) zero l = absurd (omega arith)
start-end (s ∷ ss) (suc i) l = ap (λ x. s + x) (start-end ss i (omega arith))

-- the places of the members of layer i in a block, one after the other
pub place-in-layer : (ss : List ℕ) (b m i j : ℕ) → i < length ss → j < get_or ss i 0
    → place_of ss b m (start_at ss i + j) ≡ b * start_at ss i + m * get_or ss i 0 + j
place-in-layer [] b m i j l k = absurd (omega arith)
place-in-layer (s ∷ ss) b m zero j l k =
    yes (0 + j) s (m * s + (0 + j)) (b * s + place_of ss b m (0 + j - s)) (omega arith) ∙ omega arith
place-in-layer (s ∷ ss) b m (suc i) j l k =
    otherwise (s + start_at ss i + j) s (m * s + (s + start_at ss i + j))
    (b * s + place_of ss b m (s + start_at ss i + j - s)) (omega arith)
    ∙ ap (λ x. b * s + place_of ss b m x)
    (let z : s + start_at ss i + j - s ≡ start_at ss i + j = omega arith in z)
    ∙ ap (λ x. b * s + x) (place-in-layer ss b m i j (omega arith) k)
    ∙ (let d : b * (s + start_at ss i) ≡ b * s + b * start_at ss i = omega arith in omega (arith, d))

pub part-within : (N b m S s : ℕ) → m < b → S + s ≤ N → b * S + m * s + s ≤ N * b
part-within N b m S s l w =
    let x : (S + s) * b ≤ N * b = mul-le-mul_right b w in
    let y : (m + 1) * s ≤ b * s = mul-le-mul_right s (let z : m + 1 ≤ b = omega (arith, l) in z) in
    let d : (S + s) * b ≡ b * S + b * s = omega arith in
    let e : (m + 1) * s ≡ m * s + s = omega arith in
    omega (arith, x, y, d, e)

-- a part of a row
pub entry-part : (xs : List ℕ) (start s j : ℕ) → j < s
    → entry (slice_range xs start (start + s)) j ≡ entry xs (start + j)
entry-part xs start s j l = get_or-take (start + s - start) (drop start xs) j 0 (omega (arith, l))
    ∙ get_or-drop start xs j 0

pub length-part : (xs : List ℕ) (start s : ℕ) → start + s ≤ length xs
    → length (slice_range xs start (start + s)) ≡ s
length-part xs start s l = omega (
  arith,
  length-take (start + s - start) (drop start xs),
  length-drop start xs,
  l,
)

-- a sum in two parts
pub sum-split : (m n : ℕ) (f : ℕ → ℕ) → sum_below (m + n) f ≡ sum_below m f + sum_below n (λ i. f (m + i))
sum-split m zero f = ap (λ k. sum_below k f) (let z : m + 0 ≡ m = omega arith in z)
    ∙ (let z : sum_below m f ≡ sum_below m f + 0 = omega arith in z)
sum-split m (suc n) f = ap (λ k. sum_below k f) (let z : m + suc n ≡ suc (m + n) = omega arith in z)
    ∙ ap (λ x. x + f (m + n)) (sum-split m n f)
    ∙ (let z : sum_below m f + sum_below n (λ i. f (m + i)) + f (m + n)
    ≡ sum_below m f + (sum_below n (λ i. f (m + i)) + f (m + n)) = omega arith in z)

-- one more layer of a block
module _ {p : ℕ} (ss : List ℕ) (b m i c : ℕ) (part mid new : List ℕ) (inside : m < b) (layer : i < length ss)
    (count : length part ≡ get_or ss i 0)
    (G : GainsPart p (b * start_at ss i + m * get_or ss i 0) c part mid new) where
  abbrev S : ℕ
  S = start_at ss i

  abbrev s : ℕ
  s = get_or ss i 0

  pub layer-here : (j : ℕ) → j < s
      → IsCongruent p (entry new (place_of ss b m (S + j)))
      (entry mid (place_of ss b m (S + j)) + c * entry part j)
  layer-here j l = rw (place-in-layer ss b m i j layer l)
      (congruent_trans (congruent_eq (G.inside j (omega (arith, l, count)))) (congruent_mod _))

  pub layer-elsewhere : (n k : ℕ) → n < b → k < size_of ss → (n ≡ m → S ≤ k → k < S + s → ⊥)
      → entry new (place_of ss b n k) ≡ entry mid (place_of ss b n k)
  layer-elsewhere n k l o d = go (cases_lt (place_of ss b n k) (b * S + m * s))
      (cases_lt (place_of ss b n k) (b * S + m * s + length part))
    where
      go : (place_of ss b n k < b * S + m * s) ⊎ (b * S + m * s ≤ place_of ss b n k)
          → (place_of ss b n k < b * S + m * s + length part)
          ⊎ (b * S + m * s + length part ≤ place_of ss b n k)
          → entry new (place_of ss b n k) ≡ entry mid (place_of ss b n k)
      go (inl x) y = G.before (place_of ss b n k) x
      go (inr x) (inr y) = G.after (place_of ss b n k) y
      go (inr x) (inl y) =
          let j : ℕ = place_of ss b n k - (b * S + m * s) in
          let q : j < s = omega (arith, x, y, count) in
          let w : S + s ≤ size_of ss = start_within ss i layer in
          let e : place_of ss b n k ≡ place_of ss b m (S + j) =
          sym (place-in-layer ss b m i j layer q ∙ omega (arith, x)) in
          let f : (n ≡ m) × (k ≡ S + j) =
          place-differs-of ss b n k m (S + j) l o inside (omega (arith, q, w)) e in
          let g : k ≡ S + j = f.1 in
          absurd (d f.0 (omega (arith, g)) (omega (arith, g, q)))

-- the layers before layer i of block m are gained, and the rest is as before
pub record AreLayersGained (p : ℕ) (ss : List ℕ) (b m : ℕ) (f : ℕ → ℕ) (old : List ℕ) (i : ℕ) (out : List ℕ)
    : Type 0 where
  pub is_row : IsRow p (size_of ss * b) out
  pub gained : (k : ℕ) → k < start_at ss i
      → IsCongruent p (entry out (place_of ss b m k)) (entry old (place_of ss b m k) + f k)
  pub others : (n k : ℕ) → n < b → k < size_of ss → (n ≡ m → k < start_at ss i → ⊥)
      → entry out (place_of ss b n k) ≡ entry old (place_of ss b n k)

pub layers-none : (p : ℕ) (ss : List ℕ) (b m : ℕ) (f : ℕ → ℕ) (old : List ℕ) → IsRow p (size_of ss * b) old
    → AreLayersGained p ss b m f old 0 old
layers-none p ss b m f old r = record {
  is_row = r;
  gained = λ k l. absurd (omega arith);
  others = λ n k l o d. refl;
}

pub layers-next : (p : ℕ) (ss : List ℕ) (b m c : ℕ) (r old mid new : List ℕ) (i : ℕ) → 0 < p → m < b
    → i < length ss
    → AreLayersGained p ss b m (λ k. c * entry r k) old i mid
    → length r ≡ size_of ss
    → GainsPart p (b * start_at ss i + m * get_or ss i 0) c
    (slice_range r (start_at ss i) (start_at ss i + get_or ss i 0)) mid new
    → AreLayersGained p ss b m (λ k. c * entry r k) old (i + 1) new
layers-next p ss b m c r old mid new i o inside layer A len G = record {
  is_row = part_is_row (b * S + m * s) c part mid new o A.is_row G;
  gained = λ k l. gain k (subst (λ x. k < x) (start-next ss i layer) l) (cases_lt k S);
  others = λ n k l q d. layer-elsewhere ss b m i c part mid new inside layer count G n k l q
      (λ e x y. d e (subst (λ z. k < z) (sym (start-next ss i layer)) y))
      ∙ A.others n k l q (λ e x. d e (subst (λ z. k < z) (sym (start-next ss i layer)) (omega (arith, x))));
}
  where
    S : ℕ
    S = start_at ss i

    s : ℕ
    s = get_or ss i 0

    part : List ℕ
    part = slice_range r (start_at ss i) (start_at ss i + get_or ss i 0)

    count : length part ≡ get_or ss i 0
    count = length-part r (start_at ss i) (get_or ss i 0)
        (let w : start_at ss i + get_or ss i 0 ≤ size_of ss = start_within ss i layer in omega
        (arith, w, len))

    gain : (k : ℕ) → k < start_at ss i + get_or ss i 0 → (k < start_at ss i) ⊎ (start_at ss i ≤ k)
        → IsCongruent p (entry new (place_of ss b m k)) (entry old (place_of ss b m k) + c * entry r k)
    gain k l (inl x) = let w : start_at ss i + get_or ss i 0 ≤ size_of ss = start_within ss i layer in
        congruent_trans (congruent_eq (layer-elsewhere ss b m i c part mid new inside layer count G m k inside
        (omega (arith, x, w)) (λ e y z. omega (arith, x, y)))) (A.gained k x)
    gain k l (inr x) =
        let j : ℕ = k - start_at ss i in
        let e : start_at ss i + (k - start_at ss i) ≡ k = omega (arith, x) in
        let q : k - start_at ss i < get_or ss i 0 = omega (arith, l, x) in
        let w : start_at ss i + get_or ss i 0 ≤ size_of ss = start_within ss i layer in
        let h : IsCongruent p (entry new (place_of ss b m k))
        (entry mid (place_of ss b m k) + c * entry part (k - start_at ss i)) =
        subst (λ y. IsCongruent p (entry new (place_of ss b m y))
        (entry mid (place_of ss b m y) + c * entry part (k - start_at ss i))) e
        (layer-here ss b m i c part mid new inside layer count G (k - start_at ss i) q) in
        congruent_trans h (congruent_eq (
        ap (λ y. y + c * entry part (k - start_at ss i))
        (A.others m k inside (omega (arith, l, w)) (λ z y. omega (arith, x, y)))
        ∙ ap (λ y. entry old (place_of ss b m k) + c * y)
        (entry-part r (start_at ss i) (get_or ss i 0) (k - start_at ss i) q ∙ ap (entry r) e)))

pub layers-all : (p : ℕ) (ss : List ℕ) (b m : ℕ) (f : ℕ → ℕ) (old out : List ℕ) (i : ℕ) → m < b
    → length ss ≤ i
    → AreLayersGained p ss b m f old i out → BlockGains p ss b m f old out
layers-all p ss b m f old out i inside e A = record {
  is_row = A.is_row;
  gained = λ j l. A.gained j (subst (λ x. j < x) (sym (start-end ss i e)) l);
  kept = λ n j l d q. A.others n j l q (λ x y. d x);
}

-- ---- the image of a block
-- one more layer of the image of a block
pub image-next : (p : ℕ) (ss : List ℕ) (b m i : ℕ) (v : List ℕ) (f : ℕ → ℕ) (x y : ℕ) → i < length ss
    → IsCongruent p x (sum_below (start_at ss i) (λ k. entry v (place_of ss b m k) * f k))
    → IsCongruent p y (x + sum_below (get_or ss i 0)
    (λ k. entry (slice_range v (b * start_at ss i + m * get_or ss i 0)
    (b * start_at ss i + m * get_or ss i 0 + get_or ss i 0)) k * f (start_at ss i + k)))
    → IsCongruent p y (sum_below (start_at ss (i + 1)) (λ k. entry v (place_of ss b m k) * f k))
image-next p ss b m i v f x y l h g =
    congruent_trans g (congruent_trans (congruent_add h (congruent_eq
    (sum_below-same (get_or ss i 0) _
    (λ k. entry v (place_of ss b m (start_at ss i + k)) * f (start_at ss i + k))
    (λ k q. ap (λ z. z * f (start_at ss i + k))
    (entry-part v (b * start_at ss i + m * get_or ss i 0) (get_or ss i 0) k q
    ∙ ap (entry v) (sym (place-in-layer ss b m i k l q)))))))
    (congruent_eq (sym (ap (λ n. sum_below n (λ k. entry v (place_of ss b m k) * f k))
    (start-next ss i l)
    ∙ sum-split (start_at ss i) (get_or ss i 0) (λ k. entry v (place_of ss b m k) * f k)))))

-- congruent gains
pub gains-congruent : (p : ℕ) (ss : List ℕ) (b m : ℕ) (f g : ℕ → ℕ) (old new : List ℕ)
    → ((j : ℕ) → j < size_of ss → IsCongruent p (f j) (g j)) → BlockGains p ss b m f old new
    → BlockGains p ss b m g old new
gains-congruent p ss b m f g old new h B = record {
  is_row = B.is_row;
  gained = λ j l. congruent_trans (B.gained j l)
      (congruent_add (congruent_eq refl) (h j l));
  kept = B.kept;
}

-- ---- blocks of zeros
pub zero-next : (ss : List ℕ) (b m i : ℕ) (v : List ℕ) → i < length ss
    → b * start_at ss i + m * get_or ss i 0 + get_or ss i 0 ≤ length v
    → ((k : ℕ) → k < start_at ss i → entry v (place_of ss b m k) ≡ 0)
    → IsZero (slice_range v (b * start_at ss i + m * get_or ss i 0)
    (b * start_at ss i + m * get_or ss i 0 + get_or ss i 0))
    → (k : ℕ) → k < start_at ss (i + 1) → entry v (place_of ss b m k) ≡ 0
zero-next ss b m i v layer w before here k l = go (cases_lt k (start_at ss i))
  where
    go : (k < start_at ss i) ⊎ (start_at ss i ≤ k) → entry v (place_of ss b m k) ≡ 0
    go (inl x) = before k x
    go (inr x) =
        let e : start_at ss i + (k - start_at ss i) ≡ k = omega (arith, x) in
        let q : k - start_at ss i < get_or ss i 0 =
        (let n : start_at ss (i + 1) ≡ start_at ss i + get_or ss i 0 = start-next ss i layer in
        omega (arith, l, n, x)) in
        ap (λ y. entry v (place_of ss b m y)) (sym e)
        ∙ ap (entry v) (place-in-layer ss b m i (k - start_at ss i) layer q)
        ∙ sym (entry-part v (b * start_at ss i + m * get_or ss i 0) (get_or ss i 0) (k - start_at ss i) q)
        ∙ here (k - start_at ss i)
        (let n : length (slice_range v (b * start_at ss i + m * get_or ss i 0)
        (b * start_at ss i + m * get_or ss i 0 + get_or ss i 0)) ≡ get_or ss i 0 =
        length-part v (b * start_at ss i + m * get_or ss i 0) (get_or ss i 0) w in
        omega (arith, q, n))

pub zero-part : (ss : List ℕ) (b m i : ℕ) (v : List ℕ) → i < length ss
    → b * start_at ss i + m * get_or ss i 0 + get_or ss i 0 ≤ length v
    → IsZeroBlock ss b m v
    → IsZero (slice_range v (b * start_at ss i + m * get_or ss i 0)
    (b * start_at ss i + m * get_or ss i 0 + get_or ss i 0))
zero-part ss b m i v layer w h j l =
    let q : j < get_or ss i 0 =
    (let n : length (slice_range v (b * start_at ss i + m * get_or ss i 0)
    (b * start_at ss i + m * get_or ss i 0 + get_or ss i 0)) ≡ get_or ss i 0 =
    length-part v (b * start_at ss i + m * get_or ss i 0) (get_or ss i 0) w in
    omega (arith, l, n)) in
    entry-part v (b * start_at ss i + m * get_or ss i 0) (get_or ss i 0) j q
    ∙ ap (entry v) (sym (place-in-layer ss b m i j layer q))
    ∙ h (start_at ss i + j)
    (let u : start_at ss i + get_or ss i 0 ≤ size_of ss = start_within ss i layer in omega (arith, q, u))

-- the members before layer i have places before those of the layer
pub place-before : (ss : List ℕ) (b m i k : ℕ) → m < b → k < start_at ss i
    → place_of ss b m k < b * start_at ss i
place-before [] b m i k l h = let z : start_at [] i ≡ 0 =
    start-end [] i (omega arith) in absurd (omega (arith, z, h))
place-before (s ∷ ss) b m zero k l h = absurd (omega arith)
place-before (s ∷ ss) b m (suc i) k l h =
    let d : b * (s + start_at ss i) ≡ b * s + b * start_at ss i = omega arith in
    elim (cases_lt k s) [
      | inl x ↦
          let e : place_of (s ∷ ss) b m k ≡ m * s + k =
          yes k s (m * s + k) (b * s + place_of ss b m (k - s)) x in
          let y : (m + 1) * s ≤ b * s = mul-le-mul_right s (let z : m + 1 ≤ b = omega (arith, l) in z) in
          let f : (m + 1) * s ≡ m * s + s = omega arith in
          rw e (omega (arith, d, y, f, x))
      | inr x ↦
          let e : place_of (s ∷ ss) b m k ≡ b * s + place_of ss b m (k - s) =
          otherwise k s (m * s + k) (b * s + place_of ss b m (k - s)) x in
          let y : place_of ss b m (k - s) < b * start_at ss i =
          place-before ss b m i (k - s) l (omega (arith, h, x)) in
          rw e (omega (arith, d, y))
    ]

-- a part of zeros may be passed over
pub zeros-gain : (p start c : ℕ) (part old : List ℕ) → ((j : ℕ) → j < length old → entry old j < p)
    → start + length part ≤ length old → IsZero part → GainsPart p start c part old old
zeros-gain p start c part old h w z = record {
  same_length = refl;
  inside = λ j l. sym (ap (λ x. (entry old (start + j) + c * x) % p) (z j l)
      ∙ ap (λ x. x % p) (let e : entry old (start + j) + c * 0 ≡ entry old (start + j) = omega arith in e)
      ∙ mod-eq_of_lt (h (start + j) (omega (arith, l, w))));
  before = λ j l. refl;
  after = λ j l. refl;
}

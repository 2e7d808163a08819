-- The images of rows that are taken one after another, and the rows whose images are left out.
use Rattle.std.proofs.Common.{◌≡◌, ℕ, zero, suc, ◌+◌, ◌-◌, ◌*◌, ◌<◌, ◌≤◌, ◌⊎◌, List, [], ◌∷◌, ◌++◌, length}
use Rattle.std.proofs.Common.{replicate, inl, inr, arith, ap, sym, ◌∙◌, refl}
use Rattle.std.proofs.lemmas.Bool.{cases_lt}
use Rattle.std.proofs.lemmas.List.{length_push, get_or-take, length-take-le, length-replicate}
use Rattle.std.proofs.Math.Nat.{mul-le-mul_right}
use mathlib.Core.Path.{subst}
use Rattle.linear_algebra.specs.Modular.{IsCongruent, IsFieldModulo}
use Rattle.linear_algebra.specs.Maps.{IsLinear}
use Rattle.linear_algebra.specs.Rows.{entry, row, pivot, IsRow, IsInSpan, AreInSpan, IsReduced, IsMatrix}
use Rattle.linear_algebra.specs.Rows.{IsEchelon}
use Rattle.linear_algebra.proofs.AddedRow.{in_span_left, in_span_right}
use Rattle.linear_algebra.proofs.Congruences.{congruent_refl, congruent_add, congruent_trans, congruent_eq}
use Rattle.linear_algebra.proofs.Congruences.{congruent_sym}
use Rattle.linear_algebra.proofs.Spans.{in_span_congruent, in_span_add, in_span_zero, in_span_trans}
use Rattle.linear_algebra.proofs.Spans.{row_push, row_before_push}
use Rattle.neg_basis.specs.Images.{AreImages}
use Rattle.neg_basis.specs.Results.{IsNegBasisOf}
use Rattle.neg_basis.specs.Turns.{IsAdded, IsNew, IsWorked, TakesGenerator, TakesImages}
use Rattle.neg_basis.specs.declared.origin.Origin.{Origin}
use Rattle.neg_basis.proofs.Prepared.{zeros}
use Rattle.neg_basis.proofs.SubmoduleLemmas.{closed, image_in_span, linear_zero}
use Rattle.neg_basis.proofs.WorkLemmas.{worked_none, row_turn, worked_all}

pub row_of_zeros : {p : ℕ} (n : ℕ) → 1 < p → IsRow p n (replicate n 0)
row_of_zeros n one = record {
  length_is = length-replicate n 0;
  below = λ j l. rw (zeros n j) (omega arith);
}

-- the place of image k of row r
pub image-place : (r k m c : ℕ) → r < c → k < m → r * m + k < c * m
image-place r k m c l h =
    let z : suc r * m ≤ c * m = mul-le-mul_right m (let y : suc r ≤ c = omega (arith, l) in y) in
    let w : suc r * m ≡ r * m + m = omega arith in omega (arith, z, w, h)

-- one more image of row r
pub images_none : {p width m : ℕ} {image : ℕ → (ℕ → ℕ) → ℕ → ℕ} (v : List ℕ) (r : ℕ) (E : List (List ℕ))
    (origins : List Origin) → TakesImages p width m image v r 0 E origins E origins
images_none {p} {width} {m} {image} v r E origins rows images A l e W =
    subst (λ n. IsWorked p width m image images E origins n (length E) 0)
    (let z : r * m ≡ r * m + 0 = omega arith in z) W

pub images_more : {p width m : ℕ} {image : ℕ → (ℕ → ℕ) → ℕ → ℕ} {E E₁ E₂ : List (List ℕ)}
    {origins origins₁ origins₂ : List Origin} (x : ℕ → ℕ) (v : List ℕ) (r k : ℕ) → k < m
    → ((j : ℕ) → IsCongruent p (x j) (image k (entry v) j))
    → TakesImages p width m image v r k E origins E₁ origins₁
    → TakesGenerator p width m image x (r * m + k) E₁ origins₁ E₂ origins₂
    → TakesImages p width m image v r (k + 1) E origins E₂ origins₂
images_more {p} {width} {m} {image} {E₂ = E₂} {origins₂ = origins₂} x v r k h c S T rows images A l e W =
    subst (λ n. IsWorked p width m image images E₂ origins₂ n (length E₂) 0)
    (let z : r * m + k + 1 ≡ r * m + (k + 1) = omega arith in z)
    (T images (subst (λ n. r * m + k < n) (sym A.count) (image-place r k m (length rows) l h))
    (λ j. congruent_trans (c j) (congruent_sym (subst
    (λ (y : List ℕ). IsCongruent p (entry (row images (r * m + k)) j) (image k (entry y) j)) e
    (A.each r k l h j)))) (S rows images A l e W))

-- a generator that is taken lies in the span
taken_at : {p width m n i k : ℕ} {image : ℕ → (ℕ → ℕ) → ℕ → ℕ} {gens E : List (List ℕ)}
    {origins : List Origin} → IsWorked p width m image gens E origins n i k → n ≤ length gens → (t : ℕ)
    → t < n → IsInSpan p E (entry (row gens t))
taken_at {p} {n = n} {gens = gens} {E = E} W b t l = subst (λ (x : List ℕ). IsInSpan p E (entry x))
    (get_or-take n gens t [] l) (W.taken t (subst (λ c. t < c) (sym (length-take-le n gens b)) l))

-- after all maps are applied to all vectors, more generators give a larger span
span_grows : {p width m n n' : ℕ} {image : ℕ → (ℕ → ℕ) → ℕ → ℕ} {gens E E' : List (List ℕ)}
    {origins origins' : List Origin} → ((h : ℕ) → h < m → IsLinear p (image h))
    → IsWorked p width m image gens E origins n (length E) 0
    → IsWorked p width m image gens E' origins' n' (length E') 0 → n ≤ n' → n' ≤ length gens
    → AreInSpan p E' E
span_grows {p} {n = n} {gens = gens} {E' = E'} linear W W' a b t l = (W.inside t l).in_each E'
    (λ s d. let c : s < n = subst (λ y. s < y) (length-take-le n gens (omega (arith, a, b))) d in
    subst (λ (x : List ℕ). IsInSpan p E' (entry x)) (sym (get_or-take n gens s [] c))
    (taken_at W' b s (omega (arith, c, a))))
    (closed E' linear (λ h u x y. W'.images h u x y))

-- the image of what a difference is made of
image_difference : {p : ℕ} {f : (ℕ → ℕ) → ℕ → ℕ} {rows : List (List ℕ)} → IsLinear p f → (a b : ℕ → ℕ) (c : ℕ)
    → IsInSpan p rows (f (λ j. a j + c * b j)) → IsInSpan p rows (λ j. f a j + c * f b j)
image_difference L a b c s = in_span_congruent (λ j. L.add a b c j) s

image_multiple : {p : ℕ} {f : (ℕ → ℕ) → ℕ → ℕ} {rows : List (List ℕ)} → IsLinear p f → (b : ℕ → ℕ) (c : ℕ)
    → IsInSpan p rows (f b) → IsInSpan p rows (f (λ j. c * b j))
image_multiple {f = f} L b c s = in_span_congruent (λ j. congruent_sym (congruent_trans
    (L.same (λ k. c * b k) (λ k. 0 + c * b k) (λ k. congruent_eq (omega arith)) j)
    (congruent_trans (L.add (λ k. 0) b c j) (congruent_add (linear_zero L j) (congruent_refl (c * f b j))))))
    (in_span_add c in_span_zero s)

-- whatever list the images of the rows are: those of the rows before row r are taken, and each map takes each
-- of the rows `rest` into the span
pub record IsHalfway (p width m : ℕ) (image : ℕ → (ℕ → ℕ) → ℕ → ℕ) (rows E : List (List ℕ))
    (origins : List Origin) (rest : List (List ℕ)) (r : ℕ) : Type 0 where
  pub worked : (images : List (List ℕ)) → AreImages p m image rows images
      → IsWorked p width m image images E origins (r * m) (length E) 0
  pub rest_images : (images : List (List ℕ)) → AreImages p m image rows images → (h t : ℕ) → h < m
      → t < length rest → IsInSpan p E (image h (entry (row rest t)))

halfway_none : {p width m : ℕ} {image : ℕ → (ℕ → ℕ) → ℕ → ℕ} (rows : List (List ℕ))
    → IsHalfway p width m image rows [] [] [] 0
halfway_none {p} {width} {m} {image} rows = record {
  worked = λ images A. subst (λ n. IsWorked p width m image images [] [] n 0 0)
      (let z : 0 ≡ 0 * m = omega arith in z) (worked_none images);
  rest_images = λ images A h t a b. absurd (omega (arith, b));
}

pub halfway_start : {p width m : ℕ} {image : ℕ → (ℕ → ℕ) → ℕ → ℕ} (rows : List (List ℕ)) {E : List (List ℕ)}
    {origins : List Origin} {rest : List (List ℕ)} → E ≡ [] → origins ≡ [] → rest ≡ []
    → IsHalfway p width m image rows E origins rest 0
halfway_start rows a b c = rw (a, b, c) (halfway_none rows)

pub halfway_end : {p width m r : ℕ} {image : ℕ → (ℕ → ℕ) → ℕ → ℕ} {rows E : List (List ℕ)}
    {origins : List Origin} {rest : List (List ℕ)} → ((h : ℕ) → h < m → IsLinear p (image h))
    → r ≡ length rows → IsHalfway p width m image rows E origins rest r
    → (images : List (List ℕ)) → AreImages p m image rows images
    → IsNegBasisOf p width m image images E origins
halfway_end {m = m} linear e H images A = worked_all linear (ap (λ n. n * m) e ∙ sym A.count) refl
    (H.worked images A)

-- row r of the rows, the loaded row x that is it, and what the vectors leave of it
module _ {p width m r : ℕ} {image : ℕ → (ℕ → ℕ) → ℕ → ℕ} {rows E : List (List ℕ)} {origins : List Origin}
    {rest : List (List ℕ)} (F : IsFieldModulo p) (linear : (h : ℕ) → h < m → IsLinear p (image h))
    (below : r < length rows) (H : IsHalfway p width m image rows E origins rest r) (x y : List ℕ)
    (loaded : (j : ℕ) → IsCongruent p (entry x j) (entry (row rows r) j)) (left : IsReduced p E x y) where
  -- the difference is in the span, and so is its image
  difference_image : (images : List (List ℕ)) → AreImages p m image rows images → (h : ℕ) → h < m
      → IsInSpan p E (λ j. image h (entry y) j + (p - 1) * image h (entry x) j)
  difference_image images A h a = image_difference (linear h a) (entry y) (entry x) (p - 1)
      (image_in_span (linear h a) (λ t b. (H.worked images A).images h t a b) left.difference)

  -- nothing is left modulo the rest: the images of row r are in the span
  row_image : IsInSpan p rest (entry y) → (images : List (List ℕ)) → AreImages p m image rows images
      → (h : ℕ) → h < m → IsInSpan p E (image h (entry (row rows r)))
  row_image s images A h a = in_span_congruent
      (λ j. (linear h a).same (entry x) (entry (row rows r)) loaded j)
      (in_span_right (image h (entry y)) (image h (entry x)) F.above_one (difference_image images A h a)
      (image_in_span (linear h a) (λ t b. H.rest_images images A h t a b) s))

  pass : IsInSpan p rest (entry y) → (images : List (List ℕ)) → AreImages p m image rows images → (k : ℕ)
      → k ≤ m → IsWorked p width m image images E origins (r * m + k) (length E) 0
  pass s images A zero l = subst (λ n. IsWorked p width m image images E origins n (length E) 0)
      (let z : r * m ≡ r * m + 0 = omega arith in z) (H.worked images A)
  pass s images A (suc k) l = subst (λ n. IsWorked p width m image images E origins n (length E) 0)
      (let z : r * m + k + 1 ≡ r * m + suc k = omega arith in z)
      (row_turn F linear (pass s images A k (omega (arith, l)))
      (subst (λ n. r * m + k < n) (sym A.count) (image-place r k m (length rows) below (omega (arith, l))))
      refl (entry (row images (r * m + k))) (λ j. congruent_refl (entry (row images (r * m + k)) j))
      (inl (
        refl,
        refl,
        in_span_congruent
            (λ j. congruent_sym (A.each r k below (omega (arith, l)) j))
            (row_image s images A k (omega (arith, l))),
      )))

  next : r * m + m ≡ (r + 1) * m
  next = omega arith

  pub row_passed : IsInSpan p rest (entry y) → IsHalfway p width m image rows E origins rest (r + 1)
  row_passed s = record {
    worked = λ images A. subst (λ n. IsWorked p width m image images E origins n (length E) 0) next
        (pass s images A m (let z : m ≤ m = omega arith in z));
    rest_images = H.rest_images;
  }

  -- something is left, and the images of row r are taken
  module _ {E' : List (List ℕ)} {origins' : List Origin} (w : List ℕ) (N : IsNew p width rest (entry y) w)
      (T : TakesImages p width m image (row rows r) r m E origins E' origins') where
    worked_after : (images : List (List ℕ)) → AreImages p m image rows images
        → IsWorked p width m image images E' origins' (r * m + m) (length E') 0
    worked_after images A = T rows images A below refl (H.worked images A)

    inside_images : (images : List (List ℕ)) → AreImages p m image rows images → r * m + m ≤ length images
    inside_images images A = subst (λ n. r * m + m ≤ n) (sym A.count)
        (subst (λ n. n ≤ length rows * m) (sym next)
        (mul-le-mul_right m (let z : r + 1 ≤ length rows = omega (arith, below) in z)))

    wider : (images : List (List ℕ)) → AreImages p m image rows images → AreInSpan p E' E
    wider images A = span_grows linear (H.worked images A) (worked_after images A)
        (let z : r * m ≤ r * m + m = omega arith in z) (inside_images images A)

    -- the image of what is left
    left_image : (images : List (List ℕ)) → AreImages p m image rows images → (h : ℕ) → h < m
        → IsInSpan p E' (image h (entry y))
    left_image images A h a = in_span_left (image h (entry y)) (image h (entry x)) F.above_one
        (in_span_trans (wider images A) (difference_image images A h a))
        (in_span_congruent (λ j. congruent_trans (A.each r h below a j)
        (congruent_sym ((linear h a).same (entry x) (entry (row rows r)) loaded j)))
        (taken_at (worked_after images A) (inside_images images A) (r * m + h) (omega (arith, a))))

    new_image : (images : List (List ℕ)) → AreImages p m image rows images → (h : ℕ) → h < m
        → IsInSpan p E' (image h (entry w))
    new_image images A h a = in_span_left (image h (entry w)) (image h (λ j. N.multiple.factor * entry y j))
        F.above_one (image_difference (linear h a) (entry w) (λ j. N.multiple.factor * entry y j) (p - 1)
        (image_in_span (linear h a)
        (λ t b. in_span_trans (wider images A) (H.rest_images images A h t a b)) N.multiple.difference))
        (image_multiple (linear h a) (entry y) N.multiple.factor (left_image images A h a))

    rest_image : (images : List (List ℕ)) → AreImages p m image rows images → (h t : ℕ) → h < m
        → t < length (rest ++ w ∷ []) → (t < length rest) ⊎ (length rest ≤ t)
        → IsInSpan p E' (image h (entry (row (rest ++ w ∷ []) t)))
    rest_image images A h t a b (inl l) = rw (row_before_push rest w t l)
        (in_span_trans (wider images A) (H.rest_images images A h t a l))
    rest_image images A h t a b (inr l) = let q : t ≡ length rest = omega (arith, b, l, length_push rest w) in
        rw (q, row_push rest w) (new_image images A h a)

    pub row_taken : IsHalfway p width m image rows E' origins' (rest ++ w ∷ []) (r + 1)
    row_taken = record {
      worked = λ images A. subst (λ n. IsWorked p width m image images E' origins' n (length E') 0) next
          (worked_after images A);
      rest_images = λ images A h t a b. rest_image images A h t a b (cases_lt t (length rest));
    }

  -- the row is passed over where nothing was added to the rest, and its images are taken where something was
  pub same_rest : {rest' : List (List ℕ)} {places places' : List Origin} (o : Origin)
      → IsAdded p width rest places (entry y) o rest' places' → length rest' ≤ length rest
      → IsHalfway p width m image rows E origins rest' (r + 1)
  same_rest o (inl (a, b, s)) l = rw a (row_passed s)
  same_rest o (inr (w, a, b, N)) l = absurd (omega (arith, l, ap length a, length_push rest w))

  pub more_rest : {rest' E' : List (List ℕ)} {places places' origins' : List Origin} (o : Origin)
      → IsAdded p width rest places (entry y) o rest' places' → length rest < length rest'
      → TakesImages p width m image (row rows r) r m E origins E' origins'
      → IsHalfway p width m image rows E' origins' rest' (r + 1)
  more_rest o (inl (a, b, s)) l T = absurd (omega (arith, l, ap length a))
  more_rest o (inr (w, a, b, N)) l T = rw a (row_taken w N T)

-- the pivots of a reduced echelon list ascend, so it has no more rows than places
pub echelon-count : {p width : ℕ} (E : List (List ℕ)) → IsMatrix p width E → IsEchelon E → length E ≤ width
echelon-count {p} {width} E m e = at (length E) refl
  where
    above : (i : ℕ) → i < length E → i ≤ pivot (row E i)
    above zero l = omega arith
    above (suc i) l = let a : i ≤ pivot (row E i) = above i (omega (arith, l)) in
        let b : pivot (row E i) < pivot (row E (suc i)) = e.ascending i (suc i) (omega arith) l in
        omega (arith, a, b)

    at : (n : ℕ) → n ≡ length E → length E ≤ width
    at zero c = omega (arith, c)
    at (suc n) c = let l : n < length E = omega (arith, c) in let a : n ≤ pivot (row E n) = above n l in
        let b : pivot (row E n) < length (row E n) = e.not_zero n l in
        let w : length (row E n) ≡ width = (m n l).length_is in omega (arith, a, b, w, c)

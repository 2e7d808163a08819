-- The turns of the worklist.
use Rattle.std.proofs.Common.{◌≡◌, ℕ, ◌+◌, ◌-◌, ◌<◌, ◌≤◌, ◌⊎◌, List, [], ◌∷◌, ◌++◌, length, take, inl, inr}
use Rattle.std.proofs.Common.{arith, ap, sym, ◌∙◌, refl}
use Rattle.std.proofs.lemmas.Bool.{cases_eq, cases_lt}
use Rattle.std.proofs.lemmas.List.{take_more, take-append-le, take_all, length_push}
use Rattle.linear_algebra.specs.Modular.{IsCongruent, IsFieldModulo}
use Rattle.linear_algebra.specs.Rows.{entry, row, IsInSpan, AreInSpan}
use Rattle.linear_algebra.proofs.Congruences.{congruent_refl, congruent_add, congruent_mul_left}
use Rattle.linear_algebra.proofs.Spans.{in_span_congruent, in_span_trans, in_span_pushed, are_in_span_push}
use Rattle.linear_algebra.proofs.Spans.{are_in_span_with, are_in_span_trans, row_push, row_before_push}
use Rattle.neg_basis.specs.Maps.{IsInSubmodule}
use Rattle.linear_algebra.specs.Maps.{IsLinear}
use Rattle.neg_basis.specs.Bases.{IsBasis, IsReducedMultiple}
use Rattle.neg_basis.specs.Origins.{origin_at, source, IsOrigin, IsChosen, IsChosenRightly}
use Rattle.neg_basis.specs.Results.{IsNegBasisOf}
use Rattle.neg_basis.specs.Turns.{IsNew, IsAdded, IsWorked}
use Rattle.neg_basis.proofs.OriginLemmas.{origin_last, origin_before}
use Rattle.neg_basis.specs.declared.origin.Origin.{Origin}
use Rattle.neg_basis.specs.declared.origin.Origin.TheVariants.{Chosen, Step}
use Rattle.neg_basis.proofs.BasisLemmas.{no_vectors, basis_push, in_span_with_new, new_in_span}
use Rattle.neg_basis.proofs.BasisLemmas.{new_not_in_span}
use Rattle.neg_basis.proofs.SubmoduleLemmas.{closed, submodule_span, submodule_image, submodule_more}
use Rattle.neg_basis.proofs.SubmoduleLemmas.{submodule_last}

-- what an origin stands for is the same with one more vector
source_push : (image : ℕ → (ℕ → ℕ) → ℕ → ℕ) (gens E : List (List ℕ)) (w : List ℕ) (n m i : ℕ) (o : Origin)
    → IsOrigin n m o i → i ≤ length E → source image gens (E ++ w ∷ []) o ≡ source image gens E o
source_push image gens E w n m i (Chosen r) h l = refl
source_push image gens E w n m i (Step k t) h l =
    ap (λ r. image k (entry r)) (row_before_push E w t (omega (arith, h.1)))

origin_more : (n m i : ℕ) (o : Origin) → IsOrigin n m o i → IsOrigin (n + 1) m o i
origin_more n m i (Chosen r) h = omega arith
origin_more n m i (Step k t) h = h

-- a multiple of the same vector
multiple_congruent : {p : ℕ} {E : List (List ℕ)} {f g : ℕ → ℕ} (w : List ℕ)
    → ((j : ℕ) → IsCongruent p (f j) (g j)) → IsReducedMultiple p E f w → IsReducedMultiple p E g w
multiple_congruent {p} w e r = record {
  factor = r.factor;
  factor_not_zero = r.factor_not_zero;
  difference = in_span_congruent (λ j. congruent_add (congruent_refl (entry w j)) (congruent_mul_left (p - 1)
      (congruent_mul_left r.factor (e j)))) r.difference;
  zero_at_heads = r.zero_at_heads;
}

-- which rows are chosen, with one more origin
chosen_push : (origins : List Origin) (o : Origin) (r : ℕ) → IsChosen origins r
    → IsChosen (origins ++ o ∷ []) r
chosen_push origins o r (i, l, e) = (i, rw length_push (omega arith), origin_before origins o i l ∙ e)

chosen_pop : (origins : List Origin) (o : Origin) (r : ℕ) → (o ≡ Chosen r → ⊥)
    → IsChosen (origins ++ o ∷ []) r → IsChosen origins r
chosen_pop origins o r ne (i, l, e) = go (cases_lt i (length origins))
  where
    go : (i < length origins) ⊎ (length origins ≤ i) → IsChosen origins r
    go (inl b) = (i, b, sym (origin_before origins o i b) ∙ e)
    go (inr b) = let q : i ≡ length origins = omega (arith, length_push origins o) in
        absurd (ne (sym (origin_last origins o) ∙ ap (origin_at (origins ++ o ∷ [])) (sym q) ∙ e))

rightly_push : {p m : ℕ} {image : ℕ → (ℕ → ℕ) → ℕ → ℕ} (gens : List (List ℕ)) (origins : List Origin)
    (o : Origin) (r : ℕ) → (o ≡ Chosen r → ⊥) →
    IsChosenRightly p m image gens origins r → IsChosenRightly p m image gens (origins ++ o ∷ []) r
rightly_push gens origins o r ne (inl (c, n)) = inl (chosen_push origins o r c, n)
rightly_push gens origins o r ne (inr (c, s)) = inr ((λ h. c (chosen_pop origins o r ne h)), s)

abbrev number_of : Origin → ℕ
number_of (Chosen r) = r
number_of (Step k t) = 0

abbrev is_step : Origin → ℕ
is_step (Chosen r) = 0
is_step (Step k t) = 1

step_not_chosen : (k t r : ℕ) → Step k t ≡ Chosen r → ⊥
step_not_chosen k t r e = let q : is_step (Step k t) ≡ 0 = ap is_step e in omega (arith, q)

other_not_chosen : (n r : ℕ) → r < n → Chosen n ≡ Chosen r → ⊥
other_not_chosen n r l e = let q : n ≡ r = ap number_of e in omega arith

-- one more vector beside the others
module _ {p width m : ℕ} {image : ℕ → (ℕ → ℕ) → ℕ → ℕ} {gens E : List (List ℕ)} {origins : List Origin}
    (n i k : ℕ) (W : IsWorked p width m image gens E origins n i k)
    (w : List ℕ) (o : Origin) (named : IsOrigin n m o (length E)) (N : IsNew p width E (source image gens E o)
    w) where
  last : (t : ℕ) → t < length (E ++ w ∷ []) → (t < length E) ⊎ (t ≡ length E)
  last t l = go (cases_lt t (length E))
    where
      go : (t < length E) ⊎ (length E ≤ t) → (t < length E) ⊎ (t ≡ length E)
      go (inl b) = inl b
      go (inr b) = inr (omega (arith, length_push E w))

  widen : (f : ℕ → ℕ) → IsInSpan p E f → IsInSpan p (E ++ w ∷ []) f
  widen f s = in_span_trans (are_in_span_push E w) s

  origin_is : origin_at (origins ++ o ∷ []) (length E) ≡ o
  origin_is = ap (origin_at (origins ++ o ∷ [])) (sym W.count) ∙ origin_last origins o

  named_at : (t : ℕ) → (t < length E) ⊎ (t ≡ length E) → IsOrigin n m (origin_at (origins ++ o ∷ []) t) t
  named_at t (inl b) = rw (origin_before origins o t (omega (arith, W.count))) (W.named t b)
  named_at t (inr q) = rw (q, origin_is) named

  made_at : (t : ℕ) → (t < length E) ⊎ (t ≡ length E) → IsReducedMultiple p (take t (E ++ w ∷ []))
      (source image gens (E ++ w ∷ []) (origin_at (origins ++ o ∷ []) t)) (row (E ++ w ∷ []) t)
  made_at t (inl b) = rw (
    take-append-le t E (w ∷ []) (omega arith),
    origin_before origins o t
        (omega (arith, W.count)),
    source_push image gens E w n m t (origin_at origins t) (W.named t b)
        (omega arith),
    row_before_push E w t b,
  ) (W.made t b)
  made_at t (inr q) = rw (
    q,
    take-append-le (length E) E (w ∷ []) (omega arith),
    take_all (length E) E
        (omega arith),
    origin_is,
    source_push image gens E w n m (length E) o named (omega arith),
    row_push E w,
  )
      N.multiple

  inside_at : IsFieldModulo p → IsInSubmodule p m image (take n gens) (source image gens E o) → (t : ℕ)
      → (t < length E) ⊎ (t ≡ length E) → IsInSubmodule p m image (take n gens) (entry (row (E ++ w ∷ []) t))
  inside_at F s t (inl b) = rw (row_before_push E w t b) (W.inside t b)
  inside_at F s t (inr q) =
      rw (q, row_push E w) (record {
        in_each =
            λ rows a c. new_in_span w F (λ f h. (submodule_span W.inside h).in_each rows a c)
            (s.in_each rows a c) N.multiple;
      })

  -- the parts that do not speak of the chosen rows
  pub basis_grown : IsBasis p width (E ++ w ∷ [])
  basis_grown = basis_push w W.basis N

  images_grown : (h t : ℕ) → h < m → t < i → i ≤ length E
      → IsInSpan p (E ++ w ∷ []) (image h (entry (row (E ++ w ∷ []) t)))
  images_grown h t a b c = rw (row_before_push E w t (omega arith)) (widen (image h (entry (row E t)))
      (W.images h t a b))

  source_grown : IsFieldModulo p → IsInSpan p (E ++ w ∷ []) (source image gens E o)
  source_grown F = in_span_with_new w F widen (in_span_pushed E w) N.multiple

pub worked_none : {p width m : ℕ} {image : ℕ → (ℕ → ℕ) → ℕ → ℕ} (gens : List (List ℕ))
    → IsWorked p width m image gens [] [] 0 0 0
worked_none gens = record {
  basis = no_vectors;
  count = refl;
  named = λ t l. absurd (omega arith);
  made = λ t l. absurd (omega arith);
  taken = λ t l. absurd (omega arith);
  inside = λ t l. absurd (omega arith);
  images = λ h t l b. absurd (omega arith);
  partly = λ h l. absurd (omega arith);
  chosen = λ r l. absurd (omega arith);
}

pub worked_start : {p width m : ℕ} {image : ℕ → (ℕ → ℕ) → ℕ → ℕ} (gens : List (List ℕ)) {E : List (List ℕ)}
    {origins : List Origin} → E ≡ [] → origins ≡ [] → IsWorked p width m image gens E origins 0 (length E) 0
worked_start gens a b = rw (a, b) (worked_none gens)

-- map k is applied to vector i
module _ {p width m : ℕ} {image : ℕ → (ℕ → ℕ) → ℕ → ℕ} {gens E : List (List ℕ)} {origins : List Origin}
    {n i k : ℕ} (F : IsFieldModulo p)
    (W : IsWorked p width m image gens E origins n i k) (below : k < m) (here : i < length E) where
  map_kept : IsInSpan p E (image k (entry (row E i))) → IsWorked p width m image gens E origins n i (k + 1)
  map_kept s = record {
    basis = W.basis;
    count = W.count;
    named = W.named;
    made = W.made;
    taken = W.taken;
    inside = W.inside;
    images = W.images;
    partly = λ h l. go h l (cases_eq h k);
    chosen = W.chosen;
  }
    where
      go : (h : ℕ) → h < k + 1 → (h ≡ k) ⊎ (h ≡ k → ⊥) → IsInSpan p E (image h (entry (row E i)))
      go h l (inl e) = rw e s
      go h l (inr ne) = W.partly h (omega arith)

  map_grown : (w : List ℕ) → IsNew p width E (image k (entry (row E i))) w
      → IsWorked p width m image gens (E ++ w ∷ []) (origins ++ Step k i ∷ []) n i (k + 1)
  map_grown w N = record {
    basis = basis_grown n i k W w (Step k i) named N;
    count = length_push origins (Step k i) ∙ ap (λ x. x + 1) W.count ∙ sym (length_push E w);
    named = λ t l. named_at n i k W w (Step k i) named N t (last n i k W w (Step k i) named N t l);
    made = λ t l. made_at n i k W w (Step k i) named N t (last n i k W w (Step k i) named N t l);
    taken = are_in_span_trans (take n gens) (are_in_span_push E w) W.taken;
    inside = λ t l. inside_at n i k W w (Step k i) named N F (submodule_image k below (W.inside i here)) t
        (last n i k W w (Step k i) named N t l);
    images = λ h t l b. images_grown n i k W w (Step k i) named N h t l b (omega arith);
    partly = λ h l. go h l (cases_eq h k);
    chosen = λ r l. rightly_push gens origins (Step k i) r (step_not_chosen k i r) (W.chosen r l);
  }
    where
      named : IsOrigin n m (Step k i) (length E)
      named = (below, here)

      go : (h : ℕ) → h < k + 1 → (h ≡ k) ⊎ (h ≡ k → ⊥)
          → IsInSpan p (E ++ w ∷ []) (image h (entry (row (E ++ w ∷ []) i)))
      go h l (inl e) = rw (e, row_before_push E w i here) (source_grown n i k W w (Step k i) named N F)
      go h l (inr ne) = rw (row_before_push E w i here) (widen n i k W w (Step k i) named N
          (image h (entry (row E i))) (W.partly h (omega arith)))

  pub map_turn : {E' : List (List ℕ)} {origins' : List Origin} (v : ℕ → ℕ)
      → ((j : ℕ) → IsCongruent p (v j) (image k (entry (row E i)) j)) →
      IsAdded p width E origins v (Step k i) E' origins' → IsWorked p width m image gens E' origins' n i
      (k + 1)
  map_turn v e (inl (a, b, s)) = rw (a, b) (map_kept (in_span_congruent e s))
  map_turn v e (inr (w, a, b, N)) = rw (a, b) (map_grown w (record {
    is_row = N.is_row;
    inside = N.inside;
    monic = N.monic;
    multiple = multiple_congruent w e N.multiple;
  }))

-- all maps are applied to vector i
pub next_vector : {p width m : ℕ} {image : ℕ → (ℕ → ℕ) → ℕ
    → ℕ} {gens E : List (List ℕ)} {origins : List Origin} {n i k : ℕ} → m ≤ k →
    IsWorked p width m image gens E origins n i k → IsWorked p width m image gens E origins n (i + 1) 0
next_vector {p} {width} {m} {image} {gens} {E} {origins} {n} {i} {k} l W = record {
  basis = W.basis;
  count = W.count;
  named = W.named;
  made = W.made;
  taken = W.taken;
  inside = W.inside;
  images = λ h t a b. go h t a b (cases_eq t i);
  partly = λ h b. absurd (omega arith);
  chosen = W.chosen;
}
  where
    go : (h t : ℕ) → h < m → t < i + 1 → (t ≡ i) ⊎ (t ≡ i → ⊥) → IsInSpan p E (image h (entry (row E t)))
    go h t a b (inl e) = rw e (W.partly h (omega arith))
    go h t a b (inr ne) = W.images h t a (omega arith)

-- generator n is taken
module _ {p width m : ℕ} {image : ℕ → (ℕ → ℕ) → ℕ → ℕ} {gens E : List (List ℕ)} {origins : List Origin}
    {n i k : ℕ} (F : IsFieldModulo p)
    (linear : (h : ℕ) → h < m → IsLinear p (image h)) (W : IsWorked p width m image gens E origins n i k)
    (below : n < length gens) (all : i ≡ length E) where
  more : take (n + 1) gens ≡ take n gens ++ row gens n ∷ []
  more = take_more gens n [] below

  chosen_old : (r : ℕ) → r < n + 1 → (r ≡ n → ⊥) → r < n
  chosen_old r l ne = omega arith

  not_yet : IsChosen origins n → ⊥
  not_yet (t, l, e) = let h : IsOrigin n m (Chosen n) t = rw e at (W.named t (omega (arith, W.count))) in
      omega (arith, h)

  row_kept : IsInSpan p E (entry (row gens n)) → IsWorked p width m image gens E origins (n + 1) i 0
  row_kept s = record {
    basis = W.basis;
    count = W.count;
    named = λ t l. origin_more n m t (origin_at origins t) (W.named t l);
    made = W.made;
    taken = rw more (are_in_span_with (take n gens) (row gens n) W.taken s);
    inside = λ t l. rw more (submodule_more (row gens n) (W.inside t l));
    images = W.images;
    partly = λ h l. absurd (omega arith);
    chosen = λ r l. go r l (cases_eq r n);
  }
    where
      go : (r : ℕ) → r < n + 1 → (r ≡ n) ⊎ (r ≡ n → ⊥) → IsChosenRightly p m image gens origins r
      go r l (inl e) = rw e (inr (not_yet, submodule_span W.inside s))
      go r l (inr ne) = W.chosen r (chosen_old r l ne)

  -- the first n + 1 generators, before generator n is looked at
  wider : (w : List ℕ) → IsNew p width E (entry (row gens n)) w → IsWorked p width m image gens (E ++ w ∷ [])
      (origins ++ Chosen n ∷ []) (n + 1) i 0
  wider w N = record {
    basis = basis_push w W.basis N;
    count = length_push origins (Chosen n) ∙ ap (λ x. x + 1) W.count ∙ sym (length_push E w);
    named = λ t l. named_there t (cases_lt t (length E)) l;
    made = λ t l. made_there t (cases_lt t (length E)) l;
    taken = rw more (are_in_span_with (take n gens) (row gens n) (are_in_span_trans (take n gens)
        (are_in_span_push E w) W.taken) (in_span_with_new w F wide (in_span_pushed E w) N.multiple));
    inside = λ t l. inside_there t (cases_lt t (length E)) l;
    images = λ h t a b. rw (row_before_push E w t (omega arith)) (wide (image h (entry (row E t)))
        (W.images h t a b));
    partly = λ h l. absurd (omega arith);
    chosen = λ r l. go r l (cases_eq r n);
  }
    where
      wide : (f : ℕ → ℕ) → IsInSpan p E f → IsInSpan p (E ++ w ∷ []) f
      wide f s = in_span_trans (are_in_span_push E w) s

      last_origin : origin_at (origins ++ Chosen n ∷ []) (length E) ≡ Chosen n
      last_origin = ap (origin_at (origins ++ Chosen n ∷ [])) (sym W.count) ∙ origin_last origins (Chosen n)

      named_there : (t : ℕ) → (t < length E) ⊎ (length E ≤ t) → t < length (E ++ w ∷ [])
          → IsOrigin (n + 1) m (origin_at (origins ++ Chosen n ∷ []) t) t
      named_there t (inl b) l = rw (origin_before origins (Chosen n) t (omega (arith, W.count)))
          (origin_more n m t (origin_at origins t) (W.named t b))
      named_there t (inr b) l = let q : t ≡ length E = omega (arith, length_push E w) in
          rw (q, last_origin) (omega arith)

      made_there : (t : ℕ) → (t < length E) ⊎ (length E ≤ t) → t < length (E ++ w ∷ []) →
          IsReducedMultiple p (take t (E ++ w ∷ [])) (source image gens (E ++ w ∷ [])
          (origin_at (origins ++ Chosen n ∷ []) t)) (row (E ++ w ∷ []) t)
      made_there t (inl b) l = rw (
        take-append-le t E (w ∷ []) (omega arith),
        origin_before origins (Chosen n) t (omega (arith, W.count)),
        source_push image gens E w n m t (origin_at origins t) (W.named t b) (omega arith),
        row_before_push E w t b,
      ) (W.made t b)
      made_there t (inr b) l = let q : t ≡ length E = omega (arith, length_push E w) in
          rw (
            q,
            take-append-le (length E) E (w ∷ []) (omega arith),
            take_all (length E) E (omega arith),
            last_origin,
            row_push E w,
          ) N.multiple

      inside_there : (t : ℕ) → (t < length E) ⊎ (length E ≤ t) → t < length (E ++ w ∷ [])
          → IsInSubmodule p m image (take (n + 1) gens) (entry (row (E ++ w ∷ []) t))
      inside_there t (inl b) l = rw (more, row_before_push E w t b) (submodule_more (row gens n)
          (W.inside t b))
      inside_there t (inr b) l = let q : t ≡ length E = omega (arith, length_push E w) in
          rw (q, row_push E w, more) (record {
            in_each = λ rows a c. new_in_span w F
                (λ f h. (submodule_span (λ t l. submodule_more (row gens n) (W.inside t l)) h).in_each rows a
                c) ((submodule_last (take n gens) (row gens n)).in_each rows a c) N.multiple;
          })

      go : (r : ℕ) → r < n + 1 → (r ≡ n) ⊎ (r ≡ n → ⊥)
          → IsChosenRightly p m image gens (origins ++ Chosen n ∷ []) r
      go r l (inl e) = rw e (inl (
        (length origins, rw length_push (omega arith), origin_last origins (Chosen n)),
        (λ s. new_not_in_span w F W.basis N
            (s.in_each E W.taken (closed E linear (λ h t a b. W.images h t a (omega arith))))),
      ))
      go r l (inr ne) = rightly_push gens origins (Chosen n) r (other_not_chosen n r (chosen_old r l ne))
          (W.chosen r (chosen_old r l ne))

  pub row_turn : {E' : List (List ℕ)} {origins' : List Origin} (v : ℕ → ℕ)
      → ((j : ℕ) → IsCongruent p (v j) (entry (row gens n) j)) →
      IsAdded p width E origins v (Chosen n) E' origins' → IsWorked p width m image gens E' origins' (n + 1)
      i 0
  row_turn v e (inl (a, b, s)) = rw (a, b) (row_kept (in_span_congruent e s))
  row_turn v e (inr (w, a, b, N)) = rw (a, b) (wider w (record {
    is_row = N.is_row;
    inside = N.inside;
    monic =
        N.monic;
    multiple = multiple_congruent w e N.multiple;
  }))

-- nothing is left to do
pub worked_all : {p width m : ℕ} {image : ℕ → (ℕ → ℕ) → ℕ
    → ℕ} {gens E : List (List ℕ)} {origins : List Origin} {n i k : ℕ}
    → ((h : ℕ) → h < m → IsLinear p (image h)) →
    n ≡ length gens → i ≡ length E → IsWorked p width m image gens E origins n i k
    → IsNegBasisOf p width m image gens E origins
worked_all {p} {width} {m} {image} {gens} {E} {origins} {n} {i} linear q all W = record {
  basis = W.basis;
  origins_count = W.count;
  named = λ t l. rw (← q) (W.named t l);
  made = W.made;
  generators = generators;
  images = images;
  spanned = λ v s. submodule_span (λ t l. rw whole at (W.inside t l)) s;
  spans = λ v s. s.in_each E generators (closed E linear images);
  chosen = λ r l. W.chosen r (omega arith);
}
  where
    whole : take n gens ≡ gens
    whole = take_all n gens (omega arith)

    generators : AreInSpan p E gens
    generators = rw whole at W.taken

    images : (h t : ℕ) → h < m → t < length E → IsInSpan p E (image h (entry (row E t)))
    images h t a b = W.images h t a (omega arith)

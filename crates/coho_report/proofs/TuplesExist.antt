-- Tuples and combinations in their orders: there is a list of the first ones, and the search has an answer.
use Rattle.std.proofs.Common.{◌≡◌, ◌∙◌, ◌⊎◌, inl, inr, ℕ, zero, suc, ◌<◌, ◌≤◌, List, [], ◌∷◌, ◌++◌}
use Rattle.std.proofs.Common.{length, refl, sym, ap, ap₂, subst, arith}
use Rattle.std.specs.Prelude.{Option, slice_index}
use Rattle.std.specs.List.{AllByRecursion as Each}
use Rattle.std.proofs.lemmas.Bool.{cases_order}
use Rattle.param_test.specs.Combinations as combinations
use Rattle.param_test.specs.Combinations.{IsCombination, AreCandidates, places_from, places, coefficients}
use Rattle.param_test.specs.Firsts.{IsLess}
use Rattle.param_test.specs.Tuples.{IsTuple, IsBefore, IsFound, Ascends, total}
use Rattle.param_test.proofs.Places.{compare-less}
use Rattle.param_test.proofs.Positions as positions
use Rattle.coho_report.proofs.ListsBelow.{all_below, ascends_below, decide_and, decide_ascends, decide_three}
use Rattle.coho_report.proofs.ListsBelow.{decide_each, decide_equal, decide_less, lists_below}
use Rattle.coho_report.proofs.OneCandidates as candidates
use Rattle.coho_report.proofs.OneParameters as parameters
use Rattle.coho_report.proofs.SortedLists.{first_exist, found_exists, members_of}

-- lists of one length
compare-equal : (a b : List ℕ) → length a ≡ length b → (a ≡ b) ⊎ (IsLess a b ⊎ IsLess b a)
compare-equal a b l = go (compare-less a b (omega (arith, l)))
  where
    none : (b w : List ℕ) → length (b ++ w) ≡ length b → b ++ w ≡ b
    none [] [] l = refl
    none [] (x ∷ w) l = absurd (omega (arith, l))
    none (x ∷ b) w l = ap (λ xs. x ∷ xs) (none b w (omega (arith, l)))

    go : IsLess a b ⊎ (IsLess b a ⊎ ((w : List ℕ) × (a ≡ b ++ w))) → (a ≡ b) ⊎ (IsLess a b ⊎ IsLess b a)
    go (inl h) = inr (inl h)
    go (inr (inl h)) = inr (inr h)
    go (inr (inr w)) = inl (w.1 ∙ none b w.0 (sym (ap length w.1) ∙ l))

module _ (ds : List ℕ) (r : ℕ) where
  abbrev Member : List ℕ → Type 0
  Member = IsTuple (length ds) r

  compare_tuples : (a b : List ℕ) → Member a → Member b → (a ≡ b) ⊎ (IsBefore ds a b ⊎ IsBefore ds b a)
  compare_tuples a b A C = go (cases_order (total ds a) (total ds b))
      (compare-equal a b (A.length_is ∙ sym C.length_is))
    where
      go : (total ds a ≡ total ds b) ⊎ ((total ds a < total ds b) ⊎ (total ds b < total ds a))
          → (a ≡ b) ⊎ (IsLess a b ⊎ IsLess b a) → (a ≡ b) ⊎ (IsBefore ds a b ⊎ IsBefore ds b a)
      go (inr (inl l)) k = inr (inl (inl l))
      go (inr (inr l)) k = inr (inr (inl l))
      go (inl e) (inl same) = inl same
      go (inl e) (inr (inl h)) = inr (inl (inr (e, h)))
      go (inl e) (inr (inr h)) = inr (inr (inr (sym e, h)))

  decide_tuple : (t : List ℕ) → Member t ⊎ (Member t → ⊥)
  decide_tuple t = go (decide_and (decide_equal (length t) r) (decide_ascends 0 (length ds) t))
    where
      go : ((length t ≡ r) × Ascends 0 (length ds) t) ⊎ ((length t ≡ r) × Ascends 0 (length ds) t → ⊥)
          → Member t ⊎ (Member t → ⊥)
      go (inl h) = inl (record { length_is = h.0; ascends = h.1 })
      go (inr not) = inr (λ m. not (m.length_is, m.ascends))

  pub search_has_answer : (Passes : List ℕ → Type 0)
      → ((t : List ℕ) → Member t → Passes t ⊎ (Passes t → ⊥))
      → (o : Option (List ℕ)) × IsFound ds r Passes o
  search_has_answer Passes decide =
      let members = members_of Member decide_tuple (lists_below (length ds) r) in
      found_exists Member (IsBefore ds) (parameters.before-self ds) (positions.before-trans ds)
      compare_tuples 5000 Passes decide members.0 members.1
      (λ t m. members.2 t m (all_below (length ds) r t m.length_is
      (ascends_below 0 (length ds) t m.ascends)))

-- there are as many coefficients as places
same-count : (i : ℕ) (c : List ℕ) → length (places_from i c) ≡ length (coefficients c)
same-count i [] = refl
same-count i (zero ∷ c) = same-count (suc i) c
same-count i (suc x ∷ c) = ap suc (same-count (suc i) c)

places-high : (i : ℕ) (c : List ℕ) → Each (λ x. i ≤ x) (places_from i c)
places-high i [] = tt
places-high i (zero ∷ c) = weaker (places_from (suc i) c) (places-high (suc i) c)
  where
    weaker : (xs : List ℕ) → Each (λ x. suc i ≤ x) xs → Each (λ x. i ≤ x) xs
    weaker [] h = tt
    weaker (x ∷ xs) h = ((let l = h.0 in omega (arith, l)), weaker xs h.1)
places-high i (suc x ∷ c) = (omega arith, weaker (places_from (suc i) c) (places-high (suc i) c))
  where
    weaker : (xs : List ℕ) → Each (λ x. suc i ≤ x) xs → Each (λ x. i ≤ x) xs
    weaker [] h = tt
    weaker (x ∷ xs) h = ((let l = h.0 in omega (arith, l)), weaker xs h.1)

not-here : (i : ℕ) (c w : List ℕ) → places_from (suc i) c ≡ i ∷ w → ⊥
not-here i c w e =
    let high = subst (Each (λ x. suc i ≤ x)) e (places-high (suc i) c) in let l = high.0 in omega (arith, l)

abbrev head-of : List ℕ → ℕ
head-of [] = 0
head-of (x ∷ xs) = x

abbrev tail-of : List ℕ → List ℕ
tail-of [] = []
tail-of (x ∷ xs) = xs

-- places and coefficients tell a row of a length
row-told : (i : ℕ) (c d : List ℕ) → length c ≡ length d → places_from i c ≡ places_from i d
    → coefficients c ≡ coefficients d → c ≡ d
row-told i [] [] l p k = refl
row-told i [] (y ∷ d) l p k = absurd (omega (arith, l))
row-told i (x ∷ c) [] l p k = absurd (omega (arith, l))
row-told i (zero ∷ c) (zero ∷ d) l p k = ap (λ xs. zero ∷ xs) (row-told (suc i) c d (omega (arith, l)) p k)
row-told i (zero ∷ c) (suc y ∷ d) l p k = absurd (not-here i c (places_from (suc i) d) p)
row-told i (suc x ∷ c) (zero ∷ d) l p k = absurd (not-here i d (places_from (suc i) c) (sym p))
row-told i (suc x ∷ c) (suc y ∷ d) l p k =
    ap₂ (λ z zs. z ∷ zs) (ap head-of k)
    (row-told (suc i) c d (omega (arith, l)) (ap tail-of p) (ap tail-of k))

module _ (p count : ℕ) where
  compare_combinations : (a b : List ℕ) → IsCombination p count a → IsCombination p count b
      → (a ≡ b) ⊎ (combinations.IsBefore a b ⊎ combinations.IsBefore b a)
  compare_combinations a b A C = go (cases_order (length (places a)) (length (places b)))
    where
      last : length (places a) ≡ length (places b) → places a ≡ places b
          → (coefficients a ≡ coefficients b) ⊎ (IsLess (coefficients a) (coefficients b)
          ⊎ IsLess (coefficients b) (coefficients a))
          → (a ≡ b) ⊎ (combinations.IsBefore a b ⊎ combinations.IsBefore b a)
      last l e (inl k) = inl (row-told 0 a b (A.length_is ∙ sym C.length_is) e k)
      last l e (inr (inl h)) = inr (inl (inr (l, inr (e, h))))
      last l e (inr (inr h)) = inr (inr (inr (sym l, inr (sym e, h))))

      next : length (places a) ≡ length (places b)
          → (places a ≡ places b) ⊎ (IsLess (places a) (places b) ⊎ IsLess (places b) (places a))
          → (a ≡ b) ⊎ (combinations.IsBefore a b ⊎ combinations.IsBefore b a)
      next l (inl e) = last l e (compare-equal (coefficients a) (coefficients b)
          (sym (same-count 0 a) ∙ l ∙ same-count 0 b))
      next l (inr (inl h)) = inr (inl (inr (l, inl h)))
      next l (inr (inr h)) = inr (inr (inr (sym l, inl h)))

      go : (length (places a) ≡ length (places b))
          ⊎ ((length (places a) < length (places b)) ⊎ (length (places b) < length (places a)))
          → (a ≡ b) ⊎ (combinations.IsBefore a b ⊎ combinations.IsBefore b a)
      go (inl l) = next l (compare-equal (places a) (places b) l)
      go (inr (inl l)) = inr (inl (inl l))
      go (inr (inr l)) = inr (inr (inl l))

  decide_combination : (c : List ℕ) → IsCombination p count c ⊎ (IsCombination p count c → ⊥)
  decide_combination c = go (decide_three (decide_equal (length c) count)
      (decide_each (λ x. x < p) (λ x. decide_less x p) c) (decide_equal (slice_index (coefficients c) 0) 1))
    where
      go : ((length c ≡ count) × Each (λ x. x < p) c × (slice_index (coefficients c) 0 ≡ 1))
          ⊎ ((length c ≡ count) × Each (λ x. x < p) c × (slice_index (coefficients c) 0 ≡ 1) → ⊥)
          → IsCombination p count c ⊎ (IsCombination p count c → ⊥)
      go (inl h) = inl (record { length_is = h.0; below = h.1; first_is_one = h.2 })
      go (inr not) = inr (λ m. not (m.length_is, m.below, m.first_is_one))

  pub combinations_exist : (rows : List (List ℕ)) × AreCandidates p count rows
  combinations_exist =
      let members = members_of (IsCombination p count) decide_combination (lists_below p count) in
      first_exist (IsCombination p count) combinations.IsBefore candidates.before-self candidates.before-trans
      compare_combinations members.0 members.1
      (λ c m. members.2 c m (all_below p count c m.length_is m.below)) 63

-- The names of generators are names, and differ.
use Rattle.std.proofs.Common.{◌≡◌, ℕ, zero, suc, ◌+◌, ◌^◌, ◌<◌, ◌≤◌, ◌⊎◌, inl, inr, Bool, true, false, cond}
use Rattle.std.proofs.Common.{eqb, List, [], ◌∷◌, ◌++◌, length, take, get_or, append_assoc, arith, ap, ap₂}
use Rattle.std.proofs.Common.{sym, ◌∙◌, refl}
use Rattle.std.specs.Prelude.{decimal, count_by, codes}
use Rattle.std.specs.List.{AllByRecursion as Each}
use Rattle.std.proofs.lemmas.Bool.{cases_order, false≢true}
use Rattle.std.proofs.lemmas.Fmt.{decimal_injective}
use Rattle.std.proofs.lemmas.List.Sums.{count_by-le-length, sum_by-cons}
use Rattle.std.proofs.lemmas.List.Elements.{recursion_from_All}
use Rattle.std.proofs.Common.{length-take}
use Rattle.limits.specs.declared.TheConstants.{GREATEST_DEGREE}
use Rattle.graded_polynomials.specs.Texts.{Factor, ReadTerm, joined_by, name, ordinal}
use Rattle.graded_polynomials.proofs.Terms.{eqb-self}
use Rattle.graded_polynomials.proofs.TextLemmas.{joined-unique}
use Rattle.polynomial_texts.specs.Grammar.{NamedFactor, NamedTerm, Sum, zero_text, one_text, terms, IsName}
use Rattle.polynomial_texts.specs.Grammar.{is_name_byte}
use Rattle.polynomial_texts.specs.Readings.{AreDegrees, NamesEach, NamesTerms, NamesSum}
use Rattle.polynomial_texts.proofs.Bytes.{Without, each-append, digits-name-bytes, decimal-digits}
use Rattle.polynomial_texts.proofs.Bytes.{digits-without}

degree-small : (ds : List ℕ) (i : ℕ) → Each (λ d. (1 ≤ d) × (d ≤ GREATEST_DEGREE)) ds → get_or ds i 0 < 2 ^ 64
degree-small [] i h = omega arith
degree-small (d ∷ ds) zero h = let l : d ≤ GREATEST_DEGREE = h.0.1 in omega arith
degree-small (d ∷ ds) (suc i) h = degree-small ds i h.1

pub degrees-each : (ds : List ℕ) → AreDegrees ds → Each (λ d. (1 ≤ d) × (d ≤ GREATEST_DEGREE)) ds
degrees-each ds h = recursion_from_All (λ (d : ℕ). (1 ≤ d) × (d ≤ GREATEST_DEGREE)) ds h.range

pub degree-fits : (ds : List ℕ) (i : ℕ) → AreDegrees ds → get_or ds i 0 < 2 ^ 64
degree-fits ds i h = degree-small ds i (degrees-each ds h)

ordinal-fits : (ds : List ℕ) (i : ℕ) → AreDegrees ds → ordinal ds i < 2 ^ 64
ordinal-fits ds i h = omega (
  arith,
  count_by-le-length (λ d. eqb d (get_or ds i 0)) (take i ds),
  length-take i ds,
  h.few,
)

-- x_d_k is a name
pub name-formed : (ds : List ℕ) (i : ℕ) → AreDegrees ds → IsName (name ds i)
name-formed ds i h = (
  refl,
  (
    refl,
    each-append (λ c. is_name_byte c ≡ true) (decimal (get_or ds i 0) ++ codes "_") (decimal (ordinal ds i))
        (each-append (λ c. is_name_byte c ≡ true) (decimal (get_or ds i 0)) (codes "_")
        (digits-name-bytes (decimal (get_or ds i 0)) (decimal-digits (get_or ds i 0) (degree-fits ds i h)))
        (refl, tt))
        (digits-name-bytes (decimal (ordinal ds i)) (decimal-digits (ordinal ds i) (ordinal-fits ds i h))),
  ),
)

positive : (b : Bool) (n : ℕ) → b ≡ true → 0 < cond b 1 0 + n
positive true n h = omega arith
positive false n h = absurd (false≢true h)

count-cons : (d x : ℕ) (ds : List ℕ) → count_by (λ e. eqb e d) (x ∷ ds) ≡ cond (eqb x d) 1 0 + count_by
    (λ e. eqb e d) ds
count-cons d x ds = sum_by-cons (λ e. cond (eqb e d) 1 0) x ds

-- the generators of a degree are counted
count-less : (d : ℕ) (ds : List ℕ) (i j : ℕ) → i < j → i < length ds → get_or ds i 0 ≡ d
    → count_by (λ e. eqb e d) (take i ds) < count_by (λ e. eqb e d) (take j ds)
count-less d [] i j l w e = absurd (omega arith)
count-less d (x ∷ ds) i zero l w e = absurd (omega arith)
count-less d (x ∷ ds) zero (suc j) l w e =
    let h : 0 < count_by (λ e. eqb e d) (x ∷ take j ds) = omega (
      arith,
      count-cons d x (take j ds),
      positive (eqb x d) (count_by (λ e. eqb e d) (take j ds))
          (ap (λ x. eqb x d) e ∙ eqb-self d),
    ) in h
count-less d (x ∷ ds) (suc i) (suc j) l w e =
    let h : count_by (λ e. eqb e d) (x ∷ take i ds) < count_by (λ e. eqb e d) (x ∷ take j ds) =
    omega (
      arith,
      count-cons d x (take i ds),
      count-cons d x (take j ds),
      count-less d ds i j (omega arith) (omega (arith, w)) e,
    ) in h

ordinal-apart : (ds : List ℕ) (i j : ℕ) → i < j → i < length ds → get_or ds i 0 ≡ get_or ds j 0
    → ordinal ds i ≡ ordinal ds j → ⊥
ordinal-apart ds i j l w e k = omega (
  arith,
  count-less (get_or ds j 0) ds i j l w e,
  (let h : ordinal ds i ≡ 1 + count_by (λ x. eqb x (get_or ds j 0)) (take i ds) = ap
      (λ d. 1 + count_by (λ x. eqb x d) (take i ds)) e in h),
  k,
)

name-joined : (ds : List ℕ) (i : ℕ) → joined_by 95
    ((120 ∷ []) ∷ decimal (get_or ds i 0) ∷ decimal (ordinal ds i) ∷ []) ≡ name ds i
name-joined ds i = ap (λ bs. 120 ∷ 95 ∷ bs)
    (sym (append_assoc (decimal (get_or ds i 0)) (95 ∷ []) (decimal (ordinal ds i))))

pieces-plain : (ds : List ℕ) (i : ℕ) → AreDegrees ds
    → Each (Without 95) ((120 ∷ []) ∷ decimal (get_or ds i 0) ∷ decimal (ordinal ds i) ∷ [])
pieces-plain ds i h = (
  ((λ e. absurd (omega arith)), tt),
  (
    digits-without 95 (decimal (get_or ds i 0)) refl (decimal-digits (get_or ds i 0) (degree-fits ds i h)),
    (
      digits-without 95 (decimal (ordinal ds i)) refl (decimal-digits (ordinal ds i) (ordinal-fits ds i h)),
      tt,
    ),
  ),
)

-- no two generators have one name
pub name-unique : (ds : List ℕ) (i j : ℕ) → AreDegrees ds → i < length ds → j < length ds
    → name ds i ≡ name ds j → i ≡ j
name-unique ds i j h l k e = go (cases_order i j)
    (joined-unique 95 ((120 ∷ []) ∷ decimal (get_or ds i 0) ∷ decimal (ordinal ds i) ∷ [])
    ((120 ∷ []) ∷ decimal (get_or ds j 0) ∷ decimal (ordinal ds j) ∷ []) (λ e. cc) (λ e. cc)
    (pieces-plain ds i h) (pieces-plain ds j h) (name-joined ds i ∙ e ∙ sym (name-joined ds j)))
  where
    go : (i ≡ j) ⊎ ((i < j) ⊎ (j < i))
        → ((120 ∷ []) ∷ decimal (get_or ds i 0) ∷ decimal (ordinal ds i) ∷ []) ≡
        ((120 ∷ []) ∷ decimal (get_or ds j 0) ∷ decimal
        (ordinal ds j) ∷ []) → i ≡ j
    go o p = let d : get_or ds i 0 ≡ get_or ds j 0 =
        decimal_injective (get_or ds i 0) (get_or ds j 0) (degree-fits ds i h) (degree-fits ds j h) cc in
        let n : ordinal ds i ≡ ordinal ds j =
        decimal_injective (ordinal ds i) (ordinal ds j) (ordinal-fits ds i h) (ordinal-fits ds j h) cc in
        elim o [
          | inl s ↦ s
          | inr a ↦ elim a [
            | inl l' ↦ absurd (ordinal-apart ds i j l' l d n)
            | inr l' ↦ absurd (ordinal-apart ds j i l' k (sym d) (sym n))
          ]
        ]

factors-named : (ds : List ℕ) (fs : List NamedFactor) (xs ys : List Factor) → AreDegrees ds
    → NamesEach ds fs xs → NamesEach ds fs ys → xs ≡ ys
factors-named ds [] [] [] h a b = refl
factors-named ds [] [] (y ∷ ys) h a b = absurd b
factors-named ds [] (x ∷ xs) ys h a b = absurd a
factors-named ds (f ∷ fs) [] ys h a b = absurd a
factors-named ds (f ∷ fs) (x ∷ xs) [] h a b = absurd b
factors-named ds (f ∷ fs) (x ∷ xs) (y ∷ ys) h a b = ap₂ (λ (x : Factor) xs. x ∷ xs)
    (let make : ℕ → ℕ → Factor = λ i e. record { generator = i; exponent = e } in
    ap₂ make (name-unique ds x.generator y.generator h a.0.within b.0.within (a.0.name_is ∙ sym b.0.name_is))
    (a.0.exponent_is ∙ sym b.0.exponent_is))
    (factors-named ds fs xs ys h a.1 b.1)

terms-named : (ds : List ℕ) (ts : List NamedTerm) (rs ss : List ReadTerm) → AreDegrees ds
    → NamesTerms ds ts rs → NamesTerms ds ts ss → rs ≡ ss
terms-named ds [] [] [] h a b = refl
terms-named ds [] [] (s ∷ ss) h a b = absurd b
terms-named ds [] (r ∷ rs) ss h a b = absurd a
terms-named ds (t ∷ ts) [] ss h a b = absurd a
terms-named ds (t ∷ ts) (r ∷ rs) [] h a b = absurd b
terms-named ds (t ∷ ts) (r ∷ rs) (s ∷ ss) h a b = ap₂ (λ (r : ReadTerm) rs. r ∷ rs)
    (let make : ℕ → List Factor → ReadTerm = λ c xs. record { numeral = c; factors = xs } in
    ap₂ make (a.0.numeral_is ∙ sym b.0.numeral_is)
    (factors-named ds t.factors r.factors s.factors h a.0.factors b.0.factors))
    (terms-named ds ts rs ss h a.1 b.1)

-- a sum stands for one list of terms
pub sum-named : (ds : List ℕ) (s : Sum) (rs ss : List ReadTerm) → AreDegrees ds → NamesSum ds s rs
    → NamesSum ds s ss → rs ≡ ss
sum-named ds zero_text rs ss h a b = a ∙ sym b
sum-named ds one_text rs ss h a b = a ∙ sym b
sum-named ds (terms ts) rs ss h a b = terms-named ds ts rs ss h a b

-- A text has one answer.
use Rattle.std.proofs.Common.{◌≡◌, ◌≢◌, ℕ, ◌+◌, ◌<◌, ◌≤◌, ◌⊎◌, inl, inr, List, [], ◌∷◌, ◌++◌, map, length}
use Rattle.std.proofs.Common.{take, drop, append_assoc, arith, ap, ap₂, sym, subst, ◌∙◌, refl}
use Rattle.std.specs.List.{AllByRecursion as Each}
use Rattle.std.proofs.lemmas.Bool.{cases_order}
use Rattle.std.proofs.lemmas.List.{take-append-drop, take-take}
use Rattle.limits.specs.declared.TheConstants.{GREATEST_DEGREE}
use Rattle.linear_algebra.proofs.Congruences.{congruent_trans, congruent_sym, congruent_eq}
use Rattle.graded_polynomials.specs.Polynomials.{Term, Polynomial, coefficient}
use Rattle.graded_polynomials.specs.Texts.{Factor, ReadTerm, read_value}
use Rattle.graded_polynomials.proofs.Stored.{polynomial-unique}
use Rattle.polynomial_texts.specs.Grammar.{NamedFactor, NamedTerm, Sum, zero_text, one_text, terms, IsTextOf}
use Rattle.polynomial_texts.specs.Grammar.{GoesOn, Stops, PlacedName, factor_text, numeral_length, term_bytes}
use Rattle.polynomial_texts.specs.Grammar.{factor_names, term_names, placed_names}
use Rattle.polynomial_texts.specs.Readings.{AreDegrees, IsUnknown, NamesEach, NamesTerms, NamesSum}
use Rattle.polynomial_texts.specs.Readings.{term_degree, IsFirst, StandsFor, IsReading, HasUnknownName}
use Rattle.polynomial_texts.specs.Readings.{IsTooHigh, IsMixed, Answer, reads, syntax_fault, unknown_name}
use Rattle.polynomial_texts.specs.Readings.{too_high, mixed, IsAnswer}
use Rattle.polynomial_texts.proofs.Bytes.{each-append, each-mapped}
use Rattle.polynomial_texts.proofs.Unique.{sum-unique}
use Rattle.polynomial_texts.proofs.Names.{sum-named}

pub first-unique : {X : Type 0} (P : X → Type 0) (x y : X) (xs : List X) → IsFirst P x xs → IsFirst P y xs
    → x ≡ y
first-unique P x y [] a b = absurd a
first-unique P x y (z ∷ zs) (inl a) (inl b) = a.1 ∙ sym b.1
first-unique P x y (z ∷ zs) (inl a) (inr b) = absurd (b.0 a.0)
first-unique P x y (z ∷ zs) (inr a) (inl b) = absurd (a.0 b.0)
first-unique P x y (z ∷ zs) (inr a) (inr b) = first-unique P x y zs a.1 b.1

pub none-first : {X : Type 0} (P : X → Type 0) (x : X) (xs : List X) → Each (λ y. P y → ⊥) xs → IsFirst P x xs
    → ⊥
none-first P x [] h a = a
none-first P x (z ∷ zs) h (inl a) = h.0 a.0
none-first P x (z ∷ zs) h (inr a) = none-first P x zs h.1 a.1

-- what goes on does so from each of its fronts
pub front-goes-on : (q : ℕ) (front more : List ℕ) → GoesOn q (front ++ more) → GoesOn q front
front-goes-on q front more h = (more ++ h.0, h.1, subst (IsTextOf q h.1) (append_assoc front more h.0) h.2)

take-front : (xs : List ℕ) (n m : ℕ) → n ≤ m → take n xs ++ drop n (take m xs) ≡ take m xs
take-front xs n m l = ap (λ ys. ys ++ drop n (take m xs)) (sym (take-take n m xs l))
    ∙ take-append-drop n (take m xs)

-- a text of the grammar does not stop
pub stops-not : (q : ℕ) (s : Sum) (text : List ℕ) (n : ℕ) → IsTextOf q s text → Stops q text n → ⊥
stops-not q s text n t h = go (cases_order n (length text))
  where
    go : (n ≡ length text) ⊎ ((n < length text) ⊎ (length text < n)) → ⊥
    go (inl e) = h.ending e s t
    go (inr (inl l)) = h.byte l (
      drop (n + 1) text,
      s,
      subst (IsTextOf q s) (sym (take-append-drop (n + 1) text)) t,
    )
    go (inr (inr l)) = omega (arith, h.within)

stops-before : (q : ℕ) (text : List ℕ) (n m : ℕ) → n < m → Stops q text n → Stops q text m → ⊥
stops-before q text n m l h k = h.byte (omega (arith, k.within))
    (front-goes-on q (take (n + 1) text) (drop (n + 1) (take m text))
    (subst (GoesOn q) (sym (take-front text (n + 1) m (omega arith))) k.before))

pub stops-unique : (q : ℕ) (text : List ℕ) (n m : ℕ) → Stops q text n → Stops q text m → n ≡ m
stops-unique q text n m h k = go (cases_order n m)
  where
    go : (n ≡ m) ⊎ ((n < m) ⊎ (m < n)) → n ≡ m
    go (inl e) = e
    go (inr (inl l)) = absurd (stops-before q text n m l h k)
    go (inr (inr l)) = absurd (stops-before q text m n l k h)

abbrev pub Known : List ℕ → PlacedName → Type 0
Known ds n = IsUnknown ds n.name → ⊥

pub factors-known : (ds : List ℕ) (c : ℕ) (fs : List NamedFactor) (xs : List Factor) → NamesEach ds fs xs
    → Each (Known ds) (factor_names c fs)
factors-known ds c [] xs h = tt
factors-known ds c (f ∷ fs) [] h = absurd h
factors-known ds c (f ∷ fs) (x ∷ xs) h = (
  (λ u. u x.generator h.0.within h.0.name_is),
  factors-known ds (c + length (factor_text f) + 1) fs xs h.1,
)

terms-known : (ds : List ℕ) (c : ℕ) (ts : List NamedTerm) (rs : List ReadTerm) → NamesTerms ds ts rs
    → Each (Known ds) (term_names c ts)
terms-known ds c [] rs h = tt
terms-known ds c (t ∷ ts) [] h = absurd h
terms-known ds c (t ∷ ts) (r ∷ rs) h = each-append (Known ds)
    (factor_names (c + numeral_length t.numeral) t.factors)
    (term_names (c + length (term_bytes t) + 1) ts)
    (factors-known ds (c + numeral_length t.numeral) t.factors r.factors h.0.factors)
    (terms-known ds (c + length (term_bytes t) + 1) ts rs h.1)

pub sum-known : (ds : List ℕ) (s : Sum) (rs : List ReadTerm) → NamesSum ds s rs
    → Each (Known ds) (placed_names s)
sum-known ds zero_text rs h = tt
sum-known ds one_text rs h = tt
sum-known ds (terms ts) rs h = terms-known ds 1 ts rs h

module _ (q : ℕ) (ds text : List ℕ) (l : q ≤ 6) (g : AreDegrees ds) where
  same-terms : (s r : Sum) (rs ss : List ReadTerm) → StandsFor q ds text s rs → StandsFor q ds text r ss
      → rs ≡ ss
  same-terms s r rs ss h k = sum-named ds r rs ss g
      (subst (λ s. NamesSum ds s rs) (sum-unique q s r text l h.text_of k.text_of) h.names) k.names

  known-apart : (s : Sum) (rs : List ReadTerm) (c : ℕ) → StandsFor q ds text s rs → HasUnknownName q ds text c
      → ⊥
  known-apart s rs c h u = none-first (λ (n : PlacedName). IsUnknown ds n.name)
      (record { column = c; name = u.name }) (placed_names s)
      (sum-known ds s rs h.names)
      (subst (λ s. IsFirst (λ (n : PlacedName). IsUnknown ds n.name) (record { column = c; name = u.name })
      (placed_names s))
      (sum-unique q u.sum s text l u.text_of h.text_of) u.first)

  unknown-one : (c d : ℕ) → HasUnknownName q ds text c → HasUnknownName q ds text d → c ≡ d
  unknown-one c d u v = ap (λ (n : PlacedName). n.column)
      (first-unique (λ (n : PlacedName). IsUnknown ds n.name) (record { column = c; name = u.name })
      (record { column = d; name = v.name })
      (placed_names v.sum)
      (subst (λ s. IsFirst (λ (n : PlacedName). IsUnknown ds n.name) (record { column = c; name = u.name })
      (placed_names s))
      (sum-unique q u.sum v.sum text l u.text_of v.text_of) u.first) v.first)

  same-degree : (rs : List ReadTerm) (d e : ℕ) → Each (λ r. term_degree ds r ≡ d) rs
      → Each (λ r. term_degree ds r ≡ e) rs
      → (rs ≡ [] → d ≡ 0) → (rs ≡ [] → e ≡ 0) → d ≡ e
  same-degree [] d e a b x y = x refl ∙ sym (y refl)
  same-degree (r ∷ rs) d e a b x y = sym a.0 ∙ b.0

  read-one : (f h : Polynomial) → IsReading q ds text f → IsReading q ds text h → f ≡ h
  read-one f h F H = let make : ℕ → List Term → Polynomial = λ d ts. record { degree = d; terms = ts } in
      ap₂ make
      (same-degree H.terms f.degree h.degree
      (subst (Each (λ r. term_degree ds r ≡ f.degree)) e F.degrees) H.degrees
      (λ n. F.zero_degree (e ∙ n)) H.zero_degree)
      (polynomial-unique q ds f.degree h.degree f.terms h.terms F.polynomial H.polynomial
      record {
        at = λ m. congruent_trans (F.value.at m)
            (congruent_trans (congruent_eq (ap (λ rs. coefficient (read_value q ds rs) m) e))
            (congruent_sym (H.value.at m)));
      })
    where
      e : F.terms ≡ H.terms
      e = same-terms F.sum H.sum F.terms H.terms F.stands_for H.stands_for

  read-low : (f : Polynomial) (d : ℕ) → IsReading q ds text f → IsTooHigh q ds text d → ⊥
  read-low f d F H = none-first (λ e. GREATEST_DEGREE < e) d (map (term_degree ds) F.terms)
      (each-mapped (term_degree ds) (λ r. term_degree ds r ≡ f.degree) (λ e. GREATEST_DEGREE < e
      → ⊥) F.terms (λ r k l. omega (arith, k, F.small)) F.degrees)
      (subst (λ rs. IsFirst (λ e. GREATEST_DEGREE < e) d (map (term_degree ds) rs))
      (same-terms H.sum F.sum H.terms F.terms H.stands_for F.stands_for) H.first)

  mixed-not : (d e c : ℕ) (rs others : List ReadTerm) (leading : ReadTerm) → leading ∷ others ≡ rs
      → Each (λ r. term_degree ds r ≡ c) rs
      → term_degree ds leading ≡ d → IsFirst (λ k. k ≢ d) e (map (term_degree ds) others) → ⊥
  mixed-not d e c [] others leading s h k f = cc
  mixed-not d e c (r ∷ rs) others leading s h k f = none-first (λ k. k ≢ d) e (map (term_degree ds) others)
      (each-mapped (term_degree ds) (λ r. term_degree ds r ≡ c) (λ k. k ≢ d
      → ⊥) others (λ x j n. n (j ∙ sym (first.0) ∙ k)) first.1) f
    where
      first : (term_degree ds leading ≡ c) × Each (λ r. term_degree ds r ≡ c) others
      first = subst (Each (λ r. term_degree ds r ≡ c)) (sym s) h

  read-alike : (f : Polynomial) (d e : ℕ) → IsReading q ds text f → IsMixed q ds text d e → ⊥
  read-alike f d e F M = mixed-not d e f.degree F.terms M.others M.leading
      (same-terms M.sum F.sum (M.leading ∷ M.others) F.terms M.stands_for F.stands_for) F.degrees M.degree_is
      M.first

  high-one : (d e : ℕ) → IsTooHigh q ds text d → IsTooHigh q ds text e → d ≡ e
  high-one d e H K = first-unique (λ e. GREATEST_DEGREE < e) d e (map (term_degree ds) K.terms)
      (subst (λ rs. IsFirst (λ e. GREATEST_DEGREE < e) d (map (term_degree ds) rs))
      (same-terms H.sum K.sum H.terms K.terms H.stands_for K.stands_for)
      H.first) K.first

  high-mixed : (c d e : ℕ) → IsTooHigh q ds text c → IsMixed q ds text d e → ⊥
  high-mixed c d e H M = none-first (λ e. GREATEST_DEGREE < e) c (map (term_degree ds) (M.leading ∷ M.others))
      (each-mapped (term_degree ds) (λ r. term_degree ds r ≤ GREATEST_DEGREE) (λ e. GREATEST_DEGREE < e
      → ⊥) (M.leading ∷ M.others) (λ r k l. omega arith) M.small)
      (subst (λ rs. IsFirst (λ e. GREATEST_DEGREE < e) c (map (term_degree ds) rs))
      (same-terms H.sum M.sum H.terms (M.leading ∷ M.others) H.stands_for M.stands_for) H.first)

  mixed-one : (d e c b : ℕ) → IsMixed q ds text d e → IsMixed q ds text c b → mixed d e ≡ mixed c b
  mixed-one d e c b M N = ap₂ mixed leading (first-unique (λ k. k ≢ c) e b (map (term_degree ds) N.others)
      (subst (λ rs. IsFirst (λ k. k ≢ c) e (map (term_degree ds) rs))
      (let s : M.others ≡ N.others = cc same in s)
      (subst (λ d. IsFirst (λ k. k ≢ d) e (map (term_degree ds) M.others)) leading M.first)) N.first)
    where
      same : (M.leading ∷ M.others) ≡ (N.leading ∷ N.others)
      same = same-terms M.sum N.sum (M.leading ∷ M.others) (N.leading ∷ N.others) M.stands_for N.stands_for

      leading : d ≡ c
      leading = sym M.degree_is ∙ ap (term_degree ds) (let s : M.leading ≡ N.leading = cc same in s)
          ∙ N.degree_is

  pub one-answer : (a b : Answer) → IsAnswer q ds text a → IsAnswer q ds text b → a ≡ b
  one-answer (reads f) (reads h) A B = ap reads (read-one f h A B)
  one-answer (reads f) (syntax_fault c) A B = absurd (stops-not q A.sum text B.0 A.stands_for.text_of B.2)
  one-answer (reads f) (unknown_name c) A B = absurd (known-apart A.sum A.terms c A.stands_for B)
  one-answer (reads f) (too_high d) A B = absurd (read-low f d A B)
  one-answer (reads f) (mixed d e) A B = absurd (read-alike f d e A B)
  one-answer (syntax_fault c) (reads h) A B = absurd (stops-not q B.sum text A.0 B.stands_for.text_of A.2)
  one-answer (syntax_fault c) (syntax_fault d) A B =
      ap syntax_fault (A.1 ∙ ap (λ n. n + 1) (stops-unique q text A.0 B.0 A.2 B.2) ∙ sym B.1)
  one-answer (syntax_fault c) (unknown_name d) A B = absurd (stops-not q B.sum text A.0 B.text_of A.2)
  one-answer (syntax_fault c) (too_high d) A B = absurd (stops-not q B.sum text A.0 B.stands_for.text_of A.2)
  one-answer (syntax_fault c) (mixed d e) A B = absurd (stops-not q B.sum text A.0 B.stands_for.text_of A.2)
  one-answer (unknown_name c) (reads h) A B = absurd (known-apart B.sum B.terms c B.stands_for A)
  one-answer (unknown_name c) (syntax_fault d) A B = absurd (stops-not q A.sum text B.0 A.text_of B.2)
  one-answer (unknown_name c) (unknown_name d) A B = ap unknown_name (unknown-one c d A B)
  one-answer (unknown_name c) (too_high d) A B = absurd (known-apart B.sum B.terms c B.stands_for A)
  one-answer (unknown_name c) (mixed d e) A B =
      absurd (known-apart B.sum (B.leading ∷ B.others) c B.stands_for A)
  one-answer (too_high c) (reads h) A B = absurd (read-low h c B A)
  one-answer (too_high c) (syntax_fault d) A B = absurd (stops-not q A.sum text B.0 A.stands_for.text_of B.2)
  one-answer (too_high c) (unknown_name d) A B = absurd (known-apart A.sum A.terms d A.stands_for B)
  one-answer (too_high c) (too_high d) A B = ap too_high (high-one c d A B)
  one-answer (too_high c) (mixed d e) A B = absurd (high-mixed c d e A B)
  one-answer (mixed c b) (reads h) A B = absurd (read-alike h c b B A)
  one-answer (mixed c b) (syntax_fault d) A B = absurd (stops-not q A.sum text B.0 A.stands_for.text_of B.2)
  one-answer (mixed c b) (unknown_name d) A B =
      absurd (known-apart A.sum (A.leading ∷ A.others) d A.stands_for B)
  one-answer (mixed c b) (too_high d) A B = absurd (high-mixed d c b B A)
  one-answer (mixed c b) (mixed d e) A B = mixed-one c b d e A B

-- The list of all critical rows of a degree.
use Rattle.std.proofs.Common.{◌≡◌, ℕ, zero, suc, ◌+◌, ◌*◌, ◌<◌, ◌≤◌, List, [], ◌∷◌, ◌++◌, length, true, false}
use Rattle.std.proofs.Common.{◌⊎◌, inl, inr, arith, ap, ap₂, sym, ◌∙◌, refl}
use Rattle.std.specs.List.{AllByRecursion as Each}
use Rattle.std.proofs.lemmas.Bool.{cases_Bool, cases_lt, cases_eq}
use Rattle.std.proofs.lemmas.List.{get_or_past}
use Rattle.linear_algebra.specs.Modular.{IsCongruent, IsFieldModulo}
use Rattle.linear_algebra.specs.Rows.{entry, IsInSpan}
use Rattle.linear_algebra.proofs.Congruences.{congruent_eq, congruent_trans, congruent_sym, congruent_mod}
use Rattle.linear_algebra.proofs.Spans.{in_span_row, in_span_congruent}
use Rattle.graded_polynomials.specs.Monomials.{degree, sign, is_exterior}
use Rattle.graded_polynomials.specs.Polynomials.{Term, Polynomial, IsOneOf}
use Rattle.graded_polynomials.proofs.Terms.{each-append, false≢true}
use Rattle.graded_algebra.specs.Algebras.{Generator, degrees, times, IsGradedCommutative}
use Rattle.graded_algebra.specs.Presentations.{IsRelations}
use Rattle.graded_algebra.specs.Vectors.{Below, Vector, vectors, residue}
use Rattle.graded_algebra.proofs.Ideals.{is-one-of-left, is-one-of-right}
use Rattle.graded_algebra.proofs.VectorLemmas.{plus-residue}
use Rattle.presentation_rows.specs.Values.{vector}
use Rattle.presentation_rows.proofs.RowValues.{times-residue}
use Rattle.ring_completion.specs.Candidates.{IsListed}
use Rattle.ring_completion.specs.Completions.{degree_of, IsGenerator, IsStandardOf, IsClearBefore}
use Rattle.ring_completion.specs.Eliminations.{form_of, exchange, IsExchange, IsSquare, AreCritical}
use Rattle.ring_completion.specs.Listings.{AreStandardLists, standard_of, is_listed, is_clear_before}
use Rattle.ring_completion.proofs.DescendingLists.{each-at, listed-at}
use Rattle.ring_completion.proofs.ListedCandidates.{standard-listed, generator-at}
use Rattle.ring_completion.proofs.Listings.{within-length, listed-if-found, found-if-listed, clear-if-found}
use Rattle.ring_completion.proofs.Listings.{found-if-clear, one-of-listed}
use Rattle.ring_completion.proofs.Quotients.{degree-positive}
use Rattle.ring_completion.proofs.SpanRows.{row_of_vector, vector-of-tabulated}

-- the lists of the members, put together
abbrev flat : {X : Type 0} → (X → List (List ℕ)) → List X → List (List ℕ)
flat f [] = []
flat f (x ∷ xs) = f x ++ flat f xs

each-flat : {X : Type 0} (P : List ℕ → Type 0) (f : X → List (List ℕ)) → ((x : X) → Each P (f x))
    → (xs : List X) → Each P (flat f xs)
each-flat P f h [] = tt
each-flat P f h (x ∷ xs) = each-append P (f x) (flat f xs) (h x) (each-flat P f h xs)

one-of-flat : {X : Type 0} (r : List ℕ) (f : X → List (List ℕ)) (x : X) (xs : List X) → IsOneOf x xs
    → IsOneOf r (f x) → IsOneOf r (flat f xs)
one-of-flat r f x [] o m = absurd o
one-of-flat r f x (y ∷ xs) (inl e) m = is-one-of-left r (f y) (flat f xs) (rw (← e) m)
one-of-flat r f x (y ∷ xs) (inr o) m = is-one-of-right r (f y) (flat f xs) (one-of-flat r f x xs o m)

abbrev numbers : ℕ → List ℕ
numbers zero = []
numbers (suc k) = k ∷ numbers k

one-of-numbers : (i k : ℕ) → i < k → IsOneOf i (numbers k)
one-of-numbers i zero l = absurd (omega (arith, l))
one-of-numbers i (suc k) l = go (cases_eq i k) (λ b. one-of-numbers i k b)
  where
    go : (i ≡ k) ⊎ (i ≡ k → ⊥) → (i < k → IsOneOf i (numbers k)) → IsOneOf i (numbers (suc k))
    go (inl e) ih = inl e
    go (inr ne) ih = inr (ih (omega (arith, l, ne)))

abbrev standards : List (List (List ℕ)) → ℕ → List (List ℕ)
standards lists zero = []
standards lists (suc k) = standard_of lists k ++ standards lists k

one-of-standards : (lists : List (List (List ℕ))) (e k : ℕ) (s : List ℕ) → e < k
    → IsListed (standard_of lists e) s → IsOneOf s (standards lists k)
one-of-standards lists e zero s l i = absurd (omega (arith, l))
one-of-standards lists e (suc k) s l i = go (cases_eq e k) (λ b. one-of-standards lists e k s b i)
  where
    go : (e ≡ k) ⊎ (e ≡ k → ⊥) → (e < k → IsOneOf s (standards lists k)) → IsOneOf s (standards lists (suc k))
    go (inl z) ih = is-one-of-left s (standard_of lists k) (standards lists k)
        (one-of-listed s (standard_of lists k) (rw z at i))
    go (inr ne) ih = is-one-of-right s (standard_of lists k) (standards lists k) (ih (omega (arith, l, ne)))

abbrev picked : {P : Type 0} → List ℕ → P ⊎ (P → ⊥) → List (List ℕ)
picked r (inl p) = r ∷ []
picked r (inr p) = []

each-picked : {P : Type 0} (Q : List ℕ → Type 0) (r : List ℕ) → (P → Q r) → (o : P ⊎ (P → ⊥))
    → Each Q (picked r o)
each-picked Q r h (inl p) = (h p, tt)
each-picked Q r h (inr p) = tt

one-of-picked : {P : Type 0} (r : List ℕ) → P → (o : P ⊎ (P → ⊥)) → IsOneOf r (picked r o)
one-of-picked r p (inl x) = inl refl
one-of-picked r p (inr x) = absurd (x p)

module _ (q : ℕ) (field : IsFieldModulo (suc q)) (mul : ℕ → ℕ → Vector q → Vector q → Vector q)
    (In : ℕ → Vector q → Type 0)
    (L : IsGradedCommutative q (Vector q) (vectors q mul) In) (gs : List (Generator (Vector q)))
    (positive : Each (λ d. 0 < d) (degrees gs))
    (free : (c : ℕ) → times (vectors q mul) c (vectors q mul).one ≡ (vectors q mul).zero
    → IsCongruent (suc q) c 0)
    (n : ℕ) (rs : List Polynomial) (R : IsRelations q (vectors q mul) gs n rs) (lists : List (List (List ℕ)))
    (S : AreStandardLists q (vectors q mul) gs n lists)
    (width : ℕ) (products : ℕ → List ℕ → List Term) (forms : ℕ → List ℕ → List ℕ)
    (short : (i : ℕ) (s : List ℕ) → length (forms i s) ≡ width) where
  abbrev δ : ℕ → ℕ
  δ i = degree_of (degrees gs) i

  past-form : (i : ℕ) (g : List Term) (j : ℕ) → width ≤ j → form_of q mul gs forms i g j ≡ residue q 0
  past-form i [] j l = refl
  past-form i (t ∷ g) j l = ap₂ (λ (x y : Below (suc q)). residue q (x.0 + y.0))
      (times-residue q mul t.scalar (vector q (forms i t.monomial)) j 0
      (ap (residue q)
      (get_or_past (forms i t.monomial) j 0 (let e = short i t.monomial in omega (arith, e, l)))))
      (past-form i g j l)
      ∙ plus-residue q (t.scalar * 0) 0 ∙ ap (residue q) (omega arith)

  past-exchange : (i k : ℕ) (s : List ℕ) (j : ℕ) → width ≤ j → exchange q mul gs products forms i k s j
      ≡ residue q 0
  past-exchange i k s j l =
      ap₂ (λ (x y : Below (suc q)). residue q (x.0 + y.0)) (past-form i (products k s) j l)
      (times-residue q mul (q * sign q (δ i * δ k)) (form_of q mul gs forms k (products i s)) j 0
      (past-form k (products i s) j l))
      ∙ plus-residue q 0 ((q * sign q (δ i * δ k)) * 0) ∙ ap (residue q) (omega arith)

  abbrev Standing : ℕ → List ℕ → Type 0
  Standing i s = IsGenerator q (degrees gs) i × IsStandardOf q (vectors q mul) gs (degree (degrees gs) s) s
      × IsClearBefore i s

  -- a generator and a standard monomial of lower degree without a factor before it
  standing : (i : ℕ) (s : List ℕ) → degree (degrees gs) s < suc n → Standing i s ⊎ (Standing i s → ⊥)
  standing i s b = go (cases_lt i (length (degrees gs)))
      (cases_Bool (is_listed (standard_of lists (degree (degrees gs) s)) s))
      (cases_Bool (is_clear_before i s))
    where
      go : (i < length (degrees gs)) ⊎ (length (degrees gs) ≤ i)
          → (is_listed (standard_of lists (degree (degrees gs) s)) s ≡ true)
          ⊎ (is_listed (standard_of lists (degree (degrees gs) s)) s ≡ false)
          → (is_clear_before i s ≡ true) ⊎ (is_clear_before i s ≡ false) → Standing i s ⊎ (Standing i s → ⊥)
      go (inr l) t c =
          inr (λ p. absurd (let z = within-length (degrees gs) i p.0.within in omega (arith, l, z)))
      go (inl l) (inr t) c =
          inr (λ p. false≢true (sym t ∙ found-if-listed (standard_of lists (degree (degrees gs) s)) s
          ((standard-listed q (Vector q) (vectors q mul) In L gs field positive free n rs R lists S
          (degree (degrees gs) s) b s).0 p.1)))
      go (inl l) (inl t) (inr c) = inr (λ p. false≢true (sym c ∙ found-if-clear i s p.2))
      go (inl l) (inl t) (inl c) = inl (
        generator-at q (degrees gs) i l,
        (standard-listed q (Vector q) (vectors q mul) In L gs field positive free n rs R lists S
            (degree (degrees gs) s) b s).1 (listed-if-found (standard_of lists (degree (degrees gs) s)) s t),
        clear-if-found i s c,
      )

  abbrev IsValid : ℕ → ℕ → List ℕ → Type 0
  IsValid i j s = (i < j) × (j < length (degrees gs)) × (degree (degrees gs) s < suc n) × Standing i s
      × (δ i + (δ j + degree (degrees gs) s) ≡ suc n)

  valid : (i j : ℕ) (s : List ℕ) → IsValid i j s ⊎ (IsValid i j s → ⊥)
  valid i j s = go (cases_lt i j) (cases_lt j (length (degrees gs)))
      (cases_lt (degree (degrees gs) s) (suc n)) (cases_eq (δ i + (δ j + degree (degrees gs) s)) (suc n))
    where
      go : (i < j) ⊎ (j ≤ i) → (j < length (degrees gs)) ⊎ (length (degrees gs) ≤ j)
          → (degree (degrees gs) s < suc n) ⊎ (suc n ≤ degree (degrees gs) s)
          → (δ i + (δ j + degree (degrees gs) s) ≡ suc n) ⊎ (δ i + (δ j + degree (degrees gs) s) ≡ suc n → ⊥)
          → IsValid i j s ⊎ (IsValid i j s → ⊥)
      go (inr a) b c d = inr (λ p. absurd (let x = p.0 in omega (arith, a, x)))
      go (inl a) (inr b) c d = inr (λ p. absurd (let x = p.1 in omega (arith, b, x)))
      go (inl a) (inl b) (inr c) d = inr (λ p. absurd (let x = p.2 in omega (arith, c, x)))
      go (inl a) (inl b) (inl c) (inr d) = inr (λ p. d p.4)
      go (inl a) (inl b) (inl c) (inl d) = pick (standing i s c)
        where
          pick : Standing i s ⊎ (Standing i s → ⊥) → IsValid i j s ⊎ (IsValid i j s → ⊥)
          pick (inl x) = inl (a, b, c, x, d)
          pick (inr x) = inr (λ p. x p.3)

  abbrev IsOdd : ℕ → List ℕ → Type 0
  IsOdd i s = (is_exterior q (δ i) ≡ true) × (degree (degrees gs) s < suc n) × Standing i s
      × (δ i + (δ i + degree (degrees gs) s) ≡ suc n)

  odd : (i : ℕ) (s : List ℕ) → IsOdd i s ⊎ (IsOdd i s → ⊥)
  odd i s = go (cases_Bool (is_exterior q (δ i))) (cases_lt (degree (degrees gs) s) (suc n))
      (cases_eq (δ i + (δ i + degree (degrees gs) s)) (suc n))
    where
      go : (is_exterior q (δ i) ≡ true) ⊎ (is_exterior q (δ i) ≡ false) → (degree (degrees gs) s < suc n)
          ⊎ (suc n ≤ degree (degrees gs) s)
          → (δ i + (δ i + degree (degrees gs) s) ≡ suc n) ⊎ (δ i + (δ i + degree (degrees gs) s) ≡ suc n → ⊥)
          → IsOdd i s ⊎ (IsOdd i s → ⊥)
      go (inr a) c d = inr (λ p. false≢true (sym a ∙ p.0))
      go (inl a) (inr c) d = inr (λ p. absurd (let x = p.1 in omega (arith, c, x)))
      go (inl a) (inl c) (inr d) = inr (λ p. d p.3)
      go (inl a) (inl c) (inl d) = pick (standing i s c)
        where
          pick : Standing i s ⊎ (Standing i s → ⊥) → IsOdd i s ⊎ (IsOdd i s → ⊥)
          pick (inl x) = inl (a, c, x, d)
          pick (inr x) = inr (λ p. x p.2)

  abbrev row-of-exchange : ℕ → ℕ → List ℕ → List ℕ
  row-of-exchange i j s = row_of_vector q width (exchange q mul gs products forms i j s)

  abbrev row-of-square : ℕ → List ℕ → List ℕ
  row-of-square i s = row_of_vector q width (form_of q mul gs forms i (products i s))

  abbrev exchanges-at : ℕ → ℕ → List ℕ → List (List ℕ)
  exchanges-at i j s = picked (row-of-exchange i j s) (valid i j s)

  abbrev squares-at : ℕ → List ℕ → List (List ℕ)
  squares-at i s = picked (row-of-square i s) (odd i s)

  abbrev all-exchanges : List (List ℕ)
  all-exchanges = flat
      (λ i. flat (λ j. flat (exchanges-at i j) (standards lists (suc n))) (numbers (length (degrees gs))))
      (numbers (length (degrees gs)))

  abbrev all-squares : List (List ℕ)
  all-squares = flat (λ i. flat (squares-at i) (standards lists (suc n))) (numbers (length (degrees gs)))

  pub rows : List (List ℕ)
  rows = all-exchanges ++ all-squares

  abbrev IsEither : List ℕ → Type 0
  IsEither r = IsExchange q mul gs (suc n) products forms (vector q r)
      ⊎ IsSquare q mul gs (suc n) products forms (vector q r)

  exchange-row : (i j : ℕ) (s : List ℕ) → IsValid i j s → IsEither (row-of-exchange i j s)
  exchange-row i j s p = inl record {
    first = i;
    second = j;
    low = degree (degrees gs) s;
    monomial = s;
    ordered = p.0;
    first_is = p.3.0;
    second_is = generator-at q (degrees gs) j p.1;
    standard = p.3.1;
    clear = p.3.2;
    degree_is = p.4;
    vector_is = vector-of-tabulated q width (exchange q mul gs products forms i j s) (past-exchange i j s);
  }

  square-row : (i : ℕ) (s : List ℕ) → IsOdd i s → IsEither (row-of-square i s)
  square-row i s p = inr record {
    generator = i;
    low = degree (degrees gs) s;
    monomial = s;
    generator_is = p.2.0;
    exterior = p.0;
    standard = p.2.1;
    clear = p.2.2;
    degree_is = p.3;
    vector_is = vector-of-tabulated q width (form_of q mul gs forms i (products i s))
        (past-form i (products i s));
  }

  -- a row of the list spans its vector
  spanned : (r : List ℕ) (v : Vector q) → vector q r ≡ v → IsListed rows r
      → IsInSpan (suc q) rows (λ j. (v j).0)
  spanned r v e (k, l, z) =
      in_span_congruent (λ j. congruent_trans (congruent_eq (ap (λ (r : List ℕ). entry r j) z))
      (congruent_trans (congruent_sym (congruent_mod (entry r j)))
      (congruent_eq (ap (λ (v : Vector q). (v j).0) e)))) (in_span_row rows k l)

  pub are-critical : AreCritical q mul gs (suc n) products forms rows
  unfolding rows
  are-critical = record {
    each = λ k l. each-at IsEither rows all k l;
    exchanges = λ v x. exchanged v x;
    squares = λ v x. squared v x;
  }
    where
      all : Each IsEither rows
      all = each-append IsEither all-exchanges all-squares
          (each-flat IsEither
          (λ i. flat (λ j. flat (exchanges-at i j) (standards lists (suc n))) (numbers (length (degrees gs))))
          (λ i. each-flat IsEither (λ j. flat (exchanges-at i j) (standards lists (suc n)))
          (λ j. each-flat IsEither (exchanges-at i j)
          (λ s. each-picked IsEither (row-of-exchange i j s) (exchange-row i j s) (valid i j s))
          (standards lists (suc n)))
          (numbers (length (degrees gs)))) (numbers (length (degrees gs))))
          (each-flat IsEither (λ i. flat (squares-at i) (standards lists (suc n)))
          (λ i. each-flat IsEither (squares-at i)
          (λ s. each-picked IsEither (row-of-square i s) (square-row i s) (odd i s))
          (standards lists (suc n))) (numbers (length (degrees gs))))

      exchanged : (v : Vector q) → IsExchange q mul gs (suc n) products forms v
          → IsInSpan (suc q) rows (λ j. (v j).0)
      exchanged v x = spanned (row-of-exchange x.first x.second x.monomial) v
          (vector-of-tabulated q width (exchange q mul gs products forms x.first x.second x.monomial)
          (past-exchange x.first x.second x.monomial) ∙ sym x.vector_is)
          (listed-at _ rows (is-one-of-left _ all-exchanges all-squares
          (one-of-flat _
          (λ i. flat (λ j. flat (exchanges-at i j) (standards lists (suc n))) (numbers (length (degrees gs))))
          x.first (numbers (length (degrees gs)))
          (one-of-numbers x.first (length (degrees gs))
          (within-length (degrees gs) x.first x.first_is.within))
          (one-of-flat _ (λ j. flat (exchanges-at x.first j) (standards lists (suc n))) x.second
          (numbers (length (degrees gs))) (one-of-numbers x.second (length (degrees gs)) inside)
          (one-of-flat _ (exchanges-at x.first x.second) x.monomial (standards lists (suc n))
          (one-of-standards lists (degree (degrees gs) x.monomial) (suc n) x.monomial below
          ((standard-listed q (Vector q) (vectors q mul) In L gs field positive free n rs R lists S
          (degree (degrees gs) x.monomial) below x.monomial).0 standard))
          (one-of-picked (row-of-exchange x.first x.second x.monomial)
          (x.ordered, inside, below, (x.first_is, standard, x.clear), total)
          (valid x.first x.second x.monomial)))))))
        where
          z : degree (degrees gs) x.monomial ≡ x.low
          z = x.standard.monomial.degree_is

          inside : x.second < length (degrees gs)
          inside = within-length (degrees gs) x.second x.second_is.within

          total : δ x.first + (δ x.second + degree (degrees gs) x.monomial) ≡ suc n
          total = rw z x.degree_is

          below : degree (degrees gs) x.monomial < suc n
          below = let p = degree-positive (degrees gs) x.first positive x.first_is.within in
              omega (arith, p, total)

          standard : IsStandardOf q (vectors q mul) gs (degree (degrees gs) x.monomial) x.monomial
          standard = rw z x.standard

      squared : (v : Vector q) → IsSquare q mul gs (suc n) products forms v
          → IsInSpan (suc q) rows (λ j. (v j).0)
      squared v x = spanned (row-of-square x.generator x.monomial) v
          (vector-of-tabulated q width (form_of q mul gs forms x.generator (products x.generator x.monomial))
          (past-form x.generator (products x.generator x.monomial)) ∙ sym x.vector_is)
          (listed-at _ rows (is-one-of-right _ all-exchanges all-squares
          (one-of-flat _ (λ i. flat (squares-at i) (standards lists (suc n))) x.generator
          (numbers (length (degrees gs)))
          (one-of-numbers x.generator (length (degrees gs))
          (within-length (degrees gs) x.generator x.generator_is.within))
          (one-of-flat _ (squares-at x.generator) x.monomial (standards lists (suc n))
          (one-of-standards lists (degree (degrees gs) x.monomial) (suc n) x.monomial below
          ((standard-listed q (Vector q) (vectors q mul) In L gs field positive free n rs R lists S
          (degree (degrees gs) x.monomial) below x.monomial).0 standard))
          (one-of-picked (row-of-square x.generator x.monomial)
          (x.exterior, below, (x.generator_is, standard, x.clear), total) (odd x.generator x.monomial))))))
        where
          z : degree (degrees gs) x.monomial ≡ x.low
          z = x.standard.monomial.degree_is

          total : δ x.generator + (δ x.generator + degree (degrees gs) x.monomial) ≡ suc n
          total = rw z x.degree_is

          below : degree (degrees gs) x.monomial < suc n
          below = let p = degree-positive (degrees gs) x.generator positive x.generator_is.within in
              omega (arith, p, total)

          standard : IsStandardOf q (vectors q mul) gs (degree (degrees gs) x.monomial) x.monomial
          standard = rw z x.standard

-- The automaton runs through every text of the grammar to an end.
use Rattle.std.proofs.Common.{◌≡◌, ◌≢◌, ℕ, ◌+◌, ◌-◌, ◌*◌, ◌/◌, ◌%◌, ◌<◌, ◌≤◌, ◌⊎◌, inl, inr, true, false}
use Rattle.std.proofs.Common.{cond, ◌&&◌, leb, eqb, List, [], ◌∷◌, ◌++◌, map, Option, None, Some, arith, ap}
use Rattle.std.proofs.Common.{sym, subst, ◌∙◌, refl}
use Rattle.std.specs.Prelude.{decimal, IfSome}
use Rattle.std.specs.Option.{option_and_then}
use Rattle.std.specs.List.{AllByRecursion as Each}
use Rattle.std.proofs.lemmas.Bool.{false≢true, cases_lt, cases_eq}
use Rattle.std.proofs.lemmas.Bool.Decides.{nat_tests}
use Rattle.std.proofs.lemmas.Fmt.{decimal_digit, decimal_step}
use Rattle.limits.specs.declared.TheConstants.{GREATEST_DEGREE}
use Rattle.graded_polynomials.specs.Texts.{joined_by, star, plus_sign}
use Rattle.graded_polynomials.proofs.Terms.{eqb-false}
use Rattle.polynomial_texts.specs.Grammar.{NamedFactor, NamedTerm, Sum, zero_text, one_text, terms, is_letter}
use Rattle.polynomial_texts.specs.Grammar.{is_name_byte, IsName, IsFactor, IsTerm, IsSum, IsTextOf, GoesOn}
use Rattle.polynomial_texts.specs.Grammar.{caret, exponent_text, factor_text, numeral_pieces, term_bytes}
use Rattle.polynomial_texts.specs.Grammar.{sum_bytes}
use Rattle.polynomial_texts.proofs.Bytes.{digit-byte}
use Rattle.polynomial_reader.specs.declared.syntax.State.{State}
use Rattle.polynomial_reader.specs.declared.syntax.State.TheVariants.{Start, Zero, One, Coefficient}
use Rattle.polynomial_reader.specs.declared.syntax.State.TheVariants.{TermStart, FactorStart, Name, Caret}
use Rattle.polynomial_reader.specs.declared.syntax.State.TheVariants.{ExponentDigit, Exponent}
use Rattle.polynomial_reader.specs.Automaton.{separator, term_start, exponent_start, goes_on, after, run}
use Rattle.polynomial_reader.specs.Automaton.{is_end}

pub run-append : (q : ℕ) (s : State) (xs ys : List ℕ)
    → run q s (xs ++ ys) ≡ option_and_then (λ t. run q t ys) (run q s xs)
run-append q s [] ys = refl
run-append q s (x ∷ xs) ys = go (after q s x) (λ t. run-append q t xs ys)
  where
    go : (o : Option State) → ((t : State)
        → run q t (xs ++ ys) ≡ option_and_then (λ t. run q t ys) (run q t xs))
        → option_and_then (λ t. run q t (xs ++ ys)) o ≡ option_and_then (λ t. run q t ys)
        (option_and_then (λ t. run q t xs) o)
    go None h = refl
    go (Some t) h = h t

pub run-on : (q : ℕ) (s t u : State) (xs ys : List ℕ) → run q s xs ≡ Some t → run q t ys ≡ Some u
    → run q s (xs ++ ys) ≡ Some u
run-on q s t u xs ys h k = run-append q s xs ys ∙ ap (option_and_then (λ t. run q t ys)) h ∙ k

pub run-step : (q : ℕ) (s t u : State) (b : ℕ) (bs : List ℕ) → after q s b ≡ Some t → run q t bs ≡ Some u
    → run q s (b ∷ bs) ≡ Some u
run-step q s t u b bs h k = ap (option_and_then (λ t. run q t bs)) h ∙ k

-- a term may end here
pub record IsFactorEnd (q : ℕ) (t : State) : Type 0 where
  pub ending : is_end t ≡ true
  pub star_next : after q t 42 ≡ Some FactorStart
  pub plus_next : after q t 43 ≡ Some TermStart

name-end : (q : ℕ) → IsFactorEnd q Name
name-end q = record { ending = refl; star_next = refl; plus_next = refl }

digit-end : (q c : ℕ) → IsFactorEnd q (ExponentDigit c)
digit-end q c = record { ending = refl; star_next = refl; plus_next = refl }

exponent-end : (q : ℕ) → IsFactorEnd q Exponent
exponent-end q = record { ending = refl; star_next = refl; plus_next = refl }

abbrev pub RunsToEnd : ℕ → State → List ℕ → Type 0
RunsToEnd q s bs = (t : State) × (run q s bs ≡ Some t) × IsFactorEnd q t

-- a name may begin here
abbrev pub BeginsName : ℕ → State → Type 0
BeginsName q s = (b : ℕ) → is_letter b ≡ true → after q s b ≡ Some Name

factor-begins : (q : ℕ) → BeginsName q FactorStart
factor-begins q b h = ap (λ t. cond t (Some Name) None) h

term-begins : (q : ℕ) → BeginsName q TermStart
term-begins q b h = ap (λ t. cond t (Some Name) (cond (leb 49 b && leb b (48 + q)) (Some Coefficient) None)) h

letter-not : (b n : ℕ) → is_letter n ≡ false → is_letter b ≡ true → eqb b n ≡ false
letter-not b n z h = eqb-false b n (λ e. false≢true (sym z ∙ ap is_letter (sym e) ∙ h))

start-begins : (q : ℕ) → BeginsName q Start
start-begins q b h = ap (λ t. cond t (Some Zero) (cond (eqb b 49) (Some One) (term_start q b)))
    (letter-not b 48 refl h)
    ∙ ap (λ t. cond t (Some One) (term_start q b)) (letter-not b 49 refl h) ∙ term-begins q b h

name-goes-on : (q : ℕ) (bs : List ℕ) → Each (λ c. is_name_byte c ≡ true) bs → run q Name bs ≡ Some Name
name-goes-on q [] h = refl
name-goes-on q (b ∷ bs) h = run-step q Name Name Name b bs
    (ap (λ t. cond t (Some Name) (cond (eqb b caret) (Some Caret) (separator b))) h.0) (name-goes-on q bs h.1)

name-runs : (q : ℕ) (s : State) (n : List ℕ) → BeginsName q s → IsName n → run q s n ≡ Some Name
name-runs q s [] b h = absurd h
name-runs q s (x ∷ xs) b h = run-step q s Name Name x xs (b x h.0) (name-goes-on q xs h.1)

digit-start : (e : ℕ) → 1 ≤ e → e < 10 → exponent_start (48 + e) ≡ Some (ExponentDigit e)
digit-start e l h = rw (both, back) refl
  where
    both : (leb 49 (48 + e) && leb (48 + e) 57) ≡ true
    both = grind (arith, nat_tests)

    back : 48 + e - 48 ≡ e
    back = omega arith

one-digit : (q e : ℕ) → 1 ≤ e → e < 10 → RunsToEnd q Caret ((48 + e) ∷ [])
one-digit q e l h = (
  ExponentDigit e,
  run-step q Caret (ExponentDigit e) (ExponentDigit e) (48 + e) []
      (digit-start e l h) refl,
  digit-end q e,
)

digit-goes-on : (c d : ℕ) → d < 10 → 10 * c + d ≤ GREATEST_DEGREE → goes_on c (48 + d) ≡ true
digit-goes-on c d l h = rw (digit-byte d l, back) fits
  where
    back : 48 + d - 48 ≡ d
    back = omega arith

    fits : leb (10 * c + d) GREATEST_DEGREE ≡ true
    fits = grind (arith, nat_tests)

two-digits : (q c d : ℕ) → 1 ≤ c → c < 10 → d < 10 → 10 * c + d ≤ GREATEST_DEGREE
    → RunsToEnd q Caret ((48 + c) ∷ (48 + d) ∷ [])
two-digits q c d l k u h = (
  Exponent,
  run-step q Caret (ExponentDigit c) Exponent (48 + c) ((48 + d) ∷ []) (digit-start c l k)
      (run-step q (ExponentDigit c) Exponent Exponent (48 + d) []
      (ap (λ t. cond t (Some Exponent) (separator (48 + d))) (digit-goes-on c d u h)) refl),
  exponent-end q,
)

-- a numeral of two digits
pub decimal-two : (e : ℕ) → 10 ≤ e → e ≤ GREATEST_DEGREE → decimal e ≡ (48 + e / 10) ∷ (48 + e % 10) ∷ []
decimal-two e l h = decimal_step e l (omega arith)
    ∙ ap (λ ds. ds ++ (48 + e % 10) ∷ []) (decimal_digit (e / 10) (omega arith))

decimal-runs : (q e : ℕ) → 1 ≤ e → e ≤ GREATEST_DEGREE → RunsToEnd q Caret (decimal e)
decimal-runs q e l h = go (cases_lt e 10)
  where
    go : (e < 10) ⊎ (10 ≤ e) → RunsToEnd q Caret (decimal e)
    go (inl s) = subst (RunsToEnd q Caret) (sym (decimal_digit e s)) (one-digit q e l s)
    go (inr s) = subst (RunsToEnd q Caret) (sym (decimal-two e s h))
        (two-digits q (e / 10) (e % 10) (omega arith) (omega arith) (omega arith) (omega arith))

exponent-runs : (q : ℕ) (e : Option ℕ) → IfSome e (λ e. (1 ≤ e) × (e ≤ GREATEST_DEGREE))
    → RunsToEnd q Name (exponent_text e)
exponent-runs q None h = (Name, refl, name-end q)
exponent-runs q (Some e) h = let r = decimal-runs q e h.0 h.1 in
    (r.0, run-step q Name Caret r.0 94 (decimal e) refl r.1, r.2)

factor-runs : (q : ℕ) (s : State) (f : NamedFactor) → BeginsName q s → IsFactor f
    → RunsToEnd q s (factor_text f)
factor-runs q s f b h = let r = exponent-runs q f.exponent
    h.exponent in (
      r.0,
      run-on q s Name r.0 f.name (exponent_text f.exponent)
          (name-runs q s f.name b h.name) r.1,
      r.2,
    )

factors-run : (q : ℕ) (s : State) (fs : List NamedFactor) → BeginsName q s → fs ≢ [] → Each IsFactor fs
    → RunsToEnd q s (joined_by star (map factor_text fs))
factors-run q s [] b n h = absurd (n refl)
factors-run q s (f ∷ []) b n h = factor-runs q s f b h.0
factors-run q s (f ∷ g ∷ fs) b n h =
    let r = factor-runs q s f b h.0 in
    let m = factors-run q FactorStart (g ∷ fs) (factor-begins q) (λ e. cc) h.1 in (
      m.0,
      run-on q s r.0 m.0 (factor_text f) (42 ∷ joined_by star (map factor_text (g ∷ fs))) r.1
          (run-step q r.0 FactorStart m.0 42 (joined_by star (map factor_text (g ∷ fs))) r.2.star_next m.1),
      m.2,
    )

-- a term may begin here
pub record BeginsTerm (q : ℕ) (s : State) : Type 0 where
  pub letter : BeginsName q s
  pub numeral : (c : ℕ) → 1 ≤ c → c ≤ q → (t : State) × (after q s (48 + c) ≡ Some t)
      × (after q t 42 ≡ Some FactorStart)

digit-no-letter : (c : ℕ) → c < 10 → is_letter (48 + c) ≡ false
digit-no-letter c h = grind (arith, nat_tests)

numeral-byte : (q c : ℕ) → 1 ≤ c → c ≤ q → (leb 49 (48 + c) && leb (48 + c) (48 + q)) ≡ true
numeral-byte q c l h = grind (arith, nat_tests)

term-numeral : (q c : ℕ) → q ≤ 6 → 1 ≤ c → c ≤ q → term_start q (48 + c) ≡ Some Coefficient
term-numeral q c m l h = ap (λ t. cond t (Some Name)
    (cond (leb 49 (48 + c) && leb (48 + c) (48 + q)) (Some Coefficient) None))
    (digit-no-letter c (omega arith))
    ∙ ap (λ t. cond t (Some Coefficient) None) (numeral-byte q c l h)

term-start-begins : (q : ℕ) → q ≤ 6 → BeginsTerm q TermStart
term-start-begins q m = record {
  letter = term-begins q;
  numeral = λ c l h. (Coefficient, term-numeral q c m l h, refl);
}

start-start-begins : (q : ℕ) → q ≤ 6 → BeginsTerm q Start
start-start-begins q m = record { letter = start-begins q; numeral = λ c l h. go c l h (cases_eq c 1) }
  where
    go : (c : ℕ) → 1 ≤ c → c ≤ q → (c ≡ 1) ⊎ (c ≡ 1 → ⊥) → (t : State) × (after q Start (48 + c) ≡ Some t)
        × (after q t 42 ≡ Some FactorStart)
    go c l h (inl z) = (One, ap (λ c. after q Start (48 + c)) z, refl)
    go c l h (inr n) = (
      Coefficient,
      ap (λ t. cond t (Some Zero) (cond (eqb (48 + c) 49) (Some One) (term_start q (48 + c))))
          (eqb-false (48 + c) 48 (λ z. omega arith))
          ∙ ap (λ t. cond t (Some One) (term_start q (48 + c))) (eqb-false (48 + c) 49 (λ z. n (omega arith)))
          ∙ term-numeral q c m l h,
      refl,
    )

term-runs : (q : ℕ) (s : State) (t : NamedTerm) → q ≤ 6 → BeginsTerm q s → IsTerm q t
    → RunsToEnd q s (term_bytes t)
term-runs q s t m b h = go t.numeral t.factors h.numeral h.some h.each
  where
    go : (n : Option ℕ) (fs : List NamedFactor) → IfSome n (λ c. (1 ≤ c) × (c ≤ q)) → fs ≢ []
        → Each IsFactor fs
        → RunsToEnd q s (joined_by star (numeral_pieces n ++ map factor_text fs))
    go None fs c n h = factors-run q s fs b.letter n h
    go (Some d) [] c n h = absurd (n refl)
    go (Some d) (f ∷ fs) c n h =
        let r = b.numeral d c.0 c.1 in
        let k = factors-run q FactorStart (f ∷ fs) (factor-begins q) n h in (
          k.0,
          ap (λ (ds : List ℕ). run q s (ds ++ 42 ∷ joined_by star (map factor_text (f ∷ fs))))
              (decimal_digit d (omega (arith, c.1)))
              ∙ run-step q s r.0 k.0 (48 + d) (42 ∷ joined_by star (map factor_text (f ∷ fs))) r.1
              (run-step q r.0 FactorStart k.0 42 (joined_by star (map factor_text (f ∷ fs))) r.2 k.1),
          k.2,
        )

terms-run : (q : ℕ) (s : State) (ts : List NamedTerm) → q ≤ 6 → BeginsTerm q s → ts ≢ [] → Each (IsTerm q) ts
    → RunsToEnd q s (joined_by plus_sign (map term_bytes ts))
terms-run q s [] m b n h = absurd (n refl)
terms-run q s (t ∷ []) m b n h = term-runs q s t m b h.0
terms-run q s (t ∷ u ∷ ts) m b n h =
    let r = term-runs q s t m b h.0 in
    let k = terms-run q TermStart (u ∷ ts) m (term-start-begins q m) (λ e. cc) h.1 in (
      k.0,
      run-on q s r.0 k.0 (term_bytes t) (43 ∷ joined_by plus_sign (map term_bytes (u ∷ ts))) r.1
          (run-step q r.0 TermStart k.0 43 (joined_by plus_sign (map term_bytes (u ∷ ts))) r.2.plus_next k.1),
      k.2,
    )

abbrev pub IsAccepted : ℕ → State → List ℕ → Type 0
IsAccepted q s bs = (t : State) × (run q s bs ≡ Some t) × (is_end t ≡ true)

-- every text of the grammar is accepted
pub text-accepted : (q : ℕ) (s : Sum) (text : List ℕ) → q ≤ 6 → IsTextOf q s text → IsAccepted q Start text
text-accepted q s text m h = subst (IsAccepted q Start) h.text_is (go s h.formed)
  where
    go : (s : Sum) → IsSum q s → IsAccepted q Start (sum_bytes s)
    go zero_text k = (Zero, refl, refl)
    go one_text k = (One, refl, refl)
    go (terms ts) k = let r = terms-run q Start ts m (start-start-begins q m) k.0 k.1 in
        (r.0, r.1, r.2.ending)

-- what goes on has a state
pub goes-on-runs : (q : ℕ) (front : List ℕ) → q ≤ 6 → GoesOn q front → run q Start front ≢ None
goes-on-runs q front m h e = let r = text-accepted q h.1 (front ++ h.0) m h.2 in
    let z : None ≡ Some r.0 = sym (run-append q Start front h.0 ∙ ap (option_and_then (λ t. run q t h.0)) e)
    ∙ r.1 in cc

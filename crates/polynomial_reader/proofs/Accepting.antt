-- What the automaton accepts is a text of the grammar.
use Rattle.std.proofs.Common.{◌≡◌, ℕ, ◌+◌, ◌-◌, ◌*◌, ◌<◌, ◌≤◌, ◌⊎◌, inl, inr, true, false, cond, ◌&&◌}
use Rattle.std.proofs.Common.{leb, eqb, List, [], ◌∷◌, ◌++◌, Option, None, Some, arith, ap}
use Rattle.std.proofs.Common.{ap₂, sym, subst, ◌∙◌, refl}
use Rattle.std.specs.Prelude.{decimal, IfSome}
use Rattle.std.specs.List.{AllByRecursion as Each}
use Rattle.std.proofs.lemmas.Bool.{false≢true}
use Rattle.std.proofs.lemmas.Option.{option_and_then_some}
use Rattle.std.proofs.lemmas.Fmt.{decimal_digit}
use Rattle.limits.specs.declared.TheConstants.{GREATEST_DEGREE}
use Rattle.graded_polynomials.proofs.Terms.{eqb-true}
use Rattle.polynomial_texts.specs.Grammar.{NamedFactor, NamedTerm, Sum, zero_text, one_text, terms, is_letter}
use Rattle.polynomial_texts.specs.Grammar.{is_name_byte, IsFactor, IsTerm, IsTextOf, caret, exponent_text}
use Rattle.polynomial_texts.specs.Grammar.{factor_text, term_bytes}
use Rattle.polynomial_reader.specs.declared.syntax.State.{State}
use Rattle.polynomial_reader.specs.declared.syntax.State.TheVariants.{Start, Zero, One, Coefficient}
use Rattle.polynomial_reader.specs.declared.syntax.State.TheVariants.{TermStart, FactorStart, Name, Caret}
use Rattle.polynomial_reader.specs.declared.syntax.State.TheVariants.{ExponentDigit, Exponent}
use Rattle.polynomial_reader.specs.Automaton.{separator, term_start, exponent_start, goes_on, after, run}
use Rattle.polynomial_reader.specs.Automaton.{is_end}
use Rattle.polynomial_reader.proofs.Running.{IsAccepted, decimal-two}
use Rattle.polynomial_reader.proofs.Joining.{more_factors, more_terms, factors-joined, terms-joined}
use Rattle.polynomial_reader.proofs.Joining.{numeral-joined, chosen, in-range, digit-fits}

module _ (q : ℕ) where
  -- the bytes end a factor, and go on
  record Tail (v : List ℕ) : Type 0 where
    factors : List NamedFactor
    others : List NamedTerm
    each : Each IsFactor factors
    each_other : Each (IsTerm q) others
    bytes : v ≡ more_factors factors (more_terms others)

  -- the bytes begin with a factor
  record FactorRest (v : List ℕ) : Type 0 where
    first : NamedFactor
    factors : List NamedFactor
    others : List NamedTerm
    formed : IsFactor first
    each : Each IsFactor factors
    each_other : Each (IsTerm q) others
    bytes : v ≡ factor_text first ++ more_factors factors (more_terms others)

  -- the bytes begin with a term
  record TermRest (v : List ℕ) : Type 0 where
    first : NamedTerm
    others : List NamedTerm
    formed : IsTerm q first
    each : Each (IsTerm q) others
    bytes : v ≡ term_bytes first ++ more_terms others

  -- the bytes end a name
  record NameRest (v : List ℕ) : Type 0 where
    name : List ℕ
    exponent : Option ℕ
    named : Each (λ c. is_name_byte c ≡ true) name
    formed : IfSome exponent (λ e. (1 ≤ e) × (e ≤ GREATEST_DEGREE))
    rest : List ℕ
    tail : Tail rest
    bytes : v ≡ name ++ exponent_text exponent ++ rest

  -- the bytes, behind these digits, are an exponent and go on
  record ExponentRest (before v : List ℕ) : Type 0 where
    exponent : ℕ
    low : 1 ≤ exponent
    high : exponent ≤ GREATEST_DEGREE
    rest : List ℕ
    tail : Tail rest
    bytes : before ++ v ≡ decimal exponent ++ rest

  abbrev StarRest : List ℕ → Type 0
  StarRest v = (w : List ℕ) × (v ≡ 42 ∷ w) × FactorRest w

  abbrev Rest : State → List ℕ → Type 0
  Rest Start v = (s : Sum) × IsTextOf q s v
  Rest Zero v = v ≡ []
  Rest One v = (v ≡ []) ⊎ StarRest v
  Rest Coefficient v = StarRest v
  Rest TermStart v = TermRest v
  Rest FactorStart v = FactorRest v
  Rest Name v = NameRest v
  Rest Caret v = ExponentRest [] v
  Rest (ExponentDigit c) v = 1 ≤ c → c < 10 → ExponentRest ((48 + c) ∷ []) v
  Rest Exponent v = Tail v

  no-tail : Tail []
  no-tail = record { factors = []; others = []; each = tt; each_other = tt; bytes = refl }

  -- an exponent of one digit
  digit-exponent : (e : ℕ) (w : List ℕ) → 1 ≤ e → e < 10 → Tail w → ExponentRest ((48 + e) ∷ []) w
  digit-exponent e w l h r = record {
    exponent = e;
    low = l;
    high = omega arith;
    rest = w;
    tail = r;
    bytes = sym (ap (λ (ds : List ℕ). ds ++ w) (decimal_digit e h));
  }

  at-end : (s : State) → is_end s ≡ true → Rest s []
  at-end Start h = absurd (false≢true h)
  at-end Zero h = refl
  at-end One h = inl refl
  at-end Coefficient h = absurd (false≢true h)
  at-end TermStart h = absurd (false≢true h)
  at-end FactorStart h = absurd (false≢true h)
  at-end Name h = record {
    name = [];
    exponent = None;
    named = tt;
    formed = tt;
    rest = [];
    tail = no-tail;
    bytes = refl;
  }
  at-end Caret h = absurd (false≢true h)
  at-end (ExponentDigit c) h = λ l u. digit-exponent c [] l u no-tail
  at-end Exponent h = no-tail

  -- one more byte behind a factor
  star-tail : (w : List ℕ) → FactorRest w → Tail (42 ∷ w)
  star-tail w r = record {
    factors = r.first ∷ r.factors;
    others = r.others;
    each = (r.formed, r.each);
    each_other = r.each_other;
    bytes = ap (λ w. 42 ∷ w) r.bytes;
  }

  plus-tail : (w : List ℕ) → TermRest w → Tail (43 ∷ w)
  plus-tail w r = record {
    factors = [];
    others = r.first ∷ r.others;
    each = tt;
    each_other = (r.formed, r.each);
    bytes = ap (λ w. 43 ∷ w) r.bytes;
  }

  separator-tail : (b : ℕ) (w : List ℕ) (t : State) → separator b ≡ Some t → Rest t w → Tail (b ∷ w)
  separator-tail b w t h r = go (chosen (eqb b 42) (Some FactorStart)
      (cond (eqb b 43) (Some TermStart) None) t h)
    where
      plus : ((eqb b 43 ≡ true) × (Some TermStart ≡ Some t)) ⊎ ((eqb b 43 ≡ false) × (None ≡ Some t))
          → Tail (b ∷ w)
      plus (inl e) = subst (λ b. Tail (b ∷ w)) (sym (eqb-true b 43 e.0))
          (plus-tail w (let z : t ≡ TermStart = cc e.1 in subst (λ t. Rest t w) z r))
      plus (inr e) = cc e.1

      go : ((eqb b 42 ≡ true) × (Some FactorStart ≡ Some t))
          ⊎ ((eqb b 42 ≡ false) × (cond (eqb b 43) (Some TermStart) None ≡ Some t)) → Tail (b ∷ w)
      go (inl e) = subst (λ b. Tail (b ∷ w)) (sym (eqb-true b 42 e.0))
          (star-tail w (let z : t ≡ FactorStart = cc e.1 in subst (λ t. Rest t w) z r))
      go (inr e) = plus (chosen (eqb b 43) (Some TermStart) None t e.1)

  -- a name, which begins with a letter, makes a factor
  letter-factor : (b : ℕ) (w : List ℕ) → is_letter b ≡ true → NameRest w → FactorRest (b ∷ w)
  letter-factor b w l r = record {
    first = record { name = b ∷ r.name; exponent = r.exponent };
    factors = r.tail.factors;
    others = r.tail.others;
    formed = record { name = (l, r.named); exponent = r.formed };
    each = r.tail.each;
    each_other = r.tail.each_other;
    bytes = ap (λ w. b ∷ w) (r.bytes ∙ ap (λ v. (r.name ++ exponent_text r.exponent) ++ v) r.tail.bytes);
  }

  letter-term : (v : List ℕ) → FactorRest v → TermRest v
  letter-term v r = record {
    first = record { numeral = None; factors = r.first ∷ r.factors };
    others = r.others;
    formed = record { numeral = tt; some = λ e. cc; each = (r.formed, r.each) };
    each = r.each_other;
    bytes = r.bytes ∙ sym (factors-joined r.first r.factors (more_terms r.others));
  }

  numeral-term : (c : ℕ) (v : List ℕ) → q ≤ 6 → 1 ≤ c → c ≤ q → StarRest v → TermRest ((48 + c) ∷ v)
  numeral-term c v m l h r = record {
    first = record { numeral = Some c; factors = r.2.first ∷ r.2.factors };
    others = r.2.others;
    formed = record { numeral = (l, h); some = λ e. cc; each = (r.2.formed, r.2.each) };
    each = r.2.each_other;
    bytes = ap (λ v. (48 + c) ∷ v) (r.1 ∙ ap (λ w. 42 ∷ w) r.2.bytes)
        ∙ sym (numeral-joined c r.2.first r.2.factors (more_terms r.2.others) (omega arith));
  }

  term-sum : (v : List ℕ) → TermRest v → (s : Sum) × IsTextOf q s v
  term-sum v r = (
    terms (r.first ∷ r.others),
    record {
      formed = ((λ e. cc), (r.formed, r.each));
      text_is = terms-joined r.first r.others
          ∙ sym r.bytes;
    },
  )

  star-after : (b : ℕ) (w : List ℕ) (t : State) → cond (eqb b 42) (Some FactorStart) None ≡ Some t → Rest t w
      → StarRest (b ∷ w)
  star-after b w t h r = go (chosen (eqb b 42) (Some FactorStart) None t h)
    where
      go : ((eqb b 42 ≡ true) × (Some FactorStart ≡ Some t)) ⊎ ((eqb b 42 ≡ false) × (None ≡ Some t))
          → StarRest (b ∷ w)
      go (inl e) = (
        w,
        ap (λ b. b ∷ w) (eqb-true b 42 e.0),
        (let z : t ≡ FactorStart = cc e.1 in subst (λ t. Rest t w) z r),
      )
      go (inr e) = cc e.1

  term-after : (b : ℕ) (w : List ℕ) (t : State) → q ≤ 6 → term_start q b ≡ Some t → Rest t w
      → TermRest (b ∷ w)
  term-after b w t m h r = go (chosen (is_letter b) (Some Name)
      (cond (leb 49 b && leb b (48 + q)) (Some Coefficient) None) t h)
    where
      numeral : ((leb 49 b && leb b (48 + q) ≡ true) × (Some Coefficient ≡ Some t)) ⊎
          ((leb 49 b && leb b (48 + q) ≡ false) × (None ≡ Some t)) → TermRest (b ∷ w)
      numeral (inl e) = let k = in-range 49 b (48 + q) e.0 in let z : t ≡ Coefficient = cc e.1 in
          let n : 48 + (b - 48) ≡ b = omega (arith, k.0) in
          subst (λ b. TermRest (b ∷ w)) n
          (numeral-term (b - 48) w m (omega (arith, k.0)) (omega (arith, k.1))
          (subst (λ t. Rest t w) z r))
      numeral (inr e) = cc e.1

      go : ((is_letter b ≡ true) × (Some Name ≡ Some t)) ⊎
          ((is_letter b ≡ false) × (cond (leb 49 b && leb b (48 + q)) (Some Coefficient) None ≡ Some t))
          → TermRest (b ∷ w)
      go (inl e) = letter-term (b ∷ w) (letter-factor b w e.0
          (let z : t ≡ Name = cc e.1 in subst (λ t. Rest t w) z r))
      go (inr e) = numeral (chosen (leb 49 b && leb b (48 + q)) (Some Coefficient) None t e.1)

  start-after : (b : ℕ) (w : List ℕ) (t : State) → q ≤ 6 → 1 ≤ q → after q Start b ≡ Some t → Rest t w
      → (s : Sum) × IsTextOf q s (b ∷ w)
  start-after b w t m l h r = go (chosen (eqb b 48) (Some Zero)
      (cond (eqb b 49) (Some One) (term_start q b)) t h)
    where
      one : (w : List ℕ) → (w ≡ []) ⊎ StarRest w → (s : Sum) × IsTextOf q s (49 ∷ w)
      one w (inl e) = (one_text, record { formed = tt; text_is = ap (λ w. 49 ∷ w) (sym e) })
      one w (inr k) = term-sum (49 ∷ w) (numeral-term 1 w m (omega arith) l k)

      others : ((eqb b 49 ≡ true) × (Some One ≡ Some t)) ⊎ ((eqb b 49 ≡ false) × (term_start q b ≡ Some t))
          → (s : Sum) × IsTextOf q s (b ∷ w)
      others (inl e) = subst (λ b. (s : Sum) × IsTextOf q s (b ∷ w)) (sym (eqb-true b 49 e.0))
          (one w (let z : t ≡ One = cc e.1 in subst (λ t. Rest t w) z r))
      others (inr e) = term-sum (b ∷ w) (term-after b w t m e.1 r)

      go : ((eqb b 48 ≡ true) × (Some Zero ≡ Some t))
          ⊎ ((eqb b 48 ≡ false) × (cond (eqb b 49) (Some One) (term_start q b) ≡ Some t))
          → (s : Sum) × IsTextOf q s (b ∷ w)
      go (inl e) = (
        zero_text,
        record {
          formed = tt;
          text_is = ap₂ (λ b (w : List ℕ). b ∷ w) (sym (eqb-true b 48 e.0))
              (sym (let z : t ≡ Zero = cc e.1 in subst (λ t. Rest t w) z r));
        },
      )
      go (inr e) = others (chosen (eqb b 49) (Some One) (term_start q b) t e.1)

  -- a tail is the rest of a name
  tail-name : (v : List ℕ) → Tail v → NameRest v
  tail-name v r = record {
    name = [];
    exponent = None;
    named = tt;
    formed = tt;
    rest = v;
    tail = r;
    bytes = refl;
  }

  caret-name : (v : List ℕ) → ExponentRest [] v → NameRest (94 ∷ v)
  caret-name v r = record {
    name = [];
    exponent = Some r.exponent;
    named = tt;
    formed = (r.low, r.high);
    rest = r.rest;
    tail = r.tail;
    bytes = ap (λ v. 94 ∷ v) r.bytes;
  }

  more-name : (b : ℕ) (v : List ℕ) → is_name_byte b ≡ true → NameRest v → NameRest (b ∷ v)
  more-name b v h r = record {
    name = b ∷ r.name;
    exponent = r.exponent;
    named = (h, r.named);
    formed = r.formed;
    rest = r.rest;
    tail = r.tail;
    bytes = ap (λ v. b ∷ v) r.bytes;
  }

  name-after : (b : ℕ) (w : List ℕ) (t : State) → after q Name b ≡ Some t → Rest t w → NameRest (b ∷ w)
  name-after b w t h r = go (chosen (is_name_byte b) (Some Name)
      (cond (eqb b caret) (Some Caret) (separator b)) t h)
    where
      others : ((eqb b caret ≡ true) × (Some Caret ≡ Some t))
          ⊎ ((eqb b caret ≡ false) × (separator b ≡ Some t)) → NameRest (b ∷ w)
      others (inl e) = subst (λ b. NameRest (b ∷ w)) (sym (eqb-true b 94 e.0))
          (caret-name w (let z : t ≡ Caret = cc e.1 in subst (λ t. Rest t w) z r))
      others (inr e) = tail-name (b ∷ w) (separator-tail b w t e.1 r)

      go : ((is_name_byte b ≡ true) × (Some Name ≡ Some t)) ⊎
          ((is_name_byte b ≡ false) × (cond (eqb b caret) (Some Caret) (separator b) ≡ Some t))
          → NameRest (b ∷ w)
      go (inl e) = more-name b w e.0 (let z : t ≡ Name = cc e.1 in subst (λ t. Rest t w) z r)
      go (inr e) = others (chosen (eqb b caret) (Some Caret) (separator b) t e.1)

  -- an exponent of two digits
  digits-exponent : (c d : ℕ) (w : List ℕ) → 1 ≤ c → d < 10 → 10 * c + d ≤ GREATEST_DEGREE → Tail w
      → ExponentRest ((48 + c) ∷ []) ((48 + d) ∷ w)
  digits-exponent c d w l h k r = record {
    exponent = 10 * c + d;
    low = omega arith;
    high = k;
    rest = w;
    tail = r;
    bytes = ap₂ (λ c d. (48 + c) ∷ (48 + d) ∷ w) (omega arith) (omega arith)
        ∙ sym (ap (λ (ds : List ℕ). ds ++ w) (decimal-two (10 * c + d) (omega arith) k));
  }

  shifted : (b : ℕ) (w : List ℕ) → ExponentRest (b ∷ []) w → ExponentRest [] (b ∷ w)
  shifted b w r = record {
    exponent = r.exponent;
    low = r.low;
    high = r.high;
    rest = r.rest;
    tail = r.tail;
    bytes = r.bytes;
  }

  caret-after : (b : ℕ) (w : List ℕ) (t : State) → exponent_start b ≡ Some t → Rest t w
      → ExponentRest [] (b ∷ w)
  caret-after b w t h r = go (chosen (leb 49 b && leb b 57) (Some (ExponentDigit (b - 48))) None t h)
    where
      go : ((leb 49 b && leb b 57 ≡ true) × (Some (ExponentDigit (b - 48)) ≡ Some t))
          ⊎ ((leb 49 b && leb b 57 ≡ false) × (None ≡ Some t))
          → ExponentRest [] (b ∷ w)
      go (inl e) = let k = in-range 49 b 57 e.0 in let z : t ≡ ExponentDigit (b - 48) = cc e.1 in
          let n : 48 + (b - 48) ≡ b = omega (arith, k.0) in
          shifted b w (subst (λ b. ExponentRest (b ∷ []) w) n
          ((subst (λ t. Rest t w) z r) (omega (arith, k.0)) (omega (arith, k.1))))
      go (inr e) = cc e.1

  -- a digit, or the end of the factor, behind the first digit c
  exponent-after : (c b : ℕ) (w : List ℕ) (t : State)
      → cond (goes_on c b) (Some Exponent) (separator b) ≡ Some t → Rest t w
      → 1 ≤ c → c < 10 → ExponentRest ((48 + c) ∷ []) (b ∷ w)
  exponent-after c b w t h r l u = go (chosen (goes_on c b) (Some Exponent) (separator b) t h)
    where
      go : ((goes_on c b ≡ true) × (Some Exponent ≡ Some t))
          ⊎ ((goes_on c b ≡ false) × (separator b ≡ Some t))
          → ExponentRest ((48 + c) ∷ []) (b ∷ w)
      go (inl e) = let i = digit-fits c b e.0 in let z : t ≡ Exponent = cc e.1 in let n : 48 + (b - 48) ≡ b =
          omega (arith, i.0) in
          subst (λ b. ExponentRest ((48 + c) ∷ []) (b ∷ w)) n
          (digits-exponent c (b - 48) w l (omega (arith, i.0, i.1)) i.2 (subst (λ t. Rest t w) z r))
      go (inr e) = digit-exponent c (b ∷ w) l u (separator-tail b w t e.1 r)

  letter-after : (b : ℕ) (w : List ℕ) (t : State) → cond (is_letter b) (Some Name) None ≡ Some t → Rest t w
      → FactorRest (b ∷ w)
  letter-after b w t h r = go (chosen (is_letter b) (Some Name) None t h)
    where
      go : ((is_letter b ≡ true) × (Some Name ≡ Some t)) ⊎ ((is_letter b ≡ false) × (None ≡ Some t))
          → FactorRest (b ∷ w)
      go (inl e) = letter-factor b w e.0 (let z : t ≡ Name = cc e.1 in subst (λ t. Rest t w) z r)
      go (inr e) = cc e.1

  step : (s : State) (b : ℕ) (w : List ℕ) (t : State) → q ≤ 6 → 1 ≤ q → after q s b ≡ Some t → Rest t w
      → Rest s (b ∷ w)
  step Start b w t m l h r = start-after b w t m l h r
  step Zero b w t m l h r = cc h
  step One b w t m l h r = inr (star-after b w t h r)
  step Coefficient b w t m l h r = star-after b w t h r
  step TermStart b w t m l h r = term-after b w t m h r
  step FactorStart b w t m l h r = letter-after b w t h r
  step Name b w t m l h r = name-after b w t h r
  step Caret b w t m l h r = caret-after b w t h r
  step (ExponentDigit c) b w t m l h r = exponent-after c b w t h r
  step Exponent b w t m l h r = separator-tail b w t h r

  accepted-rest : (v : List ℕ) (s : State) → q ≤ 6 → 1 ≤ q → IsAccepted q s v → Rest s v
  accepted-rest [] s m l h = at-end s (let z : s ≡ h.0 = cc h.1 in ap is_end z ∙ h.2)
  accepted-rest (b ∷ w) s m l h = option_and_then_some (λ t. run q t w) (after q s b) h.0 h.1
      (λ x e k. step s b w x m l e (accepted-rest w x m l (h.0, k, h.2)))

-- what is accepted is a text of the grammar
pub accepted-text : (q : ℕ) (text : List ℕ) → q ≤ 6 → 1 ≤ q → IsAccepted q Start text → (s : Sum)
    × IsTextOf q s text
accepted-text q text m l h = accepted-rest q text Start m l h

-- Factors, terms and bytes, one after another.
use Rattle.std.proofs.Common.{◌≡◌, ℕ, ◌+◌, ◌-◌, ◌*◌, ◌<◌, ◌≤◌, ◌⊎◌, inl, inr, Bool, true, false, cond, ◌&&◌}
use Rattle.std.proofs.Common.{leb, List, [], ◌∷◌, ◌++◌, map, Option, Some, append_assoc, arith, ap}
use Rattle.std.proofs.Common.{sym, ◌∙◌, refl}
use Rattle.std.proofs.lemmas.Bool.Decides.{nat_tests}
use Rattle.std.proofs.lemmas.List.{append-nil}
use Rattle.std.proofs.lemmas.Fmt.{decimal_digit}
use Rattle.limits.specs.declared.TheConstants.{GREATEST_DEGREE}
use Rattle.graded_polynomials.specs.Texts.{joined_by, star, plus_sign}
use Rattle.polynomial_texts.specs.Grammar.{NamedFactor, NamedTerm}
use Rattle.polynomial_texts.specs.Grammar.{factor_text, term_bytes}
use Rattle.polynomial_reader.specs.Automaton.{goes_on}

-- factors and terms that go on, each behind its separator
abbrev pub more_factors : List NamedFactor → List ℕ → List ℕ
more_factors [] v = v
more_factors (f ∷ fs) v = 42 ∷ (factor_text f ++ more_factors fs v)

abbrev pub more_terms : List NamedTerm → List ℕ
more_terms [] = []
more_terms (t ∷ ts) = 43 ∷ (term_bytes t ++ more_terms ts)

pub factors-joined : (f : NamedFactor) (fs : List NamedFactor) (v : List ℕ)
    → joined_by star (map factor_text (f ∷ fs)) ++ v ≡ factor_text f ++ more_factors fs v
factors-joined f [] v = refl
factors-joined f (g ∷ fs) v = append_assoc (factor_text f) (42 ∷ joined_by star (map factor_text (g ∷ fs))) v
    ∙ ap (λ w. factor_text f ++ 42 ∷ w) (factors-joined g fs v)

pub terms-joined : (t : NamedTerm) (ts : List NamedTerm)
    → joined_by plus_sign (map term_bytes (t ∷ ts)) ≡ term_bytes t ++ more_terms ts
terms-joined t [] = sym (append-nil (term_bytes t))
terms-joined t (u ∷ ts) = ap (λ w. term_bytes t ++ 43 ∷ w) (terms-joined u ts)

-- a numeral before its factors
pub numeral-joined : (c : ℕ) (f : NamedFactor) (fs : List NamedFactor) (v : List ℕ) → c < 10
    → term_bytes (record { numeral = Some c; factors = f ∷ fs }) ++ v ≡ (48 + c) ∷ more_factors (f ∷ fs) v
numeral-joined c f fs v l = ap (λ (ds : List ℕ). (ds ++ 42 ∷ joined_by star (map factor_text (f ∷ fs))) ++ v)
    (decimal_digit c l)
    ∙ ap (λ w. (48 + c) ∷ 42 ∷ w) (factors-joined f fs v)

-- a choice that gives something, by its test
pub chosen : {X : Type 0} (b : Bool) (x y : Option X) (z : X) → cond b x y ≡ Some z
    → ((b ≡ true) × (x ≡ Some z)) ⊎ ((b ≡ false) × (y ≡ Some z))
chosen true x y z h = inl (refl, h)
chosen false x y z h = inr (refl, h)

pub in-range : (a b c : ℕ) → (leb a b && leb b c) ≡ true → (a ≤ b) × (b ≤ c)
in-range a b c h = (grind (arith, nat_tests), grind (arith, nat_tests))

-- a digit that goes on, as a byte
pub digit-fits : (c b : ℕ) → goes_on c b ≡ true → (48 ≤ b) × (b < 58) × (10 * c + (b - 48) ≤ GREATEST_DEGREE)
digit-fits c b h = (grind (arith, nat_tests), grind (arith, nat_tests), grind (arith, nat_tests))

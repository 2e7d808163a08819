-- The bytes of names and numerals: no separator is among them.
use Rattle.std.proofs.Common.{◌≡◌, ◌≢◌, ℕ, ◌+◌, ◌%◌, ◌^◌, ◌<◌, ◌≤◌, Bool, true, false, ◌||◌, eqb, List, []}
use Rattle.std.proofs.Common.{◌∷◌, ◌++◌, map, Option, None, Some, arith, ap, sym, ◌∙◌, refl}
use Rattle.std.specs.Prelude.{decimal}
use Rattle.std.specs.List.{AllByRecursion as Each}
use Rattle.std.proofs.lemmas.Bool.{false≢true}
use Rattle.std.proofs.lemmas.Bool.Decides.{nat_tests}
use Rattle.std.proofs.lemmas.Fmt.{decimal_by_steps}
use Rattle.limits.specs.declared.TheConstants.{GREATEST_DEGREE}
use Rattle.graded_polynomials.specs.Texts.{joined_by, star, plus_sign}
use Rattle.polynomial_texts.specs.Grammar.{NamedFactor, NamedTerm, IsName, IsFactor, IsTerm, is_letter}
use Rattle.polynomial_texts.specs.Grammar.{is_digit, is_name_byte, caret, exponent_text, factor_text}
use Rattle.polynomial_texts.specs.Grammar.{numeral_pieces, term_bytes}

pub each-append : {X : Type 0} (P : X → Type 0) (xs ys : List X) → Each P xs → Each P ys → Each P (xs ++ ys)
each-append P [] ys h k = k
each-append P (x ∷ xs) ys h k = (h.0, each-append P xs ys h.1 k)

pub each-map : {X : Type 0} (P Q : X → Type 0) (xs : List X) → ((x : X) → P x → Q x) → Each P xs → Each Q xs
each-map P Q [] f h = tt
each-map P Q (x ∷ xs) f h = (f x h.0, each-map P Q xs f h.1)

pub each-mapped : {X Y : Type 0} (g : X → Y) (P : X → Type 0) (Q : Y → Type 0) (xs : List X)
    → ((x : X) → P x → Q (g x)) → Each P xs
    → Each Q (map g xs)
each-mapped g P Q [] f h = tt
each-mapped g P Q (x ∷ xs) f h = (f x h.0, each-mapped g P Q xs f h.1)

abbrev pub AreDigits : List ℕ → Type 0
AreDigits bs = Each (λ b. is_digit b ≡ true) bs

abbrev pub AreNameBytes : List ℕ → Type 0
AreNameBytes bs = Each (λ b. is_name_byte b ≡ true) bs

pub digit-byte : (n : ℕ) → n < 10 → is_digit (48 + n) ≡ true
digit-byte n l = grind (arith, nat_tests)

rest-small : (n : ℕ) → n % 10 < 10
rest-small n = omega arith

-- a numeral is digits
pub decimal-digits : (n : ℕ) → n < 2 ^ 64 → AreDigits (decimal n)
decimal-digits n l = decimal_by_steps (λ n ds. AreDigits ds)
    (λ n l. (digit-byte n l, tt))
    (λ n ds l h. each-append (λ b. is_digit b ≡ true) ds ((48 + n % 10) ∷ []) h
    (digit-byte (n % 10) (rest-small n), tt))
    n l

or-right : (a b c : Bool) → b ≡ true → (a || b || c) ≡ true
or-right true b c h = refl
or-right false true c h = refl
or-right false false c h = absurd (false≢true h)

or-left : (a b c : Bool) → a ≡ true → (a || b || c) ≡ true
or-left true b c h = refl
or-left false b c h = absurd (false≢true h)

pub digit-name-byte : (b : ℕ) → is_digit b ≡ true → is_name_byte b ≡ true
digit-name-byte b h = or-right (is_letter b) (is_digit b) (eqb b 95) h

pub letter-name-byte : (b : ℕ) → is_letter b ≡ true → is_name_byte b ≡ true
letter-name-byte b h = or-left (is_letter b) (is_digit b) (eqb b 95) h

pub letter-no-digit : (b : ℕ) → is_letter b ≡ true → is_digit b ≡ true → ⊥
letter-no-digit b h k = grind (arith, nat_tests)

pub name-bytes : (n : List ℕ) → IsName n → AreNameBytes n
name-bytes [] h = absurd h
name-bytes (b ∷ bs) h = (letter-name-byte b h.0, h.1)

pub digits-name-bytes : (ds : List ℕ) → AreDigits ds → AreNameBytes ds
digits-name-bytes ds h = each-map (λ b. is_digit b ≡ true) (λ b. is_name_byte b ≡ true) ds digit-name-byte h

abbrev pub Without : ℕ → List ℕ → Type 0
Without s p = Each (λ b. b ≢ s) p

-- a byte of names is none that is not
pub name-bytes-without : (s : ℕ) (bs : List ℕ) → is_name_byte s ≡ false → AreNameBytes bs → Without s bs
name-bytes-without s bs n h = each-map (λ b. is_name_byte b ≡ true) (λ b. b ≢ s) bs
    (λ b k e. false≢true (sym n ∙ ap is_name_byte (sym e) ∙ k)) h

pub digits-without : (s : ℕ) (bs : List ℕ) → is_digit s ≡ false → AreDigits bs → Without s bs
digits-without s bs n h = each-map (λ b. is_digit b ≡ true) (λ b. b ≢ s) bs
    (λ b k e. false≢true (sym n ∙ ap is_digit (sym e) ∙ k)) h

pub joined-without : (s t : ℕ) (ps : List (List ℕ)) → t ≢ s → Each (Without s) ps → Without s (joined_by t ps)
joined-without s t [] n h = tt
joined-without s t (p ∷ []) n h = h.0
joined-without s t (p ∷ r ∷ ps) n h = each-append (λ b. b ≢ s) p (t ∷ joined_by t (r ∷ ps)) h.0 (
  n,
  joined-without s t (r ∷ ps) n h.1,
)

pub exponent-small : (e : ℕ) → e ≤ GREATEST_DEGREE → e < 2 ^ 64
exponent-small e l = omega arith

-- the bytes of a factor are those of names, and ^
pub factor-without : (s : ℕ) (f : NamedFactor) → is_name_byte s ≡ false → is_digit s ≡ false → caret ≢ s
    → IsFactor f → Without s (factor_text f)
factor-without s f n d c h = each-append (λ b. b ≢ s) f.name (exponent_text f.exponent)
    (name-bytes-without s f.name n (name-bytes f.name h.name)) (exponent f.exponent h.exponent)
  where
    exponent : (e : Option ℕ) → Rattle.std.specs.Prelude.IfSome e (λ e. (1 ≤ e) × (e ≤ GREATEST_DEGREE))
        → Without s (exponent_text e)
    exponent None k = tt
    exponent (Some e) k = (c, digits-without s (decimal e) d (decimal-digits e (exponent-small e k.1)))

pub numeral-without : (s q : ℕ) (t : NamedTerm) → q ≤ 6 → is_digit s ≡ false → IsTerm q t
    → Each (Without s) (numeral_pieces t.numeral)
numeral-without s q t l d h = go t.numeral h.numeral
  where
    go : (c : Option ℕ) → Rattle.std.specs.Prelude.IfSome c (λ c. (1 ≤ c) × (c ≤ q))
        → Each (Without s) (numeral_pieces c)
    go None k = tt
    go (Some c) k = (
      digits-without s (decimal c) d
          (decimal-digits c (let b : c < 2 ^ 64 = omega arith in b)),
      tt,
    )

-- the pieces of a term
abbrev pub term_pieces : NamedTerm → List (List ℕ)
term_pieces t = numeral_pieces t.numeral ++ map factor_text t.factors

pub pieces-without : (s q : ℕ) (t : NamedTerm) → q ≤ 6 → is_name_byte s ≡ false → is_digit s ≡ false
    → caret ≢ s → IsTerm q t
    → Each (Without s) (term_pieces t)
pieces-without s q t l n d c h = each-append (Without s) (numeral_pieces t.numeral)
    (map factor_text t.factors) (numeral-without s q t l d h)
    (each-mapped factor_text IsFactor (Without s) t.factors (λ f k. factor-without s f n d c k) h.each)

pub term-without : (q : ℕ) (t : NamedTerm) → q ≤ 6 → IsTerm q t → Without plus_sign (term_bytes t)
term-without q t l h = joined-without plus_sign star (term_pieces t) (λ e. cc)
    (pieces-without plus_sign q t l refl refl (λ e. cc) h)

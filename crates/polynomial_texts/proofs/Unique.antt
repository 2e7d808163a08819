-- A text stands for one sum.
use Rattle.std.proofs.Common.{◌≡◌, ◌≢◌, ℕ, ◌^◌, ◌<◌, ◌≤◌, true, List, [], ◌∷◌, ◌++◌, map, get_or, Option}
use Rattle.std.proofs.Common.{None, Some, arith, ap, ap₂, sym, ◌∙◌, refl}
use Rattle.std.specs.Prelude.{decimal, IfSome}
use Rattle.std.specs.List.{AllByRecursion as Each}
use Rattle.std.proofs.lemmas.List.{append-nil}
use Rattle.std.proofs.lemmas.Fmt.{decimal_injective}
use Rattle.limits.specs.declared.TheConstants.{GREATEST_DEGREE}
use Rattle.graded_polynomials.specs.Texts.{joined_by, star, plus_sign}
use Rattle.graded_polynomials.proofs.TextLemmas.{joined-unique}
use Rattle.polynomial_texts.specs.Grammar.{NamedFactor, NamedTerm, Sum, zero_text, one_text, terms, IsName}
use Rattle.polynomial_texts.specs.Grammar.{IsFactor, IsTerm, IsSum, IsTextOf, is_digit, caret, exponent_text}
use Rattle.polynomial_texts.specs.Grammar.{factor_text, numeral_pieces, term_bytes, sum_bytes}
use Rattle.polynomial_texts.proofs.Bytes.{each-mapped, AreDigits, Without, decimal-digits, digits-without}
use Rattle.polynomial_texts.proofs.Bytes.{name-bytes-without, name-bytes, letter-no-digit, exponent-small}
use Rattle.polynomial_texts.proofs.Bytes.{term_pieces, pieces-without, term-without}

abbrev pub IsExponent : Option ℕ → Type 0
IsExponent e = IfSome e (λ e. (1 ≤ e) × (e ≤ GREATEST_DEGREE))

abbrev IsNumeral : ℕ → Option ℕ → Type 0
IsNumeral q c = IfSome c (λ c. (1 ≤ c) × (c ≤ q))

abbrev pub exponent_pieces : Option ℕ → List (List ℕ)
exponent_pieces None = []
exponent_pieces (Some e) = decimal e ∷ []

pub factor-joined : (n : List ℕ) (e : Option ℕ)
    → joined_by caret (n ∷ exponent_pieces e) ≡ n ++ exponent_text e
factor-joined n None = sym (append-nil n)
factor-joined n (Some e) = refl

pub exponent-without : (e : Option ℕ) → IsExponent e → Each (Without caret) (exponent_pieces e)
exponent-without None h = tt
exponent-without (Some e) h = (
  digits-without caret (decimal e) refl
      (decimal-digits e (exponent-small e h.1)),
  tt,
)

same-exponent : (e f : Option ℕ) → IsExponent e → IsExponent f → exponent_pieces e ≡ exponent_pieces f → e ≡ f
same-exponent None None h k p = refl
same-exponent None (Some f) h k p = cc
same-exponent (Some e) None h k p = cc
same-exponent (Some e) (Some f) h k p = ap Some
    (decimal_injective e f (exponent-small e h.1) (exponent-small f k.1) cc)

factor-unique : (f g : NamedFactor) → IsFactor f → IsFactor g → factor_text f ≡ factor_text g → f ≡ g
factor-unique f g h k e = go pieces
  where
    pieces : (f.name ∷ exponent_pieces f.exponent) ≡ (g.name ∷ exponent_pieces g.exponent)
    pieces = joined-unique caret (f.name ∷ exponent_pieces f.exponent) (g.name ∷ exponent_pieces g.exponent)
        (λ e. cc) (λ e. cc) (
          name-bytes-without caret f.name refl (name-bytes f.name h.name),
          exponent-without f.exponent h.exponent,
        ) (
          name-bytes-without caret g.name refl (name-bytes g.name k.name),
          exponent-without g.exponent k.exponent,
        )
        (factor-joined f.name f.exponent ∙ e ∙ sym (factor-joined g.name g.exponent))

    go : (f.name ∷ exponent_pieces f.exponent) ≡ (g.name ∷ exponent_pieces g.exponent) → f ≡ g
    go e = let n : f.name ≡ g.name = cc in let x : exponent_pieces f.exponent ≡ exponent_pieces g.exponent =
        cc in
        let make : List ℕ → Option ℕ → NamedFactor = λ n e. record { name = n; exponent = e } in
        ap₂ make n (same-exponent f.exponent g.exponent h.exponent k.exponent x)

pub factors-unique : (fs gs : List NamedFactor) → Each IsFactor fs → Each IsFactor gs
    → map factor_text fs ≡ map factor_text gs → fs ≡ gs
factors-unique [] [] h k e = refl
factors-unique [] (g ∷ gs) h k e = cc
factors-unique (f ∷ fs) [] h k e = cc
factors-unique (f ∷ fs) (g ∷ gs) h k e =
    ap₂ (λ (f : NamedFactor) fs. f ∷ fs) (factor-unique f g h.0 k.0 cc) (factors-unique fs gs h.1 k.1 cc)

-- a factor begins with a letter
pub factor-no-digits : (f : NamedFactor) (ds : List ℕ) → IsFactor f → AreDigits ds → factor_text f ≡ ds → ⊥
factor-no-digits f ds h k e = go f.name ds h.name k e
  where
    go : (n ds : List ℕ) → IsName n → AreDigits ds → n ++ exponent_text f.exponent ≡ ds → ⊥
    go [] ds h k e = absurd h
    go (b ∷ bs) [] h k e = cc
    go (b ∷ bs) (d ∷ ds) h k e = letter-no-digit b h.0 (let s : d ≡ b = cc in ap is_digit (sym s) ∙ k.0)

numeral-small : (q c : ℕ) → q ≤ 6 → c ≤ q → c < 2 ^ 64
numeral-small q c l h = omega arith

term-unique : (q : ℕ) (t r : NamedTerm) → q ≤ 6 → IsTerm q t → IsTerm q r → term_bytes t ≡ term_bytes r
    → t ≡ r
term-unique q t r l h k e = go t.numeral r.numeral t.factors r.factors h.numeral k.numeral h.each k.each
    pieces
  where
    some : (n : Option ℕ) (fs : List NamedFactor) → fs ≢ [] → numeral_pieces n ++ map factor_text fs ≢ []
    some None [] n = absurd (n refl)
    some None (f ∷ fs) n = λ e. cc
    some (Some c) fs n = λ e. cc

    pieces : term_pieces t ≡ term_pieces r
    pieces = joined-unique star (term_pieces t) (term_pieces r) (some t.numeral t.factors h.some)
        (some r.numeral r.factors k.some)
        (pieces-without star q t l refl refl (λ e. cc) h) (pieces-without star q r l refl refl (λ e. cc) k) e

    go : (m n : Option ℕ) (fs gs : List NamedFactor) → IsNumeral q m → IsNumeral q n → Each IsFactor fs
        → Each IsFactor gs
        → numeral_pieces m ++ map factor_text fs ≡ numeral_pieces n ++ map factor_text gs
        → ◌≡◌ {A = NamedTerm} (record { numeral = m; factors = fs }) (record { numeral = n; factors = gs })
    go None None fs gs a b h k e = ap (λ fs. record { numeral = None; factors = fs })
        (factors-unique fs gs h k e)
    go None (Some c) [] gs a b h k e = cc
    go None (Some c) (f ∷ fs) gs a b h k e =
        absurd (factor-no-digits f (decimal c) h.0 (decimal-digits c (numeral-small q c l b.1)) cc)
    go (Some c) None fs [] a b h k e = cc
    go (Some c) None fs (g ∷ gs) a b h k e =
        absurd (factor-no-digits g (decimal c) k.0 (decimal-digits c (numeral-small q c l a.1)) cc)
    go (Some c) (Some d) fs gs a b h k e = ap₂ (λ c fs. record { numeral = Some c; factors = fs })
        (decimal_injective c d (numeral-small q c l a.1) (numeral-small q d l b.1) cc)
        (factors-unique fs gs h k cc)

terms-unique : (q : ℕ) (ts rs : List NamedTerm) → q ≤ 6 → Each (IsTerm q) ts → Each (IsTerm q) rs
    → map term_bytes ts ≡ map term_bytes rs → ts ≡ rs
terms-unique q [] [] l h k e = refl
terms-unique q [] (r ∷ rs) l h k e = cc
terms-unique q (t ∷ ts) [] l h k e = cc
terms-unique q (t ∷ ts) (r ∷ rs) l h k e =
    ap₂ (λ (t : NamedTerm) ts. t ∷ ts) (term-unique q t r l h.0 k.0 cc) (terms-unique q ts rs l h.1 k.1 cc)

mapped-some : {X : Type 0} (f : X → List ℕ) (xs : List X) → xs ≢ [] → map f xs ≢ []
mapped-some f [] n = absurd (n refl)
mapped-some f (x ∷ xs) n = λ e. cc

-- the pieces between the plus signs of a sum
pub sum-pieces : (q : ℕ) (ts : List NamedTerm) (ps : List (List ℕ)) → q ≤ 6 → IsSum q (terms ts) → ps ≢ []
    → Each (Without plus_sign) ps
    → joined_by plus_sign (map term_bytes ts) ≡ joined_by plus_sign ps → map term_bytes ts ≡ ps
sum-pieces q ts ps l h n w e = joined-unique plus_sign (map term_bytes ts) ps
    (mapped-some term_bytes ts h.0) n
    (each-mapped term_bytes (IsTerm q) (Without plus_sign) ts (λ t k. term-without q t l k) h.1) w e

-- a numeral is no term
term-no-numeral : (q : ℕ) (t : NamedTerm) (d : ℕ) → q ≤ 6 → is_digit d ≡ true → IsTerm q t
    → term_bytes t ≡ d ∷ [] → ⊥
term-no-numeral q t d l n h e = go t.numeral t.factors h.some h.each
    (joined-unique star (term_pieces t) ((d ∷ []) ∷ []) (λ z. none t.numeral t.factors h.some z) (λ e. cc)
    (pieces-without star q t l refl refl (λ e. cc) h) (digits-without star (d ∷ []) refl (n, tt), tt) e)
  where
    none : (n : Option ℕ) (fs : List NamedFactor) → fs ≢ [] → numeral_pieces n ++ map factor_text fs ≢ []
    none None [] n = absurd (n refl)
    none None (f ∷ fs) n = λ e. cc
    none (Some c) fs n = λ e. cc

    go : (m : Option ℕ) (fs : List NamedFactor) → fs ≢ [] → Each IsFactor fs
        → numeral_pieces m ++ map factor_text fs ≡ (d ∷ []) ∷ [] → ⊥
    go m [] z h e = z refl
    go None (f ∷ fs) z h e = factor-no-digits f (d ∷ []) h.0 (n, tt) cc
    go (Some c) (f ∷ fs) z h e = cc

terms-no-numeral : (q : ℕ) (ts : List NamedTerm) (d : ℕ) → q ≤ 6 → is_digit d ≡ true → IsSum q (terms ts)
    → sum_bytes (terms ts) ≡ d ∷ [] → ⊥
terms-no-numeral q ts d l n h e = go ts h
    (sum-pieces q ts ((d ∷ []) ∷ []) l h (λ e. cc) (digits-without plus_sign (d ∷ []) refl (n, tt), tt) e)
  where
    go : (ts : List NamedTerm) → IsSum q (terms ts) → map term_bytes ts ≡ (d ∷ []) ∷ [] → ⊥
    go [] h e = h.0 refl
    go (t ∷ ts) h e = term-no-numeral q t d l n h.1.0 cc

bytes-unique : (q : ℕ) (s r : Sum) → q ≤ 6 → IsSum q s → IsSum q r → sum_bytes s ≡ sum_bytes r → s ≡ r
bytes-unique q zero_text zero_text l h k e = refl
bytes-unique q zero_text one_text l h k e = absurd (omega (arith, ap (λ bs. get_or bs 0 0) e))
bytes-unique q zero_text (terms rs) l h k e = absurd (terms-no-numeral q rs 48 l refl k (sym e))
bytes-unique q one_text zero_text l h k e = absurd (omega (arith, ap (λ bs. get_or bs 0 0) e))
bytes-unique q one_text one_text l h k e = refl
bytes-unique q one_text (terms rs) l h k e = absurd (terms-no-numeral q rs 49 l refl k (sym e))
bytes-unique q (terms ts) zero_text l h k e = absurd (terms-no-numeral q ts 48 l refl h e)
bytes-unique q (terms ts) one_text l h k e = absurd (terms-no-numeral q ts 49 l refl h e)
bytes-unique q (terms ts) (terms rs) l h k e = ap terms (terms-unique q ts rs l h.1 k.1
    (sum-pieces q ts (map term_bytes rs) l h (mapped-some term_bytes rs k.0)
    (each-mapped term_bytes (IsTerm q) (Without plus_sign) rs (λ t j. term-without q t l j) k.1) e))

pub sum-unique : (q : ℕ) (s r : Sum) (text : List ℕ) → q ≤ 6 → IsTextOf q s text → IsTextOf q r text → s ≡ r
sum-unique q s r text l h k = bytes-unique q s r l h.formed k.formed (h.text_is ∙ sym k.text_is)

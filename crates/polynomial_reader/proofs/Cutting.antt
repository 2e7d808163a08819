-- Terms and factors are cut into their numerals, names and exponents.
use Rattle.std.proofs.Common.{◌≡◌, ◌≢◌, ℕ, suc, ◌+◌, ◌-◌, ◌*◌, ◌/◌, ◌%◌, ◌<◌, ◌≤◌, ◌⊎◌, inl, inr, true, false}
use Rattle.std.proofs.Common.{eqb, List, [], ◌∷◌, ◌++◌, map, length, take, drop, get_or, All, Option, None}
use Rattle.std.proofs.Common.{Some, arith, ap, sym, ◌∙◌, refl, length-drop}
use Rattle.std.specs.Prelude.{decimal, IfSome}
use Rattle.std.specs.List.{slice_split, AllByRecursion as Each, join_with_byte}
use Rattle.std.proofs.lemmas.Bool.{cases_lt}
use Rattle.std.proofs.lemmas.List.{take_all}
use Rattle.std.proofs.lemmas.List.Elements.{All-from_recursion}
use Rattle.std.proofs.lemmas.List.Splits.{slice_split_at, slice_split_none, length-slice_split}
use Rattle.std.proofs.lemmas.List.Splits.{join_with_byte-slice_split}
use Rattle.std.proofs.lemmas.Fmt.{decimal_digit}
use Rattle.limits.specs.declared.TheConstants.{GREATEST_DEGREE}
use Rattle.graded_polynomials.specs.Texts.{joined_by, star}
use Rattle.graded_polynomials.proofs.Terms.{eqb-self, eqb-false}
use Rattle.polynomial_texts.specs.Grammar.{NamedFactor, NamedTerm, IsName, IsFactor, IsTerm, is_letter}
use Rattle.polynomial_texts.specs.Grammar.{is_digit, exponent_text, factor_text, term_bytes}
use Rattle.polynomial_texts.specs.Readings.{number}
use Rattle.polynomial_texts.proofs.Bytes.{Without, digit-byte, each-map, letter-no-digit, name-bytes}
use Rattle.polynomial_texts.proofs.Bytes.{name-bytes-without}
use Rattle.polynomial_texts.proofs.Unique.{exponent_pieces, factor-joined, exponent-without, IsExponent}
use Rattle.polynomial_reader.proofs.Running.{decimal-two}

-- a numeral up to the greatest degree has one or two digits
numeral-digits : (e : ℕ) → e ≤ GREATEST_DEGREE
    → ((decimal e ≡ (48 + e) ∷ []) × (e < 10))
    ⊎ ((decimal e ≡ (48 + e / 10) ∷ (48 + e % 10) ∷ []) × (e / 10 < 10) × (e % 10 < 10))
numeral-digits e h = go (cases_lt e 10)
  where
    go : (e < 10) ⊎ (10 ≤ e) → ((decimal e ≡ (48 + e) ∷ []) × (e < 10)) ⊎
        ((decimal e ≡ (48 + e / 10) ∷ (48 + e % 10) ∷ []) × (e / 10 < 10) × (e % 10 < 10))
    go (inl l) = inl (decimal_digit e l, l)
    go (inr l) = inr (decimal-two e l h, omega arith, omega arith)

-- the byte at i is the digit d
digit-at : (ds bs : List ℕ) (i d r : ℕ) → ds ≡ bs → d < 10 → get_or bs i 0 ≡ 48 + d
    → (is_digit (get_or ds i 0) ≡ true → 48 + r ≡ get_or ds i 0) → r ≡ d
digit-at ds bs i d r e l g v = let b : get_or ds i 0 ≡ 48 + d = ap (λ ds. get_or ds i 0) e
    ∙ g in let k = v (ap is_digit b ∙ digit-byte d l) in omega (arith, k, b)

pub digit-value : (e r : ℕ) (ds : List ℕ) → e ≤ GREATEST_DEGREE → decimal e ≡ ds → length ds < 2
    → (is_digit (get_or ds 0 0) ≡ true → 48 + r ≡ get_or ds 0 0) → r ≡ e
digit-value e r ds h k l v = go (numeral-digits e h)
  where
    go : ((decimal e ≡ (48 + e) ∷ []) × (e < 10))
        ⊎ ((decimal e ≡ (48 + e / 10) ∷ (48 + e % 10) ∷ []) × (e / 10 < 10) × (e % 10 < 10)) → r ≡ e
    go (inl p) = digit-at ds ((48 + e) ∷ []) 0 e r (sym k ∙ p.0) p.1 refl v
    go (inr p) = absurd (let n : length ds ≡ 2 = ap length (sym k ∙ p.0) in omega arith)

pub digits-value : (e r s : ℕ) (ds : List ℕ) → e ≤ GREATEST_DEGREE → decimal e ≡ ds → 2 ≤ length ds
    → (is_digit (get_or ds 0 0) ≡ true → 48 + r ≡ get_or ds 0 0)
    → (is_digit (get_or ds 1 0) ≡ true → 48 + s ≡ get_or ds 1 0) → 10 * r + s ≡ e
digits-value e r s ds h k l v w = go (numeral-digits e h)
  where
    go : ((decimal e ≡ (48 + e) ∷ []) × (e < 10))
        ⊎ ((decimal e ≡ (48 + e / 10) ∷ (48 + e % 10) ∷ []) × (e / 10 < 10) × (e % 10 < 10))
        → 10 * r + s ≡ e
    go (inl p) = absurd (let n : length ds ≡ 1 = ap length (sym k ∙ p.0) in omega arith)
    go (inr p) = let a = digit-at ds ((48 + e / 10) ∷ (48 + e % 10) ∷ []) 0 (e / 10) r (sym k
        ∙ p.0) p.1 refl v in
        let b = digit-at ds ((48 + e / 10) ∷ (48 + e % 10) ∷ []) 1 (e % 10) s (sym k ∙ p.0) p.2 refl w in
        omega (arith, a, b)

pub numeral-length : (e : ℕ) (ds : List ℕ) → e ≤ GREATEST_DEGREE → decimal e ≡ ds → (1 ≤ length ds)
    × (length ds ≤ 2)
numeral-length e ds h k = go (numeral-digits e h)
  where
    go : ((decimal e ≡ (48 + e) ∷ []) × (e < 10))
        ⊎ ((decimal e ≡ (48 + e / 10) ∷ (48 + e % 10) ∷ []) × (e / 10 < 10) × (e % 10 < 10))
        → (1 ≤ length ds) × (length ds ≤ 2)
    go (inl p) = let n : length ds ≡ 1 = ap length (sym k ∙ p.0) in (omega arith, omega arith)
    go (inr p) = let n : length ds ≡ 2 = ap length (sym k ∙ p.0) in (omega arith, omega arith)

none-passes : (s : ℕ) (p : List ℕ) → Without s p → All (λ b. eqb b s ≡ false) p
none-passes s p h = All-from_recursion (λ b. eqb b s ≡ false) p
    (each-map (λ b. b ≢ s) (λ b. eqb b s ≡ false) p (λ b n. eqb-false b s n) h)

-- pieces without the separator are those of which they are joined
pub joined-split : (s : ℕ) (ps : List (List ℕ)) → ps ≢ [] → Each (Without s) ps
    → slice_split (λ b. eqb b s) (joined_by s ps) ≡ ps
joined-split s [] n h = absurd (n refl)
joined-split s (p ∷ []) n h = slice_split_none (λ b. eqb b s) p (none-passes s p h.0)
joined-split s (p ∷ r ∷ ps) n h = slice_split_at (λ b. eqb b s) p s (joined_by s (r ∷ ps))
    (none-passes s p h.0) (eqb-self s)
    ∙ ap (λ ps. p ∷ ps) (joined-split s (r ∷ ps) (λ e. cc) h.1)

not-at : (s : ℕ) (n : List ℕ) → All (λ y. y ≢ s) n → All (λ b. eqb b s ≡ false) n
not-at s n h i d l = eqb-false (get_or n i d) s (h i d l)

factor-split : (f : NamedFactor) (piece : List ℕ) → IsFactor f → factor_text f ≡ piece
    → slice_split (λ b. eqb b 94) piece ≡ f.name ∷ exponent_pieces f.exponent
factor-split f piece h k = ap (slice_split (λ b. eqb b 94)) (sym k ∙ sym (factor-joined f.name f.exponent))
    ∙ joined-split 94 (f.name ∷ exponent_pieces f.exponent) (λ e. cc)
    (name-bytes-without 94 f.name refl (name-bytes f.name h.name), exponent-without f.exponent h.exponent)

-- a factor that ^ cuts
pub record IsCut (f : NamedFactor) (n ds : List ℕ) : Type 0 where
  pub name_is : n ≡ f.name
  pub exponent : ℕ
  pub exponent_is : f.exponent ≡ Some exponent
  pub small : exponent ≤ GREATEST_DEGREE
  pub digits : decimal exponent ≡ ds

pub cut-some : (f : NamedFactor) (piece n ds : List ℕ) → IsFactor f → factor_text f ≡ piece
    → All (λ y. y ≢ 94) n → piece ≡ n ++ 94 ∷ ds
    → IsCut f n ds
cut-some f piece n ds h k w e = go f.exponent h.exponent refl (sym parts ∙ factor-split f piece h k)
  where
    parts : slice_split (λ b. eqb b 94) piece ≡ n ∷ slice_split (λ b. eqb b 94) ds
    parts = ap (slice_split (λ b. eqb b 94)) e ∙ slice_split_at (λ b. eqb b 94) n 94 ds (not-at 94 n w) refl

    go : (x : Option ℕ) → IsExponent x → f.exponent ≡ x
        → (n ∷ slice_split (λ b. eqb b 94) ds) ≡ f.name ∷ exponent_pieces x → IsCut f n ds
    go None i s z = absurd (omega (
      arith,
      length-slice_split (λ b. eqb b 94) ds,
      (let l : length (slice_split (λ b. eqb b 94) ds) ≡ 0 = ap length
          (let y : slice_split (λ b. eqb b 94) ds ≡ [] = cc in y) in l),
    ))
    go (Some x) i s z = record {
      name_is = cc;
      exponent = x;
      exponent_is = s;
      small = i.1;
      digits = sym (sym (join_with_byte-slice_split 94 ds)
          ∙ ap (join_with_byte 94) (let y : slice_split (λ b. eqb b 94) ds ≡ decimal x ∷ [] = cc in y));
    }

-- a factor that no ^ cuts
pub cut-none : (f : NamedFactor) (piece : List ℕ) → IsFactor f → factor_text f ≡ piece
    → All (λ y. y ≢ 94) piece
    → (piece ≡ f.name) × (f.exponent ≡ None)
cut-none f piece h k w = go f.exponent refl (sym (slice_split_none (λ b. eqb b 94) piece (not-at 94 piece w))
    ∙ factor-split f piece h k)
  where
    go : (x : Option ℕ) → f.exponent ≡ x → (piece ∷ []) ≡ f.name ∷ exponent_pieces x → (piece ≡ f.name)
        × (f.exponent ≡ None)
    go None s z = (cc, s)
    go (Some x) s z = absurd cc

-- the first byte of factors is a letter
first-letter : (n x : List ℕ) (ps : List (List ℕ)) → IsName n
    → is_letter (get_or (joined_by star ((n ++ x) ∷ ps)) 0 0) ≡ true
first-letter [] x ps h = absurd h
first-letter (b ∷ bs) x [] h = h.0
first-letter (b ∷ bs) x (p ∷ ps) h = h.0

numeral-first : (c : ℕ) (fs : List NamedFactor) → c < 10 → fs ≢ []
    → term_bytes (record { numeral = Some c; factors = fs }) ≡ (48 + c) ∷ 42 ∷ joined_by star
    (map factor_text fs)
numeral-first c [] l n = absurd (n refl)
numeral-first c (f ∷ fs) l n = ap (λ (ds : List ℕ). ds ++ 42 ∷ joined_by star (map factor_text (f ∷ fs)))
    (decimal_digit c l)

-- a term that begins with a digit has a numeral
pub numeral-some : (q : ℕ) (t : NamedTerm) (term : List ℕ) (r : ℕ) → q ≤ 6 → IsTerm q t → term_bytes t ≡ term
    → is_digit (get_or term 0 0) ≡ true → (is_digit (get_or term 0 0) ≡ true → 48 + r ≡ get_or term 0 0)
    → (r ≡ number t.numeral) × (drop 2 term ≡ joined_by star (map factor_text t.factors))
numeral-some q t term r m h k d v = go t.numeral t.factors h.numeral h.some h.each k
  where
    go : (n : Option ℕ) (fs : List NamedFactor) → IfSome n (λ c. (1 ≤ c) × (c ≤ q)) → fs ≢ []
        → Each IsFactor fs
        → term_bytes (record { numeral = n; factors = fs }) ≡ term → (r ≡ number n)
        × (drop 2 term ≡ joined_by star (map factor_text fs))
    go None [] i n e k = absurd (n refl)
    go None (f ∷ fs) i n e k = absurd
        (letter-no-digit (get_or term 0 0)
        (ap (λ bs. is_letter (get_or bs 0 0)) (sym k)
        ∙ first-letter f.name (exponent_text f.exponent) (map factor_text fs) e.0.name) d)
    go (Some c) fs i n e k = let z = sym k ∙ numeral-first c fs (omega (arith, i.1)) n in (
      digit-at term ((48 + c) ∷ 42 ∷ joined_by star (map factor_text fs)) 0 c r z
          (omega (arith, i.1)) refl v,
      ap (drop 2) z,
    )

pub numeral-none : (q : ℕ) (t : NamedTerm) (term : List ℕ) → q ≤ 6 → IsTerm q t → term_bytes t ≡ term
    → (2 ≤ length term → is_digit (get_or term 0 0) ≡ true → ⊥)
    → (1 ≡ number t.numeral) × (term ≡ joined_by star (map factor_text t.factors))
numeral-none q t term m h k d = go t.numeral t.factors h.numeral h.some k
  where
    go : (n : Option ℕ) (fs : List NamedFactor) → IfSome n (λ c. (1 ≤ c) × (c ≤ q)) → fs ≢ []
        → term_bytes (record { numeral = n; factors = fs }) ≡ term → (1 ≡ number n)
        × (term ≡ joined_by star (map factor_text fs))
    go None fs i n k = (refl, sym k)
    go (Some c) fs i n k = let z = sym k ∙ numeral-first c fs (omega (arith, i.1)) n in
        absurd (d (let l : length term ≡ suc
        (suc (length (joined_by star (map factor_text fs)))) = ap length z in omega arith)
        (ap (λ bs. is_digit (get_or bs 0 0)) z ∙ digit-byte c (omega (arith, i.1))))

pub rest-whole : (xs : List ℕ) (n : ℕ) → take (length xs - n) (drop n xs) ≡ drop n xs
rest-whole xs n = take_all _ _ (omega (arith, length-drop n xs))

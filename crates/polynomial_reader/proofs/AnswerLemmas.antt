-- From the sum that a text stands for to its answer.
use Rattle.std.proofs.Common.{◌≡◌, ◌≢◌, ℕ, ◌≤◌, eqb, List, [], ◌∷◌, ◌++◌, map, length, get_or, All, Option}
use Rattle.std.proofs.Common.{None, Some, Ok, Err, arith, ap, sym, subst, ◌∙◌, refl, length-append}
use Rattle.std.specs.Prelude.{IfSome, decimal}
use Rattle.std.specs.List.{slice_split, AllByRecursion as Each}
use Rattle.std.proofs.lemmas.List.{get_or-map, length-map}
use Rattle.std.proofs.lemmas.List.Elements.{All-from_recursion, recursion_from_All}
use Rattle.std.proofs.lemmas.Slice.Zip.{AllZip-long}
use Rattle.limits.specs.declared.TheConstants.{GREATEST_DEGREE, LONGEST_TEXT}
use Rattle.graded_polynomials.specs.Polynomials.{Polynomial}
use Rattle.graded_polynomials.specs.Texts.{Factor, ReadTerm, joined_by, star, plus_sign, read_value}
use Rattle.polynomial_texts.specs.Grammar.{NamedFactor, NamedTerm, Sum, zero_text, one_text, terms, IsName}
use Rattle.polynomial_texts.specs.Grammar.{IsFactor, IsTerm, IsSum, IsTextOf, exponent_text, factor_text}
use Rattle.polynomial_texts.specs.Grammar.{numeral_pieces, term_bytes, sum_bytes, placed_names}
use Rattle.polynomial_texts.specs.Readings.{number, Names, NamesEach, NamesTerm, NamesTerms, NamesSum}
use Rattle.polynomial_texts.specs.Readings.{term_degree}
use Rattle.polynomial_texts.proofs.Bytes.{Without, each-mapped, term-without}
use Rattle.polynomial_texts.proofs.Unique.{sum-unique}
use Rattle.polynomial_reader.specs.declared.fault.PolyFault.{PolyFault}
use Rattle.polynomial_reader.specs.declared.fault.PolyFault.TheVariants.{Syntax, UnknownName, Mixed, TooHigh}
use Rattle.polynomial_reader.specs.declared.fault.PolyFault.TheVariants.{Memory}
use Rattle.gc_poly.specs.Generators.{Generators, greatest}
use Rattle.gc_poly.specs.Polynomials.{IsSumOf}
use Rattle.polynomial_reader.specs.Reading.{IsFactorOf, AreFactorsOf, IsTermOf, AreTermsOf, IsDegreeOf}
use Rattle.polynomial_reader.specs.Reading.{IsDegreeFault, IsUnknownAt, IsAnswerOf}
use Rattle.polynomial_reader.proofs.Cutting.{joined-split}

pub zero-named : (q : ℕ) (ds : List ℕ) (s : Sum) (text : List ℕ) (rs : List ReadTerm) → q ≤ 6 → text ≡ 48 ∷ []
    → rs ≡ [] → IsTextOf q s text
    → NamesSum ds s rs
zero-named q ds s text rs m e n h = subst (λ s. NamesSum ds s rs)
    (sum-unique q zero_text s text m (record { formed = tt; text_is = sym e }) h) n

pub one-named : (q : ℕ) (ds : List ℕ) (s : Sum) (text : List ℕ) (rs : List ReadTerm) → q ≤ 6 → text ≡ 49 ∷ []
    → rs ≡ record { numeral = 1; factors = [] } ∷ [] → IsTextOf q s text → NamesSum ds s rs
one-named q ds s text rs m e n h = subst (λ s. NamesSum ds s rs)
    (sum-unique q one_text s text m (record { formed = tt; text_is = sym e }) h) n

mapped-some : (ts : List NamedTerm) → ts ≢ [] → map term_bytes ts ≢ []
mapped-some [] n = absurd (n refl)
mapped-some (t ∷ ts) n = λ e. cc

-- a text other than 0 and 1 is its terms
pub sum-cases : (F : Sum → Type 0) (q : ℕ) (s : Sum) (text : List ℕ) (ps : List (List ℕ)) → q ≤ 6
    → text ≢ 48 ∷ [] → text ≢ 49 ∷ []
    → ps ≡ slice_split (λ b. eqb b 43) text
    → ((ts : List NamedTerm) → Each (IsTerm q) ts → map term_bytes ts ≡ ps → F (terms ts)) → IsTextOf q s text
    → F s
sum-cases F q zero_text text ps m a b e f h = absurd (a (sym h.text_is))
sum-cases F q one_text text ps m a b e f h = absurd (b (sym h.text_is))
sum-cases F q (terms ts) text ps m a b e f h =
    f ts h.formed.1 (sym (e ∙ ap (slice_split (λ b. eqb b 43)) (sym h.text_is)
    ∙ joined-split 43 (map term_bytes ts) (mapped-some ts h.formed.0)
    (each-mapped term_bytes (IsTerm q) (Without 43) ts (λ t k. term-without q t m k) h.formed.1)))

-- pieces are no longer than the whole, and no more of them where none is empty
pieces-bounded : (s : ℕ) (ps : List (List ℕ)) (n : ℕ) → length (joined_by s ps) ≤ n
    → Each (λ p. length p ≤ n) ps
pieces-bounded s [] n l = tt
pieces-bounded s (p ∷ []) n l = (l, tt)
pieces-bounded s (p ∷ r ∷ ps) n l = (
  omega (arith, l, length-append p (s ∷ joined_by s (r ∷ ps))),
  pieces-bounded s (r ∷ ps) n
      (omega (arith, l, length-append p (s ∷ joined_by s (r ∷ ps)))),
)

pieces-few : (s : ℕ) (ps : List (List ℕ)) → Each (λ p. 1 ≤ length p) ps → length ps ≤ length (joined_by s ps)
pieces-few s [] h = omega arith
pieces-few s (p ∷ []) h = omega (arith, h.0)
pieces-few s (p ∷ r ∷ ps) h = omega (
  arith,
  h.0,
  pieces-few s (r ∷ ps) h.1,
  length-append p (s ∷ joined_by s (r ∷ ps)),
)

factor-some : (f : NamedFactor) → IsFactor f → 1 ≤ length (factor_text f)
factor-some f h = go f.name h.name
  where
    go : (n : List ℕ) → IsName n → 1 ≤ length (n ++ exponent_text f.exponent)
    go [] h = absurd h
    go (b ∷ bs) h = omega arith

factors-few : (q : ℕ) (t : NamedTerm) → IsTerm q t → length t.factors ≤ length (term_bytes t)
factors-few q t h = go t.numeral t.factors h.each
  where
    few : (fs : List NamedFactor) → Each IsFactor fs
        → length fs ≤ length (joined_by star (map factor_text fs))
    few fs h = omega (
      arith,
      length-map fs factor_text,
      pieces-few star (map factor_text fs)
          (each-mapped factor_text IsFactor (λ p. 1 ≤ length p) fs factor-some h),
    )

    go : (c : Option ℕ) (fs : List NamedFactor) → Each IsFactor fs
        → length fs ≤ length (joined_by star (numeral_pieces c ++ map factor_text fs))
    go None fs h = few fs h
    go (Some c) [] h = omega arith
    go (Some c) (f ∷ fs) h = omega (
      arith,
      few (f ∷ fs) h,
      length-append (decimal c) (star ∷ joined_by star (map factor_text (f ∷ fs))),
    )

factors-of : (ds : List ℕ) (fs : List NamedFactor) (xs : List Factor) → Each IsFactor fs → NamesEach ds fs xs
    → Each (IsFactorOf ds) xs
factors-of ds fs [] h z = tt
factors-of ds [] (x ∷ xs) h z = absurd z
factors-of ds (f ∷ fs) (x ∷ xs) h z = (
  exponent f.exponent h.0.exponent z.0.exponent_is,
  factors-of ds fs xs h.1 z.1,
)
  where
    exponent : (e : Option ℕ) → IfSome e (λ e. (1 ≤ e) × (e ≤ GREATEST_DEGREE)) → x.exponent ≡ number e
        → IsFactorOf ds x
    exponent None h k = record { within = z.0.within; low = omega (arith, k); high = omega (arith, k) }
    exponent (Some e) h k = record {
      within = z.0.within;
      low = omega (arith, k, h.0);
      high = omega (arith, k, h.1);
    }

module _ (g : Generators) (p : 2 ≤ g.prime) where
  term-of : (t : NamedTerm) (r : ReadTerm) → length (term_bytes t) ≤ LONGEST_TEXT → IsTerm (greatest g) t
      → NamesTerm g.degrees t r → IsTermOf g r
  term-of t r l h z = go t.numeral h.numeral z.numeral_is
    where
      factors : AreFactorsOf g.degrees r.factors
      factors = record {
        few = omega (
          arith,
          l,
          factors-few (greatest g) t h,
          AllZip-long (Names g.degrees) t.factors r.factors z.factors,
        );
        each = All-from_recursion (IsFactorOf g.degrees) r.factors
            (factors-of g.degrees t.factors r.factors h.each z.factors);
      }

      go : (c : Option ℕ) → IfSome c (λ c. (1 ≤ c) × (c ≤ greatest g)) → r.numeral ≡ number c → IsTermOf g r
      go None h k = record { low = omega (arith, k); high = omega (arith, k, p); factors = factors }
      go (Some c) h k = record {
        low = omega (arith, k, h.0);
        high = omega (arith, k, h.1, p);
        factors = factors;
      }

  terms-of : (ts : List NamedTerm) (rs : List ReadTerm)
      → Each (λ b. length b ≤ LONGEST_TEXT) (map term_bytes ts) → Each (IsTerm (greatest g)) ts
      → NamesTerms g.degrees ts rs → Each (IsTermOf g) rs
  terms-of ts [] l h z = tt
  terms-of [] (r ∷ rs) l h z = absurd z
  terms-of (t ∷ ts) (r ∷ rs) l h z = (term-of t r l.0 h.0 z.0, terms-of ts rs l.1 h.1 z.1)

  -- the terms of a text are within bounds
  pub sum-terms : (s : Sum) (text : List ℕ) (rs : List ReadTerm) → length text ≤ LONGEST_TEXT
      → IsTextOf (greatest g) s text
      → NamesSum g.degrees s rs → AreTermsOf g rs
  sum-terms s text rs l h z = All-from_recursion (IsTermOf g) rs
      (go s h.formed (omega (arith, l, ap length h.text_is)) z)
    where
      none : Each (IsTermOf g) []
      none = tt

      one : Each (IsTermOf g) (record { numeral = 1; factors = [] } ∷ [])
      one = (
        record {
          low = omega arith;
          high = omega (arith, p);
          factors = record { few = omega arith; each = λ i d l. absurd (omega arith) };
        },
        tt,
      )

      go : (s : Sum) → IsSum (greatest g) s → length (sum_bytes s) ≤ LONGEST_TEXT → NamesSum g.degrees s rs
          → Each (IsTermOf g) rs
      go zero_text k l z = subst (Each (IsTermOf g)) (sym z) none
      go one_text k l z = subst (Each (IsTermOf g)) (sym z) one
      go (terms ts) k l z = terms-of ts rs (pieces-bounded plus_sign (map term_bytes ts) LONGEST_TEXT l) k.1 z

pub name-fault : (g : Generators) (text : List ℕ) (s : Sum) (e : PolyFault) → IsTextOf (greatest g) s text
    → IsUnknownAt g.degrees (placed_names s) e → IsAnswerOf g text (Err e)
name-fault g text s (Syntax c) h u = absurd u
name-fault g text s (UnknownName c) h u = record { sum = s; text_of = h; name = u.0; first = u.1 }
name-fault g text s (Mixed d k) h u = absurd u
name-fault g text s (TooHigh d) h u = absurd u
name-fault g text s Memory h u = tt

degrees-small : (ds : List ℕ) (rs : List ReadTerm) → All (λ k. k ≤ GREATEST_DEGREE) (map (term_degree ds) rs)
    → Each (λ r. term_degree ds r ≤ GREATEST_DEGREE) rs
degrees-small ds rs h = go rs (recursion_from_All (λ k. k ≤ GREATEST_DEGREE) (map (term_degree ds) rs) h)
  where
    go : (rs : List ReadTerm) → Each (λ k. k ≤ GREATEST_DEGREE) (map (term_degree ds) rs)
        → Each (λ r. term_degree ds r ≤ GREATEST_DEGREE) rs
    go [] h = tt
    go (r ∷ rs) h = (h.0, go rs h.1)

pub degree-fault : (g : Generators) (text : List ℕ) (s : Sum) (rs : List ReadTerm) (e : PolyFault)
    → IsTextOf (greatest g) s text
    → NamesSum g.degrees s rs → IsDegreeFault (map (term_degree g.degrees) rs) e → IsAnswerOf g text (Err e)
degree-fault g text s rs (Syntax c) h z f = absurd f
degree-fault g text s rs (UnknownName c) h z f = absurd f
degree-fault g text s rs (TooHigh d) h z f =
    record { sum = s; terms = rs; stands_for = record { text_of = h; names = z }; first = f }
degree-fault g text s [] (Mixed d k) h z f = absurd f
degree-fault g text s (r ∷ rs) (Mixed d k) h z f = record {
  sum = s;
  leading = r;
  others = rs;
  stands_for = record { text_of = h; names = z };
  small = degrees-small g.degrees (r ∷ rs) f.0;
  degree_is = f.1;
  first = f.2;
}
degree-fault g text s rs Memory h z f = tt

-- all terms have the degree
pub degrees-of : (ds : List ℕ) (rs : List ReadTerm) (degrees : List ℕ) (d : ℕ)
    → degrees ≡ map (term_degree ds) rs
    → All (λ e. e ≡ d) degrees → All (λ r. term_degree ds r ≡ d) rs
degrees-of ds rs degrees d e h i r l = sym (get_or-map (term_degree ds) rs i r 0 l)
    ∙ ap (λ ks. get_or ks i 0) (sym e)
    ∙ h i 0 (omega (arith, ap length e, length-map rs (term_degree ds)))

pub reading : (g : Generators) (text : List ℕ) (s : Sum) (rs : List ReadTerm) (degrees : List ℕ) (d : ℕ)
    (f : Polynomial)
    → IsTextOf (greatest g) s text → NamesSum g.degrees s rs → degrees ≡ map (term_degree g.degrees) rs
    → IsDegreeOf degrees d
    → IsSumOf g d (read_value (greatest g) g.degrees rs) f → IsAnswerOf g text (Ok f)
reading g text s rs degrees d f h z e k H = record {
  sum = s;
  terms = rs;
  stands_for = record { text_of = h; names = z };
  degrees = recursion_from_All (λ r. term_degree g.degrees r ≡ f.degree) rs
      (λ i r l. degrees-of g.degrees rs degrees d e k.each i r l
      ∙ sym H.degree_is);
  small = omega (arith, H.degree_is, k.small);
  zero_degree = λ n. H.degree_is ∙ k.none (e ∙ ap (map (term_degree g.degrees)) n);
  polynomial = H.over;
  value = H.same;
}

-- Pieces of a text are read one after another.
use Rattle.std.proofs.Common.{◌≡◌, ◌≢◌, ℕ, zero, suc, ◌+◌, ◌-◌, ◌<◌, ◌≤◌, inl, inr, Bool, true, false, cond}
use Rattle.std.proofs.Common.{eqb, List, [], ◌∷◌, ◌++◌, map, length, take, get_or, Bor, Option, None, Some}
use Rattle.std.proofs.Common.{arith, ap, sym, subst, ◌∙◌, refl, length-append}
use Rattle.std.specs.Prelude.{decimal}
use Rattle.std.specs.List.{slice_split, onto_first, AllByRecursion as Each, AllZip}
use Rattle.std.proofs.lemmas.List.{get_or-map, length-map, take_more}
use Rattle.graded_polynomials.specs.Texts.{Factor, ReadTerm, joined_by, star}
use Rattle.polynomial_texts.specs.Grammar.{NamedFactor, NamedTerm, IsFactor, IsTerm, factor_text}
use Rattle.polynomial_texts.specs.Grammar.{numeral_pieces, term_bytes, PlacedName, numeral_length}
use Rattle.polynomial_texts.specs.Grammar.{factor_names, term_names}
use Rattle.polynomial_texts.specs.Readings.{IsUnknown, Names, NamesEach, NamesTerm, NamesTerms, IsFirst}
use Rattle.polynomial_texts.proofs.Bytes.{Without, each-mapped, factor-without}
use Rattle.polynomial_texts.proofs.Answers.{factors-known}
use Rattle.polynomial_reader.specs.declared.fault.PolyFault.{PolyFault}
use Rattle.polynomial_reader.specs.declared.fault.PolyFault.TheVariants.{Syntax, UnknownName, Mixed, TooHigh}
use Rattle.polynomial_reader.specs.declared.fault.PolyFault.TheVariants.{Memory}
use Rattle.polynomial_reader.specs.Reading.{spans, IsUnknownAt}
use Rattle.polynomial_reader.proofs.Cutting.{joined-split}

spans-append : (ps : List (List ℕ)) (p : List ℕ) → spans (ps ++ p ∷ []) ≡ spans ps + (length p + 1)
spans-append [] p = omega arith
spans-append (r ∷ ps) p = omega (arith, spans-append ps p)

spans-more : (ps : List (List ℕ)) (i : ℕ) → i < length ps
    → spans (take (i + 1) ps) ≡ spans (take i ps) + (length (get_or ps i []) + 1)
spans-more ps i l = ap spans (take_more ps i [] l) ∙ spans-append (take i ps) (get_or ps i [])

spans-front : (ps : List (List ℕ)) (i : ℕ) → spans (take i ps) ≤ spans ps
spans-front [] zero = omega arith
spans-front [] (suc i) = omega arith
spans-front (p ∷ ps) zero = omega arith
spans-front (p ∷ ps) (suc i) = omega (arith, spans-front ps i)

-- the pieces between separators take one place more than the whole
pub spans-split : (p : ℕ → Bool) (xs : List ℕ) → spans (slice_split p xs) ≡ length xs + 1
spans-split p [] = refl
spans-split p (x ∷ xs) = go (p x) (slice_split p xs) (spans-split p xs)
  where
    go : (b : Bool) (ps : List (List ℕ)) → spans ps ≡ length xs + 1
        → spans (cond b ([] ∷ ps) (onto_first x ps)) ≡ length (x ∷ xs) + 1
    go true ps h = omega arith
    go false [] h = absurd (omega arith)
    go false (r ∷ ps) h = omega arith

abbrev pub bytes_of : List (Bor (List ℕ)) → List (List ℕ)
bytes_of pieces = map (λ p. p.now) pieces

zip-push : {A X : Type 0} (R : A → X → Type 0) (bs : List A) (xs : List X) (b : A) (x : X) → AllZip R bs xs
    → R b x
    → AllZip R (bs ++ b ∷ []) (xs ++ x ∷ [])
zip-push R [] [] b x z r = (r, tt)
zip-push R [] (y ∷ xs) b x z r = absurd z
zip-push R (a ∷ bs) [] b x z r = absurd z
zip-push R (a ∷ bs) (y ∷ xs) b x z r = (z.0, zip-push R bs xs b x z.1 r)

-- what stands past the end
abbrev pub no_piece : Bor (List ℕ)
no_piece = record { ref_ptr = (0, 0); now = [] }

module _ (pieces : List (Bor (List ℕ))) (i : ℕ) (d : Bor (List ℕ)) (l : i < length pieces) where
  bytes-at : get_or (bytes_of pieces) i [] ≡ (get_or pieces i d).now
  bytes-at = get_or-map (λ p. p.now) pieces i d [] l

  within : i < length (bytes_of pieces)
  within = omega (arith, length-map pieces (λ (p : Bor (List ℕ)). p.now))

  -- the place of the next piece
  pub place-step : (at column : ℕ) → at ≡ column + spans (take i (bytes_of pieces))
      → at + (length (get_or pieces i d).now + 1) ≡ column + spans (take (i + 1) (bytes_of pieces))
  place-step at column h = let s : length (get_or (bytes_of pieces) i []) ≡ length (get_or pieces i d).now =
      ap length bytes-at in omega
      (arith, h, s, spans-more (bytes_of pieces) i within)

  pub place-room : (at column : ℕ) → at ≡ column + spans (take i (bytes_of pieces))
      → at + (length (get_or pieces i d).now + 1) ≤ column + spans (bytes_of pieces)
  place-room at column h = omega (arith, place-step at column h, spans-front (bytes_of pieces) (i + 1))

  module _ {A X : Type 0} (text : A → List ℕ) (P : A → Type 0) (R : A → X
      → Type 0) (none : A) (bs : List A) (h : Each P bs)
      (e : map text bs ≡ bytes_of pieces) where
    as-within : i < length bs
    as-within = omega (arith, sym (length-map bs text), ap length e, within)

    text-at : text (get_or bs i none) ≡ (get_or pieces i d).now
    text-at = sym (get_or-map text bs i none [] as-within) ∙ ap (λ ps. get_or ps i []) e ∙ bytes-at

    each-at : (bs : List A) (i : ℕ) → Each P bs → i < length bs → P (get_or bs i none)
    each-at [] i h l = absurd (omega arith)
    each-at (a ∷ bs) zero h l = h.0
    each-at (a ∷ bs) (suc i) h l = each-at bs i h.1 (omega (arith, l))

    -- one more piece
    pub zip-step : (xs ys : List X) (x : X) → AllZip R (take i bs) xs
        → ((a : A) → P a → text a ≡ (get_or pieces i d).now → R a x)
        → ys ≡ xs ++ x ∷ [] → AllZip R (take (i + 1) bs) ys
    zip-step xs ys x z r y = subst (AllZip R (take (i + 1) bs)) (sym y)
        (subst (λ cs. AllZip R cs (xs ++ x ∷ [])) (sym (take_more bs i none as-within))
        (zip-push R (take i bs) xs (get_or bs i none) x z
        (r (get_or bs i none) (each-at bs i h as-within) text-at)))

first-left : {X : Type 0} (P : X → Type 0) (x : X) (xs ys : List X) → IsFirst P x xs → IsFirst P x (xs ++ ys)
first-left P x [] ys h = absurd h
first-left P x (y ∷ xs) ys (inl h) = inl h
first-left P x (y ∷ xs) ys (inr h) = inr (h.0, first-left P x xs ys h.1)

first-right : {X : Type 0} (P : X → Type 0) (x : X) (xs ys : List X) → Each (λ y. P y → ⊥) xs → IsFirst P x ys
    → IsFirst P x (xs ++ ys)
first-right P x [] ys k h = h
first-right P x (y ∷ xs) ys k h = inr (k.0, first-right P x xs ys k.1 h)

abbrev pub no_factor : NamedFactor
no_factor = record { name = []; exponent = None }

abbrev pub no_term : NamedTerm
no_term = record { numeral = None; factors = [] }

abbrev Unknown : List ℕ → PlacedName → Type 0
Unknown ds n = IsUnknown ds n.name

first-unknown : (ds : List ℕ) (fs : List NamedFactor) (i c : ℕ) (xs : List Factor) → i < length fs
    → NamesEach ds (take i fs) xs
    → IsUnknown ds (get_or fs i no_factor).name
    → IsFirst (Unknown ds) (record {
      column = c + spans (take i (map factor_text fs));
      name = (get_or fs i no_factor).name;
    }) (factor_names c fs)
first-unknown ds [] i c xs l h u = absurd (omega arith)
first-unknown ds (f ∷ fs) zero c xs l h u = inl (
  u,
  (let place : ℕ → PlacedName = λ c. record {
    column = c;
    name = f.name;
  } in ap place (let e : c + 0 ≡ c = omega arith in e)),
)
first-unknown ds (f ∷ fs) (suc i) c [] l h u = absurd h
first-unknown ds (f ∷ fs) (suc i) c (x ∷ xs) l h u = inr (
  (λ k. k x.generator h.0.within h.0.name_is),
  (let place : ℕ → PlacedName = λ c. record { column = c; name = (get_or fs i no_factor).name } in
      subst (λ n. IsFirst (Unknown ds) n (factor_names (c + length (factor_text f) + 1) fs))
      (ap place (let e : c + length (factor_text f) + 1 + spans
      (take i (map factor_text fs)) ≡ c + (length (factor_text f) + 1 + spans (take i (map factor_text fs))) =
      omega arith in e))
      (first-unknown ds fs i (c + length (factor_text f) + 1) xs (omega (arith, l)) h.1 u)),
)

-- the name of the next piece is unknown
pub factor-fault : (ds : List ℕ) (pieces : List (Bor (List ℕ))) (i at c : ℕ) (d : Bor (List ℕ))
    (xs : List Factor) → i < length pieces
    → at ≡ c + spans (take i (bytes_of pieces))
    → ((f : NamedFactor) → IsFactor f → factor_text f ≡ (get_or pieces i d).now → IsUnknown ds f.name)
    → (fs : List NamedFactor) → Each IsFactor fs → map factor_text fs ≡ bytes_of pieces
    → NamesEach ds (take i fs) xs
    → (n : List ℕ) × IsFirst (Unknown ds) (record { column = at; name = n }) (factor_names c fs)
factor-fault ds pieces i at c d xs l p u fs h e z = (
  (get_or fs i no_factor).name,
  (let place : ℕ → PlacedName = λ c. record { column = c; name = (get_or fs i no_factor).name } in
      subst (λ n. IsFirst (Unknown ds) n (factor_names c fs))
      (ap place (ap (λ ps. c + spans (take i ps)) e ∙ sym p))
      (first-unknown ds fs i c xs (as-within pieces i d l factor_text IsFactor (Names ds) no_factor fs h e) z
      (u (get_or fs i no_factor) (each-at pieces i d l factor_text IsFactor (Names ds) no_factor fs h e fs i h
      (as-within pieces i d l factor_text IsFactor (Names ds) no_factor fs h e))
      (text-at pieces i d l factor_text IsFactor (Names ds) no_factor fs h e)))),
)

first-term : (ds : List ℕ) (ts : List NamedTerm) (i c : ℕ) (rs : List ReadTerm) (n : PlacedName)
    → i < length ts → NamesTerms ds (take i ts) rs
    → IsFirst (Unknown ds) n (factor_names
    (c + spans (take i (map term_bytes ts)) + numeral_length (get_or ts i no_term).numeral)
    (get_or ts i no_term).factors) → IsFirst (Unknown ds) n (term_names c ts)
first-term ds [] i c rs n l h f = absurd (omega arith)
first-term ds (t ∷ ts) zero c rs n l h f =
    first-left (Unknown ds) n (factor_names (c + numeral_length t.numeral) t.factors)
    (term_names (c + length (term_bytes t) + 1) ts)
    (subst (λ k. IsFirst (Unknown ds) n (factor_names (k + numeral_length t.numeral) t.factors))
    (let e : c + 0 ≡ c = omega arith in e) f)
first-term ds (t ∷ ts) (suc i) c [] n l h f = absurd h
first-term ds (t ∷ ts) (suc i) c (r ∷ rs) n l h f =
    first-right (Unknown ds) n (factor_names (c + numeral_length t.numeral) t.factors)
    (term_names (c + length (term_bytes t) + 1) ts)
    (factors-known ds (c + numeral_length t.numeral) t.factors r.factors h.0.factors)
    (first-term ds ts i (c + length (term_bytes t) + 1) rs n (omega (arith, l)) h.1
    (subst (λ k. IsFirst (Unknown ds) n (factor_names (k + numeral_length (get_or ts i no_term).numeral)
    (get_or ts i no_term).factors))
    (let e : c + (length (term_bytes t) + 1 + spans (take i (map term_bytes ts))) ≡ c + length
    (term_bytes t) + 1 + spans
    (take i (map term_bytes ts)) = omega arith in e) f))

unknown-more : (ds : List ℕ) (ns ms : List PlacedName) (e : PolyFault)
    → ((n : PlacedName) → IsFirst (Unknown ds) n ns → IsFirst (Unknown ds) n ms) → IsUnknownAt ds ns e
    → IsUnknownAt ds ms e
unknown-more ds ns ms (Syntax c) f h = h
unknown-more ds ns ms (UnknownName c) f h = (h.0, f (record { column = c; name = h.0 }) h.1)
unknown-more ds ns ms (Mixed d k) f h = h
unknown-more ds ns ms (TooHigh d) f h = h
unknown-more ds ns ms Memory f h = h

-- the fault of the next term is the whole text's
pub term-fault : (ds : List ℕ) (q : ℕ) (pieces : List (Bor (List ℕ))) (i at c : ℕ) (d : Bor (List ℕ))
    (rs : List ReadTerm) (x : PolyFault)
    → i < length pieces → at ≡ c + spans (take i (bytes_of pieces))
    → ((t : NamedTerm) → IsTerm q t → term_bytes t ≡ (get_or pieces i d).now
    → IsUnknownAt ds (factor_names (at + numeral_length t.numeral) t.factors) x)
    → (ts : List NamedTerm) → Each (IsTerm q) ts → map term_bytes ts ≡ bytes_of pieces
    → NamesTerms ds (take i ts) rs
    → IsUnknownAt ds (term_names c ts) x
term-fault ds q pieces i at c d rs x l p u ts h e z =
    let w : i < length ts = as-within pieces i d l term_bytes (IsTerm q) (NamesTerm ds) no_term ts h e in
    let t = get_or ts i no_term in
    unknown-more ds (factor_names (at + numeral_length t.numeral) t.factors) (term_names c ts) x
    (λ n f. first-term ds ts i c rs n w z
    (subst (λ k. IsFirst (Unknown ds) n (factor_names (k + numeral_length t.numeral) t.factors))
    (p ∙ ap (λ ps. c + spans (take i ps)) (sym e)) f))
    (u t (each-at pieces i d l term_bytes (IsTerm q) (NamesTerm ds) no_term ts h e ts i h w)
    (text-at pieces i d l term_bytes (IsTerm q) (NamesTerm ds) no_term ts h e))

mapped-some : {X : Type 0} (f : X → List ℕ) (xs : List X) → xs ≢ [] → map f xs ≢ []
mapped-some f [] n = absurd (n refl)
mapped-some f (x ∷ xs) n = λ e. cc

-- the pieces of a term behind its numeral
pub term-split : (q : ℕ) (t : NamedTerm) (rest : List ℕ) (ps : List (List ℕ)) → IsTerm q t
    → rest ≡ joined_by star (map factor_text t.factors) → ps ≡ slice_split (λ b. eqb b 42) rest
    → map factor_text t.factors ≡ ps
term-split q t rest ps h r e = sym
    (e ∙ ap (slice_split (λ b. eqb b 42)) r
    ∙ joined-split 42 (map factor_text t.factors) (mapped-some factor_text t.factors h.some)
    (each-mapped factor_text IsFactor (Without 42) t.factors
    (λ f k. factor-without 42 f refl refl (λ e. cc) k) h.each))

-- the numeral and its * stand before the factors
pub numeral-room : (t : NamedTerm) (term rest : List ℕ) → t.factors ≢ [] → term_bytes t ≡ term
    → rest ≡ joined_by star (map factor_text t.factors) → length term - length rest ≡ numeral_length t.numeral
numeral-room t term rest n e r = go t.numeral t.factors n e r
  where
    go : (c : Option ℕ) (fs : List NamedFactor) → fs ≢ []
        → joined_by star (numeral_pieces c ++ map factor_text fs) ≡ term
        → rest ≡ joined_by star (map factor_text fs) → length term - length rest ≡ numeral_length c
    go None fs n e r = omega (arith, ap length (sym e ∙ sym r))
    go (Some c) [] n e r = absurd (n refl)
    go (Some c) (f ∷ fs) n e r = omega (
      arith,
      (let a : length (decimal c ++ 42 ∷ joined_by star (map factor_text (f ∷ fs)))
          ≡ length term = ap length e in a),
      length-append (decimal c) (42 ∷ joined_by star (map factor_text (f ∷ fs))),
      (let b : length rest ≡ length (joined_by star (map factor_text (f ∷ fs))) = ap length r in b),
    )

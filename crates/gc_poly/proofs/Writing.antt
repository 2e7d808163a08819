-- The pieces of a text, one after another.
use Rattle.std.proofs.Common.{◌≡◌, ◌≢◌, ℕ, zero, suc, ◌+◌, ◌<◌, ◌≤◌, Bool, true, false, eqb, List, [], ◌∷◌}
use Rattle.std.proofs.Common.{◌++◌, map, length, take, get_or, ◌⊎◌, inl, inr, append_assoc, arith, ap, ap₂}
use Rattle.std.proofs.Common.{sym, ◌∙◌, refl, length-take}
use Rattle.std.specs.Prelude.{decimal, slice_get, Some}
use Rattle.std.specs.Option.{option_map}
use Rattle.std.proofs.lemmas.Bool.{false≢true}
use Rattle.std.proofs.lemmas.List.{take_more, map-append, append-nil, length-map}
use Rattle.graded_polynomials.specs.Monomials.{exponent, IsTrimmed, IsWithin}
use Rattle.graded_polynomials.specs.Polynomials.{Term}
use Rattle.graded_polynomials.specs.Texts.{joined_by, star, power_text, factor_texts, pieces_text, term_text}
use Rattle.graded_polynomials.specs.Texts.{plus_sign, polynomial_text}
use Rattle.graded_polynomials.proofs.Terms.{eqb-true, eqb-false}
use Rattle.gc_poly.proofs.SumLemmas.{take-term}

joined-push : (s : ℕ) (ps : List (List ℕ)) (p : List ℕ) → ps ≢ []
    → joined_by s (ps ++ p ∷ []) ≡ joined_by s ps ++ s ∷ p
joined-push s [] p n = absurd (n refl)
joined-push s (q ∷ []) p n = refl
joined-push s (q ∷ r ∷ ps) p n = ap (λ xs. q ++ s ∷ xs) (joined-push s (r ∷ ps) p (λ e. cc))
    ∙ sym (append_assoc q (s ∷ joined_by s (r ∷ ps)) (s ∷ p))

map-take : {X : Type 0} (f : X → List ℕ) (xs : List X) (i : ℕ) (x : X) → i < length xs → x ≡ get_or xs i x
    → map f (take (i + 1) xs) ≡ map f (take i xs) ++ f x ∷ []
map-take f xs i x l e = ap (map f) (take_more xs i x l ∙ ap (λ y. take i xs ++ y ∷ []) (sym e))
    ∙ map-append f (take i xs) (x ∷ [])

-- one more piece
pub join-first : {X : Type 0} (f : X → List ℕ) (s : ℕ) (xs : List X) (i : ℕ) (x : X) (old new : List ℕ)
    → i ≡ 0 → i < length xs → x ≡ get_or xs i x → old ≡ joined_by s (map f (take i xs)) → new ≡ old ++ f x
    → new ≡ joined_by s (map f (take (i + 1) xs))
join-first f s xs i x old new z l e h k =
    k ∙ ap (λ ys. ys ++ f x) (h ∙ ap (λ i. joined_by s (map f (take i xs))) z)
    ∙ sym (ap (joined_by s) (map-take f xs i x l e ∙ ap (λ i. map f (take i xs) ++ f x ∷ []) z))

pub join-next : {X : Type 0} (f : X → List ℕ) (s : ℕ) (xs : List X) (i : ℕ) (x : X) (old new : List ℕ) → 0 < i
    → i < length xs → x ≡ get_or xs i x → old ≡ joined_by s (map f (take i xs)) → new ≡ (old ++ s ∷ []) ++ f x
    → new ≡ joined_by s (map f (take (i + 1) xs))
join-next f s xs i x old new z l e h k =
    k ∙ append_assoc old (s ∷ []) (f x) ∙ ap (λ ys. ys ++ s ∷ f x) h
    ∙ sym (ap (joined_by s) (map-take f xs i x l e)
    ∙ joined-push s (map f (take i xs)) (f x) (λ n. empty (sym (length-map (take i xs) f) ∙ ap length n)))
  where
    empty : length (take i xs) ≡ 0 → ⊥
    empty n = omega (arith, n, length-take i xs)

factor-push : (ds m : List ℕ) (k e : ℕ) → factor_texts ds k
    (m ++ e ∷ []) ≡ factor_texts ds k m ++ factor_texts ds (k + length m) (e ∷ [])
factor-push ds [] k e = ap (λ k. factor_texts ds k (e ∷ [])) (omega arith)
factor-push ds (zero ∷ m) k e = factor-push ds m (suc k) e
    ∙ ap (λ j. factor_texts ds (suc k) m ++ factor_texts ds j (e ∷ [])) (omega arith)
factor-push ds (suc x ∷ m) k e = ap (λ ps. power_text ds k (suc x) ∷ ps) (factor-push ds m (suc k) e
    ∙ ap (λ j. factor_texts ds (suc k) m ++ factor_texts ds j (e ∷ [])) (omega arith))

factor-take : (ds m : List ℕ) (i : ℕ) → i < length m
    → factor_texts ds 0 (take (i + 1) m) ≡ factor_texts ds 0 (take i m) ++ factor_texts ds i
    (exponent m i ∷ [])
factor-take ds m i l =
    ap (factor_texts ds 0) (take_more m i 0 l) ∙ factor-push ds (take i m) 0 (exponent m i)
    ∙ ap (λ j. factor_texts ds 0 (take i m) ++ factor_texts ds j (exponent m i ∷ []))
    (let e : 0 + length (take i m) ≡ i = omega (arith, length-take i m) in e)

-- one more power, or none where the exponent is 0
pub power-next : (ds m : List ℕ) (i e : ℕ) (lead old new : List (List ℕ)) (p : List ℕ) → i < length m
    → e ≡ exponent m i → e ≢ 0 → p ≡ power_text ds i e → old ≡ lead ++ factor_texts ds 0 (take i m)
    → new ≡ old ++ p ∷ []
    → new ≡ lead ++ factor_texts ds 0 (take (i + 1) m)
power-next ds m i e lead old new p l h z q o n =
    n ∙ rw (o, q) (append_assoc lead (factor_texts ds 0 (take i m)) _)
    ∙ ap (λ ps. lead ++ ps) (sym (factor-take ds m i l
    ∙ ap (λ ps. factor_texts ds 0 (take i m) ++ ps) (some (exponent m i) (λ k. z (h ∙ k))
    ∙ ap (λ e. power_text ds i e ∷ []) (sym h))))
  where
    some : (e : ℕ) → e ≢ 0 → factor_texts ds i (e ∷ []) ≡ power_text ds i e ∷ []
    some zero z = absurd (z refl)
    some (suc e) z = refl

pub power-none : (ds m : List ℕ) (i e : ℕ) (lead old : List (List ℕ)) → i < length m → e ≡ exponent m i
    → e ≡ 0 → old ≡ lead ++ factor_texts ds 0 (take i m) → old ≡ lead ++ factor_texts ds 0 (take (i + 1) m)
power-none ds m i e lead old l h z o =
    o ∙ ap (λ ps. lead ++ ps) (sym (factor-take ds m i l
    ∙ ap (λ e. factor_texts ds 0 (take i m) ++ factor_texts ds i (e ∷ [])) (sym h ∙ z)
    ∙ append-nil (factor_texts ds 0 (take i m))))

factors-some : (ds m : List ℕ) (k : ℕ) → IsTrimmed m → m ≢ [] → factor_texts ds k m ≢ []
factors-some ds [] k t n = absurd (n refl)
factors-some ds (zero ∷ []) k t n = absurd (t.0 refl refl)
factors-some ds (zero ∷ x ∷ m) k t n = factors-some ds (x ∷ m) (suc k) t.1 (λ e. cc)
factors-some ds (suc e ∷ m) k t n = λ h. cc

-- the coefficient stands before, or is left out
pub lead-written : (ds m : List ℕ) (c : ℕ) → (c ≢ 1) ⊎ (m ≡ [])
    → joined_by star (decimal c ∷ factor_texts ds 0 m) ≡ term_text ds (record { scalar = c; monomial = m })
lead-written ds m c (inl n) = go (factor_texts ds 0 m)
  where
    go : (ps : List (List ℕ)) → joined_by star (decimal c ∷ ps) ≡ pieces_text c ps
    go [] = refl
    go (p ∷ ps) = rw (eqb-false c 1 n) refl
lead-written ds m c (inr e) = rw e refl

pub lead-left-out : (ds m : List ℕ) (c : ℕ) → c ≡ 1 → m ≢ [] → IsTrimmed m
    → joined_by star (factor_texts ds 0 m) ≡ term_text ds (record { scalar = c; monomial = m })
lead-left-out ds m c e n t = rw e (go (factor_texts ds 0 m) (factors-some ds m 0 t n))
  where
    go : (ps : List (List ℕ)) → ps ≢ [] → joined_by star ps ≡ pieces_text 1 ps
    go [] n = absurd (n refl)
    go (p ∷ ps) n = refl

pub within-length : (ds m : List ℕ) → IsWithin ds m → length m ≤ length ds
within-length ds [] w = omega arith
within-length [] (x ∷ m) w = absurd w
within-length (d ∷ ds) (x ∷ m) w = omega (arith, within-length ds m w)

-- one more term
pub term-next : (ds : List ℕ) (f : List Term) (i c : ℕ) (m : List ℕ) (old new : List (List ℕ)) (p : List ℕ)
    → option_map (λ t. t.scalar) (slice_get f i) ≡ Some c
    → option_map (λ t. t.monomial) (slice_get f i) ≡ Some m
    → p ≡ term_text ds (record { scalar = c; monomial = m }) → old ≡ map (term_text ds) (take i f)
    → new ≡ old ++ p ∷ [] → new ≡ map (term_text ds) (take (i + 1) f)
term-next ds f i c m old new p h k e o n = n
    ∙ rw (o, e) (sym (ap (map (term_text ds)) (take-term f i c m h k)
    ∙ map-append (term_text ds) (take i f) _))

pub all-written : (ds : List ℕ) (f : List Term) → f ≢ []
    → joined_by plus_sign (map (term_text ds) f) ≡ polynomial_text ds f
all-written ds [] n = absurd (n refl)
all-written ds (t ∷ f) n = refl

empty-of : (m : List ℕ) → eqb (length m) 0 ≡ true → m ≡ []
empty-of [] e = refl
empty-of (x ∷ m) e = absurd (let k = eqb-true (suc (length m)) 0 e in omega (arith, k))

pub is-empty : (m : List ℕ) (b : Bool) → b ≡ eqb (length m) 0 → b ≡ true → m ≡ []
is-empty m b h e = empty-of m (sym h ∙ e)

pub not-empty : (m : List ℕ) (b : Bool) → b ≡ eqb (length m) 0 → b ≡ false → m ≢ []
not-empty m b h e z = false≢true (sym e ∙ h ∙ ap (λ m. eqb (length m) 0) z)

pub coefficient-first : (ds m : List ℕ) (c : ℕ) (lead all pieces : List (List ℕ)) (had : List (List ℕ))
    (p : List ℕ) → had ≡ [] → p ≡ decimal c → lead ≡ had ++ p ∷ [] → (c ≢ 1) ⊎ (m ≡ [])
    → all ≡ lead ++ factor_texts ds 0 m → pieces ≡ all
    → joined_by star pieces ≡ term_text ds (record { scalar = c; monomial = m })
coefficient-first ds m c lead all pieces had p h e l o a b =
    ap (joined_by star) (b ∙ a ∙ ap (λ ps. ps ++ factor_texts ds 0 m) (l
    ∙ ap₂ (λ (had : List (List ℕ)) p. had ++ p ∷ []) h e)) ∙ lead-written ds m c o

pub coefficient-left-out : (ds m : List ℕ) (c : ℕ) (lead all pieces : List (List ℕ)) → lead ≡ [] → c ≡ 1
    → m ≢ [] → IsTrimmed m → all ≡ lead ++ factor_texts ds 0 m → pieces ≡ all
    → joined_by star pieces ≡ term_text ds (record { scalar = c; monomial = m })
coefficient-left-out ds m c lead all pieces l e n t a b =
    ap (joined_by star) (b ∙ a ∙ ap (λ ps. ps ++ factor_texts ds 0 m) l) ∙ lead-left-out ds m c e n t

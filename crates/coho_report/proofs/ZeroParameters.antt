-- Polynomials that are 0 leave no finite ring on a subgroup whose ring has no relations.
use Rattle.std.proofs.Common.{◌≡◌, ◌∙◌, ◌⊎◌, inl, inr, ℕ, suc, ◌+◌, ◌*◌, ◌<◌, ◌≤◌, ◌%◌, List, [], ◌∷◌}
use Rattle.std.proofs.Common.{map, true, false, cond, refl, sym, ap, subst, arith}
use Rattle.std.specs.Prelude.{All, eqb}
use Rattle.std.specs.List.{AllByRecursion as Each}
use Rattle.std.proofs.lemmas.Bool.{cases_Bool}
use Rattle.std.proofs.Math.Nat.{mod-eq_of_lt}
use Rattle.group_modules.specs.Field.{residue}
use Rattle.linear_algebra.specs.Modular.{IsSmallPrime}
use Rattle.p_groups.specs.PGroups.{PGroup, largest_residue, prime_of}
use Rattle.graded_polynomials.specs.Monomials.{IsWithin, degree, fits, is_exterior}
use Rattle.graded_polynomials.specs.Polynomials.{Term, Polynomial, Multiple, IsMultiple, IsOneOf}
use Rattle.graded_polynomials.specs.Polynomials.{IsPolynomial, IsInIdeal, IsSame, coefficient, total}
use Rattle.graded_polynomials.proofs.Stored.{polynomial-unique}
use Rattle.graded_polynomials.proofs.Terms.{same-self}
use Rattle.graded_algebra.specs.Algebras.{degrees}
use Rattle.group_cocycles.specs.Cocycles.{AreCohomologous}
use Rattle.group_cocycles.specs.Rings.{Generators, cochain_of}
use Rattle.group_cocycles.proofs.Rings.{degrees-same, zero-close}
use Rattle.gc_poly.specs.Generators as named
use Rattle.gc_poly.specs.Generators.{greatest}
use Rattle.gc_poly.specs.Polynomials.{IsMonomialOf}
use Rattle.param_test.specs.Finiteness.{unit_degree}
use Rattle.param_test.specs.Variables.{all_kept, kept_terms, variable_degree, variables}
use Rattle.param_test.proofs.Filtering.{filter-same}
use Rattle.chain_lift.specs.Embeddings.{embedding}
use Rattle.coho_report.specs.Cohomology.{AreFiniteOn, IsNamedRing, IsRestriction, SubgroupRing, own_cocycles}
use Rattle.coho_report.specs.Cohomology.{own_group, with_cocycle}
use Rattle.coho_report.specs.Related.{AreRelated}

-- polynomials without terms
abbrev pub AreZero : List Polynomial → Type 0
AreZero fs = Each (λ f. f.terms ≡ []) fs

one-of-each : {X : Type 0} (P : X → Type 0) (xs : List X) (x : X) → Each P xs → IsOneOf x xs → P x
one-of-each P [] x h o = absurd o
one-of-each P (y ∷ xs) x h (inl e) = subst P (sym e) h.0
one-of-each P (y ∷ xs) x h (inr o) = one-of-each P xs x h.1 o

-- their multiples have no terms
no-multiples : (q : ℕ) (ds : List ℕ) (fs : List Polynomial) (d : ℕ) → AreZero fs → (ts : List Multiple)
    → Each (IsMultiple q ds fs d) ts → total q ds ts ≡ []
no-multiples q ds fs d z [] h = refl
no-multiples q ds fs d z (t ∷ ts) h =
    rw (one-of-each (λ f. f.terms ≡ []) fs t.of z h.0.given) (no-multiples q ds fs d z ts h.1)

kept-zero : (g : named.Generators) (fs : List Polynomial) → AreZero fs → AreZero (all_kept g fs)
kept-zero g [] z = tt
kept-zero g (f ∷ fs) z =
    (ap (λ (ts : List Term). kept_terms (greatest g) g.degrees ts) z.0, kept-zero g fs z.1)

-- a prime is above 1
above-one : (p : ℕ) → IsSmallPrime p → 1 < p
above-one p (inl e) = omega (arith, e)
above-one p (inr (inl e)) = omega (arith, e)
above-one p (inr (inr (inl e))) = omega (arith, e)
above-one p (inr (inr (inr e))) = omega (arith, e)

-- no monomial is in the ideal of such polynomials
not-in-ideal : (q : ℕ) (ds : List ℕ) (fs : List Polynomial) (d : ℕ) (m : List ℕ) → 0 < q → AreZero fs
    → IsInIdeal q ds fs d (record { scalar = 1; monomial = m } ∷ []) → ⊥
not-in-ideal q ds fs d m positive z i =
    let none = no-multiples q ds fs d z i.multiples i.each in
    let here : coefficient (record { scalar = 1; monomial = m } ∷ []) m ≡ 1
    = ap (λ b. cond b 1 0 + 0) (same-self m) in
    let at : (coefficient (record { scalar = 1; monomial = m } ∷ []) m) % suc q ≡ 0 % suc q
    = (i.sum.at m).same_remainder ∙ ap (λ f. coefficient f m % suc q) none in
    let one : 1 % suc q ≡ 1 = mod-eq_of_lt (omega (arith, positive)) in
    let nothing : 0 % suc q ≡ 0 = mod-eq_of_lt (omega arith) in
    let same : 1 ≡ 0 = sym one ∙ sym (ap (λ c. c % suc q) here) ∙ at ∙ nothing in
    absurd (omega (arith, same))

-- a power of the first variable
no-exterior : (q : ℕ) → is_exterior q (variable_degree q) ≡ false
no-exterior q = go (cases_Bool (eqb q 1))
  where
    go : (eqb q 1 ≡ true) ⊎ (eqb q 1 ≡ false) → is_exterior q (variable_degree q) ≡ false
    go (inl e) = rw e refl
    go (inr e) = rw e refl

no-more : (ds : List ℕ) → degree ds [] ≡ 0
no-more [] = refl
no-more (d ∷ ds) = refl

fits-none : (q : ℕ) (ds : List ℕ) → fits q ds [] ≡ true
fits-none q [] = refl
fits-none q (d ∷ ds) = refl

power-of-variable : (g : named.Generators) (d : ℕ) (ds : List ℕ) → (variables g).degrees ≡ d ∷ ds → (e : ℕ)
    → 1 ≤ e → IsMonomialOf (variables g) (e * unit_degree (variables g)) (e ∷ [])
power-of-variable g d ds is e low =
    let q = greatest g in
    let v = variable_degree q in
    let first : d ≡ v = subst (λ xs. All (λ d. d ≡ v) xs) is (filter-same v g.degrees) 0 0 (omega arith) in
    let none = no-more ds in
    let turned : v * e + 0 ≡ e * v = omega arith in
    let size : d * e + degree ds [] ≡ e * v
    = ap (λ z. z * e + degree ds []) first ∙ ap (λ z. v * e + z) none ∙ turned in
    record {
      within = subst (λ xs. IsWithin xs (e ∷ [])) (sym is) tt;
      trimmed = ((λ n z. omega (arith, low, z)), tt);
      fitting = subst (λ xs. fits q xs (e ∷ []) ≡ true) (sym is)
          (rw (ap (is_exterior q) first ∙ no-exterior q) (fits-none q ds));
      degree_is = ap (λ xs. degree xs (e ∷ [])) is ∙ size;
    }

module _ (G : PGroup) where
  abbrev own_generators : SubgroupRing G → named.Generators
  own_generators s = record { prime = prime_of G; degrees = degrees s.generators }

  abbrev IsFree : ℕ → SubgroupRing G → Type 0
  IsFree n s = IsNamedRing (own_group G s) n s.generators []

  -- nothing but 0 is in the ideal of no relations
  no-relations : (q : ℕ) (ds : List ℕ) (d : ℕ) (f : List Term) → IsPolynomial q ds d f
      → IsInIdeal q ds [] d f → f ≡ []
  no-relations q ds d f P i =
      polynomial-unique q ds d d f [] P (record {
        over = tt;
        coefficients = tt;
        descending = λ i j t l m. absurd (omega (arith, m));
      })
      (subst (IsSame q f) (none i.multiples i.each) i.sum)
    where
      none : (ts : List Multiple) → Each (IsMultiple q ds [] d) ts → total q ds ts ≡ []
      none [] h = refl
      none (t ∷ ts) h = absurd h.0.given

  module _ (n : ℕ) (s : SubgroupRing G) (own : IsFree n s) (hs : Generators G) where
    image-zero : (f y : Polynomial) → f.degree ≤ n → f.terms ≡ []
        → IsRestriction G s (with_cocycle G hs f) y → y.terms ≡ []
    image-zero f y low none I =
        let E = own_group G s in
        let q = largest_residue G in
        let ds = degrees (own_cocycles G s) in
        let P = subst (λ ds. IsPolynomial q ds f.degree y.terms) (degrees-same E s.generators) I.polynomial in
        let close : AreCohomologous E f.degree (cochain_of E (own_cocycles G s) y.terms)
        (λ xs. residue q 0)
        = subst (λ (ts : List Term). AreCohomologous E f.degree (cochain_of E (own_cocycles G s) y.terms)
        (λ xs. cochain_of G hs ts (map (embedding G s.subgroup.basis) xs))) none I.cohomologous in
        no-relations q ds f.degree y.terms P
        ((own.ring.exact f.degree low y.terms P.over).0
        ((zero-close E f.degree (cochain_of E (own_cocycles G s) y.terms)).0 close))

    images-zero : (fs ys : List Polynomial) → Each (λ f. (1 ≤ f.degree) × (f.degree ≤ n)) fs → AreZero fs
        → AreRelated (IsRestriction G s) (map (with_cocycle G hs) fs) ys → AreZero ys
    images-zero [] [] w z r = tt
    images-zero [] (y ∷ ys) w z r = absurd r
    images-zero (f ∷ fs) [] w z r = absurd r
    images-zero (f ∷ fs) (y ∷ ys) w z r =
        (image-zero f y w.0.1 z.0 r.0, images-zero fs ys w.1 z.1 r.1)

  pub zero-parameters : (n : ℕ) (s : SubgroupRing G) (hs : Generators G) (fs : List Polynomial) (d : ℕ)
      (ds : List ℕ) → IsFree n s → (variables (own_generators s)).degrees ≡ d ∷ ds
      → Each (λ f. (1 ≤ f.degree) × (f.degree ≤ n)) fs → AreZero fs → AreFiniteOn G hs fs s → ⊥
  zero-parameters n s hs fs d ds own is within z F =
      let g = own_generators s in
      let ys = images-zero n s own hs fs F.images within z F.restrictions in
      let yes = F.finite.1 in
      let e = F.finite.0 in
      let m = power-of-variable g d ds is e yes.low in
      let prime = above-one (prime_of G) G.law.prime in
      not-in-ideal (greatest g) (variables g).degrees (all_kept g F.images)
      (e * unit_degree (variables g)) (e ∷ []) (omega (arith, prime)) (kept-zero g F.images ys)
      (yes.all (e ∷ []) m)

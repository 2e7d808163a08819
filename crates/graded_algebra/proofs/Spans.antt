-- Generators that are chosen by spans are those that are chosen by values of polynomials.
use Rattle.std.proofs.Common.{◌≡◌, ℕ, zero, suc, ◌+◌, ◌<◌, List, [], ◌∷◌, ◌++◌, length, map, ◌⊎◌, inl, inr}
use Rattle.std.proofs.Common.{arith, ap, ap₂, sym, ◌∙◌, refl, append_assoc}
use Rattle.std.specs.Prelude.{slice_index_or}
use Rattle.std.specs.List.{AllByRecursion as Each}
use Rattle.graded_polynomials.specs.Monomials.{IsMonomial, IsMonomials, IsWithin, exponent}
use Rattle.graded_polynomials.specs.Polynomials.{Term, IsOver, IsOneOf}
use Rattle.graded_algebra.specs.Algebras.{Algebra, Generator, degrees, evaluate, value, times}
use Rattle.graded_algebra.specs.Algebras.{IsGradedCommutative}
use Rattle.graded_algebra.specs.Presentations.{IsCombination, IsBasis, IsValue, IsTaken, IsGenerators}
use Rattle.graded_algebra.specs.Presentations.{IsChosen, IsSpanGenerators, generators_of}
use Rattle.graded_algebra.proofs.Vectors.{times-one, times-sum}
use Rattle.graded_algebra.proofs.Ideals.{is-one-of-right, is-one-of-append}
use Rattle.graded_polynomials.proofs.Terms.{each-append, each-map}
use Rattle.graded_algebra.proofs.MoreGenerators.{degrees-append, value-of-more}
use Rattle.graded_algebra.proofs.Generators.{AllNew, Split, split, value-combination, value-of-new}
use Rattle.graded_algebra.proofs.Generators.{generators-new, all-new-positive}

module _ (q : ℕ) (V : Type 0) (A : Algebra V) (In : ℕ → V → Type 0) (L : IsGradedCommutative q V A In) where
  combination-zero : (xs : List V) → IsCombination A xs A.zero
  combination-zero [] = refl
  combination-zero (x ∷ xs) = (0, A.zero, combination-zero xs, sym (L.space.add-zero A.zero))

  -- one more multiple of a member
  combination-member : (c : ℕ) (x : V) (xs : List V) (w : V) → IsOneOf x xs → IsCombination A xs w
      → IsCombination A xs (A.add (times A c x) w)
  combination-member c x [] w o h = absurd o
  combination-member c x (y ∷ xs) w (inl e) h = (
    c + h.0,
    h.1,
    h.2,
    ap₂ (λ x w. A.add (times A c x) w) e h.3 ∙ sym (L.space.add-assoc _ _ _)
        ∙ ap (λ z. A.add z h.1) (sym (times-sum q V A L.space c h.0 y)),
  )
  combination-member c x (y ∷ xs) w (inr o) h = (
    h.0,
    A.add (times A c x) h.1,
    combination-member c x xs h.1 o h.2,
    ap (A.add (times A c x)) h.3 ∙ sym (L.space.add-assoc _ _ _)
        ∙ ap (λ z. A.add z h.1) (L.space.add-comm _ _) ∙ L.space.add-assoc _ _ _,
  )

  combination-more : (xs ys : List V) (v : V) → IsCombination A xs v → IsCombination A (xs ++ ys) v
  combination-more [] ys v h = rw h (combination-zero ys)
  combination-more (x ∷ xs) ys v h = (h.0, h.1, combination-more xs ys h.1 h.2, h.3)

  is-one-of-map : (u : List ℕ → V) (ms : List (List ℕ)) (i : ℕ) (m : List ℕ) → i < length ms
      → slice_index_or ms i [] ≡ m → IsOneOf (u m) (map u ms)
  is-one-of-map u [] i m l e = absurd (omega arith)
  is-one-of-map u (n ∷ ms) zero m l e = inl (ap u (sym e))
  is-one-of-map u (n ∷ ms) (suc i) m l e = inr (is-one-of-map u ms i m (omega arith) e)

  one-of-map : (u : List ℕ → V) (ms : List (List ℕ)) (v : V) → IsOneOf v (map u ms) → (i : ℕ)
      × (i < length ms) × (v ≡ u (slice_index_or ms i []))
  one-of-map u [] v o = absurd o
  one-of-map u (n ∷ ms) v (inl e) = (0, omega arith, e)
  one-of-map u (n ∷ ms) v (inr o) = let r = one-of-map u ms v o in (suc r.0, omega (arith, r.1), r.2)

  one-of-generators : (d : ℕ) (vs : List V) (v : V) → IsOneOf v vs
      → IsOneOf (record { degree = d; class = v }) (generators_of q A d vs)
  one-of-generators d [] v o = absurd o
  one-of-generators d (w ∷ vs) v (inl e) = inl (ap (λ x. record { degree = d; class = x }) e)
  one-of-generators d (w ∷ vs) v (inr o) = inr (one-of-generators d vs v o)

  generators-append : (d : ℕ) (vs ws : List V)
      → generators_of q A d (vs ++ ws) ≡ generators_of q A d vs ++ generators_of q A d ws
  generators-append d [] ws = refl
  generators-append d (v ∷ vs) ws = ap (λ gs. record { degree = d; class = v } ∷ gs)
      (generators-append d vs ws)

  append-nil : {X : Type 0} (xs : List X) → xs ++ [] ≡ xs
  append-nil [] = refl
  append-nil (x ∷ xs) = ap (λ xs. x ∷ xs) (append-nil xs)

  -- a generator is a value
  value-member : (gs : List (Generator V)) (g : Generator V) → Each (λ h. In h.degree h.class) gs
      → IsOneOf g gs → IsValue q A gs g.degree g.class
  value-member gs g i o = go [] gs i o
    where
      go : (zs ys : List (Generator V)) → Each (λ h. In h.degree h.class) ys → IsOneOf g ys
          → IsValue q A (zs ++ ys) g.degree g.class
      go zs [] i o = absurd o
      go zs (h ∷ ys) i (inl e) =
          rw (e, sym (append_assoc zs (h ∷ []) ys))
          (value-of-more q A (zs ++ h ∷ []) ys h.degree h.class (value-of-new q V A In L zs h i.0))
      go zs (h ∷ ys) i (inr o) = rw (sym (append_assoc zs (h ∷ []) ys)) (go (zs ++ h ∷ []) ys i.1 o)

  outside : (gs : List (Generator V)) (g : Generator V) (d : ℕ) (f : List Term)
      → IsOver q (degrees (gs ++ g ∷ [])) d f → Each (λ t. exponent t.monomial (length gs + 1) ≡ 0) f
  outside gs g d f o =
      each-map (λ (t : Term). IsMonomial q (degrees (gs ++ g ∷ [])) d t.monomial)
      (λ (t : Term). exponent t.monomial (length gs + 1) ≡ 0) f
      (λ t m. rw (sym (place gs)) (beyond (degrees (gs ++ g ∷ [])) t.monomial m.within)) o
    where
      place : (gs : List (Generator V)) → length (degrees (gs ++ g ∷ [])) ≡ length gs + 1
      place [] = refl
      place (h ∷ gs) = omega (arith, place gs)

      beyond : (ds m : List ℕ) → IsWithin ds m → exponent m (length ds) ≡ 0
      beyond [] [] h = refl
      beyond [] (x ∷ m) h = absurd h
      beyond (d ∷ ds) [] h = refl
      beyond (d ∷ ds) (x ∷ m) h = beyond ds m h

  module _ (before : List (Generator V)) (d : ℕ) (ms : List (List ℕ))
      (M : IsMonomials q (degrees before) d ms) (b : 0 < d)
      (p : Each (λ a. 0 < a) (degrees before)) (i : Each (λ h. In h.degree h.class) before) where
    abbrev us : List V
    us = map (evaluate A before) ms

    -- values in the generators before are combinations of the values of the monomials
    value-span : (f : List Term) → IsOver q (degrees before) d f → IsCombination A us (value A before f)
    value-span [] o = combination-zero us
    value-span (t ∷ f) o =
        let m = M.all t.monomial o.0 in
        combination-member t.scalar (evaluate A before t.monomial) us (value A before f)
        (is-one-of-map (evaluate A before) ms m.0 t.monomial m.1 m.2) (value-span f o.1)

    -- what is a value in the generators before and those with the classes vs
    span-from : (ys zs : List V) (gs : List (Generator V)) → Each (λ v. In d v) ys
        → Each (λ a. 0 < a) (degrees gs)
        → ((v : V) → IsValue q A gs d v → IsCombination A (us ++ zs) v)
        → (v : V) → IsValue q A (gs ++ generators_of q A d ys) d v → IsCombination A (us ++ (zs ++ ys)) v
    span-from [] zs gs j r h v u = rw (append-nil zs) (h v (rw (append-nil gs) at u))
    span-from (y ∷ ys) zs gs j r h v u =
        rw (sym (append_assoc zs (y ∷ []) ys))
        (span-from ys (zs ++ y ∷ []) (gs ++ g ∷ []) j.1
        (rw (degrees-append gs (g ∷ [])) (each-append (λ (a : ℕ). 0 < a) (degrees gs) (d ∷ []) r (b, tt)))
        (λ w k. step w k (split q V A In L gs g d (length gs + 1) k.polynomial j.0 b r (omega arith) k.over
        (outside gs g d k.polynomial k.over))) v
        (rw (append_assoc gs (g ∷ []) (generators_of q A d ys)) u))
      where
        g : Generator V
        g = record { degree = d; class = y }

        step : (w : V) (k : IsValue q A (gs ++ g ∷ []) d w)
            → Split q V A In L gs g d (length gs + 1) k.polynomial → IsCombination A (us ++ (zs ++ y ∷ [])) w
        step w k s =
            rw (sym k.value_is ∙ s.value_is)
            (combination-member s.scalar y (us ++ (zs ++ y ∷ [])) (value A gs s.rest)
            (is-one-of-right y us (zs ++ y ∷ []) (is-one-of-right y zs (y ∷ []) (inl refl)))
            (rw (append_assoc us zs (y ∷ [])) at
            (combination-more (us ++ zs) (y ∷ []) (value A gs s.rest)
            (h (value A gs s.rest) record { polynomial = s.rest; over = s.over; value_is = refl }))))

    -- and the other way
    span-value : (ys : List V) → Each (λ v. In d v) ys → (v : V) → IsCombination A (us ++ ys) v
        → IsValue q A (before ++ generators_of q A d ys) d v
    span-value ys j v c = value-combination q V A In L (before ++ generators_of q A d ys) d (us ++ ys)
        (λ w o. member w (is-one-of-append w us ys o)) v c
      where
        all-in : (ys : List V) → Each (λ v. In d v) ys
            → Each (λ (h : Generator V). In h.degree h.class) (generators_of q A d ys)
        all-in [] j = tt
        all-in (y ∷ ys) j = (j.0, all-in ys j.1)

        member : (w : V) → IsOneOf w us ⊎ IsOneOf w ys → IsValue q A (before ++ generators_of q A d ys) d w
        member w (inl o) = let m = one-of-map (evaluate A before) ms w o in
            value-of-more q A before (generators_of q A d ys) d w record {
              polynomial = record { scalar = 1; monomial = slice_index_or ms m.0 [] } ∷ [];
              over = (M.each m.0 m.1, tt);
              value_is = L.space.add-zero _ ∙ times-one q V A L.space _ ∙ sym m.2;
            }
        member w (inr o) =
            value-member (before ++ generators_of q A d ys) (record { degree = d; class = w })
            (each-append (λ (h : Generator V). In h.degree h.class) before (generators_of q A d ys) i
            (all-in ys j))
            (is-one-of-right _ before (generators_of q A d ys) (one-of-generators d ys w o))

    -- choosing by spans and by values
    chosen-taken : (vs ys chosen : List V) → Each (λ v. In d v) vs → Each (λ v. In d v) ys
        → IsChosen q A us vs ys chosen
        → IsTaken q A d vs (before ++ generators_of q A d ys) (before ++ generators_of q A d chosen)
    chosen-taken [] ys chosen j l h = rw h refl
    chosen-taken (v ∷ vs) ys chosen j l (inl h) =
        inl (span-value ys l v h.0, chosen-taken vs ys chosen j.1 l h.1)
    chosen-taken (v ∷ vs) ys chosen j l (inr h) =
        inr (
          (λ u. h.0 (span-from ys [] before l p
              (λ w k. rw (append-nil us)
              (let s = value-span k.polynomial k.over in rw k.value_is at s)) v u)),
          (rw (
            generators-append d ys (v ∷ []),
            sym (append_assoc before (generators_of q A d ys) (generators_of q A d (v ∷ []))),
          ) at
              (chosen-taken vs (ys ++ v ∷ []) chosen j.1
              (each-append (λ (v : V). In d v) ys (v ∷ []) l (j.0, tt)) h.1)),
        )

  all-new-in : (zs ys : List (Generator V)) → AllNew q V A In L zs ys
      → Each (λ (h : Generator V). In h.degree h.class) ys
  all-new-in zs [] a = tt
  all-new-in zs (h ∷ ys) a = (a.1, all-new-in (zs ++ h ∷ []) ys a.4)

  each-of-all : (d : ℕ) (vs : List V) → ((v : V) → IsOneOf v vs → In d v) → Each (λ v. In d v) vs
  each-of-all d [] h = tt
  each-of-all d (v ∷ vs) h = (h v (inl refl), each-of-all d vs (λ w o. h w (inr o)))

  -- the generators by spans are the generators
  pub span-generators : (basis : ℕ → List V) → ((d : ℕ) → IsBasis V A In d (basis d))
      → (n : ℕ) (gs : List (Generator V)) → IsSpanGenerators q A basis n gs → IsGenerators q A basis n gs
  span-generators basis B zero gs h = h
  span-generators basis B (suc d) gs h = go (span-generators basis B d h.0 h.3)
    where
      go : IsGenerators q A basis d h.0 → IsGenerators q A basis (suc d) gs
      go g = (
        h.0,
        g,
        rw h.6 (rw (append-nil h.0) at
            (chosen-taken h.0 (suc d) h.1 h.4 (omega arith)
            (all-new-positive q V A In L [] h.0 (generators-new q V A In L basis B d h.0 g).0)
            (all-new-in [] h.0 (generators-new q V A In L basis B d h.0 g).0) (basis (suc d)) [] h.2
            (each-of-all (suc d) (basis (suc d)) (B (suc d)).inside) tt h.5)),
      )

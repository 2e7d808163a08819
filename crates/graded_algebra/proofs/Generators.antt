-- The generators generate, and none of them is superfluous.
use Rattle.std.proofs.Common.{◌≡◌, ◌≢◌, ℕ, zero, suc, ◌+◌, ◌*◌, ◌%◌, ◌<◌, ◌≤◌, List, [], ◌∷◌, ◌++◌, length}
use Rattle.std.proofs.Common.{◌⊎◌, inl, inr, arith, ap, ap₂, sym, ◌∙◌, refl, append_assoc}
use Rattle.std.proofs.lemmas.Bool.{cases_eq}
use Rattle.std.specs.List.{AllByRecursion as Each}
use Rattle.linear_algebra.specs.Modular.{IsCongruent, IsFieldModulo}
use Rattle.graded_polynomials.specs.Monomials.{IsMonomial, exponent}
use Rattle.graded_polynomials.specs.Polynomials.{Term, scaled, IsOver, IsOneOf}
use Rattle.graded_algebra.specs.Algebras.{Algebra, Generator, degrees, evaluate, evaluate_from, value, times}
use Rattle.graded_algebra.specs.Algebras.{IsGradedCommutative}
use Rattle.graded_algebra.specs.Presentations.{IsValue, IsTaken, IsGenerators, IsCombination, IsBasis}
use Rattle.linear_algebra.proofs.Congruences.{congruent_trans, congruent_eq}
use Rattle.graded_algebra.proofs.Leading.{zero-or-not}
use Rattle.graded_polynomials.proofs.Terms.{each-append, each-map, over-scaled}
use Rattle.graded_algebra.proofs.Vectors.{zero-add, times-one, times-times, times-congruent, times-add}
use Rattle.graded_algebra.proofs.Vectors.{times-sum, times-multiple}
use Rattle.graded_algebra.proofs.Values.{linear-append, linear-scaled}
use Rattle.graded_algebra.proofs.Ideals.{is-one-of-right, is-one-of-left}
use Rattle.std.proofs.Math.Nat.{zero-mod}
use Rattle.graded_algebra.proofs.MoreGenerators.{from-more, single, monomial-single, exponent-single}
use Rattle.graded_algebra.proofs.MoreGenerators.{last-case, degrees-append, length-degrees, value-of-more}

module _ (q : ℕ) (V : Type 0) (A : Algebra V) (In : ℕ → V → Type 0) (L : IsGradedCommutative q V A In) where
  -- the new generator is the value of its monomial
  from-single : (a : V) (gs : List (Generator V)) (g : Generator V)
      → evaluate_from A 0 a (gs ++ g ∷ []) (single (degrees gs)) ≡ A.mul 0 g.degree a g.class
  from-single a [] g = ap (λ d. A.mul d g.degree a g.class) (omega arith)
  from-single a (h ∷ gs) g =
      ap (λ j. evaluate_from A j a (gs ++ g ∷ []) (single (degrees gs)))
      (let e : 0 + h.degree * 0 ≡ 0 = omega arith in e)
      ∙ from-single a gs g

  pub evaluate-single : (gs : List (Generator V)) (g : Generator V) → In g.degree g.class
      → evaluate A (gs ++ g ∷ []) (single (degrees gs)) ≡ g.class
  evaluate-single gs g i = from-single A.one gs g ∙ L.one-mul g.degree g.class i

  pub value-of-new : (gs : List (Generator V)) (g : Generator V) → In g.degree g.class
      → IsValue q A (gs ++ g ∷ []) g.degree g.class
  value-of-new gs g i = record {
    polynomial = record { scalar = 1; monomial = single (degrees gs) } ∷ [];
    over = (rw (degrees-append gs (g ∷ [])) (monomial-single q (degrees gs) g.degree), tt);
    value_is = L.space.add-zero _ ∙ times-one q V A L.space _ ∙ evaluate-single gs g i;
  }

  pub value-zero : (gs : List (Generator V)) (d : ℕ) → IsValue q A gs d A.zero
  value-zero gs d = record { polynomial = []; over = tt; value_is = refl }

  -- c v + w
  pub value-sum : (gs : List (Generator V)) (d c : ℕ) (v w : V) → IsValue q A gs d v → IsValue q A gs d w
      → IsValue q A gs d (A.add (times A c v) w)
  value-sum gs d c v w h k = record {
    polynomial = scaled c h.polynomial ++ k.polynomial;
    over = each-append (λ (t : Term). IsMonomial q (degrees gs) d t.monomial)
        (scaled c h.polynomial) k.polynomial (over-scaled q (degrees gs) d c h.polynomial h.over) k.over;
    value_is = linear-append q V A L.space (evaluate A gs) (scaled c h.polynomial) k.polynomial
        ∙ ap₂ A.add (linear-scaled q V A L.space (evaluate A gs) c h.polynomial
        ∙ ap (times A c) h.value_is) k.value_is;
  }

  pub value-combination : (gs : List (Generator V)) (d : ℕ) (vs : List V)
      → ((v : V) → IsOneOf v vs → IsValue q A gs d v) → (v : V) → IsCombination A vs v → IsValue q A gs d v
  value-combination gs d [] h v c = rw c (value-zero gs d)
  value-combination gs d (x ∷ vs) h v c =
      rw c.3 (value-sum gs d c.0 x c.1 (h x (inl refl))
      (value-combination gs d vs (λ v o. h v (inr o)) c.1 c.2))

  -- each of the vectors gone through is a value
  pub record Reached (d : ℕ) (vs : List V) (before gs : List (Generator V)) : Type 0 where
    pub new : List (Generator V)
    pub prefix : gs ≡ before ++ new
    pub each : (v : V) → IsOneOf v vs → IsValue q A gs d v

  pub taken : (d : ℕ) (vs : List V) (before gs : List (Generator V)) → ((v : V) → IsOneOf v vs → In d v)
      → IsTaken q A d vs before gs → Reached d vs before gs
  taken d [] before gs i h = record { new = []; prefix = h ∙ sym (append-nil before); each = λ v o. absurd o }
    where
      append-nil : (xs : List (Generator V)) → xs ++ [] ≡ xs
      append-nil [] = refl
      append-nil (x ∷ xs) = ap (λ xs. x ∷ xs) (append-nil xs)
  taken d (v ∷ vs) before gs i (inl h) = go (taken d vs before gs (λ w o. i w (inr o)) h.1)
    where
      go : Reached d vs before gs → Reached d (v ∷ vs) before gs
      go r = record { new = r.new; prefix = r.prefix; each = each }
        where
          each : (w : V) → IsOneOf w (v ∷ vs) → IsValue q A gs d w
          each w (inl e) = rw (r.prefix, e) (value-of-more q A before r.new d v h.0)
          each w (inr o) = r.each w o
  taken d (v ∷ vs) before gs i (inr h) = go (taken d vs (before ++ g ∷ []) gs (λ w o. i w (inr o)) h.1)
    where
      g : Generator V
      g = record { degree = d; class = v }

      go : Reached d vs (before ++ g ∷ []) gs → Reached d (v ∷ vs) before gs
      go r = record { new = g ∷ r.new; prefix = r.prefix ∙ append_assoc before (g ∷ []) r.new; each = each }
        where
          each : (w : V) → IsOneOf w (v ∷ vs) → IsValue q A gs d w
          each w (inl e) = rw (
            r.prefix,
            e,
          ) (value-of-more q A (before ++ g ∷ []) r.new d v (value-of-new before g (i v (inl refl))))
          each w (inr o) = r.each w o

  module _ (basis : ℕ → List V) (B : (d : ℕ) → IsBasis V A In d (basis d)) where
    -- every vector of a degree from 1 to n is the value of a polynomial
    pub onto : (n : ℕ) (gs : List (Generator V)) → IsGenerators q A basis n gs → (d : ℕ) → d < n → (v : V)
        → In (suc d) v → IsValue q A gs (suc d) v
    onto zero gs h d l v i = absurd (omega arith)
    onto (suc n) gs h d l v i = go (onto n h.0 h.1 d) (cases_eq d n)
        (taken (suc n) (basis (suc n)) h.0 gs (B (suc n)).inside h.2)
      where
        go : (d < n → (v : V) → In (suc d) v → IsValue q A h.0 (suc d) v) → (d ≡ n) ⊎ (d ≡ n → ⊥)
            → Reached (suc n) (basis (suc n)) h.0 gs → IsValue q A gs (suc d) v
        go ih (inl e) r = rw e (value-combination gs (suc n) (basis (suc n)) r.each v
            ((B (suc n)).spans v (rw e at i)))
        go ih (inr ne) r = rw r.prefix (value-of-more q A h.0 r.new (suc d) v (ih (omega arith) v i))

  -- ys, added one after another to zs, are not values of what is before them, and are of no lower degree
  abbrev pub AllNew : List (Generator V) → List (Generator V) → Type 0
  AllNew zs [] = Unit {0}
  AllNew zs (h ∷ ys) =
      (IsValue q A zs h.degree h.class → ⊥) × In h.degree h.class × (0 < h.degree)
      × Each (λ x. x.degree ≤ h.degree) zs × AllNew (zs ++ h ∷ []) ys

  pub all-new-append : (zs xs ys : List (Generator V)) → AllNew zs xs → AllNew (zs ++ xs) ys
      → AllNew zs (xs ++ ys)
  all-new-append zs [] ys a b = rw (append-nil zs) at b
    where
      append-nil : (xs : List (Generator V)) → xs ++ [] ≡ xs
      append-nil [] = refl
      append-nil (x ∷ xs) = ap (λ xs. x ∷ xs) (append-nil xs)
  all-new-append zs (x ∷ xs) ys a b = (
    a.0,
    a.1,
    a.2,
    a.3,
    all-new-append (zs ++ x ∷ []) xs ys a.4 (rw (append_assoc zs (x ∷ []) xs) b),
  )

  pub all-new-split : (zs xs ys : List (Generator V)) → AllNew zs (xs ++ ys) → AllNew (zs ++ xs) ys
  all-new-split zs [] ys a = rw (append-nil zs) a
    where
      append-nil : (xs : List (Generator V)) → xs ++ [] ≡ xs
      append-nil [] = refl
      append-nil (x ∷ xs) = ap (λ xs. x ∷ xs) (append-nil xs)
  all-new-split zs (x ∷ xs) ys a = rw (append_assoc zs (x ∷ []) xs) at
      (all-new-split (zs ++ x ∷ []) xs ys a.4)

  -- f over zs and a last generator h of at least its degree: a multiple of h, and the terms over zs
  pub record Split (zs : List (Generator V)) (h : Generator V) (d k : ℕ) (f : List Term) : Type 0 where
    pub scalar : ℕ
    pub rest : List Term
    pub over : IsOver q (degrees zs) d rest
    pub free : Each (λ t. exponent t.monomial k ≡ 0) rest
    pub value_is : value A (zs ++ h ∷ []) f ≡ A.add (times A scalar h.class) (value A zs rest)
    pub degree_is : (scalar ≡ 0) ⊎ (h.degree ≡ d)
    pub none : k ≡ length zs → scalar ≡ 0

  pub split : (zs : List (Generator V)) (h : Generator V) (d k : ℕ) (f : List Term) → In h.degree h.class
      → 0 < h.degree → Each (λ a. 0 < a) (degrees zs) → d ≤ h.degree
      → IsOver q (degrees (zs ++ h ∷ [])) d f → Each (λ t. exponent t.monomial k ≡ 0) f → Split zs h d k f
  split zs h d k [] i b p l o z = record {
    scalar = 0;
    rest = [];
    over = tt;
    free = tt;
    value_is = sym (L.space.add-zero A.zero);
    degree_is = inl refl;
    none = λ e. refl;
  }
  split zs h d k (t ∷ f) i b p l o z = go (split zs h d k f i b p l o.1 z.1)
      (last-case q (degrees zs) h.degree d t.monomial p b l (rw (degrees-append zs (h ∷ [])) at o.0))
    where
      go : Split zs h d k f → IsMonomial q (degrees zs) d t.monomial
          ⊎ ((h.degree ≡ d) × (t.monomial ≡ single (degrees zs))) → Split zs h d k (t ∷ f)
      go s (inl m) = record {
        scalar = s.scalar;
        rest = t ∷ s.rest;
        over = (m, s.over);
        free = (z.0, s.free);
        value_is = ap₂ (λ x y. A.add (times A t.scalar x) y)
            (from-more A 0 A.one zs (h ∷ []) t.monomial m.within) s.value_is
            ∙ sym (L.space.add-assoc _ _ _) ∙ ap (λ y. A.add y (value A zs s.rest)) (L.space.add-comm _ _)
            ∙ L.space.add-assoc _ _ _;
        degree_is = s.degree_is;
        none = s.none;
      }
      go s (inr m) = record {
        scalar = t.scalar + s.scalar;
        rest = s.rest;
        over = s.over;
        free = s.free;
        value_is = ap₂ (λ x y. A.add (times A t.scalar x) y) (ap (evaluate A (zs ++ h ∷ [])) m.1
            ∙ evaluate-single zs h i) s.value_is
            ∙ sym (L.space.add-assoc _ _ _)
            ∙ ap (λ y. A.add y (value A zs s.rest))
            (sym (times-sum q V A L.space t.scalar s.scalar h.class));
        degree_is = inr m.0;
        none = λ e. absurd (let u : exponent t.monomial k ≡ 1 = rw (
          m.1,
          e,
          sym (length-degrees zs),
        ) (exponent-single (degrees zs)) in omega (arith, z.0, u));
      }

  each-of : {X : Type 0} (P : X → Type 0) (xs : List X) → Each P xs → (x : X) → IsOneOf x xs → P x
  each-of P [] h x o = absurd o
  each-of P (y ∷ ys) h x (inl e) = rw e h.0
  each-of P (y ∷ ys) h x (inr o) = each-of P ys h.1 x o

  positive-more : (zs : List (Generator V)) (h : Generator V) → Each (λ a. 0 < a) (degrees zs) → 0 < h.degree
      → Each (λ a. 0 < a) (degrees (zs ++ h ∷ []))
  positive-more zs h p b = rw (degrees-append zs (h ∷ []))
      (each-append (λ (a : ℕ). 0 < a) (degrees zs) (h.degree ∷ []) p (b, tt))

  pub all-new-positive : (zs ys : List (Generator V)) → AllNew zs ys → Each (λ a. 0 < a) (degrees ys)
  all-new-positive zs [] a = tt
  all-new-positive zs (h ∷ ys) a = (a.2, all-new-positive (zs ++ h ∷ []) ys a.4)

  -- v is the value of no polynomial of degree d without the generator at k
  abbrev NoValue : List (Generator V) → ℕ → ℕ → V → Type 0
  NoValue zs d k v = (f : List Term) → IsOver q (degrees zs) d f → Each (λ t. exponent t.monomial k ≡ 0) f
      → value A zs f ≡ v → ⊥

  -- h = b (c h + r) - b r, where b c = 1
  solved : (b c : ℕ) (h r v : V) → IsCongruent (suc q) (c * b) 1 → A.add (times A c h) r ≡ v
      → A.add (times A b v) (A.add (times A (b * q) r) A.zero) ≡ h
  solved b c h r v i e =
      ap₂ A.add (ap (times A b) (sym e) ∙ times-add q V A L.space b (times A c h) r) (L.space.add-zero _)
      ∙ L.space.add-assoc _ _ _
      ∙ ap₂ A.add (times-times q V A L.space b c h
      ∙ times-congruent q V A L.space h
      (congruent_trans (congruent_eq (let k : b * c ≡ c * b = omega arith in k)) i)
      ∙ times-one q V A L.space h)
      (sym (times-sum q V A L.space b (b * q) r)
      ∙ ap (λ n. times A n r) (let k : b + b * q ≡ b * suc q = omega arith in k)
      ∙ times-multiple q V A L.space b r)
      ∙ L.space.add-zero h

  module _ (field : IsFieldModulo (suc q)) where
    no-value-more : (zs : List (Generator V)) (h : Generator V) (d k : ℕ) (v : V) → In h.degree h.class
        → 0 < h.degree → Each (λ a. 0 < a) (degrees zs) → d ≤ h.degree
        → (IsValue q A zs h.degree h.class → ⊥) → IsValue q A zs d v → NoValue zs d k v
        → NoValue (zs ++ h ∷ []) d k v
    no-value-more zs h d k v i b p l new u none f o z e = go (split zs h d k f i b p l o z)
      where
        go : Split zs h d k f → ⊥
        go s = cases (zero-or-not q s.scalar) s.degree_is
          where
            equation : A.add (times A s.scalar h.class) (value A zs s.rest) ≡ v
            equation = sym s.value_is ∙ e

            cases : IsCongruent (suc q) s.scalar 0 ⊎ (s.scalar % suc q ≢ 0) → (s.scalar ≡ 0) ⊎ (h.degree ≡ d)
                → ⊥
            cases (inl c) x =
                none s.rest s.over s.free
                (sym (zero-add q V A L.space _)
                ∙ ap (λ w. A.add w (value A zs s.rest)) (sym (times-congruent q V A L.space h.class c))
                ∙ equation)
            cases (inr c) (inl x) = c (ap (λ n. n % suc q) x ∙ zero-mod (suc q))
            cases (inr c) (inr x) = new (rw (
              x,
              sym (solved inverse.0 s.scalar h.class (value A zs s.rest) v inverse.1 equation),
            )
                (value-sum zs d inverse.0 v _ u
                (value-sum zs d (inverse.0 * q) (value A zs s.rest) A.zero
                (record { polynomial = s.rest; over = s.over; value_is = refl }) (value-zero zs d))))
              where
                inverse : (b : ℕ) × IsCongruent (suc q) (s.scalar * b) 1
                inverse = field.inverse s.scalar c

    no-value-all : (ys zs : List (Generator V)) (g : Generator V) (k : ℕ) → IsOneOf g zs → AllNew zs ys
        → Each (λ a. 0 < a) (degrees zs)
        → IsValue q A zs g.degree g.class → NoValue zs g.degree k g.class
        → NoValue (zs ++ ys) g.degree k g.class
    no-value-all [] zs g k o a p u none = rw (append-nil zs) none
      where
        append-nil : (xs : List (Generator V)) → xs ++ [] ≡ xs
        append-nil [] = refl
        append-nil (x ∷ xs) = ap (λ xs. x ∷ xs) (append-nil xs)
    no-value-all (h ∷ ys) zs g k o a p u none =
        rw (sym (append_assoc zs (h ∷ []) ys))
        (no-value-all ys (zs ++ h ∷ []) g k (is-one-of-left g zs (h ∷ []) o) a.4 (positive-more zs h p a.2)
        (value-of-more q A zs (h ∷ []) g.degree g.class u)
        (no-value-more zs h g.degree k g.class a.1 a.2 p
        (each-of (λ (x : Generator V). x.degree ≤ h.degree) zs a.3 g o) a.0 u none))

    -- no generator is the value of a polynomial in the others
    pub generator-needed : (gs xs : List (Generator V)) (g : Generator V) (ys : List (Generator V))
        → AllNew [] gs → gs ≡ xs ++ g ∷ ys
        → NoValue gs g.degree (length xs) g.class
    generator-needed gs xs g ys a e =
        rw (e, sym (append_assoc xs (g ∷ []) ys))
        (no-value-all ys (xs ++ g ∷ []) g (length xs) (is-one-of-right g xs (g ∷ []) (inl refl)) here.4
        (positive-more xs g p here.2) (value-of-new xs g here.1) first)
      where
        here : AllNew xs (g ∷ ys)
        here = all-new-split [] xs (g ∷ ys) (rw e at a)

        all-new-left : (zs xs ys : List (Generator V)) → AllNew zs (xs ++ ys) → AllNew zs xs
        all-new-left zs [] ys a = tt
        all-new-left zs (x ∷ xs) ys a = (a.0, a.1, a.2, a.3, all-new-left (zs ++ x ∷ []) xs ys a.4)

        p : Each (λ a. 0 < a) (degrees xs)
        p = all-new-positive [] xs (all-new-left [] xs (g ∷ ys) (rw e at a))

        first : NoValue (xs ++ g ∷ []) g.degree (length xs) g.class
        first f o z v = go (split xs g g.degree (length xs) f here.1 here.2 p (omega arith) o z)
          where
            go : Split xs g g.degree (length xs) f → ⊥
            go s = here.0 record {
              polynomial = s.rest;
              over = s.over;
              value_is = sym (zero-add q V A L.space _)
                  ∙ ap (λ c. A.add (times A c g.class) (value A xs s.rest)) (sym (s.none refl))
                  ∙ sym s.value_is ∙ v;
            }

  pub record Newly (d : ℕ) (before gs : List (Generator V)) : Type 0 where
    pub new : List (Generator V)
    pub prefix : gs ≡ before ++ new
    pub all_new : AllNew before new
    pub low : Each (λ x. x.degree ≤ d) gs

  pub taken-new : (d : ℕ) (vs : List V) (before gs : List (Generator V)) → 0 < d
      → ((v : V) → IsOneOf v vs → In d v) → Each (λ x. x.degree ≤ d) before
      → IsTaken q A d vs before gs → Newly d before gs
  taken-new d [] before gs b i l h = record {
    new = [];
    prefix = h
        ∙ sym (append-nil before);
    all_new = tt;
    low = rw h l;
  }
    where
      append-nil : (xs : List (Generator V)) → xs ++ [] ≡ xs
      append-nil [] = refl
      append-nil (x ∷ xs) = ap (λ xs. x ∷ xs) (append-nil xs)
  taken-new d (v ∷ vs) before gs b i l (inl h) = taken-new d vs before gs b (λ w o. i w (inr o)) l h.1
  taken-new d (v ∷ vs) before gs b i l (inr h) =
      go (taken-new d vs (before ++ g ∷ []) gs b (λ w o. i w (inr o))
      (each-append (λ (x : Generator V). x.degree ≤ d) before (g ∷ []) l (omega arith, tt)) h.1)
    where
      g : Generator V
      g = record { degree = d; class = v }

      go : Newly d (before ++ g ∷ []) gs → Newly d before gs
      go r = record {
        new = g ∷ r.new;
        prefix = r.prefix ∙ append_assoc before (g ∷ []) r.new;
        all_new = (h.0, i v (inl refl), b, l, r.all_new);
        low = r.low;
      }

  pub generators-new : (basis : ℕ → List V) → ((d : ℕ) → IsBasis V A In d (basis d))
      → (n : ℕ) (gs : List (Generator V)) → IsGenerators q A basis n gs
      → AllNew [] gs × Each (λ x. x.degree ≤ n) gs
  generators-new basis B zero gs h = rw h (tt, tt)
  generators-new basis B (suc n) gs h = go (generators-new basis B n h.0 h.1)
    where
      go : AllNew [] h.0 × Each (λ x. x.degree ≤ n) h.0 → AllNew [] gs × Each (λ x. x.degree ≤ suc n) gs
      go a = (rw r.prefix (all-new-append [] h.0 r.new a.0 r.all_new), r.low)
        where
          r : Newly (suc n) h.0 gs
          r = taken-new (suc n) (basis (suc n)) h.0 gs (omega arith) (B (suc n)).inside
              (each-map (λ x. x.degree ≤ n) (λ x. x.degree ≤ suc n) h.0 (λ x l. omega arith) a.1) h.2

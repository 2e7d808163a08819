-- No relation is in the ideal of the others.
use Rattle.std.proofs.Common.{◌≡◌, ◌≢◌, ℕ, zero, suc, ◌*◌, ◌<◌, ◌≤◌, List, [], ◌∷◌, ◌++◌, length, true, false}
use Rattle.std.proofs.Common.{◌⊎◌, inl, inr, arith, ap, sym, ◌∙◌, refl}
use Rattle.std.specs.Prelude.{slice_index_or}
use Rattle.std.proofs.lemmas.Bool.{cases_eq, cases_order}
use Rattle.std.specs.List.{AllByRecursion as Each}
use Rattle.linear_algebra.specs.Modular.{IsCongruent, IsFieldModulo}
use Rattle.graded_polynomials.specs.Monomials.{IsMonomial, IsMonomials, same}
use Rattle.graded_polynomials.specs.Polynomials.{Term, Polynomial, Multiple, coefficient, multiple, total}
use Rattle.graded_polynomials.specs.Polynomials.{IsOver, IsOneOf, IsInIdeal, IsMultiple}
use Rattle.graded_algebra.specs.Algebras.{Algebra, Generator, degrees, IsGradedCommutative}
use Rattle.graded_algebra.specs.Presentations.{IsLeading, IsRelation, IsConsequence, IsStandard, IsRelationAt}
use Rattle.graded_algebra.specs.Presentations.{IsRelationsFrom, IsRelations}
use Rattle.linear_algebra.proofs.Congruences.{congruent_eq, congruent_trans, congruent_sym, congruent_add}
use Rattle.linear_algebra.proofs.Congruences.{congruent_mul_left, congruent_refl}
use Rattle.graded_algebra.proofs.Leading.{LeadsAt, vanishes-below, not-zero}
use Rattle.graded_polynomials.proofs.Terms.{coefficient-append, cases-same, same-refl}
use Rattle.graded_polynomials.proofs.Monomials.{over-total, only-one}
use Rattle.graded_algebra.proofs.Ideals.{is-one-of-left, is-one-of-right, is-one-of-append, multiple-one}
use Rattle.graded_algebra.proofs.Ideals.{multiple-scaled}
use Rattle.graded_algebra.proofs.Places.{coefficient_at, leading-at}
use Rattle.graded_algebra.proofs.Relations.{Status, status-at, Placed, placed, IsDefining, defining}
use Rattle.graded_algebra.proofs.Relations.{consequence-relation, one-not-zero, places-apart}

module _ (q : ℕ) (V : Type 0) (A : Algebra V) (In : ℕ → V
    → Type 0) (L : IsGradedCommutative q V A In) (gs : List (Generator V))
    (field : IsFieldModulo (suc q)) where
  -- x and y are not relations at one monomial
  abbrev Apart : Polynomial → Polynomial → Type 0
  Apart x y = (d : ℕ) (m : List ℕ) → IsRelationAt q A gs d m x → IsRelationAt q A gs d m y → ⊥

  abbrev AllApart : List Polynomial → Type 0
  AllApart [] = Unit {0}
  AllApart (x ∷ xs) = ((y : Polynomial) → IsOneOf y xs → Apart x y) × AllApart xs

  all-apart-append : (xs ys : List Polynomial) → AllApart xs → AllApart ys
      → ((x y : Polynomial) → IsOneOf x xs → IsOneOf y ys → Apart x y) → AllApart (xs ++ ys)
  all-apart-append [] ys a b c = b
  all-apart-append (x ∷ xs) ys a b c =
      ((λ y o. go y (is-one-of-append y xs ys o)), all-apart-append xs ys a.1 b (λ z y o p. c z y (inr o) p))
    where
      go : (y : Polynomial) → IsOneOf y xs ⊎ IsOneOf y ys → Apart x y
      go y (inl o) = a.0 y o
      go y (inr o) = c x y (inl refl) o

  -- a member apart from one in the middle
  apart-from : (xs : List Polynomial) (r : Polynomial) (ys : List Polynomial) → AllApart (xs ++ r ∷ ys)
      → (x : Polynomial) → IsOneOf x (xs ++ ys) → Apart x r
  apart-from [] r ys a x o d m g h = a.0 x o d m h g
  apart-from (z ∷ xs) r ys a x (inl e) d m g h =
      a.0 r (is-one-of-right r xs (r ∷ ys) (inl refl)) d m (rw (← e) g) h
  apart-from (z ∷ xs) r ys a x (inr o) d m g h = apart-from xs r ys a.1 x o d m g h

  -- where the coefficient is 1 the coefficient is not 0
  one-here : (d : ℕ) (m : List ℕ) (x : Polynomial) → IsRelationAt q A gs d m x
      → IsCongruent (suc q) (coefficient x.terms m) 0 → ⊥
  one-here d m x h z = not-zero (rw h.one at z) (one-not-zero q V A In L gs field)

  apart-in : (before : List Polynomial) (d : ℕ) (ms : List (List ℕ))
      → ((j k : ℕ) → j < k → k < length ms → slice_index_or ms j [] ≢ slice_index_or ms k [])
      → (rs : List Polynomial) → IsRelationsFrom q A gs before d ms rs → AllApart rs
  apart-in before d [] a rs h = rw h tt
  apart-in before d (m ∷ ms) a rs (inl h) =
      apart-in before d ms (λ j k l b. a (suc j) (suc k) (omega arith) (omega arith)) rs h.1
  apart-in before d (m ∷ ms) a rs (inr (inl h)) =
      apart-in before d ms (λ j k l b. a (suc j) (suc k) (omega arith) (omega arith)) rs h.1
  apart-in before d (m ∷ ms) a rs (inr (inr h)) =
      rw h.2 (
        (λ y o e n g k. different y e n g k (placed q V A gs before d ms h.1 h.6 y o)),
        apart-in before d ms (λ j k l b. a (suc j) (suc k) (omega arith) (omega arith)) h.1 h.6,
      )
    where
      -- y stands at a later place, so it is not a relation at m
      not-at : (y : Polynomial) → Placed q V A gs before d ms y → IsRelationAt q A gs d m y → ⊥
      not-at y p k = go (p.4.others m (a 0 (suc p.0) (omega arith) (omega (arith, p.1))))
        where
          go : (IsCongruent (suc q) (coefficient y.terms m) 0)
              ⊎ (IsMonomial q (degrees gs) d m × IsStandard q A gs d m) → ⊥
          go (inl z) = one-here d m y k z
          go (inr s) = s.1 h.3

      -- the relation at m is a relation at no other monomial
      different : (y : Polynomial) (e : ℕ) (n : List ℕ) → IsRelationAt q A gs e n h.0
          → IsRelationAt q A gs e n y → Placed q V A gs before d ms y → ⊥
      different y e n g k p = go (cases-same n m)
        where
          same-degree : e ≡ d
          same-degree = sym g.degree_is ∙ h.5.degree_is

          other : (IsCongruent (suc q) (coefficient h.0.terms m) 0)
              ⊎ (IsMonomial q (degrees gs) e m × IsStandard q A gs e m) → ⊥
          other (inl z) = one-here d m h.0 h.5 z
          other (inr s) = let t : IsStandard q A gs d m = rw same-degree at s.1 in t h.3

          go : ((same n m ≡ true) × (n ≡ m)) ⊎ ((same n m ≡ false) × (n ≢ m)) → ⊥
          go (inl o) = let j : IsRelationAt q A gs d m y = rw (same-degree, o.1) at k in not-at y p j
          go (inr o) = other (g.others m (λ x. o.1 (sym x)))

  pub all-apart : (n : ℕ) (rs : List Polynomial) → IsRelations q A gs n rs → AllApart rs
  all-apart zero rs h = rw h tt
  all-apart (suc d) rs h =
      rw h.6 (all-apart-append h.0 h.1 (all-apart d h.0 h.3)
      (apart-in h.0 (suc d) h.2 (places-apart q V A gs (suc d) h.2 h.4) h.1 h.5)
      (λ x y o p e m g k. degrees-apart (defining q V A gs d h.0 h.3 x o)
      (placed q V A gs h.0 (suc d) h.2 h.1 h.5 y p) (g.degree_is ∙ sym k.degree_is)))
    where
      degrees-apart : {x y : Polynomial} → IsDefining q V A gs d x → Placed q V A gs h.0 (suc d) h.2 y
          → x.degree ≡ y.degree → ⊥
      degrees-apart a p e = omega (arith, a.up_to, p.4.degree_is, e)

  -- what the relations of one degree are, among all
  pub record Level (d : ℕ) (rs : List Polynomial) : Type 0 where
    pub before : List Polynomial
    pub new : List Polynomial
    pub ms : List (List ℕ)
    pub is_before : IsRelations q A gs d before
    pub are_all : IsMonomials q (degrees gs) (suc d) ms
    pub is_new : IsRelationsFrom q A gs before (suc d) ms new
    pub low : (x : Polynomial) → IsOneOf x rs → x.degree ≤ d → IsOneOf x before
    pub here : (x : Polynomial) → IsOneOf x rs → x.degree ≡ suc d → IsOneOf x new

  pub level : (n : ℕ) (rs : List Polynomial) → IsRelations q A gs n rs → (d : ℕ) → d < n → Level d rs
  level zero rs h d l = absurd (omega arith)
  level (suc n) rs h d l = go (level n h.0 h.3 d) (cases_eq d n)
    where
      part : (x : Polynomial) → IsOneOf x rs → IsOneOf x h.0 ⊎ IsOneOf x h.1
      part x o = is-one-of-append x h.0 h.1 (rw h.6 at o)

      degree-new : (x : Polynomial) → IsOneOf x h.1 → x.degree ≡ suc n
      degree-new x o = (placed q V A gs h.0 (suc n) h.2 h.1 h.5 x o).4.degree_is

      old : (x : Polynomial) → x.degree ≤ n → IsOneOf x h.0 ⊎ IsOneOf x h.1 → IsOneOf x h.0
      old x l (inl o) = o
      old x l (inr o) = absurd (omega (arith, l, degree-new x o))

      fresh : (x : Polynomial) → x.degree ≡ suc n → IsOneOf x h.0 ⊎ IsOneOf x h.1 → IsOneOf x h.1
      fresh x l (inl o) = let u : x.degree ≤ n = (defining q V A gs n h.0 h.3 x o).up_to in
          absurd (omega (arith, l, u))
      fresh x l (inr o) = o

      go : (d < n → Level d h.0) → (d ≡ n) ⊎ (d ≡ n → ⊥) → Level d rs
      go f (inl e) = rw e record {
        before = h.0;
        new = h.1;
        ms = h.2;
        is_before = h.3;
        are_all = h.4;
        is_new = h.5;
        low = λ x o l. old x l (part x o);
        here = λ x o l. fresh x l (part x o);
      }
      go f (inr ne) = let b : d < n = omega arith in let v = f b in record {
        before = v.before;
        new = v.new;
        ms = v.ms;
        is_before = v.is_before;
        are_all = v.are_all;
        is_new = v.is_new;
        low = λ x o l. v.low x (old x (omega (arith, l, b)) (part x o)) l;
        here = λ x o l. v.here x (old x (omega (arith, l, b)) (part x o)) l;
      }

  module _ (positive : Each (λ d. 0 < d) (degrees gs)) where
    -- the multiples of relations before, without those of degree d
    record Lower (d : ℕ) (before others : List Polynomial) (ts : List Multiple) : Type 0 where
      us : List Multiple
      each : Each (IsMultiple q (degrees gs) before d) us
      agree : (m : List ℕ) → ((x : Polynomial) → IsOneOf x others → x.degree ≡ d
          → IsCongruent (suc q) (coefficient x.terms m) 0)
          → IsCongruent (suc q) (coefficient (total q (degrees gs) ts) m)
          (coefficient (total q (degrees gs) us) m)

    -- a multiple of degree d of a polynomial of degree d is a multiple by a number
    same-degree : (d : ℕ) (others : List Polynomial) (t : Multiple) → IsMultiple q (degrees gs) others d t
        → t.of.degree ≡ d → IsOver q (degrees gs) t.of.degree t.of.terms
        → (m : List ℕ) → IsCongruent (suc q) (coefficient t.of.terms m) 0
        → IsCongruent (suc q) (coefficient (multiple q (degrees gs) t.scalar t.by t.of.terms) m) 0
    same-degree d others t h e o m z =
        congruent_trans (congruent_eq
        (ap (λ b. coefficient (multiple q (degrees gs) t.scalar b t.of.terms) m)
        (only-one q (degrees gs) t.by positive
        (let k : IsMonomial q (degrees gs) 0 t.by =
        (let i : h.rest ≡ 0 = omega (arith, h.degree_is, e) in rw i at h.monomial) in k))
        ∙ ap (λ c. coefficient (multiple q (degrees gs) c [] t.of.terms) m)
        (let i : t.scalar ≡ t.scalar * 1 = omega arith in i)
        ∙ multiple-scaled q (degrees gs) t.scalar 1 [] t.of.terms m
        ∙ ap (λ z. t.scalar * z) (multiple-one q (degrees gs) t.of.degree t.of.terms o m)))
        (congruent_trans (congruent_mul_left t.scalar z) (congruent_eq (omega arith)))

    lower : (d : ℕ) (before others : List Polynomial)
        → ((x : Polynomial) → IsOneOf x others → x.degree < d → IsOneOf x before)
        → ((x : Polynomial) → IsOneOf x others → IsOver q (degrees gs) x.degree x.terms)
        → (ts : List Multiple) → Each (IsMultiple q (degrees gs) others d) ts → Lower d before others ts
    lower d before others low over [] h = record { us = []; each = tt; agree = λ m c. congruent_refl 0 }
    lower d before others low over (t ∷ ts) h =
        go (lower d before others low over ts h.1) (cases_order t.of.degree d)
      where
        go : Lower d before others ts → (t.of.degree ≡ d) ⊎ ((t.of.degree < d) ⊎ (d < t.of.degree))
            → Lower d before others (t ∷ ts)
        go v (inl e) = record {
          us = v.us;
          each = v.each;
          agree = λ m c.
              congruent_trans (congruent_eq
              (coefficient-append (multiple q (degrees gs) t.scalar t.by t.of.terms)
              (total q (degrees gs) ts) m))
              (congruent_trans (congruent_add
              (same-degree d others t h.0 e (over t.of h.0.given) m (c t.of h.0.given e)) (v.agree m c))
              (congruent_eq (omega arith)));
        }
        go v (inr (inl l)) = record {
          us = t ∷ v.us;
          each = (
            record {
              given = low t.of h.0.given l;
              rest = h.0.rest;
              monomial = h.0.monomial;
              degree_is = h.0.degree_is;
            },
            v.each,
          );
          agree = λ m c.
              congruent_trans (congruent_eq
              (coefficient-append (multiple q (degrees gs) t.scalar t.by t.of.terms)
              (total q (degrees gs) ts) m))
              (congruent_trans (congruent_add (congruent_refl _) (v.agree m c))
              (congruent_eq (sym (coefficient-append (multiple q (degrees gs) t.scalar t.by t.of.terms)
              (total q (degrees gs) v.us) m))));
        }
        go v (inr (inr l)) = absurd (omega (arith, h.0.degree_is))

    -- no relation is in the ideal of the others
    pub relation-needed : (n : ℕ) (rs : List Polynomial) → IsRelations q A gs n rs
        → (xs : List Polynomial) (r : Polynomial) (ys : List Polynomial)
        → rs ≡ xs ++ r ∷ ys → IsInIdeal q (degrees gs) (xs ++ ys) r.degree r.terms → ⊥
    relation-needed n rs h xs r ys e i = at-degree r.degree refl (defining q V A gs n rs h r r-in)
      where
        r-in : IsOneOf r rs
        r-in = rw e (is-one-of-right r xs (r ∷ ys) (inl refl))

        other-in : (x : Polynomial) → IsOneOf x (xs ++ ys) → IsOneOf x rs
        other-in x o = go (is-one-of-append x xs ys o)
          where
            go : IsOneOf x xs ⊎ IsOneOf x ys → IsOneOf x rs
            go (inl o) = rw e (is-one-of-left x xs (r ∷ ys) o)
            go (inr o) = rw e (is-one-of-right x xs (r ∷ ys) (inr o))

        in-level : (d : ℕ) → r.degree ≡ suc d → d < n → ⊥
        in-level d g l = one-here (suc d) (slice_index_or v.ms p.0 []) r p.4
            (congruent_trans (r-is (slice_index_or v.ms p.0 []) at-r) (zeros p.0 p.1))
          where
            v : Level d rs
            v = level n rs h d l

            p : Placed q V A gs v.before (suc d) v.ms r
            p = placed q V A gs v.before (suc d) v.ms v.new v.is_new r (v.here r r-in g)

            w : Lower (suc d) v.before (xs ++ ys) i.multiples
            w = lower (suc d) v.before (xs ++ ys) (λ x o b. v.low x (other-in x o) (omega arith))
                (λ x o. (defining q V A gs n rs h x (other-in x o)).vanishes.over) i.multiples
                (rw g at i.each)

            sum : List Term
            sum = total q (degrees gs) w.us

            is-consequence : IsConsequence q A gs v.before (suc d) sum
            is-consequence = record {
              over = over-total q (degrees gs) v.before (suc d)
                  (λ x o. (defining q V A gs d v.before v.is_before x o).vanishes.over) w.us w.each;
              ideal = record { multiples = w.us; each = w.each; sum = same-refl sum };
            }

            r-is : (m : List ℕ) → ((x : Polynomial) → IsOneOf x (xs ++ ys) → x.degree ≡ suc d
                → IsCongruent (suc q) (coefficient x.terms m) 0)
                → IsCongruent (suc q) (coefficient r.terms m) (coefficient sum m)
            r-is m c = congruent_trans (i.sum.at m) (w.agree m c)

            -- a relation is 0 at a monomial that leads and is not its own
            elsewhere : (m : List ℕ) → IsLeading q A (IsRelation q A gs (suc d)) m
                → (x : Polynomial) (z : Placed q V A gs v.before (suc d) v.ms x)
                → (m ≡ slice_index_or v.ms z.0 [] → ⊥) → IsCongruent (suc q) (coefficient x.terms m) 0
            elsewhere m a x z ne = go (z.4.others m ne)
              where
                go : (IsCongruent (suc q) (coefficient x.terms m) 0)
                    ⊎ (IsMonomial q (degrees gs) (suc d) m × IsStandard q A gs (suc d) m)
                    → IsCongruent (suc q) (coefficient x.terms m) 0
                go (inl c) = c
                go (inr s) = absurd (s.1 a)

            place : (x : Polynomial) → IsOneOf x (xs ++ ys) → x.degree ≡ suc d
                → Placed q V A gs v.before (suc d) v.ms x
            place x o b = placed q V A gs v.before (suc d) v.ms v.new v.is_new x (v.here x (other-in x o) b)

            at-r : (x : Polynomial) → IsOneOf x (xs ++ ys) → x.degree ≡ suc d
                → IsCongruent (suc q) (coefficient x.terms (slice_index_or v.ms p.0 [])) 0
            at-r x o b = elsewhere (slice_index_or v.ms p.0 []) p.2 x (place x o b)
                (λ k. apart-from xs r ys (let a : AllApart rs = all-apart n rs h in rw e at a) x o (suc d)
                (slice_index_or v.ms p.0 []) (rw k (place x o b).4) p.4)

            leads-relation : (m : List ℕ) → IsLeading q A (IsConsequence q A gs v.before (suc d)) m
                → IsLeading q A (IsRelation q A gs (suc d)) m
            leads-relation m a = record {
              member = a.member;
              is_member = consequence-relation q V A In L gs d v.before v.is_before
                  (suc d) a.member a.is_member;
              here = a.here;
              above = a.above;
            }

            -- where the multiples lead, all relations of the degree are 0
            at-leading-place : (m : List ℕ) → IsLeading q A (IsConsequence q A gs v.before (suc d)) m
                → (x : Polynomial) (z : Placed q V A gs v.before (suc d) v.ms x)
                → IsCongruent (suc q) (coefficient x.terms m) 0
            at-leading-place m a x z = elsewhere m (leads-relation m a) x z (λ k. z.3 (rw k at a))

            zeros : (k : ℕ) → k < length v.ms → IsCongruent (suc q) (coefficient_at v.ms sum k) 0
            zeros = vanishes-below q (length v.ms) (List Term) (coefficient_at v.ms)
                (IsConsequence q A gs v.before (suc d)) sum is-consequence (length v.ms)
                (λ k b. go k b (status-at q V A gs v.before (suc d) v.ms v.new v.is_new k b))
              where
                no-lead : (k : ℕ) → k < length v.ms
                    → (IsLeading q A (IsConsequence q A gs v.before (suc d)) (slice_index_or v.ms k []) → ⊥)
                    → LeadsAt q (length v.ms) (List Term) (coefficient_at v.ms)
                    (IsConsequence q A gs v.before (suc d)) k → ⊥
                no-lead k b f a = f (leading-at q (degrees gs) (suc d) v.ms v.are_all A
                    (IsConsequence q A gs v.before (suc d)) (λ f c. c.over) k b a)

                go : (k : ℕ) → k < length v.ms
                    → Status q V A gs v.before (suc d) v.new (slice_index_or v.ms k [])
                    → IsCongruent (suc q) (coefficient_at v.ms sum k) 0
                    ⊎ (LeadsAt q (length v.ms) (List Term) (coefficient_at v.ms)
                    (IsConsequence q A gs v.before (suc d)) k → ⊥)
                go k b (inl s) = inr (no-lead k b (λ a. s (leads-relation (slice_index_or v.ms k []) a)))
                go k b (inr (inl a)) = inl (congruent_trans
                    (congruent_sym (r-is (slice_index_or v.ms k [])
                    (λ x o c. at-leading-place (slice_index_or v.ms k []) a x (place x o c))))
                    (at-leading-place (slice_index_or v.ms k []) a r p))
                go k b (inr (inr s)) = inr (no-lead k b s.3)

        at-degree : (d : ℕ) → r.degree ≡ d → IsDefining q V A gs n r → ⊥
        at-degree zero g b = omega (arith, g, b.positive)
        at-degree (suc d) g b = in-level d g (omega (arith, g, b.up_to))

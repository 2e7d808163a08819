-- The relations generate the polynomials of value 0.
use Rattle.std.proofs.Common.{◌≡◌, ◌≢◌, ℕ, zero, suc, ◌+◌, ◌%◌, ◌<◌, ◌≤◌, List, [], ◌∷◌, ◌++◌, length, ◌⊎◌}
use Rattle.std.proofs.Common.{inl, inr, arith, ap, ap₂, ◌∙◌, refl}
use Rattle.std.specs.Prelude.{slice_index_or}
use Rattle.std.proofs.lemmas.Bool.{cases_eq}
use Rattle.linear_algebra.specs.Modular.{IsCongruent, IsFieldModulo}
use Rattle.graded_polynomials.specs.Monomials.{IsMonomial, IsMonomials}
use Rattle.graded_polynomials.specs.Polynomials.{Term, Polynomial, scaled, IsOneOf, IsInIdeal}
use Rattle.graded_algebra.specs.Algebras.{Algebra, Generator, degrees, evaluate, value, times, IsSpace}
use Rattle.graded_algebra.specs.Algebras.{IsGradedCommutative}
use Rattle.graded_algebra.specs.Presentations.{IsLeading, IsRelation, IsConsequence, IsStandard, IsRelationAt}
use Rattle.graded_algebra.specs.Presentations.{IsRelationsFrom, IsRelations}
use Rattle.linear_algebra.proofs.Congruences.{congruent_eq}
use Rattle.graded_algebra.proofs.Leading.{LeadsAt, generates, vanishes-below}
use Rattle.graded_polynomials.proofs.Terms.{each-append, over-scaled, coefficient-append, coefficient-scaled}
use Rattle.graded_algebra.proofs.Vectors.{times-zero}
use Rattle.graded_algebra.proofs.Values.{linear-append, linear-scaled}
use Rattle.graded_algebra.proofs.Ideals.{Vanishes, ideal-vanishes, ideal-zero, ideal-back, ideal-more}
use Rattle.graded_algebra.proofs.Ideals.{ideal-self, is-one-of-left, is-one-of-right, is-one-of-append}
use Rattle.std.proofs.Math.Nat.{mod-eq_of_lt}
use Rattle.graded_polynomials.proofs.Order.{greater-self}
use Rattle.graded_algebra.proofs.Places.{coefficient_at, zero-everywhere, leading-at, at-leading}

module _ (q : ℕ) (V : Type 0) (A : Algebra V) (gs : List (Generator V)) where
  -- what is said of a monomial m of degree d
  abbrev pub Status : List Polynomial → ℕ → List Polynomial → List ℕ → Type 0
  Status before d rs m =
      IsStandard q A gs d m
      ⊎ IsLeading q A (IsConsequence q A gs before d) m
      ⊎ ((r : Polynomial) × IsOneOf r rs × IsLeading q A (IsRelation q A gs d) m
      × (IsLeading q A (IsConsequence q A gs before d) m → ⊥) × IsRelationAt q A gs d m r)

  status-more : (before : List Polynomial) (d : ℕ) (r : Polynomial) (rest rs : List Polynomial) (m : List ℕ)
      → rs ≡ r ∷ rest → Status before d rest m → Status before d rs m
  status-more before d r rest rs m e (inl s) = inl s
  status-more before d r rest rs m e (inr (inl s)) = inr (inl s)
  status-more before d r rest rs m e (inr (inr s)) = inr (inr (s.0, rw e (inr s.1), s.2, s.3, s.4))

  pub status-at : (before : List Polynomial) (d : ℕ) (ms : List (List ℕ)) (rs : List Polynomial)
      → IsRelationsFrom q A gs before d ms rs
      → (k : ℕ) → k < length ms → Status before d rs (slice_index_or ms k [])
  status-at before d [] rs h k l = absurd (omega arith)
  status-at before d (m ∷ ms) rs (inl h) zero l = inl h.0
  status-at before d (m ∷ ms) rs (inl h) (suc k) l = status-at before d ms rs h.1 k (omega arith)
  status-at before d (m ∷ ms) rs (inr (inl h)) zero l = inr (inl h.0)
  status-at before d (m ∷ ms) rs (inr (inl h)) (suc k) l = status-at before d ms rs h.1 k (omega arith)
  status-at before d (m ∷ ms) rs (inr (inr h)) zero l = inr (inr (h.0, rw h.2 (inl refl), h.3, h.4, h.5))
  status-at before d (m ∷ ms) rs (inr (inr h)) (suc k) l =
      status-more before d h.0 h.1 rs _ h.2 (status-at before d ms h.1 h.6 k (omega arith))

  -- the place of a relation
  abbrev pub Placed : List Polynomial → ℕ → List (List ℕ) → Polynomial → Type 0
  Placed before d ms r =
      (k : ℕ) × (k < length ms) × IsLeading q A (IsRelation q A gs d) (slice_index_or ms k [])
      × (IsLeading q A (IsConsequence q A gs before d) (slice_index_or ms k []) → ⊥)
      × IsRelationAt q A gs d (slice_index_or ms k []) r

  placed-more : (before : List Polynomial) (d : ℕ) (m : List ℕ) (ms : List (List ℕ)) (r : Polynomial)
      → Placed before d ms r → Placed before d (m ∷ ms) r
  placed-more before d m ms r p = (suc p.0, omega (arith, p.1), p.2, p.3, p.4)

  pub placed : (before : List Polynomial) (d : ℕ) (ms : List (List ℕ)) (rs : List Polynomial)
      → IsRelationsFrom q A gs before d ms rs
      → (r : Polynomial) → IsOneOf r rs → Placed before d ms r
  placed before d [] rs h r o = absurd (rw h at o)
  placed before d (m ∷ ms) rs (inl h) r o = placed-more before d m ms r (placed before d ms rs h.1 r o)
  placed before d (m ∷ ms) rs (inr (inl h)) r o = placed-more before d m ms r (placed before d ms rs h.1 r o)
  placed before d (m ∷ ms) rs (inr (inr h)) r o = go (rw h.2 at o) (placed before d ms h.1 h.6 r)
    where
      go : IsOneOf r (h.0 ∷ h.1) → (IsOneOf r h.1 → Placed before d ms r) → Placed before d (m ∷ ms) r
      go (inl e) f = (0, omega arith, h.3, h.4, rw e h.5)
      go (inr o) f = placed-more before d m ms r (f o)

  -- each relation has its degree, and the value 0
  pub record IsDefining (n : ℕ) (r : Polynomial) : Type 0 where
    pub positive : 0 < r.degree
    pub up_to : r.degree ≤ n
    pub vanishes : Vanishes q V A gs r

  pub defining : (n : ℕ) (rs : List Polynomial) → IsRelations q A gs n rs → (r : Polynomial) → IsOneOf r rs
      → IsDefining n r
  defining zero rs h r o = absurd (rw h at o)
  defining (suc d) rs h r o = go (is-one-of-append r h.0 h.1 (rw h.6 at o)) (defining d h.0 h.3 r)
    where
      go : IsOneOf r h.0 ⊎ IsOneOf r h.1 → (IsOneOf r h.0 → IsDefining d r) → IsDefining (suc d) r
      go (inl o) f = let e = f o in record {
        positive = e.positive;
        up_to = omega (arith, e.up_to);
        vanishes = e.vanishes;
      }
      go (inr o) f = let p = placed h.0 (suc d) h.2 h.1 h.5 r o in record {
        positive = omega (arith, p.4.degree_is);
        up_to = omega (arith, p.4.degree_is);
        vanishes = record { over = rw p.4.degree_is p.4.polynomial.over; value_is = p.4.vanishes };
      }

  -- descending members are different
  pub places-apart : (d : ℕ) (ms : List (List ℕ)) → IsMonomials q (degrees gs) d ms → (j k : ℕ) → j < k
      → k < length ms → slice_index_or ms j [] ≢ slice_index_or ms k []
  places-apart d ms M j k l b e = greater-self (slice_index_or ms k []) (rw e at (M.descending j k l b))

  -- a relation is 0 at the places before its own
  relation-before : (d : ℕ) (ms : List (List ℕ)) → IsMonomials q (degrees gs) d ms → (k : ℕ) → k < length ms
      → (r : Polynomial) → IsRelationAt q A gs d (slice_index_or ms k []) r
      → (j : ℕ) → j < k → IsCongruent (suc q) (coefficient_at ms r.terms j) 0
  relation-before d ms M k l r R =
      vanishes-below q (length ms) (List Term) (coefficient_at ms) (IsRelation q A gs d) r.terms
      (record { over = R.polynomial.over; vanishes = R.vanishes }) k
      (λ j b. go j b (R.others (slice_index_or ms j []) (places-apart d ms M j k b l)))
    where
      go : (j : ℕ) → j < k → (IsCongruent (suc q) (coefficient_at ms r.terms j) 0)
          ⊎ (IsMonomial q (degrees gs) d (slice_index_or ms j [])
          × IsStandard q A gs d (slice_index_or ms j []))
          → IsCongruent (suc q) (coefficient_at ms r.terms j) 0
          ⊎ (LeadsAt q (length ms) (List Term) (coefficient_at ms) (IsRelation q A gs d) j → ⊥)
      go j b (inl z) = inl z
      go j b (inr s) = inr (λ a. s.1 (leading-at q (degrees gs) d ms M A (IsRelation q A gs d)
          (λ f r. r.over) j (omega arith) a))

module _ (q : ℕ) (V : Type 0) (A : Algebra V) (S : IsSpace q V A) (gs : List (Generator V)) where
  pub relation-plus : (d : ℕ) (f g : List Term) (c : ℕ) → IsRelation q A gs d f → IsRelation q A gs d g
      → IsRelation q A gs d (f ++ scaled c g)
  relation-plus d f g c x y = record {
    over = each-append (λ (t : Term). IsMonomial q (degrees gs) d t.monomial) f (scaled c g) x.over
        (over-scaled q (degrees gs) d c g y.over);
    vanishes = linear-append q V A S (evaluate A gs) f (scaled c g)
        ∙ ap₂ A.add x.vanishes (linear-scaled q V A S (evaluate A gs) c g ∙ ap (times A c) y.vanishes
        ∙ times-zero q V A S c)
        ∙ S.add-zero A.zero;
  }

module _ (q : ℕ) (V : Type 0) (A : Algebra V) (In : ℕ → V
    → Type 0) (L : IsGradedCommutative q V A In) (gs : List (Generator V)) where
  -- the ideal has the value 0
  pub ideal-value : (n : ℕ) (rs : List Polynomial) → IsRelations q A gs n rs → (d : ℕ) (f : List Term)
      → IsInIdeal q (degrees gs) rs d f → value A gs f ≡ A.zero
  ideal-value n rs h d f i = ideal-vanishes q V A In L gs rs
      (λ r o. (defining q V A gs n rs h r o).vanishes) d f i

  -- L_d lies in I_d
  pub consequence-relation : (n : ℕ) (rs : List Polynomial) → IsRelations q A gs n rs
      → (d : ℕ) (f : List Term) → IsConsequence q A gs rs d f → IsRelation q A gs d f
  consequence-relation n rs h d f c = record { over = c.over; vanishes = ideal-value n rs h d f c.ideal }

  module _ (field : IsFieldModulo (suc q)) where
    pub one-not-zero : 1 % suc q ≢ 0
    one-not-zero e = let h : 1 % suc q ≡ 1 = mod-eq_of_lt field.above_one in omega (arith, e, h)

    in-degree : (d : ℕ) (before new : List Polynomial) (ms : List (List ℕ)) → IsRelations q A gs d before
        → IsMonomials q (degrees gs) (suc d) ms
        → IsRelationsFrom q A gs before (suc d) ms new → (f : List Term) → IsRelation q A gs (suc d) f
        → IsInIdeal q (degrees gs) (before ++ new) (suc d) f
    in-degree d before new ms b M h =
        generates q (length ms) (List Term) (coefficient_at ms) field (λ f c g. f ++ scaled c g)
        (λ f g c k. congruent_eq (coefficient-append f (scaled c g) _
        ∙ ap (λ z. coefficient_at ms f k + z) (coefficient-scaled c g _)))
        (IsRelation q A gs (suc d)) (IsInIdeal q (degrees gs) (before ++ new) (suc d))
        (relation-plus q V A L.space gs (suc d))
        (λ f g c i k. ideal-back q (degrees gs) (before ++ new) (suc d) f g c i k)
        (λ f r z. ideal-zero q (degrees gs) (before ++ new) (suc d) f
        (zero-everywhere q (degrees gs) (suc d) ms M f r.over z))
        (λ k l. go k l (status-at q V A gs before (suc d) ms new h k l))
      where
        Both : List Term → Type 0
        Both f = IsRelation q A gs (suc d) f × IsInIdeal q (degrees gs) (before ++ new) (suc d) f

        both : (m : List ℕ) → IsLeading q A (IsConsequence q A gs before (suc d)) m → IsLeading q A Both m
        both m s = record {
          member = s.member;
          is_member = (
            consequence-relation d before b (suc d) s.member s.is_member,
            ideal-more q (degrees gs) before (suc d) (before ++ new)
                (λ r o. is-one-of-left r before new o) s.member s.is_member.ideal,
          );
          here = s.here;
          above = s.above;
        }

        go : (k : ℕ) → k < length ms → Status q V A gs before (suc d) new (slice_index_or ms k [])
            → (LeadsAt q (length ms) (List Term) (coefficient_at ms) (IsRelation q A gs (suc d)) k → ⊥)
            ⊎ LeadsAt q (length ms) (List Term) (coefficient_at ms) Both k
        go k l (inl s) = inl (λ a. s (leading-at q (degrees gs) (suc d) ms M A (IsRelation q A gs (suc d))
            (λ f r. r.over) k l a))
        go k l (inr (inl s)) = inr (at-leading q (degrees gs) (suc d) ms M A Both (λ f r. r.0.over) k l
            (both _ s))
        go k l (inr (inr s)) = inr record {
          member = s.0.terms;
          is_member = (
            record { over = s.4.polynomial.over; vanishes = s.4.vanishes },
            ideal-self q (degrees gs) (before ++ new) (suc d) s.0 s.4.degree_is
                (is-one-of-right s.0 before new s.1) s.4.polynomial.over,
          );
          here = rw s.4.one one-not-zero;
          before = relation-before q V A gs (suc d) ms M k l s.0 s.4;
        }

    -- what has the value 0 is in the ideal of the relations, in degrees 1 to n
    pub relation-ideal : (n : ℕ) (rs : List Polynomial) → IsRelations q A gs n rs → (d : ℕ) → d < n
        → (f : List Term) → IsRelation q A gs (suc d) f
        → IsInIdeal q (degrees gs) rs (suc d) f
    relation-ideal zero rs h d l f r = absurd (omega arith)
    relation-ideal (suc n) rs h d l f r = go (relation-ideal n h.0 h.3 d) (cases_eq d n)
      where
        go : (d < n → (f : List Term) → IsRelation q A gs (suc d) f → IsInIdeal q (degrees gs) h.0 (suc d) f)
            → (d ≡ n) ⊎ (d ≡ n → ⊥) → IsInIdeal q (degrees gs) rs (suc d) f
        go ih (inr x) = rw h.6 (ideal-more q (degrees gs) h.0 (suc d) (h.0 ++ h.1)
            (λ r o. is-one-of-left r h.0 h.1 o) f (ih (omega arith) f r))
        go ih (inl e) = rw (h.6, e) (in-degree n h.0 h.1 h.2 h.3 h.4 h.5 f (rw e at r))

-- Generators and relations of a graded algebra through a degree, with the leading and standard monomials of
-- its relations
-- (Becker and Weispfenning, "Groebner Bases", 5.1; Green, LNM 1828, 4).
use Rattle.std.specs.Prelude.{◌≡◌, ◌≢◌, ℕ, zero, suc, ◌%◌, ◌⊎◌, List, [], ◌∷◌, ◌++◌, map}
use Rattle.std.specs.List.{AllByRecursion as Each}
use Rattle.linear_algebra.specs.Modular.{IsCongruent}
use Rattle.graded_polynomials.specs.Monomials.{IsMonomial, IsMonomials, IsGreater}
use Rattle.graded_polynomials.specs.Polynomials.{Term, Polynomial, coefficient, IsOver, IsPolynomial}
use Rattle.graded_polynomials.specs.Polynomials.{IsInIdeal, IsOneOf}
use Rattle.graded_algebra.specs.Algebras.{Algebra, Generator, degrees, evaluate, value, times}

-- v is a sum of multiples of vs
abbrev pub IsCombination : {V : Type 0} → Algebra V → List V → V → Type 0
IsCombination A [] v = v ≡ A.zero
IsCombination {V} A (x ∷ xs) v = (c : ℕ) × (w : V) × IsCombination A xs w × (v ≡ A.add (times A c x) w)

module _ (q : ℕ) {V : Type 0} (A : Algebra V) where
  -- v is the value of a polynomial of degree d in gs
  pub record IsValue (gs : List (Generator V)) (d : ℕ) (v : V) : Type 0 where
    pub polynomial : List Term
    pub over : IsOver q (degrees gs) d polynomial
    pub value_is : value A gs polynomial ≡ v

  -- of the vectors vs of degree d, in order, those are taken as generators that are not the value of a
  -- polynomial in the generators before
  abbrev pub IsTaken : ℕ → List V → List (Generator V) → List (Generator V) → Type 0
  IsTaken d [] before gs = gs ≡ before
  IsTaken d (v ∷ vs) before gs =
      (IsValue before d v × IsTaken d vs before gs)
      ⊎ ((IsValue before d v → ⊥) × IsTaken d vs (before ++ record { degree = d; class = v } ∷ []) gs)

  -- the generators of degrees 1 to n, with the dual basis of each degree
  abbrev pub IsGenerators : (ℕ → List V) → ℕ → List (Generator V) → Type 0
  IsGenerators basis zero gs = gs ≡ []
  IsGenerators basis (suc d) gs = (before : List (Generator V)) × IsGenerators basis d before
      × IsTaken (suc d) (basis (suc d)) before gs

  -- the generators of degree d with the classes vs
  abbrev pub generators_of : ℕ → List V → List (Generator V)
  generators_of d [] = []
  generators_of d (v ∷ vs) = record { degree = d; class = v } ∷ generators_of d vs

  -- of the vectors vs, in order, those are chosen that are not in the span of us and of the vectors chosen
  -- before
  abbrev pub IsChosen : List V → List V → List V → List V → Type 0
  IsChosen us [] before chosen = chosen ≡ before
  IsChosen us (v ∷ vs) before chosen =
      (IsCombination A (us ++ before) v × IsChosen us vs before chosen)
      ⊎ ((IsCombination A (us ++ before) v → ⊥) × IsChosen us vs (before ++ v ∷ []) chosen)

  -- the generators of degrees 1 to n by spans: in degree d, of the values of the monomials in the generators
  -- of lower degree
  abbrev pub IsSpanGenerators : (ℕ → List V) → ℕ → List (Generator V) → Type 0
  IsSpanGenerators basis zero gs = gs ≡ []
  IsSpanGenerators basis (suc d) gs =
      (before : List (Generator V)) × (ms : List (List ℕ)) × (chosen : List V)
      × IsSpanGenerators basis d before
      × IsMonomials q (degrees before) (suc d) ms
      × IsChosen (map (evaluate A before) ms) (basis (suc d)) [] chosen
      × (gs ≡ before ++ generators_of (suc d) chosen)

  -- f is of degree d, and its value is 0
  pub record IsRelation (gs : List (Generator V)) (d : ℕ) (f : List Term) : Type 0 where
    pub over : IsOver q (degrees gs) d f
    pub vanishes : value A gs f ≡ A.zero

  -- m is the greatest monomial of a member of S
  pub record IsLeading (S : List Term → Type 0) (m : List ℕ) : Type 0 where
    pub member : List Term
    pub is_member : S member
    pub here : coefficient member m % suc q ≢ 0
    pub above : (n : List ℕ) → IsGreater n m → IsCongruent (suc q) (coefficient member n) 0

  -- the members of degree d of the ideal of rs
  pub record IsConsequence (gs : List (Generator V)) (rs : List Polynomial) (d : ℕ)
      (f : List Term) : Type 0 where
    pub over : IsOver q (degrees gs) d f
    pub ideal : IsInIdeal q (degrees gs) rs d f

  abbrev pub IsStandard : List (Generator V) → ℕ → List ℕ → Type 0
  IsStandard gs d m = IsLeading (IsRelation gs d) m → ⊥

  -- r is m minus a combination of standard monomials, and its value is 0
  pub record IsRelationAt (gs : List (Generator V)) (d : ℕ) (m : List ℕ) (r : Polynomial) : Type 0 where
    pub degree_is : r.degree ≡ d
    pub polynomial : IsPolynomial q (degrees gs) d r.terms
    pub vanishes : value A gs r.terms ≡ A.zero
    pub one : coefficient r.terms m ≡ 1
    pub others : (n : List ℕ) → n ≢ m → (IsCongruent (suc q) (coefficient r.terms n) 0)
        ⊎ (IsMonomial q (degrees gs) d n × IsStandard gs d n)

  -- one relation for each monomial among ms that leads in the relations of degree d and not in the multiples
  -- of those before
  abbrev pub IsRelationsFrom : List (Generator V) → List Polynomial → ℕ → List (List ℕ) → List Polynomial
      → Type 0
  IsRelationsFrom gs before d [] rs = rs ≡ []
  IsRelationsFrom gs before d (m ∷ ms) rs =
      (IsStandard gs d m × IsRelationsFrom gs before d ms rs)
      ⊎ (IsLeading (IsConsequence gs before d) m × IsRelationsFrom gs before d ms rs)
      ⊎ ((r : Polynomial) × (rest : List Polynomial) × (rs ≡ r ∷ rest) × IsLeading (IsRelation gs d) m
      × (IsLeading (IsConsequence gs before d) m → ⊥) × IsRelationAt gs d m r
      × IsRelationsFrom gs before d ms rest)

  -- the relations of degrees 1 to n
  abbrev pub IsRelations : List (Generator V) → ℕ → List Polynomial → Type 0
  IsRelations gs zero rs = rs ≡ []
  IsRelations gs (suc d) rs =
      (before : List Polynomial) × (new : List Polynomial) × (ms : List (List ℕ)) × IsRelations gs d before
      × IsMonomials q (degrees gs) (suc d) ms × IsRelationsFrom gs before (suc d) ms new
      × (rs ≡ before ++ new)

-- the vectors of degree d are the sums of multiples of its basis
pub record IsBasis (V : Type 0) (A : Algebra V) (In : ℕ → V → Type 0) (d : ℕ) (vs : List V) : Type 0 where
  pub inside : (v : V) → IsOneOf v vs → In d v
  pub spans : (v : V) → In d v → IsCombination A vs v

-- f is the combination of standard monomials of degree d whose value is v
pub record IsNormalForm (q : ℕ) {V : Type 0} (A : Algebra V) (gs : List (Generator V)) (d : ℕ) (v : V)
    (f : List Term) : Type 0 where
  pub polynomial : IsPolynomial q (degrees gs) d f
  pub standard : Each (λ t. IsStandard q A gs d t.monomial) f
  pub value_is : value A gs f ≡ v

-- What lies in the ideal in one degree lies there in each later degree.
use Rattle.std.proofs.Common.{◌≡◌, ◌≢◌, ℕ, zero, suc, ◌+◌, ◌-◌, ◌*◌, ◌≤◌, List, [], ◌∷◌, ◌++◌, map, true, ◌⊎◌}
use Rattle.std.proofs.Common.{inl, inr, arith, ap, ap₂, sym, subst, ◌∙◌, refl}
use Rattle.std.specs.Prelude.{All}
use Rattle.std.specs.List.{AllByRecursion as Each}
use Rattle.std.proofs.lemmas.List.Elements.{recursion_from_All}
use Rattle.linear_algebra.specs.Modular.{IsCongruent}
use Rattle.linear_algebra.proofs.Congruences.{congruent_eq, congruent_trans, congruent_mul_left}
use Rattle.graded_polynomials.specs.Monomials.{joined, degree, fits, sign, swaps, IsWithin, IsTrimmed}
use Rattle.graded_polynomials.specs.Monomials.{IsMonomial}
use Rattle.graded_polynomials.specs.Polynomials.{Term, Polynomial, Multiple, coefficient, multiple, total}
use Rattle.graded_polynomials.specs.Polynomials.{IsSame, IsMultiple, IsOneOf, IsOver, IsInIdeal}
use Rattle.graded_polynomials.proofs.Monomials.{degree-joined, monomial-joined, over-total}
use Rattle.graded_algebra.proofs.Ideals.{degree-nil}
use Rattle.graded_algebra.proofs.Division.{coefficient-multiple, multiple-occurs}
use Rattle.gc_poly.proofs.ProductLemmas.{multiple-append}
use Rattle.gc_poly.specs.Generators.{Generators, greatest}
use Rattle.gc_poly.specs.Polynomials.{IsOverGenerators, IsMonomialOf}
use Rattle.param_test.specs.Finiteness.{unit_degree, AreVariables, AllInIdeal}
use Rattle.param_test.proofs.VariableDegrees.{fits-variables, sign-variables, low-degree}
use Rattle.param_test.proofs.Deciding.{one-of-each}
use Rattle.param_test.proofs.Bridge.{single}

joined-empty : (a : List ℕ) → joined a [] ≡ a
joined-empty [] = refl
joined-empty (x ∷ a) = refl

joined-assoc : (a b c : List ℕ) → joined (joined a b) c ≡ joined a (joined b c)
joined-assoc [] b c = refl
joined-assoc (x ∷ a) [] c = refl
joined-assoc (x ∷ a) (y ∷ b) [] = refl
joined-assoc (x ∷ a) (y ∷ b) (z ∷ c) =
    ap₂ (λ (x : ℕ) (xs : List ℕ). x ∷ xs) (omega arith) (joined-assoc a b c)

-- m is a variable times another monomial
record Divided (v : ℕ) (ds m : List ℕ) : Type 0 where
  by : List ℕ
  rest : List ℕ
  product : joined by rest ≡ m
  by_within : IsWithin ds by
  by_trimmed : IsTrimmed by
  by_some : by ≢ []
  by_degree : degree ds by ≡ v
  rest_within : IsWithin ds rest
  rest_trimmed : IsTrimmed rest

first-degree : (v d : ℕ) (ds : List ℕ) → d ≡ v → degree (d ∷ ds) (1 ∷ []) ≡ v
first-degree v d ds e = let z = degree-nil ds in omega (arith, z, e)

divided : (v : ℕ) (ds m : List ℕ) → Each (λ d. d ≡ v) ds → IsWithin ds m → IsTrimmed m → m ≢ []
    → Divided v ds m
divided v ds [] h w t n = absurd (n refl)
divided v [] (x ∷ m) h w t n = absurd w
divided v (d ∷ ds) (suc zero ∷ []) h w t n = record {
  by = 1 ∷ [];
  rest = [];
  product = refl;
  by_within = tt;
  by_trimmed = (λ e z. omega (arith, z), tt);
  by_some = λ e. absurd cc;
  by_degree = first-degree v d ds h.0;
  rest_within = tt;
  rest_trimmed = tt;
}
divided v (d ∷ ds) (suc zero ∷ (y ∷ m)) h w t n = record {
  by = 1 ∷ [];
  rest = 0 ∷ (y ∷ m);
  product = refl;
  by_within = tt;
  by_trimmed = (λ e z. omega (arith, z), tt);
  by_some = λ e. absurd cc;
  by_degree = first-degree v d ds h.0;
  rest_within = w;
  rest_trimmed = (λ e. absurd cc, t.1);
}
divided v (d ∷ ds) (suc (suc x) ∷ m) h w t n = record {
  by = 1 ∷ [];
  rest = suc x ∷ m;
  product = ap (λ (x : ℕ). x ∷ m) (omega arith);
  by_within = tt;
  by_trimmed = (λ e z. omega (arith, z), tt);
  by_some = λ e. absurd cc;
  by_degree = first-degree v d ds h.0;
  rest_within = w;
  rest_trimmed = (λ e z. omega (arith, z), t.1);
}
divided v (d ∷ ds) (zero ∷ m) h w t n = later (divided v ds m h.1 w t.1 (λ e. t.0 e refl))
  where
    later : Divided v ds m → Divided v (d ∷ ds) (zero ∷ m)
    later D = go D.rest D.product D.rest_within D.rest_trimmed
      where
        go : (n : List ℕ) → joined D.by n ≡ m → IsWithin ds n → IsTrimmed n → Divided v (d ∷ ds) (zero ∷ m)
        go [] e a b = record {
          by = 0 ∷ D.by;
          rest = [];
          product = ap (λ (m : List ℕ). 0 ∷ m) (sym (joined-empty D.by) ∙ e);
          by_within = D.by_within;
          by_trimmed = (λ e. absurd (D.by_some e), D.by_trimmed);
          by_some = λ e. absurd cc;
          by_degree = omega (arith, D.by_degree);
          rest_within = tt;
          rest_trimmed = tt;
        }
        go (y ∷ n) e a b = record {
          by = 0 ∷ D.by;
          rest = 0 ∷ (y ∷ n);
          product = ap (λ (m : List ℕ). 0 ∷ m) e;
          by_within = D.by_within;
          by_trimmed = (λ e. absurd (D.by_some e), D.by_trimmed);
          by_some = λ e. absurd cc;
          by_degree = omega (arith, D.by_degree);
          rest_within = a;
          rest_trimmed = (λ e. absurd cc, b);
        }

-- n is a times a monomial
abbrev IsTimes : ℕ → List ℕ → ℕ → List ℕ → List ℕ → Type 0
IsTimes q ds d a n = (m : List ℕ) × IsMonomial q ds d m × (fits q ds (joined a m) ≡ true) × (joined a m ≡ n)

-- products with a monomial respect equality
same-multiple : (q : ℕ) (ds : List ℕ) (d : ℕ) (a : List ℕ) (f g : List Term)
    → ((m : List ℕ) → fits q ds m ≡ true)
    → IsOver q ds d f → IsOver q ds d g → IsSame q f g → IsSame q (multiple q ds 1 a f) (multiple q ds 1 a g)
same-multiple q ds d a f g fit F G h =
    record { at = λ n. go n (multiple-occurs q ds d 1 a f F n) (multiple-occurs q ds d 1 a g G n) }
  where
    there : (n : List ℕ) → IsTimes q ds d a n
        → IsCongruent (suc q) (coefficient (multiple q ds 1 a f) n) (coefficient (multiple q ds 1 a g) n)
    there n p =
        subst
        (λ n. IsCongruent (suc q) (coefficient (multiple q ds 1 a f) n) (coefficient (multiple q ds 1 a g) n))
        p.3
        (congruent_trans (congruent_eq (coefficient-multiple q ds d 1 a f F p.0 p.1 p.2))
        (congruent_trans (congruent_mul_left 1 (congruent_mul_left (sign q (swaps ds a p.0)) (h.at p.0)))
        (congruent_eq (sym (coefficient-multiple q ds d 1 a g G p.0 p.1 p.2)))))

    go : (n : List ℕ) → IsTimes q ds d a n ⊎ (coefficient (multiple q ds 1 a f) n ≡ 0)
        → IsTimes q ds d a n ⊎ (coefficient (multiple q ds 1 a g) n ≡ 0)
        → IsCongruent (suc q) (coefficient (multiple q ds 1 a f) n) (coefficient (multiple q ds 1 a g) n)
    go n (inl p) y = there n p
    go n (inr x) (inl p) = there n p
    go n (inr x) (inr y) = congruent_eq (x ∙ sym y)

module _ (g : Generators) (A : AreVariables g) where
  abbrev q : ℕ
  q = greatest g

  plain-multiple : (c : ℕ) (m : List ℕ) (t : Term) (f : List Term)
      → multiple (greatest g) g.degrees c m (t ∷ f)
      ≡ record { scalar = c * t.scalar; monomial = joined m t.monomial } ∷ multiple (greatest g) g.degrees c m
      f
  plain-multiple c m t f = rw (fits-variables g (joined m t.monomial) A, sign-variables g m t.monomial A)
      (ap
      (λ (s : ℕ). record { scalar = c * s; monomial = joined m t.monomial } ∷ multiple (greatest g) g.degrees
      c m f) (omega arith))

  shift-multiple : (x : List ℕ) (c : ℕ) (by : List ℕ) (f : List Term)
      → multiple (greatest g) g.degrees 1 x (multiple (greatest g) g.degrees c by f)
      ≡ multiple (greatest g) g.degrees c (joined x by) f
  shift-multiple x c by [] = refl
  shift-multiple x c by (t ∷ f) =
      ap (λ f. multiple (greatest g) g.degrees 1 x f) (plain-multiple c by t f)
      ∙ plain-multiple 1 x (record { scalar = c * t.scalar; monomial = joined by t.monomial })
      (multiple (greatest g) g.degrees c by f)
      ∙ term (let z : 1 * (c * t.scalar) ≡ c * t.scalar = omega arith in z)
      (sym (joined-assoc x by t.monomial)) (shift-multiple x c by f)
      ∙ sym (plain-multiple c (joined x by) t f)
    where
      term : {a b : ℕ} {m n : List ℕ} {u w : List Term} → a ≡ b → m ≡ n → u ≡ w
          → (record { scalar = a; monomial = m } ∷ u) ≡ (record { scalar = b; monomial = n } ∷ w)
      term e f g = cc

  abbrev shifted : List ℕ → Multiple → Multiple
  shifted x t = record { scalar = t.scalar; by = joined x t.by; of = t.of }

  shift-total : (x : List ℕ) (ts : List Multiple)
      → multiple (greatest g) g.degrees 1 x (total (greatest g) g.degrees ts)
      ≡ total (greatest g) g.degrees (map (shifted x) ts)
  shift-total x [] = refl
  shift-total x (t ∷ ts) =
      multiple-append (greatest g) g.degrees 1 x (multiple (greatest g) g.degrees t.scalar t.by t.of.terms)
      (total (greatest g) g.degrees ts)
      ∙ ap₂ (λ (a b : List Term). a ++ b) (shift-multiple x t.scalar t.by t.of.terms) (shift-total x ts)

  module _ (fs : List Polynomial) (over : All (IsOverGenerators g) fs) where
    shift-each : (x : List ℕ) (d e : ℕ) → IsMonomialOf g d x → (ts : List Multiple)
        → Each (IsMultiple (greatest g) g.degrees fs e) ts
        → Each (IsMultiple (greatest g) g.degrees fs (d + e)) (map (shifted x) ts)
    shift-each x d e X [] h = tt
    shift-each x d e X (t ∷ ts) h = (
      record {
        given = h.0.given;
        rest = d + h.0.rest;
        monomial = monomial-joined (greatest g) g.degrees d h.0.rest (d + h.0.rest) x t.by X h.0.monomial refl
            (fits-variables g (joined x t.by) A);
        degree_is = omega (arith, h.0.degree_is);
      },
      shift-each x d e X ts h.1,
    )

    over-each : (r : Polynomial) → IsOneOf r fs → IsOver (greatest g) g.degrees r.degree r.terms
    over-each r o =
        (one-of-each (IsOverGenerators g) fs r (recursion_from_All (IsOverGenerators g) fs over) o).over

    product-in-ideal : (x n : List ℕ) (d e : ℕ) → IsMonomialOf g d x → IsMonomialOf g e n
        → IsInIdeal (greatest g) g.degrees fs e (single n)
        → IsInIdeal (greatest g) g.degrees fs (d + e) (single (joined x n))
    product-in-ideal x n d e X N i = record {
      multiples = map (shifted x) i.multiples;
      each = shift-each x d e X i.multiples i.each;
      sum = subst (λ f. IsSame (greatest g) f (total (greatest g) g.degrees (map (shifted x) i.multiples)))
          (plain-multiple 1 x (record { scalar = 1; monomial = n }) [])
          (subst (λ f. IsSame (greatest g) (multiple (greatest g) g.degrees 1 x (single n)) f)
          (shift-total x i.multiples)
          (same-multiple (greatest g) g.degrees e x (single n) (total (greatest g) g.degrees i.multiples)
          (λ m. fits-variables g m A)
          (N, tt) (over-total (greatest g) g.degrees fs e over-each i.multiples i.each) i.sum));
    }

    all-next : (e : ℕ) → AllInIdeal g fs e → AllInIdeal g fs (suc e)
    all-next e a m M = subst (λ m. IsInIdeal (greatest g) g.degrees fs (suc e * unit_degree g) (single m))
        D.product
        (subst (λ d. IsInIdeal (greatest g) g.degrees fs d (single (joined D.by D.rest))) sum
        (product-in-ideal D.by D.rest (unit_degree g) (e * unit_degree g) X N (a D.rest N)))
      where
        sum : unit_degree g + e * unit_degree g ≡ suc e * unit_degree g
        sum = omega arith

        some : m ≢ []
        some z = let k : degree g.degrees m ≡ 0 = ap (degree g.degrees) z ∙ degree-nil g.degrees in
            let l = (low-degree (greatest g)).0 in omega (arith, M.degree_is, k, l, sum)

        D : Divided (unit_degree g) g.degrees m
        D = divided (unit_degree g) g.degrees m (recursion_from_All (λ d. d ≡ unit_degree g) g.degrees A)
            M.within M.trimmed some

        X : IsMonomialOf g (unit_degree g) D.by
        X =
            record {
              within = D.by_within;
              trimmed = D.by_trimmed;
              fitting = fits-variables g D.by A;
              degree_is = D.by_degree;
            }

        N : IsMonomialOf g (e * unit_degree g) D.rest
        N = record {
          within = D.rest_within;
          trimmed = D.rest_trimmed;
          fitting = fits-variables g D.rest A;
          degree_is = let k : degree g.degrees (joined D.by D.rest) ≡ suc e * unit_degree g =
              ap (degree g.degrees) D.product ∙ M.degree_is in
              omega (arith, degree-joined g.degrees D.by D.rest, D.by_degree, k, sum);
        }

    pub all-later : (e k : ℕ) → AllInIdeal g fs e → AllInIdeal g fs (e + k)
    all-later e zero a = subst (AllInIdeal g fs) (let z : e ≡ e + 0 = omega arith in z) a
    all-later e (suc k) a = subst (AllInIdeal g fs) (let z : suc (e + k) ≡ e + suc k = omega arith in z)
        (all-next (e + k) (all-later e k a))

    -- where all are in the ideal in one degree, they are in no later degree not
    pub none-before : (d e : ℕ) → d ≤ e → (AllInIdeal g fs e → ⊥) → AllInIdeal g fs d → ⊥
    none-before d e l n a =
        n (subst (AllInIdeal g fs) (let z : d + (e - d) ≡ e = omega arith in z) (all-later d (e - d) a))

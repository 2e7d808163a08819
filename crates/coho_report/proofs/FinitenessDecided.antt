-- The finiteness test has an answer Yes, or it has not.
use Rattle.std.proofs.Common.{◌≡◌, ◌⊎◌, inl, inr, ℕ, zero, suc, ◌+◌, ◌*◌, ◌<◌, ◌≤◌, List}
use Rattle.std.proofs.Common.{length, sym, subst, refl, arith}
use Rattle.std.specs.Prelude.{All}
use Rattle.std.specs.List.{AllByRecursion as Each}
use Rattle.std.proofs.lemmas.Bool.{cases_lt}
use Rattle.std.proofs.lemmas.List.Elements.{recursion_from_All}
use Rattle.linear_algebra.specs.Modular.{IsFieldModulo, IsSmallPrime}
use Rattle.linear_algebra.proofs.Existence.{echelon}
use Rattle.linear_algebra.proofs.Fields.{field_of_prime}
use Rattle.graded_polynomials.specs.AllMonomials.{all_monomials}
use Rattle.graded_polynomials.specs.Polynomials.{Polynomial}
use Rattle.graded_polynomials.proofs.AllMonomials.{all-monomials}
use Rattle.graded_polynomials.proofs.Terms.{each-map}
use Rattle.gc_poly.specs.Generators.{Generators, greatest}
use Rattle.gc_poly.specs.Polynomials.{IsOverGenerators}
use Rattle.presentation_rows.proofs.Existence.{multiples-exist, multiples-matrix}
use Rattle.param_test.specs.Counting.{number}
use Rattle.param_test.specs.Finiteness.{unit_degree, last_degree, AreVariables, AreCounted, AllInIdeal}
use Rattle.param_test.specs.Finiteness.{IsPassedOver, ArePassedOver, IsYes, IsFinite}
use Rattle.param_test.specs.Nonzero.{nonzero}
use Rattle.param_test.specs.Variables.{variables, all_kept}
use Rattle.param_test.proofs.Counts.{counted}
use Rattle.param_test.proofs.Deciding.{all-from-rank, rank-from-all}
use Rattle.param_test.proofs.Keeping.{all-kept-over}
use Rattle.param_test.proofs.OneAnswer.{counted-unique}
use Rattle.param_test.proofs.Products.{prime-suc}
use Rattle.param_test.proofs.Restricting.{variables-are}
use Rattle.param_test.proofs.VariableDegrees.{low-degree}
use Rattle.coho_report.proofs.ListsBelow.{decide_equal}

module _ (g : Generators) (fs : List Polynomial) (prime : IsSmallPrime g.prime)
    (all-variables : AreVariables g) (over : All (IsOverGenerators g) fs) where
  positive : Each (λ d. 0 < d) g.degrees
  positive = each-map (λ d. d ≡ unit_degree g) (λ d. 0 < d) g.degrees
      (λ d e. let l = (low-degree (greatest g)).0 in omega (arith, l, e))
      (recursion_from_All (λ d. d ≡ unit_degree g) g.degrees all-variables)

  field : IsFieldModulo (suc (greatest g))
  field = field_of_prime (suc (greatest g)) (subst IsSmallPrime (prime-suc g.prime prime) prime)

  -- the rank of the multiples decides
  decide_all : (e : ℕ) → AllInIdeal g fs e ⊎ (AllInIdeal g fs e → ⊥)
  decide_all e =
      let q = greatest g in
      let d = e * unit_degree g in
      let ms = all_monomials q g.degrees d in
      let M = all-monomials q g.degrees positive d in
      let R = multiples-exist q g.degrees positive d ms (nonzero fs) in
      let E = echelon field _ (multiples-matrix q g.degrees positive d ms (nonzero fs)) in
      let p : suc q ≡ g.prime = sym (prime-suc g.prime prime) in
      go (decide_equal (length E.0) (length ms))
      (all-from-rank g fs e d ms _ prime over refl M R (suc q) (length ms) E.0 p refl E.1)
      (rank-from-all g fs e d ms _ prime over refl M R (suc q) (length ms) E.0 p refl E.1)
    where
      go : {P Q : Type 0} → P ⊎ (P → ⊥) → (P → Q) → (Q → P) → Q ⊎ (Q → ⊥)
      go (inl p) f h = inl (f p)
      go (inr not) f h = inr (λ q. not (h q))

  abbrev Answer : ℕ → Type 0
  Answer last = (e : ℕ) × IsYes g fs last e

  -- the degrees from 1 on and below e are passed over: what is answered in the degrees from e on, of which
  -- there are k
  decide_from : (last k e : ℕ) → 1 ≤ e → e + k ≡ last + 1 → ArePassedOver g fs e
      → Answer last ⊎ (Answer last → ⊥)
  decide_from last zero e low end passed = inr (λ y. not-answered y)
    where
      not-answered : Answer last → ⊥
      not-answered y = let h = y.1.high in
          (passed y.0 y.1.low (omega (arith, h, end))).not_all y.1.all
  decide_from last (suc k) e low end passed = go (cases_lt 1500 (number (length g.degrees) e)) (decide_all e)
      (λ passed-too. decide_from last k (suc e) (omega arith) (omega (arith, end)) passed-too)
    where
      count : AreCounted g e (number (length g.degrees) e)
      count = counted g all-variables e

      -- an earlier answer contradicts what is passed over, and a later one passes over e
      only-here : (AllInIdeal g fs e → ⊥) ⊎ (1500 < number (length g.degrees) e) → (y : Answer last) → y.0 ≡ e
          → ⊥
      only-here (inl not) y same = not (subst (AllInIdeal g fs) same y.1.all)
      only-here (inr many) y same =
          let n = counted-unique g e y.1.number (number (length g.degrees) e)
          (subst (λ e. AreCounted g e y.1.number) same y.1.counted) count in
          let few = y.1.few in omega (arith, n, few, many)

      too-many : 1500 < number (length g.degrees) e → Answer last → ⊥
      too-many many y = place (cases_lt y.0 e) (cases_lt e y.0)
        where
          place : (y.0 < e) ⊎ (e ≤ y.0) → (e < y.0) ⊎ (y.0 ≤ e) → ⊥
          place (inl l) c = (passed y.0 y.1.low l).not_all y.1.all
          place (inr h) (inl l) =
              let here = y.1.before e low l in
              let n = counted-unique g e here.number (number (length g.degrees) e) here.counted count in
              let few = here.few in omega (arith, n, few, many)
          place (inr h) (inr l) = let same : y.0 ≡ e = omega (arith, h, l) in only-here (inr many) y same

      more : number (length g.degrees) e ≤ 1500 → (AllInIdeal g fs e → ⊥) → ArePassedOver g fs (suc e)
      more few not d from below = place (cases_lt d e)
        where
          place : (d < e) ⊎ (e ≤ d) → IsPassedOver g fs d
          place (inl l) = passed d from l
          place (inr h) = let same : e ≡ d = omega (arith, h, below) in
              subst (IsPassedOver g fs) same (record {
                number = number (length g.degrees) e;
                counted = count;
                few = few;
                not_all = not;
              })

      go : (1500 < number (length g.degrees) e) ⊎ (number (length g.degrees) e ≤ 1500)
          → AllInIdeal g fs e ⊎ (AllInIdeal g fs e → ⊥)
          → (ArePassedOver g fs (suc e) → Answer last ⊎ (Answer last → ⊥)) → Answer last ⊎ (Answer last → ⊥)
      go (inl many) c later = inr (too-many many)
      go (inr few) (inl all) later = inl (
        e,
        record {
          low = low;
          high = omega (arith, end);
          before = passed;
          number = number (length g.degrees) e;
          counted = count;
          few = few;
          all = all;
        },
      )
      go (inr few) (inr not) later = later (more few not)

  pub decide_answer : (last : ℕ) → Answer last ⊎ (Answer last → ⊥)
  decide_answer last = decide_from last last 1 (omega arith) (omega arith)
      (λ e from below. absurd (omega (arith, from, below)))

pub decide_finite : (g : Generators) (fs : List Polynomial) → IsSmallPrime g.prime
    → All (IsOverGenerators g) fs
    → IsFinite g fs ⊎ (IsFinite g fs → ⊥)
decide_finite g fs prime over = decide_answer (variables g) (all_kept g fs) prime (variables-are g)
    (all-kept-over g fs over) (last_degree (variables g) (all_kept g fs))

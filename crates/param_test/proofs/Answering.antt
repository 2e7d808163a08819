-- From the last degree that may be tried to the answer.
use Rattle.std.proofs.Common.{◌≡◌, ℕ, ◌+◌, ◌<◌, ◌≤◌, List, length, arith, sym, subst, ◌∙◌}
use Rattle.std.specs.Prelude.{All}
use Rattle.graded_polynomials.specs.Polynomials.{Polynomial}
use Rattle.gc_poly.specs.Generators.{Generators}
use Rattle.gc_poly.specs.Polynomials.{IsOverGenerators}
use Rattle.param_test.specs.Counting.{number}
use Rattle.param_test.specs.Finiteness.{AreVariables, AllInIdeal, AreCounted, IsPassedOver, IsYes, IsNo}
use Rattle.param_test.specs.Finiteness.{IsTooMany}
use Rattle.param_test.proofs.Counts.{counted}
use Rattle.param_test.proofs.Later.{none-before}
use Rattle.param_test.proofs.Numbers.{number-one}

module _ (g : Generators) (fs : List Polynomial) (A : AreVariables g) (over : All (IsOverGenerators g) fs)
    (last t : ℕ)
    (few : (e : ℕ) → e ≤ t → number (length g.degrees) e ≤ 1500) where
  passed : (e : ℕ) → e ≤ t → (AllInIdeal g fs e → ⊥) → IsPassedOver g fs e
  passed e l n =
      record { number = number (length g.degrees) e; counted = counted g A e; few = few e l; not_all = n }

  -- all are in the ideal in the degree e and in none before
  pub yes-answer : (e : ℕ) → t ≤ last → 1 ≤ e → e ≤ t → AllInIdeal g fs e
      → ((d : ℕ) → 1 ≤ d → d < e → AllInIdeal g fs d → ⊥) → IsYes g fs last e
  yes-answer e l low high a before = record {
    low = low;
    high = omega arith;
    before = λ d b c. passed d (omega arith) (before d b c);
    number = number (length g.degrees) e;
    counted = counted g A e;
    few = few e high;
    all = a;
  }

  module _ (none : AllInIdeal g fs t → ⊥) where
    pub no-answer : t ≡ last → IsNo g fs last t
    no-answer e = record {
      last_is = e;
      before = λ d b c. let l : d ≤ t = omega arith in passed d l (none-before g A fs over d t l none);
    }

    pub many-answer : (n : ℕ) → 1 ≤ t → t < last → n ≡ number (length g.degrees) (t + 1) → 1500 < n
        → IsTooMany g fs last n
    many-answer n low l e m = record {
      at = t + 1;
      low = omega arith;
      high = omega arith;
      before = λ d b c. let k : d ≤ t = omega arith in passed d k (none-before g A fs over d t k none);
      counted = subst (AreCounted g (t + 1)) (sym e) (counted g A (t + 1));
      many = m;
    }

-- more than 1,500 variables are too many monomials of degree 1
pub many-variables : (g : Generators) (fs : List Polynomial) (last n : ℕ) → AreVariables g → 1 ≤ last
    → n ≡ length g.degrees → 1500 < n → IsTooMany g fs last n
many-variables g fs last n A l e m = record {
  at = 1;
  low = omega arith;
  high = l;
  before = λ d b c. absurd (omega (arith, b, c));
  counted = subst (AreCounted g 1) (number-one (length g.degrees) ∙ sym e) (counted g A 1);
  many = m;
}

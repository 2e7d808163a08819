-- The tests of the layers from the last one down.
use Rattle.std.proofs.Common.{◌≡◌, ℕ, suc, ◌∙◌, subst, subst₂, ◌+◌, ◌-◌, ◌<◌, arith, Option, Some, None}
use Rattle.power_commutator.specs.declared.TestName.{TestName}
use Rattle.power_commutator.specs.Presentations.{Presentation as Presented, product, tests, equations}
use Rattle.power_commutator.specs.Presentations.{first_false, first_fault}
use Rattle.power_commutator.proofs.Steps.{first-skip, layer-fault}
use Rattle.pc_group.specs.declared.square.Square.{Square}
use Rattle.pc_group.specs.Squares.{IsTableOf}

-- m of n generators are passed, and g_(n-m) is the next one
module _ (P : Presented) (n m : ℕ) (l : m < n) (g : n ≡ P.gens) where
  abbrev i : ℕ
  i = n - m

  left : P.gens - (n - m) ≡ m
  left = omega (arith, l, g)

  -- the first false test of layer i, which m generators come after
  abbrev fault : ℕ → Option TestName
  fault m = first_false (equations P (product P (suc i) m) i m)

  module _ (h : first_false (tests P (suc i) m) ≡ None) where
    -- no test of the next layer down is false either
    pub none-down : fault (P.gens - i) ≡ None → first_false (tests P (suc (n - (m + 1))) (m + 1)) ≡ None
    none-down k =
        subst₂ (λ a b. first_false (tests P a b) ≡ None)
        (let z : i ≡ suc (n - (m + 1)) = omega (arith, l) in z)
        (let z : suc m ≡ m + 1 = omega arith in z)
        (first-skip (tests P (suc i) m) (equations P (product P (suc i) m) i m) h
        ∙ subst (λ m. fault m ≡ None) left k)

    -- its first false test is the first fault
    pub some-down : (x : TestName) → fault (P.gens - i) ≡ Some x → first_fault P ≡ Some x
    some-down x k =
        layer-fault P x (i - 1) 1 (suc m) i P.gens (omega (arith, l)) (omega (arith, l, g))
        (first-skip (tests P (suc i) m) (equations P (product P (suc i) m) i m) h
        ∙ subst (λ m. fault m ≡ Some x) left k)

  pub table-down : (T : Square) → IsTableOf P i (suc (P.gens - i)) T
      → IsTableOf P (suc (n - (m + 1))) (m + 1) T
  table-down T R =
      subst₂ (λ a b. IsTableOf P a b T) (let z : i ≡ suc (n - (m + 1)) = omega (arith, l) in z)
      (let z : suc (P.gens - i) ≡ m + 1 = omega (arith, l, g) in z) R

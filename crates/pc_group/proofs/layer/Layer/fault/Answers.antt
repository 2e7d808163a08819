-- The parts of the layer's tests, in order.
use Rattle.std.proofs.Common.{◌≡◌, ℕ, suc, sym, ◌∙◌, ap, ap₂, Option, Some, None}
use Rattle.power_commutator.specs.declared.TestName.{TestName}
use Rattle.power_commutator.specs.Presentations.{Presentation as Presented, product, equations, first_false}
use Rattle.power_commutator.specs.Steps.{or_else}
use Rattle.power_commutator.proofs.Order.{first-layer}
use Rattle.pc_group.specs.Layers.{power_tests, swap_tests, fixed_tests, twist_tests}
use Rattle.pc_group.proofs.layer.Layer.fault.Goals as goal

module _ (P : Presented) (i m : ℕ) where
  abbrev a : Option TestName
  a = first_false (power_tests P i m)

  abbrev b : Option TestName
  b = first_false (swap_tests P i m)

  abbrev c : Option TestName
  c = first_false (fixed_tests P i m)

  abbrev d : Option TestName
  d = first_false (twist_tests P i m)

  abbrev all : Option TestName
  all = first_false (equations P (product P (suc i) m) i m)

  h : all ≡ or_else a (or_else b (or_else c d))
  h = first-layer P (product P (suc i) m) i m

  by-power : (x : TestName) → Some x ≡ a → Some x ≡ all
  by-power x e = sym (h ∙ ap (λ t. or_else t (or_else b (or_else c d))) (sym e))

  by-swap : (x : TestName) → None ≡ a → Some x ≡ b → Some x ≡ all
  by-swap x e k = sym (h ∙ ap₂ (λ t s. or_else t (or_else s (or_else c d))) (sym e) (sym k))

  by-fixed : (x : TestName) → None ≡ a → None ≡ b → Some x ≡ c → Some x ≡ all
  by-fixed x e k l = sym (h ∙ ap₂ (λ t s. or_else t (or_else s (or_else c d))) (sym e) (sym k)
      ∙ ap (λ t. or_else t d) (sym l))

  by-twist : (r : Option TestName) → None ≡ a → None ≡ b → None ≡ c → r ≡ d → r ≡ all
  by-twist r e k l s =
      s ∙ sym (h ∙ ap₂ (λ t s. or_else t (or_else s (or_else c d))) (sym e) (sym k)
      ∙ ap (λ t. or_else t d) (sym l))

pub returns-in-Some : goal.returns-in-Some
returns-in-Some c P m R = by-power P c.args.self.now.index m c.in-Some.name (c.in-Some.ensures P m R)

pub returns-in-Some-swap_fault : goal.returns-in-Some-swap_fault
returns-in-Some-swap_fault c P m R =
    by-swap P c.args.self.now.index m c.in-Some-swap_fault.name
    (sym c.in_default.is ∙ c.power_fault.ensures P m R) (c.in-Some-swap_fault.ensures P m R)

pub returns-in-Some-fixed_fault : goal.returns-in-Some-fixed_fault
returns-in-Some-fixed_fault c P m R =
    by-fixed P c.args.self.now.index m c.in-Some-fixed_fault.name
    (sym c.in_default.is ∙ c.power_fault.ensures P m R) (sym c.in_default-swap_fault.is
    ∙ c.swap_fault.ensures P m R)
    (c.in-Some-fixed_fault.ensures P m R)

pub returns : goal.returns
returns c P m R =
    by-twist P c.args.self.now.index m c.twist_fault.result
    (sym c.in_default.is ∙ c.power_fault.ensures P m R) (sym c.in_default-swap_fault.is
    ∙ c.swap_fault.ensures P m R)
    (sym c.in_default-fixed_fault.is ∙ c.fixed_fault.ensures P m R) (c.twist_fault.ensures P m R)

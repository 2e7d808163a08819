use Rattle.std.proofs.Common.{◌≡◌, ℕ, suc, arith, rules, ap, sym, ◌∙◌, Bor}
use Rattle.std.specs.Prelude.{Option, None, Some, Bool, true, false, is_some, IsNone, IfSome}
use Rattle.std.specs.Option.{option_copied}
use mathlib.Core.Path.{subst}
use Rattle.p_groups.specs.PGroups.{PGroup}
use Rattle.neg_basis.specs.Results.{BasisValue}
use Rattle.min_res.specs.Radicals.{IsRadicalBasis}
use Rattle.min_res.specs.Values.{ResolutionValue}
use Rattle.min_res.proofs.StageLists.{radical-at}
use Rattle.min_res.proofs.resolution.Resolution.radical.Goals as goal

none-exactly : (r : Option (Bor BasisValue)) (kept : Option BasisValue) (extended : Bool)
    → option_copied r ≡ kept → is_some kept ≡ extended
    → (IsNone r → extended ≡ false) × (extended ≡ false → IsNone r)
none-exactly None kept extended e v = ((λ _. sym v ∙ ap is_some (sym e)), λ _. search rules)
none-exactly (Some b) kept extended e v = (
  λ n. absurd (let h : IsNone (Some b) = n in search rules),
  λ z. absurd (let d : true ≡ false = ap is_some e ∙ v ∙ z in cc),
)

basis-is : (G : PGroup) (r : Option (Bor BasisValue)) (kept : Option BasisValue) (last : ℕ)
    → option_copied r ≡ kept
    → ((B : BasisValue) → kept ≡ Some B → (d : ℕ) × (last ≡ suc d) × IsRadicalBasis G d B)
    → IfSome r (λ b. (d : ℕ) → last ≡ suc d → IsRadicalBasis G d b.now)
basis-is G None kept last e k = search rules
basis-is G (Some b) kept last e k = λ d l. let t = k b.now (sym e) in
    let same : t.0 ≡ d = let m = t.1 in omega (arith, l, m) in
    subst (λ c. IsRadicalBasis G c b.now) same t.2

pub returns-clause-none : goal.returns-clause-none
returns-clause-none c = none-exactly c.as_ref.result c.self.inside.radical c.args.self.now.extended
    c.as_ref.ensures.value (ap (λ (v : ResolutionValue). v.extended) c.self.view_is)

pub returns-clause-basis : goal.returns-clause-basis
returns-clause-basis c = basis-is c.args.self.now.group c.as_ref.result c.self.inside.radical
    c.args.self.now.last c.as_ref.ensures.value
    (radical-at _ c.args.self.now.group c.self.inside.radical c.self.inside.stages.items _
    c.args.self.now.last c.self.invariant (ap (λ (v : ResolutionValue). v.group) c.self.view_is)
    (ap (λ (v : ResolutionValue). v.last) c.self.view_is))

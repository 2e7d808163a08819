use Rattle.std.proofs.Common.{◌≡◌, subst, sym, ◌∙◌, ap, arith, ◌≤◌, ◌<◌, ◌-◌, set, map, length, []}
use Rattle.std.specs.Vec.{with_item}
use Rattle.std.proofs.lemmas.List.{map-set, length-map}
use Rattle.power_commutator.specs.Presentations.{IsPresentation, IsWord}
use Rattle.pc_group.specs.Shown.{shown}
use Rattle.pc_group.specs.Parts.{with_commutator, exponents}
use Rattle.pc_group.proofs.MadeParts.{with_commutator-valid}
use Rattle.pc_group.proofs.Views.{entry-shown}
use Rattle.pc_group.proofs.presentation.Presentation.set_commutator.Goals as goal

last : (c : goal.Joined-index_mut-w) → c.args.j ≤ c.self.inside.gens
last c = subst (λ P. c.args.j ≤ P.gens) (sym c.self.view_is) c.requires.last

written : (c : goal.Joined-index_mut-w)
    → shown (record c.self.inside {
      commutators = with_item c.self.inside.commutators (c.args.j - 1)
          (with_item c.index_mut-row.result.now (c.args.i - 1) c.args.w);
    }) ≡ with_commutator (shown c.self.inside) c.args.j c.args.i c.args.w.items
written c =
    let rows = c.self.inside.commutators.items in
    let row = c.index_mut-row.result.now in
    let first = c.requires.first in
    let order = c.requires.order in
    let within : c.args.j - 1 < length rows =
    omega (arith, last c, first, order, simp length-map at c.self.invariant.valid.commutator-count) in
    ap (λ rs. record (shown c.self.inside) { commutators = rs })
    (map-set (λ r. exponents r.items) rows (c.args.j - 1) (with_item row (c.args.i - 1) c.args.w)
    ∙ ap (set (map (λ r. exponents r.items) rows) (c.args.j - 1))
    (map-set (λ w. w.items) row.items (c.args.i - 1) c.args.w
    ∙ ap (λ ws. set ws (c.args.i - 1) c.args.w.items)
    (sym (entry-shown rows (c.args.j - 1) row
    (λ r. exponents r.items) [] within c.index_mut-row.ensures.value))))

pub invariant_of-self : goal.invariant_of-self
invariant_of-self c = record {
  few = c.self.invariant.few;
  valid =
      subst IsPresentation (sym (written c))
      (with_commutator-valid (shown c.self.inside) c.self.invariant.valid c.args.j c.args.i c.args.w.items
      c.requires.first c.requires.order (last c)
      (subst (λ P. IsWord P.prime P.gens c.args.j c.args.w.items) (sym c.self.view_is) c.requires.word));
}

pub returns : goal.returns
returns c = written c ∙ ap (λ P. with_commutator P c.args.j c.args.i c.args.w.items) c.self.view_is

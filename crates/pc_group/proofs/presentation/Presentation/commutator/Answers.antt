use Rattle.std.proofs.Common.{◌≡◌, subst, sym, ◌∙◌, ap, arith, ◌-◌, ◌≤◌, get_or, [], length}
use Rattle.std.proofs.lemmas.List.{length-map}
use Rattle.power_commutator.specs.Presentations.{IsWord, commutator_word}
use Rattle.pc_group.specs.Parts.{exponents}
use Rattle.pc_group.specs.Shown.{shown}
use Rattle.pc_group.proofs.Views.{entry-shown}
use Rattle.pc_group.proofs.presentation.Presentation.commutator.Goals as goal

pub returns-clause-word : goal.returns-clause-word
returns-clause-word c =
    let v = c.self.invariant.valid in
    let first = c.requires.first in
    let order = c.requires.order in
    let last : c.args.j ≤ c.self.inside.gens =
    subst (λ P. c.args.j ≤ P.gens) (sym c.self.view_is) c.requires.last in
    let rows = c.self.inside.commutators.items in
    let row = c.index.result.now in
    let is_row : get_or (shown c.self.inside).commutators (c.args.j - 1) [] ≡ exponents row.items =
    entry-shown rows (c.args.j - 1) row (λ r. exponents r.items) []
    (omega (arith, last, first, order, simp length-map at v.commutator-count)) c.index.ensures in
    let len : length (exponents row.items) ≡ c.args.j - 1 =
    ap length (sym is_row) ∙ v.row-count c.args.j (omega (arith, first, order)) last in
    let is_word : commutator_word (shown c.self.inside) c.args.j c.args.i ≡ c.index-2.result.now.items =
    ap (λ r. get_or r (c.args.i - 1) []) is_row
    ∙ entry-shown row.items (c.args.i - 1) c.index-2.result.now (λ w. w.items) []
    (omega (arith, first, order, simp length-map at len)) c.index-2.ensures in
    subst (λ P. IsWord P.prime P.gens c.args.j c.index-2.result.now.items) c.self.view_is
    (subst (IsWord (shown c.self.inside).prime (shown c.self.inside).gens c.args.j) is_word
    (v.commutator c.args.j c.args.i first order last))

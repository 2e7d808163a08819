use Rattle.std.proofs.Common.{◌≡◌, length, ap, sym, ◌∙◌}
use mathlib.Core.Path.{subst}
use Rattle.linear_algebra.specs.Rows.{entry, IsRow, IsInSpan}
use Rattle.fp_rows.specs.Values.{MatrixValue}
use Rattle.p_groups.specs.PGroups.{PGroup}
use Rattle.min_res.specs.Values.{StageValue}
use Rattle.min_res.proofs.SpanMembers.{in-kernel-list}
use Rattle.resolution_tests.proofs.sections.is_in_kernel.Goals as goal

pub contains-requires-clause-same_prime : goal.contains-requires-clause-same_prime
contains-requires-clause-same_prime c =
    c.view.ensures.modulus ∙ c.requires
    ∙ sym (ap (λ (m : MatrixValue). m.p) (c.kernel-2.ensures
    ∙ ap (λ (s : StageValue). s.kernel) c.deref-2.ensures ∙ c.in-Some.ensures.stage.kernel_is))

pub returns : goal.returns
returns c t =
    let span : IsInSpan c.kernel-2.result.now.p c.kernel-2.result.now.rows (entry c.args.v.now.entries) =
    rw c.view.ensures.entries at c.contains.ensures.0 t in
    let list : c.kernel-2.result.now ≡ c.kernel.result.now = c.kernel-2.ensures
    ∙ ap (λ (s : StageValue). s.kernel) (c.deref-2.ensures ∙ sym c.deref.ensures)
    ∙ sym c.kernel.ensures in
    let width : length c.args.v.now.entries ≡ c.kernel-2.result.now.width = sym c.len.ensures.count
    ∙ c.if-len-width.false ∙ c.width.ensures ∙ sym (ap (λ (m : MatrixValue). m.width) list) in
    let r : IsRow c.args.resolution.now.group.table.p c.kernel-2.result.now.width c.args.v.now.entries =
    subst (λ w. IsRow c.args.resolution.now.group.table.p w c.args.v.now.entries) width
    (rw c.requires at c.len.ensures.row) in
    in-kernel-list c.args.resolution.now.group c.args.d c.kernel-2.result.now c.args.v.now.entries
    (c.kernel-2.ensures ∙ ap (λ (s : StageValue). s.kernel) c.deref-2.ensures
    ∙ c.in-Some.ensures.stage.kernel_is) r span

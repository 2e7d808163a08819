use Rattle.std.proofs.Common.{ap, ◌∙◌}
use mathlib.Core.Path.{subst}
use Rattle.linear_algebra.specs.Rows.{is_pivot}
use Rattle.std.specs.List.Sorted.{IsBinarySearchResult}
use Rattle.std.specs.Ordering.{nat_cmp}
use Rattle.fp_rows.specs.Values.{MatrixValue}
use Rattle.fp_rows.proofs.PivotSearch.{pivot-searched}
use Rattle.fp_rows.proofs.basis.Echelon.is_pivot.Goals as goal

pub returns : goal.returns
returns c =
    c.is_ok.ensures.value
    ∙ pivot-searched c.self.inside.matrix.rows c.self.inside.pivots.items c.args.j
    c.binary_search.result
    c.self.invariant.echelon c.self.invariant.pivots_are
    (subst (λ xs. IsBinarySearchResult (λ y. nat_cmp y c.args.j) xs c.binary_search.result)
    c.deref.ensures.value c.binary_search.ensures.position)
    ∙ ap (λ (m : MatrixValue). is_pivot m.rows c.args.j) c.self.view_is

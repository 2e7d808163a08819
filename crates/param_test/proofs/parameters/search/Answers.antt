use Rattle.std.proofs.Common.{◌≡◌, ◌*◌, ◌<◌, ◌≤◌, length, arith, ap, subst, ◌∙◌}
use Rattle.param_test.specs.Firsts.{NonePasses}
use Rattle.param_test.specs.Tuples.{IsTuple, IsBefore}
use Rattle.param_test.specs.Tables.{degrees_of}
use Rattle.param_test.specs.Parameters.{Passes}
use Rattle.param_test.proofs.Positions.{at-start}
use Rattle.param_test.proofs.Standing.{search-end, empty-none, empty-found}
use Rattle.param_test.proofs.Tables.{degrees-length, degrees-small, degrees-ordered}
use Rattle.param_test.proofs.Searching.{too-few, found-small}
use Rattle.param_test.proofs.parameters.search.Goals as goal

pub returns-then-r-len : goal.returns-then-r-len
returns-then-r-len c =
    let e : length c.in_ok-degrees.degrees.items ≡ length (degrees_of c.args.table.now.candidates) =
    ap length c.in_ok-degrees.ensures.degrees in
    too-few (length (degrees_of c.args.table.now.candidates)) c.args.r 5000
    (IsBefore (degrees_of c.args.table.now.candidates)) (Passes c.args.table.now) (omega arith)

pub returns-then-branch : goal.returns-then-branch
returns-then-branch c =
    empty-found (degrees_of c.args.table.now.candidates) c.args.r (Passes c.args.table.now) c.if-r-eq0.true
    c.new.result c.new.ensures
    (c.in_ok-passes.ensures.yes c.if-branch.true)

pub returns-then-r-eq0 : goal.returns-then-r-eq0
returns-then-r-eq0 c =
    empty-none (degrees_of c.args.table.now.candidates) c.args.r (Passes c.args.table.now) c.if-r-eq0.true
    (c.in_ok-passes.ensures.no c.if-branch.false)

pub loop-sum-init : goal.loop-sum-init
loop-sum-init c =
    at-start c.in_ok-degrees.degrees.items
    (degrees-ordered c.args.table.now.subgroups c.args.table.now.candidates c.degrees.ensures.valid
    c.in_ok-degrees.degrees.items c.in_ok-degrees.ensures.degrees)
    c.args.r (Passes c.args.table.now)

pub search_degree-requires-clause-small : goal.search_degree-requires-clause-small
search_degree-requires-clause-small c =
    degrees-small c.args.table.now.subgroups c.args.table.now.candidates c.degrees.ensures.valid
    c.deref.result.now (c.deref.ensures.value ∙ c.in_ok-degrees.ensures.degrees)

pub search_degree-requires-clause-by_degree : goal.search_degree-requires-clause-by_degree
search_degree-requires-clause-by_degree c =
    degrees-ordered c.args.table.now.subgroups c.args.table.now.candidates c.degrees.ensures.valid
    c.deref.result.now (c.deref.ensures.value ∙ c.in_ok-degrees.ensures.degrees)

pub positions-requires : goal.positions-requires
positions-requires c =
    let n : length c.deref.result.now ≤ 4294967295 =
    omega (
      arith,
      degrees-length c.args.table.now.subgroups c.args.table.now.candidates c.degrees.ensures.valid
          c.deref.result.now
          (c.deref.ensures.value ∙ c.in_ok-degrees.ensures.degrees),
      c.degrees.ensures.valid.few,
    ) in
    found-small (length c.deref.result.now) c.args.r 5000 4294967295 (IsBefore c.deref.result.now)
    (Passes c.args.table.now) c.in-Some.tuple.items c.deref-in-Some.result.now
    (rw c.in-Some.is at c.in_ok-tuple.ensures.found) n c.deref-in-Some.ensures.value

pub returns : goal.returns
returns c =
    let l : 24 * c.args.r < c.loop-sum.sum = omega arith in
    subst (λ ds. NonePasses (IsTuple (length ds) c.args.r) (IsBefore ds) 5000 (Passes c.args.table.now))
    c.in_ok-degrees.ensures.degrees
    (search-end c.in_ok-degrees.degrees.items
    (degrees-ordered c.args.table.now.subgroups c.args.table.now.candidates c.degrees.ensures.valid
    c.in_ok-degrees.degrees.items c.in_ok-degrees.ensures.degrees)
    (degrees-small c.args.table.now.subgroups c.args.table.now.candidates c.degrees.ensures.valid
    c.in_ok-degrees.degrees.items c.in_ok-degrees.ensures.degrees)
    c.args.r (Passes c.args.table.now) c.loop-sum.sum c.loop-sum.left l c.loop-sum.invariant)

use Rattle.std.proofs.Common.{◌≡◌, ◌∙◌, ◌<◌, ℕ, suc, arith, length, ap, subst}
use Rattle.std.proofs.lemmas.Result.{err_from_is_err_and}
use Rattle.group_table.specs.Tables.{GroupTable}
use Rattle.elementary_subgroups.specs.OwnGroups.{elementary_group}
use Rattle.p_groups.specs.PGroups.{PGroup}
use Rattle.min_res.specs.Refusals.{AreWithin, IsRefusal}
use Rattle.min_res.specs.Values.{ResolutionValue, first_alone}
use Rattle.chain_lift.specs.Embeddings.{elementary}
use Rattle.chain_lift.proofs.EmbeddingElements.{elementary-is}
use Rattle.coho_report.proofs.OwnRings.{large_first}
use Rattle.coho_report.proofs.own_rings.own_resolution.Goals as goal

-- the first resolution is that of the subgroup in its own numbering
start_group : (G H : PGroup) (s : ℕ) (r : ResolutionValue) → r ≡ first_alone H
    → H.table ≡ elementary_group G.table.p s → r.group ≡ elementary G s
start_group G H s r first table = ap (λ (r : ResolutionValue). r.group) first ∙ elementary-is G H s table

none : (H : PGroup) (r : ResolutionValue) → r ≡ first_alone H → r.last ≡ 0
none H r first = ap (λ (r : ResolutionValue). r.last) first

pub returns-clause-group : goal.returns-clause-group
returns-clause-group c =
    let s = length c.args.e.now.basis in
    c.extend_to.ensures.group
    ∙ start_group c.args.res.now.group c.in_ok-build.field-0 s c.in_ok-resolution.resolution
    c.in_ok-resolution.ensures
    (c.in_ok-build.ensures ∙ c.in_ok-own.ensures.table
    ∙ ap (λ (T : GroupTable). elementary_group T.p s) (c.as_group-group.ensures
    ∙ ap (λ (G : PGroup). G.table) (c.group.ensures ∙ c.algebra.ensures)))

pub returns-clause-small : goal.returns-clause-small
returns-clause-small c =
    let s = length c.args.e.now.basis in
    let first = none c.in_ok-build.field-0 c.in_ok-resolution.resolution c.in_ok-resolution.ensures in
    let last = c.in_ok-extend_to.ensures.grown in
    subst (λ (E : PGroup). AreWithin E 0 c.args.n c.args.limit)
    (start_group c.args.res.now.group c.in_ok-build.field-0 s c.in_ok-resolution.resolution
    c.in_ok-resolution.ensures
    (c.in_ok-build.ensures ∙ c.in_ok-own.ensures.table
    ∙ ap (λ (T : GroupTable). elementary_group T.p s) (c.as_group-group.ensures
    ∙ ap (λ (G : PGroup). G.table) (c.group.ensures ∙ c.algebra.ensures))))
    (λ d low high. c.extend_to.ensures.within d (omega (arith, low, first)) (omega (arith, high, last, first)))

pub returns-in_err-extend_to-clause-refused : goal.returns-in_err-extend_to-clause-refused
returns-in_err-extend_to-clause-refused c =
    let p = err_from_is_err_and c.from_residual-in_err-extend_to.result
    c.from_residual-in_err-extend_to.ensures.1 in
    let s = length c.args.e.now.basis in
    let last = c.extend_to.new.self.last in
    let first = none c.in_ok-build.field-0 c.in_ok-resolution.resolution c.in_ok-resolution.ensures in
    let same : c.in_ok-resolution.resolution.group ≡ elementary c.args.res.now.group s =
    start_group c.args.res.now.group c.in_ok-build.field-0 s c.in_ok-resolution.resolution
    c.in_ok-resolution.ensures
    (c.in_ok-build.ensures ∙ c.in_ok-own.ensures.table
    ∙ ap (λ (T : GroupTable). elementary_group T.p s) (c.as_group-group.ensures
    ∙ ap (λ (G : PGroup). G.table) (c.group.ensures ∙ c.algebra.ensures))) in
    rw (p.1, p.2) (large_first (elementary c.args.res.now.group s) last c.args.n c.args.limit
    c.in_err-extend_to.field-0.0 c.in_err-extend_to.ensures.below
    (subst (λ (E : PGroup). AreWithin E 0 last c.args.limit) same
    (λ d low high. c.extend_to.ensures.within d (omega (arith, low, first)) high))
    (subst (λ (E : PGroup). IsRefusal E (suc last) c.args.limit c.in_err-extend_to.field-0.0) same
    c.in_err-extend_to.ensures.refused))

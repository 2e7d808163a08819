use Rattle.std.proofs.Common.{◌<◌, subst, sym}
use Rattle.elementary_subgroups.proofs.GroupLaws.{law_of}
use Rattle.elementary_subgroups.proofs.Powers.{above_one}
use Rattle.elementary_subgroups.proofs.OwnGroup.{own_is}
use Rattle.elementary_subgroups.proofs.own_group.Goals as goal

pub returns : goal.returns
returns c G s q L e S =
    let z : 1 < G.p = subst (λ w. 1 < w) (sym e) (above_one q) in
    own_is (law_of G L) q e z s S

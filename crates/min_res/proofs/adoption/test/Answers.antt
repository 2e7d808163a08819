use Rattle.min_res.specs.Candidates.{kept_parts}
use Rattle.min_res.proofs.CheckOrder.{all-below}
use Rattle.min_res.proofs.NextParts.{passed, passes-all}
use Rattle.min_res.proofs.adoption.test.Goals as goal

pub returns-in-Ok-clause-passed : goal.returns-in-Ok-clause-passed
returns-in-Ok-clause-passed c =
    let Q = kept_parts c.args.boundary.now c.args.kernel.now in
    passed c.args.algebra.now c.args.last.now.degree Q c.requires.candidate.may_follow
    (passes-all c.args.algebra.now c.args.last.now.degree Q
    (λ check k l. c.in-Ok.ensures.passed check (all-below check) k l))

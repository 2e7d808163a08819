use Rattle.elementary_subgroups.proofs.listed_are_least.Goals as goal

pub returns : goal.returns
returns c G ms m l A h C = (A.each m h).1 l C

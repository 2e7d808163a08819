use Rattle.stage_walk.proofs.resolving.first_stages.Goals as goal

pub returns-in-Some-clause-taken : goal.returns-in-Some-clause-taken
returns-in-Some-clause-taken g c = rw (c.in-Some.is) c.taken_stages.ensures.taken

pub returns-in-Some-clause-refused : goal.returns-in-Some-clause-refused
returns-in-Some-clause-refused g c = rw (c.in-Some.is) c.taken_stages.ensures.refused

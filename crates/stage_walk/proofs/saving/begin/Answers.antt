use Rattle.stage_walk.proofs.Growing.{begun, begun_front, on_err, on_ok}
use Rattle.stage_walk.proofs.saving.begin.Goals as goal

pub returns-in-Ok-clause-held : goal.returns-in-Ok-clause-held
returns-in-Ok-clause-held g c = rw (c.in-Some.is) (on_ok c.append.result
    (begun c.in-Some.path.now c.args.header.now (g.F.Files.content c.args.files.now)
    (g.F.Files.content c.create.new.self) (g.F.Files.content c.append.new.files) c.in-Ok.ensures.ok)
    c.append.ensures.ok)

pub returns-in-Ok-clause-front : goal.returns-in-Ok-clause-front
returns-in-Ok-clause-front g c = rw (c.in-Some.is) (on_err c.append.result
    (begun_front c.in-Some.path.now c.args.header.now (g.F.Files.content c.args.files.now)
    (g.F.Files.content c.create.new.self) (g.F.Files.content c.append.new.files) c.in-Ok.ensures.ok)
    c.append.ensures.err)

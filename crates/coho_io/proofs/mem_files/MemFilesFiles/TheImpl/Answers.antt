use Rattle.coho_io.specs.declared.counts.Kind.TheVariants.{Read, Write}
use Rattle.coho_io.proofs.Writes.{created-tells, appended-tells}
use Rattle.coho_io.proofs.mem_files.MemFilesFiles.TheImpl.Goals as goal

pub create-tells : goal.create-tells
create-tells c =
    let t = created-tells c.args.self.now c.args.path.now c.result c.new.self.now c.ensures.ok
    c.ensures.failed
    c.ensures.memory in
    record { ok = t.ok; err = t.err; later = t.later Read; later_writes = t.later Write; cause = t.cause }

pub append-tells : goal.append-tells
append-tells c =
    let t = appended-tells c.args.self.now c.args.path.now c.args.piece.now c.result c.new.self.now
    c.ensures.ok
    c.ensures.failed c.ensures.memory in
    record { ok = t.ok; err = t.err; later = t.later Read; later_writes = t.later Write; cause = t.cause }

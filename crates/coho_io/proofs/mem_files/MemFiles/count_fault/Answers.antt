use Rattle.std.proofs.Common.{◌≡◌, ◌∙◌, sym, ap, subst}
use Rattle.coho_io.specs.declared.counts.Kind.TheVariants.{Read, Write}
use Rattle.coho_io.specs.Causes.{Rose, NoneFell}
use Rattle.coho_io.specs.MemFiles.{content_of, fault_count, fault_at}
use Rattle.coho_io.proofs.Faults.{content-fault, later-fault, rose-fault}
use Rattle.coho_io.proofs.mem_files.MemFiles.count_fault.Goals as goal

pub returns-clause-content : goal.returns-clause-content
returns-clause-content c = ap content_of c.raise.ensures
    ∙ content-fault c.args.kind c.args.self.now c.args.path.now

pub returns-clause-later : goal.returns-clause-later
returns-clause-later c = subst (λ s. NoneFell (fault_count Read c.args.self.now) (fault_count Read s))
    (sym c.raise.ensures) (later-fault c.args.kind Read c.args.self.now c.args.path.now)

pub returns-clause-later_writes : goal.returns-clause-later_writes
returns-clause-later_writes c = subst (λ s. NoneFell (fault_count Write c.args.self.now)
    (fault_count Write s))
    (sym c.raise.ensures) (later-fault c.args.kind Write c.args.self.now c.args.path.now)

pub returns-clause-rose : goal.returns-clause-rose
returns-clause-rose c = subst (λ s. Rose (fault_count c.args.kind c.args.self.now c.args.path.now)
    (fault_count c.args.kind s c.args.path.now)) (sym c.raise.ensures)
    (rose-fault c.args.kind c.args.self.now c.args.path.now)

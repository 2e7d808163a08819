use Rattle.std.proofs.Common.{◌≡◌, ◌∙◌, sym, ap, subst}
use Rattle.std.specs.List.{position}
use Rattle.coho_io.specs.MemFiles.{is_at, fault_at, failed_once_more}
use Rattle.coho_io.specs.Stored.{entry_of}
use Rattle.coho_io.proofs.Changed.{state, fault_there, fault_outside}
use Rattle.coho_io.proofs.mem_files.MemFiles.raise.Goals as goal

pub returns-in-Some : goal.returns-in-Some
returns-in-Some c =
    let file = c.index_mut.result.now in
    let place = ap (position (λ f. is_at c.args.path.now (entry_of f))) (sym c.deref.ensures.value)
    ∙ sym c.in-Some.ensures in
    fault_there c.self.inside.files.items c.self.inside.outside c.self.inside.calls
    c.self.inside.failing.items c.args.path.now c.args.kind c.in-Some.i _ file place
    (subst (λ f. record (entry_of file) { faults = c.raise.new.self } ≡ failed_once_more c.args.kind
    (entry_of f)) c.index_mut.ensures.value
    (ap (λ n. record (entry_of file) { faults = n }) c.raise.ensures))
    ∙ ap (λ s. fault_at c.args.kind s c.args.path.now) c.self.view_is

pub returns-in-None : goal.returns-in-None
returns-in-None c =
    let place = ap (position (λ f. is_at c.args.path.now (entry_of f))) (sym c.deref.ensures.value)
    ∙ sym c.in-None.ensures in
    ap (λ n. state c.self.inside.files.items n c.self.inside.calls c.self.inside.failing.items)
    c.raise-in-None.ensures
    ∙ fault_outside c.self.inside.files.items c.self.inside.outside c.self.inside.calls
    c.self.inside.failing.items c.args.path.now c.args.kind place
    ∙ ap (λ s. fault_at c.args.kind s c.args.path.now) c.self.view_is

use Rattle.std.proofs.Common.{◌∙◌, sym, ap}
use Rattle.std.specs.List.{position}
use Rattle.coho_io.specs.MemFiles.{is_at, counts_at}
use Rattle.coho_io.specs.Stored.{entry_of}
use Rattle.std.specs.Option.{option_map_or}
use Rattle.coho_io.proofs.Places.{at_Some, find_None}
use Rattle.coho_io.proofs.mem_files.MemFiles.counts.Goals as goal

pub returns-in-None : goal.returns-in-None
returns-in-None c =
    let place = ap (position (λ f. is_at c.args.path.now (entry_of f))) (sym c.deref.ensures.value)
    ∙ sym c.in-None.ensures in
    ap (λ o. option_map_or (λ e. e.faults) o c.self.inside.outside)
    (sym (find_None entry_of (is_at c.args.path.now) c.self.inside.files.items place))
    ∙ ap (λ s. counts_at s c.args.path.now) c.self.view_is

pub returns-in-Some : goal.returns-in-Some
returns-in-Some c =
    let place = ap (position (λ f. is_at c.args.path.now (entry_of f))) (sym c.deref.ensures.value)
    ∙ sym c.in-Some.ensures in
    ap (λ f. f.faults) c.index.ensures
    ∙ ap (λ o. option_map_or (λ e. e.faults) o c.self.inside.outside)
    (sym (at_Some entry_of (is_at c.args.path.now) c.self.inside.files.items c.in-Some.i
    c.index.result.now place)) ∙ ap (λ s. counts_at s c.args.path.now) c.self.view_is

use Rattle.std.proofs.Common.{◌∙◌, sym, ap, Some}
use Rattle.std.specs.Option.{option_map}
use Rattle.std.specs.List.{position}
use Rattle.coho_io.specs.MemFiles.{is_at, bytes_at}
use Rattle.coho_io.specs.Stored.{entry_of}
use Rattle.coho_io.proofs.Places.{find_None, at_Some}
use Rattle.coho_io.proofs.mem_files.MemFiles.get.Goals as goal

pub returns-in-None : goal.returns-in-None
returns-in-None c =
    ap (λ s. bytes_at s c.args.path.now) (sym c.self.view_is)
    ∙ ap (option_map (λ e. e.bytes)) (find_None entry_of (is_at c.args.path.now) c.self.inside.files.items
    (ap (position (λ f. is_at c.args.path.now (entry_of f))) (sym c.deref.ensures.value)
    ∙ sym c.in-None.ensures))

pub returns-in-Some : goal.returns-in-Some
returns-in-Some c =
    ap (λ s. bytes_at s c.args.path.now) (sym c.self.view_is)
    ∙ ap (option_map (λ e. e.bytes)) (at_Some entry_of
    (is_at c.args.path.now) c.self.inside.files.items c.in-Some.i c.index.result.now
    (ap (position (λ f. is_at c.args.path.now (entry_of f))) (sym c.deref.ensures.value)
    ∙ sym c.in-Some.ensures) ∙ ap (λ f. Some (entry_of f)) (sym c.index.ensures))
    ∙ ap (λ b. Some b) (sym c.deref-in-Some.ensures.value)

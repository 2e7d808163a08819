use Rattle.std.proofs.Common.{◌≡◌, ◌∙◌, sym, ap, subst, Some}
use Rattle.coho_io.specs.Content.{file, or_empty, ReadsAt}
use Rattle.coho_io.specs.MemFiles.{bytes_at}
use Rattle.coho_io.specs.NoFaultFiles.{content_within}
use Rattle.coho_io.proofs.Puts.{file-content_within}
use Rattle.coho_io.proofs.no_fault_files.NoFaultFilesFiles.read_at.Goals as goal

pub returns-clause-bytes : goal.returns-clause-bytes
returns-clause-bytes c =
    let same : file (content_within c.args.self.now) c.args.path.now ≡ Some c.bytes_of.result.now
    = ap (λ v. file (content_within v) c.args.path.now) (sym c.self.view_is)
    ∙ file-content_within c.self.inside.files c.args.path.now ∙ ap Some (sym c.bytes_of.ensures) in
    subst (λ o. ReadsAt o c.args.at c.copy_at.new.buf c.copy_at.result) (sym same) c.copy_at.ensures.bytes

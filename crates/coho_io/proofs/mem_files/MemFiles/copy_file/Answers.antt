use Rattle.std.proofs.Common.{◌∙◌, sym, subst}
use Rattle.coho_io.specs.Content.{ReadsAt}
use Rattle.coho_io.proofs.Puts.{file-content_of}
use Rattle.coho_io.proofs.mem_files.MemFiles.copy_file.Goals as goal

pub returns-in-Some-clause-bytes : goal.returns-in-Some-clause-bytes
returns-in-Some-clause-bytes c = subst (λ o. ReadsAt o c.args.at c.copy_at.new.buf c.copy_at.result)
    (sym (file-content_of c.args.self.now c.args.path.now ∙ c.in-Some.ensures)) c.copy_at.ensures.bytes

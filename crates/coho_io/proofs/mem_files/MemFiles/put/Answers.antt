use Rattle.std.proofs.Common.{◌∙◌, ap}
use Rattle.std.proofs.lemmas.Result.{on_ok_weaker}
use Rattle.coho_io.specs.MemFiles.{content_of}
use Rattle.coho_io.proofs.Puts.{content-put}
use Rattle.coho_io.proofs.mem_files.MemFiles.put.Goals as goal

pub returns-clause-content : goal.returns-clause-content
returns-clause-content c = on_ok_weaker c.replace.result
    (λ e. ap content_of e ∙ content-put c.args.self.now c.args.path.now c.args.bytes.now) c.replace.ensures.ok

use Rattle.std.proofs.Common.{◌≡◌, ◌++◌, List, ℕ, ◌∙◌, ap}
use Rattle.std.proofs.lemmas.Result.{on_ok_weaker}
use Rattle.coho_io.specs.Content.{or_empty}
use Rattle.coho_io.specs.MemFiles.{bytes_at, content_of, after_put}
use Rattle.coho_io.proofs.Puts.{content-extended}
use Rattle.coho_io.proofs.mem_files.MemFiles.extend.Goals as goal

joined : (c : goal.After-drop-bytes-2)
    → c.deref.result.now ≡ or_empty (bytes_at c.args.self.now c.args.path.now)
    ++ c.args.piece.now
joined c = c.deref.ensures.value ∙ c.in_ok-extend_from_slice-2.ensures.items
    ∙ ap (λ t. t ++ c.args.piece.now) (c.in_ok-extend_from_slice.ensures.items
    ∙ ap (λ t. t ++ c.bytes_of.result.now) c.new-bytes.ensures.items ∙ c.bytes_of.ensures)

pub returns-clause-ok : goal.returns-clause-ok
returns-clause-ok c = on_ok_weaker c.replace.result
    (λ e. e ∙ ap (after_put c.args.self.now c.args.path.now) (joined c)) c.replace.ensures.ok

pub returns-clause-content : goal.returns-clause-content
returns-clause-content c = on_ok_weaker c.replace.result
    (λ e. ap content_of (e ∙ ap (after_put c.args.self.now c.args.path.now) (joined c))
    ∙ content-extended c.args.self.now c.args.path.now c.args.piece.now) c.replace.ensures.ok

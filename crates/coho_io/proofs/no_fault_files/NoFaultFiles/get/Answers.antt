use Rattle.std.proofs.Common.{◌≡◌, ◌∙◌, sym, ap, subst, Some, None}
use Rattle.std.specs.Prelude.{MatchOption}
use Rattle.std.specs.FinMap.{get}
use Rattle.coho_io.specs.NoFaultFiles.{content_within}
use Rattle.coho_io.specs.MemFiles.{bytes_at}
use Rattle.coho_io.proofs.Puts.{get-content_of}
use Rattle.coho_io.proofs.no_fault_files.NoFaultFiles.get.Goals as goal

pub returns : goal.returns
returns c =
    let same : get (content_within c.args.self.now).files c.args.path.now
    ≡ bytes_at c.self.inside.files c.args.path.now
    = ap (λ v. get (content_within v).files c.args.path.now) (sym c.self.view_is)
    ∙ get-content_of c.self.inside.files c.args.path.now in
    subst (λ o. MatchOption c.get.result (o ≡ None) (λ bytes. o ≡ Some bytes.now)) (sym same) c.get.ensures

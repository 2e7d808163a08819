use Rattle.std.proofs.Common.{cond, [], ◌∷◌, ◌++◌, ap, ◌∙◌}
use Rattle.gc_poly.proofs.Finding.{absent-below}
use Rattle.gc_poly.proofs.monos.Monos.push.Goals as goal

pub returns-clause-ok : goal.returns-clause-ok
returns-clause-ok c = let ms = c.self.inside.monomials.keys in
    c.in_ok-insert.ensures.keys
    ∙ ap (λ b. cond b ms (ms ++ c.args.m ∷ []))
    (absent-below ms c.args.m (λ k d. rw c.self.view_is (c.requires k d)))
    ∙ ap (λ ms. ms ++ c.args.m ∷ []) c.self.view_is

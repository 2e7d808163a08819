use Rattle.std.proofs.Common.{sym, ◌∙◌, subst}
use Rattle.coho_io.specs.Content.{file}
use Rattle.stage_file.specs.declared.headers.HeaderAnswer.TheVariants as answer
use Rattle.coho_io.specs.Pieces.{IsPart}
use Rattle.stage_walk.proofs.Headers.{header_of}
use Rattle.coho_io.proofs.Parts.{front_start}
use Rattle.stage_walk.proofs.walking.has_header.Goals as goal

pub returns-in-Match-clause-answer : goal.returns-in-Match-clause-answer
returns-in-Match-clause-answer g c = λ told t.
    header_of (file told c.args.path.now) c.args.honest.now c.deref.result.now answer.Match
    (subst (IsPart (file told c.args.path.now) 0 40) (sym c.deref.ensures.value)
    (c.in_ok-read_to.ensures.part told t
    (front_start (file told c.args.path.now) c.new-front.result.items c.new-front.ensures.items)))
    (sym c.in-Match.is ∙ c.read_header.ensures)

pub returns-in-Cut-clause-answer : goal.returns-in-Cut-clause-answer
returns-in-Cut-clause-answer g c = λ told t.
    header_of (file told c.args.path.now) c.args.honest.now c.deref.result.now answer.Cut
    (subst (IsPart (file told c.args.path.now) 0 40) (sym c.deref.ensures.value)
    (c.in_ok-read_to.ensures.part told t
    (front_start (file told c.args.path.now) c.new-front.result.items c.new-front.ensures.items)))
    (sym c.in-Cut.is ∙ c.read_header.ensures)

pub returns-in-Format-clause-refused : goal.returns-in-Format-clause-refused
returns-in-Format-clause-refused g c = λ told t.
    header_of (file told c.args.path.now) c.args.honest.now c.deref.result.now answer.Format
    (subst (IsPart (file told c.args.path.now) 0 40) (sym c.deref.ensures.value)
    (c.in_ok-read_to.ensures.part told t
    (front_start (file told c.args.path.now) c.new-front.result.items c.new-front.ensures.items)))
    (sym c.in-Format.is ∙ c.read_header.ensures)

pub returns-clause-refused : goal.returns-clause-refused
returns-clause-refused g c = λ told t.
    header_of (file told c.args.path.now) c.args.honest.now c.deref.result.now answer.Presentation
    (subst (IsPart (file told c.args.path.now) 0 40) (sym c.deref.ensures.value)
    (c.in_ok-read_to.ensures.part told t
    (front_start (file told c.args.path.now) c.new-front.result.items c.new-front.ensures.items)))
    (sym c.in-Presentation.is ∙ c.read_header.ensures)

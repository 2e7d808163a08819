use Rattle.std.proofs.Common.{◌≡◌, None, refl, subst}
use Rattle.stage_answers.specs.Answers.{AnswerGroup, AnswerResolve}
use Rattle.ring_answers.specs.Answers.{AnswerSample, AnswerValue}
use Rattle.coho_steps.specs.Stops.{Settles}
use Rattle.coho_steps.proofs.Lines.{lines_of}
use Rattle.stage_answers.proofs.Working.{settled_works}
use Rattle.coho_run.proofs.running.answer_on.Goals as goal

pub returns-in-Group : goal.returns-in-Group
returns-in-Group g c = rw c.in-Group.is (settled_works lines_of (AnswerGroup c.args.consistent.now) None None
    (λ old left. left ≡ old) (λ files. ⊥)
    (g.F.Files.content c.args.files.now) (g.F.Files.read_faults c.args.files.now)
    (g.F.Files.write_faults c.args.files.now) (λ files. refl) c.answer_group.result
    c.answer_group.ensures)

pub returns-in-Resolve : goal.returns-in-Resolve
returns-in-Resolve g c = rw c.in-Resolve.is (settled_works lines_of
    (AnswerResolve c.args.consistent.now c.in-Resolve.n) None None (λ old left. left ≡ old) (λ files. ⊥)
    (g.F.Files.content c.args.files.now) (g.F.Files.read_faults c.args.files.now)
    (g.F.Files.write_faults c.args.files.now) (λ files. refl) c.answer_resolve.result
    c.answer_resolve.ensures)

pub returns-in-Ring : goal.returns-in-Ring
returns-in-Ring g c = rw c.in-Ring.is c.answer_ring.ensures

pub returns-in-Check : goal.returns-in-Check
returns-in-Check g c = rw c.in-Check.is c.answer_check.ensures

pub returns-in-Value : goal.returns-in-Value
returns-in-Value g c = rw c.in-Value.is (settled_works lines_of
    (AnswerValue c.args.consistent.now c.in-Value.class c.in-Value.elements.items) None None
    (λ old left. left ≡ old) (λ files. ⊥)
    (g.F.Files.content c.args.files.now) (g.F.Files.read_faults c.args.files.now)
    (g.F.Files.write_faults c.args.files.now) (λ files. refl) c.answer_value.result
    (subst (λ es. Settles lines_of (AnswerValue c.args.consistent.now c.in-Value.class es)
    c.answer_value.result)
    c.deref.ensures.value c.answer_value.ensures))

pub returns-in-Sample : goal.returns-in-Sample
returns-in-Sample g c = rw c.in-Sample.is (settled_works lines_of
    (AnswerSample c.args.consistent.now c.in-Sample.k) None None (λ old left. left ≡ old) (λ files. ⊥)
    (g.F.Files.content c.args.files.now) (g.F.Files.read_faults c.args.files.now)
    (g.F.Files.write_faults c.args.files.now) (λ files. refl) c.answer_sample.result
    c.answer_sample.ensures)

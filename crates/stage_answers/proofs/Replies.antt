-- The answers to `group` and `resolve`, as the calls make them.
use Rattle.std.proofs.Common.{◌≡◌, List, ℕ, refl, ap, inl, inr}
use Rattle.std.specs.declared.result.Result.TheVariants.{Ok, Err}
use Rattle.group_algebra.specs.Coordinates.{sizes}
use Rattle.power_commutator.specs.Presentations.{Presentation}
use Rattle.coho_steps.specs.Groups.{ForGroupOf}
use Rattle.stage_answers.specs.Answers.{AnswerGroup, AnswerResolve, group_lines, stage_lines}
use Rattle.stage_answers.specs.Stages.{Summary, AreStagesTo, IsStageRefusal}
use Rattle.coho_steps.specs.Steps.{Refusal, Step, Gives}
use Rattle.coho_steps.specs.Stops.{IsRefused, Settles}
use Rattle.coho_steps.specs.declared.stop.Stop.{Stop}
use Rattle.coho_steps.specs.Lines.{contents}
use Rattle.coho_steps.proofs.Chain.{refused_settles}
use Rattle.coho_steps.proofs.Lines.{Lines, lines_of}

abbrev pub group_answer : Presentation → List ℕ → Step (List (List ℕ))
group_answer P dimensions = Gives (group_lines P dimensions)

abbrev pub stage_answer : List Summary → Step (List (List ℕ))
stage_answer stages = Gives (stage_lines stages)

pub group_then : (P : Presentation) (dimensions : List ℕ) (lines : Lines)
    → ForGroupOf P (λ G. dimensions ≡ sizes G) → contents lines.items ≡ group_lines P dimensions
    → Settles lines_of (AnswerGroup P) (Ok lines)
group_then P dimensions lines are e = λ files. inl (
  dimensions,
  files,
  (are, refl),
  (ap (λ ls. Ok ls) e, refl),
)

module _ (P : Presentation) (n : ℕ) where
  abbrev pub StageRefusal : Refusal → Type 0
  StageRefusal refusal = ForGroupOf P (λ G. IsStageRefusal G n refusal)

  pub resolve_then : (stages : List Summary) (lines : Lines) → ForGroupOf P (λ G. AreStagesTo G n stages)
      → contents lines.items ≡ stage_lines stages → Settles lines_of (AnswerResolve P n) (Ok lines)
  resolve_then stages lines are e = λ files. inl (stages, files, (are, refl), (ap (λ ls. Ok ls) e, refl))

  pub resolve_refused : (s : Stop) → IsRefused StageRefusal s → Settles lines_of (AnswerResolve P n) (Err s)
  resolve_refused s h = refused_settles lines_of (AnswerResolve P n) StageRefusal s h
      (λ r q files. inr (r, (q, refl), refl))

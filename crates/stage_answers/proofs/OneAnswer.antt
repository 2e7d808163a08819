-- The answers to `group`, `resolve` and `check` end in one way.
use Rattle.std.proofs.Common.{◌≡◌, ◌∙◌, inl, ℕ, List, [], ◌∷◌, codes, refl, sym}
use Rattle.limits.specs.declared.TheConstants.{GREATEST_DEGREE}
use Rattle.group_algebra.specs.Coordinates.{sizes}
use Rattle.power_commutator.specs.Presentations.{Presentation}
use Rattle.coho_steps.specs.Lines.{line}
use Rattle.coho_steps.specs.Steps.{Refusal}
use Rattle.coho_steps.proofs.Loaded.{IsLoaded, on, table_of}
use Rattle.coho_steps.proofs.Proper.{IsDecided, IsProper, gives, then}
use Rattle.stage_answers.specs.Answers.{AnswerCheck, AnswerGroup, AnswerResolve, Layers, Stages, TellCount}
use Rattle.stage_answers.specs.Answers.{group_lines, stage_lines}
use Rattle.stage_answers.specs.StageFiles.{WalkFile}
use Rattle.stage_answers.proofs.OneResolution.{stages_decided}
use Rattle.stage_answers.proofs.Replies.{group_answer, stage_answer}
use Rattle.stage_answers.proofs.StageSteps.{walk_file}

layers_decided : IsDecided ⊥ (λ G (dimensions : List ℕ). dimensions ≡ sizes G) (λ G (refusal : Refusal). ⊥)
layers_decided = record {
  one_value = λ G xs ys a b. a ∙ sym b;
  one_refusal = λ G q r a b. absurd a;
  not_both = λ G xs q a b. b;
  some = λ G. inl (sizes G, refl);
  keeps = λ G q a. absurd a;
}

module _ (P : Presentation) (is : IsLoaded P) where
  pub answer_group : IsProper ⊥ (AnswerGroup P)
  answer_group = then (Layers P) (group_answer P) (on P is _ _ layers_decided)
      (λ dimensions old mid h. gives (group_lines P dimensions))

  pub answer_resolve : (n : ℕ) → IsProper ⊥ (AnswerResolve P n)
  answer_resolve n = then (Stages P n) stage_answer (on P is _ _ (stages_decided n))
      (λ stages old mid h. gives (stage_lines stages))

  pub answer_check : (stages : List ℕ) → IsProper ⊥ (AnswerCheck P stages)
  answer_check stages = let t = table_of P is in
      then (WalkFile P GREATEST_DEGREE stages) TellCount (walk_file P t.0 t.1 GREATEST_DEGREE stages)
      (λ count old mid h. gives (line (codes "records ") count ∷ []))

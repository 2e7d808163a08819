-- What a run has saved leaves all other files.
use Rattle.std.proofs.Common.{◌≡◌, ◌∙◌, inl, inr, ℕ, List, refl, ap, subst}
use Rattle.std.specs.declared.option.Option.{Option}
use Rattle.std.specs.declared.option.Option.TheVariants.{None, Some}
use Rattle.coho_io.specs.Content.{Content, file}
use Rattle.stage_walk.specs.Saved.{saved}
use Rattle.coho_run.specs.Run.{Stays}
use Rattle.coho_steps.specs.Told.{OfTold}
use Rattle.coho_run.specs.Saving.{WordsLeave}
use Rattle.stage_answers.specs.StageFiles.{IsFrontSaved}
use Rattle.coho_words.specs.Words.{IsSaved, Ring}
use Rattle.coho_run.proofs.Answering.{stages_saved}
use Rattle.stage_answers.proofs.PutFiles.{other_file}

saved_file : (words : List (List ℕ)) (told left : Content) (save : Option (List ℕ)) (bytes path : List ℕ)
    → ((p : List ℕ) → save ≡ Some p → IsSaved words p) → left ≡ saved save bytes told → (IsSaved words path
    → ⊥)
    → file left path ≡ file told path
saved_file words told left None bytes path is e other = ap (λ (c : Content). file c path) e
saved_file words told left (Some p) bytes path is e other = ap (λ (c : Content). file c path) e
    ∙ other_file told p path bytes (λ same. other (subst (IsSaved words) same (is p refl)))

words_file : (words : List (List ℕ)) (told left : Content) (path : List ℕ) → WordsLeave words told left
    → (IsSaved words path → ⊥) → file left path ≡ file told path
words_file words told left path (inl same) other = ap (λ (c : Content). file c path) same
words_file words told left path (inr s) other = front s.saved
  where
    is_saved : (p : List ℕ) → s.stages.save ≡ Some p → IsSaved words p
    is_saved p e = stages_saved words (Ring s.path s.n s.stages) s.asked p e

    front : IsFrontSaved s.presentation s.n s.stages told left → file left path ≡ file told path
    front (inl same) = ap (λ (c : Content). file c path) same
    front (inr f) = let k = f.1.holds in saved_file words told left s.stages.save _ path is_saved k.1 other

pub stays : (words : List (List ℕ)) (before now : Option Content) → OfTold before now (WordsLeave words)
    → Stays words before now
stays words before now h = λ told e.
    (let l = h told e in (l.0, l.1, λ path other. words_file words told l.0 path l.2 other))

-- Reading a text line by line.
use Rattle.std.proofs.Common.{◌≡◌, ℕ, ◌+◌, ◌<◌, ◌≤◌, true, List, [], ◌∷◌, ◌++◌, length, Some, None, Ok, Err}
use Rattle.std.proofs.Common.{refl}
use Rattle.pc_text.specs.declared.fault.Kind.TheVariants as kind
use Rattle.pc_text.specs.declared.fault.LineStop.{LineStop}
use Rattle.pc_text.specs.declared.fault.LineStop.TheVariants as stops
use Rattle.pc_text.specs.Views.{LineFails, TextFails, at_line}
use Rattle.pc_text.specs.Lines.{lines_from, cut_at}
use Rattle.pc_text.specs.Words.{Naming}
use Rattle.pc_text.specs.Relations.{Relation, relation}
use Rattle.pc_text.specs.Texts.{relations}
use Rattle.pc_text.proofs.CutLemmas.{cut_some, cut_none}
use Rattle.pc_text.proofs.LineLemmas.{line_ended, line_last}

-- what is left of the text gives, behind the relations found, what the whole gives
pub record Left (names : Naming) (text : List ℕ) (found : List Relation) (number : ℕ)
    (rest : List ℕ) : Type 0 where
  pub same : relations names found (lines_from number rest) ≡ relations names [] (lines_from 4 text)
  pub started : 4 ≤ number
  pub bounds : number + length rest ≤ 4 + length text

pub good_line : (names : Naming) (found : List Relation) (r : Relation) (number : ℕ)
    (text bytes next : List ℕ) → cut_at 10 text ≡ Some (bytes, next) → relation names found bytes true ≡ Ok r
    → relations names found (lines_from number text) ≡ relations names (found ++ r ∷ [])
    (lines_from (number + 1) next)
good_line names found r number text bytes next cut good =
    rw (line_ended number text bytes next (cut_some 10 text (bytes, next) cut), good) refl

pub bad_line : (names : Naming) (found : List Relation) (stop : LineStop) (number : ℕ)
    (text bytes next : List ℕ) → cut_at 10 text ≡ Some (bytes, next)
    → LineFails stop (relation names found bytes true)
    → TextFails (at_line number stop) (relations names found (lines_from number text))
bad_line names found (stops.Fault bad) number text bytes next cut fault =
    rw (line_ended number text bytes next (cut_some 10 text (bytes, next) cut), fault) refl
bad_line names found stops.Memory number text bytes next cut fault = tt

pub open_line : (names : Naming) (found : List Relation) (number : ℕ) (text : List ℕ) → cut_at 10 text ≡ None
    → 0 < length text
    → relations names found (lines_from number text) ≡ Err
    (record { kind = kind.BadLine; line = number; column = 1 })
open_line names found number text cut long = rw (line_last number text text (cut_none 10 text cut) long) refl

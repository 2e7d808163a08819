-- The checks at the list of a submodule, and the powers of the augmentation ideal.
use Rattle.std.proofs.Common.{ℕ, suc, ◌*◌, List, sym}
use mathlib.Core.Path.{subst}
use Rattle.group_modules.specs.Tables.{Group, Table}
use Rattle.linear_algebra.specs.Modular.{IsFieldModulo}
use Rattle.linear_algebra.specs.Rows.{entry, row, IsInSpan}
use Rattle.linear_algebra.proofs.Spans.{in_span_row}
use Rattle.radical_layers.specs.Coordinates.{Coordinates}
use Rattle.radical_layers.specs.Moves.{IsEchelonFor}
use Rattle.radical_layers.specs.Layers.{RowIn}
use Rattle.resolution_stages.specs.Checks.{StageParts, IsSubmoduleList, HasShape, HasCount, PassesChecks}
use Rattle.resolution_stages.specs.Checks.{IsNextStage}
use Rattle.resolution_stages.proofs.CheckLaws.{is-next}
use Rattle.resolution_stages.proofs.NextChecks.{passes, next-count}

module _ {n : ℕ} (q : ℕ) (F : IsFieldModulo (suc q)) (Γ : Group n) (K : Coordinates q Γ) (b : ℕ)
    (E : List (List ℕ)) (S : IsSubmoduleList q Γ K b E) where
  -- the members of the submodule
  abbrev L : (Table q Γ b).of → Type 0
  L v = IsInSpan (suc q) E (entry ((K b).row v))

  list-for : IsEchelonFor (suc q) (n * b) (RowIn (K b) L) E
  list-for = record {
    matrix = S.matrix;
    echelon = S.echelon;
    members = λ i l. (
      S.matrix i l,
      subst (λ x. IsInSpan (suc q) E (entry x))
          (sym ((K b).row-table (row E i) (S.matrix i l))) (in_span_row E i l),
    );
    spans = λ x s. subst (λ y. IsInSpan (suc q) E (entry y)) ((K b).row-table x s.0) s.1;
  }

  pub checks-next : (Q : StageParts) → HasShape q Γ K b E Q → HasCount q Γ K b E Q → PassesChecks q Γ K b E Q
      → IsNextStage q Γ K b E Q
  checks-next Q H h C = is-next q F Γ K b L S.submodule E list-for Q H C h

  pub next-checks : (Q : StageParts) → HasShape q Γ K b E Q → IsNextStage q Γ K b E Q → HasCount q Γ K b E Q
      × PassesChecks q Γ K b E Q
  next-checks Q H N = (
    next-count q F Γ K b L S.submodule E list-for Q H N,
    passes q F Γ K b L S.submodule E list-for Q H N,
  )

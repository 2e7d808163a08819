-- The kernel list of the next stage is the list of a submodule, so that the next step can be taken from it.
use Rattle.std.proofs.Common.{◌≡◌, ℕ, suc, ◌*◌, List, [], ◌∷◌, length, sym}
use mathlib.Core.Path.{subst}
use Rattle.group_modules.specs.Module.{Module, times}
use Rattle.group_modules.specs.Field.{residue, Fp}
use Rattle.group_modules.specs.Tables.{Group, monoid, Table, block-sum}
use Rattle.group_modules.proofs.MapLaws.{terms-linear}
use Rattle.group_modules.specs.Sums.{below, total}
use Rattle.augmentation_ideal.specs.Radical.{IsSubmodule}
use Rattle.augmentation_ideal.proofs.Nakayama.{times-in}
use Rattle.linear_algebra.specs.Rows.{entry, row, IsInSpan}
use Rattle.radical_layers.specs.Coordinates.{Coordinates}
use Rattle.radical_layers.specs.Moves.{IsEchelonFor}
use Rattle.radical_layers.specs.Layers.{RowIn}
use Rattle.resolution_stages.specs.Checks.{StageParts, IsSubmoduleList, IsNextStage, del, chosen_row}
use Rattle.radical_layers.proofs.Bridge.{from-span}
use Rattle.resolution_stages.proofs.FromDefinitions.{kernel-submodule}
use Rattle.radical_layers.proofs.Blocks.{block-is-linear}

module _ {n : ℕ} (q : ℕ) (Γ : Group n) (K : Coordinates q Γ) (b : ℕ) (L : (Table q Γ b).of
    → Type 0) (U : IsSubmodule (Table q Γ b) L)
    (E : List (List ℕ)) (e : IsEchelonFor (suc q) (n * b) (RowIn (K b) L) E) where
  abbrev T : Module (suc q) (monoid Γ)
  T = Table q Γ b

  abbrev InE : T.of → Type 0
  InE v = IsInSpan (suc q) E (entry ((K b).row v))

  to-span : (v : T.of) → L v → InE v
  to-span v h = e.spans ((K b).row v) ((K b).row-is v, subst L (sym ((K b).table-row v)) h)

  total-in : {A : Type 0} (xs : List A) (u : A → ℕ) (f : A → T.of) → ((a : A) → L (f a))
      → L (total T xs (λ a. times T.add T.zero (u a) (f a)))
  total-in [] u f h = U.zero-in
  total-in (x ∷ xs) u f h = U.add-in _ _ (times-in T L U (u x) (f x) (h x)) (total-in xs u f h)

  of-span : (v : T.of) → InE v → L v
  of-span v s = subst L (sym (from-span q Γ (n * b) T (K b) E e.matrix s.0 v s.1))
      (total-in (below (length E)) (λ i. s.0 i.0) (λ i. (K b).table (row E i.0)) (λ i. (e.members i.0 i.1).1))

  -- the echelon list of a submodule
  pub list-of-submodule : IsSubmoduleList q Γ K b E
  list-of-submodule = record {
    matrix = e.matrix;
    echelon = e.echelon;
    submodule = record {
      zero-in = to-span T.zero U.zero-in;
      add-in = λ x y h k. to-span (T.add x y) (U.add-in x y (of-span x h) (of-span y k));
      act-in = λ g x h. to-span (T.act g x) (U.act-in g x (of-span x h));
    };
  }

pub next-list : {n : ℕ} (q : ℕ) (Γ : Group n) (K : Coordinates q Γ) (b : ℕ) (E : List (List ℕ))
    (Q : StageParts) → IsNextStage q Γ K b E Q
    → IsSubmoduleList q Γ K (length Q.positions) Q.kernel
next-list q Γ K b E Q N = list-of-submodule q Γ K (length Q.positions)
    (λ u. del q Γ K b E Q u ≡ (Table q Γ b).zero)
    (kernel-submodule (Table q Γ (length Q.positions)) (Table q Γ b) (λ u. del q Γ K b E Q u)
    (terms-linear q Γ (length Q.positions) (Table q Γ b) (chosen_row q Γ K b E Q)))
    Q.kernel N.kernel_is

-- the list of the tables of sum 0
pub first-list : {n : ℕ} (q : ℕ) (Γ : Group n) (K : Coordinates q Γ) (E : List (List ℕ))
    → IsEchelonFor (suc q) (n * 1) (RowIn (K 1) (λ v. block-sum q Γ 1 v (residue 0 0) ≡ residue q 0)) E
    → IsSubmoduleList q Γ K 1 E
first-list q Γ K E e = list-of-submodule q Γ K 1 (λ v. block-sum q Γ 1 v (residue 0 0) ≡ residue q 0)
    (kernel-submodule (Table q Γ 1) (Fp q (monoid Γ)) (λ v. block-sum q Γ 1 v (residue 0 0))
    (block-is-linear q Γ 1 (residue 0 0))) E e

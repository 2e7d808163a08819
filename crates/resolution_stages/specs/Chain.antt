-- The sections by their table, the parts of the stages, and parts that follow each other.
use Rattle.std.specs.Prelude.{◌≡◌, ◌≢◌, ℕ, zero, suc, List, [], ◌∷◌, ◌++◌, map, length, get_or, ◌*◌, ◌<◌}
use Rattle.group_modules.specs.Field.{residue}
use Rattle.group_modules.specs.Tables.{Group, Table, block-sum}
use Rattle.group_modules.specs.Resolutions.{rank}
use Rattle.linear_algebra.specs.Rows.{entry, row, pivot, combination_row, IsMatrix}
use Rattle.augmentation_ideal.specs.Radical.{Radical}
use Rattle.radical_layers.specs.Coordinates.{Coordinates}
use Rattle.resolution_stages.specs.Definitions.{StageRows, AreStages, RowInKernel}
use Rattle.radical_layers.specs.Moves.{IsEchelonFor}
use Rattle.radical_layers.specs.Layers.{RowIn}
use Rattle.resolution_stages.specs.Checks.{StageParts, IsSubmoduleList, IsNextStage}

-- the value of a section at x by its table: the sum over the pivots of E of x's entry there times the table's
-- row
abbrev pub section_row : ℕ → ℕ → List (List ℕ) → List (List ℕ) → List ℕ → List ℕ
section_row p width E sections x = combination_row p width (λ k. entry x (pivot (row E k))) sections

-- the parts of the stage of degree d + 1
abbrev pub parts_of : StageRows → ℕ → StageParts
parts_of S d = record {
  positions = S.positions d;
  kernel = S.kernel (suc d);
  sections = map (S.section d) (S.kernel d);
}

-- those of c stages, from degree d + 1 on
abbrev pub parts_from : StageRows → ℕ → ℕ → List StageParts
parts_from S d zero = []
parts_from S d (suc c) = parts_of S d ∷ parts_from S (suc d) c

-- the rank and the kernel list after the last of these parts, where they follow the rank b and the list E
abbrev pub end_rank : ℕ → List StageParts → ℕ
end_rank b [] = b
end_rank b (Q ∷ Qs) = end_rank (length Q.positions) Qs

abbrev pub end_list : List (List ℕ) → List StageParts → List (List ℕ)
end_list E [] = E
end_list E (Q ∷ Qs) = end_list Q.kernel Qs

module _ {n : ℕ} (q : ℕ) (Γ : Group n) (K : Coordinates q Γ) where
  -- E is the list of K_0, the tables of sum 0
  abbrev pub IsFirstList : List (List ℕ) → Type 0
  IsFirstList E = IsEchelonFor (suc q) (n * 1)
      (RowIn (K 1) (λ v. block-sum q Γ 1 v (residue 0 0) ≡ residue q 0)) E

  -- each of these parts is the next stage
  abbrev pub IsChain : ℕ → List (List ℕ) → List StageParts → Type 0
  IsChain b E [] = Unit {0}
  IsChain b E (Q ∷ Qs) = IsNextStage q Γ K b E Q × IsChain (length Q.positions) Q.kernel Qs

  -- the same kernels, ranks and positions in every degree, and the same sections on the kernels
  pub record AreSameStages (S S' : StageRows) : Type 0 where
    pub ranks : (d : ℕ) → S.ranks d ≡ S'.ranks d
    pub kernel : (d : ℕ) → S.kernel d ≡ S'.kernel d
    pub positions : (d : ℕ) → S.positions d ≡ S'.positions d
    pub section : (d : ℕ) (x : List ℕ) → RowInKernel q Γ K S d x → S.section d x ≡ S'.section d x

  -- S has the stages by their tables; parts that follow each other from the list of K_0 are those of S, and
  -- all stages are those of S
  pub record StageClaims (S : StageRows) : Type 0 where
    pub are : AreStages q Γ K S
    pub by_table : (d : ℕ) (x : List ℕ) → RowInKernel q Γ K S d x
        → S.section d x ≡ section_row (suc q) (n * rank q Γ S.ranks (suc d)) (S.kernel d)
        (map (S.section d) (S.kernel d)) x
    pub one : (S' : StageRows) → AreStages q Γ K S' → AreSameStages S S'
    pub first_list : (E : List (List ℕ)) → IsFirstList E → E ≡ S.kernel 0
    pub chain : (E : List (List ℕ)) (Qs : List StageParts) → IsFirstList E → IsChain 1 E Qs
        → (Qs ≡ parts_from S 0 (length Qs)) × (end_rank 1 Qs ≡ rank q Γ S.ranks (length Qs))
        × (end_list E Qs ≡ S.kernel (length Qs))
    pub chain_at : (E : List (List ℕ)) (Qs : List StageParts) → IsFirstList E → IsChain 1 E Qs
        → (i : ℕ) (Q : StageParts) → i < length Qs → get_or Qs i Q ≡ parts_of S i
    -- and the stages of S are such parts
    pub chains : (c : ℕ) → IsChain 1 (S.kernel 0) (parts_from S 0 c)

-- the unit rows of the width but the first
pub record IsUnitList (p width : ℕ) (E : List (List ℕ)) : Type 0 where
  pub matrix : IsMatrix p width E
  pub count : suc (length E) ≡ width
  pub own : (i : ℕ) → i < length E → entry (row E i) (suc i) ≡ 1
  pub others : (i j : ℕ) → i < length E → j ≢ suc i → entry (row E i) j ≡ 0

-- the list of K_0 is that of J^1; and where a row begins with the sum of its table, it is the unit rows but
-- the first
pub record FirstListClaims {n : ℕ} (q : ℕ) (Γ : Group n) (K : Coordinates q Γ) : Type 0 where
  pub of_power : (E : List (List ℕ)) → IsEchelonFor (suc q) (n * 1) (RowIn (K 1) (Radical (Table q Γ 1) 1)) E
      → IsFirstList q Γ K E
  pub of_units : ((v : (Table q Γ 1).of) → entry ((K 1).row v) 0 ≡ (block-sum q Γ 1 v (residue 0 0)).0)
      → (E : List (List ℕ)) → IsUnitList (suc q) (n * 1) E → IsFirstList q Γ K E

-- parts that follow each other from the list of K_0: they are the first ones of the stages, one more may
-- follow, and the next step can be taken
pub record ChainClaims {n : ℕ} (q : ℕ) (Γ : Group n) (K : Coordinates q Γ) (E : List (List ℕ))
    (Qs : List StageParts) : Type 0 where
  pub of_stages : (S : StageRows) × AreStages q Γ K S × (E ≡ S.kernel 0) × (Qs ≡ parts_from S 0 (length Qs))
  pub push : (Q : StageParts) → IsNextStage q Γ K (end_rank 1 Qs) (end_list E Qs) Q
      → IsChain q Γ K 1 E (Qs ++ Q ∷ [])
  pub ready : IsSubmoduleList q Γ K (end_rank 1 Qs) (end_list E Qs)
  pub next : (Q : StageParts) × IsNextStage q Γ K (end_rank 1 Qs) (end_list E Qs) Q

-- The answers to `group`, `resolve` and `check`, as steps on a presentation, and their lines.
use Rattle.std.specs.Prelude.{◌≡◌, ℕ, ◌+◌, List, [], ◌∷◌, ◌++◌, map, codes, decimal, flat_map}
use Rattle.std.specs.declared.option.Option.{Option}
use Rattle.std.specs.declared.option.Option.TheVariants.{None, Some}
use Rattle.limits.specs.declared.TheConstants.{GREATEST_DEGREE}
use Rattle.power_commutator.specs.Presentations.{Presentation}
use Rattle.coho_steps.specs.Steps.{◌>>=◌, Step, Gives, OnGroup}
use Rattle.group_algebra.specs.Coordinates.{sizes}
use Rattle.stage_answers.specs.Stages.{Summary, AreStagesTo, IsStageRefusal}
use Rattle.stage_answers.specs.StageFiles.{WalkFile}
use Rattle.coho_steps.specs.Loading.{order}
use Rattle.coho_steps.specs.Lines.{line, after_space}

-- the dimensions of the radical layers of the group algebra
abbrev pub Layers : Presentation → Step (List ℕ)
Layers P = OnGroup P (λ G dimensions. dimensions ≡ sizes G) (λ G refusal. ⊥)

-- the stages of the minimal resolution to degree n, or the first that is above the limit
abbrev pub Stages : Presentation → ℕ → Step (List Summary)
Stages P n = OnGroup P (λ G stages. AreStagesTo G n stages) (λ G refusal. IsStageRefusal G n refusal)

-- the word layers, the numbers each after a space, and an LF
abbrev pub layers_line : List ℕ → List ℕ
layers_line dimensions = codes "layers" ++ (flat_map after_space dimensions ++ 10 ∷ [])

-- the lines that `group` answers
abbrev pub group_lines : Presentation → List ℕ → List (List ℕ)
group_lines P dimensions =
    line (codes "prime ") P.prime
    ∷ line (codes "gens ") P.gens
    ∷ line (codes "order ") (order P)
    ∷ layers_line dimensions
    ∷ []

-- the word rows, and the places counted from 1
abbrev pub rows_words : Option (List ℕ) → List ℕ
rows_words None = []
rows_words (Some places) = codes " rows" ++ flat_map (λ i. after_space (i + 1)) places

-- the degree, the rank and the dimension of the kernel of a stage, and the rows of its boundary
abbrev pub stage_line : Summary → List ℕ
stage_line s =
    codes "stage "
    ++ (decimal s.degree ++ (codes " rank "
    ++ (decimal s.rank ++ (codes " kernel "
    ++ (decimal s.kernel ++ (rows_words s.rows ++ 10 ∷ []))))))

-- a line for each stage
abbrev pub stage_lines : List Summary → List (List ℕ)
stage_lines stages = map stage_line stages

-- the answer to `group`, step by step: the radical layers are found, and then the group is described
abbrev pub AnswerGroup : Presentation → Step (List (List ℕ))
AnswerGroup P = do
  dimensions ← Layers P
  Gives (group_lines P dimensions)

-- the answer to `resolve`: the stages are found, and then told
abbrev pub AnswerResolve : Presentation → ℕ → Step (List (List ℕ))
AnswerResolve P n = do
  stages ← Stages P n
  Gives (stage_lines stages)

-- the line with a number of records
abbrev pub TellCount : ℕ → Step (List (List ℕ))
TellCount count = Gives (line (codes "records ") count ∷ [])

-- the number of records that are taken from the stage file
abbrev pub AnswerCheck : Presentation → List ℕ → Step (List (List ℕ))
AnswerCheck P stages = do
  count ← WalkFile P GREATEST_DEGREE stages
  TellCount count

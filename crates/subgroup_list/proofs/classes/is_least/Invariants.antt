use Rattle.std.proofs.Common.{◌≡◌, ℕ, ◌<◌, List, ◌⊎◌}
use Rattle.elementary_subgroups.specs.Sets.{IsBefore}
use Rattle.elementary_subgroups.specs.Subgroups.{IsConjugateBy}
use Rattle.subgroup_list.proofs.classes.is_least.Given as goal

abbrev pub invariant-loop-by : goal.invariant-loop-by
invariant-loop-by l = (k : ℕ) → k < l.by → (c : List ℕ) → IsConjugateBy l.g k l.m c →
    (l.m ≡ c) ⊎ IsBefore l.m c

-- The chain map back from a minimal resolution to the normalised bar complex, and the homotopies between both
-- ways round and the identity (Brown, "Cohomology of Groups", I.7).
use Rattle.std.specs.Prelude.{ℕ, suc}
use Rattle.group_modules.specs.Module.{ops, sub, lin}
use Rattle.group_modules.specs.Operations.{linear}
use Rattle.group_modules.specs.Field.{Below}
use Rattle.group_modules.specs.Tables.{Group, monoid, unit, terms}
use Rattle.group_modules.specs.Resolutions.{rank}
use Rattle.radical_layers.specs.Coordinates.{Coordinates}
use Rattle.resolution_stages.specs.Definitions.{StageRows}
use Rattle.resolution_stages.specs.Claims.{section_table}
use Rattle.chain_maps.specs.Lifts.{steps, free, row_terms}
use Rattle.bar_complex.specs.Tuples.{Tuple}
use Rattle.bar_complex.specs.Boundary.{boundary}
use Rattle.bar_complex.specs.Contraction.{Chain, chains, chain_minus, single, contraction}
use Rattle.bar_complex.specs.Homotopies.{homotopy}
use Rattle.bar_comparison.specs.Comparison.{comparison}

module _ {n : ℕ} (q : ℕ) (Γ : Group n) (K : Coordinates q Γ) (S : StageRows) where
  -- where the basis goes: 1 to the empty tuple, and a basis element of higher degree to the contraction of
  -- the value at its boundary
  abbrev pub back : (d : ℕ) → Below (rank q Γ S.ranks d) → Chain q (monoid Γ) d
  back =
      steps (λ d. Below (rank q Γ S.ranks d)) (row_terms q Γ K S) (chains q (monoid Γ))
      (contraction q (monoid Γ)) (λ i. single q (monoid Γ) 0 tt)

  -- the chain map back, and the comparison map on formal sums
  abbrev pub to_bar : (d : ℕ) → (free q Γ K S d).of → Chain q (monoid Γ) d
  to_bar d v = linear (chains q (monoid Γ) d) (back d) (terms q Γ (rank q Γ S.ranks d) v)

  abbrev pub to_stages : (d : ℕ) → Chain q (monoid Γ) d → (free q Γ K S d).of
  to_stages d x = lin (free q Γ K S d) (comparison q Γ K S d) x

  -- the homotopy on the stages, from the way to the bar complex and back to the identity
  abbrev pub stage_homotopy : (d : ℕ) → Below (rank q Γ S.ranks d) → (free q Γ K S (suc d)).of
  stage_homotopy =
      homotopy (λ d. Below (rank q Γ S.ranks d)) (row_terms q Γ K S) (λ d. ops (free q Γ K S d))
      (λ d. sub (free q Γ K S d)) (section_table q Γ K S) (λ d i. to_stages d (back d i))
      (λ d. unit q Γ (rank q Γ S.ranks d))

  -- the homotopy on the bar complex, from the way to the stages and back to the identity
  abbrev pub bar_homotopy : (d : ℕ) → Tuple (Below n) d → Chain q (monoid Γ) (suc d)
  bar_homotopy =
      homotopy (Tuple (Below n)) (boundary q (monoid Γ)) (chains q (monoid Γ)) (chain_minus q (monoid Γ))
      (contraction q (monoid Γ)) (λ d t. to_bar d (comparison q Γ K S d t)) (single q (monoid Γ))

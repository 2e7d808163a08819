-- Chain maps from a complex with bases that are found step by step, by the preimages of an exact complex.
use Rattle.std.specs.Prelude.{◌≡◌, ℕ, zero, suc}
use Rattle.std.proofs.Common.{◌∙◌, ap}
use mathlib.Core.Path.{fun_ext}
use Rattle.group_modules.specs.Module.{Monoid, ops, lin}
use Rattle.group_modules.proofs.Laws.{map-lin}
use Rattle.group_modules.specs.Field.{residue}
use Rattle.chain_maps.specs.Lifts.{steps}
use Rattle.bar_complex.proofs.Complexes.{Vanishes, FreeComplex, Exact, IsChainMap}

module _ {q : ℕ} {G : Monoid} (X : FreeComplex (suc q) G) (Y : Exact q G) where
  -- the chain map that lifts step by step, from its part in degree 0
  abbrev pub lifted : (X.basis 0 → (Y.at 0).of) → (d : ℕ) → X.basis d → (Y.at d).of
  lifted u = steps X.basis X.boundary (λ d. ops (Y.at d)) Y.lift u

  -- u may be lifted: it vanishes where it must, and the sum over each boundary has augmentation 0
  pub record Starts (u : X.basis 0 → (Y.at 0).of) : Type 0 where
    pub vanish : Vanishes (Y.at 0) (X.null 0) u
    pub cycle : (x : X.basis 1) → Y.augment (lin (Y.at 0) u (X.boundary 0 x)) ≡ residue q 0

  module _ (u : X.basis 0 → (Y.at 0).of) (s : Starts u) where
    pub lifted-null : (d : ℕ) → Vanishes (Y.at d) (X.null d) (lifted u d)
    lifted-null zero x z = s.vanish x z
    lifted-null (suc d) x z = ap (Y.lift d) (X.boundary-null (Y.at d) d (lifted u d) (lifted-null d) x z)
        ∙ Y.lift-nil d

    pub lifted-commute : (d : ℕ) (x : X.basis (suc d))
        → Y.boundary d (lifted u (suc d) x) ≡ lin (Y.at d) (lifted u d) (X.boundary d x)
    lifted-commute zero x = Y.lift-zero _ (s.cycle x)
    lifted-commute (suc d) x =
        Y.lift-suc d _
        (map-lin (Y.at (suc d)) (Y.at d) (Y.boundary d) (Y.linear d) (lifted u (suc d)) (X.boundary (suc d) x)
        ∙ ap (λ v. lin (Y.at d) v (X.boundary (suc d) x)) (fun_ext (lifted-commute d))
        ∙ X.twice (Y.at d) d (lifted u d) (lifted-null d) x)

    pub lifted-map : IsChainMap X Y (lifted u)
    lifted-map = record { vanish = lifted-null; commute = lifted-commute }

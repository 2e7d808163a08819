-- The class map is linear.
use Rattle.std.specs.Prelude.{ℕ, suc, refl, List, ◌*◌}
use Rattle.std.proofs.Common.{◌≡◌, sym, ◌∙◌, ap}
use mathlib.Core.Path.{fun_ext}
use Rattle.group_modules.specs.Module.{Monoid, Module, Term, IsLinear, times, lin}
use Rattle.group_modules.specs.Field.{Below, Fp, residue, plus}
use Rattle.group_modules.specs.Tables.{Group, monoid, terms}
use Rattle.group_modules.specs.Resolutions.{rank}
use Rattle.group_modules.proofs.Laws.{lin-add, lin-zero, map-lin, times-add}
use Rattle.linear_algebra.proofs.Residues.{times-residue}
use Rattle.radical_layers.specs.Coordinates.{Coordinates}
use Rattle.resolution_stages.specs.Definitions.{StageRows}
use Rattle.bar_complex.specs.Tuples.{tuple}
use Rattle.bar_comparison.specs.Comparison.{comparison}
use Rattle.bar_comparison.specs.Claims.{ClassMapClaims}

-- a multiple of a function on the basis
lin-multiple : (q : ℕ) (G : Monoid) {X : Type 0} (k : ℕ) (c : X → Below (suc q)) (ts : List (Term G X))
    → lin (Fp q G) (λ i. residue q (k * (c i).0)) ts ≡ residue q (k * (lin (Fp q G) c ts).0)
lin-multiple q G k c ts =
    let F : Module (suc q) G = Fp q G in
    let l : IsLinear F F (times (plus q) (residue q 0) k) =
    record { on-add = times-add F k; on-act = λ g a. refl } in
    ap (λ u. lin F u ts) (fun_ext (λ i. sym (times-residue q k (c i))))
    ∙ sym (map-lin F F (times (plus q) (residue q 0) k) l c ts)
    ∙ times-residue q k (lin F c ts)

pub class-map-claims : {n : ℕ} (q : ℕ) (Γ : Group n) (K : Coordinates q Γ) (S : StageRows)
    → ClassMapClaims q Γ K S
class-map-claims {n} q Γ K S =
    let values : (d : ℕ) → List (Below n) → List (Term (monoid Γ) (Below (rank q Γ S.ranks d))) =
    λ d xs. terms q Γ (rank q Γ S.ranks d) (comparison q Γ K S d (tuple Γ.one d xs)) in
    record {
      zero = λ d xs. lin-zero (Fp q (monoid Γ)) (values d xs);
      sum = λ d a c xs. lin-add (Fp q (monoid Γ)) a c (values d xs);
      multiple = λ d k c xs. lin-multiple q (monoid Γ) k c (values d xs);
    }

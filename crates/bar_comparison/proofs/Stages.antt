-- The stages of a group are a minimal complex, so that the laws of such complexes hold of them.
use Rattle.std.specs.Prelude.{◌≡◌, ◌<◌, ℕ, suc}
use Rattle.std.proofs.Common.{sym, ◌∙◌, ap, arith}
use mathlib.Core.Path.{fun_ext}
use Rattle.group_modules.specs.Module.{Module, IsLinear, lin}
use Rattle.group_modules.proofs.Laws.{map-lin, lin-zero}
use Rattle.group_modules.specs.Field.{Below, Fp, residue}
use Rattle.linear_algebra.proofs.Residues.{below-path}
use Rattle.group_modules.specs.Tables.{Group, monoid, unit, terms}
use Rattle.group_modules.proofs.MapLaws.{augment-sum, terms-sum, terms-linear, terms-unit}
use Rattle.group_modules.specs.Resolutions.{rank}
use Rattle.radical_layers.specs.Coordinates.{Coordinates}
use Rattle.resolution_stages.specs.Definitions.{StageRows, boundary}
use Rattle.resolution_stages.specs.Claims.{ResolutionClaims, row_table, section_table}
use Rattle.chain_maps.specs.Lifts.{free}
use Rattle.chain_maps.proofs.ChainMaps.{pair-zero}
use Rattle.bar_complex.proofs.Complexes.{Exact}
use Rattle.bar_comparison.proofs.Comparison.{MinimalStages}
use Rattle.bar_comparison.proofs.Comparison as minimal
use Rattle.bar_comparison.specs.Claims.{ComparisonClaims}

pub alone : (i j : Below 1) → i ≡ j
alone i j = below-path i j (let a : i.0 < 1 = i.1 in let b : j.0 < 1 = j.1 in omega (arith, a, b))

module _ {n : ℕ} (q : ℕ) (Γ : Group n) (K : Coordinates q Γ) (S : StageRows)
    (R : ResolutionClaims q Γ K S) where
  abbrev r : ℕ → ℕ
  r d = rank q Γ S.ranks d

  abbrev P : ℕ → Module (suc q) (monoid Γ)
  P d = free q Γ K S d

  abbrev F : Module (suc q) (monoid Γ)
  F = Fp q (monoid Γ)

  pub boundary-linear : (d : ℕ) → IsLinear (P (suc d)) (P d) (boundary q Γ K S d)
  boundary-linear d = terms-linear q Γ (r (suc d)) (P d) (row_table q Γ K S d)

  pub pair-boundary : (d : ℕ) (c : Below (r d) → Below (suc q)) (v : (P (suc d)).of)
      → lin F c (terms q Γ (r d) (boundary q Γ K S d v)) ≡ residue q 0
  pair-boundary d c v =
      map-lin (P d) F (λ w. lin F c (terms q Γ (r d) w)) (terms-linear q Γ (r d) F c) (row_table q Γ K S d)
      (terms q Γ (r (suc d)) v)
      ∙ ap (λ u. lin F u (terms q Γ (r (suc d)) v))
      (fun_ext (λ i. pair-zero q Γ (r d) c (row_table q Γ K S d i) (R.minimal d i)))
      ∙ lin-zero F (terms q Γ (r (suc d)) v)

  pub boundary-twice : (d : ℕ) (v : (P (suc (suc d))).of)
      → boundary q Γ K S d (boundary q Γ K S (suc d) v) ≡ (P d).zero
  boundary-twice d v =
      map-lin (P (suc d)) (P d) (boundary q Γ K S d) (boundary-linear d) (row_table q Γ K S (suc d))
      (terms q Γ (r (suc (suc d))) v)
      ∙ ap (λ u. lin (P d) u (terms q Γ (r (suc (suc d))) v)) (fun_ext (R.complex d))
      ∙ lin-zero (P d) (terms q Γ (r (suc (suc d))) v)

  abbrev pub exact : Exact q (monoid Γ)
  exact = record {
    at = P;
    boundary = boundary q Γ K S;
    linear = boundary-linear;
    augment = λ v. lin F (λ i. residue q 1) (terms q Γ 1 v);
    augment-linear = terms-linear q Γ 1 F (λ i. residue q 1);
    augment-boundary = pair-boundary 0 (λ i. residue q 1);
    lift = section_table q Γ K S;
    lift-nil = R.section_zero;
    lift-zero = λ v e. R.exact 0 v (sym (augment-sum q Γ v) ∙ e);
    lift-suc = λ d v e. R.exact (suc d) v e;
  }

  abbrev pub stages : MinimalStages q (monoid Γ)
  stages = record {
    exact = exact;
    basis = λ d. Below (r d);
    unit = λ d. unit q Γ (r d);
    terms = λ d. terms q Γ (r d);
    terms-sum = λ d. terms-sum q Γ (r d);
    terms-linear = λ d. terms-linear q Γ (r d);
    terms-unit = λ d. terms-unit q Γ (r d);
    row = row_table q Γ K S;
    boundary-unit = λ d i. terms-unit q Γ (r (suc d)) (P d) (row_table q Γ K S d) i;
    twice = boundary-twice;
    one = unit q Γ 1 (residue 0 0);
    only-one = λ i. ap (λ j. unit q Γ 1 j) (alone i (residue 0 0));
    augment-one = terms-unit q Γ 1 F (λ i. residue q 1) (residue 0 0);
    minimal = pair-boundary;
  }

  pub comparison-claims : ComparisonClaims q Γ K S
  comparison-claims = record {
    vanishes = (minimal.comparison-map stages).vanish;
    chain_map = (minimal.comparison-map stages).commute;
  }

-- The lift of a class is a chain map.
use Rattle.std.proofs.Common.{◌≡◌, ℕ, zero, suc, ap, sym, ◌∙◌}
use mathlib.Core.Path.{fun_ext}
use Rattle.group_modules.specs.Module.{Module, lin, times}
use Rattle.group_modules.proofs.Laws.{map-lin, map-zero, map-times, times-mod}
use Rattle.group_modules.specs.Field.{Below, Fp, residue, plus}
use Rattle.linear_algebra.proofs.Residues.{times-one, residue-self}
use Rattle.group_modules.specs.Sums.{below, total}
use Rattle.group_modules.proofs.SumLaws.{total-zero}
use Rattle.group_modules.specs.Tables.{Group, monoid, Table, terms, unit, block-sum}
use Rattle.group_modules.proofs.TermLaws.{lin-terms}
use Rattle.group_modules.proofs.MapLaws.{augment-sum, terms-linear, terms-unit, total-times}
use Rattle.group_modules.specs.Resolutions.{rank}
use Rattle.linear_algebra.specs.Modular.{IsFieldModulo}
use Rattle.radical_layers.specs.Coordinates.{Coordinates}
use Rattle.resolution_stages.specs.Definitions.{StageRows, AreStages, InKernel, boundary}
use Rattle.resolution_stages.specs.Claims.{ResolutionClaims, row_table}
use Rattle.resolution_stages.proofs.FromDefinitions.{resolution-claims}
use Rattle.chain_maps.specs.Lifts.{ahead, free, Class, lift, row_terms}
use Rattle.chain_maps.specs.Claims.{lift_map, LiftClaims}

module _ {n : ℕ} (q : ℕ) (Γ : Group n) where
  abbrev F : Module (suc q) (monoid Γ)
  F = Fp q (monoid Γ)

  -- the linear extension of c at v, by the sums of the blocks of v
  pub pair-sums : (b : ℕ) (c : Below b → Below (suc q)) (v : (Table q Γ b).of)
      → lin F c (terms q Γ b v) ≡ total F (below b)
      (λ i. times (plus q) (residue q 0) (block-sum q Γ b v i).0 (c i))
  pair-sums b c v = lin-terms q Γ F b c v (below b)
      ∙ ap (total F (below b)) (fun_ext (λ i. total-times q Γ F (below n) (v i) (c i)))

  -- it is 0 where the sums are
  pub pair-zero : (b : ℕ) (c : Below b → Below (suc q)) (v : (Table q Γ b).of)
      → ((i : Below b) → block-sum q Γ b v i ≡ residue q 0)
      → lin F c (terms q Γ b v) ≡ residue q 0
  pair-zero b c v e = pair-sums b c v
      ∙ total-zero F (below b) (λ i. times (plus q) (residue q 0) (block-sum q Γ b v i).0 (c i))
      (λ i. ap (λ (s : Below (suc q)). times (plus q) (residue q 0) s.0 (c i)) (e i) ∙ times-mod F 0 (c i))

  -- the sum of a multiple of 1
  pub sum-multiple : (c : Below (suc q))
      → block-sum q Γ 1 (times (Table q Γ 1).add (Table q Γ 1).zero c.0 (unit q Γ 1 (residue 0 0)))
      (residue 0 0) ≡ c
  sum-multiple c = sym (augment-sum q Γ (times (Table q Γ 1).add (Table q Γ 1).zero c.0
      (unit q Γ 1 (residue 0 0))))
      ∙ map-times (Table q Γ 1) F (λ v. lin F (λ i. residue q 1) (terms q Γ 1 v))
      (terms-linear q Γ 1 F (λ i. residue q 1)).on-add c.0 (unit q Γ 1 (residue 0 0))
      ∙ ap (times (plus q) (residue q 0) c.0) (terms-unit q Γ 1 F (λ i. residue q 1) (residue 0 0))
      ∙ times-one q c.0 ∙ residue-self q c

  module _ (K : Coordinates q Γ) (S : StageRows) (R : ResolutionClaims q Γ K S) where
    abbrev r : ℕ → ℕ
    r d = rank q Γ S.ranks d

    abbrev P : ℕ → Module (suc q) (monoid Γ)
    P d = free q Γ K S d

    module _ (e : ℕ) (c : Class q Γ K S e) where
      abbrev L : (j : ℕ) → (P (ahead e j)).of → (P j).of
      L j = lift_map q Γ K S e c j

      abbrev value : (j : ℕ) → Below (r (ahead e j)) → (P j).of
      value j = lift q Γ K S e c j

      -- the sum of what the first map takes a boundary to
      first : (i : Below (r (suc e))) → block-sum q Γ 1 (L 0 (row_table q Γ K S e i))
          (residue 0 0) ≡ residue q 0
      first i = sym (augment-sum q Γ (L 0 (row_table q Γ K S e i)))
          ∙ map-lin (P 0) F (λ v. lin F (λ i. residue q 1) (terms q Γ 1 v))
          (terms-linear q Γ 1 F (λ i. residue q 1)) (value 0) (row_terms q Γ K S e i)
          ∙ pair-zero (r e) (λ k. lin F (λ i. residue q 1) (terms q Γ 1 (value 0 k))) (row_table q Γ K S e i)
          (R.minimal e i)

      pub in-kernel : (j : ℕ) (i : Below (r (suc (ahead e j))))
          → InKernel q Γ K S j (L j (row_table q Γ K S (ahead e j) i))
      in-kernel zero i = first i
      in-kernel (suc j) i =
          map-lin (P (suc j)) (P j) (boundary q Γ K S j)
          (terms-linear q Γ (r (suc j)) (P j) (row_table q Γ K S j)) (value (suc j))
          (row_terms q Γ K S (suc (ahead e j)) i)
          ∙ ap (λ u. lin (P j) u (row_terms q Γ K S (suc (ahead e j)) i))
          (fun_ext (λ k. R.exact j (L j (row_table q Γ K S (ahead e j) k)) (in-kernel j k)))
          ∙ sym (map-lin (P (ahead e j)) (P j) (L j) (terms-linear q Γ (r (ahead e j)) (P j) (value j))
          (row_table q Γ K S (ahead e j)) (row_terms q Γ K S (suc (ahead e j)) i))
          ∙ ap (L j) (R.complex (ahead e j) i)
          ∙ map-zero (P (ahead e j)) (P j) (L j) (terms-linear q Γ (r (ahead e j)) (P j) (value j)).on-add

      pub chain-map : (j : ℕ) (v : (P (suc (ahead e j))).of)
          → boundary q Γ K S j (L (suc j) v) ≡ L j (boundary q Γ K S (ahead e j) v)
      chain-map j v =
          map-lin (P (suc j)) (P j) (boundary q Γ K S j)
          (terms-linear q Γ (r (suc j)) (P j) (row_table q Γ K S j)) (value (suc j))
          (terms q Γ (r (suc (ahead e j))) v)
          ∙ ap (λ u. lin (P j) u (terms q Γ (r (suc (ahead e j))) v))
          (fun_ext (λ k. R.exact j (L j (row_table q Γ K S (ahead e j) k)) (in-kernel j k)))
          ∙ sym (map-lin (P (ahead e j)) (P j) (L j) (terms-linear q Γ (r (ahead e j)) (P j) (value j))
          (row_table q Γ K S (ahead e j)) (terms q Γ (r (suc (ahead e j))) v))

  pub lift-claims : (K : Coordinates q Γ) (S : StageRows) → IsFieldModulo (suc q) → AreStages q Γ K S
      → LiftClaims q Γ K S
  lift-claims K S F A = record {
    begins = λ e c i. sum-multiple (c i);
    in_kernel = in-kernel K S (resolution-claims q F Γ K S A);
    chain_map = chain-map K S (resolution-claims q F Γ K S A);
  }

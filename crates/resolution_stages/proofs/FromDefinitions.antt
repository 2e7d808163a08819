-- The laws of a resolution, from the definitions of the stages.
use Rattle.std.proofs.Common.{◌≡◌, ℕ, zero, suc, ◌*◌, ◌%◌, ◌<◌, ◌≤◌, ◌⊎◌, List, length, inl, inr, arith, ap}
use Rattle.std.proofs.Common.{ap₂, sym, ◌∙◌}
use Rattle.std.proofs.lemmas.Bool.{cases_eq}
use Rattle.std.proofs.Math.Nat.{zero-mod}
use mathlib.Core.Path.{subst, fun_ext}
use Rattle.group_modules.specs.Module.{Monoid, Module, lin, IsLinear}
use Rattle.group_modules.proofs.Laws.{map-zero, act-zero}
use Rattle.group_modules.specs.Field.{Below, residue, Fp}
use Rattle.linear_algebra.proofs.Residues.{below-path}
use Rattle.group_modules.specs.Tables.{Group, monoid, Table, terms, block-sum}
use Rattle.group_modules.specs.Resolutions.{Resolution, rank}
use Rattle.group_modules.proofs.MapLaws.{augment-sum, terms-linear}
use Rattle.augmentation_ideal.specs.Primes.{IsPrime}
use Rattle.augmentation_ideal.specs.Radical.{IsSubmodule}
use Rattle.augmentation_ideal.specs.Claims.{IsPrimePower}
use Rattle.augmentation_ideal.specs.Generators.{IsBasisModuloMoved, Generate}
use Rattle.augmentation_ideal.proofs.Generators.{kernel-minimal, generate, fewest}
use Rattle.augmentation_ideal.proofs.Laws.{finite-table}
use Rattle.linear_algebra.specs.Modular.{IsCongruent, IsFieldModulo}
use Rattle.linear_algebra.specs.Rows.{entry, row, pivot, IsInSpan}
use Rattle.linear_algebra.proofs.Congruences.{congruent_trans, congruent_eq, congruent_sym, no_zero_divisors}
use Rattle.linear_algebra.proofs.Pivots.{zero_at_pivots}
use Rattle.linear_algebra.proofs.EchelonLists.{HasPivots-from_echelon, Combines-from_combination}
use Rattle.radical_layers.specs.Coordinates.{Coordinates}
use Rattle.resolution_stages.specs.Definitions.{StageRows, images, boundary, InKernel, RowInKernel}
use Rattle.resolution_stages.specs.Definitions.{IsSectionAt, AreStages}
use Rattle.resolution_stages.specs.Claims.{ResolutionClaims, MinimalityClaims}
use Rattle.radical_layers.proofs.Bridge.{at, at-zero, same-table}
use Rattle.radical_layers.proofs.Basis.{basis}

pub prime-of-field : {p : ℕ} → IsFieldModulo p → IsPrime p
prime-of-field {p} F = record {
  above-one = F.above_one;
  no-zero-divisors = λ a b h. go a b h (cases_eq (a % p) 0);
}
  where
    go : (a b : ℕ) → (a * b) % p ≡ 0 → (a % p ≡ 0) ⊎ (a % p ≡ 0 → ⊥) → (a % p ≡ 0) ⊎ (b % p ≡ 0)
    go a b h (inl e) = inl e
    go a b h (inr e) = inr ((no_zero_divisors F a b
        (record { same_remainder = h ∙ sym (zero-mod p) }) e).same_remainder ∙ zero-mod p)

-- what a linear map takes to 0 is a submodule
pub kernel-submodule : {p : ℕ} {G : Monoid} (M N : Module p G) (f : M.of → N.of) → IsLinear M N f
    → IsSubmodule M (λ v. f v ≡ N.zero)
kernel-submodule M N f l = record {
  zero-in = map-zero M N f l.on-add;
  add-in = λ x y h k. l.on-add x y ∙ ap₂ N.add h k ∙ N.add-zero N.zero;
  act-in = λ g x h. l.on-act g x ∙ ap (N.act g) h ∙ act-zero N g;
}

alone : (i j : Below 1) → i ≡ j
alone i j = below-path i j (let a : i.0 < 1 = i.1 in let b : j.0 < 1 = j.1 in omega (arith, a, b))

module _ {n : ℕ} (q : ℕ) (F : IsFieldModulo (suc q)) (Γ : Group n) (K : Coordinates q Γ) (S : StageRows)
    (A : AreStages q Γ K S) where
  abbrev pub r : ℕ → ℕ
  r d = rank q Γ S.ranks d

  abbrev pub T : ℕ → Module (suc q) (monoid Γ)
  T d = Table q Γ (r d)

  -- row i of the boundary of degree d + 1
  abbrev pub rows : (d : ℕ) → Below (r (suc d)) → (T d).of
  rows d i = (K (r d)).table (row (images S d) i.0)

  pub kernel-is-submodule : (d : ℕ) → IsSubmodule (T d) (InKernel q Γ K S d)
  kernel-is-submodule zero = subst (λ f. IsSubmodule (T 0) (λ v. f v ≡ residue q 0))
      (fun_ext (λ v. augment-sum q Γ v))
      (kernel-submodule (T 0) (Fp q (monoid Γ))
      (λ v. lin (Fp q (monoid Γ)) (λ i. residue q 1) (terms q Γ 1 v))
      (terms-linear q Γ 1 (Fp q (monoid Γ)) (λ i. residue q 1)))
  kernel-is-submodule (suc d) = kernel-submodule (T (suc d)) (T d) (boundary q Γ K S d)
      (terms-linear q Γ (r (suc d)) (T d) (rows d))

  in-row : (d : ℕ) (v : (T d).of) → InKernel q Γ K S d v → RowInKernel q Γ K S d ((K (r d)).row v)
  in-row d v k = ((K (r d)).row-is v, subst (InKernel q Γ K S d) (sym ((K (r d)).table-row v)) k)

  spans : (d : ℕ) (v : (T d).of) → InKernel q Γ K S d v
      → IsInSpan (suc q) (S.kernel d) (at q Γ (n * r d) (T d) (K (r d)) v)
  spans d v k = (A.kernel_is d).spans ((K (r d)).row v) (in-row d v k)

  -- the rows are a basis of the kernel modulo the span of all (g - 1) v
  pub stage-basis : (d : ℕ) → IsBasisModuloMoved (T d) (InKernel q Γ K S d) (r (suc d)) (rows d)
  stage-basis d = basis q F Γ (n * r d) (T d) (K (r d)) (InKernel q Γ K S d) (S.kernel d)
      (A.kernel_is d).matrix (λ i l. ((A.kernel_is d).members i l).1)
      (spans d) (S.positions d) (A.rows_are d) (r (suc d)) (A.rank_is d)

  -- a table in the kernel with 0 at its pivots is 0
  pub zero-in-kernel : (d : ℕ) (v : (T d).of) → InKernel q Γ K S d v
      → ((i : ℕ) → i < length (S.kernel d)
      → IsCongruent (suc q) (at q Γ (n * r d) (T d) (K (r d)) v (pivot (row (S.kernel d) i))) 0)
      → v ≡ (T d).zero
  zero-in-kernel d v k z = same-table q Γ (n * r d) (T d) (K (r d)) v (T d).zero (λ j. congruent_trans
      (zero_at_pivots (suc q) (length (S.kernel d)) (spans d v k).0 (λ i j. entry (row (S.kernel d) i) j)
      (λ i. pivot (row (S.kernel d) i)) (at q Γ (n * r d) (T d) (K (r d)) v)
      (HasPivots-from_echelon (A.kernel_is d).echelon) (Combines-from_combination (spans d v k).1) z j)
      (congruent_sym (at-zero q Γ (n * r d) (T d) (K (r d)) j)))

  pub section-at : (d : ℕ) (v : (T d).of) → InKernel q Γ K S d v
      → IsSectionAt q Γ K S d ((K (r d)).row v) (S.section d ((K (r d)).row v))
  section-at d v k = A.section_is d ((K (r d)).row v) (in-row d v k)

  section-right : (d : ℕ) (v : (T d).of) → InKernel q Γ K S d v
      → boundary q Γ K S d ((K (r (suc d))).table (S.section d ((K (r d)).row v))) ≡ v
  section-right d v k = (section-at d v k).boundary_is ∙ (K (r d)).table-row v

  section-zero : (d : ℕ) → (K (r (suc d))).table (S.section d ((K (r d)).row (T d).zero)) ≡ (T (suc d)).zero
  section-zero d = zero-in-kernel (suc d) ((K (r (suc d))).table u)
      (section-right d (T d).zero (kernel-is-submodule d).zero-in)
      (λ i l. congruent_eq (ap (λ x. entry x (pivot (row (S.kernel (suc d)) i)))
      ((K (r (suc d))).row-table u s.is_row) ∙ s.zero_at_pivots i l))
    where
      u : List ℕ
      u = S.section d ((K (r d)).row (T d).zero)

      s : IsSectionAt q Γ K S d ((K (r d)).row (T d).zero) u
      s = section-at d (T d).zero (kernel-is-submodule d).zero-in

  minimal : (d : ℕ) (i : Below (r (suc d))) (j : Below (r d)) → block-sum q Γ (r d) (rows d i) j ≡ residue q 0
  minimal zero i j = ap (block-sum q Γ 1 (rows 0 i)) (alone j (residue 0 0)) ∙ (stage-basis 0).members i
  minimal (suc d) i j = kernel-minimal q Γ (T d) (InKernel q Γ K S d) (r (suc d)) (rows d) (stage-basis d)
      (rows (suc d) i) ((stage-basis (suc d)).members i) j

  -- the stages are a resolution
  pub resolution : Resolution q Γ
  resolution = record {
    ranks = S.ranks;
    row = rows;
    section = λ d v. (K (r (suc d))).table (S.section d ((K (r d)).row v));
    section-nil = section-zero;
    minimal = minimal;
    complex = λ d i. (stage-basis (suc d)).members i;
    exact-zero = λ v e. section-right 0 v e;
    exact-suc = λ d v e. section-right (suc d) v e;
  }

  pub resolution-claims : ResolutionClaims q Γ K S
  resolution-claims = record {
    section_zero = section-zero;
    minimal = minimal;
    complex = λ d i. (stage-basis (suc d)).members i;
    exact = section-right;
  }

  module _ (P : IsPrimePower q n) where
    -- each member of K_d is a boundary
    pub onto : (d : ℕ) → Generate q Γ (T d) (InKernel q Γ K S d) (r (suc d)) (rows d)
    onto d = generate q Γ (T d) (InKernel q Γ K S d) (r (suc d)) (rows d)
        (stage-basis d) P.exponent P.prime P.power (finite-table q Γ (r d))

    -- no fewer vectors than the rank generate K_d
    pub fewest-rows : (d l : ℕ) (s : Below l → (T d).of) → ((i : Below l) → InKernel q Γ K S d (s i))
        → Generate q Γ (T d) (InKernel q Γ K S d) l s → r (suc d) ≤ l
    fewest-rows d = fewest q Γ (T d) (InKernel q Γ K S d) (r (suc d)) (rows d)
        (stage-basis d) P.prime.above-one (kernel-is-submodule d)

    pub minimality-claims : MinimalityClaims q Γ K S
    minimality-claims = record { generate = onto; fewest = fewest-rows }

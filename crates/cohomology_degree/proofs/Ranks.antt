-- A rank from degree 1 on, doubled, is at most the dimension of its stage: the trivial group has rank 0
-- there.
use Rattle.std.proofs.Common.{◌≡◌, ℕ, zero, suc, ◌*◌, ◌^◌, ◌<◌, ◌≤◌, ◌⊎◌, inl, inr, arith, ap, sym, ◌∙◌}
use Rattle.std.proofs.Math.Nat.{mul-le-mul_right}
use Rattle.std.proofs.Math.Path.{fun_ext}
use Rattle.std.proofs.lemmas.Bool.{cases_lt}
use mathlib.Core.Path.{subst}
use native.Mathlib.Nat.{lt-suc_self}
use Rattle.group_modules.specs.Field.{Below, Fp, residue}
use Rattle.group_modules.specs.Sums.{below, total}
use Rattle.group_modules.specs.Tables.{Group, monoid}
use Rattle.graded_algebra.proofs.VectorLemmas.{below-path}
use Rattle.p_groups.specs.PGroups.{PGroup, largest_residue, group, order_of}
use Rattle.min_res.specs.Defined.{free, K}
use Rattle.min_res.specs.Stages.{rank_of}
use Rattle.min_res.proofs.StageLaws.{exact-minimal}

-- the coefficient of a member of the trivial group's algebra is its sum
single-sum : (q n : ℕ) → 1 ≡ n → (Γ : Group n) (f : Below n → Below (suc q))
    → total (Fp q (monoid Γ)) (below n) f ≡ residue q 0
    → (g : Below n) → residue q 0 ≡ f g
single-sum q n e = subst (λ n. (Γ : Group n) (f : Below n → Below (suc q))
    → total (Fp q (monoid Γ)) (below n) f ≡ residue q 0
    → (g : Below n) → residue q 0 ≡ f g) e one
  where
    one : (Γ : Group 1) (f : Below 1 → Below (suc q)) → total (Fp q (monoid Γ)) (below 1) f ≡ residue q 0
        → (g : Below 1) → residue q 0 ≡ f g
    one Γ f h g = sym h ∙ (Fp q (monoid Γ)).add-zero (f (0, lt-suc_self 0))
        ∙ ap f (below-path (0, lt-suc_self 0) g (omega (arith, g.1)))

module _ (G : PGroup) where
  -- where K_d is 0, no generators are needed
  no-generators : (d : ℕ) → ((v : (free G d).of) → K G d v → (free G d).zero ≡ v) → rank_of G (suc d) ≡ 0
  no-generators d h =
      let l = (exact-minimal G d).fewest 0 (λ i. absurd (omega (arith, i.1)))
      (λ i. absurd (omega (arith, i.1)))
      (λ v k. ((λ i. absurd (omega (arith, i.1))), h v k)) in
      omega (arith, l)

  trivial-rank : order_of G ≡ 1 → (d : ℕ) → rank_of G (suc d) ≡ 0
  trivial-rank e zero = no-generators 0 (λ v k. fun_ext (λ i. fun_ext (λ g. alone v k i g)))
    where
      alone : (v : (free G 0).of) → K G 0 v → (i : Below 1) (g : Below (order_of G))
          → residue (largest_residue G) 0 ≡ v i g
      alone v k i g = single-sum (largest_residue G) (order_of G) (sym e) (group G) (v (residue 0 0)) k g
          ∙ ap (λ j. v j g) (below-path (residue 0 0) i (omega (arith, i.1)))
  trivial-rank e (suc d) = no-generators (suc d)
      (λ v k. fun_ext (λ i. absurd (let r = trivial-rank e d in omega (arith, i.1, r))))

  pub rank-doubled : (d : ℕ) → 2 * rank_of G (suc d) ≤ order_of G * rank_of G (suc d)
  rank-doubled d = go (cases_lt (order_of G) 2)
    where
      go : (order_of G < 2) ⊎ (2 ≤ order_of G) → 2 * rank_of G (suc d) ≤ order_of G * rank_of G (suc d)
      go (inl l) = let b = (group G).one.1 in let r = trivial-rank (omega (arith, l, b)) d in rw r
          (omega arith)
      go (inr l) = mul-le-mul_right (rank_of G (suc d)) l

  pub rank-few : (d : ℕ) → 1 ≤ d → order_of G * rank_of G d ≤ 2 ^ 28 → rank_of G d ≤ 2 ^ 27
  rank-few zero l h = absurd (omega arith)
  rank-few (suc d) l h = let k = rank-doubled d in omega (arith, k, h)

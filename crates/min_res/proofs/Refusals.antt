-- The degrees whose dimensions are within a limit.
use Rattle.std.proofs.Common.{◌≡◌, ℕ, suc, ◌*◌, ◌<◌, ◌≤◌, ◌⊎◌, inl, inr, arith}
use Rattle.std.proofs.lemmas.Bool.{cases_lt}
use mathlib.Core.Path.{subst}
use Rattle.p_groups.specs.PGroups.{PGroup, order_of}
use Rattle.min_res.specs.Stages.{rank_of}
use Rattle.min_res.specs.Refusals.{AreWithin, IsRefusal}
use Rattle.min_res.specs.declared.fault.ResFault.{ResFault}

pub within-none : (G : PGroup) (from limit : ℕ) → AreWithin G from from limit
within-none G from limit d l m = absurd (omega (arith, l, m))

-- one degree more, of a resolution of the same group
pub within-more : (G H : PGroup) (from to next limit : ℕ) → H ≡ G → next ≡ suc to → AreWithin G from to limit
    → order_of H * rank_of H (suc to) ≤ limit → AreWithin G from next limit
within-more G H from to next limit e n w top d l m = go (cases_lt d next)
  where
    go : (d < next) ⊎ (next ≤ d) → order_of G * rank_of G d ≤ limit
    go (inl k) = w d l (omega (arith, k, n))
    go (inr k) = subst (λ c. order_of G * rank_of G c ≤ limit)
        (let z : suc to ≡ d = omega (arith, k, m, n) in z)
        (subst (λ K. order_of K * rank_of K (suc to) ≤ limit) e top)

-- a refusal, of a resolution of the same group
pub refused-at : (G H : PGroup) (d limit : ℕ) (f : ResFault) → H ≡ G → IsRefusal H d limit f
    → IsRefusal G d limit f
refused-at G H d limit f e r = subst (λ K. IsRefusal K d limit f) e r

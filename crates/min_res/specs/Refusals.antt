-- When a resolution is not extended.
use Rattle.std.specs.Prelude.{◌≡◌, ℕ, ◌*◌, ◌<◌, ◌≤◌}
use Rattle.p_groups.specs.PGroups.{PGroup, order_of}
use Rattle.min_res.specs.Stages.{rank_of}
use Rattle.min_res.specs.declared.fault.ResFault.{ResFault}
use Rattle.min_res.specs.declared.fault.ResFault.TheVariants.{TooLarge, Memory}

-- the fault names the degree and the dimension of its free module, which is above the limit; or memory was
-- wanting
abbrev pub IsRefusal : PGroup → ℕ → ℕ → ResFault → Type 0
IsRefusal G d limit (TooLarge degree dimension) =
    (degree ≡ d) × (dimension ≡ order_of G * rank_of G d) × (limit < dimension)
IsRefusal G d limit Memory = Unit {0}

-- the dimensions of the free modules of the degrees after `from` to `to` are at most the limit
abbrev pub AreWithin : PGroup → (from to limit : ℕ) → Type 0
AreWithin G from to limit = (d : ℕ) → from < d → d ≤ to → order_of G * rank_of G d ≤ limit

-- The stages through a degree fit, or there is a first one that does not.
use Rattle.std.proofs.Common.{◌≡◌, ◌⊎◌, inl, inr, ℕ, zero, suc, ◌<◌, ◌≤◌, refl, subst, arith}
use Rattle.std.proofs.lemmas.Bool.{cases_lt}
use Rattle.stage_walk.specs.Dimensions.{dimension, Fit, IsFirstAbove}
use Rattle.p_groups.specs.PGroups.{PGroup}
use Rattle.limits.specs.declared.TheConstants.{GREATEST_DIMENSION}

-- the first number from 1 to n at which f is above the cap, where there is one
pub record IsFirst (f : ℕ → ℕ) (cap n d : ℕ) : Type 0 where
  pub from : 1 ≤ d
  pub to : d ≤ n
  pub above : cap < f d
  pub first : (c : ℕ) → 1 ≤ c → c < d → f c ≤ cap

abbrev pub AllWithin : (ℕ → ℕ) → ℕ → ℕ → Type 0
AllWithin f cap n = (d : ℕ) → 1 ≤ d → d ≤ n → f d ≤ cap

one_more : (f : ℕ → ℕ) (cap n : ℕ) → AllWithin f cap n → f (suc n) ≤ cap → AllWithin f cap (suc n)
one_more f cap n all within d from to = at (cases_lt n d)
  where
    at : (n < d) ⊎ (d ≤ n) → f d ≤ cap
    at (inl top) = let e : suc n ≡ d = omega (arith, top, to) in subst (λ d. f d ≤ cap) e within
    at (inr low) = all d from low

pub all_or_first : (f : ℕ → ℕ) (cap n : ℕ) → AllWithin f cap n ⊎ ((d : ℕ) × IsFirst f cap n d)
all_or_first f cap zero = inl (λ d from to. absurd (omega (arith, from, to)))
all_or_first f cap (suc n) = go (all_or_first f cap n) (cases_lt cap (f (suc n)))
  where
    go : AllWithin f cap n ⊎ ((d : ℕ) × IsFirst f cap n d) → (cap < f (suc n)) ⊎ (f (suc n) ≤ cap)
        → AllWithin f cap (suc n) ⊎ ((d : ℕ) × IsFirst f cap (suc n) d)
    go (inl all) (inl above) = inr (
      suc n,
      record {
        from = omega arith;
        to = omega arith;
        above = above;
        first = λ c from less. all c from (omega (arith, less));
      },
    )
    go (inl all) (inr within) = inl (one_more f cap n all within)
    go (inr one) c = inr (
      one.0,
      record {
        from = one.1.from;
        to = (let l = one.1.to in omega (arith, l));
        above = one.1.above;
        first = one.1.first;
      },
    )

module _ (G : PGroup) where
  pub fit_or_first : (n : ℕ) → Fit G n ⊎ ((d : ℕ) × IsFirstAbove G n d (dimension G d))
  fit_or_first n = go (all_or_first (dimension G) GREATEST_DIMENSION n)
    where
      go : AllWithin (dimension G) GREATEST_DIMENSION n
          ⊎ ((d : ℕ) × IsFirst (dimension G) GREATEST_DIMENSION n d) → Fit G n
          ⊎ ((d : ℕ) × IsFirstAbove G n d (dimension G d))
      go (inl all) = inl all
      go (inr one) = inr (
        one.0,
        record {
          from = one.1.from;
          to = one.1.to;
          is = refl;
          above = one.1.above;
          first = one.1.first;
        },
      )

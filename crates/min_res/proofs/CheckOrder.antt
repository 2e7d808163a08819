-- The order of the checks.
use Rattle.std.proofs.Common.{◌≡◌, ℕ, ◌+◌, ◌<◌, ◌==◌, refl, ap, sym, ◌∙◌, arith, inl, inr}
use Rattle.std.specs.Prelude.{if◌then◌else◌}
use Rattle.std.proofs.lemmas.Bool.{cases_lt}
use mathlib.Core.Path.{subst}
use Rattle.min_res.specs.declared.check.Check.{Check}
use Rattle.min_res.specs.declared.check.Check.TheVariants as check
use Rattle.min_res.specs.RecordChecks.{number_of}

-- the check with a number
check_at : ℕ → Check
check_at n =
    if n == 1 then check.ReducedKernel
    else (if n == 2 then check.KernelToZero
    else (if n == 3 then check.SectionsToRows
    else (if n == 4 then check.ZeroAtPivots
    else (if n == 5 then check.MinimalKernel else check.LaterPositions))))

own-number : (c : Check) → check_at (number_of c) ≡ c
unfolding check_at
own-number check.ReducedKernel = refl
own-number check.KernelToZero = refl
own-number check.SectionsToRows = refl
own-number check.ZeroAtPivots = refl
own-number check.MinimalKernel = refl
own-number check.LaterPositions = refl

one-number : (b c : Check) → number_of b ≡ number_of c → b ≡ c
one-number b c e = sym (own-number b) ∙ ap check_at e ∙ own-number c

-- none comes before the first, and each before the seventh
pub none-before : (P : Check → Type 0) (c : Check) → number_of c < 1 → P c
none-before P check.ReducedKernel l = absurd (omega (arith, l))
none-before P check.KernelToZero l = absurd (omega (arith, l))
none-before P check.SectionsToRows l = absurd (omega (arith, l))
none-before P check.ZeroAtPivots l = absurd (omega (arith, l))
none-before P check.MinimalKernel l = absurd (omega (arith, l))
none-before P check.LaterPositions l = absurd (omega (arith, l))

pub all-below : (c : Check) → number_of c < 7
all-below check.ReducedKernel = omega arith
all-below check.KernelToZero = omega arith
all-below check.SectionsToRows = omega arith
all-below check.ZeroAtPivots = omega arith
all-below check.MinimalKernel = omega arith
all-below check.LaterPositions = omega arith

-- one more
pub one-more : (P : Check → Type 0) (c : Check) → ((b : Check) → number_of b < number_of c → P b) → P c
    → (b : Check) → number_of b < number_of c + 1 → P b
one-more P c before here b l = elim (cases_lt (number_of b) (number_of c)) [
  | inl m ↦ before b m
  | inr m ↦ subst P (one-number c b (let e : number_of c ≡ number_of b = omega (arith, l, m) in e)) here
]

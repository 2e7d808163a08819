-- Statuses of no fault, and that of want of memory.
use Rattle.std.proofs.Common.{◌≡◌, ◌≢◌, ◌⊎◌, refl, subst, inl, inr}
use Rattle.coho_steps.specs.declared.status.Status.{Status}
use Rattle.coho_steps.specs.declared.cause.Cause.{Cause}
use Rattle.coho_run.specs.Run.{IsSettled}
use Rattle.coho_steps.specs.Stops.{refusal_of}
use Rattle.coho_steps.specs.declared.status.Status.TheVariants as status
use Rattle.coho_steps.specs.declared.cause.Cause.TheVariants as cause

pub not_memory : (s : Status) → IsSettled s → s ≢ status.Memory
not_memory s h e = subst IsSettled e h

pub is_memory : (s : Status) → (s ≡ status.Memory) ⊎ (s ≢ status.Memory)
is_memory status.Answered = inr (λ e. cc)
is_memory status.Text = inr (λ e. cc)
is_memory status.Usage = inr (λ e. cc)
is_memory status.Inconsistent = inr (λ e. cc)
is_memory status.Limit = inr (λ e. cc)
is_memory status.Read = inr (λ e. cc)
is_memory status.Write = inr (λ e. cc)
is_memory status.Stage = inr (λ e. cc)
is_memory status.Memory = inl refl

-- the status of a refusal is that of no fault
pub no_fault : (why : Cause) → IsSettled (refusal_of why).status
no_fault cause.Words = tt
no_fault cause.Length = tt
no_fault (cause.Text kind line column) = tt
no_fault cause.Order = tt
no_fault (cause.Inconsistent name) = tt
no_fault (cause.StageFile part) = tt
no_fault (cause.Stage d X) = tt
no_fault (cause.Element E n) = tt
no_fault (cause.Class d b) = tt
no_fault (cause.SubgroupStage i d X) = tt

-- the answer is this status, or that of want of memory
abbrev pub IsOrMemory : Status → Status → Type 0
IsOrMemory s answer = (answer ≡ s) ⊎ (answer ≡ status.Memory)

-- Calls that read one stage file and save another, one after another.
use Rattle.std.proofs.Common.{◌≡◌, ◌∙◌, ℕ, List, refl, ap, arith, ◌≤◌}
use Rattle.std.specs.declared.option.Option.{Option}
use Rattle.std.specs.declared.option.Option.TheVariants.{Some}
use Rattle.std.specs.declared.result.Result.{Result}
use Rattle.std.specs.declared.result.Result.TheVariants.{Ok, Err}
use Rattle.std.specs.Result.{IfErr}
use Rattle.coho_io.specs.Causes.{NoneFell, Rose}
use Rattle.coho_io.specs.Content.{Content}
use Rattle.coho_steps.specs.declared.stop.Stop.{Stop}
use Rattle.coho_steps.specs.Told.{WhereTold, FromAny}
use Rattle.stage_answers.specs.Works.{Works}
use Rattle.coho_steps.specs.Steps.{Step, ◌>>=◌}
use Rattle.coho_steps.specs.Stops.{HasCause, HasReadCause, KeepsAtRead, Meets, Settles}
use Rattle.coho_steps.proofs.Chain.{after_ok, at_stop, settled_meets}
use Rattle.coho_steps.specs.declared.stop.Stop.TheVariants as stop

abbrev pub Counts : Type 0
Counts = List ℕ → ℕ

-- ---- a call that reads and writes nothing

module _ {T A : Type 0} (view : T → A) (step : Step A) (Reads Saves : List ℕ → Type 0)
    (reads reads_now writes writes_now : Counts) where
  stop_cause : (s : Stop) → Settles view step (Err s)
      → HasCause Reads Saves reads reads_now writes writes_now s
  stop_cause (stop.Refused why) h = tt
  stop_cause (stop.Read path) h = absurd h
  stop_cause stop.Write h = absurd h
  stop_cause (stop.Save path) h = absurd h
  stop_cause stop.Memory h = tt

  pub has_cause : (r : Result T Stop) → Settles view step r
      → IfErr r (HasCause Reads Saves reads reads_now writes writes_now)
  has_cause (Ok x) h = tt
  has_cause (Err s) h = stop_cause s h

module _ {T A : Type 0} (view : T → A) (step : Step A) (known now : Option Content) where
  stop_kept : (s : Stop) → Settles view step (Err s) → KeepsAtRead known now s
  stop_kept (stop.Refused why) h = tt
  stop_kept (stop.Read path) h = absurd h
  stop_kept stop.Write h = tt
  stop_kept (stop.Save path) h = tt
  stop_kept stop.Memory h = tt

  pub is_kept : (r : Result T Stop) → Settles view step r → IfErr r (KeepsAtRead known now)
  is_kept (Ok x) h = tt
  is_kept (Err s) h = stop_kept s h

-- where the files stay, they stay at a read that failed
pub same_kept : (known now : Option Content) → now ≡ known → (s : Stop) → KeepsAtRead known now s
same_kept known now same (stop.Refused why) = tt
same_kept known now same (stop.Read path) = same
same_kept known now same stop.Write = tt
same_kept known now same (stop.Save path) = tt
same_kept known now same stop.Memory = tt

-- a call that only reads stopped so
pub read_cause : (Reads Others Saves : List ℕ → Type 0) → ((path : List ℕ) → Reads path → Others path)
    → (reads reads_now writes writes_now : Counts) (s : Stop) → HasReadCause Reads reads reads_now s
    → HasCause Others Saves reads reads_now writes writes_now s
read_cause Reads Others Saves f reads reads_now writes writes_now (stop.Refused why) h = tt
read_cause Reads Others Saves f reads reads_now writes writes_now (stop.Read path) h = (f path.now h.0, h.1)
read_cause Reads Others Saves f reads reads_now writes writes_now stop.Write h = absurd h
read_cause Reads Others Saves f reads reads_now writes writes_now (stop.Save path) h = absurd h
read_cause Reads Others Saves f reads reads_now writes writes_now stop.Memory h = tt

rose_since : (before mid now : ℕ) → before ≤ mid → Rose mid now → Rose before now
rose_since before mid now l h = omega (arith, l, h)

-- the same causes of paths of other kinds, from earlier counts on
pub cause_map : (Reads Others Saves More : List ℕ → Type 0) → ((path : List ℕ) → Reads path → Others path)
    → ((path : List ℕ) → Saves path → More path) → (reads mid reads_now writes writes_mid writes_now : Counts)
    → NoneFell reads mid → NoneFell writes writes_mid
    → (s : Stop) → HasCause Reads Saves mid reads_now writes_mid writes_now s
    → HasCause Others More reads reads_now writes writes_now s
cause_map Reads Others Saves More f g reads mid reads_now writes writes_mid writes_now l m
    (stop.Refused why) h = tt
cause_map Reads Others Saves More f g reads mid reads_now writes writes_mid writes_now l m
    (stop.Read path) h =
    (f path.now h.0, rose_since (reads path.now) (mid path.now) (reads_now path.now) (l path.now) h.1)
cause_map Reads Others Saves More f g reads mid reads_now writes writes_mid writes_now l m stop.Write h =
    absurd h
cause_map Reads Others Saves More f g reads mid reads_now writes writes_mid writes_now l m
    (stop.Save path) h = (
      g path.now h.0,
      rose_since (writes path.now) (writes_mid path.now) (writes_now path.now)
          (m path.now) h.1,
    )
cause_map Reads Others Saves More f g reads mid reads_now writes writes_mid writes_now l m stop.Memory h = tt

from_any : (named : Option (List ℕ)) (known now : Option Content) (P Q : Content → Content → Type 0)
    → ((files left : Content) → P files left → Q files left) → FromAny named known now P
    → FromAny named known now Q
from_any named known now P Q f h seen agrees =
    let r = h seen agrees in (r.0, r.1, r.2, r.3, (r.4.0, f r.0 r.1 r.4.1))

module _ {T A : Type 0} (view : T → A) (step : Step A) (from save : Option (List ℕ))
    (MayLeave : Content → Content → Type 0) (Saves : Content → Type 0) (known : Option Content)
    (reads writes : Counts) where
  -- a call that reads and writes nothing
  pub settled_works : ((files : Content) → MayLeave files files) → (r : Result T Stop) → Settles view step r
      → Works view step from save MayLeave Saves known known reads reads writes writes r
  settled_works leaves r h = record {
    ends = λ seen agrees. (
      seen,
      seen,
      agrees,
      (λ told e. e ∙ ap (λ (c : Content). Some c) (agrees told e)),
      ((λ path other. refl), settled_meets view step seen r h),
    );
    cause = has_cause view step (λ path. from ≡ Some path)
        (λ path. (save ≡ Some path) × WhereTold known Saves) reads reads writes writes r h;
    left = λ told e. (told, e, leaves told);
    kept = is_kept view step known known r h;
  }

module _ {T U A B : Type 0} (seen : T → A) (view : U → B) (first : Step A) (next : A → Step B)
    (from save : Option (List ℕ)) (MayLeave : Content → Content → Type 0) (Saves : Content → Type 0)
    (known now : Option Content) (reads reads_now writes writes_now : Counts) where
  abbrev First : Result T Stop → Type 0
  First r = Works seen first from save MayLeave Saves known now reads reads_now writes writes_now r

  abbrev Both : Result U Stop → Type 0
  Both r = Works view (first >>= next) from save MayLeave Saves known now reads reads_now writes writes_now r

  -- such a call ended well, and then one that reads and writes nothing
  pub works_then : (x : T) (r : Result U Stop) → First (Ok x) → Settles view (next (seen x)) r → Both r
  works_then x r h k = record {
    ends = from_any from known now (λ files left. Meets seen first files left (Ok x))
        (λ files left. Meets view (first >>= next) files left r)
        (λ files left m. after_ok seen view first next files left left x r m
        (settled_meets view (next (seen x)) left r k)) h.ends;
    cause = has_cause view (next (seen x)) (λ path. from ≡ Some path)
        (λ path. (save ≡ Some path) × WhereTold known Saves)
        reads reads_now writes writes_now r k;
    left = h.left;
    kept = is_kept view (next (seen x)) known now r k;
  }

  -- such a call stopped
  pub works_stop : (s : Stop) → First (Err s) → Both (Err s)
  works_stop s h = record {
    ends = from_any from known now (λ files left. Meets seen first files left (Err s))
        (λ files left. Meets view (first >>= next) files left (Err s))
        (λ files left m. at_stop seen view first next files left s m) h.ends;
    cause = h.cause;
    left = h.left;
    kept = h.kept;
  }

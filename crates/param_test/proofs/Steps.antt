-- Ascending lists of candidates and their total degrees.
use Rattle.std.proofs.Common.{◌≡◌, ℕ, zero, suc, ◌+◌, ◌-◌, ◌<◌, ◌≤◌, ◌⊎◌, inl, inr, List, [], ◌∷◌, ◌++◌}
use Rattle.std.proofs.Common.{length, ap, sym, ◌∙◌, subst, arith, append_assoc, length-append}
use Rattle.std.specs.Prelude.{slice_index, All}
use Rattle.std.proofs.lemmas.Bool.{cases_lt}
use Rattle.std.proofs.lemmas.List.Sums.{sum_by-cons}
use Rattle.param_test.specs.Firsts.{IsLess}
use Rattle.param_test.specs.Tuples.{Ascends, IsTuple, total, AreByDegree}
use Rattle.param_test.specs.Walks.{least, Fits, IsPast}
use Rattle.param_test.proofs.Places.{less-longer, less-after, less-split, less-none}

pub ascends-more : (low n m : ℕ) (t : List ℕ) → n ≤ m → Ascends low n t → Ascends low m t
ascends-more low n m [] h a = tt
ascends-more low n m (x ∷ t) h a = (a.0, omega arith, ascends-more (suc x) n m t h a.2)

pub ascends-snoc : (low n : ℕ) (pre : List ℕ) (x : ℕ) → low ≤ x → x < n → Ascends low x pre
    → Ascends low n (pre ++ x ∷ [])
ascends-snoc low n [] x h k a = (h, k, tt)
ascends-snoc low n (z ∷ pre) x h k a = (a.0, omega arith, ascends-snoc (suc z) n pre x (omega arith) k a.2)

pub ascends-front : (low n : ℕ) (pre : List ℕ) (x : ℕ) → Ascends low n (pre ++ x ∷ [])
    → (low ≤ x) × (x < n) × Ascends low x pre
ascends-front low n [] x a = (a.0, a.1, tt)
ascends-front low n (z ∷ pre) x a = let r : (suc z ≤ x) × (x < n) × Ascends (suc z) x pre =
    ascends-front (suc z) n pre x a.2 in (omega arith, r.1, (a.0, omega arith, r.2))

pub ascends-after : (low n : ℕ) (pre : List ℕ) (x : ℕ) (w : List ℕ) → Ascends low n (pre ++ x ∷ w)
    → Ascends (suc x) n w
ascends-after low n [] x w a = a.2
ascends-after low n (z ∷ pre) x w a = ascends-after (suc z) n pre x w a.2

-- where all of pre are below next, and what follows begins at next or later
pub ascends-from : (low n next : ℕ) (pre : List ℕ) (c : ℕ) (w : List ℕ) → next ≤ c
    → Ascends low n (pre ++ c ∷ w) → Ascends next n (c ∷ w)
ascends-from low n next [] c w h a = (h, a.1, a.2)
ascends-from low n next (z ∷ pre) c w h a = ascends-from (suc z) n next pre c w h a.2

pub room-le : (n low : ℕ) (w : List ℕ) → low ≤ n → Ascends low n w → low + length w ≤ n
room-le n low [] h a = omega arith
room-le n low (x ∷ w) h a = let r : suc x + length w ≤ n = room-le n (suc x) w (omega arith) a.2 in
    omega arith

pub total-cons : (ds : List ℕ) (x : ℕ) (a : List ℕ) → total ds (x ∷ a) ≡ slice_index ds x + total ds a
total-cons ds x a = sum_by-cons (λ k. slice_index ds k) x a

pub total-append : (ds a b : List ℕ) → total ds (a ++ b) ≡ total ds a + total ds b
total-append ds [] b = omega arith
total-append ds (x ∷ a) b = let e : total ds (a ++ b) ≡ total ds a + total ds b = total-append ds a b in
    omega (arith, total-cons ds x (a ++ b), total-cons ds x a)

pub least-le : (ds : List ℕ) → AreByDegree ds → (w : List ℕ) (low high : ℕ) → low ≤ high
    → Ascends high (length ds) w → least ds (length w) low ≤ total ds w
least-le ds d [] low high h a = omega arith
least-le ds d (x ∷ w) low high h a =
    let i : slice_index ds low ≤ slice_index ds x = d low x (omega arith) a.1 in
    let r : least ds (length w) (suc low) ≤ total ds w =
    least-le ds d w (suc low) (suc x) (omega arith) a.2 in
    omega (arith, total-cons ds x w)

-- a tuple that goes on from pre at next or later
pub tuple-fits : (ds : List ℕ) → AreByDegree ds → (r sum next : ℕ) (pre : List ℕ) (c : ℕ) (w : List ℕ)
    → IsTuple (length ds) r (pre ++ c ∷ w) → total ds (pre ++ c ∷ w) ≡ sum → next ≤ c → Fits ds r sum pre next
tuple-fits ds d r sum next pre c w t e h =
    let a : Ascends next (length ds) (c ∷ w) = ascends-from 0 (length ds) next pre c w h t.ascends in
    let l : length pre + suc (length w) ≡ r = sym (length-append pre (c ∷ w)) ∙ t.length_is in
    let k : r - length pre ≡ suc (length w) = omega arith in
    let b : next + suc (length w) ≤ length ds = room-le (length ds) next (c ∷ w) (omega (arith, a.1)) a in
    let g : least ds (suc (length w)) next ≤ total ds (c ∷ w) =
    least-le ds d (c ∷ w) next next (omega arith) a in
    let s : total ds (pre ++ c ∷ w) ≡ total ds pre + total ds (c ∷ w) = total-append ds pre (c ∷ w) in
    let f : least ds (r - length pre) next ≡ least ds (suc (length w)) next = ap (λ z. least ds z next) k in
    record { room = omega arith; light = omega arith }

-- y goes on from pre, and no tuple does so at next or later
pub less-unless : (ds : List ℕ) → AreByDegree ds → (r sum next : ℕ) (pre v : List ℕ) → length pre < r
    → (Fits ds r sum pre next → ⊥)
    → IsTuple (length ds) r (pre ++ v) → total ds (pre ++ v) ≡ sum → IsLess (pre ++ v) (pre ++ next ∷ [])
less-unless ds d r sum next pre [] h f t e =
    absurd (let l : length pre + 0 ≡ r = sym (length-append pre []) ∙ t.length_is in omega arith)
less-unless ds d r sum next pre (c ∷ w) h f t e =
    elim (cases_lt c next) as (λ _. IsLess (pre ++ c ∷ w) (pre ++ next ∷ [])) [
      | inl k ↦ less-after pre (c ∷ w) (next ∷ []) (inl k)
      | inr k ↦
          absurd (f (tuple-fits ds d r sum next pre c w t e k))
    ]

module _ (ds : List ℕ) (d : AreByDegree ds) (r sum : ℕ) where
  abbrev pub In : List ℕ → Type 0
  In y = IsTuple (length ds) r y

  -- one more place
  pub push-back : (next : ℕ) (pre y : List ℕ) → In y → IsPast ds sum ((pre ++ next ∷ []) ++ (next + 1) ∷ []) y
      → IsPast ds sum (pre ++ next ∷ []) y
  push-back next pre y t (inl h) = inl h
  push-back next pre y t (inr h) =
      elim (less-split y (pre ++ next ∷ []) ((next + 1) ∷ []) h.1) as
      (λ _. IsPast ds sum (pre ++ next ∷ []) y)
      [ inl k ↦ inr (h.0, k) | inr k ↦ absurd (no k.0 k.1 k.2) ]
    where
      no : (v : List ℕ) → y ≡ (pre ++ next ∷ []) ++ v → IsLess v ((next + 1) ∷ []) → ⊥
      no [] e l = l
      no (b ∷ v) e (inr l) = less-none v l.1
      no (b ∷ v) e (inl l) =
          let g : y ≡ pre ++ next ∷ (b ∷ v) = e ∙ append_assoc pre (next ∷ []) (b ∷ v) in
          let a : Ascends (suc next) (length ds) (b ∷ v) =
          ascends-after 0 (length ds) pre next (b ∷ v)
          (subst (λ z. Ascends 0 (length ds) z) g t.ascends) in
          omega (arith, a.0)

  -- one candidate later at the last place
  pub visit-back : (next : ℕ) (pre y : List ℕ) → length pre + 1 ≡ r → In y
      → IsPast ds sum (pre ++ (next + 1) ∷ []) y → IsPast ds sum (pre ++ next ∷ []) y ⊎ (y ≡ pre ++ next ∷ [])
  visit-back next pre y n t (inl h) = inl (inl h)
  visit-back next pre y n t (inr h) =
      elim (less-split y pre ((next + 1) ∷ []) h.1) as
      (λ _. IsPast ds sum (pre ++ next ∷ []) y ⊎ (y ≡ pre ++ next ∷ []))
      [ inl k ↦ inl (inr (h.0, less-longer y pre (next ∷ []) k)) | inr k ↦ go k.0 k.1 k.2 ]
    where
      go : (v : List ℕ) → y ≡ pre ++ v → IsLess v ((next + 1) ∷ []) → IsPast ds sum (pre ++ next ∷ []) y
          ⊎ (y ≡ pre ++ next ∷ [])
      go [] e l = absurd l
      go (b ∷ v) e (inr l) = absurd (less-none v l.1)
      go (b ∷ c ∷ v) e (inl l) =
          absurd (let k : length pre + suc (suc (length v)) ≡ r = sym (length-append pre (b ∷ c ∷ v))
          ∙ sym (ap length e) ∙ t.length_is in omega arith)
      go (b ∷ []) e (inl l) =
          elim (cases_lt b next) as (λ _. IsPast ds sum (pre ++ next ∷ []) y ⊎ (y ≡ pre ++ next ∷ [])) [
            | inl k ↦
                inl
                (inr (
                  h.0,
                  subst (λ z. IsLess z (pre ++ next ∷ [])) (sym e)
                      (less-after pre (b ∷ []) (next ∷ []) (inl k)),
                ))
            | inr k ↦ inr (let f : b ≡ next = omega arith in cc)
          ]

  pub visit-on : (next : ℕ) (pre y : List ℕ) → IsPast ds sum (pre ++ next ∷ []) y
      → IsPast ds sum (pre ++ (next + 1) ∷ []) y
  visit-on next pre y (inl h) = inl h
  visit-on next pre y (inr h) =
      elim (less-split y pre (next ∷ []) h.1) as (λ _. IsPast ds sum (pre ++ (next + 1) ∷ []) y) [
        | inl k ↦ inr (h.0, less-longer y pre ((next + 1) ∷ []) k)
        | inr k ↦
            inr (
              h.0,
              subst (λ z. IsLess z (pre ++ (next + 1) ∷ [])) (sym k.1)
                  (less-after pre k.0 ((next + 1) ∷ []) (wider k.0 k.2)),
            )
      ]
    where
      wider : (v : List ℕ) → IsLess v (next ∷ []) → IsLess v ((next + 1) ∷ [])
      wider [] l = l
      wider (b ∷ v) (inl l) = inl (omega arith)
      wider (b ∷ v) (inr l) = absurd (less-none v l.1)

  -- back to the place before
  pub pop-back : (next x : ℕ) (pre y : List ℕ) → length pre + 1 < r → (Fits ds r sum (pre ++ x ∷ []) next → ⊥)
      → In y
      → IsPast ds sum (pre ++ (x + 1) ∷ []) y → IsPast ds sum ((pre ++ x ∷ []) ++ next ∷ []) y
  pop-back next x pre y n f t (inl h) = inl h
  pop-back next x pre y n f t (inr h) =
      elim (less-split y pre ((x + 1) ∷ []) h.1) as (λ _. IsPast ds sum ((pre ++ x ∷ []) ++ next ∷ []) y) [
        | inl k ↦ inr (h.0, less-longer y (pre ++ x ∷ []) (next ∷ []) (less-longer y pre (x ∷ []) k))
        | inr k ↦
            inr (h.0, go k.0 k.1 k.2)
      ]
    where
      go : (v : List ℕ) → y ≡ pre ++ v → IsLess v ((x + 1) ∷ []) → IsLess y ((pre ++ x ∷ []) ++ next ∷ [])
      go [] e l = absurd l
      go (b ∷ v) e (inr l) = absurd (less-none v l.1)
      go (b ∷ v) e (inl l) =
          elim (cases_lt b x) as (λ _. IsLess y ((pre ++ x ∷ []) ++ next ∷ [])) [
            | inl k ↦
                subst (λ z. IsLess z ((pre ++ x ∷ []) ++ next ∷ [])) (sym e)
                (less-longer (pre ++ b ∷ v) (pre ++ x ∷ []) (next ∷ [])
                (less-after pre (b ∷ v) (x ∷ []) (inl k)))
            | inr k ↦
                let i : b ≡ x = omega arith in
                let g : y ≡ (pre ++ x ∷ []) ++ v = e ∙ ap (λ z. pre ++ z ∷ v) i
                ∙ sym (append_assoc pre (x ∷ []) v) in
                let m : length (pre ++ x ∷ []) < r = simp length-append (omega arith) in
                subst (λ z. IsLess z ((pre ++ x ∷ []) ++ next ∷ [])) (sym g)
                (less-unless ds d r sum next (pre ++ x ∷ []) v m f (subst (λ z. In z) g t)
                (ap (total ds) (sym g) ∙ h.0))
          ]

  pub pop-on : (next x : ℕ) (pre y : List ℕ) → IsPast ds sum ((pre ++ x ∷ []) ++ next ∷ []) y
      → IsPast ds sum (pre ++ (x + 1) ∷ []) y
  pop-on next x pre y (inl h) = inl h
  pop-on next x pre y (inr h) =
      elim (less-split y (pre ++ x ∷ []) (next ∷ []) h.1) as (λ _. IsPast ds sum (pre ++ (x + 1) ∷ []) y) [
        | inl k ↦ visit-on x pre y (inr (h.0, k))
        | inr k ↦
            let g : y ≡ pre ++ x ∷ k.0 = k.1 ∙ append_assoc pre (x ∷ []) k.0 in
            inr (
              h.0,
              subst (λ z. IsLess z (pre ++ (x + 1) ∷ [])) (sym g)
                  (less-after pre (x ∷ k.0) ((x + 1) ∷ []) (inl (omega arith))),
            )
      ]

  -- the next total degree
  pub total-on : (next : ℕ) (y : List ℕ) → IsPast ds sum (next ∷ []) y → IsPast ds (sum + 1) (0 ∷ []) y
  total-on next y (inl h) = inl (omega arith)
  total-on next y (inr h) = inl (omega (arith, h.0))

  pub total-back : (next : ℕ) (y : List ℕ) → 0 < r → (Fits ds r sum [] next → ⊥) → In y
      → IsPast ds (sum + 1) (0 ∷ []) y → IsPast ds sum (next ∷ []) y
  total-back next y n f t (inr h) = absurd (none y h.1)
    where
      none : (v : List ℕ) → IsLess v (0 ∷ []) → ⊥
      none [] l = l
      none (b ∷ v) (inl l) = omega arith
      none (b ∷ v) (inr l) = less-none v l.1
  total-back next y n f t (inl h) =
      elim (cases_lt (total ds y) sum) as (λ _. IsPast ds sum (next ∷ []) y) [
        | inl k ↦ inl k
        | inr k ↦ let e : total ds y ≡ sum = omega arith in
            inr (e, less-unless ds d r sum next [] y n f t e)
      ]

pub least-step : (ds : List ℕ) (i end : ℕ) → i < end
    → least ds (end - i) i ≡ slice_index ds i + least ds (end - (i + 1)) (i + 1)
least-step ds i end h =
    let e : end - i ≡ suc (end - (i + 1)) = omega arith in
    let f : suc i ≡ i + 1 = omega arith in
    ap (λ z. least ds z i) e ∙ ap (λ z. slice_index ds i + least ds (end - (i + 1)) z) f

pub ascends-all : (low n m : ℕ) (t : List ℕ) → n ≤ m → Ascends low n t → All (λ i. i < m) t
ascends-all low n m [] h a k d l = absurd (omega arith)
ascends-all low n m (x ∷ t) h a zero d l = omega (arith, a.1)
ascends-all low n m (x ∷ t) h a (suc k) d l = ascends-all (suc x) n m t h a.2 k d (omega arith)

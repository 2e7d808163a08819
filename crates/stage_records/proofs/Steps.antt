-- One step of a walk.
use Rattle.std.proofs.Common.{◌≡◌, ℕ, ◌+◌, ◌<◌, ◌≤◌, true, false, List, ◌++◌, length, take, drop, None, Some}
use Rattle.std.proofs.Common.{inl, inr, refl, sym, ap, ◌∙◌}
use Rattle.std.specs.declared.option.Option.{Option}
use Rattle.std.specs.Int.{w32, from_be_bytes}
use Rattle.std.specs.Str.{bytes_eq}
use Rattle.std.proofs.Math.Dec.{ltb}
use Rattle.std.proofs.lemmas.Bool.{cases_Bool, cond-true, cond-false, ltb-true, ltb-false, lt-ltb, le-ltb}
use Rattle.std.proofs.lemmas.Bool.{and_from, and_left, and_right, false_from_ne_true, both_ways}
use Rattle.std.proofs.lemmas.List.{take-take, take-append-le}
use Rattle.std.proofs.lemmas.Slice.Eq.{bytes_eq-Decides}
use Rattle.stage_records.specs.Walks.{length_at, is_in_range, is_cut, Ends, Takes, Refuses, next}

-- a list of more bytes begins with the same length
pub same_length_at : (n : ℕ) (bytes : List ℕ) → 4 ≤ n → length_at (take n bytes) ≡ length_at bytes
same_length_at n bytes h = ap (λ (x : List ℕ). from_be_bytes w32 x) (take-take 4 n bytes h)

pub front_length_at : (xs ys : List ℕ) → 4 ≤ length xs → length_at (xs ++ ys) ≡ length_at xs
front_length_at xs ys h = ap (λ (x : List ℕ). from_be_bytes w32 x) (take-append-le 4 xs ys h)

-- when bytes are cut
pub cut_short : (bytes : List ℕ) → length bytes < 4 → is_cut bytes ≡ true
unfolding is_cut
cut_short bytes h = cond-true (ltb (length bytes) 4) _ _ (lt-ltb (length bytes) 4 h)

pub cut_inside : (bytes : List ℕ) → is_in_range (length_at bytes) ≡ true → length bytes < 4 + length_at bytes
    → is_cut bytes ≡ true
unfolding is_cut
cut_inside bytes r h =
    elim (cases_Bool (ltb (length bytes) 4)) [
      | inl t ↦ cond-true (ltb (length bytes) 4) _ _ t
      | inr f ↦ cond-false (ltb (length bytes) 4) _ _ f
          ∙ and_from (is_in_range (length_at bytes)) (ltb (length bytes) (4 + length_at bytes)) r
          (lt-ltb _ _ h)
    ]

-- what it says that they are not
pub uncut_some : (bytes : List ℕ) → is_cut bytes ≡ false → 4 ≤ length bytes
uncut_some bytes u =
    elim (cases_Bool (ltb (length bytes) 4)) [
      | inl t ↦ absurd (both_ways (is_cut bytes) u (cut_short bytes (ltb-true (length bytes) 4 t)))
      | inr f ↦ ltb-false (length bytes) 4 f
    ]

pub uncut_whole : (bytes : List ℕ) → is_cut bytes ≡ false → is_in_range (length_at bytes) ≡ true
    → 4 + length_at bytes ≤ length bytes
uncut_whole bytes u r =
    elim (cases_Bool (ltb (length bytes) (4 + length_at bytes))) [
      | inl t ↦ absurd (both_ways (is_cut bytes) u
          (cut_inside bytes r (ltb-true (length bytes) (4 + length_at bytes) t)))
      | inr f ↦ ltb-false (length bytes) (4 + length_at bytes) f
    ]

pub uncut : (bytes : List ℕ) → 4 ≤ length bytes
    → (is_in_range (length_at bytes) ≡ true → 4 + length_at bytes ≤ length bytes) → is_cut bytes ≡ false
unfolding is_cut
uncut bytes s w =
    cond-false (ltb (length bytes) 4) _ _ (le-ltb (length bytes) 4 s)
    ∙ elim (cases_Bool (is_in_range (length_at bytes))) [
      | inl t ↦ and_right (is_in_range (length_at bytes)) _ (le-ltb _ _ (w t))
      | inr f ↦ and_left (is_in_range (length_at bytes)) _ f
    ]

-- the three ways on
pub next_ends : (o : Option (List ℕ)) (bytes : List ℕ) → is_cut bytes ≡ true → next o bytes ≡ Ends
unfolding next
next_ends o bytes c = cond-true (is_cut bytes) _ _ c

pub next_takes : (honest bytes : List ℕ) → is_cut bytes ≡ false → take (4 + length_at bytes) bytes ≡ honest
    → next (Some honest) bytes ≡ Takes (drop (4 + length_at bytes) bytes)
unfolding next
next_takes honest bytes u e = cond-false (is_cut bytes) _ _ u
    ∙ cond-true (bytes_eq (take (4 + length_at bytes) bytes) honest) _ _
    ((bytes_eq-Decides (take (4 + length_at bytes) bytes) honest).1 e)

pub next_refuses : (o : Option (List ℕ)) (bytes : List ℕ) → is_cut bytes ≡ false
    → ((honest : List ℕ) → o ≡ Some honest → take (4 + length_at bytes) bytes ≡ honest → ⊥)
    → next o bytes ≡ Refuses
unfolding next
next_refuses None bytes u n = cond-false (is_cut bytes) _ _ u
next_refuses (Some honest) bytes u n =
    cond-false (is_cut bytes) _ _ u
    ∙ cond-false (bytes_eq (take (4 + length_at bytes) bytes) honest) _ _
    (false_from_ne_true _ (λ t. n honest refl
    ((bytes_eq-Decides (take (4 + length_at bytes) bytes) honest).0 t)))

-- what a step shows of the bytes
pub record IsTaken (o : Option (List ℕ)) (bytes rest : List ℕ) : Type 0 where
  pub honest : List ℕ
  pub there : o ≡ Some honest
  pub uncut : is_cut bytes ≡ false
  pub same : take (4 + length_at bytes) bytes ≡ honest
  pub rest_is : rest ≡ drop (4 + length_at bytes) bytes

-- the ways on are three
pub data Way (o : Option (List ℕ)) (bytes : List ℕ) : Type 0 where
  cut : is_cut bytes ≡ true → next o bytes ≡ Ends → Way o bytes
  taken : (rest : List ℕ) → IsTaken o bytes rest → next o bytes ≡ Takes rest → Way o bytes
  refused : is_cut bytes ≡ false
      → ((honest : List ℕ) → o ≡ Some honest → take (4 + length_at bytes) bytes ≡ honest → ⊥)
      → next o bytes ≡ Refuses → Way o bytes

way-uncut : (o : Option (List ℕ)) (bytes : List ℕ) → is_cut bytes ≡ false → Way o bytes
way-uncut None bytes u = let n : (honest : List ℕ) → None ≡ Some honest
    → take (4 + length_at bytes) bytes ≡ honest → ⊥ = λ honest e s. cc in
    refused u n (next_refuses None bytes u n)
way-uncut (Some honest) bytes u =
    elim (cases_Bool (bytes_eq (take (4 + length_at bytes) bytes) honest)) [
      | inl t ↦ let e : take (4 + length_at bytes) bytes ≡ honest =
          (bytes_eq-Decides (take (4 + length_at bytes) bytes) honest).0 t in
          taken (drop (4 + length_at bytes) bytes) (record {
            honest = honest;
            there = refl;
            uncut = u;
            same = e;
            rest_is = refl;
          }) (next_takes honest bytes u e)
      | inr f ↦ let n : (other : List ℕ) → Some honest ≡ Some other → take (4 + length_at bytes) bytes ≡ other
          → ⊥ =
          (λ other e s. let p : honest ≡ other = cc in
          both_ways _ f ((bytes_eq-Decides (take (4 + length_at bytes) bytes) honest).1 (s ∙ sym p))) in
          refused u n (next_refuses (Some honest) bytes u n)
    ]

pub way : (o : Option (List ℕ)) (bytes : List ℕ) → Way o bytes
way o bytes =
    elim (cases_Bool (is_cut bytes)) [
      | inl t ↦ cut t (next_ends o bytes t)
      | inr f ↦ way-uncut o bytes f
    ]

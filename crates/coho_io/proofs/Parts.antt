-- A file that is read in pieces from a place on.
use Rattle.std.proofs.Common.{◌≡◌, ℕ, ◌+◌, ◌-◌, ◌<◌, ◌≤◌, List, [], ◌++◌, length, take, drop, inl, inr, sym}
use Rattle.std.proofs.Common.{◌∙◌, ap, subst, refl, arith, length-append, Some, None}
use Rattle.std.specs.declared.option.Option.{Option}
use Rattle.std.specs.Option.{IfSome}
use Rattle.std.proofs.lemmas.List.{length-take, length-drop, take_min, take_all, drop-drop}
use Rattle.std.proofs.Math.Seq.{take-add}
use Rattle.coho_io.specs.Content.{ReadsAt}
use Rattle.coho_io.specs.Pieces.{IsFrontFrom, IsPart, ReadsMore}

again : (k : ℕ) (xs : List ℕ) → take (length (take k xs)) xs ≡ take k xs
again k xs = ap (λ n. take n xs) (length-take k xs) ∙ take_min k xs

front_more : (bytes text piece : List ℕ) → text ≡ take (length text) bytes
    → piece ≡ take (length piece) (drop (length text) bytes)
    → text ++ piece ≡ take (length (text ++ piece)) bytes
front_more bytes text piece h k = ap (λ t. t ++ piece) h ∙ ap (λ t. take (length text) bytes ++ t) k
    ∙ sym (take-add (length text) (length piece) bytes)
    ∙ ap (λ n. take n bytes) (sym (length-append text piece))

pub told_value : {A : Type 0} (P : A → Type 0) (o : Option A) (x : A) → o ≡ Some x → IfSome o P → P x
told_value P o x e h = subst (λ o. IfSome o P) e h

pub reads_more : (o : Option (List ℕ)) (from : ℕ) (text buf new : List ℕ) (k n : ℕ) → 0 < length buf
    → n ≡ from + length text → ReadsAt o n buf k → new ≡ text ++ take k buf → ReadsMore o from text new k
reads_more None from text buf new k n room at r e = absurd r
reads_more (Some all) from text buf new k n room at r e =
    let here : take k buf ≡ take k (drop n all) = r.0 in
    let there : drop n all ≡ drop (length text) (drop from all) =
    ap (λ i. drop i all) at ∙ sym (drop-drop (length text) from all) in
    let piece : take k buf ≡ take k (drop (length text) (drop from all)) =
    here ∙ ap (λ t. take k t) there in (
      λ h. rw e (front_more (drop from all) text (take k buf) h (piece
          ∙ sym (again k (drop (length text) (drop from all)))
          ∙ ap (λ t. take (length t) (drop (length text) (drop from all))) (sym piece))),
      λ z. elim (r.1 z) [ inl none ↦ absurd (omega (arith, room, none)) | inr end ↦ omega (arith, end, at) ],
    )

-- one more piece is still a front
pub front_kept : (o : Option (List ℕ)) (from : ℕ) (old new : List ℕ) (k : ℕ) → IsFrontFrom o from old
    → ReadsMore o from old new k → IsFrontFrom o from new
front_kept None from old new k h r = absurd r
front_kept (Some all) from old new k h r = r.0 h

-- at the end of the file, and at the length that was asked for, the whole part was read
pub part_at_end : (o : Option (List ℕ)) (from len : ℕ) (old new : List ℕ) (k : ℕ) → IsFrontFrom o from old
    → ReadsMore o from old new k → k ≡ 0 → length new ≡ length old + k → length new ≤ len
    → IsPart o from len new
part_at_end None from len old new k h r z l b = absurd r
part_at_end (Some all) from len old new k h r z l b =
    let end : length all ≤ from + length old = r.1 z in
    let few : length (drop from all) ≤ length new = omega (arith, length-drop from all, end, l) in
    r.0 h ∙ take_all (length new) (drop from all) few
    ∙ sym (take_all len (drop from all) (omega (arith, few, b)))

pub part_at_length : (o : Option (List ℕ)) (from len : ℕ) (bytes : List ℕ) → IsFrontFrom o from bytes
    → 0 < len → len ≤ length bytes → length bytes ≤ len → IsPart o from len bytes
part_at_length None from len bytes h some full bound = let e = ap length h in absurd
    (omega (arith, e, some, full))
part_at_length (Some all) from len bytes h some full bound =
    let e : length bytes ≡ len = omega (arith, full, bound) in h ∙ ap (λ n. take n (drop from all)) e

-- nothing was read yet
pub front_start : (o : Option (List ℕ)) (bytes : List ℕ) → bytes ≡ [] → IsFrontFrom o 0 bytes
front_start None bytes e = e
front_start (Some all) bytes e = rw (e) refl

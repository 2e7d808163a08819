-- Lines and the relations before them.
use Rattle.std.proofs.Common.{◌≡◌, ℕ, ◌+◌, ◌<◌, ◌==◌, ◌||◌, Bool, true, false, List, [], ◌∷◌, length, map}
use Rattle.std.proofs.Common.{refl, ap, arith, cond}
use Rattle.std.specs.List.{slice_split, onto_first, list_any}
use Rattle.pc_text.specs.declared.place.Place.{Place}
use Rattle.pc_text.specs.declared.relations.Relation.{Relation}
use Rattle.pc_text.specs.Relations.{same_place}
use Rattle.pc_text.specs.Lines.{lines_from}
use Rattle.pc_text.specs.Views.{shown}

pub stands_shown : (place : Place) (rs : List Relation)
    → list_any (λ r. same_place place r.place) (map shown rs) ≡ list_any (λ r. same_place place r.place) rs
stands_shown place [] = refl
stands_shown place (r ∷ rs) = ap (λ (b : Bool). same_place place r.place || b) (stands_shown place rs)

abbrev pub parts : List ℕ → List (List ℕ)
parts text = slice_split (λ b. b == 10) text

first_and_more : (t : Bool) (x : ℕ) (others : List (List ℕ))
    → ((y : List ℕ) × (ys : List (List ℕ)) × (others ≡ y ∷ ys)) → (y : List ℕ) × (ys : List (List ℕ))
    × (cond t ([] ∷ others) (onto_first x others) ≡ y ∷ ys)
first_and_more true x others h = ([], others, refl)
first_and_more false x others h = (x ∷ h.0, h.1, ap (onto_first x) h.2)

-- there is a first part
pub has_part_at : (b : ℕ) (text : List ℕ) → (y : List ℕ) × (ys : List (List ℕ))
    × (slice_split (λ x. x == b) text ≡ y ∷ ys)
has_part_at b [] = ([], [], refl)
has_part_at b (x ∷ text) = first_and_more (x == b) x (slice_split (λ x. x == b) text) (has_part_at b text)

pub has_part : (text : List ℕ) → (y : List ℕ) × (ys : List (List ℕ)) × (parts text ≡ y ∷ ys)
has_part text = has_part_at 10 text

pub line_ended : (n : ℕ) (text bytes next : List ℕ) → parts text ≡ bytes ∷ parts next
    → lines_from n text ≡ record { number = n; bytes = bytes; ended = true } ∷ lines_from (n + 1) next
line_ended n text bytes next e =
    let h = has_part next in
    rw (e, h.2) refl

pub line_last : (n : ℕ) (text bytes : List ℕ) → parts text ≡ bytes ∷ [] → 0 < length bytes
    → lines_from n text ≡ record { number = n; bytes = bytes; ended = false } ∷ []
line_last n text [] e long = absurd (omega arith)
line_last n text (b ∷ bytes) e long = rw e refl

-- Bytes that a loop appends.
use Rattle.std.proofs.Common.{append_assoc, ◌≡◌, ℕ, ◌+◌, ◌<◌, List, [], ◌∷◌, ◌++◌, length, take, get_or, refl}
use Rattle.std.proofs.Common.{sym, ap, ap₂, ◌∙◌}
use Rattle.std.specs.Int.{w16, to_be_bytes}
use Rattle.std.specs.List.{concat}
use Rattle.std.proofs.lemmas.List.{take_more, append-nil}
use Rattle.std.proofs.lemmas.List.Concat.{flat_map-append}
use Rattle.linear_algebra.specs.Rows.{row}
use Rattle.stage_records.specs.Records.{position_bytes}

concat-push : (xs : List (List ℕ)) (y : List ℕ) → concat (xs ++ y ∷ []) ≡ concat xs ++ y
concat-push [] y = append-nil y
concat-push (x ∷ xs) y = ap (λ (z : List ℕ). x ++ z) (concat-push xs y) ∙ sym (append_assoc x (concat xs) y)

pub rows-step : (new old base r : List ℕ) (rows : List (List ℕ)) (i : ℕ) → new ≡ old ++ r
    → old ≡ base ++ concat (take i rows) → r ≡ row rows i → i < length rows
    → new ≡ base ++ concat (take (i + 1) rows)
rows-step new old base r rows i a b e l =
    a ∙ ap₂ (λ (x y : List ℕ). x ++ y) b e ∙ append_assoc base (concat (take i rows)) (row rows i)
    ∙ ap (λ (z : List ℕ). base ++ z)
    (sym (ap concat (take_more rows i [] l) ∙ concat-push (take i rows) (row rows i)))

positions-push : (xs : List ℕ) (y : ℕ)
    → position_bytes (xs ++ y ∷ []) ≡ position_bytes xs ++ to_be_bytes w16 (y + 1)
unfolding position_bytes
positions-push xs y = flat_map-append (λ i. to_be_bytes w16 (i + 1)) xs (y ∷ [])

pub positions-none : position_bytes [] ≡ []
unfolding position_bytes
positions-none = refl

pub positions-step : (new old base bytes places : List ℕ) (i : ℕ) → new ≡ old ++ bytes
    → old ≡ base ++ position_bytes (take i places) → bytes ≡ to_be_bytes w16 (get_or places i 0 + 1)
    → i < length places
    → new ≡ base ++ position_bytes (take (i + 1) places)
positions-step new old base bytes places i a b e l =
    a ∙ ap₂ (λ (x y : List ℕ). x ++ y) b e
    ∙ append_assoc base (position_bytes (take i places)) (to_be_bytes w16 (get_or places i 0 + 1))
    ∙ ap (λ (z : List ℕ). base ++ z) (sym (ap position_bytes (take_more places i 0 l)
    ∙ positions-push (take i places) (get_or places i 0)))

-- The rows of (g - 1) v, for one element after another.
use Rattle.std.proofs.Common.{◌≡◌, ℕ, suc, ◌+◌, ◌<◌, List, [], ◌∷◌, ◌++◌, length, map, get_or, take}
use Rattle.std.proofs.Common.{append_assoc, arith, ap, sym, ◌∙◌}
use Rattle.std.proofs.lemmas.List.{append-nil, length-map, get_or-map}
use Rattle.std.proofs.Math.Seq.{take-suc, take-length}
use mathlib.Core.Path.{subst}
use Rattle.group_modules.specs.Module.{Module}
use Rattle.group_modules.specs.Field.{Below}
use Rattle.group_modules.specs.Tables.{Group, monoid}
use Rattle.radical_layers.specs.Coordinates.{RowForm}
use Rattle.radical_layers.specs.Moves.{move_row, moves_by}
use Rattle.group_algebra.specs.Products.{numbers}

module _ {n q width : ℕ} (Γ : Group n) (M : Module (suc q) (monoid Γ)) (K : RowForm width M) where
  abbrev f : Below n → List ℕ → List ℕ
  f g x = move_row Γ M K g x

  abbrev by : List (Below n) → List (List ℕ) → List (List ℕ)
  by gs rows = moves_by Γ M K gs rows

  -- one more element
  by-step : (gs : List (Below n)) (g : Below n) (rows : List (List ℕ))
      → by (gs ++ g ∷ []) rows ≡ by gs rows ++ map (f g) rows
  by-step [] g rows = append-nil (map (f g) rows)
  by-step (k ∷ gs) g rows = ap (λ (z : List (List ℕ)). map (f k) rows ++ z) (by-step gs g rows)
      ∙ sym (append_assoc (map (f k) rows) (by gs rows) (map (f g) rows))

  pub moves-step : (gs : List (Below n)) (elements : List ℕ) (i : ℕ)
      (rows old new : List (List ℕ)) → numbers gs ≡ elements → i < length elements
      → get_or elements i 0 < n
      → old ≡ by (take i gs) rows → ((g : Below n) → g.0 ≡ get_or elements i 0
      → new ≡ old ++ map (f g) rows) → new ≡ by (take (i + 1) gs) rows
  moves-step gs elements i rows old new e l b o k = k g g-is
      ∙ ap (λ (z : List (List ℕ)). z ++ map (f g) rows) o ∙ sym (by-step (take i gs) g rows)
      ∙ ap (λ (z : List (Below n)). by z rows) (sym (take-suc gs i d inside)
      ∙ ap (λ m. take m gs) (let z : suc i ≡ i + 1 = omega arith in z))
    where
      inside : i < length gs
      inside = subst (λ m. i < m) (length-map gs (λ (x : Below n). x.0))
          (subst (λ xs. i < length xs) (sym e) l)

      d : Below n
      d = (get_or elements i 0, b)

      g : Below n
      g = get_or gs i d

      g-is : g.0 ≡ get_or elements i 0
      g-is = sym (get_or-map (λ (x : Below n). x.0) gs i d 0 inside) ∙ ap (λ xs. get_or xs i 0) e

  -- all elements
  pub moves-end : (gs : List (Below n)) (elements : List ℕ) (rows : List (List ℕ))
      → numbers gs ≡ elements → by (take (length elements) gs) rows ≡ by gs rows
  moves-end gs elements rows e = ap (λ (z : List (Below n)). by z rows)
      (ap (λ m. take m gs) (sym (ap length e) ∙ length-map gs (λ (x : Below n). x.0))
      ∙ take-length gs)

-- The rows that a negative standard basis chooses generate what all rows generate.
use Rattle.std.proofs.Common.{◌≡◌, ℕ, zero, suc, ◌<◌, List, [], ◌∷◌, length, get_or, ap}
use Rattle.std.proofs.Common.{inl, inr, arith, sym, ◌∙◌, refl}
use Rattle.std.proofs.lemmas.List.{get_or-take, length-take-le, length-map, get_or-map}
use mathlib.Core.Path.{subst}
use Rattle.linear_algebra.specs.Rows.{entry, row, IsMatrix, IsRow, IsInSpan, AreInSpan}
use Rattle.linear_algebra.specs.Choices.{rows_at}
use Rattle.linear_algebra.proofs.Spans.{in_span_row}
use Rattle.group_modules.specs.Tables.{Group, Table}
use Rattle.radical_layers.specs.Coordinates.{RowForm}
use Rattle.radical_layers.specs.LayerBasis.{Layers}
use Rattle.neg_basis.specs.Maps.{IsInSubmodule}
use Rattle.neg_basis.specs.Origins.{origin_at, chosen_rows, IsOrigin, IsChosenRightly}
use Rattle.neg_basis.specs.Results.{IsNegBasisOf}
use Rattle.neg_basis.specs.declared.origin.Origin.{Origin}
use Rattle.neg_basis.specs.declared.origin.Origin.TheVariants.{Chosen, Step}
use Rattle.radical_generators.specs.FirstLayer.{layer_size}
use Rattle.radical_generators.specs.Claims.{maps, ChosenClaims}

row-of : Origin → ℕ
row-of (Chosen r) = r
row-of (Step m k) = 0

-- a chosen row has a place among the chosen rows
chosen-place : (os : List Origin) (i r : ℕ) → i < length os → origin_at os i ≡ Chosen r
    → (t : ℕ) × (t < length (chosen_rows os)) × (get_or (chosen_rows os) t 0 ≡ r)
unfolding row-of
chosen-place [] i r l e = absurd (omega (arith, l))
chosen-place (Chosen x ∷ os) zero r l e = (0, omega arith, ap row-of e)
chosen-place (Step m k ∷ os) zero r l e = absurd (let d : Step m k ≡ Chosen r = e in cc)
chosen-place (Chosen x ∷ os) (suc i) r l e = go (chosen-place os i r (omega (arith, l)) e)
  where
    go : (t : ℕ) × (t < length (chosen_rows os)) × (get_or (chosen_rows os) t 0 ≡ r)
        → (t : ℕ) × (t < length (x ∷ chosen_rows os)) × (get_or (x ∷ chosen_rows os) t 0 ≡ r)
    go (t, k, d) = (suc t, omega (arith, k), d)
chosen-place (Step m k ∷ os) (suc i) r l e = chosen-place os i r (omega (arith, l)) e

-- and each of them is the row of an origin
chosen-origin : (os : List Origin) (t : ℕ) → t < length (chosen_rows os)
    → (i : ℕ) × (i < length os) × (origin_at os i ≡ Chosen (get_or (chosen_rows os) t 0))
chosen-origin [] t l = absurd (omega (arith, l))
chosen-origin (Chosen x ∷ os) zero l = (0, omega arith, refl)
chosen-origin (Chosen x ∷ os) (suc t) l = go (chosen-origin os t (omega (arith, l)))
  where
    go : (i : ℕ) × (i < length os) × (origin_at os i ≡ Chosen (get_or (chosen_rows os) t 0))
        → (i : ℕ) × (i < length (Chosen x ∷ os))
        × (origin_at (Chosen x ∷ os) i ≡ Chosen (get_or (x ∷ chosen_rows os) (suc t) 0))
    go (i, k, d) = (suc i, omega (arith, k), d)
chosen-origin (Step m k ∷ os) t l = go (chosen-origin os t l)
  where
    go : (i : ℕ) × (i < length os) × (origin_at os i ≡ Chosen (get_or (chosen_rows os) t 0))
        → (i : ℕ) × (i < length (Step m k ∷ os))
        × (origin_at (Step m k ∷ os) i ≡ Chosen (get_or (chosen_rows os) t 0))
    go (i, h, d) = (suc i, omega (arith, h), d)

module _ (p width m : ℕ) (image : ℕ → (ℕ → ℕ) → ℕ → ℕ) (gens vectors : List (List ℕ)) (origins : List Origin)
    (N : IsNegBasisOf p width m image gens vectors origins) where
  abbrev R : List (List ℕ)
  R = rows_at gens (chosen_rows origins)

  -- row t of the chosen rows
  abbrev number : ℕ → ℕ
  number t = get_or (chosen_rows origins) t 0

  inside : (t : ℕ) → t < length R → t < length (chosen_rows origins)
  inside t l = subst (λ c. t < c) (length-map (chosen_rows origins) (row gens)) l

  row-is : (t : ℕ) → t < length R → row R t ≡ row gens (number t)
  row-is t l = get_or-map (row gens) (chosen_rows origins) t 0 [] (inside t l)

  -- the chosen rows are rows of the generators
  pub chosen-below : (t : ℕ) → t < length (chosen_rows origins)
      → get_or (chosen_rows origins) t 0 < length gens
  chosen-below t l = go (chosen-origin origins t l)
    where
      go : (i : ℕ) × (i < length origins) × (origin_at origins i ≡ Chosen (number t)) → number t < length gens
      go (i, h, e) = subst (λ o. IsOrigin (length gens) m o i) e
          (N.named i (let k : length origins ≡ length vectors = N.origins_count in omega (arith, h, k)))

  number-below : (t : ℕ) → t < length R → number t < length gens
  number-below t l = chosen-below t (inside t l)

  pub chosen-matrix : IsMatrix p width gens → IsMatrix p width R
  chosen-matrix M t l = subst (IsRow p width) (sym (row-is t l)) (M (number t) (number-below t l))

  pub chosen-inside : AreInSpan p gens R
  chosen-inside t l = subst (λ x. IsInSpan p gens (entry x)) (sym (row-is t l))
      (in_span_row gens (number t) (number-below t l))

  generated : (n : ℕ) → (r : ℕ) → r < n → r < length gens → IsInSubmodule p m image R (entry (row gens r))
  generated zero r k l = absurd (omega (arith, k))
  generated (suc n) r k l = go (λ s d h. generated n s (omega (arith, d, k)) h) (N.chosen r l)
    where
      go : ((s : ℕ) → s < r → s < length gens → IsInSubmodule p m image R (entry (row gens s)))
          → IsChosenRightly p m image gens origins r → IsInSubmodule p m image R (entry (row gens r))
      go ih (inl c) = at (chosen-place origins c.0.0 r c.0.1 c.0.2)
        where
          at : (t : ℕ) × (t < length (chosen_rows origins)) × (number t ≡ r)
              → IsInSubmodule p m image R (entry (row gens r))
          at (t, h, e) = let d : t < length R = subst (λ c. t < c)
              (sym (length-map (chosen_rows origins) (row gens))) h in record {
                in_each = λ rows a c. subst (λ x. IsInSpan p rows (entry x)) (row-is t d
                    ∙ ap (row gens) e) (a t d);
              }
      go ih (inr c) = record {
        in_each = λ rows a closed. c.1.in_each rows
            (λ s d. let h : s < r = subst (λ c. s < c) (length-take-le r gens (omega (arith, l))) d in
            subst (λ x. IsInSpan p rows (entry x)) (sym (get_or-take r gens s [] h))
            ((ih s h (omega (arith, h, l))).in_each rows a closed)) closed;
      }

  pub chosen-generate : (r : ℕ) → r < length gens → IsInSubmodule p m image R (entry (row gens r))
  chosen-generate r l = generated (suc r) r (omega arith) l

pub chosen-claims : {n : ℕ} (q : ℕ) (Γ : Group n) (K : RowForm n (Table q Γ 1)) (Y : Layers) (b : ℕ)
    {width : ℕ} (C : RowForm width (Table q Γ b)) (E : List (List ℕ)) → ChosenClaims q Γ K Y b C E
chosen-claims q Γ K Y b {width} C E = record {
  generators = λ M U vectors origins N. record {
    matrix = M;
    submodule = U;
    generators = chosen-matrix (suc q) width (layer_size q Γ K Y) (maps q Γ K Y b C) E vectors origins N M;
    inside = chosen-inside (suc q) width (layer_size q Γ K Y) (maps q Γ K Y b C) E vectors origins N;
    generate = chosen-generate (suc q) width (layer_size q Γ K Y) (maps q Γ K Y b C) E vectors origins N;
  };
}

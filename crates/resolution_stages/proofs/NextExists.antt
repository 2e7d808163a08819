-- The next stage exists: greedy positions, the list of the kernel and the table of the section.
use Rattle.std.proofs.Common.{◌≡◌, ℕ, zero, suc, ◌+◌, ◌*◌, ◌-◌, ◌<◌, List, [], ◌∷◌, length, arith, ap, sym}
use Rattle.std.proofs.Common.{◌∙◌, refl}
use mathlib.Core.Path.{subst}
use Rattle.group_modules.specs.Module.{Module, sub}
use Rattle.group_modules.proofs.Laws.{map-sub, sub-eq}
use Rattle.group_modules.specs.Tables.{Group, monoid, Table}
use Rattle.group_modules.proofs.MapLaws.{terms-linear}
use Rattle.augmentation_ideal.specs.Radical.{IsSubmodule}
use Rattle.augmentation_ideal.specs.Claims.{IsPrimePower}
use Rattle.augmentation_ideal.specs.Generators.{Generate}
use Rattle.augmentation_ideal.proofs.Generators.{generate}
use Rattle.augmentation_ideal.proofs.Laws.{finite-table}
use Rattle.linear_algebra.specs.Modular.{IsFieldModulo}
use Rattle.linear_algebra.specs.Rows.{entry, row, pivot, IsRow, IsReduced, IsInSpan}
use Rattle.linear_algebra.specs.Choices.{IsGreedy}
use Rattle.linear_algebra.proofs.Congruences.{congruent_trans, congruent_eq, congruent_sym}
use Rattle.linear_algebra.proofs.Spans.{in_span_congruent, in_span_row}
use Rattle.linear_algebra.proofs.Existence.{reduce}
use Rattle.radical_layers.specs.Coordinates.{Coordinates}
use Rattle.radical_layers.specs.Moves.{moves, IsEchelonFor}
use Rattle.radical_layers.specs.Layers.{RowIn}
use Rattle.resolution_stages.specs.Checks.{StageParts, IsSubmoduleList, IsNextStage, del, chosen_row}
use Rattle.radical_layers.proofs.Bridge.{at-sub, moves-matrix}
use Rattle.radical_layers.proofs.Basis.{basis}
use Rattle.radical_layers.proofs.Existence.{same-or-not, closed-table, list-exists}
use Rattle.linear_algebra.proofs.Laws.{greedy_exists}
use Rattle.resolution_stages.proofs.FromDefinitions.{kernel-submodule}

-- a list of rows with a property each
pub build : (c : ℕ) (P : ℕ → List ℕ → Type 0) → ((i : ℕ) → i < c → (x : List ℕ) × P i x)
    → (xs : List (List ℕ)) × (length xs ≡ c) × ((i : ℕ) → i < c → P i (row xs i))
build zero P f = ([], refl, λ i l. absurd (omega (arith, l)))
build (suc c) P f = go (f 0 (let z : 0 < suc c = omega arith in z))
    (build c (λ i. P (suc i)) (λ i l. f (suc i) (let z : suc i < suc c = omega (arith, l) in z)))
  where
    go : (x : List ℕ) × P 0 x → (xs : List (List ℕ)) × (length xs ≡ c)
        × ((i : ℕ) → i < c → P (suc i) (row xs i)) → (xs : List (List ℕ)) × (length xs ≡ suc c)
        × ((i : ℕ) → i < suc c → P i (row xs i))
    go x xs = (x.0 ∷ xs.0, ap suc xs.1, each)
      where
        each : (i : ℕ) → i < suc c → P i (row (x.0 ∷ xs.0) i)
        each zero l = x.1
        each (suc i) l = xs.2 i (let z : i < c = omega (arith, l) in z)

module _ {n : ℕ} (q : ℕ) (F : IsFieldModulo (suc q)) (P : IsPrimePower q n) (Γ : Group n)
    (K : Coordinates q Γ) (b : ℕ) (E : List (List ℕ)) (U : IsSubmoduleList q Γ K b E) where
  abbrev T : Module (suc q) (monoid Γ)
  T = Table q Γ b

  abbrev L : T.of → Type 0
  L v = IsInSpan (suc q) E (entry ((K b).row v))

  pub members : (i : ℕ) → i < length E → L ((K b).table (row E i))
  members i l = subst (λ x. IsInSpan (suc q) E (entry x)) (sym ((K b).row-table (row E i) (U.matrix i l)))
      (in_span_row E i l)

  module _ (xs : List ℕ) (g : IsGreedy (suc q) E (moves Γ T (K b) E) xs) where
    abbrev m : ℕ
    m = length xs

    abbrev made : List (List ℕ) → List (List ℕ) → StageParts
    made k s = record { positions = xs; kernel = k; sections = s }

    abbrev ∂ : (Table q Γ m).of → T.of
    ∂ u = del q Γ K b E (made [] []) u

    abbrev Z : (Table q Γ m).of → Type 0
    Z u = ∂ u ≡ T.zero

    Z-submodule : IsSubmodule (Table q Γ m) Z
    Z-submodule = kernel-submodule (Table q Γ m) T (λ u. del q Γ K b E (made [] []) u)
        (terms-linear q Γ m T (chosen_row q Γ K b E (made [] [])))

    kernel-exists : (k : List (List ℕ)) × IsEchelonFor (suc q) (n * m) (RowIn (K m) Z) k
    kernel-exists = list-exists q F Γ (n * m) (Table q Γ m) (K m) Z Z-submodule
        (λ u. same-or-not q F Γ (n * b) T (K b) (∂ u) T.zero)

    -- each member of the submodule is a boundary
    pub onto : Generate q Γ T L m (chosen_row q Γ K b E (made [] []))
    onto = generate q Γ T L m (chosen_row q Γ K b E (made [] []))
        (basis q F Γ (n * b) T (K b) L E U.matrix members (λ v s. s) xs g m refl)
        P.exponent P.prime P.power (finite-table q Γ b)

    module _ (k : List (List ℕ)) (e : IsEchelonFor (suc q) (n * m) (RowIn (K m) Z) k) where
      IsValue : T.of → List ℕ → Type 0
      IsValue v w = IsRow (suc q) (n * m) w × (∂ ((K m).table w) ≡ v)
          × ((i : ℕ) → i < length k → entry w (pivot (row k i)) ≡ 0)

      value : (v : T.of) → L v → (w : List ℕ) × IsValue v w
      unfolding IsValue
      value v h = go (onto v h)
        where
          go : (u : (Table q Γ m).of) × (∂ u ≡ v) → (w : List ℕ) × IsValue v w
          go (u, f) = at (reduce F k e.matrix e.echelon ((K m).row u) ((K m).row-is u))
            where
              at : (w : List ℕ) × IsRow (suc q) (n * m) w × IsReduced (suc q) k ((K m).row u) w → (w : List ℕ)
                  × IsValue v w
              at (w, r, d) = (w, (r, same ∙ f, d.zero_at_pivots))
                where
                  difference : IsInSpan (suc q) k (entry ((K m).row (sub (Table q Γ m) ((K m).table w) u)))
                  difference = in_span_congruent
                      (λ j. congruent_sym
                      (congruent_trans (at-sub q Γ (n * m) (Table q Γ m) (K m) ((K m).table w) u j)
                      (congruent_eq (ap (λ x. entry x j + q * entry ((K m).row u) j) ((K m).row-table w r)
                      ∙ ap (λ c. entry w j + c * entry ((K m).row u) j)
                      (let z : q ≡ suc q - 1 = omega arith in z))))) d.difference

                  zero-of : ∂ (sub (Table q Γ m) ((K m).table w) u) ≡ T.zero
                  zero-of = closed-table q F Γ (n * m) (Table q Γ m) (K m) Z Z-submodule k e.members
                      (sub (Table q Γ m) ((K m).table w) u) difference

                  same : ∂ ((K m).table w) ≡ ∂ u
                  same = sub-eq T (∂ ((K m).table w)) (∂ u)
                      (sym (map-sub (Table q Γ m) T (λ u. del q Γ K b E (made [] []) u)
                      (terms-linear q Γ m T (chosen_row q Γ K b E (made [] []))).on-add ((K m).table w) u)
                      ∙ zero-of)

      parts-exist : (Q : StageParts) × IsNextStage q Γ K b E Q
      unfolding IsValue
      parts-exist = go (build (length E) (λ i w. IsValue ((K b).table (row E i)) w)
          (λ i l. value ((K b).table (row E i)) (members i l)))
        where
          go : (s : List (List ℕ)) × (length s ≡ length E)
              × ((i : ℕ) → i < length E → IsValue ((K b).table (row E i)) (row s i)) → (Q : StageParts)
              × IsNextStage q Γ K b E Q
          go (s, c, h) = (
            made k s,
            record {
              rows_are = g;
              kernel_is = e;
              section_count = c;
              section_rows = λ i l. (h i (subst (λ x. i < x) c l)).0;
              sections_to_rows = λ i l. (h i l).1;
              zero_at_pivots = λ i j l z. (h i l).2 j z;
            },
          )

  -- the next stage exists
  pub next-exists : (Q : StageParts) × IsNextStage q Γ K b E Q
  next-exists = go (greedy_exists E (moves Γ T (K b) E) F U.matrix
      (moves-matrix q Γ (n * b) T (K b) L E U.matrix members (λ v s. s)))
    where
      go : (xs : List ℕ) × IsGreedy (suc q) E (moves Γ T (K b) E) xs → (Q : StageParts)
          × IsNextStage q Γ K b E Q
      go (xs, g) = at (kernel-exists xs g)
        where
          at : (k : List (List ℕ)) × IsEchelonFor (suc q) (n * length xs)
              (RowIn (K (length xs)) (λ u. del q Γ K b E
              (record { positions = xs; kernel = []; sections = [] }) u ≡ T.zero)) k → (Q : StageParts)
              × IsNextStage q Γ K b E Q
          at (k, e) = parts-exist xs g k e

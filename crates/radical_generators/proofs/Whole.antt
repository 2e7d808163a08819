-- Rows that span a submodule generate it, and their products by layer 1 can be listed.
use Rattle.std.proofs.Common.{◌≡◌, ℕ, zero, suc, ◌+◌, ◌-◌, ◌*◌, ◌<◌, ◌≤◌, ◌⊎◌, List, [], ◌∷◌, ◌++◌, length}
use Rattle.std.proofs.Common.{inl, inr, arith, ap, sym, ◌∙◌, refl}
use Rattle.std.proofs.lemmas.Bool.{cases_lt}
use Rattle.std.proofs.lemmas.List.{get_or_append_left, get_or-append-add, length-append}
use mathlib.Core.Path.{subst}
use Rattle.linear_algebra.specs.Rows.{entry, row, IsMatrix, IsRow, IsInSpan}
use Rattle.linear_algebra.proofs.Congruences.{congruent_eq}
use Rattle.linear_algebra.proofs.Spans.{in_span_congruent, in_span_row, are_in_span_self}
use Rattle.group_modules.specs.Module.{Module}
use Rattle.group_modules.specs.Tables.{Group, monoid, Table, terms}
use Rattle.augmentation_ideal.specs.Radical.{IsSubmodule}
use Rattle.radical_layers.specs.Coordinates.{RowForm}
use Rattle.radical_layers.specs.LayerBasis.{Layers}
use Rattle.neg_basis.specs.Maps.{IsClosed}
use Rattle.neg_basis.proofs.SubmoduleLemmas.{closed}
use Rattle.radical_generators.specs.FirstLayer.{product, layer_size, layer_member}
use Rattle.radical_generators.specs.Claims.{Spanned, maps, WholeClaims}
use Rattle.radical_generators.proofs.ClosedSets.{lin-in}
use Rattle.radical_generators.proofs.Rows.{layer_map-linear, layer_map-row}

-- the list of g 0 to g (m - 1)
first : (m : ℕ) → (ℕ → List ℕ) → List (List ℕ)
first zero g = []
first (suc m) g = g 0 ∷ first m (λ k. g (suc k))

length-first : (m : ℕ) (g : ℕ → List ℕ) → length (first m g) ≡ m
unfolding first
length-first zero g = refl
length-first (suc m) g = ap suc (length-first m (λ k. g (suc k)))

row-first : (m : ℕ) (g : ℕ → List ℕ) (k : ℕ) → k < m → row (first m g) k ≡ g k
unfolding first
row-first zero g k l = absurd (omega (arith, l))
row-first (suc m) g zero l = refl
row-first (suc m) g (suc k) l = row-first m (λ k. g (suc k)) k (let z : k < m = omega (arith, l) in z)

-- the lists of each row, joined
all : (m : ℕ) → (List ℕ → ℕ → List ℕ) → List (List ℕ) → List (List ℕ)
all m g [] = []
all m g (x ∷ rows) = first m (g x) ++ all m g rows

length-all : (m : ℕ) (g : List ℕ → ℕ → List ℕ) (rows : List (List ℕ))
    → length (all m g rows) ≡ length rows * m
unfolding all
length-all m g [] = (let z : 0 ≡ 0 * m = omega arith in z)
length-all m g (x ∷ rows) = length-append (first m (g x)) (all m g rows)
    ∙ (let a : length (first m (g x)) ≡ m = length-first m (g x) in
    let b : length (all m g rows) ≡ length rows * m = length-all m g rows in
    let z : length (first m (g x)) + length (all m g rows) ≡ suc (length rows) * m = omega (arith, a, b) in z)

row-all : (m : ℕ) (g : List ℕ → ℕ → List ℕ) (rows : List (List ℕ)) (i k : ℕ) → i < length rows → k < m
    → row (all m g rows) (i * m + k) ≡ g (row rows i) k
unfolding all
row-all m g [] i k l h = absurd (omega (arith, l))
row-all m g (x ∷ rows) zero k l h = ap (row (first m (g x) ++ all m g rows))
    (let z : 0 * m + k ≡ k = omega arith in z)
    ∙ get_or_append_left (first m (g x)) (all m g rows) [] k
    (subst (λ c. k < c) (sym (length-first m (g x))) h)
    ∙ row-first m (g x) k h
row-all m g (x ∷ rows) (suc i) k l h = ap (row (first m (g x) ++ all m g rows))
    (let a : length (first m (g x)) ≡ m = length-first m (g x) in
    let z : suc i * m + k ≡ length (first m (g x)) + (i * m + k) = omega (arith, a) in z)
    ∙ get_or-append-add (first m (g x)) (all m g rows) (i * m + k) []
    ∙ row-all m g rows i k (omega (arith, l)) h

module _ (P : List ℕ → Type 0) where
  first-each : (m : ℕ) (g : ℕ → List ℕ) → ((k : ℕ) → P (g k)) → (i : ℕ) → i < length (first m g)
      → P (row (first m g) i)
  first-each m g h i l = subst P (sym (row-first m g i (subst (λ c. i < c) (length-first m g) l))) (h i)

  all-each : (m : ℕ) (g : List ℕ → ℕ → List ℕ) → ((x : List ℕ) (k : ℕ) → P (g x k)) → (rows : List (List ℕ))
      → (i : ℕ) → i < length (all m g rows) → P (row (all m g rows) i)
  unfolding all
  all-each m g h [] i l = absurd (omega (arith, l))
  all-each m g h (x ∷ rows) i l = go (cases_lt i m) (all-each m g h rows)
    where
      count : length (first m (g x)) ≡ m
      count = length-first m (g x)

      go : (i < m) ⊎ (m ≤ i) → ((j : ℕ) → j < length (all m g rows) → P (row (all m g rows) j))
          → P (row (first m (g x) ++ all m g rows) i)
      go (inl d) ih = let k : i < length (first m (g x)) = subst (λ c. i < c) (sym count) d in
          subst P (sym (get_or_append_left (first m (g x)) (all m g rows) [] i k))
          (first-each m (g x) (h x) i k)
      go (inr d) ih = subst P (sym (ap (row (first m (g x) ++ all m g rows))
          (let z : i ≡ length (first m (g x)) + (i - m) = omega (arith, d, count) in z)
          ∙ get_or-append-add (first m (g x)) (all m g rows) (i - m) []))
          (ih (i - m) (let e : length (first m (g x) ++ all m g rows) ≡ length (first m (g x)) + length
          (all m g rows) = length-append (first m (g x)) (all m g rows) in omega (arith, e, l, d, count)))

module _ {n : ℕ} (q : ℕ) (Γ : Group n) (K : RowForm n (Table q Γ 1)) (Y : Layers) (b : ℕ) {width : ℕ}
    (C : RowForm width (Table q Γ b)) (E : List (List ℕ)) (matrix : IsMatrix (suc q) width E)
    (U : IsSubmodule (Table q Γ b) (Spanned q Γ K Y b C E)) where
  abbrev T : Module (suc q) (monoid Γ)
  T = Table q Γ b

  closed-list : IsClosed (suc q) (layer_size q Γ K Y) (maps q Γ K Y b C) E
  closed-list = closed E (λ k h. layer_map-linear q Γ width T C K Y k) (λ k t h l. in_span_congruent
      (λ j. congruent_eq (sym (layer_map-row q Γ width T C K Y k (row E t) (matrix t l) j)))
      (lin-in T (Spanned q Γ K Y b C E) U (λ i. C.table (row E t))
      (λ i. subst (λ x. IsInSpan (suc q) E (entry x)) (sym (C.row-table (row E t) (matrix t l)))
      (in_span_row E t l)) (terms q Γ 1 (layer_member q Γ K Y k))))

  -- the product of the row x by member k of layer 1
  product-row : List ℕ → ℕ → List ℕ
  product-row x k = C.row (product q Γ T (layer_member q Γ K Y k) (C.table x))

  pub whole-claims : WholeClaims q Γ K Y b C E
  unfolding product-row
  whole-claims = record {
    generators = record {
      matrix = matrix;
      submodule = U;
      generators = matrix;
      inside = are_in_span_self E;
      generate = λ i l. record { in_each = λ rows a c. a i l };
    };
    closed = closed-list;
    products = (
      all (layer_size q Γ K Y) product-row E,
      all-each (IsRow (suc q) width) (layer_size q Γ K Y) product-row (λ x k. C.row-is _) E,
      record {
        count = length-all (layer_size q Γ K Y) product-row E;
        each = λ i k l h j. congruent_eq
            (ap (λ r. entry r j) (row-all (layer_size q Γ K Y) product-row E i k l h)
            ∙ sym (layer_map-row q Γ width T C K Y k (row E i) (matrix i l) j));
      },
    );
  }

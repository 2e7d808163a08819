-- Rows that are pushed at some of the places of a loop.
use Rattle.std.proofs.Common.{◌≡◌, ℕ, ◌+◌, ◌<◌, ◌↔◌, List, [], ◌⊎◌, inl, inr, length, arith, sym, subst}
use Rattle.std.proofs.Common.{◌∙◌}
use Rattle.std.specs.Prelude.{slice_index_or}
use Rattle.std.proofs.lemmas.Bool.{cases_eq}
use Rattle.fp_rows.specs.Values.{MatrixValue}
use Rattle.ring_completion.specs.Completions.{IsClearBefore}
use Rattle.ring_degree.specs.Critical.{pair_row, IsPairRow}
use Rattle.ring_degree.specs.Tables.{at_generator, standard_at}
use Rattle.ring_degree.specs.declared.table.Table.{Table}

-- v is the row at one of the first k places with C
abbrev pub IsAmong : (ℕ → Type 0) → (ℕ → List ℕ) → ℕ → List ℕ → Type 0
IsAmong C row k v = (j : ℕ) × (j < k) × C j × (v ≡ row j)

module _ (C : ℕ → Type 0) (row : ℕ → List ℕ) where
  pub among-none : (v : List ℕ) → IsAmong C row 0 v → ⊥
  among-none v x = let b = x.1 in omega (arith, b)

  pub among-more : (k : ℕ) (r : List ℕ) → C k → r ≡ row k → (v : List ℕ)
      → IsAmong C row (k + 1) v ↔ (IsAmong C row k v ⊎ (v ≡ r))
  among-more k r c e v = (to, from)
    where
      to : IsAmong C row (k + 1) v → IsAmong C row k v ⊎ (v ≡ r)
      to (j, b, x, z) = go (cases_eq j k)
        where
          go : (j ≡ k) ⊎ (j ≡ k → ⊥) → IsAmong C row k v ⊎ (v ≡ r)
          go (inl y) = inr (z ∙ subst (λ a. row a ≡ r) (sym y) (sym e))
          go (inr n) = inl (j, omega (arith, b, n), x, z)

      from : IsAmong C row k v ⊎ (v ≡ r) → IsAmong C row (k + 1) v
      from (inl (j, b, x, z)) = (j, omega (arith, b), x, z)
      from (inr z) = (k, omega arith, c, z ∙ e)

  pub among-same : (k : ℕ) → (C k → ⊥) → (v : List ℕ) → IsAmong C row (k + 1) v ↔ IsAmong C row k v
  among-same k c v = (to, from)
    where
      to : IsAmong C row (k + 1) v → IsAmong C row k v
      to (j, b, x, z) = go (cases_eq j k)
        where
          go : (j ≡ k) ⊎ (j ≡ k → ⊥) → IsAmong C row k v
          go (inl y) = absurd (c (subst C y x))
          go (inr n) = (j, omega (arith, b, n), x, z)

      from : IsAmong C row k v → IsAmong C row (k + 1) v
      from (j, b, x, z) = (j, omega (arith, b), x, z)

-- monomial k of degree e has no factor before i
abbrev pub IsClearAt : List Table → ℕ → ℕ → ℕ → Type 0
IsClearAt tables e i k = IsClearBefore i (slice_index_or (standard_at tables e) k [])

module _ (q : ℕ) (ds : List ℕ) (tables : List Table) (width : ℕ) (forms : List MatrixValue) where
  pub pairs-are : (e i j k : ℕ) → at_generator ds i + (at_generator ds j + e) ≡ length tables
      → k ≡ length (standard_at tables e) → (v : List ℕ)
      → IsPairRow q ds tables width forms i j v
      ↔ IsAmong (IsClearAt tables e i) (pair_row q ds tables width forms e i j) k v
  pairs-are e i j k s l v = (to, from)
    where
      to : IsPairRow q ds tables width forms i j v
          → IsAmong (IsClearAt tables e i) (pair_row q ds tables width forms e i j) k v
      to x = subst (λ a. IsAmong (IsClearAt tables a i) (pair_row q ds tables width forms a i j) k v) same
          (x.place, (let w = x.within in let z = same in rw (l, sym z) w), x.clear, x.row_is)
        where
          same : x.low ≡ e
          same = let d = x.degree_is in omega (arith, d, s)

      from : IsAmong (IsClearAt tables e i) (pair_row q ds tables width forms e i j) k v
          → IsPairRow q ds tables width forms i j v
      from (p, b, c, z) = record {
        low = e;
        place = p;
        within = omega (arith, b, l);
        degree_is = s;
        clear = c;
        row_is = z;
      }

  pub no-pairs : (i j : ℕ) → length tables < at_generator ds i + at_generator ds j → (v : List ℕ)
      → IsPairRow q ds tables width forms i j v → ⊥
  no-pairs i j l v x = let d = x.degree_is in omega (arith, d, l)

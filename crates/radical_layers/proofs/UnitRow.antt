-- The unit rows.
use Rattle.std.proofs.Common.{◌≡◌, ℕ, ◌<◌, ◌⊎◌, replicate, inl, inr, arith, ap, ◌∙◌}
use Rattle.std.proofs.lemmas.Bool.{cases_eq}
use Rattle.std.proofs.lemmas.List.{length-replicate, length-set}
use Rattle.linear_algebra.specs.Rows.{entry, IsRow}
use Rattle.linear_algebra.specs.Kernels.{unit_row}
use Rattle.linear_algebra.proofs.AugmentLemmas.{entry_unit_same, entry_unit_other}

pub unit-is-row : (p n i : ℕ) → 1 < p → i < n → IsRow p n (unit_row n i)
unit-is-row p n i above l = record {
  length_is = length-set (replicate n 0) i 1
      ∙ length-replicate n 0;
  below = λ j m. small j (cases_eq j i);
}
  where
    small : (j : ℕ) → (j ≡ i) ⊎ (j ≡ i → ⊥) → entry (unit_row n i) j < p
    small j (inl e) = let z : entry (unit_row n i) j ≡ 1 = ap (entry (unit_row n i)) e
        ∙ entry_unit_same n i l in omega (arith, z, above)
    small j (inr d) = let z : entry (unit_row n i) j ≡ 0 = entry_unit_other n i j d in omega (arith, z, above)

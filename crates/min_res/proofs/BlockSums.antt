-- Sums of blocks as numbers.
use Rattle.std.proofs.Common.{◌≡◌, ◌↔◌, ℕ, suc, ◌<◌, Bool, List, IsTrue, ap, sym, ◌∙◌, arith}
use mathlib.Core.Path.{subst}
use Rattle.std.proofs.Math.Nat.{mod-eq_of_lt}
use Rattle.group_modules.specs.Field.{Below, residue}
use Rattle.group_modules.specs.Tables.{block-sum}
use Rattle.linear_algebra.proofs.Residues.{below-path}
use Rattle.p_groups.specs.PGroups.{PGroup, largest_residue, group}
use Rattle.group_algebra.specs.Coordinates.{table_of}
use Rattle.min_res.specs.RecordChecks.{HasSumZero}

residue-zero : (q : ℕ) → (residue q 0).0 ≡ 0
residue-zero q = mod-eq_of_lt (let l : 0 < suc q = omega arith in l)

module _ (G : PGroup) (m : ℕ) (x : List ℕ) (i : Below m) (n : ℕ) where
  -- n is the sum of block i
  abbrev IsSum : Type 0
  IsSum = (l : i.0 < m)
      → n ≡ (block-sum (largest_residue G) (group G) m (table_of G m x) (i.0, l)).0

  pub sum-zero : IsSum → n ≡ 0 → HasSumZero G m x i
  sum-zero v e = below-path _ (residue (largest_residue G) 0)
      (sym (v i.1) ∙ e ∙ sym (residue-zero (largest_residue G)))

  pub zero-sum : IsSum → HasSumZero G m x i → n ≡ 0
  zero-sum v h = v i.1 ∙ ap (λ (b : Below (suc (largest_residue G))). b.0) h
      ∙ residue-zero (largest_residue G)

-- the same at an equal number of blocks
pub sums-at : (G : PGroup) (x : List ℕ) (block : ℕ) (t : Bool) (m n : ℕ) → m ≡ n
    → ((l : block < m) → IsTrue t ↔ HasSumZero G m x (block, l)) → (l : block < n)
    → IsTrue t ↔ HasSumZero G n x (block, l)
sums-at G x block t m n e h =
    subst (λ (k : ℕ). (l : block < k) → IsTrue t ↔ HasSumZero G k x (block, l)) e h

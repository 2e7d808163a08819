-- An elementary abelian subgroup as a group of its own, on the numbers of its elements.
use Rattle.std.specs.Prelude.{◌≡◌, ℕ, zero, suc, ◌+◌, ◌*◌, ◌/◌, ◌%◌, ◌^◌, ◌<◌, List, length, map}
use Rattle.group_table.specs.Tables.{GroupTable, order, product}
use Rattle.elementary_subgroups.specs.Sets.{IsIn}
use Rattle.elementary_subgroups.specs.Bases.{embed, numbers, NumberedSubgroup}

-- the number whose digits to the base p are the sums, modulo p, of the first r digits of a and b
abbrev pub digit_sum : ℕ → ℕ → ℕ → ℕ → ℕ
digit_sum p zero a b = 0
digit_sum p (suc r) a b = digit_sum p r (a / p) (b / p) * p + (a % p + b % p) % p

-- the entries of the table of mul on the numbers below n, row by row
abbrev pub entries_of : ℕ → (ℕ → ℕ → ℕ) → List ℕ
entries_of n mul = map (λ k. mul (k / n) (k % n)) (numbers (n * n))

-- the elementary abelian group of rank r: the numbers below p^r under the sum of digits
abbrev pub elementary_group : ℕ → ℕ → GroupTable
elementary_group p r = record { p = p; n = r; entries = entries_of (p ^ r) (digit_sum p r) }

-- the group in which element e stands for its image: the images have the products of G,
-- and are the members once each
pub record IsOwnGroup (G : GroupTable) (s : NumberedSubgroup) (E : GroupTable) : Type 0 where
  pub same_prime : E.p ≡ G.p
  pub rank_is : E.n ≡ length s.basis
  pub products : (e f : ℕ) → e < order E → f < order E →
      embed G s.basis (product E e f) ≡ product G (embed G s.basis e) (embed G s.basis f)
  pub one_to_one : (e f : ℕ) → e < order E → f < order E → embed G s.basis e ≡ embed G s.basis f → e ≡ f
  pub within : (e : ℕ) → e < order E → IsIn (embed G s.basis e) s.members
  pub onto : (x : ℕ) → IsIn x s.members → (e : ℕ) × (e < order E) × (embed G s.basis e ≡ x)

-- The embedding of an elementary abelian subgroup, by its basis, and the restriction of classes to the
-- subgroup.
use Rattle.std.specs.Prelude.{ℕ, ◌%◌, List, length, slice_index}
use Rattle.std.proofs.Math.Nat.{lt_trans, mod-lt, zero-lt-suc}
use Rattle.linear_algebra.proofs.Fields.{field_of_prime}
use Rattle.group_modules.specs.Field.{Below}
use Rattle.p_groups.specs.PGroups.{PGroup, order_of, prime_of}
use Rattle.elementary_subgroups.specs.Bases.{embed}
use Rattle.elementary_subgroups.specs.OwnGroups.{elementary_group}
use Rattle.elementary_subgroups.proofs.ElementaryGroups.{elementary_is_group}
use Rattle.chain_lift.specs.MapsAlong.{TableOverPrimeOf, with_table, restricted_row}

-- the table of the elementary abelian group of rank s for the prime of G
unfoldable pub elementary_over : (G : PGroup) → ℕ → TableOverPrimeOf G
elementary_over G s = record {
  rank = s;
  entries = (elementary_group (prime_of G) s).entries;
  law = elementary_is_group (prime_of G) s
      (lt_trans (zero-lt-suc 0) (field_of_prime (prime_of G) G.law.prime).above_one);
}

-- this group: subgroups of one rank have the same, each in its own numbering
abbrev pub elementary : PGroup → ℕ → PGroup
elementary G s = with_table G (elementary_over G s)

-- the element of G with the number k modulo the order
abbrev pub element_of : (G : PGroup) → ℕ → Below (order_of G)
element_of G k = (k % order_of G, mod-lt k G.law.law.some)

module _ (G : PGroup) (basis : List ℕ) where
  -- e goes to the product of the basis members with the digits of e as exponents; for the basis of a
  -- subgroup nothing is reduced modulo the order
  abbrev pub embedding : Below (order_of (elementary G (length basis))) → Below (order_of G)
  embedding e = element_of G (embed G.table basis e.0)

  -- the restriction of a class of degree d to the subgroup with this basis
  abbrev pub restrict_row : ℕ → List ℕ → List ℕ
  restrict_row d x = restricted_row G (elementary_over G (length basis)) embedding d x

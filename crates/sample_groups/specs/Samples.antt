-- The products of small groups that the digits of a number name.
use Rattle.std.specs.Prelude.{◌≡◌, ℕ, zero, suc, ◌+◌, ◌-◌, ◌%◌, ◌^◌, ◌≤◌, cond, leb, List, [], ◌∷◌, decimal}
use Rattle.power_commutator.specs.Presentations.{Presentation, IsPresentation}
use Rattle.pc_group.specs.Parts.{elementary_abelian, with_power, with_commutator}
use Rattle.sample_groups.specs.Products.{direct_product}

-- the cyclic groups of order 2, 4 and 8
abbrev pub two : Presentation
two = elementary_abelian 2 1

abbrev pub four : Presentation
four = with_power (elementary_abelian 2 2) 1 (0 ∷ 1 ∷ [])

abbrev pub eight : Presentation
eight = with_power (with_power (elementary_abelian 2 3) 1 (0 ∷ 1 ∷ 0 ∷ [])) 2 (0 ∷ 0 ∷ 1 ∷ [])

-- the dihedral and the quaternion group of order 8
abbrev pub dihedral : Presentation
dihedral = with_commutator (elementary_abelian 2 3) 2 1 (0 ∷ 0 ∷ 1 ∷ [])

abbrev pub quaternion : Presentation
quaternion = with_power (with_power dihedral 1 (0 ∷ 0 ∷ 1 ∷ [])) 2 (0 ∷ 0 ∷ 1 ∷ [])

-- the factor that a digit names, modulo 5
abbrev pub factor_of : ℕ → Presentation
factor_of zero = two
factor_of (suc zero) = four
factor_of (suc (suc zero)) = eight
factor_of (suc (suc (suc zero))) = dihedral
factor_of (suc (suc (suc (suc d)))) = quaternion

-- P with one more factor, which is left out where the order would be above 64
abbrev pub with_factor : Presentation → Presentation → Presentation
with_factor P F = cond (leb (2 ^ (P.gens + F.gens)) 64) (direct_product P F) P

-- P with the factors that the digits name, from left to right
abbrev pub with_digits : Presentation → List ℕ → Presentation
with_digits P [] = P
with_digits P (b ∷ digits) = with_digits (with_factor P (factor_of ((b - 48) % 5))) digits

-- the product that the decimal digits of k name
abbrev pub sample : ℕ → Presentation
sample k = with_digits (elementary_abelian 2 0) (decimal k)

-- a presentation of a group of order 2^n, with n at most m
pub record IsSmall (m : ℕ) (P : Presentation) : Type 0 where
  pub valid : IsPresentation P
  pub prime : P.prime ≡ 2
  pub few : P.gens ≤ m

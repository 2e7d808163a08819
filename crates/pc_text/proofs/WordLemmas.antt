-- Reading a word, piece by piece.
use Rattle.std.proofs.Common.{◌≡◌, ℕ, ◌+◌, ◌-◌, ◌≤◌, ◌^◌, ◌==◌, List, ◌∷◌, length, set, replicate, Some, None}
use Rattle.std.proofs.Common.{Err, refl}
use Rattle.std.specs.List.{slice_split}
use Rattle.pc_text.specs.declared.fault.Kind.TheVariants as kind
use Rattle.pc_text.specs.Words.{Naming, factor, above, factors}

abbrev pub pieces : List ℕ → List (List ℕ)
pieces bytes = slice_split (λ b. b == 42) bytes

-- what is left to read gives what the whole gives
pub record Going (names : Naming) (least column : ℕ) (bytes : List ℕ) (last at : ℕ)
    (exponents rest : List ℕ) : Type 0 where
  pub same : factors names last at exponents (pieces rest) ≡ factors names least column
      (replicate names.gens 0) (pieces bytes)
  pub columns : at + length rest ≤ 2 ^ 20
  pub len : length exponents ≡ names.gens

pub bad_piece : (names : Naming) (last at : ℕ) (exponents rest piece : List ℕ) (more : List (List ℕ))
    → pieces rest ≡ piece ∷ more → above last (factor names piece) ≡ None
    → factors names last at exponents (pieces rest) ≡ Err (record { kind = kind.BadWord; column = at })
bad_piece names last at exponents rest piece more cut none = rw (cut, none) refl

pub good_piece : (names : Naming) (last at k e : ℕ) (exponents rest piece : List ℕ) (more : List (List ℕ))
    → pieces rest ≡ piece ∷ more → above last (factor names piece) ≡ Some (k, e)
    → factors names last at exponents (pieces rest) ≡ factors names k (at + length piece + 1)
    (set exponents (k - 1) e) more
good_piece names last at k e exponents rest piece more cut some = rw (cut, some) refl

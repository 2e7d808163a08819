-- The numbers of a presentation's words, and the answers of its tests.
use Rattle.std.specs.Prelude.{◌≡◌, ℕ, ◌+◌, ◌*◌, ◌/◌, ◌%◌, ◌^◌, ◌<◌, suc, Result, MatchResult, Some, None}
use Rattle.power_commutator.specs.Presentations.{Presentation as Presented, number, power_word}
use Rattle.power_commutator.specs.Presentations.{commutator_word, product, equations, first_false}
use Rattle.power_commutator.specs.Presentations.{first_fault}
use Rattle.power_commutator.specs.declared.TestName.{TestName}
use Rattle.pc_group.specs.Tables.{Each}
use Rattle.pc_group.specs.Squares.{IsTableOf}
use Rattle.pc_group.specs.declared.square.Square.{Square}
use Rattle.pc_group.specs.declared.word_numbers.WordNumbers.{WordNumbers}

-- x, below p^n, is the number of the word of g_j^p
abbrev pub IsPowerNumber : Presented → ℕ → ℕ → Type 0
IsPowerNumber P j x = (0 < j → x ≡ number P.prime (power_word P j)) × x < P.prime ^ P.gens

-- x, below p^n, is the number of the word of [g_k, g_j], which stands at place k (n + 1) + j
abbrev pub IsCommutatorNumber : Presented → ℕ → ℕ → Type 0
IsCommutatorNumber P place x =
    let k = place / (P.gens + 1) in
    let j = place % (P.gens + 1) in
    (0 < j → j < k → x ≡ number P.prime (commutator_word P k j)) × x < P.prime ^ P.gens

-- W has the numbers of the words of P
pub record AreWordNumbers (P : Presented) (W : WordNumbers) : Type 0 where
  pub powers-are : Each (IsPowerNumber P) (P.gens + 1) W.powers.items
  pub commutators-are : Each (IsCommutatorNumber P) ((P.gens + 1) * (P.gens + 1)) W.commutators.items

-- no test of layer i is false, and this is its product; or the name is that of the first false one
abbrev pub IsStepOf : Presented → (i m : ℕ) → Result Square TestName → Type 0
IsStepOf P i m r =
    let fault = first_false (equations P (product P (suc i) m) i m) in
    MatchResult r (λ table. (fault ≡ None) × IsTableOf P i (suc m) table) (λ name. fault ≡ Some name)

-- no test is false, and this is the product of layer 1; or the name is that of the first false test
abbrev pub IsOutcomeOf : Presented → Result Square TestName → Type 0
IsOutcomeOf P r =
    MatchResult r (λ table. (first_fault P ≡ None) × IsTableOf P 1 P.gens table)
    (λ name. first_fault P ≡ Some name)

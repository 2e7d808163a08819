-- The exponents before k keep the rules.
use Rattle.std.proofs.Common.{◌≡◌, ℕ, ◌<◌, get_or}
use Rattle.presentation_tests.proofs.collection.is_word.Given as goal

abbrev pub invariant-loop-k : goal.invariant-loop-k
invariant-loop-k l = record {
  small : (i : ℕ) → i < l.k → get_or l.exponents i 0 < l.prime;
  later : (i : ℕ) → i < l.k → i < l.j → get_or l.exponents i 0 ≡ 0;
}

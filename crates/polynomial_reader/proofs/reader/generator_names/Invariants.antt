use Rattle.std.proofs.Common.{◌≡◌, ℕ, ◌<◌, [], map, length, get_or}
use Rattle.graded_polynomials.specs.Texts.{name}
use Rattle.polynomial_reader.proofs.reader.generator_names.Given as goal

abbrev pub invariant-loop-i : goal.invariant-loop-i
invariant-loop-i l = record {
  number : length l.names.items ≡ l.i;
  each : (k : ℕ) → k < l.i → get_or (map (λ n. n.items) l.names.items) k [] ≡ name l.gens.degrees k;
}

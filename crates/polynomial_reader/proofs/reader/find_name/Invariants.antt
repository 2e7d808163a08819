use Rattle.std.proofs.Common.{◌≢◌, ℕ, ◌<◌, [], map, get_or}
use Rattle.polynomial_reader.proofs.reader.find_name.Given as goal

abbrev pub invariant-loop-i : goal.invariant-loop-i
invariant-loop-i l = (k : ℕ) → k < l.i → get_or (map (λ n. n.items) l.names) k [] ≢ l.name

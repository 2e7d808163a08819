use Rattle.std.proofs.Common.{◌≡◌, drop}
use Rattle.stage_records.specs.Readings.{are_places, numbers_in}
use Rattle.stage_file.proofs.bytes.are_places.Given as goal

abbrev pub invariant-loop-i : goal.invariant-loop-i
invariant-loop-i l = are_places 0 l.top (numbers_in l.count l.bytes) ≡ are_places l.last l.top
    (drop l.i (numbers_in l.count l.bytes))

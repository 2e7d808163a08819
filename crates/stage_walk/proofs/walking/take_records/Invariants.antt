use Rattle.std.proofs.Common.{◌≡◌, ◌+◌, ◌-◌, ◌*◌, ◌≤◌}
use Rattle.coho_io.specs.Causes.{NoneFell}
use Rattle.stage_walk.specs.Dimensions.{Fit}
use Rattle.stage_walk.proofs.Loops.{HasWalked}
use Rattle.stage_walk.proofs.walking.take_records.Given as goal

abbrev pub invariant-loop-alloc : goal.invariant-loop-alloc
invariant-loop-alloc g l = record {
  group : l.resolution.group ≡ l.fn.resolution.group;
  computed : l.resolution.computed ≡ l.fn.resolution.computed;
  last : l.resolution.last ≤ l.n;
  fit : Fit l.fn.resolution.group l.resolution.last;
  low : l.at ≤ 40 + l.resolution.last * 33554432;
  same : g.F.Files.content l.files ≡ g.F.Files.content l.fn.files;
  later : NoneFell (g.F.Files.read_faults l.fn.files) (g.F.Files.read_faults l.files);
  later_writes : NoneFell (g.F.Files.write_faults l.fn.files) (g.F.Files.write_faults l.files);
  walked : HasWalked l.fn.resolution.group l.path (g.F.Files.content l.fn.files) l.n l.resolution.last l.at;
}

abbrev pub decreases-loop-alloc : goal.decreases-loop-alloc
decreases-loop-alloc g l = l.n - l.resolution.last

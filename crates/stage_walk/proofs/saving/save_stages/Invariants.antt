use Rattle.std.proofs.Common.{◌≡◌, ◌+◌, ◌≤◌}
use Rattle.coho_io.specs.Causes.{NoneFell}
use Rattle.stage_walk.specs.Asked.{path_of}
use Rattle.stage_walk.specs.Dimensions.{Fit}
use Rattle.stage_walk.specs.Growing.{Holds, file_with}
use Rattle.stage_walk.proofs.saving.save_stages.Given as goal

abbrev pub invariant-loop-i : goal.invariant-loop-i
invariant-loop-i g l = record {
  group : l.resolution.group ≡ l.fn.resolution.group;
  from : l.i ≤ l.resolution.last;
  to : l.resolution.last ≤ l.n;
  computed : l.resolution.computed + l.fn.resolution.last ≡ l.fn.resolution.computed + l.resolution.last;
  fit : Fit l.fn.resolution.group l.resolution.last;
  held : Holds (path_of l.save) (file_with l.header l.fn.resolution.group l.i)
      (g.F.Files.content l.fn.files) (g.F.Files.content l.files);
  later : NoneFell (g.F.Files.read_faults l.fn.files) (g.F.Files.read_faults l.files);
  later_writes : NoneFell (g.F.Files.write_faults l.fn.files) (g.F.Files.write_faults l.files);
}

use Rattle.std.proofs.Common.{◌≡◌, ◌-◌, ◌≤◌, Some, length}
use Rattle.coho_io.specs.Causes.{NoneFell}
use Rattle.coho_io.specs.Content.{Content, file}
use Rattle.coho_io.specs.Pieces.{IsFrontFrom}
use Rattle.coho_io.proofs.pieces.read_to.Given as goal

abbrev pub invariant-loop-bytes : goal.invariant-loop-bytes
invariant-loop-bytes g l = record {
  bound : length l.bytes.items ≤ l.len;
  same : g.F.Files.content l.files ≡ g.F.Files.content l.fn.files;
  later : NoneFell (g.F.Files.read_faults l.fn.files) (g.F.Files.read_faults l.files);
  later_writes : NoneFell (g.F.Files.write_faults l.fn.files) (g.F.Files.write_faults l.files);
  front : (told : Content) → g.F.Files.content l.fn.files ≡ Some told
      → IsFrontFrom (file told l.path) l.from l.fn.bytes.items
      → IsFrontFrom (file told l.path) l.from l.bytes.items;
}

abbrev pub decreases-loop-bytes : goal.decreases-loop-bytes
decreases-loop-bytes g l = l.len - length l.bytes.items

use Rattle.std.proofs.Common.{◌≤◌, take}
use Rattle.std.specs.List.{concat}
use Rattle.std.specs.Io.KnownBytes.{Appends}
use Rattle.coho_steps.specs.Lines.{contents}
use Rattle.coho_steps.proofs.writing.write_lines.Given as goal

abbrev pub invariant-loop-line : goal.invariant-loop-line
invariant-loop-line g l = record {
  written : Appends (g.O.Sink.written l.fn.out) (g.O.Sink.written l.out)
      (concat (contents (take l.line-index l.lines)));
  later : g.O.Sink.faults l.fn.out ≤ g.O.Sink.faults l.out;
}

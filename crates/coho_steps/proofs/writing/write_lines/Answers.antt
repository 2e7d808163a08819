use Rattle.std.proofs.Common.{List, ℕ, Vec, Global, arith}
use Rattle.coho_steps.proofs.Written.{lines_front, lines_more}
use Rattle.coho_steps.proofs.writing.write_lines.Goals as goal

abbrev bytes : Vec ℕ Global → List ℕ
bytes line = line.items

pub returns-in-Err-Failed-clause-err : goal.returns-in-Err-Failed-clause-err
returns-in-Err-Failed-clause-err g c = lines_front bytes (g.O.Sink.written c.args.out.now)
    (g.O.Sink.written c.loop-line.out) (g.O.Sink.written c.write.new.self) c.args.lines.now
    c.loop-line.line-index c.line-item.result c.deref.result.now
    (omega arith) c.line-item.is c.deref.ensures.value c.loop-line.invariant.written
    c.in-Err-Failed.ensures.err

pub returns-in-Err-Memory-clause-err : goal.returns-in-Err-Memory-clause-err
returns-in-Err-Memory-clause-err g c = lines_front bytes (g.O.Sink.written c.args.out.now)
    (g.O.Sink.written c.loop-line.out) (g.O.Sink.written c.write.new.self) c.args.lines.now
    c.loop-line.line-index c.line-item.result c.deref.result.now
    (omega arith) c.line-item.is c.deref.ensures.value c.loop-line.invariant.written
    c.in-Err-Memory.ensures.err

pub loop-line-preserved : goal.loop-line-preserved
loop-line-preserved g c = record {
  written = lines_more bytes (g.O.Sink.written c.args.out.now) (g.O.Sink.written c.loop-line.out)
      (g.O.Sink.written c.write.new.self) c.args.lines.now c.loop-line.line-index c.line-item.result
      c.deref.result.now (omega arith) c.line-item.is c.deref.ensures.value c.loop-line.invariant.written
      c.in-Ok.ensures.ok;
  later = omega (arith, c.in-Ok.ensures.later, c.loop-line.invariant.later);
}

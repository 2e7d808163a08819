use Rattle.std.proofs.Common.{arith, sym}
use Rattle.pc_text.specs.Views.{names_of}
use Rattle.pc_text.specs.Views.{shown, all_shown}
use Rattle.pc_text.proofs.TextLemmas.{good_line, bad_line, open_line}
use Rattle.pc_text.proofs.texts.next_relation.Goals as goal

pub returns-in_default-clause-err : goal.returns-in_default-clause-err
returns-in_default-clause-err c =
    rw c.at.ensures (open_line (names_of c.args.generators)
    (all_shown c.args.found.now) c.args.number c.args.text.now
    (sym c.in_default.ensures.cut) c.requires.more)

pub returns-in-Ok-clause-ok : goal.returns-in-Ok-clause-ok
returns-in-Ok-clause-ok c = record {
  same = good_line (names_of c.args.generators) (all_shown c.args.found.now)
      (shown c.in-Ok.relation) c.args.number c.args.text.now c.in-Some.bytes.now c.in-Some.next.now
      (sym c.in-Some.ensures.cut) c.in-Ok.ensures.gives;
  less = omega (arith, c.in-Some.ensures.len);
}

pub returns-in-Err-clause-err : goal.returns-in-Err-clause-err
returns-in-Err-clause-err c =
    rw c.in_line.ensures (bad_line (names_of c.args.generators)
    (all_shown c.args.found.now) c.in-Err.stop c.args.number c.args.text.now c.in-Some.bytes.now
    c.in-Some.next.now (sym c.in-Some.ensures.cut) c.in-Err.ensures.gives)

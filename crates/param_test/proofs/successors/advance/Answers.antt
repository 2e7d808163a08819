use Rattle.std.proofs.Common.{◌≡◌, ◌+◌, ◌<◌, ◌≤◌, arith, subst, sym, ap, ◌∙◌, length, ◌++◌, ◌∷◌, []}
use Rattle.param_test.specs.Odometers.{AreOnes, run}
use Rattle.param_test.proofs.Lists.{length-snoc}
use Rattle.param_test.proofs.Steps.{room-le}
use Rattle.param_test.proofs.Odometer.{successor-turn, successor-shift, successor-longer, all-past}
use Rattle.param_test.proofs.Odometer.{below-each, ones-snoc}
use Rattle.param_test.proofs.successors.advance.Goals as goal

pub returns-then-turn-clause-successor : goal.returns-then-turn-clause-successor
returns-then-turn-clause-successor c =
    λ _. successor-turn c.args.p c.args.n c.requires.prime c.args.a.now.items c.args.c.now.items
    c.turn.new.c.items c.requires.sparse (c.turn.ensures.turned c.if-turn.true)

pub shift-requires : goal.shift-requires
shift-requires c = below-each 0 c.args.n c.args.a.now.items c.requires.sparse.ascends

pub returns-then-shift-clause-successor : goal.returns-then-shift-clause-successor
returns-then-shift-clause-successor c =
    λ _. successor-shift c.args.p c.args.n c.requires.prime c.args.a.now.items c.args.c.now.items
    c.shift.new.a.items c.turn.new.c.items c.requires.sparse
    (c.turn.ensures.top c.if-turn.false) (c.shift.ensures.shifted c.if-shift.true)
    (c.turn.ensures.ones c.if-turn.false) c.turn.ensures.same_length

pub returns-then-len-n-clause-last : goal.returns-then-len-n-clause-last
returns-then-len-n-clause-last c = λ _ e f v.
    let s : length c.shift.new.a.items ≡ length c.args.a.now.items =
    ap length (c.shift.ensures.same c.if-shift.false) in
    let r : 0 + length c.args.a.now.items ≤ c.args.n =
    room-le c.args.n 0 c.args.a.now.items (omega arith) c.requires.sparse.ascends in
    let m : length c.args.a.now.items ≡ c.args.n = omega arith in
    all-past c.args.p c.args.n c.requires.prime c.args.a.now.items c.args.c.now.items e f c.requires.sparse
    (c.turn.ensures.top c.if-turn.false) (c.shift.ensures.last c.if-shift.false) m v

pub returns-clause-successor : goal.returns-clause-successor
returns-clause-successor c = λ _.
    let s : length c.shift.new.a.items ≡ length c.args.a.now.items =
    ap length (c.shift.ensures.same c.if-shift.false) in
    let l : length c.args.a.now.items < c.args.n = omega arith in
    let q : c.lengthen.new.a.items ≡ run 0 (length c.args.a.now.items + 1) =
    c.in_ok-lengthen.ensures ∙ ap (λ z. run 0 (z + 1)) s in
    let i : c.push.new.self.items ≡ c.turn.new.c.items ++ 1 ∷ [] = c.in_ok-push.ensures.items in
    let o : AreOnes c.push.new.self.items =
    subst (λ z. AreOnes z) (sym i) (ones-snoc c.turn.new.c.items (c.turn.ensures.ones c.if-turn.false)) in
    let m : length c.push.new.self.items ≡ length c.args.c.now.items + 1 =
    ap length i ∙ length-snoc c.turn.new.c.items 1 ∙ ap (λ z. z + 1) c.turn.ensures.same_length in
    successor-longer c.args.p c.args.n c.requires.prime c.args.a.now.items c.args.c.now.items
    c.lengthen.new.a.items c.push.new.self.items c.requires.sparse
    (c.turn.ensures.top c.if-turn.false) (c.shift.ensures.last c.if-shift.false) l q o m

use Rattle.std.proofs.Common.{◌≡◌, ◌+◌, ◌<◌, arith, sym, refl, ap, ◌∙◌, ◌≢◌, length}
use Rattle.std.specs.Prelude.{slice_index}
use Rattle.param_test.specs.Tuples.{total}
use Rattle.param_test.proofs.Standing.{stands-all, stands-push, push-smaller, stands-pop, pop-smaller}
use Rattle.param_test.proofs.Standing.{stands-skip, next-smaller, stands-visit, stands-found, stands-next}
use Rattle.param_test.proofs.Standing.{stands-limit}
use Rattle.param_test.proofs.Tables.{all-candidates}
use Rattle.param_test.proofs.walk.search_degree.Goals as goal

pub fits-requires-clause-inside : goal.fits-requires-clause-inside
fits-requires-clause-inside c = stands-all _ _ _ _ _ _ _ _ c.deref.ensures.value c.loop-left.invariant

pub returns-in-None-clause-on : goal.returns-in-None-clause-on
returns-in-None-clause-on c = let n : length c.loop-left.pre.items ≡ 0 =
    omega (arith, c.in-None.ensures.cases.0) in
    λ l. stands-next _ _ _ _ c.requires.by_degree _ _ _ _ c.deref.ensures.value
    (c.if-not-fits.ensures.no refl) n c.loop-left.invariant

pub overflow_add-next : goal.overflow_add-next
overflow_add-next c = let s = stands-pop _ _ _ _ c.requires.by_degree _ _ _ _ _ _ c.deref.ensures.value
    (c.if-not-fits.ensures.no refl) c.in-Some.ensures.items c.loop-left.invariant in omega (arith, s.within)

pub loop-left-smaller-in-Some : goal.loop-left-smaller-in-Some
loop-left-smaller-in-Some c = pop-smaller _ _ _ _ _ _ _ _ _ c.in-Some.ensures.items c.loop-left.invariant

pub loop-left-preserved-in-Some : goal.loop-left-preserved-in-Some
loop-left-preserved-in-Some c = stands-pop _ _ _ _ c.requires.by_degree _ _ _ _ _ _ c.deref.ensures.value
    (c.if-not-fits.ensures.no refl) c.in-Some.ensures.items c.loop-left.invariant

pub loop-left-smaller-then-len-r : goal.loop-left-smaller-then-len-r
loop-left-smaller-then-len-r c =
    let n : length c.loop-left.pre.items + 1 < c.args.r = omega arith in
    push-smaller _ _ _ _ _ _ _ _ n c.in_ok-push.ensures.items c.loop-left.invariant

pub loop-left-preserved-then-len-r : goal.loop-left-preserved-then-len-r
loop-left-preserved-then-len-r c =
    let n : length c.loop-left.pre.items + 1 < c.args.r = omega arith in
    stands-push _ _ _ _ c.requires.by_degree _ _ _ _ _ c.deref.ensures.value (c.if-not-fits.ensures.yes refl)
    n c.in_ok-push.ensures.items c.loop-left.invariant

pub total-requires-clause-inside : goal.total-requires-clause-inside
total-requires-clause-inside c =
    stands-all _ _ _ _ _ _ _ _ c.deref-else-len-r.ensures.value c.loop-left.invariant

pub loop-left-smaller-then-total-degrees : goal.loop-left-smaller-then-total-degrees
loop-left-smaller-then-total-degrees c =
    let n : length c.loop-left.pre.items + 1 < c.args.r → ⊥ = omega arith in
    next-smaller _ _ _ _ _ _ _ _ _ c.deref.ensures.value (c.if-not-fits.ensures.yes refl) n refl
    c.loop-left.invariant

pub loop-left-preserved-then-total-degrees : goal.loop-left-preserved-then-total-degrees
loop-left-preserved-then-total-degrees c =
    let n : length c.loop-left.pre.items + 1 < c.args.r → ⊥ = omega arith in
    let e : c.deref.result.now ≡ c.loop-left.pre.items = c.deref.ensures.value in
    let e2 : c.deref-else-len-r.result.now ≡ c.loop-left.pre.items = c.deref-else-len-r.ensures.value in
    let t : total c.args.degrees.now c.deref.result.now
    ≡ total c.args.degrees.now c.deref-else-len-r.result.now =
    ap (total c.args.degrees.now) (e ∙ sym e2) in
    let k : total c.args.degrees.now c.deref.result.now + slice_index c.args.degrees.now c.loop-left.next
    ≢ c.args.sum = omega arith in
    stands-skip _ _ _ _ c.requires.by_degree _ _ _ _ e (c.if-not-fits.ensures.yes refl) n k
    c.loop-left.invariant

pub loop-left-preserved : goal.loop-left-preserved
loop-left-preserved c =
    let n : length c.loop-left.pre.items + 1 < c.args.r → ⊥ = omega arith in
    let e : c.deref.result.now ≡ c.loop-left.pre.items = c.deref.ensures.value in
    let e2 : c.deref-else-len-r.result.now ≡ c.loop-left.pre.items = c.deref-else-len-r.ensures.value in
    let t : total c.args.degrees.now c.deref.result.now
    ≡ total c.args.degrees.now c.deref-else-len-r.result.now =
    ap (total c.args.degrees.now) (e ∙ sym e2) in
    let k : total c.args.degrees.now c.deref.result.now + slice_index c.args.degrees.now c.loop-left.next
    ≡ c.args.sum = omega arith in
    let l : 0 < c.loop-left.left = c.loop-left-test.true in
    let w = c.in_ok-try_tuple.ensures.no c.if-branch.false in
    stands-visit _ _ _ _ c.requires.by_degree _ _ _ _ _ e (c.if-not-fits.ensures.yes refl) n k w l
    (c.in_ok-try_tuple.ensures.failed c.if-branch.false) c.loop-left.invariant

pub loop-left-smaller : goal.loop-left-smaller
loop-left-smaller c =
    let n : length c.loop-left.pre.items + 1 < c.args.r → ⊥ = omega arith in
    next-smaller _ _ _ _ _ _ _ _ _ c.deref.ensures.value (c.if-not-fits.ensures.yes refl) n
    (c.in_ok-try_tuple.ensures.failed c.if-branch.false) c.loop-left.invariant

pub returns-then-branch-clause-found : goal.returns-then-branch-clause-found
returns-then-branch-clause-found c =
    let n : length c.loop-left.pre.items + 1 < c.args.r → ⊥ = omega arith in
    let e : c.deref.result.now ≡ c.loop-left.pre.items = c.deref.ensures.value in
    let e2 : c.deref-else-len-r.result.now ≡ c.loop-left.pre.items = c.deref-else-len-r.ensures.value in
    let t : total c.args.degrees.now c.deref.result.now
    ≡ total c.args.degrees.now c.deref-else-len-r.result.now =
    ap (total c.args.degrees.now) (e ∙ sym e2) in
    let k : total c.args.degrees.now c.deref.result.now + slice_index c.args.degrees.now c.loop-left.next
    ≡ c.args.sum = omega arith in
    let l : 0 < c.loop-left.left = c.loop-left-test.true in
    let w = c.in_ok-try_tuple.ensures.yes c.if-branch.true in
    stands-found _ _ _ _ c.requires.by_degree _ _ _ _ _ e (c.if-not-fits.ensures.yes refl) n k w l
    (c.in_ok-try_tuple.ensures.passed c.if-branch.true) c.loop-left.invariant

pub returns-clause-ended : goal.returns-clause-ended
returns-clause-ended c = λ e. stands-limit _ _ _ _ c.requires.by_degree _ _ _ e c.loop-left.invariant

pub try_tuple-requires-clause-inside : goal.try_tuple-requires-clause-inside
try_tuple-requires-clause-inside c =
    all-candidates c.args.table.now.candidates c.args.degrees.now c.loop-left.pre.items c.requires.degrees
    (stands-all _ _ _ _ _ c.loop-left.pre.items _ _ refl c.loop-left.invariant)

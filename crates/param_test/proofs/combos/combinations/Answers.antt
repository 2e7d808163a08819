use Rattle.std.proofs.Common.{◌≡◌, ◌+◌, ◌≤◌, ◌<◌, arith, subst, sym, ap, ◌∙◌, length, ◌++◌, ◌∷◌, []}
use Rattle.std.specs.List.{AllByRecursion as Each}
use Rattle.group_table.specs.Prime.{prime_value}
use Rattle.param_test.specs.Firsts.{AreFirst}
use Rattle.param_test.specs.Combinations.{IsCombination, IsBefore, places, coefficients}
use Rattle.param_test.specs.Odometers.{IsListed}
use Rattle.param_test.proofs.Lists.{length-snoc}
use Rattle.param_test.proofs.Products.{prime-above}
use Rattle.param_test.proofs.Dense.{listed-start, listed-more, listed-last, listed-enough}
use Rattle.param_test.proofs.combos.combinations.Goals as goal

pub loop-rows-init : goal.loop-rows-init
loop-rows-init c =
    let a : c.push.new.self.items ≡ 0 ∷ [] = c.in_ok-push.ensures.items
    ∙ ap (λ z. z ++ 0 ∷ []) c.new-places.ensures.items in
    let r : c.new-rows.result.rows ≡ [] = ap (λ z. z.rows) c.new-rows.ensures in
    let s : IsListed c.value-modulus.result c.args.count [] (0 ∷ []) [] =
    listed-start c.value-modulus.result c.args.count (omega arith)
    (let l = prime-above c.args.p in omega (arith, l, c.value-modulus.ensures)) in
    record {
      prime = ap (λ z. z.p) c.new-rows.ensures;
      width = ap (λ z. z.width) c.new-rows.ensures;
      few = let l : length c.new-rows.result.rows ≡ 0 = ap length r in omega arith;
      listed =
          subst
          (λ z. IsListed c.value-modulus.result c.args.count z c.push.new.self.items
          c.new-digits.result.items) (sym r)
          (subst (λ z. IsListed c.value-modulus.result c.args.count [] z c.new-digits.result.items) (sym a)
          (subst (λ z. IsListed c.value-modulus.result c.args.count [] (0 ∷ []) z)
          (sym c.new-digits.ensures.items) s));
    }

pub packed-requires : goal.packed-requires
packed-requires c =
    subst (Each (λ x. x < prime_value c.args.p)) (sym c.deref-in-loop-rows-2.ensures.value)
    (subst (λ q. Each (λ x. x < q) c.in_ok-entries.entries.items) c.value-modulus.ensures
    c.in_ok-entries.ensures.member.below)

pub returns-then-not-branch-clause-candidates : goal.returns-then-not-branch-clause-candidates
returns-then-not-branch-clause-candidates c =
    let i : c.push-in-loop-rows.new.self.rows ≡ c.loop-rows.rows.rows ++ c.in_ok-entries.entries.items ∷ [] =
    ap (λ z. z.rows) c.in_ok-push-2.ensures.pushed
    ∙ ap (λ z. c.loop-rows.rows.rows ++ z ∷ [])
    (c.view.ensures.entries ∙ ap (λ r. r.entries) c.in_ok-row.ensures
    ∙ c.deref-in-loop-rows-2.ensures.value) in
    let m : places c.in_ok-entries.entries.items ≡ c.loop-rows.places.items = c.in_ok-entries.ensures.places
    ∙ c.deref.ensures.value in
    let k : coefficients c.in_ok-entries.entries.items ≡ 1 ∷ c.loop-rows.digits.items =
    c.in_ok-entries.ensures.coefficients ∙ ap (λ z. 1 ∷ z) c.deref-in-loop-rows.ensures.value in
    let l : length c.loop-rows.rows.rows + 1 ≤ 63 = omega arith in
    subst (λ q. AreFirst (IsCombination q c.args.count) IsBefore 63 c.push-in-loop-rows.new.self.rows)
    c.value-modulus.ensures
    (subst (λ z. AreFirst (IsCombination c.value-modulus.result c.args.count) IsBefore 63 z) (sym i)
    (listed-last c.value-modulus.result c.args.count c.loop-rows.rows.rows c.loop-rows.places.items
    c.loop-rows.digits.items c.in_ok-entries.entries.items 63
    c.in_ok-entries.ensures.member m k l (c.in_ok-advance.ensures.last c.if-not-branch.true)
    c.loop-rows.invariant.listed))

pub loop-rows-preserved : goal.loop-rows-preserved
loop-rows-preserved c =
    let i : c.push-in-loop-rows.new.self.rows ≡ c.loop-rows.rows.rows ++ c.in_ok-entries.entries.items ∷ [] =
    ap (λ z. z.rows) c.in_ok-push-2.ensures.pushed
    ∙ ap (λ z. c.loop-rows.rows.rows ++ z ∷ [])
    (c.view.ensures.entries ∙ ap (λ r. r.entries) c.in_ok-row.ensures
    ∙ c.deref-in-loop-rows-2.ensures.value) in
    let m : places c.in_ok-entries.entries.items ≡ c.loop-rows.places.items = c.in_ok-entries.ensures.places
    ∙ c.deref.ensures.value in
    let k : coefficients c.in_ok-entries.entries.items ≡ 1 ∷ c.loop-rows.digits.items =
    c.in_ok-entries.ensures.coefficients ∙ ap (λ z. 1 ∷ z) c.deref-in-loop-rows.ensures.value in
    let n : length c.push-in-loop-rows.new.self.rows ≡ length c.loop-rows.rows.rows + 1 =
    ap length i ∙ length-snoc c.loop-rows.rows.rows c.in_ok-entries.entries.items in
    record {
      prime = ap (λ z. z.p) c.in_ok-push-2.ensures.pushed ∙ c.loop-rows.invariant.prime;
      width = ap (λ z. z.width) c.in_ok-push-2.ensures.pushed ∙ c.loop-rows.invariant.width;
      few = omega arith;
      listed =
          subst
          (λ z. IsListed c.value-modulus.result c.args.count z c.advance.new.a.items c.advance.new.c.items)
          (sym i)
          (listed-more c.value-modulus.result c.args.count c.loop-rows.rows.rows c.loop-rows.places.items
          c.loop-rows.digits.items c.advance.new.a.items c.advance.new.c.items
          c.in_ok-entries.entries.items c.in_ok-entries.ensures.member m k
          (c.in_ok-advance.ensures.successor c.if-not-branch.false) c.loop-rows.invariant.listed);
    }

pub returns-clause-candidates : goal.returns-clause-candidates
returns-clause-candidates c =
    let l : length c.loop-rows.rows.rows ≡ 63 = omega arith in
    subst (λ q. AreFirst (IsCombination q c.args.count) IsBefore 63 c.loop-rows.rows.rows)
    c.value-modulus.ensures
    (listed-enough c.value-modulus.result c.args.count c.loop-rows.rows.rows c.loop-rows.places.items
    c.loop-rows.digits.items 63 l c.loop-rows.invariant.listed)

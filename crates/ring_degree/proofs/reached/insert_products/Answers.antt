use Rattle.std.proofs.Common.{◌≡◌, ◌-◌, ◌+◌, ◌<◌, length, get_or, [], take, true, false, arith, sym, subst}
use Rattle.std.proofs.Common.{ap, ◌∙◌}
use Rattle.std.proofs.lemmas.List.{take_all}
use Rattle.std.proofs.lemmas.Option.{get_or_from_slice_get}
use Rattle.graded_polynomials.specs.Monomials.{IsMonomial, fits, joined}
use Rattle.graded_polynomials.specs.Texts.{power}
use Rattle.ring_degree.specs.Products.{Gains, IsProductWith}
use Rattle.ring_degree.proofs.Gaining.{gains-more, gains-same, gains-none, no-products, product-more}
use Rattle.ring_degree.proofs.Gaining.{product-same}
use Rattle.ring_degree.proofs.Lookups.{exponent-small, some-is, none-is}
use Rattle.ring_degree.proofs.reached.insert_products.Goals as goal
use Rattle.ring_degree.proofs.reached.insert_products.Goals.{in-Some+in_ok-insert-in-Some, in-None}

pub times-requires-clause-monomial : goal.times-requires-clause-monomial
times-requires-clause-monomial c = (
  c.requires.monomials.0,
  subst (IsMonomial (c.args.gens.now.prime - 1) c.args.gens.now.degrees c.requires.monomials.0)
      (get_or_from_slice_get c.args.monomials.now c.loop-k.k c.get.result.now [] c.get.ensures)
      (c.requires.monomials.2.each c.loop-k.k (omega arith)),
)

pub times-requires-clause-small : goal.times-requires-clause-small
times-requires-clause-small c =
    exponent-small c.args.gens.now c.requires.monomials.0 c.args.i c.get.result.now c.len-count.ensures.valid
    c.requires.monomials.1
    (subst (IsMonomial (c.args.gens.now.prime - 1) c.args.gens.now.degrees c.requires.monomials.0)
    (get_or_from_slice_get c.args.monomials.now c.loop-k.k c.get.result.now [] c.get.ensures)
    (c.requires.monomials.2.each c.loop-k.k (omega arith)))

pub loop-k-init : goal.loop-k-init
loop-k-init c = record {
  descending = c.requires.order;
  members = gains-none (IsProductWith (c.args.gens.now.prime - 1) c.args.gens.now.degrees c.args.i
      (take 0 c.args.monomials.now)) c.args.list.now.items
      (no-products (c.args.gens.now.prime - 1) c.args.gens.now.degrees c.args.i c.args.monomials.now);
}

pub loop-k-preserved : goal.loop-k-preserved
loop-k-preserved c =
    let q = c.args.gens.now.prime - 1 in
    let ds = c.args.gens.now.degrees in
    let l : c.loop-k.k < length c.args.monomials.now = omega arith in
    let s : get_or c.args.monomials.now c.loop-k.k [] ≡ c.get.result.now =
    get_or_from_slice_get c.args.monomials.now c.loop-k.k c.get.result.now [] c.get.ensures in
    elim c.match-branch-2.branch [
      | in-Some+in_ok-insert-in-Some w ↦
          let m : w.in-Some.m ≡ joined (power c.args.i 1) (get_or c.args.monomials.now c.loop-k.k []) =
          some-is (λ m. m ≡ joined (power c.args.i 1) c.get.result.now) c.in_ok-m.field-0 w.in-Some.m
          w.in-Some.is c.in_ok-m.ensures.some ∙ ap (joined (power c.args.i 1)) (sym s) in
          let f : fits (c.args.gens.now.prime - 1) c.args.gens.now.degrees
          (joined (power c.args.i 1) (get_or c.args.monomials.now c.loop-k.k [])) ≡ true =
          ap (λ x. fits (c.args.gens.now.prime - 1) c.args.gens.now.degrees (joined (power c.args.i 1) x)) s
          ∙ some-is (λ m. fits (c.args.gens.now.prime - 1) c.args.gens.now.degrees
          (joined (power c.args.i 1) c.get.result.now) ≡ true) c.in_ok-m.field-0 w.in-Some.m w.in-Some.is
          c.in_ok-m.ensures.fitting in
          rw w.list-is record {
            descending = w.in_ok-insert-in-Some.ensures.descending;
            members = gains-more (IsProductWith q ds c.args.i (take c.loop-k.k c.args.monomials.now))
                (λ n. n ≡ w.in-Some.m)
                (IsProductWith q ds c.args.i (take (c.loop-k.k + 1) c.args.monomials.now))
                c.args.list.now.items c.loop-k.list.items w.insert.new.list.items
                c.loop-k.invariant.members w.in_ok-insert-in-Some.ensures.members
                (product-more q ds c.args.i c.args.monomials.now c.loop-k.k l w.in-Some.m m f);
          }
      | in-None w ↦
          let f : fits (c.args.gens.now.prime - 1) c.args.gens.now.degrees
          (joined (power c.args.i 1) (get_or c.args.monomials.now c.loop-k.k [])) ≡ false =
          ap (λ x. fits (c.args.gens.now.prime - 1) c.args.gens.now.degrees (joined (power c.args.i 1) x)) s
          ∙ c.in_ok-m.ensures.none (none-is c.in_ok-m.field-0 w.in-None.is) in
          rw w.list-is record {
            descending = c.loop-k.invariant.descending;
            members = gains-same (IsProductWith q ds c.args.i (take c.loop-k.k c.args.monomials.now))
                (IsProductWith q ds c.args.i (take (c.loop-k.k + 1) c.args.monomials.now))
                c.args.list.now.items c.loop-k.list.items c.loop-k.invariant.members
                (product-same q ds c.args.i c.args.monomials.now c.loop-k.k l f);
          }
    ]

pub returns-clause-members : goal.returns-clause-members
returns-clause-members c = subst
    (λ ss. Gains (IsProductWith (c.args.gens.now.prime - 1) c.args.gens.now.degrees c.args.i ss)
    c.args.list.now.items c.loop-k.list.items)
    (take_all c.loop-k.k c.args.monomials.now (omega (arith, c.loop-k-test.false, c.len-k-end.ensures.value)))
    c.loop-k.invariant.members

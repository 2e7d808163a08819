use Rattle.std.proofs.Common.{◌≡◌, ℕ, ◌-◌, ◌<◌, ◌↔◌, List, length, arith, sym, subst, ap, ◌∙◌}
use Rattle.ring_completion.specs.Candidates.{AreSome, IsListed}
use Rattle.ring_degree.specs.Products.{IsProductWith}
use Rattle.ring_degree.specs.Tables.{at_generator, standard_at}
use Rattle.ring_degree.proofs.Gaining.{one-more}
use Rattle.ring_degree.proofs.Lookups.{standard-is, generator-below}
use Rattle.ring_degree.proofs.reached.reached.Goals as goal

pub insert_products-requires-clause-monomials : goal.insert_products-requires-clause-monomials
insert_products-requires-clause-monomials c =
    let b = generator-below c.args.gens.now.degrees (length c.args.tables.now) c.loop-i.i c.requires.below
    (omega arith) in
    let l : length c.args.tables.now - c.degree.result < length c.args.tables.now =
    omega (arith, b, c.degree.ensures.low) in (
      length c.args.tables.now - c.degree.result,
      omega (arith, c.requires.small),
      subst (AreSome (c.args.gens.now.prime - 1) c.args.gens.now.degrees
          (length c.args.tables.now - c.degree.result))
          (standard-is c.args.tables.now (length c.args.tables.now - c.degree.result)
          c.index-tables-tables.result l
          ∙ ap (λ t. t.standard) (sym c.index-tables-tables.is))
          (c.requires.tables.monomials (length c.args.tables.now - c.degree.result) l),
    )

pub loop-i-preserved : goal.loop-i-preserved
loop-i-preserved c =
    let b = generator-below c.args.gens.now.degrees (length c.args.tables.now) c.loop-i.i c.requires.below
    (omega arith) in
    let l : length c.args.tables.now - c.degree.result < length c.args.tables.now =
    omega (arith, b, c.degree.ensures.low) in
    let e : c.index-tables-tables.result.standard
    ≡ standard_at c.args.tables.now (length c.args.tables.now - at_generator c.args.gens.now.degrees
    c.loop-i.i) =
    ap (λ t. t.standard) c.index-tables-tables.is
    ∙ sym (standard-is c.args.tables.now (length c.args.tables.now - c.degree.result)
    c.index-tables-tables.result l)
    ∙ ap (λ d. standard_at c.args.tables.now (length c.args.tables.now - d)) c.degree.ensures.value in
    record {
      descending = c.in_ok-insert_products.ensures.descending;
      members = one-more
          (λ i m. IsProductWith (c.args.gens.now.prime - 1) c.args.gens.now.degrees i
          (standard_at c.args.tables.now (length c.args.tables.now - at_generator
          c.args.gens.now.degrees i)) m)
          (IsProductWith (c.args.gens.now.prime - 1) c.args.gens.now.degrees c.loop-i.i
          c.index-tables-tables.result.standard)
          c.loop-i.i c.loop-i.list.items c.insert_products.new.list.items c.loop-i.invariant.members
          c.in_ok-insert_products.ensures.members
          (λ m. (
            (λ p. subst (λ ss. IsProductWith (c.args.gens.now.prime - 1) c.args.gens.now.degrees c.loop-i.i
                ss m) e p),
            (λ p. subst (λ ss. IsProductWith (c.args.gens.now.prime - 1) c.args.gens.now.degrees c.loop-i.i
                ss m) (sym e) p),
          ));
    }

pub returns : goal.returns
returns c = rw c.in_ok-monomials.ensures record {
  descending = c.loop-i.invariant.descending;
  members = subst (λ n. (m : List ℕ) → IsListed c.loop-i.list.items m ↔ ((i : ℕ) × (i < n)
      × IsProductWith (c.args.gens.now.prime - 1) c.args.gens.now.degrees i
      (standard_at c.args.tables.now (length c.args.tables.now - at_generator c.args.gens.now.degrees i)) m))
      (let z : c.loop-i.i ≡ length c.args.gens.now.degrees = omega (
        arith,
        c.loop-i-test.false,
        c.loop-i.auto.i-end,
        c.len-i-end.ensures.value,
      ) in z)
      c.loop-i.invariant.members;
}

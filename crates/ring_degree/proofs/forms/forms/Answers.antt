use Rattle.std.proofs.Common.{◌≡◌, ℕ, ◌+◌, ◌-◌, ◌<◌, List, length, map, arith, sym, subst, ap, ◌∙◌}
use Rattle.std.proofs.lemmas.List.{length_push}
use Rattle.presentation_rows.specs.RowPolynomials.{row_of}
use Rattle.ring_completion.specs.Candidates.{AreSome}
use Rattle.ring_completion.specs.Completions.{generator_times}
use Rattle.ring_degree.specs.Products.{IsProductWith}
use Rattle.ring_degree.specs.Tables.{at_generator, standard_at}
use Rattle.ring_degree.proofs.FormMatrices.{IsFormMatrix, forms-shape, rows-of-form}
use Rattle.ring_degree.proofs.Lookups.{standard-is, generator-below}
use Rattle.ring_degree.proofs.Pushed.{each-pushed}
use Rattle.ring_degree.proofs.forms.forms.Goals as goal

pub form_rows-requires-clause-monomials : goal.form_rows-requires-clause-monomials
form_rows-requires-clause-monomials c =
    let b = generator-below c.args.gens.now.degrees (length c.args.tables.now) c.loop-i.i c.requires.below
    (omega arith) in
    let l : length c.args.tables.now - c.degree.result < length c.args.tables.now =
    omega (arith, b, c.degree.ensures.low) in (
      length c.args.tables.now - c.degree.result,
      omega (arith, c.requires.small),
      subst (AreSome (c.args.gens.now.prime - 1) c.args.gens.now.degrees
          (length c.args.tables.now - c.degree.result))
          (standard-is c.args.tables.now (length c.args.tables.now - c.degree.result)
          c.index-tables-tables.result l
          ∙ ap (λ t. t.standard) (sym c.index-tables-tables.is))
          (c.requires.tables.monomials (length c.args.tables.now - c.degree.result) l),
    )

pub form_rows-requires-clause-listed : goal.form_rows-requires-clause-listed
form_rows-requires-clause-listed c m p =
    let b = generator-below c.args.gens.now.degrees (length c.args.tables.now) c.loop-i.i c.requires.below
    (omega arith) in
    let l : length c.args.tables.now - c.degree.result < length c.args.tables.now =
    omega (arith, b, c.degree.ensures.low) in
    let e : c.index-tables-tables.result.standard
    ≡ standard_at c.args.tables.now (length c.args.tables.now - at_generator c.args.gens.now.degrees
    c.loop-i.i) =
    ap (λ t. t.standard) c.index-tables-tables.is
    ∙ sym (standard-is c.args.tables.now (length c.args.tables.now - c.degree.result)
    c.index-tables-tables.result l)
    ∙ ap (λ d. standard_at c.args.tables.now (length c.args.tables.now - d)) c.degree.ensures.value in
    (c.requires.list.members m).1 (
      c.loop-i.i,
      omega arith,
      subst (λ ss. IsProductWith (c.args.gens.now.prime - 1) c.args.gens.now.degrees c.loop-i.i ss m) e p,
    )

pub loop-i-preserved : goal.loop-i-preserved
loop-i-preserved c =
    let b = generator-below c.args.gens.now.degrees (length c.args.tables.now) c.loop-i.i c.requires.below
    (omega arith) in
    let l : length c.args.tables.now - c.degree.result < length c.args.tables.now =
    omega (arith, b, c.degree.ensures.low) in
    let e : c.index-tables-tables.result.standard
    ≡ standard_at c.args.tables.now (length c.args.tables.now - at_generator c.args.gens.now.degrees
    c.loop-i.i) =
    ap (λ t. t.standard) c.index-tables-tables.is
    ∙ sym (standard-is c.args.tables.now (length c.args.tables.now - c.degree.result)
    c.index-tables-tables.result l)
    ∙ ap (λ d. standard_at c.args.tables.now (length c.args.tables.now - d)) c.degree.ensures.value in
    record {
      count = ap length c.in_ok-push.ensures.items
          ∙ length_push c.loop-i.forms.items c.in_ok-form_rows.field-0
          ∙ ap (λ n. n + 1) c.loop-i.invariant.count;
      each = each-pushed
          (λ j m. IsFormMatrix c.args.gens.now c.args.tables.now c.args.list.now j m)
          c.loop-i.forms.items c.push.new.self.items c.loop-i.i c.in_ok-form_rows.field-0
          c.loop-i.invariant.count c.loop-i.invariant.each
          (record {
            prime = c.in_ok-form_rows.ensures.prime;
            width = c.in_ok-form_rows.ensures.width;
            rows = c.in_ok-form_rows.ensures.rows
                ∙ ap (λ (ss : List (List ℕ)). map (λ s. row_of (c.args.gens.now.prime - 1) c.args.list.now
                (generator_times (c.args.gens.now.prime - 1) c.args.gens.now.degrees c.loop-i.i s)) ss) e;
          })
          c.in_ok-push.ensures.items;
    }

pub returns-clause-count : goal.returns-clause-count
returns-clause-count c = c.loop-i.invariant.count
    ∙ omega (arith, c.loop-i-test.false, c.loop-i.auto.i-end, c.len-i-end.ensures.value)

pub returns-clause-shape : goal.returns-clause-shape
returns-clause-shape c =
    let all : c.loop-i.i ≡ length c.args.gens.now.degrees =
    omega (arith, c.loop-i-test.false, c.loop-i.auto.i-end, c.len-i-end.ensures.value) in
    forms-shape c.args.gens.now c.args.tables.now c.args.list.now c.loop-i.forms.items
    (c.loop-i.invariant.count ∙ all)
    (let p = c.modulus-prime.ensures.value in let l = c.modulus-prime.ensures.low in omega (arith, p, l))
    (λ i m l. c.loop-i.invariant.each i m (omega (arith, l, all)))

pub returns-clause-rows : goal.returns-clause-rows
returns-clause-rows c i l =
    let all : c.loop-i.i ≡ length c.args.gens.now.degrees =
    omega (arith, c.loop-i-test.false, c.loop-i.auto.i-end, c.len-i-end.ensures.value) in
    rows-of-form c.args.gens.now c.args.tables.now c.args.list.now c.loop-i.forms.items
    (c.loop-i.invariant.count ∙ all)
    (let p = c.modulus-prime.ensures.value in let l = c.modulus-prime.ensures.low in omega (arith, p, l))
    (λ i m l. c.loop-i.invariant.each i m (omega (arith, l, all))) i l

use Rattle.std.proofs.Common.{◌≡◌, ℕ, ◌+◌, ◌-◌, ◌<◌, List, length, All, arith, ap, sym, subst, ◌∙◌}
use Rattle.std.proofs.lemmas.List.{length_push}
use Rattle.fp_rows.specs.Values.{MatrixValue}
use Rattle.ring_degree.specs.Finishing.{IsProductForm}
use Rattle.ring_degree.specs.Rests.{AreRests}
use Rattle.ring_degree.specs.Tables.{rows_at}
use Rattle.ring_degree.proofs.FinishedTables.{are-tables, are-tables-of}
use Rattle.ring_completion.proofs.LeftPlaces.{as-many}
use Rattle.ring_degree.proofs.ProductForms.{all-primes, all-widths, positive-generators}
use Rattle.ring_degree.proofs.Pushed.{each-pushed}
use Rattle.ring_degree.proofs.finishing.finish.Goals as goal

pub loop-i-preserved : goal.loop-i-preserved
loop-i-preserved c = record {
  count = ap length c.in_ok-push.ensures.items
      ∙ length_push c.loop-i.wide.items c.in_ok-product_forms.field-0
      ∙ ap (λ n. n + 1) c.loop-i.invariant.count;
  each = each-pushed
      (λ j m. IsProductForm c.args.gens.now c.args.tables.now c.args.forms.now c.args.left.now
      c.args.width j m)
      c.loop-i.wide.items c.push.new.self.items c.loop-i.i c.in_ok-product_forms.field-0
      c.loop-i.invariant.count c.loop-i.invariant.each c.in_ok-product_forms.ensures
      c.in_ok-push.ensures.items;
}

pub reduced_matrices-requires-clause-primes : goal.reduced_matrices-requires-clause-primes
reduced_matrices-requires-clause-primes c =
    subst (All (λ (m : MatrixValue). m.p ≡ c.args.kernel.now.p)) (sym c.deref.ensures.value)
    (all-primes c.args.gens.now c.args.tables.now c.args.forms.now c.args.left.now c.args.width c.loop-i.i
    c.loop-i.wide.items c.loop-i.invariant.count c.loop-i.invariant.each c.args.kernel.now.p c.requires.prime)

pub reduced_matrices-requires-clause-widths : goal.reduced_matrices-requires-clause-widths
reduced_matrices-requires-clause-widths c =
    subst (All (λ (m : MatrixValue). m.width ≡ c.args.kernel.now.width)) (sym c.deref.ensures.value)
    (all-widths c.args.gens.now c.args.tables.now c.args.forms.now c.args.left.now c.args.width c.loop-i.i
    c.loop-i.wide.items c.loop-i.invariant.count c.loop-i.invariant.each c.args.kernel.now.width
    c.requires.width)

pub reduced_matrices-requires-clause-left : goal.reduced_matrices-requires-clause-left
reduced_matrices-requires-clause-left c v e =
    as-many c.args.kernel.now.rows 0 v c.args.left.now (e ∙ c.requires.width)
    ∙ sym (c.len-count.ensures.value ∙ ap (λ (ms : List (List ℕ)). length ms) c.in_ok-standard.ensures)

pub returns-clause-shape : goal.returns-clause-shape
returns-clause-shape c =
    let all : c.loop-i.i ≡ length c.args.gens.now.degrees =
    omega (arith, c.loop-i-test.false, c.loop-i.auto.i-end, c.len-i-end.ensures.value) in
    are-tables c.args.gens.now c.args.tables.now (length c.args.tables.now - 1)
    (omega (arith, c.requires.some)) c.args.forms.now c.args.width c.args.left.now c.args.kernel.now.rows
    c.requires.tables c.requires.forms c.requires.one
    (positive-generators c.args.gens.now.degrees c.modulus-prime.ensures.valid) c.requires.left
    c.requires.wide c.requires.new c.loop-i.wide.items (c.loop-i.invariant.count ∙ all)
    (λ i m l. c.loop-i.invariant.each i m (omega (arith, l, all)))
    (record { standard = c.in_ok-standard.standard; products = c.in_ok-products.products })
    c.in_ok-standard.ensures c.args.kernel.now.p c.requires.prime
    (c.in_ok-products.ensures.count ∙ ap (λ (ms : List MatrixValue). length ms) c.deref.ensures.value)
    c.in_ok-products.ensures.primes
    (subst (λ w. All (λ (m : MatrixValue). m.width ≡ w) c.in_ok-products.products.items)
    c.len-count.ensures.value c.in_ok-products.ensures.widths) c.in_ok-products.ensures.matrices
    (subst (λ (ms : List MatrixValue). (i : ℕ) → i < length ms → AreRests c.args.kernel.now.p
    c.args.kernel.now.rows (rows_at ms i) (rows_at c.in_ok-products.products.items i)) c.deref.ensures.value
    c.in_ok-products.ensures.rows)

pub returns-clause-tables : goal.returns-clause-tables
returns-clause-tables c G gs new rs x extra values de before here ef el em B S L V K =
    let all : c.loop-i.i ≡ length c.args.gens.now.degrees =
    omega (arith, c.loop-i-test.false, c.loop-i.auto.i-end, c.len-i-end.ensures.value) in
    are-tables-of c.args.gens.now c.args.tables.now (length c.args.tables.now - 1)
    (omega (arith, c.requires.some)) c.args.forms.now c.args.width c.args.left.now c.args.kernel.now.rows
    c.requires.tables c.requires.forms c.requires.one
    (positive-generators c.args.gens.now.degrees c.modulus-prime.ensures.valid) c.requires.left
    c.requires.wide c.requires.new c.loop-i.wide.items (c.loop-i.invariant.count ∙ all)
    (λ i m l. c.loop-i.invariant.each i m (omega (arith, l, all)))
    (record { standard = c.in_ok-standard.standard; products = c.in_ok-products.products })
    c.in_ok-standard.ensures c.args.kernel.now.p c.requires.prime
    (c.in_ok-products.ensures.count ∙ ap (λ (ms : List MatrixValue). length ms) c.deref.ensures.value)
    c.in_ok-products.ensures.primes
    (subst (λ w. All (λ (m : MatrixValue). m.width ≡ w) c.in_ok-products.products.items)
    c.len-count.ensures.value c.in_ok-products.ensures.widths) c.in_ok-products.ensures.matrices
    (subst (λ (ms : List MatrixValue). (i : ℕ) → i < length ms → AreRests c.args.kernel.now.p
    c.args.kernel.now.rows (rows_at ms i) (rows_at c.in_ok-products.products.items i)) c.deref.ensures.value
    c.in_ok-products.ensures.rows)
    G gs new rs x extra values
    (let p = c.modulus-prime.ensures.value in let l = c.modulus-prime.ensures.low in omega (arith, p, l))
    de before here ef el em B S L V K

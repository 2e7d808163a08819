use Rattle.std.proofs.Common.{◌<◌, ◌+◌, arith, ap, sym, length, get_or, ◌∙◌}
use Rattle.fp_rows.specs.Refs.{entries_of}
use Rattle.fp_rows.specs.Values.{RowValue}
use Rattle.linear_algebra.specs.Rows.{row}
use Rattle.ring_degree.specs.Tables.{at_generator}
use Rattle.ring_degree.proofs.Lookups.{product-inside, product-matrix, product-row, product-length}
use Rattle.ring_degree.proofs.Lookups.{form-count, form-prime, form-width, form-there, rows-are, combined}
use Rattle.ring_degree.proofs.Lookups.{prime-is}
use Rattle.ring_degree.proofs.ProductForms.{positive-generators}
use Rattle.ring_degree.proofs.critical.Pairs.form_of_product.Goals as goal

pub matrix_of-requires : goal.matrix_of-requires
matrix_of-requires c = product-inside c.args.self.now.gens.now c.args.self.now.tables.now
    c.args.self.now.width
    c.args.self.now.forms.now c.requires.pairs c.args.e c.args.i c.args.j c.args.k c.requires.pair
    (positive-generators c.args.self.now.gens.now.degrees c.degree.ensures.valid c.args.i c.requires.pair.first) (c.degree.result + c.args.e)
    c.index-self-degree.result (ap (λ d. d + c.args.e) c.degree.ensures.value)

pub row-product-requires : goal.row-product-requires
row-product-requires c =
    let m = product-matrix c.args.self.now.gens.now c.args.self.now.tables.now c.args.self.now.width
    c.args.self.now.forms.now c.requires.pairs c.args.e c.args.i c.args.j c.args.k c.requires.pair
    (positive-generators c.args.self.now.gens.now.degrees c.degree.ensures.valid c.args.i c.requires.pair.first) (c.degree.result + c.args.e)
    c.index-self-degree.result c.matrix_of.result.now (ap (λ d. d + c.args.e) c.degree.ensures.value)
    (c.matrix_of.ensures c.matrix_of.result.now) in
    rw m.0 (product-row c.args.self.now.gens.now c.args.self.now.tables.now c.args.self.now.width
    c.args.self.now.forms.now c.requires.pairs c.args.e c.args.i c.args.j c.args.k c.requires.pair
    (positive-generators c.args.self.now.gens.now.degrees c.degree.ensures.valid c.args.i c.requires.pair.first))

pub combine-requires-clause-coefficients : goal.combine-requires-clause-coefficients
combine-requires-clause-coefficients c =
    let g = c.args.self.now.gens.now in
    let tables = c.args.self.now.tables.now in
    let forms = c.args.self.now.forms.now in
    let positive : 0 < at_generator g.degrees c.args.i =
    positive-generators g.degrees c.degree.ensures.valid c.args.i c.requires.pair.first in
    let m = product-matrix g tables c.args.self.now.width forms c.requires.pairs c.args.e c.args.i c.args.j
    c.args.k c.requires.pair positive (c.degree.result + c.args.e) c.index-self-degree.result
    c.matrix_of.result.now (ap (λ d. d + c.args.e) c.degree.ensures.value)
    (c.matrix_of.ensures c.matrix_of.result.now) in
    ap length c.row-product.ensures.entries ∙ ap (λ rows. length (row rows c.args.k)) m.0
    ∙ product-length g tables c.args.self.now.width forms c.requires.pairs c.args.e c.args.i c.args.j c.args.k
    c.requires.pair positive
    ∙ sym (form-count g tables c.args.self.now.width forms c.requires.pairs c.args.e c.args.i c.args.j
    c.args.k
    c.requires.pair positive)
    ∙ ap length (rows-are forms c.args.i c.index-self-i.result
    (form-there g tables c.args.self.now.width forms
    c.requires.pairs c.args.e c.args.i c.args.j c.args.k c.requires.pair positive))

pub combine-requires-clause-primes : goal.combine-requires-clause-primes
combine-requires-clause-primes c =
    let g = c.args.self.now.gens.now in
    let tables = c.args.self.now.tables.now in
    let forms = c.args.self.now.forms.now in
    let positive : 0 < at_generator g.degrees c.args.i =
    positive-generators g.degrees c.degree.ensures.valid c.args.i c.requires.pair.first in
    let m = product-matrix g tables c.args.self.now.width forms c.requires.pairs c.args.e c.args.i c.args.j
    c.args.k c.requires.pair positive (c.degree.result + c.args.e) c.index-self-degree.result
    c.matrix_of.result.now (ap (λ d. d + c.args.e) c.degree.ensures.value)
    (c.matrix_of.ensures c.matrix_of.result.now) in
    let p = form-prime g tables c.args.self.now.width forms c.requires.pairs c.args.e c.args.i c.args.j
    c.args.k
    c.requires.pair positive c.index-self-i.result in (
      c.row-product.ensures.modulus ∙ m.1 ∙ sym p,
      ap (λ (r : RowValue). r.p) c.in_ok-form.ensures ∙ c.prime.ensures.value ∙ sym p,
    )

pub returns : goal.returns
returns c =
    let g = c.args.self.now.gens.now in
    let tables = c.args.self.now.tables.now in
    let forms = c.args.self.now.forms.now in
    let positive : 0 < at_generator g.degrees c.args.i =
    positive-generators g.degrees c.degree.ensures.valid c.args.i c.requires.pair.first in
    let m = product-matrix g tables c.args.self.now.width forms c.requires.pairs c.args.e c.args.i c.args.j
    c.args.k c.requires.pair positive (c.degree.result + c.args.e) c.index-self-degree.result
    c.matrix_of.result.now (ap (λ d. d + c.args.e) c.degree.ensures.value)
    (c.matrix_of.ensures c.matrix_of.result.now) in
    let p = form-prime g tables c.args.self.now.width forms c.requires.pairs c.args.e c.args.i c.args.j
    c.args.k
    c.requires.pair positive c.index-self-i.result in
    combined g tables c.args.self.now.width forms c.requires.pairs c.args.e c.args.i c.args.j c.args.k
    c.requires.pair positive c.combine.new.out c.in_ok-form.form.p
    (get_or forms c.args.i c.index-self-i.result).p (get_or forms c.args.i c.index-self-i.result).width
    (entries_of c.row-product.result) (get_or forms c.args.i c.index-self-i.result).rows c.combine.ensures
    (ap (λ (r : RowValue). r.p) c.in_ok-form.ensures ∙ c.prime.ensures.value)
    (p ∙ prime-is g.prime c.prime.ensures.prime)
    (form-width g tables c.args.self.now.width forms c.requires.pairs c.args.e c.args.i c.args.j c.args.k
    c.requires.pair positive c.index-self-i.result)
    (c.row-product.ensures.entries ∙ ap (λ rows. row rows c.args.k) m.0)
    (sym (rows-are forms c.args.i c.index-self-i.result (form-there g tables c.args.self.now.width forms
    c.requires.pairs c.args.e c.args.i c.args.j c.args.k c.requires.pair positive)))

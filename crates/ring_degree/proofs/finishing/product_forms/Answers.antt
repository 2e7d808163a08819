use Rattle.std.proofs.Common.{◌-◌, ◌<◌, ◌++◌, length, get_or, map, replicate, arith, ap, sym, subst, ◌∙◌}
use Rattle.fp_rows.specs.Values.{MatrixValue}
use Rattle.gc_poly.specs.Generators.{greatest}
use Rattle.ring_completion.specs.Candidates.{AreSome}
use Rattle.ring_degree.specs.Products.{IsProductWith}
use Rattle.ring_degree.specs.Tables.{at_generator}
use Rattle.ring_degree.proofs.Lookups.{standard-is}
use Rattle.ring_degree.proofs.ProductForms.{one-some, new-listed, form-old, form-new}
use Rattle.ring_degree.proofs.finishing.product_forms.Goals as goal

pub widened-requires : goal.widened-requires
widened-requires c =
    let b : at_generator c.args.gens.now.degrees c.args.i < length c.args.tables.now =
    omega (arith, c.degree.ensures.value, c.if-degree-tables.true) in
    omega (
      arith,
      ap (λ (x : MatrixValue). x.width) c.index-forms-i.is,
      c.requires.forms.widths c.args.i c.index-forms-i.result c.requires.within b,
      c.requires.width,
      c.len.ensures.value,
    )

pub form_rows-requires-clause-monomials : goal.form_rows-requires-clause-monomials
form_rows-requires-clause-monomials c =
    let one = sym (standard-is c.args.tables.now 0 c.index-tables-0.result c.requires.some)
    ∙ c.requires.one in (
      0,
      omega arith,
      subst (AreSome (greatest c.args.gens.now) c.args.gens.now.degrees 0) (sym one)
          (one-some (greatest c.args.gens.now) c.args.gens.now.degrees),
    )

pub form_rows-requires-clause-listed : goal.form_rows-requires-clause-listed
form_rows-requires-clause-listed c m P =
    let one = sym (standard-is c.args.tables.now 0 c.index-tables-0.result c.requires.some)
    ∙ c.requires.one in
    new-listed c.args.gens.now (length c.args.tables.now) c.args.left.now c.args.i m c.requires.new
    c.requires.within (omega (arith, c.degree.ensures.value, c.if-degree-tables.false))
    (subst (λ ss. IsProductWith (greatest c.args.gens.now) c.args.gens.now.degrees c.args.i ss m) one P)

pub returns-in_ok-wide : goal.returns-in_ok-wide
returns-in_ok-wide c = form-old c.args.gens.now c.args.tables.now c.args.forms.now c.args.left.now
    c.args.width
    c.args.i c.requires.within c.in_ok-wide.wide (c.in_ok-wide.ensures.width ∙ c.len.ensures.value)
    c.requires.forms (omega (arith, c.degree.ensures.value, c.if-degree-tables.true)) c.index-forms-i.result
    c.index-forms-i.is c.in_ok-wide.ensures.prime
    (c.in_ok-wide.ensures.rows
    ∙ ap (λ n. map (λ v. v ++ replicate (n - c.index-forms-i.result.width) 0) c.index-forms-i.result.rows)
    c.len.ensures.value)
    c.widened.ensures.lengths

pub returns-in_ok-unit : goal.returns-in_ok-unit
returns-in_ok-unit c =
    let one = sym (standard-is c.args.tables.now 0 c.index-tables-0.result c.requires.some)
    ∙ c.requires.one in
    form-new c.args.gens.now c.args.tables.now c.args.forms.now c.args.left.now c.args.width
    c.args.i c.requires.within c.in_ok-unit.unit c.in_ok-unit.ensures.width
    (omega (arith, c.degree.ensures.value, c.if-degree-tables.false)) (get_or c.args.tables.now 0
    c.index-tables-0.result).standard one c.in_ok-unit.ensures.prime c.in_ok-unit.ensures.rows

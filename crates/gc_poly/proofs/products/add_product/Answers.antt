use Rattle.std.proofs.Common.{OnOk, Result, Ok, Err, ◌*◌, ◌%◌, arith, ap₂, ap, sym, ◌∙◌}
use Rattle.gc_poly.proofs.ProductLemmas.{exponents-small, product-monomial, product-term}
use Rattle.gc_poly.proofs.products.add_product.Goals as goal

pub is_product-requires : goal.is_product-requires
is_product-requires c = exponents-small c.args.gens.now c.args.out.now.degree c.args.m.now c.args.n.now
    c.modulus.ensures.valid c.requires.degree c.requires.monomials

pub joined-requires : goal.joined-requires
joined-requires c i = omega (
  arith,
  exponents-small c.args.gens.now c.args.out.now.degree c.args.m.now
      c.args.n.now c.modulus.ensures.valid c.requires.degree c.requires.monomials i,
)

pub add_term-requires-clause-monomial : goal.add_term-requires-clause-monomial
add_term-requires-clause-monomial c =
    product-monomial c.args.gens.now c.args.out.now.degree c.args.m.now c.args.n.now c.in_ok-product.product
    c.requires.monomials (sym c.if-not-is_product.ensures) c.in_ok-product.ensures

on-ok : {T E A B : Type 0} (r : Result T E) → OnOk r A → (A → B) → OnOk r B
on-ok (Ok x) h f = f h
on-ok (Err e) h f = tt

pub returns : goal.returns
returns c = on-ok c.add_term.result c.add_term.ensures.ok
    (λ h. product-term c.args.gens.now c.args.c c.args.x c.product_sign-sign.result c.from-p.result
    (c.from.result * c.from-2.result * c.from-3.result % c.from-p.result) c.args.m.now c.args.n.now
    c.in_ok-product.product
    c.args.out.now c.add_term.new.self (sym c.if-not-is_product.ensures) c.product_sign-sign.ensures.value
    (c.from-p.ensures ∙ c.modulus.ensures.value) (omega arith)
    (ap (λ n. n % c.from-p.result) (ap₂ (λ n x. n * x)
    (ap₂ (λ n x. n * x) c.from.ensures c.from-2.ensures) c.from-3.ensures))
    c.in_ok-product.ensures c.requires.over h)

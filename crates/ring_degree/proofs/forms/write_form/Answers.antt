use Rattle.std.proofs.Common.{◌≡◌, ℕ, ◌-◌, true, List, length, replicate, Some, arith, ap, refl, ◌∙◌}
use Rattle.std.specs.Prelude.{slice_set}
use Rattle.std.proofs.lemmas.List.{length-replicate}
use Rattle.std.proofs.lemmas.Option.{slice_get_within}
use Rattle.fp_rows.specs.Values.{RowValue}
use Rattle.graded_polynomials.specs.Monomials.{fits, joined}
use Rattle.graded_polynomials.specs.Texts.{power}
use Rattle.ring_degree.proofs.Lookups.{exponent-small, some-is, none-is}
use Rattle.ring_degree.proofs.WrittenForms.{fit-form, unfit-form}
use Rattle.ring_degree.proofs.forms.write_form.Goals as goal

pub times-requires-clause-small : goal.times-requires-clause-small
times-requires-clause-small c = exponent-small c.args.gens.now c.requires.monomial.0 c.args.i c.args.s.now
    c.len-count.ensures.valid c.requires.monomial.1 c.requires.monomial.2

pub set-requires-clause-inside : goal.set-requires-clause-inside
set-requires-clause-inside c =
    let a = slice_get_within c.args.list.now c.in-Some-position.k c.in-Some.m
    c.in-Some-position.ensures.some in
    let b = ap (λ r. length r.entries) c.clear.ensures in
    let d = length-replicate {A = ℕ} (length c.args.out.now.entries) 0 in
    omega (arith, a, b, d, c.requires.length)

-- a row of zeros, and one entry
cleared : (out zeros : RowValue) (es : List ℕ)
    → zeros ≡ record { p = out.p; entries = replicate (length out.entries) 0 }
    → replicate (length out.entries) 0 ≡ es → zeros ≡ record { p = out.p; entries = es }
cleared out zeros es a e = a ∙ rw e refl

written : (out zeros new : RowValue) (k v : ℕ) (es : List ℕ)
    → zeros ≡ record { p = out.p; entries = replicate (length out.entries) 0 }
    → new ≡ record { p = zeros.p; entries = slice_set zeros.entries k v }
    → slice_set (replicate (length out.entries) 0) k v ≡ es → new ≡ record { p = out.p; entries = es }
written out zeros new k v es a b e = b ∙ rw (a, e) refl

pub returns-in-Some-position : goal.returns-in-Some-position
returns-in-Some-position c =
    let m = some-is (λ m. m ≡ joined (power c.args.i 1) c.args.s.now) c.in_ok-m.field-0 c.in-Some.m
    c.in-Some.is c.in_ok-m.ensures.some in
    let f = some-is (λ m. fits (c.args.gens.now.prime - 1) c.args.gens.now.degrees
    (joined (power c.args.i 1) c.args.s.now) ≡ true) c.in_ok-m.field-0 c.in-Some.m c.in-Some.is
    c.in_ok-m.ensures.fitting in
    record {
      row = written c.args.out.now c.clear.new.self c.set.new.self c.in-Some-position.k c.sign.result _
          c.clear.ensures c.set.ensures
          (ap (λ n. slice_set (replicate n 0) c.in-Some-position.k c.sign.result) c.requires.length
          ∙ fit-form (c.args.gens.now.prime - 1) c.args.list.now c.args.gens.now.degrees c.args.i
          c.in-Some-position.k c.sign.result c.args.s.now c.len-length.ensures.descending f
          (c.in-Some-position.ensures.some ∙ ap (λ x. Some x) m) c.sign.ensures.value
          (omega (arith, c.sign.ensures.below)));
    }

pub returns-in-None : goal.returns-in-None
returns-in-None c = record {
  row = cleared c.args.out.now c.clear.new.self _ c.clear.ensures
      (ap (λ n. replicate n 0) c.requires.length
      ∙ unfit-form (c.args.gens.now.prime - 1) c.args.list.now c.args.gens.now.degrees c.args.i c.args.s.now
      (c.in_ok-m.ensures.none (none-is c.in_ok-m.field-0 c.in-None.is)));
}

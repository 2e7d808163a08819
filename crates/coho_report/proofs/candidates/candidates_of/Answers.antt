use Rattle.std.proofs.Common.{◌≡◌, ◌∙◌, ◌<◌, ◌≤◌, ℕ, List, [], length, arith, refl, sym, ap, subst}
use Rattle.std.specs.Prelude.{slice_index_or}
use Rattle.std.proofs.lemmas.List.{get_or-map, length-map, take_all}
use Rattle.std.proofs.lemmas.List.Elements.{All-from_recursion}
use Rattle.group_table.specs.Prime.{prime_value}
use Rattle.linear_algebra.specs.Rows.{entry, row, combination_row}
use Rattle.fp_rows.specs.Values.{MatrixValue, RowValue}
use Rattle.p_groups.specs.PGroups.{largest_residue}
use Rattle.graded_polynomials.specs.Polynomials.{Polynomial}
use Rattle.presentation_rows.specs.RowPolynomials.{polynomial_of}
use Rattle.param_test.specs.Combinations.{AreCandidates, IsCombination}
use Rattle.ring_present.specs.Values.{generators_of, standard_of}
use Rattle.coho_report.specs.Candidates.{polynomials_of}
use Rattle.coho_report.specs.Related.{AreRelated}
use Rattle.coho_report.specs.Restrictors.{IsClassOf}
use Rattle.coho_report.specs.declared.candidates.Candidate.{Candidate}
use Rattle.coho_report.proofs.Related.{related-next}
use Rattle.coho_report.proofs.StandardRows.{class_of_row, firsts_are}
use Rattle.coho_report.proofs.candidates.candidates_of.Goals as goal

pub loop-i-preserved : goal.loop-i-preserved
loop-i-preserved c =
    let G = c.args.res.now.group in
    let n = c.args.ring.now.degree in
    let gs = generators_of (largest_residue G) c.args.ring.now.generators in
    let d = c.args.d in
    let i = c.loop-i.i in
    let ms = standard_of c.args.ring.now d in
    let classes = c.in_ok-classes.classes in
    let made = c.in_ok-classes.ensures in
    let rows = c.combos.inside.rows.rows in
    let p = classes.p in
    let all-rows = ap (λ (m : MatrixValue). length m.rows) c.combos.view_is in
    let below : i < length rows = omega (arith, c.loop-i-test.true, c.len-i-end.ensures, all-rows) in
    let u = row rows i in
    let firsts = firsts_are ms (prime_value c.prime.result) c.rows.result c.in_ok-combos.combos
    c.combos.inside.rows p classes.rows c.in_ok-combos.ensures.candidates (sym c.combos.view_is)
    c.prime.ensures c.rows.ensures.count made.values.count in
    let comb : IsCombination p (length ms) u = All-from_recursion (IsCombination p (length ms)) rows
    firsts.members i [] below in
    let x : Candidate = record { degree = d; class = c.in_ok-class.class } in
    let h = class_of_row G n p gs d classes.width ms classes.rows made.standard made.values
    c.rows.ensures.matrix made.prime
    made.width c.requires.from c.requires.to u comb x refl
    (ap (λ (r : RowValue). r.p) c.in_ok-class.ensures)
    (ap (λ (r : RowValue). r.entries) c.in_ok-class.ensures
    ∙ ap (λ v. combination_row p classes.width (entry v) classes.rows) c.get.ensures.entries
    ∙ ap (λ (m : MatrixValue). combination_row p classes.width (entry (row m.rows i)) classes.rows)
    (sym c.combos.view_is)) in
    let f : List ℕ → Polynomial = λ row. record { degree = d; terms = polynomial_of ms row } in
    let all : List Polynomial = polynomials_of d ms rows in
    let here : (z : Polynomial) → slice_index_or all i z ≡ f u = λ z. get_or-map f rows i [] z below in
    related-next (IsClassOf G n gs) all i c.loop-i.candidates.items c.push.new.self.items x c.loop-i.invariant
    (let z = length-map rows f in omega (arith, z, below))
    (λ z. subst (λ y. IsClassOf G n gs y x) (sym (here z)) h)
    c.in_ok-push.ensures.items

pub returns : goal.returns
returns c =
    let G = c.args.res.now.group in
    let n = c.args.ring.now.degree in
    let gs = generators_of (largest_residue G) c.args.ring.now.generators in
    let d = c.args.d in
    let ms = standard_of c.args.ring.now d in
    let classes = c.in_ok-classes.classes in
    let made = c.in_ok-classes.ensures in
    let rows = c.combos.inside.rows.rows in
    let firsts = firsts_are ms (prime_value c.prime.result) c.rows.result c.in_ok-combos.combos
    c.combos.inside.rows classes.p classes.rows c.in_ok-combos.ensures.candidates (sym c.combos.view_is)
    c.prime.ensures c.rows.ensures.count made.values.count in
    let f : List ℕ → Polynomial = λ row. record { degree = d; terms = polynomial_of ms row } in
    let all : List Polynomial = polynomials_of d ms rows in
    let all-rows = ap (λ (m : MatrixValue). length m.rows) c.combos.view_is in
    let past : length all ≤ c.loop-i.i = (let z = length-map rows f in
    omega (arith, z, c.loop-i-test.false, c.len-i-end.ensures, all-rows)) in (
      all,
      record {
        monomials = ms;
        rows = rows;
        monomials_are = made.standard;
        rows_are = subst (λ p. AreCandidates p (length ms) rows) made.prime firsts;
        polynomials_are = refl;
      },
      subst (λ fs. AreRelated (IsClassOf G n gs) fs c.loop-i.candidates.items) (take_all c.loop-i.i all past)
          c.loop-i.invariant,
    )

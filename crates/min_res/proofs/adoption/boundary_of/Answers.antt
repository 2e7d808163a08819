use Rattle.std.proofs.Common.{◌≡◌, ◌<◌, ◌*◌, ℕ, List, length, ap, ap₂, sym, ◌∙◌}
use Rattle.std.specs.Prelude.{slice_index}
use Rattle.std.proofs.lemmas.List.{length-map}
use mathlib.Core.Path.{subst}
use Rattle.linear_algebra.specs.Rows.{row}
use Rattle.fp_rows.specs.Values.{MatrixValue}
use Rattle.p_groups.specs.PGroups.{PGroup, order_of}
use Rattle.min_res.specs.Defined.{kernel_value}
use Rattle.min_res.proofs.MapRows.{HoldsValues}
use Rattle.min_res.proofs.AdoptedStage.{matrix-by}
use Rattle.min_res.proofs.adoption.boundary_of.Goals as goal

pub invariant_of-result : goal.invariant_of-result
invariant_of-result g c =
    let Q = g.S.StageParts.parts c.args.given.now in
    let source : c.in_ok-source.source.value ≡ kernel_value c.args.algebra.now c.args.last.now.degree =
    c.in_ok-source.ensures.cases ∙ c.list.ensures ∙ c.requires.last.kernel_is in
    let prime : c.in_ok-matrix.matrix.p ≡ c.in_ok-source.source.value.p =
    c.in_ok-matrix.ensures.prime ∙ ap (λ (m : MatrixValue). m.p) c.in_ok-rows.ensures
    ∙ ap (λ (m : MatrixValue). m.p) c.deref.ensures in
    let chosen : length c.in_ok-rows.rows.rows ≡ length c.in_ok-positions.positions =
    ap (λ (m : MatrixValue). length m.rows) c.in_ok-rows.ensures
    ∙ length-map c.in_ok-positions.positions (row c.deref.result.now.rows) in
    let order : c.order.result ≡ order_of c.args.algebra.now =
    c.order.ensures.value ∙ ap (λ (G : PGroup). order_of G) c.group.ensures in
    record {
      inside = subst (λ (xs : List ℕ). (i : ℕ) → i < length xs
          → slice_index xs i < length c.in_ok-source.source.value.rows) (sym c.in_ok-positions.ensures)
          (subst (λ (E : List (List ℕ)). (i : ℕ) → i < length Q.positions
          → slice_index Q.positions i < length E) (sym (ap (λ (m : MatrixValue). m.rows) source))
          c.requires.follows.0.inside);
      matrix_prime = prime;
      matrix_width = c.in_ok-matrix.ensures.width ∙ ap (λ (m : MatrixValue). m.width) c.in_ok-rows.ensures
          ∙ ap (λ (m : MatrixValue). m.width) c.deref.ensures;
      sections_prime = ap (λ (m : MatrixValue). m.p) c.in_ok-sections.ensures ∙ c.prime.ensures
          ∙ ap (λ (m : MatrixValue). m.p) c.deref-2.ensures;
      sections_width = ap (λ (m : MatrixValue). m.width) c.in_ok-sections.ensures
          ∙ ap₂ (λ (n m : ℕ). n * m) order (c.len.ensures ∙ sym chosen) ∙ sym c.in_ok-matrix.ensures.count;
      section_count = ap (λ (m : MatrixValue). length m.rows) c.in_ok-sections.ensures
          ∙ c.requires.follows.0.section_count ∙ sym (ap (λ (m : MatrixValue). length m.rows) source);
    }

pub returns : goal.returns
returns g c =
    let G = c.args.algebra.now in let d = c.args.last.now.degree in
    let Q = g.S.StageParts.parts c.args.given.now in
    let source : c.in_ok-source.source.value ≡ kernel_value c.args.algebra.now c.args.last.now.degree =
    c.in_ok-source.ensures.cases ∙ c.list.ensures ∙ c.requires.last.kernel_is in
    let order : c.order.result ≡ order_of c.args.algebra.now =
    c.order.ensures.value ∙ ap (λ (G : PGroup). order_of G) c.group.ensures in
    let values : HoldsValues G c.rank.result c.in_ok-rows.rows.rows c.in_ok-matrix.matrix.rows =
    record { count = c.in_ok-matrix.ensures.count; each = c.in_ok-matrix.ensures.rows } in
    record {
      source_is = source;
      positions_are = c.in_ok-positions.ensures;
      matrix_prime = c.in_ok-matrix.ensures.prime ∙ ap (λ (m : MatrixValue). m.p) c.in_ok-rows.ensures
          ∙ ap (λ (m : MatrixValue). m.p) (c.deref.ensures ∙ source);
      matrix_width = c.in_ok-matrix.ensures.width ∙ ap (λ (m : MatrixValue). m.width) c.in_ok-rows.ensures
          ∙ ap (λ (m : MatrixValue). m.width) (c.deref.ensures ∙ source);
      matrix_is = matrix-by G d Q c.rank.result c.deref.result.now.rows c.in_ok-positions.positions
          c.in_ok-matrix.matrix.rows (c.rank.ensures ∙ c.requires.last.rank_is)
          (ap (λ (m : MatrixValue). m.rows) (c.deref.ensures ∙ source)) c.in_ok-positions.ensures
          (subst (λ (E : List (List ℕ)). HoldsValues G c.rank.result E c.in_ok-matrix.matrix.rows)
          (ap (λ (m : MatrixValue). m.rows) c.in_ok-rows.ensures) values);
      sections_are = c.in_ok-sections.ensures
          ∙ ap₂ (λ (p w : ℕ). with-sections Q.sections p w)
          (c.prime.ensures ∙ ap (λ (m : MatrixValue). m.p) (c.deref-2.ensures ∙ source))
          (ap₂ (λ (n m : ℕ). n * m) order
          (c.len.ensures ∙ ap (λ (x : List ℕ). length x) c.in_ok-positions.ensures));
    }
  where
    with-sections : List (List ℕ) → ℕ → ℕ → MatrixValue
    with-sections rows p w = record { p = p; width = w; rows = rows }

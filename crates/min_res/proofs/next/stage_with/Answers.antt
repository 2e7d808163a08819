use Rattle.std.proofs.Common.{◌≡◌, ◌+◌, ◌*◌, ◌<◌, ◌≤◌, ◌^◌, length, arith, ap, sym, ◌∙◌, refl}
use Rattle.std.proofs.lemmas.List.{length-map}
use mathlib.Core.Path.{subst}
use Rattle.linear_algebra.specs.Rows.{AreInSpan, row}
use Rattle.linear_algebra.specs.Choices.{ArePreimages, rows_at}
use Rattle.linear_algebra.specs.Kernels.{IsKernelOf}
use Rattle.fp_rows.specs.Values.{MatrixValue}
use Rattle.p_groups.specs.PGroups.{PGroup, order_of, prime_of}
use Rattle.min_res.specs.Defined.{kernel_value}
use Rattle.min_res.proofs.MapRows.{HoldsValues}
use Rattle.min_res.proofs.StageAbove.{inside-of, targets-in, stage-above}
use Rattle.min_res.proofs.next.stage_with.Goals as goal

pub chosen_rows-requires : goal.chosen_rows-requires
chosen_rows-requires c =
    inside-of c.args.algebra.now c.args.last.now.degree c.args.positions c.deref.result.now.rows
    c.requires.positions
    (ap (λ (m : MatrixValue). m.rows) (c.deref.ensures ∙ c.in_ok-source.ensures.cases ∙ c.list.ensures
    ∙ c.requires.last.kernel_is))

pub matrix_of-requires-clause-rows_prime : goal.matrix_of-requires-clause-rows_prime
matrix_of-requires-clause-rows_prime c =
    ap (λ (m : MatrixValue). m.p) c.in_ok-rows.ensures
    ∙ ap (λ (m : MatrixValue). m.p) (c.deref.ensures ∙ c.in_ok-source.ensures.cases ∙ c.list.ensures
    ∙ c.requires.last.kernel_is)

pub matrix_of-requires-clause-rows_width : goal.matrix_of-requires-clause-rows_width
matrix_of-requires-clause-rows_width c =
    ap (λ (m : MatrixValue). m.width) c.in_ok-rows.ensures
    ∙ ap (λ (m : MatrixValue). m.width) (c.deref.ensures ∙ c.in_ok-source.ensures.cases ∙ c.list.ensures
    ∙ c.requires.last.kernel_is)
    ∙ ap (λ r. order_of c.args.algebra.now * r) (sym (c.rank.ensures ∙ c.requires.last.rank_is))

pub matrix_of-requires-clause-fits : goal.matrix_of-requires-clause-fits
matrix_of-requires-clause-fits c =
    let count : length c.in_ok-rows.rows.rows ≡ length c.args.positions =
    ap (λ (m : MatrixValue). length m.rows) c.in_ok-rows.ensures
    ∙ length-map c.args.positions (row c.deref.result.now.rows) in
    subst (λ n. order_of c.args.algebra.now * n < 2 ^ 64) (sym count)
    (let small : order_of c.args.algebra.now * length c.args.positions ≤ 2 ^ 28 = c.requires.small in omega
    (arith, small))

pub kernel_and_preimages-requires-clause-same_prime : goal.kernel_and_preimages-requires-clause-same_prime
kernel_and_preimages-requires-clause-same_prime c =
    ap (λ (m : MatrixValue). m.p) (c.deref-2.ensures ∙ sym c.deref.ensures)
    ∙ sym (ap (λ (m : MatrixValue). m.p) c.in_ok-rows.ensures)
    ∙ sym c.in_ok-matrix.ensures.prime

pub kernel_and_preimages-requires-clause-in_span : goal.kernel_and_preimages-requires-clause-in_span
kernel_and_preimages-requires-clause-in_span c =
    let same : c.deref.result.now.rows ≡ c.deref-2.result.now.rows =
    ap (λ (m : MatrixValue). m.rows) (c.deref.ensures ∙ sym c.deref-2.ensures) in
    let list : c.deref.result.now ≡ kernel_value c.args.algebra.now c.args.last.now.degree =
    c.deref.ensures ∙ c.in_ok-source.ensures.cases ∙ c.list.ensures ∙ c.requires.last.kernel_is in
    let prime : c.in_ok-matrix.matrix.p ≡ prime_of c.args.algebra.now =
    c.in_ok-matrix.ensures.prime ∙ ap (λ (m : MatrixValue). m.p) c.in_ok-rows.ensures
    ∙ ap (λ (m : MatrixValue). m.p) list in
    let values : HoldsValues c.args.algebra.now c.rank.result c.in_ok-rows.rows.rows
    c.in_ok-matrix.matrix.rows =
    record { count = c.in_ok-matrix.ensures.count; each = c.in_ok-matrix.ensures.rows } in
    subst (λ E. AreInSpan c.in_ok-matrix.matrix.p c.in_ok-matrix.matrix.rows E) same
    (subst (λ p. AreInSpan p c.in_ok-matrix.matrix.rows c.deref.result.now.rows) (sym prime)
    (targets-in c.args.algebra.now c.args.last.now.degree c.rank.result c.deref.result.now.rows
    c.args.positions c.in_ok-matrix.matrix.rows
    (c.rank.ensures ∙ c.requires.last.rank_is) (ap (λ (m : MatrixValue). m.rows) list) c.requires.positions
    (subst (λ E. HoldsValues c.args.algebra.now c.rank.result E c.in_ok-matrix.matrix.rows)
    (ap (λ (m : MatrixValue). m.rows) c.in_ok-rows.ensures) values)))

pub invariant_of-boundary : goal.invariant_of-boundary
invariant_of-boundary c =
    let source : c.in_ok-source.source.value ≡ kernel_value c.args.algebra.now c.args.last.now.degree =
    c.in_ok-source.ensures.cases ∙ c.list.ensures ∙ c.requires.last.kernel_is in
    let prime : c.in_ok-matrix.matrix.p ≡ c.in_ok-source.source.value.p =
    c.in_ok-matrix.ensures.prime ∙ ap (λ (m : MatrixValue). m.p) c.in_ok-rows.ensures
    ∙ ap (λ (m : MatrixValue). m.p) c.deref.ensures in
    record {
      inside = inside-of c.args.algebra.now c.args.last.now.degree c.args.positions
          c.in_ok-source.source.value.rows c.requires.positions
          (ap (λ (m : MatrixValue). m.rows) source);
      matrix_prime = prime;
      matrix_width = c.in_ok-matrix.ensures.width ∙ ap (λ (m : MatrixValue). m.width) c.in_ok-rows.ensures
          ∙ ap (λ (m : MatrixValue). m.width) c.deref.ensures;
      sections_prime = c.in_ok-solved.ensures.primes.1 ∙ prime;
      sections_width = c.in_ok-solved.ensures.widths.1;
      section_count = c.in_ok-solved.ensures.preimages.count
          ∙ ap (λ (m : MatrixValue). length m.rows) c.deref-2.ensures;
    }

pub invariant_of-result : goal.invariant_of-result
invariant_of-result c =
    let prime : c.in_ok-matrix.matrix.p ≡ c.in_ok-source.source.value.p =
    c.in_ok-matrix.ensures.prime ∙ ap (λ (m : MatrixValue). m.p) c.in_ok-rows.ensures
    ∙ ap (λ (m : MatrixValue). m.p) c.deref.ensures in
    record {
      rank = c.len-rank.ensures;
      prime = ap (λ (m : MatrixValue). m.p) c.in_ok-new.ensures.ok ∙ c.in_ok-solved.ensures.primes.0 ∙ prime;
      width = ap (λ (m : MatrixValue). m.width) c.in_ok-new.ensures.ok ∙ c.in_ok-solved.ensures.widths.0;
      degree = omega arith;
    }

pub returns-clause-width : goal.returns-clause-width
returns-clause-width c =
    let count : length c.in_ok-rows.rows.rows ≡ length c.args.positions =
    ap (λ (m : MatrixValue). length m.rows) c.in_ok-rows.ensures
    ∙ length-map c.args.positions (row c.deref.result.now.rows) in
    ap (λ (m : MatrixValue). m.width) c.in_ok-new.ensures.ok ∙ c.in_ok-solved.ensures.widths.0
    ∙ c.in_ok-matrix.ensures.count
    ∙ ap (λ n. order_of c.args.algebra.now * n) count

pub returns-clause-stage : goal.returns-clause-stage
returns-clause-stage c =
    let source : c.in_ok-source.source.value ≡ c.args.last.now.kernel = c.in_ok-source.ensures.cases
    ∙ c.list.ensures in
    let G : PGroup = c.args.algebra.now in
    let M : MatrixValue = c.in_ok-matrix.matrix in
    let list : MatrixValue = c.in_ok-new.field-0.value in
    let list-rows : c.in_ok-solved.solved.kernel.rows ≡ list.rows =
    sym (ap (λ (m : MatrixValue). m.rows) c.in_ok-new.ensures.ok) in
    let chosen : c.in_ok-rows.rows.rows ≡ rows_at c.args.last.now.kernel.rows c.args.positions =
    ap (λ (m : MatrixValue). m.rows) c.in_ok-rows.ensures
    ∙ ap (λ (m : MatrixValue). rows_at m.rows c.args.positions) (c.deref.ensures ∙ source) in
    let values : HoldsValues G c.rank.result c.in_ok-rows.rows.rows M.rows =
    record { count = c.in_ok-matrix.ensures.count; each = c.in_ok-matrix.ensures.rows } in
    stage-above G c.args.last.now.degree c.args.last.now _
    (record {
      source = c.in_ok-source.source.value;
      positions = c.args.positions;
      matrix = M;
      sections = c.in_ok-solved.solved.preimages;
    })
    c.requires.last (ap (λ n. n + 1) c.degree.ensures) refl c.len-rank.ensures source c.requires.positions
    (c.in_ok-matrix.ensures.prime ∙ ap (λ (m : MatrixValue). m.p) c.in_ok-rows.ensures
    ∙ ap (λ (m : MatrixValue). m.p) (c.deref.ensures ∙ source))
    (c.in_ok-matrix.ensures.width ∙ ap (λ (m : MatrixValue). m.width) c.in_ok-rows.ensures
    ∙ ap (λ (m : MatrixValue). m.width) (c.deref.ensures ∙ source))
    (subst (λ b. HoldsValues G b (rows_at c.args.last.now.kernel.rows c.args.positions) M.rows) c.rank.ensures
    (subst (λ E. HoldsValues G c.rank.result E M.rows) chosen values))
    (ap (λ (m : MatrixValue). m.p) c.in_ok-new.ensures.ok ∙ c.in_ok-solved.ensures.primes.0)
    (ap (λ (m : MatrixValue). m.width) c.in_ok-new.ensures.ok ∙ c.in_ok-solved.ensures.widths.0)
    (subst (λ E. IsKernelOf M.p M.rows E) list-rows c.in_ok-solved.ensures.kernel)
    c.in_ok-solved.ensures.primes.1 c.in_ok-solved.ensures.widths.1
    (subst (λ E. ArePreimages M.p M.rows E c.args.last.now.kernel.rows c.in_ok-solved.solved.preimages.rows)
    list-rows
    (subst (λ E. ArePreimages M.p M.rows c.in_ok-solved.solved.kernel.rows E
    c.in_ok-solved.solved.preimages.rows)
    (ap (λ (m : MatrixValue). m.rows) (c.deref-2.ensures ∙ source)) c.in_ok-solved.ensures.preimages))

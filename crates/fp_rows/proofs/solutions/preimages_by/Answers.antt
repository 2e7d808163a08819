use Rattle.std.proofs.Common.{◌≡◌, ℕ, ◌<◌, List, [], length, arith, ap, sym, ◌∙◌}
use Rattle.std.proofs.lemmas.List.{take_more}
use Rattle.linear_algebra.specs.Rows.{row}
use Rattle.linear_algebra.specs.Choices.{IsPreimage}
use Rattle.linear_algebra.proofs.Preimages.{preimages_push}
use Rattle.fp_rows.proofs.Primes.{prime_above_one}
use Rattle.fp_rows.proofs.solutions.preimages_by.Goals as goal

pub push-requires-clause-same_width : goal.push-requires-clause-same_width
push-requires-clause-same_width c =
    let P : ℕ = c.args.m.now.p in
    let rows : List (List ℕ) = c.args.m.now.rows in
    let t : List ℕ = row c.args.targets.now.rows c.loop-i.i in
    let l : c.loop-i.i < length c.args.targets.now.rows =
    omega (arith, c.loop-i-test.true, c.rows-i-end.ensures.count) in
    let tw : length t ≡ c.args.m.now.width = c.row.ensures.is_row.length_is ∙ c.requires.widths.2 in
    let one : 1 < P = rw c.prime-in-loop-i.ensures at (prime_above_one c.prime-in-loop-i.result) in
    let u : IsPreimage P rows c.args.s.now.kernel.rows t c.in_ok-u.u.entries =
    rw (
      c.prime-in-loop-i.ensures,
      c.row.ensures.entries,
    ) at (c.in_ok-u.ensures.preimage rows (sym c.rows-n.ensures.count)
    (rw (c.prime-in-loop-i.ensures, c.row.ensures.entries, tw) c.requires.image)
    (rw c.prime-in-loop-i.ensures c.requires.preimages)
    (rw (c.prime-in-loop-i.ensures, c.row.ensures.entries) (c.requires.in_span c.loop-i.i l))) in
    ap length c.view.ensures.entries ∙ u.is_row.length_is ∙ sym c.loop-i.invariant.width

pub loop-i-preserved : goal.loop-i-preserved
loop-i-preserved c =
    let P : ℕ = c.args.m.now.p in
    let rows : List (List ℕ) = c.args.m.now.rows in
    let t : List ℕ = row c.args.targets.now.rows c.loop-i.i in
    let l : c.loop-i.i < length c.args.targets.now.rows =
    omega (arith, c.loop-i-test.true, c.rows-i-end.ensures.count) in
    let tw : length t ≡ c.args.m.now.width = c.row.ensures.is_row.length_is ∙ c.requires.widths.2 in
    let one : 1 < P = rw c.prime-in-loop-i.ensures at (prime_above_one c.prime-in-loop-i.result) in
    let u : IsPreimage P rows c.args.s.now.kernel.rows t c.in_ok-u.u.entries =
    rw (
      c.prime-in-loop-i.ensures,
      c.row.ensures.entries,
    ) at (c.in_ok-u.ensures.preimage rows (sym c.rows-n.ensures.count)
    (rw (c.prime-in-loop-i.ensures, c.row.ensures.entries, tw) c.requires.image)
    (rw c.prime-in-loop-i.ensures c.requires.preimages)
    (rw (c.prime-in-loop-i.ensures, c.row.ensures.entries) (c.requires.in_span c.loop-i.i l))) in
    record {
      prime = rw c.in_ok-push.ensures.pushed c.loop-i.invariant.prime;
      width = rw c.in_ok-push.ensures.pushed c.loop-i.invariant.width;
      done = rw (
        c.in_ok-push.ensures.pushed,
        c.view.ensures.entries,
        take_more c.args.targets.now.rows c.loop-i.i [] l,
      )
          (preimages_push t c.in_ok-u.u.entries c.loop-i.invariant.done u);
    }

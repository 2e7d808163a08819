use Rattle.std.proofs.Common.{◌≡◌, ℕ, List, map, reverse, ap, sym, ◌∙◌}
use Rattle.linear_algebra.specs.Modular.{IsFieldModulo}
use Rattle.linear_algebra.specs.Rows.{pivot}
use Rattle.fp_rows.specs.Eliminations.{IsElimination}
use Rattle.fp_rows.specs.Lists.{lists}
use Rattle.fp_rows.proofs.ListLemmas.{lists-reverse, over-reverse}
use Rattle.fp_rows.proofs.Primes.{prime_field}
use Rattle.fp_rows.proofs.SolvingLemmas.{solved_kernel, solved_image, solved_preimages}
use Rattle.fp_rows.proofs.kernels.solve.Goals as goal

pub of_parts-kernel-requires : goal.of_parts-kernel-requires
of_parts-kernel-requires c =
    let P : ℕ = c.args.m.now.p in
    let rows : List (List ℕ) = c.args.m.now.rows in
    let d : IsElimination P c.args.m.now.width rows 0 c.in_ok-e.e = c.in_ok-e.ensures in
    let K : lists c.reverse.new.self.items ≡ reverse (lists c.in_ok-e.e.kernel.items) =
    ap lists c.reverse.ensures.items ∙ lists-reverse c.in_ok-e.e.kernel.items in
    record {
      matrix = rw (K, c.prime-prime.ensures, c.rows-n.ensures.count) d.solved.kernel_rows;
      over = rw (
        c.reverse.ensures.items,
        c.prime-prime.ensures,
      ) (over-reverse P c.in_ok-e.e.kernel.items d.kernel_over);
      echelon = rw K d.solved.kernel_echelon;
      pivots_are = c.reverse-2.ensures.items ∙ d.kernel_pivots_are ∙ ap (map pivot) (sym K);
    }

pub returns-clause-kernel : goal.returns-clause-kernel
returns-clause-kernel c =
    let P : ℕ = c.args.m.now.p in
    let rows : List (List ℕ) = c.args.m.now.rows in
    let d : IsElimination P c.args.m.now.width rows 0 c.in_ok-e.e = c.in_ok-e.ensures in
    let K : lists c.reverse.new.self.items ≡ reverse (lists c.in_ok-e.e.kernel.items) =
    ap lists c.reverse.ensures.items ∙ lists-reverse c.in_ok-e.e.kernel.items in
    let field : IsFieldModulo P = rw c.prime-prime.ensures at (prime_field c.prime-prime.result) in
    rw (c.of_parts-kernel.ensures, K) (solved_kernel field d.solved)

pub returns-clause-image : goal.returns-clause-image
returns-clause-image c =
    let P : ℕ = c.args.m.now.p in
    let rows : List (List ℕ) = c.args.m.now.rows in
    let d : IsElimination P c.args.m.now.width rows 0 c.in_ok-e.e = c.in_ok-e.ensures in
    let K : lists c.reverse.new.self.items ≡ reverse (lists c.in_ok-e.e.kernel.items) =
    ap lists c.reverse.ensures.items ∙ lists-reverse c.in_ok-e.e.kernel.items in
    rw c.of_parts-image.ensures (solved_image d.solved)

pub returns-clause-preimages : goal.returns-clause-preimages
returns-clause-preimages c =
    let P : ℕ = c.args.m.now.p in
    let rows : List (List ℕ) = c.args.m.now.rows in
    let d : IsElimination P c.args.m.now.width rows 0 c.in_ok-e.e = c.in_ok-e.ensures in
    let K : lists c.reverse.new.self.items ≡ reverse (lists c.in_ok-e.e.kernel.items) =
    ap lists c.reverse.ensures.items ∙ lists-reverse c.in_ok-e.e.kernel.items in
    rw (c.of_parts-kernel.ensures, c.of_parts-image.ensures, K) (solved_preimages d.solved)

use Rattle.std.proofs.Common.{◌≡◌, ◌+◌, ◌-◌, ◌<◌, ◌≤◌, ℕ, zero, suc, arith, ap}
use Rattle.std.proofs.Common.{sym, ◌∙◌}
use Rattle.std.proofs.Common.{rules}
use Rattle.linear_algebra.specs.Modular.{sum_below}
use Rattle.linear_algebra.specs.Rows.{entry}
use Rattle.fp_rows.specs.Refs.{entries_of}
use Rattle.fp_rows.proofs.row_ref.RowRef.sum.Goals as goal

-- a sum passes over numbers that are 0
sum_passed : (f : ℕ → ℕ) (k d : ℕ) → ((i : ℕ) → k ≤ i → i < k + d → f i ≡ 0)
    → sum_below (k + d) f ≡ sum_below k f
sum_passed f k zero h = ap (λ n. sum_below n f) (let z : k + 0 ≡ k = omega arith in z)
sum_passed f k (suc d) h = ap (λ n. sum_below n f) (let z : k + suc d ≡ suc (k + d) = omega arith in z)
    ∙ (let a : sum_below (k + d) f ≡ sum_below k f = sum_passed f k d (λ i l m. h i l (omega (arith, m))) in
    let b : f (k + d) ≡ 0 = h (k + d) (omega arith) (omega arith) in omega (arith, a, b))

sum_to : (f : ℕ → ℕ) (k m : ℕ) → k ≤ m → ((i : ℕ) → k ≤ i → i < m → f i ≡ 0)
    → sum_below m f ≡ sum_below k f
sum_to f k m l h = let e : k + (m - k) ≡ m = omega (arith, l) in
    ap (λ n. sum_below n f) (sym e) ∙ sum_passed f k (m - k) (λ i a b. h i a (omega (arith, b, e)))

pub loop-i-init : goal.loop-i-init
loop-i-init c =
    let f : ℕ → ℕ = entry (entries_of c.args.self.now) in
    let e : sum_below c.next_place-i.result f ≡ 0 =
    sum_to f 0 c.next_place-i.result (omega arith) c.next_place-i.ensures.before in
    record {
      within = c.next_place-i.ensures.within;
      below = omega (arith, c.args.self.now.above_one);
      value = rw e (omega (arith, c.args.self.now.above_one));
    }

pub loop-i-preserved : goal.loop-i-preserved
loop-i-preserved c =
    let f : ℕ → ℕ = entry (entries_of c.args.self.now) in
    let e : sum_below c.next_place-i-in-loop-i.result f ≡ sum_below (c.loop-i.i + 1) f =
    sum_to f (c.loop-i.i + 1) c.next_place-i-in-loop-i.result c.next_place-i-in-loop-i.ensures.after
    c.next_place-i-in-loop-i.ensures.before in
    record {
      within = c.next_place-i-in-loop-i.ensures.within;
      below = c.add_product-sum.ensures.below;
      value = rw e (search rules);
    }

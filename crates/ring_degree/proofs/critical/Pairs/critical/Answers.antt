use Rattle.std.proofs.Common.{◌≡◌, ℕ, ◌-◌, ◌<◌, ◌↔◌, List, length, arith, subst, ◌∙◌}
use Rattle.ring_completion.specs.Candidates.{IsListed}
use Rattle.ring_degree.specs.Critical.{IsCriticalWith}
use Rattle.ring_degree.proofs.Gaining.{one-more}
use Rattle.ring_degree.proofs.critical.Pairs.critical.Goals as goal

pub loop-i-preserved : goal.loop-i-preserved
loop-i-preserved c =
    let g = c.args.self.now.gens.now in
    record {
      prime = c.in_ok-push_critical.ensures.prime ∙ c.loop-i.invariant.prime;
      width = c.in_ok-push_critical.ensures.width ∙ c.loop-i.invariant.width;
      rows_are = one-more
          (λ i v. IsCriticalWith (g.prime - 1) g.degrees c.args.self.now.tables.now c.args.self.now.width
          c.args.self.now.forms.now i v)
          (IsCriticalWith (g.prime - 1) g.degrees c.args.self.now.tables.now c.args.self.now.width
          c.args.self.now.forms.now c.loop-i.i)
          c.loop-i.i c.loop-i.rows.rows c.push_critical.new.rows.rows c.loop-i.invariant.rows_are
          c.in_ok-push_critical.ensures.rows (λ m. ((λ x. x), (λ x. x)));
    }

pub returns-clause-rows : goal.returns-clause-rows
returns-clause-rows c =
    let g = c.args.self.now.gens.now in
    let e : c.loop-i.i ≡ length c.args.self.now.gens.now.degrees = omega (
      arith,
      c.loop-i-test.false,
      c.loop-i.auto.i-end,
      c.len-i-end.ensures.value,
    ) in
    subst (λ n. (v : List ℕ) → IsListed c.loop-i.rows.rows v ↔ ((i : ℕ) × (i < n)
    × IsCriticalWith (g.prime - 1) g.degrees c.args.self.now.tables.now c.args.self.now.width
    c.args.self.now.forms.now i v)) e c.loop-i.invariant.rows_are

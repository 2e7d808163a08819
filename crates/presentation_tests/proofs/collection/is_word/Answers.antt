-- The exponents past the end are 0.
use Rattle.std.proofs.Common.{◌≡◌, ℕ, ◌<◌, ◌≤◌, arith, subst, sym, get_or, length, ◌⊎◌, inl, inr}
use Rattle.std.proofs.Math.ListN.{get_or-eq_default}
use Rattle.std.proofs.lemmas.Grind.{get_or_default_zero}
use Rattle.std.proofs.lemmas.Bool.{eqb-true}
use Rattle.power_commutator.proofs.Cyclic.{less-or}
use Rattle.presentation_tests.proofs.collection.is_word.Goals as goal

pub returns : goal.returns
returns c h = record {
  len = eqb-true (length c.args.exponents.now) c.args.gens h;
  small = λ k d l.
      let w = c.args.exponents.now in
      let l' : k < length w = l in
      let end = c.loop-k-test.false in
      subst (λ e. e < c.args.prime) (sym (get_or_default_zero w k d l))
      (c.loop-k.invariant.small k (omega (arith, l', end)));
  later = λ k l. go k l (less-or k (length c.args.exponents.now));
}
  where
    go : (k : ℕ) → k < c.args.j → (k < length c.args.exponents.now) ⊎ (length c.args.exponents.now ≤ k)
        → get_or c.args.exponents.now k 0 ≡ 0
    go k l (inl t) = c.loop-k.invariant.later k (let end = c.loop-k-test.false in omega (arith, t, end)) l
    go k l (inr t) = get_or-eq_default c.args.exponents.now 0 t

use Rattle.std.proofs.Common.{◌≡◌, ◌<◌, ◌≤◌, ◌⊎◌, inl, inr, length, arith, ap, sym, ◌∙◌}
use Rattle.std.proofs.lemmas.Bool.{cases_lt}
use Rattle.linear_algebra.specs.Rows.{pivot}
use Rattle.fp_rows.specs.Places.{places}
use Rattle.fp_rows.proofs.BitLemmas.{first_bit, no_bit}
use Rattle.fp_rows.proofs.bits.Bits.first.Goals as goal

pub first_place-requires : goal.first_place-requires
first_place-requires c = record {
  few = omega (arith, c.deref.ensures.value, ap length c.deref.ensures.value, c.self.invariant.count);
  all = omega (arith, ap length c.deref.ensures.value, c.self.invariant.count);
  zero = rw c.deref.ensures.value c.self.invariant.zero;
}

pub returns : goal.returns
returns c = rw (← c.self.view_is) (go (cases_lt c.first_place.result c.self.inside.len))
  where
    go : (c.first_place.result < c.self.inside.len) ⊎ (c.self.inside.len ≤ c.first_place.result)
        → c.first_place.result ≡ pivot (places c.self.inside.words.items 0 c.self.inside.len)
    go (inl l) = sym (first_bit c.self.inside.words.items c.self.inside.len c.first_place.result l
        (rw c.deref.ensures.value at c.first_place.ensures.before)
        (rw c.deref.ensures.value at (c.first_place.ensures.here l)))
    go (inr l) = let e : c.first_place.result ≡ c.self.inside.len =
        omega (arith, l, c.first_place.ensures.within) in
        e ∙ sym (no_bit c.self.inside.words.items c.self.inside.len
        (λ j m. (rw c.deref.ensures.value at c.first_place.ensures.before) j (omega arith)))

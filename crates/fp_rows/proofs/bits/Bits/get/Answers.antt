use Rattle.std.proofs.Common.{◌≡◌, length, arith, ap, sym, ◌∙◌}
use Rattle.fp_rows.specs.Places.{place}
use Rattle.fp_rows.proofs.PlaceLemmas.{length-places}
use Rattle.fp_rows.proofs.BitLemmas.{entry_bits}
use Rattle.fp_rows.proofs.bits.Bits.get.Goals as goal

pub place_at-requires : goal.place_at-requires
place_at-requires c =
    let n : length c.args.self.now ≡ c.self.inside.len = sym (ap length c.self.view_is)
    ∙ length-places c.self.inside.words.items 0 c.self.inside.len in
    omega (arith, n, c.requires, ap length c.deref.ensures.value, c.self.invariant.count)

pub returns-clause-value : goal.returns-clause-value
returns-clause-value c =
    let n : length c.args.self.now ≡ c.self.inside.len = sym (ap length c.self.view_is)
    ∙ length-places c.self.inside.words.items 0 c.self.inside.len in
    rw (← c.self.view_is) (c.place_at.ensures.value ∙ ap (λ ws. place ws c.args.i) c.deref.ensures.value
    ∙ sym (entry_bits c.self.inside.words.items c.self.inside.len c.args.i
    (omega (arith, n, c.requires))))

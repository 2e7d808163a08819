use Rattle.std.proofs.Common.{◌≡◌, ℕ, length, replicate, arith, ap, sym, ◌∙◌}
use Rattle.std.proofs.lemmas.List.{length-replicate}
use Rattle.fp_rows.proofs.PlaceLemmas.{length-places, place_of_zeros}
use Rattle.fp_rows.proofs.BitLemmas.{cleared_bits}
use Rattle.fp_rows.proofs.bits.Bits.clear.Goals as goal

pub invariant_of-self : goal.invariant_of-self
invariant_of-self c =
    let s : c.fill.new.self.items ≡ replicate {A = ℕ} c.self.inside.words.len 0 =
    c.fill.ensures.items (λ y e. e) in
    rw s (record {
      small = c.self.invariant.small;
      count = (let l : length (replicate {A = ℕ} c.self.inside.words.len 0)
          ≡ c.self.inside.words.len = length-replicate {A = ℕ} c.self.inside.words.len 0 in
          omega (arith, l, c.self.inside.words.ok.0, c.self.invariant.count));
      zero = λ j l. place_of_zeros c.self.inside.words.len j;
    })

pub returns : goal.returns
returns c =
    let s : c.fill.new.self.items ≡ replicate {A = ℕ} c.self.inside.words.len 0 =
    c.fill.ensures.items (λ y e. e) in
    let n : length c.args.self.now ≡ c.self.inside.len = sym (ap length c.self.view_is)
    ∙ length-places c.self.inside.words.items 0 c.self.inside.len in
    rw (s, n) (cleared_bits c.self.inside.words.len c.self.inside.len)

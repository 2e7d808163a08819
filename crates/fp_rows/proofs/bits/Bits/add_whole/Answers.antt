use Rattle.std.proofs.Common.{◌≡◌, ◌+◌, ◌/◌, ◌%◌, length, arith, ap, sym, ◌∙◌}
use Rattle.std.proofs.lemmas.List.{with_items_is}
use Rattle.std.specs.Vec.{with_items}
use Rattle.fp_rows.specs.Places.{place}
use Rattle.fp_rows.proofs.PlaceLemmas.{length-places}
use Rattle.fp_rows.proofs.BitLemmas.{sum_bits}
use Rattle.fp_rows.proofs.bits.Bits.add_whole.Goals as goal

pub add_words-requires : goal.add_words-requires
add_words-requires c =
    let n : length c.args.self.now ≡ c.self.inside.len = sym (ap length c.self.view_is)
    ∙ length-places c.self.inside.words.items 0 c.self.inside.len in
    let m : length c.args.r.now ≡ c.r.inside.len = sym (ap length c.r.view_is)
    ∙ length-places c.r.inside.words.items 0 c.r.inside.len in
    let k : c.r.inside.len ≡ c.self.inside.len = omega (arith, n, m, c.requires) in
    let e : length c.deref.result.now ≡ length c.deref_mut.result.now =
    ap length c.deref.ensures.value ∙ c.r.invariant.count ∙ ap (λ l. (l + 63) / 64) k
    ∙ sym c.self.invariant.count ∙ sym (ap length c.deref_mut.ensures.value) in
    omega (arith, e)

pub invariant_of-self : goal.invariant_of-self
invariant_of-self c =
    let n : length c.args.self.now ≡ c.self.inside.len = sym (ap length c.self.view_is)
    ∙ length-places c.self.inside.words.items 0 c.self.inside.len in
    let m : length c.args.r.now ≡ c.r.inside.len = sym (ap length c.r.view_is)
    ∙ length-places c.r.inside.words.items 0 c.r.inside.len in
    let e : (with_items c.self.inside.words c.add_words.new.dst).items ≡ c.add_words.new.dst =
    with_items_is c.self.inside.words c.add_words.new.dst
    (omega (arith, c.add_words.ensures.same_length, c.deref_mut.ensures.len, c.self.inside.words.ok.0)) in
    rw e (record {
      small = c.self.invariant.small;
      count = c.add_words.ensures.same_length ∙ ap length c.deref_mut.ensures.value ∙ c.self.invariant.count;
      zero = λ j l. (let s : place c.add_words.new.dst j ≡
          (place c.self.inside.words.items j + place c.r.inside.words.items j) % 2 =
          rw (c.deref_mut.ensures.value, c.deref.ensures.value) at (c.add_words.ensures.sums j) in
          omega (
            arith,
            s,
            c.self.invariant.zero j l,
            c.r.invariant.zero j (omega (arith, l, n, m, c.requires)),
          ));
    })

pub returns : goal.returns
returns c =
    let n : length c.args.self.now ≡ c.self.inside.len = sym (ap length c.self.view_is)
    ∙ length-places c.self.inside.words.items 0 c.self.inside.len in
    let m : length c.args.r.now ≡ c.r.inside.len = sym (ap length c.r.view_is)
    ∙ length-places c.r.inside.words.items 0 c.r.inside.len in
    let k : c.r.inside.len ≡ c.self.inside.len = omega (arith, n, m, c.requires) in
    let e : (with_items c.self.inside.words c.add_words.new.dst).items ≡ c.add_words.new.dst =
    with_items_is c.self.inside.words c.add_words.new.dst
    (omega (arith, c.add_words.ensures.same_length, c.deref_mut.ensures.len, c.self.inside.words.ok.0)) in
    rw (
      e,
      ← c.self.view_is,
      ← c.r.view_is,
      k,
    ) (sum_bits c.add_words.new.dst c.self.inside.words.items c.r.inside.words.items 0 c.self.inside.len
    (λ j l. (rw (c.deref_mut.ensures.value, c.deref.ensures.value) at (c.add_words.ensures.sums j))
    ∙ ap (λ i. (place c.self.inside.words.items j + place c.r.inside.words.items i) % 2)
    (let z : j ≡ 0 + j = omega arith in z)))

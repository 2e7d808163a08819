use Rattle.std.proofs.Common.{◌≡◌, length, arith, ap, sym, ◌∙◌}
use Rattle.std.proofs.lemmas.List.{with_items_is}
use Rattle.std.specs.Vec.{with_items}
use Rattle.fp_rows.specs.Places.{place}
use Rattle.fp_rows.proofs.PlaceLemmas.{length-places}
use Rattle.fp_rows.proofs.BitLemmas.{sum_bits}
use Rattle.fp_rows.proofs.bits.Bits.add.Goals as goal

pub add_places-requires-clause-words : goal.add_places-requires-clause-words
add_places-requires-clause-words c =
    let n : length c.args.self.now ≡ c.self.inside.len = sym (ap length c.self.view_is)
    ∙ length-places c.self.inside.words.items 0 c.self.inside.len in
    omega (
      arith,
      n,
      c.requires,
      length-places c.args.r.words.now c.args.r.from c.args.r.len,
      c.deref_mut.ensures.len,
      c.self.inside.words.ok.0,
      c.self.invariant.count,
    )

pub invariant_of-self : goal.invariant_of-self
invariant_of-self c =
    let n : length c.args.self.now ≡ c.self.inside.len = sym (ap length c.self.view_is)
    ∙ length-places c.self.inside.words.items 0 c.self.inside.len in
    let e : (with_items c.self.inside.words c.add_places.new.dst).items ≡ c.add_places.new.dst =
    with_items_is c.self.inside.words c.add_places.new.dst
    (omega (
      arith,
      c.add_places.ensures.same_length,
      c.deref_mut.ensures.len,
      c.self.inside.words.ok.0,
    )) in
    let m : c.args.r.len ≡ c.self.inside.len =
    omega (arith, n, c.requires, length-places c.args.r.words.now c.args.r.from c.args.r.len) in
    rw e (record {
      small = c.self.invariant.small;
      count = c.add_places.ensures.same_length ∙ ap length c.deref_mut.ensures.value ∙ c.self.invariant.count;
      zero = λ j l. c.add_places.ensures.rest j (omega arith)
          ∙ ap (λ ws. place ws j) c.deref_mut.ensures.value ∙ c.self.invariant.zero j l;
    })

pub returns : goal.returns
returns c =
    let n : length c.args.self.now ≡ c.self.inside.len = sym (ap length c.self.view_is)
    ∙ length-places c.self.inside.words.items 0 c.self.inside.len in
    let e : (with_items c.self.inside.words c.add_places.new.dst).items ≡ c.add_places.new.dst =
    with_items_is c.self.inside.words c.add_places.new.dst
    (omega (
      arith,
      c.add_places.ensures.same_length,
      c.deref_mut.ensures.len,
      c.self.inside.words.ok.0,
    )) in
    let m : c.args.r.len ≡ c.self.inside.len =
    omega (arith, n, c.requires, length-places c.args.r.words.now c.args.r.from c.args.r.len) in
    rw (e, ← c.self.view_is, m) (sum_bits c.add_places.new.dst c.self.inside.words.items c.args.r.words.now
    c.args.r.from c.self.inside.len
    (λ j l. rw c.deref_mut.ensures.value at (c.add_places.ensures.sums j (omega arith))))

use Rattle.std.proofs.Common.{◌≡◌, ◌-◌, length, arith, ap, sym, ◌∙◌, refl}
use Rattle.std.proofs.lemmas.List.{with_items_is}
use Rattle.std.specs.Vec.{with_items}
use Rattle.fp_rows.specs.Places.{place}
use Rattle.fp_rows.proofs.PlaceLemmas.{length-places, place_below}
use Rattle.fp_rows.proofs.BitLemmas.{set_bits}
use Rattle.fp_rows.proofs.bits.Bits.set.Goals as goal

pub place_at-requires : goal.place_at-requires
place_at-requires c =
    let n : length c.args.self.now ≡ c.self.inside.len = sym (ap length c.self.view_is)
    ∙ length-places c.self.inside.words.items 0 c.self.inside.len in
    omega (arith, n, c.requires.inside, ap length c.deref.ensures.value, c.self.invariant.count)

pub flip-requires : goal.flip-requires
flip-requires c =
    let n : length c.args.self.now ≡ c.self.inside.len = sym (ap length c.self.view_is)
    ∙ length-places c.self.inside.words.items 0 c.self.inside.len in
    omega (arith, n, c.requires.inside, ap length c.deref_mut.ensures.value, c.self.invariant.count)

pub invariant_of-self : goal.invariant_of-self
invariant_of-self c =
    let n : length c.args.self.now ≡ c.self.inside.len = sym (ap length c.self.view_is)
    ∙ length-places c.self.inside.words.items 0 c.self.inside.len in
    let e : (with_items c.self.inside.words c.flip.new.words).items ≡ c.flip.new.words =
    with_items_is c.self.inside.words c.flip.new.words
    (omega (arith, c.flip.ensures.same_length, c.deref_mut.ensures.len, c.self.inside.words.ok.0)) in
    rw e (record {
      small = c.self.invariant.small;
      count = c.flip.ensures.same_length ∙ ap length c.deref_mut.ensures.value ∙ c.self.invariant.count;
      zero = λ j l. c.flip.ensures.others j (λ s. omega (arith, n, c.requires.inside))
          ∙ ap (λ ws. place ws j) c.deref_mut.ensures.value ∙ c.self.invariant.zero j l;
    })

pub returns-then-place_at-v : goal.returns-then-place_at-v
returns-then-place_at-v c =
    let n : length c.args.self.now ≡ c.self.inside.len = sym (ap length c.self.view_is)
    ∙ length-places c.self.inside.words.items 0 c.self.inside.len in
    let e : (with_items c.self.inside.words c.flip.new.words).items ≡ c.flip.new.words =
    with_items_is c.self.inside.words c.flip.new.words
    (omega (arith, c.flip.ensures.same_length, c.deref_mut.ensures.len, c.self.inside.words.ok.0)) in
    let was : place c.self.inside.words.items c.args.i ≡ c.place_at.result =
    ap (λ ws. place ws c.args.i) (sym c.deref.ensures.value) ∙ sym c.place_at.ensures.value in
    rw (e, ← c.self.view_is) (set_bits c.self.inside.words.items c.flip.new.words c.self.inside.len c.args.i
    c.args.v (omega (arith, n, c.requires.inside))
    (c.flip.ensures.here ∙ ap (λ ws. 1 - place ws c.args.i) c.deref_mut.ensures.value
    ∙ omega (
      arith,
      was,
      c.requires.below,
      c.if-place_at-v.true,
      place_below c.self.inside.words.items c.args.i,
    ))
    (λ j m. c.flip.ensures.others j m ∙ ap (λ ws. place ws j) c.deref_mut.ensures.value))

pub returns-else-place_at-v : goal.returns-else-place_at-v
returns-else-place_at-v c =
    let n : length c.args.self.now ≡ c.self.inside.len = sym (ap length c.self.view_is)
    ∙ length-places c.self.inside.words.items 0 c.self.inside.len in
    let was : place c.self.inside.words.items c.args.i ≡ c.args.v =
    ap (λ ws. place ws c.args.i) (sym c.deref.ensures.value) ∙ sym c.place_at.ensures.value
    ∙ c.if-place_at-v.false in
    rw (← c.self.view_is) (set_bits c.self.inside.words.items c.self.inside.words.items c.self.inside.len
    c.args.i c.args.v (omega (arith, n, c.requires.inside)) was (λ j m. refl))

use Rattle.std.proofs.Common.{◌≡◌, ℕ, ◌+◌, ◌-◌, ◌%◌, ◌<◌, List, length, arith, ap, sym, ◌∙◌}
use Rattle.std.proofs.lemmas.List.{with_items_is}
use Rattle.std.specs.Int.{bit_at}
use Rattle.std.specs.Vec.{with_items}
use Rattle.fp_rows.specs.Places.{place}
use Rattle.fp_rows.proofs.PlaceLemmas.{length-places}
use Rattle.fp_rows.proofs.BitLemmas.{entry_bits, same_bit}
use Rattle.fp_rows.proofs.bits.Bits.add_word.Goals as goal

pub add_low_bits-requires-clause-within : goal.add_low_bits-requires-clause-within
add_low_bits-requires-clause-within c =
    let n : length c.args.self.now ≡ c.self.inside.len = sym (ap length c.self.view_is)
    ∙ length-places c.self.inside.words.items 0 c.self.inside.len in
    omega (arith, n, c.requires.within, ap length c.deref_mut.ensures.value, c.self.invariant.count)

pub invariant_of-self : goal.invariant_of-self
invariant_of-self c =
    let ws : List ℕ = c.self.inside.words.items in
    let len : ℕ = c.self.inside.len in
    let n : length c.args.self.now ≡ len = sym (ap length c.self.view_is) ∙ length-places ws 0 len in
    let new : List ℕ = c.add_low_bits.new.words in
    let e : (with_items c.self.inside.words new).items ≡ new =
    with_items_is c.self.inside.words new
    (omega (
      arith,
      c.add_low_bits.ensures.same_length,
      c.deref_mut.ensures.len,
      c.self.inside.words.ok.0,
    )) in
    let v : c.deref_mut.result.now ≡ ws = c.deref_mut.ensures.value in
    rw e (record {
      small = c.self.invariant.small;
      count = c.add_low_bits.ensures.same_length ∙ ap length v ∙ c.self.invariant.count;
      zero = λ j l. c.add_low_bits.ensures.after j (omega (arith, l, n, c.requires.within))
          ∙ ap (λ xs. place xs j) v ∙ c.self.invariant.zero j l;
    })

pub returns-clause-same_length : goal.returns-clause-same_length
returns-clause-same_length c =
    let ws : List ℕ = c.self.inside.words.items in
    let len : ℕ = c.self.inside.len in
    let n : length c.args.self.now ≡ len = sym (ap length c.self.view_is) ∙ length-places ws 0 len in
    let new : List ℕ = c.add_low_bits.new.words in
    let e : (with_items c.self.inside.words new).items ≡ new =
    with_items_is c.self.inside.words new
    (omega (
      arith,
      c.add_low_bits.ensures.same_length,
      c.deref_mut.ensures.len,
      c.self.inside.words.ok.0,
    )) in
    let v : c.deref_mut.result.now ≡ ws = c.deref_mut.ensures.value in
    rw e (length-places new 0 len ∙ sym n)

pub returns-clause-inside : goal.returns-clause-inside
returns-clause-inside c =
    let ws : List ℕ = c.self.inside.words.items in
    let len : ℕ = c.self.inside.len in
    let n : length c.args.self.now ≡ len = sym (ap length c.self.view_is) ∙ length-places ws 0 len in
    let new : List ℕ = c.add_low_bits.new.words in
    let e : (with_items c.self.inside.words new).items ≡ new =
    with_items_is c.self.inside.words new
    (omega (
      arith,
      c.add_low_bits.ensures.same_length,
      c.deref_mut.ensures.len,
      c.self.inside.words.ok.0,
    )) in
    let v : c.deref_mut.result.now ≡ ws = c.deref_mut.ensures.value in
    λ j a b. let m : j < len = omega (arith, b, n, c.requires.within) in
    rw (e, ← c.self.view_is) (entry_bits new len j m ∙ c.add_low_bits.ensures.inside j a b
    ∙ ap (λ z. (z + bit_at c.args.x (j - c.args.at)) % 2) (ap (λ xs. place xs j) v
    ∙ sym (entry_bits ws len j m)))

pub returns-clause-before : goal.returns-clause-before
returns-clause-before c =
    let ws : List ℕ = c.self.inside.words.items in
    let len : ℕ = c.self.inside.len in
    let n : length c.args.self.now ≡ len = sym (ap length c.self.view_is) ∙ length-places ws 0 len in
    let new : List ℕ = c.add_low_bits.new.words in
    let e : (with_items c.self.inside.words new).items ≡ new =
    with_items_is c.self.inside.words new
    (omega (
      arith,
      c.add_low_bits.ensures.same_length,
      c.deref_mut.ensures.len,
      c.self.inside.words.ok.0,
    )) in
    let v : c.deref_mut.result.now ≡ ws = c.deref_mut.ensures.value in
    λ j a. rw (e, ← c.self.view_is) (same_bit new ws len j (c.add_low_bits.ensures.before j a
    ∙ ap (λ xs. place xs j) v))

pub returns-clause-after : goal.returns-clause-after
returns-clause-after c =
    let ws : List ℕ = c.self.inside.words.items in
    let len : ℕ = c.self.inside.len in
    let n : length c.args.self.now ≡ len = sym (ap length c.self.view_is) ∙ length-places ws 0 len in
    let new : List ℕ = c.add_low_bits.new.words in
    let e : (with_items c.self.inside.words new).items ≡ new =
    with_items_is c.self.inside.words new
    (omega (
      arith,
      c.add_low_bits.ensures.same_length,
      c.deref_mut.ensures.len,
      c.self.inside.words.ok.0,
    )) in
    let v : c.deref_mut.result.now ≡ ws = c.deref_mut.ensures.value in
    λ j a. rw (e, ← c.self.view_is) (same_bit new ws len j (c.add_low_bits.ensures.after j a
    ∙ ap (λ xs. place xs j) v))

use Rattle.std.proofs.Common.{◌≡◌, ℕ, ◌+◌, ◌/◌, arith, ap, ◌∙◌}
use Rattle.std.proofs.lemmas.List.{with_items_is}
use Rattle.std.specs.Vec.{with_items}
use Rattle.fp_rows.specs.Places.{place}
use Rattle.fp_rows.proofs.PlaceLemmas.{place_below, place_of_zeros}
use Rattle.fp_rows.proofs.words.copy_of_places.Goals as goal

pub returns-clause-copied : goal.returns-clause-copied
returns-clause-copied c =
    let e : (with_items c.in_ok-copy.copy c.add_places.new.dst).items ≡ c.add_places.new.dst =
    with_items_is c.in_ok-copy.copy c.add_places.new.dst
    (omega (arith, c.add_places.ensures.same_length, c.deref_mut.ensures.len, c.in_ok-copy.copy.ok.0)) in
    let z : (j : ℕ) → place c.deref_mut.result.now j ≡ 0 =
    λ j. ap (λ ws. place ws j) (c.deref_mut.ensures.value ∙ c.in_ok-copy.ensures)
    ∙ place_of_zeros ((c.args.len + 63) / 64) j in
    rw e (λ j l. c.add_places.ensures.sums j l
    ∙ omega (arith, z j, place_below c.args.words.now (c.args.from + j)))

pub returns-clause-zero : goal.returns-clause-zero
returns-clause-zero c =
    let e : (with_items c.in_ok-copy.copy c.add_places.new.dst).items ≡ c.add_places.new.dst =
    with_items_is c.in_ok-copy.copy c.add_places.new.dst
    (omega (arith, c.add_places.ensures.same_length, c.deref_mut.ensures.len, c.in_ok-copy.copy.ok.0)) in
    let z : (j : ℕ) → place c.deref_mut.result.now j ≡ 0 =
    λ j. ap (λ ws. place ws j) (c.deref_mut.ensures.value ∙ c.in_ok-copy.ensures)
    ∙ place_of_zeros ((c.args.len + 63) / 64) j in
    rw e (λ j l. c.add_places.ensures.rest j l ∙ z j)

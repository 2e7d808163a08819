use Rattle.std.proofs.Common.{◌≡◌, ◌*◌, ◌^◌, ◌<◌, ◌≤◌, suc, length, drop, refl, arith, sym, ap, subst}
use Rattle.coho_io.specs.Content.{file}
use Rattle.min_res.specs.RecordChecks.{IsNotAdopted}
use Rattle.min_res.specs.declared.adopt_fault.AdoptFault.TheVariants as fault
use Rattle.p_groups.specs.PGroups.{order_of}
use Rattle.stage_records.specs.Walks.{Takes}
use Rattle.stage_file.specs.Views.{parts_of_ref}
use Rattle.stage_file.proofs.Honest.{small-parts}
use Rattle.stage_walk.specs.Pieces.{IsRecordPart}
use Rattle.stage_walk.specs.Turns.{GoesAt, OfBytes}
use Rattle.stage_walk.proofs.Turns.{ends_turn, fails_turn, refuses_turn, takes_turn, within}
use Rattle.stage_walk.proofs.records.take_record.Goals as goal

pub returns-in-Cut-clause-turn : goal.returns-in-Cut-clause-turn
returns-in-Cut-clause-turn g c =
    let low : suc c.args.resolution.now.last ≤ 24 = omega (arith, c.requires.before) in
    record {
      same = refl;
      ends = ends_turn c.args.resolution.now.group c.args.resolution.now.last c.shape_after.result
          c.deref.result.now low
          c.shape_after.ensures (c.next_of.ensures.verdict c.args.resolution.now.group
          c.args.resolution.now.last low c.shape_after.ensures) c.next_of.ensures.bytes
          (g.F.Files.content c.args.files.now) c.args.path.now c.args.at
          (λ told t. subst (IsRecordPart (file told c.args.path.now) c.args.at) (sym c.deref.ensures.value)
          (c.in_ok-bytes.ensures.part told t))
          (sym c.in-Cut.ensures.reading);
    }

pub returns-in-Malformed-clause-refused : goal.returns-in-Malformed-clause-refused
returns-in-Malformed-clause-refused g c =
    let low : suc c.args.resolution.now.last ≤ 24 = omega (arith, c.requires.before) in (
      omega (arith, c.last-number.ensures),
      refuses_turn c.args.resolution.now.group c.args.resolution.now.last
          c.shape_after.result c.deref.result.now low
          c.shape_after.ensures (c.next_of.ensures.verdict c.args.resolution.now.group
          c.args.resolution.now.last low c.shape_after.ensures) c.next_of.ensures.bytes
          (g.F.Files.content c.args.files.now) c.args.path.now c.args.at
          (λ told t. subst (IsRecordPart (file told c.args.path.now) c.args.at) (sym c.deref.ensures.value)
          (c.in_ok-bytes.ensures.part told t))
          c.in-Malformed.field-0 (sym c.in-Malformed.ensures.reading),
    )

pub adopt-requires-clause-follows : goal.adopt-requires-clause-follows
adopt-requires-clause-follows g c =
    let low : suc c.args.resolution.now.last ≤ 24 = omega (arith, c.requires.before) in
    (c.next_of.ensures.verdict c.args.resolution.now.group c.args.resolution.now.last low
    c.shape_after.ensures).follows (parts_of_ref c.in-Whole.parts) (sym c.in-Whole.ensures.reading)

pub adopt-requires-clause-small : goal.adopt-requires-clause-small
adopt-requires-clause-small g c =
    let low : suc c.args.resolution.now.last ≤ 24 = omega (arith, c.requires.before) in
    let degree : c.shape_after.result.degree < 2 ^ 16 = omega (arith, low, c.shape_after.ensures.degree) in
    let small : order_of c.args.resolution.now.group * length (parts_of_ref c.in-Whole.parts).positions ≤ 4096
    = small-parts c.args.resolution.now.group c.args.resolution.now.last c.shape_after.result
    c.deref.result.now (parts_of_ref c.in-Whole.parts) c.shape_after.ensures degree
    c.next_of.ensures.bytes (sym c.in-Whole.ensures.reading) in
    omega (arith, small)

pub returns-in-Ok-clause-turn : goal.returns-in-Ok-clause-turn
returns-in-Ok-clause-turn g c =
    let low : suc c.args.resolution.now.last ≤ 24 = omega (arith, c.requires.before) in
    let l : length c.deref.result.now ≡ c.len.result
    = omega (arith, ap length c.deref.ensures.value, c.len.ensures) in
    record {
      grown = c.in-Ok.ensures.grown;
      within = within c.args.resolution.now.group c.args.resolution.now.last c.shape_after.result
          c.deref.result.now low
          c.shape_after.ensures (c.next_of.ensures.verdict c.args.resolution.now.group
          c.args.resolution.now.last low c.shape_after.ensures) c.next_of.ensures.bytes
          (parts_of_ref c.in-Whole.parts) (sym c.in-Whole.ensures.reading) c.in-Ok.ensures.next;
      short = omega (arith, c.in_ok-bytes.ensures.short, c.len.ensures);
      takes = subst (λ n. OfBytes (g.F.Files.content c.args.files.now) c.args.path.now
          (GoesAt c.args.resolution.now.group c.args.resolution.now.last c.args.at
          (λ rest way. way ≡ Takes (drop n rest)))) l
          (takes_turn c.args.resolution.now.group c.args.resolution.now.last c.shape_after.result
          c.deref.result.now low
          c.shape_after.ensures (c.next_of.ensures.verdict c.args.resolution.now.group
          c.args.resolution.now.last low c.shape_after.ensures) c.next_of.ensures.bytes
          (g.F.Files.content c.args.files.now) c.args.path.now c.args.at
          (λ told t. subst (IsRecordPart (file told c.args.path.now) c.args.at) (sym c.deref.ensures.value)
          (c.in_ok-bytes.ensures.part told t))
          (parts_of_ref c.in-Whole.parts) (sym c.in-Whole.ensures.reading) c.in-Ok.ensures.next);
    }

pub returns-in-Err-False-clause-refused : goal.returns-in-Err-False-clause-refused
returns-in-Err-False-clause-refused g c =
    let low : suc c.args.resolution.now.last ≤ 24 = omega (arith, c.requires.before) in
    let N : IsNotAdopted c.args.resolution.now.group c.args.resolution.now.last
    (parts_of_ref c.in-Whole.parts)
    (fault.False c.in-Err-False.field-0-0 c.in-Err-False.field-0-1) = subst
    (IsNotAdopted c.args.resolution.now.group c.args.resolution.now.last (parts_of_ref c.in-Whole.parts))
    c.in-Err-False.field-0-is c.in-Err-False.ensures.refused in (
      omega (arith, c.last-number.ensures),
      fails_turn c.args.resolution.now.group c.args.resolution.now.last
          c.shape_after.result c.deref.result.now low
          c.shape_after.ensures (c.next_of.ensures.verdict c.args.resolution.now.group
          c.args.resolution.now.last low c.shape_after.ensures) c.next_of.ensures.bytes
          (g.F.Files.content c.args.files.now) c.args.path.now c.args.at
          (λ told t. subst (IsRecordPart (file told c.args.path.now) c.args.at) (sym c.deref.ensures.value)
          (c.in_ok-bytes.ensures.part told t))
          (parts_of_ref c.in-Whole.parts) N.0 c.in-Err-False.field-0-1
          (sym c.in-Whole.ensures.reading) N.2,
    )

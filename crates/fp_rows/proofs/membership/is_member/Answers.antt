use Rattle.std.proofs.Common.{◌<◌, length, arith, sym, ◌∙◌, refl}
use Rattle.group_table.specs.Prime.{prime_value}
use Rattle.linear_algebra.specs.Rows.{IsRow}
use Rattle.linear_algebra.proofs.Congruences.{congruent_trans, same_below}
use Rattle.linear_algebra.proofs.MemberLemmas.{member_by_places, member_at}
use Rattle.fp_rows.specs.Refs.{entries_of}
use Rattle.fp_rows.proofs.membership.is_member.Goals as goal

pub returns-then-value_at-get : goal.returns-then-value_at-get
returns-then-value_at-get c =
    let r : IsRow (prime_value c.args.p) (length (entries_of c.args.v)) (entries_of c.args.v) =
    rw c.requires.v_is at c.len-j-end.ensures.row in
    let l : c.loop-j.j < length (entries_of c.args.v) =
    omega (arith, c.loop-j-test.true, c.len-j-end.ensures.count) in (
      (λ e. absurd (let z : ⊥ = cc e in z)),
      λ s. absurd (c.if-value_at-get.true
          (same_below (congruent_trans c.value_at.ensures.value
          (member_at (entries_of c.args.v) c.requires.echelon s c.loop-j.j))
          c.value_at.ensures.below (r.below c.loop-j.j l) ∙ sym c.get.ensures.value)),
    )

pub returns : goal.returns
returns c =
    let r : IsRow (prime_value c.args.p) (length (entries_of c.args.v)) (entries_of c.args.v) =
    rw c.requires.v_is at c.len-j-end.ensures.row in (
      (λ e. member_by_places (entries_of c.args.v) c.requires.matrix r
          (λ j l. c.loop-j.invariant j (omega (arith, l, c.loop-j-test.false, c.len-j-end.ensures.count)))),
      λ s. refl,
    )

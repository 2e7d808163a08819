use Rattle.std.proofs.Common.{◌≡◌, ℕ, ◌+◌, ◌<◌, ◌⊎◌, inl, inr, w64, arith, sym, ◌∙◌}
use Rattle.std.proofs.lemmas.Bool.{cases_eq}
use Rattle.std.proofs.lemmas.Nat.Bits.{bit_at_set_same, bit_at_set_other}
use Rattle.std.specs.Int.{bit_at}
use Rattle.linear_algebra.specs.Rows.{entry}
use Rattle.fp_rows.proofs.numbers.word_of_bytes.Goals as goal
use Rattle.fp_rows.proofs.numbers.word_of_bytes.Goals.{then-s-from-eq1, else-s-from-eq1}

pub loop-b-preserved : goal.loop-b-preserved
loop-b-preserved c =
    let within : c.loop-b.b < 64 = omega (arith, c.loop-b-test.true, c.requires.count) in
    let small : entry c.args.s.now (c.args.from + c.loop-b.b) < 2 =
    c.requires.below (c.args.from + c.loop-b.b) (omega (arith, c.loop-b-test.true, c.requires.within)) in
    elim c.if-s-from-eq1.branch [
      | then-s-from-eq1 w ↦
          let go : (i : ℕ) → i < c.loop-b.b + 1 → (i ≡ c.loop-b.b) ⊎ (i ≡ c.loop-b.b → ⊥)
          → bit_at c.if-s-from-eq1.x i ≡ entry c.args.s.now (c.args.from + i) =
          λ i l o. elim o [
            | inl e ↦ rw (w.x-is, e) (bit_at_set_same w64 c.loop-b.x c.loop-b.b within
                ∙ sym w.if-s-from-eq1.true)
            | inr n ↦ rw w.x-is (bit_at_set_other w64 c.loop-b.x c.loop-b.b within i n
                ∙ c.loop-b.invariant.done i (omega arith))
          ] in
          record {
            done = λ i l. go i l (cases_eq i c.loop-b.b);
            rest = λ i l m. rw w.x-is (bit_at_set_other w64 c.loop-b.x c.loop-b.b within i (λ e. omega arith)
                ∙ c.loop-b.invariant.rest i l (omega arith));
          }
      | else-s-from-eq1 w ↦
          let zero : entry c.args.s.now (c.args.from + c.loop-b.b) ≡ 0 =
          omega (arith, small, w.if-s-from-eq1.false) in
          let go : (i : ℕ) → i < c.loop-b.b + 1 → (i ≡ c.loop-b.b) ⊎ (i ≡ c.loop-b.b → ⊥)
          → bit_at c.if-s-from-eq1.x i ≡ entry c.args.s.now (c.args.from + i) =
          λ i l o. elim o [
            | inl e ↦ rw (w.x-is, e) (c.loop-b.invariant.rest c.loop-b.b within (omega arith) ∙ sym zero)
            | inr n ↦ rw w.x-is (c.loop-b.invariant.done i (omega arith))
          ] in
          record {
            done = λ i l. go i l (cases_eq i c.loop-b.b);
            rest = λ i l m. rw w.x-is (c.loop-b.invariant.rest i l (omega arith));
          }
    ]

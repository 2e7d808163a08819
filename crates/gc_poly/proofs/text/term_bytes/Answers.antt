-- The pieces are the coefficient, where it is written, and the powers.
use Rattle.std.proofs.Common.{◌≡◌, ◌++◌, map, inl, inr, IfOk, Result, Ok, Err, arith, ap, ◌∙◌}
use Rattle.std.proofs.lemmas.List.{map-append, take_all}
use Rattle.graded_polynomials.specs.Texts.{factor_texts}
use Rattle.gc_poly.proofs.Writing.{power-next, power-none, coefficient-first, coefficient-left-out, is-empty}
use Rattle.gc_poly.proofs.Writing.{not-empty}
use Rattle.gc_poly.proofs.text.term_bytes.Goals as goal
use Rattle.gc_poly.proofs.text.term_bytes.Goals.{then-exponent-ne0+in_ok-power_bytes+in_ok-push-2}
use Rattle.gc_poly.proofs.text.term_bytes.Goals.{else-exponent-ne0}
use Rattle.gc_poly.proofs.text.term_bytes.Goals.{then-coefficient-ne1+in_ok-format+in_ok-push}
use Rattle.gc_poly.proofs.text.term_bytes.Goals.{then-coefficient-ne1-via-then-coefficient-ne1}
use Rattle.gc_poly.proofs.text.term_bytes.Goals.{then-coefficient-ne1-via-else-coefficient-ne1+then-is_empty}
use Rattle.gc_poly.proofs.text.term_bytes.Goals.{else-coefficient-ne1+else-is_empty}

pub loop-i-preserved : goal.loop-i-preserved
loop-i-preserved c = elim c.if-exponent-ne0.branch [
  | then-exponent-ne0+in_ok-power_bytes+in_ok-push-2 w ↦
      power-next c.args.gens.now.degrees c.args.m.now c.loop-i.i c.exponent-exponent.result _ _ _
      w.in_ok-power_bytes.field-0.items
      (omega arith) c.exponent-exponent.ensures w.if-exponent-ne0.true w.in_ok-power_bytes.ensures
      c.loop-i.invariant
      (ap (λ v. map (λ p. p.items) v.items) w.pieces-is ∙ ap (map (λ p. p.items)) w.in_ok-push-2.ensures.items
      ∙ map-append (λ p. p.items) c.loop-i.pieces.items _)
  | else-exponent-ne0 w ↦
      ap (λ v. map (λ p. p.items) v.items) w.pieces-is
      ∙ power-none c.args.gens.now.degrees c.args.m.now c.loop-i.i c.exponent-exponent.result _ _
      (omega arith) c.exponent-exponent.ensures w.if-exponent-ne0.false c.loop-i.invariant
]

if-ok : {T E : Type 0} {P Q : T → Type 0} (r : Result T E) → IfOk r P → ((x : T) → P x → Q x) → IfOk r Q
if-ok (Ok x) h f = f x h
if-ok (Err e) h f = tt

-- what the loop leaves
pieces : (c : goal.After-drop-pieces-2) → map (λ p. p.items) c.loop-i.pieces.items ≡ map
    (λ p. p.items) c.if-coefficient-ne1.pieces.items ++ factor_texts c.args.gens.now.degrees 0 c.args.m.now
pieces c = c.loop-i.invariant ∙ ap (λ m. map
    (λ p. p.items) c.if-coefficient-ne1.pieces.items ++ factor_texts c.args.gens.now.degrees 0 m)
    (take_all c.loop-i.i c.args.m.now (omega arith))

pub returns : goal.returns
returns c = if-ok c.join.result c.join.ensures (λ b e. e ∙ elim c.if-coefficient-ne1.branch [
  | then-coefficient-ne1+in_ok-format+in_ok-push w ↦ coefficient-first c.args.gens.now.degrees c.args.m.now
      c.args.coefficient _ _ _ (map (λ p. p.items) c.new-pieces.result.items) w.into_bytes.result.items
      (ap (map (λ p. p.items)) c.new-pieces.ensures.items) (ap (λ v. v.items) w.into_bytes.ensures.value
      ∙ w.in_ok-format.ensures.ok)
      (ap (λ v. map (λ p. p.items) v.items) w.pieces-is ∙ ap (map (λ p. p.items)) w.in_ok-push.ensures.items
      ∙ map-append (λ p. p.items) c.new-pieces.result.items _)
      (elim w.then-coefficient-ne1.branch [
        | then-coefficient-ne1-via-then-coefficient-ne1 v ↦ inl v.if-coefficient-ne1.true
        | then-coefficient-ne1-via-else-coefficient-ne1+then-is_empty v ↦ inr
            (is-empty c.args.m.now v.is_empty.result v.is_empty.ensures v.if-is_empty.true)
      ])
      (pieces c) (ap (map (λ p. p.items)) c.deref.ensures.value)
  | else-coefficient-ne1+else-is_empty w ↦ coefficient-left-out c.args.gens.now.degrees c.args.m.now
      c.args.coefficient _ _ _
      (ap (λ v. map (λ p. p.items) v.items) w.pieces-is
      ∙ ap (map (λ p. p.items)) c.new-pieces.ensures.items) w.if-coefficient-ne1.false
      (not-empty c.args.m.now w.is_empty.result w.is_empty.ensures w.if-is_empty.false) c.requires.trimmed
      (pieces c) (ap (map (λ p. p.items)) c.deref.ensures.value)
])

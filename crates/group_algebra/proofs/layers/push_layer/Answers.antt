use Rattle.std.proofs.Common.{◌≡◌, ◌<◌, ◌++◌, ◌∷◌, [], ℕ, suc, List, length, get_or, append_assoc, arith, ap}
use Rattle.std.proofs.Common.{sym, ◌∙◌, refl}
use Rattle.std.proofs.lemmas.List.{append-nil}
use mathlib.Core.Path.{subst}
use Rattle.std.specs.Slice.Iter.{iter_rest}
use Rattle.linear_algebra.specs.Choices.{rows_at}
use Rattle.fp_rows.specs.Refs.{entries_of}
use Rattle.fp_rows.specs.Values.{MatrixValue}
use Rattle.group_algebra.proofs.layers.push_layer.Goals as goal

pub loop-position-init : goal.loop-position-init
loop-position-init c =
    let e : iter_rest c.into_iter-position-iterator.result ≡ c.args.taken.now =
    c.into_iter-position-iterator.ensures.into_iter_gives.0 in
    record {
      prime = refl;
      width = refl;
      to_come = ap (λ (ps : List ℕ). c.args.rows.now.rows ++ rows_at c.args.list.now.rows ps) e;
      inside = rw e c.requires.inside;
    }

pub row-requires : goal.row-requires
row-requires c =
    let e : iter_rest c.loop-position.position-iterator ≡ c.in-Some.position.now ∷ iter_rest c.next.new.self =
    c.in-Some.ensures.steps in
    let P : List ℕ → Type 0 = λ ps. (i : ℕ) → i < length ps → get_or ps i 0 < length c.args.list.now.rows in
    let inside : P (c.in-Some.position.now ∷ iter_rest c.next.new.self) =
    subst P e c.loop-position.invariant.inside in
    inside 0 (omega arith)

pub loop-position-preserved : goal.loop-position-preserved
loop-position-preserved c =
    let E : List (List ℕ) = c.args.list.now.rows in
    let x : ℕ = c.in-Some.position.now in
    let rest : List ℕ = iter_rest c.next.new.self in
    let y : List ℕ = entries_of c.row.result in
    let I = c.loop-position.invariant in
    let e : iter_rest c.loop-position.position-iterator ≡ x ∷ rest = c.in-Some.ensures.steps in
    let P : List ℕ → Type 0 = λ ps. (i : ℕ) → i < length ps → get_or ps i 0 < length E in
    let inside : P (x ∷ rest) = subst P e I.inside in
    record {
      prime = ap (λ (m : MatrixValue). m.p) c.in_ok-push.ensures.pushed ∙ I.prime;
      width = ap (λ (m : MatrixValue). m.width) c.in_ok-push.ensures.pushed ∙ I.width;
      to_come = ap (λ (m : MatrixValue). m.rows ++ rows_at E rest) c.in_ok-push.ensures.pushed
          ∙ append_assoc c.loop-position.rows.rows (y ∷ []) (rows_at E rest)
          ∙ ap (λ (z : List ℕ). c.loop-position.rows.rows ++ z ∷ rows_at E rest) c.row.ensures.entries
          ∙ ap (λ (ps : List ℕ). c.loop-position.rows.rows ++ rows_at E ps) (sym e)
          ∙ I.to_come;
      inside = λ i l. inside (suc i) (omega (arith, l));
    }

pub returns : goal.returns
returns c =
    let E : List (List ℕ) = c.args.list.now.rows in
    let I = c.loop-position.invariant in
    let none : iter_rest c.loop-position.position-iterator ≡ [] = empty _ c.in-None.ensures.steps.0 in
    let rows : c.loop-position.rows.rows ≡ c.args.rows.now.rows ++ rows_at E c.args.taken.now =
    sym (append-nil c.loop-position.rows.rows)
    ∙ ap (λ (ps : List ℕ). c.loop-position.rows.rows ++ rows_at E ps) (sym none) ∙ I.to_come in
    same c.loop-position.rows I.prime I.width rows
  where
    empty : (xs : List ℕ) → length xs ≡ 0 → xs ≡ []
    empty [] l = refl
    empty (x ∷ xs) l = absurd (omega (arith, l))

    same : (m : MatrixValue) {p w : ℕ} {rows : List (List ℕ)} → m.p ≡ p → m.width ≡ w → m.rows ≡ rows
        → m ≡ record { p = p; width = w; rows = rows }
    same m e f g = rw (← e, ← f, ← g) refl

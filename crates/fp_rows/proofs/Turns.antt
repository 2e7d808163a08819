-- Loops over the rows of a matrix or the entries of a row: what a turn takes, and what is left.
use Rattle.std.proofs.Common.{◌≡◌, ℕ, zero, suc, ◌+◌, ◌-◌, ◌<◌, ◌≤◌, List, [], ◌∷◌, length, drop, get_or}
use Rattle.std.proofs.Common.{arith, ap, sym, ◌∙◌}
use mathlib.Core.Path.{subst}
use Rattle.std.specs.Slice.Iter.{iter_rest}
use Rattle.std.specs.declared.slice.Iter.{Iter}
use Rattle.linear_algebra.specs.Rows.{row, IsMatrix}
use Rattle.fp_rows.specs.Iterations.{IsOverRows}
use Rattle.fp_rows.specs.Lists.{lists, AreOver}
use Rattle.fp_rows.specs.Values.{RowValue, MatrixValue}
use Rattle.fp_rows.proofs.ListLemmas.{length-lists}

-- after k turns over xs the next item is x, and the others are left
pub record IsTurn {A : Type 0} (xs : List A) (k : ℕ) (x : A) (left : List A) : Type 0 where
  pub inside : k < length xs
  pub item : (d : A) → get_or xs k d ≡ x
  pub others : left ≡ drop (k + 1) xs

pub turn : {A : Type 0} (xs : List A) (k : ℕ) (x : A) (left : List A) → drop k xs ≡ x ∷ left
    → IsTurn xs k x left
turn [] zero x left e = absurd (let z : ⊥ = cc e in z)
turn [] (suc k) x left e = absurd (let z : ⊥ = cc e in z)
turn (y ∷ ys) zero x left e = record {
  inside = omega arith;
  item = λ d. (let z : y ≡ x = cc e in z);
  others = (let z : left ≡ ys = cc e in z);
}
turn (y ∷ ys) (suc k) x left e = later (turn ys k x left e)
  where
    later : IsTurn ys k x left → IsTurn (y ∷ ys) (suc k) x left
    later t = record {
      inside = (let l = t.inside in omega (arith, l));
      item = t.item;
      others = t.others ∙ ap (λ n. drop n (y ∷ ys)) (let z : suc (k + 1) ≡ suc k + 1 = omega arith in z);
    }

pub no-turn : {A : Type 0} (xs : List A) (k : ℕ) → drop k xs ≡ [] → length xs ≤ k
no-turn [] k e = omega arith
no-turn (y ∷ ys) zero e = absurd (let z : ⊥ = cc e in z)
no-turn (y ∷ ys) (suc k) e = omega (arith, no-turn ys k e)

-- after k turns over the rows of m the rows from row k on are left
pub record AreLeft (m : MatrixValue) (k : ℕ) (it : Iter RowValue) : Type 0 where
  pub rows : lists (iter_rest it) ≡ drop k m.rows
  pub over : AreOver m.p (iter_rest it)
  pub count : k + length (iter_rest it) ≡ length m.rows

-- the row that a turn takes
pub record IsRowTurn (m : MatrixValue) (k : ℕ) (x : RowValue) (it : Iter RowValue) : Type 0 where
  pub inside : k < length m.rows
  pub entries : x.entries ≡ row m.rows k
  pub prime : x.p ≡ m.p
  pub left : AreLeft m (k + 1) it

pub row-start : (m : MatrixValue) (it : Iter RowValue) → IsOverRows m it → AreLeft m 0 it
row-start m it h = record {
  rows = h.rows;
  over = h.over;
  count = omega (arith, ap length h.rows, length-lists (iter_rest it));
}

pub row-turn : (m : MatrixValue) (k : ℕ) (x : RowValue) (s t : Iter RowValue) → AreLeft m k s
    → iter_rest s ≡ x ∷ iter_rest t → IsRowTurn m k x t
row-turn m k x s t h e = made (turn m.rows k x.entries (lists (iter_rest t)) (sym h.rows ∙ ap lists e))
  where
    over : AreOver m.p (x ∷ iter_rest t)
    over = subst (λ (vs : List RowValue). AreOver m.p vs) e h.over

    made : IsTurn m.rows k x.entries (lists (iter_rest t)) → IsRowTurn m k x t
    made T = record {
      inside = T.inside;
      entries = sym (T.item []);
      prime = over 0 x (omega arith);
      left = record {
        rows = T.others;
        over = λ i d l. over (suc i) d (omega (arith, l));
        count = omega (arith, h.count, ap length e);
      };
    }

pub row-end : (m : MatrixValue) (k : ℕ) (s : Iter RowValue) → AreLeft m k s → length (iter_rest s) ≡ 0
    → k ≡ length m.rows
row-end m k s h e = omega (arith, h.count, e)

-- how many rows of m the iterator has passed, where the loop has no counter
abbrev pub passed : MatrixValue → Iter RowValue → ℕ
passed m it = length m.rows - length (iter_rest it)

pub passed-start : (m : MatrixValue) (it : Iter RowValue) → IsOverRows m it → (passed m it ≡ 0)
    × AreLeft m (passed m it) it
passed-start m it h = (none, subst (λ k. AreLeft m k it) (sym none) (row-start m it h))
  where
    none : passed m it ≡ 0
    none = omega (arith, ap length h.rows, length-lists (iter_rest it))

pub passed-turn : (m : MatrixValue) (k : ℕ) (x : RowValue) (t : Iter RowValue) → IsRowTurn m k x t
    → (passed m t ≡ k + 1) × AreLeft m (passed m t) t
passed-turn m k x t h = (one, subst (λ k. AreLeft m k t) (sym one) h.left)
  where
    one : passed m t ≡ k + 1
    one = omega (arith, h.left.count)

-- the row of a turn has the width
pub turn-width : {m : MatrixValue} {k : ℕ} {x : RowValue} {it : Iter RowValue} → IsMatrix m.p m.width m.rows
    → IsRowTurn m k x it → length x.entries ≡ m.width
turn-width {m} {k} M t = ap (λ (es : List ℕ). length es) t.entries ∙ (M k t.inside).length_is

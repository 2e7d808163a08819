use Rattle.std.proofs.Common.{◌≡◌, ℕ, ◌+◌, ◌-◌, ◌<◌, ◌≤◌, ◌⊎◌, inl, inr, length, arith, ap, ◌∙◌, refl}
use Rattle.std.proofs.lemmas.Bool.{cases_lt}
use Rattle.std.proofs.lemmas.Nat.{mod_below}
use Rattle.std.specs.Int.{bit_at}
use Rattle.group_table.specs.Prime.{prime_value}
use Rattle.linear_algebra.specs.Rows.{entry}
use Rattle.fp_rows.specs.Cells.{cells_of}
use Rattle.fp_rows.specs.Values.{RowValue}
use Rattle.fp_rows.proofs.row.Row.add_word.Goals as goal

pub invariant_of-self : goal.invariant_of-self
invariant_of-self c =
    let two : prime_value c.self.inside.prime ≡ 2 = ap (λ (r : RowValue). r.p) c.self.view_is
    ∙ c.requires.prime in
    rw two (record {
      row = record {
        length_is = refl;
        below = λ j l. go j l (cases_lt j c.args.at)
            (cases_lt j (c.args.at + c.args.len));
      };
      packed = c.add_word.ensures.packed;
    })
  where
    old : (j : ℕ) → j < length (cells_of c.add_word.new.self) → entry (cells_of c.self.inside.cells) j < 2
    old j l = let two : prime_value c.self.inside.prime ≡ 2 = ap (λ (r : RowValue). r.p) c.self.view_is
        ∙ c.requires.prime in
        rw two at (c.self.invariant.row.below j (omega (arith, l, c.add_word.ensures.same_length)))

    go : (j : ℕ) → j < length (cells_of c.add_word.new.self) → (j < c.args.at) ⊎ (c.args.at ≤ j)
        → (j < c.args.at + c.args.len) ⊎ (c.args.at + c.args.len ≤ j)
        → entry (cells_of c.add_word.new.self) j < 2
    go j l (inl a) _ = rw (c.add_word.ensures.before j a) (old j l)
    go j l (inr a) (inl b) = rw (c.add_word.ensures.inside j a b)
        (mod_below (entry (cells_of c.self.inside.cells) j + bit_at c.args.x (j - c.args.at)) 2 (omega arith))
    go j l (inr a) (inr b) = rw (c.add_word.ensures.after j b) (old j l)

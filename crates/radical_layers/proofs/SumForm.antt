-- The coordinates of the group algebra: first the sum of the coefficients, then those of the elements 1, 2
-- and so on.
use Rattle.std.proofs.Common.{◌≡◌, ◌≢◌, ℕ, suc, ◌+◌, ◌<◌, ◌≤◌, ◌⊎◌, List, length, Bool, true, false, inl, inr}
use Rattle.std.proofs.Common.{eqb, arith, ap, ap₂, sym, ◌∙◌, refl}
use Rattle.std.proofs.lemmas.Bool.{cases_lt}
use Rattle.std.proofs.lemmas.Bool.Decides.{eqb_tells}
use Rattle.std.proofs.lemmas.List.{get_or_past}
use Rattle.std.proofs.lemmas.Grind.{same_number_lists}
use Rattle.std.proofs.Math.Nat.{mod-eq_of_lt}
use mathlib.Core.Path.{subst, fun_ext}
use Rattle.group_modules.specs.Module.{Module, sub}
use Rattle.group_modules.proofs.Laws.{zero-add, sub-back}
use Rattle.group_modules.specs.Field.{Below, residue, Fp}
use Rattle.linear_algebra.proofs.Residues.{below-path, residue-self}
use Rattle.group_modules.specs.Tables.{Group, monoid, Table, block-sum}
use Rattle.group_modules.specs.Sums.{below, total}
use Rattle.group_modules.proofs.SumLaws.{total-add, total-only}
use Rattle.linear_algebra.specs.Modular.{IsCongruent}
use Rattle.linear_algebra.specs.Rows.{entry, IsRow}
use Rattle.linear_algebra.proofs.Congruences.{congruent_trans, congruent_eq, congruent_mod}
use Rattle.radical_layers.specs.Coordinates.{RowForm}
use Rattle.radical_layers.proofs.BlockForm.{tab, length-tab, entry-tab}

module _ {n : ℕ} (q : ℕ) (Γ : Group n) (some : 0 < n) where
  abbrev N : Module (suc q) (monoid Γ)
  N = Fp q (monoid Γ)

  abbrev T : Module (suc q) (monoid Γ)
  T = Table q Γ 1

  abbrev origin : Below n
  origin = (0, some)

  abbrev only : Below 1
  only = residue 0 0

  -- x at element 0 and y elsewhere
  abbrev choose : Bool → Below (suc q) → Below (suc q) → Below (suc q)
  choose true x y = x
  choose false x y = y

  abbrev at-zero : Below n → Below (suc q) → Below (suc q) → Below (suc q)
  at-zero g x y = choose (eqb g.0 0) x y

  choose-zero : (x y : Below (suc q)) → at-zero origin x y ≡ x
  choose-zero x y = refl

  choose-other : (g : Below n) (x y : Below (suc q)) → g.0 ≢ 0 → at-zero g x y ≡ y
  choose-other g x y h = go (eqb_tells g.0 0)
    where
      go : ((eqb g.0 0 ≡ true) × (g.0 ≡ 0)) ⊎ ((eqb g.0 0 ≡ false) × (g.0 ≢ 0)) → at-zero g x y ≡ y
      go (inl k) = absurd (h k.1)
      go (inr k) = ap (λ t. choose t x y) k.0

  -- a function by its value at element 0 and elsewhere
  by-zero : (P : Below n → Type 0) → P origin → ((g : Below n) → g.0 ≢ 0 → P g) → (g : Below n) → P g
  by-zero P a h g = go (eqb_tells g.0 0)
    where
      go : ((eqb g.0 0 ≡ true) × (g.0 ≡ 0)) ⊎ ((eqb g.0 0 ≡ false) × (g.0 ≢ 0)) → P g
      go (inl k) = subst P (below-path origin g (sym k.1)) a
      go (inr k) = h g k.1

  -- the sum over the elements other than 0
  abbrev rest : (Below n → Below (suc q)) → Below (suc q)
  rest f = total N (below n) (λ g. at-zero g (residue q 0) (f g))

  total-split : (f : Below n → Below (suc q)) → total N (below n) f ≡ N.add (rest f) (f origin)
  total-split f =
      ap (total N (below n)) (fun_ext (by-zero
      (λ g. f g ≡ N.add (at-zero g (residue q 0) (f g)) (at-zero g (f g) (residue q 0)))
      (sym (zero-add N (f origin)))
      (λ g h. sym (ap₂ N.add (choose-other g (residue q 0) (f g) h) (choose-other g (f g) (residue q 0) h)
      ∙ N.add-zero (f g)))))
      ∙ total-add N (below n) (λ g. at-zero g (residue q 0) (f g)) (λ g. at-zero g (f g) (residue q 0))
      ∙ ap (N.add (rest f)) (total-only N n (λ g. at-zero g (f g) (residue q 0)) origin
      (λ g h. choose-other g (f g) (residue q 0) h))

  rest-same : (f k : Below n → Below (suc q)) → ((g : Below n) → g.0 ≢ 0 → f g ≡ k g) → rest f ≡ rest k
  rest-same f k h = ap (total N (below n))
      (fun_ext (by-zero (λ g. at-zero g (residue q 0) (f g) ≡ at-zero g (residue q 0) (k g)) refl
      (λ g d. ap (at-zero g (residue q 0)) (h g d))))

  abbrev ε : T.of → Below (suc q)
  ε v = block-sum q Γ 1 v only

  abbrev to-row : T.of → List ℕ
  to-row v = tab n (λ g. (at-zero g (ε v) (v only g)).0)

  abbrev value : List ℕ → Below n → Below (suc q)
  value x g = residue q (entry x g.0)

  abbrev from-row : List ℕ → T.of
  from-row x z g = at-zero g (sub N (value x origin) (rest (value x))) (value x g)

  to-row-at : (v : T.of) (g : Below n) → entry (to-row v) g.0 ≡ (at-zero g (ε v) (v only g)).0
  to-row-at v g = entry-tab n (λ g. (at-zero g (ε v) (v only g)).0) g.0 g.1

  value-to : (v : T.of) (g : Below n) → value (to-row v) g ≡ at-zero g (ε v) (v only g)
  value-to v g = ap (λ (k : ℕ). residue q k) (to-row-at v g) ∙ residue-self q (at-zero g (ε v) (v only g))

  pub to-row-is : (v : T.of) → IsRow (suc q) n (to-row v)
  to-row-is v = record {
    length_is = length-tab n (λ g. (at-zero g (ε v) (v only g)).0);
    below = λ j l. subst (λ k. k < suc q) (sym (to-row-at v (j, l))) (at-zero (j, l) (ε v) (v only (j, l))).1;
  }

  alone : (z : Below 1) → only ≡ z
  alone z = below-path only z (let l : z.0 < 1 = z.1 in let k : only.0 < 1 = only.1 in omega (arith, l, k))

  pub from-to : (v : T.of) → from-row (to-row v) ≡ v
  from-to v = fun_ext (λ z. fun_ext (by-zero (λ g. from-row (to-row v) z g ≡ v z g)
      (ap₂ (sub N) (value-to v origin) (rest-same (value (to-row v)) (v only) (λ g h. value-to v g
      ∙ choose-other g (ε v) (v only g) h))
      ∙ ap (λ a. sub N a (rest (v only))) (total-split (v only) ∙ N.add-comm (rest (v only)) (v only origin))
      ∙ N.add-assoc (v only origin) (rest (v only)) (N.neg (rest (v only)))
      ∙ ap (N.add (v only origin)) (N.add-neg (rest (v only))) ∙ N.add-zero (v only origin)
      ∙ ap (λ y. v y origin) (alone z))
      (λ g h. choose-other g (sub N (value (to-row v) origin) (rest (value (to-row v))))
      (value (to-row v) g) h ∙ value-to v g ∙ choose-other g (ε v) (v only g) h
      ∙ ap (λ y. v y g) (alone z))))

  sum-from : (x : List ℕ) → ε (from-row x) ≡ value x origin
  sum-from x = total-split (from-row x only)
      ∙ ap (λ a. N.add a (sub N (value x origin) (rest (value x))))
      (rest-same (from-row x only) (value x)
      (λ g h. choose-other g (sub N (value x origin) (rest (value x))) (value x g) h))
      ∙ N.add-comm (rest (value x)) (sub N (value x origin) (rest (value x)))
      ∙ sub-back N (value x origin) (rest (value x))

  pub to-from : (x : List ℕ) → IsRow (suc q) n x → to-row (from-row x) ≡ x
  to-from x r = same_number_lists (to-row (from-row x)) x ((to-row-is (from-row x)).length_is
      ∙ sym r.length_is)
      (λ k l. let d : k < n = subst (λ m. k < m) (to-row-is (from-row x)).length_is l in
      to-row-at (from-row x) (k, d) ∙ ap (λ (a : Below (suc q)). a.0) (whole (k, d))
      ∙ mod-eq_of_lt (r.below k d))
    where
      whole : (g : Below n) → at-zero g (ε (from-row x)) (from-row x only g) ≡ value x g
      whole = by-zero (λ g. at-zero g (ε (from-row x)) (from-row x only g) ≡ value x g) (sum-from x)
          (λ g h. choose-other g (ε (from-row x)) (from-row x only g) h
          ∙ choose-other g (sub N (value x origin) (rest (value x))) (value x g) h)

  pub to-add : (v w : T.of) (j : ℕ) → IsCongruent (suc q) (entry (to-row (T.add v w)) j)
      (entry (to-row v) j + entry (to-row w) j)
  to-add v w j = go (cases_lt j n)
    where
      past : (u : T.of) → n ≤ j → entry (to-row u) j ≡ 0
      past u d = get_or_past (to-row u) j 0
          (let e : length (to-row u) ≡ n = (to-row-is u).length_is in omega (arith, e, d))

      whole : (g : Below n) → at-zero g (ε (T.add v w)) (T.add v w only g) ≡ N.add
          (at-zero g (ε v) (v only g)) (at-zero g (ε w) (w only g))
      whole = by-zero (λ g. at-zero g (ε (T.add v w)) (T.add v w only g) ≡ N.add (at-zero g (ε v) (v only g))
          (at-zero g (ε w) (w only g)))
          (total-add N (below n) (v only) (w only))
          (λ g h. choose-other g (ε (T.add v w)) (T.add v w only g) h
          ∙ sym (ap₂ N.add (choose-other g (ε v) (v only g) h) (choose-other g (ε w) (w only g) h)))

      go : (j < n) ⊎ (n ≤ j) → IsCongruent (suc q) (entry (to-row (T.add v w)) j)
          (entry (to-row v) j + entry (to-row w) j)
      go (inl d) = congruent_trans (congruent_eq (to-row-at (T.add v w) (j, d)
          ∙ ap (λ (a : Below (suc q)). a.0) (whole (j, d))))
          (congruent_trans (congruent_mod
          ((at-zero (j, d) (ε v) (v only (j, d))).0 + (at-zero (j, d) (ε w) (w only (j, d))).0))
          (congruent_eq (sym (ap₂ ◌+◌ (to-row-at v (j, d)) (to-row-at w (j, d))))))
      go (inr d) = congruent_eq (past (T.add v w) d ∙ (let z : ◌≡◌ {A = ℕ} 0 (0 + 0) = omega arith in z)
          ∙ sym (ap₂ ◌+◌ (past v d) (past w d)))

  -- first the sum, then the coefficients of the elements other than 0
  pub sum-form : RowForm n T
  sum-form = record {
    table = from-row;
    row = to-row;
    row-is = to-row-is;
    table-row = from-to;
    row-table = to-from;
    row-add = to-add;
  }

  pub sum-first : (v : T.of) → entry (sum-form.row v) 0 ≡ (ε v).0
  unfolding sum-form
  sum-first v = to-row-at v origin

  pub sum-others : (v : T.of) (g : Below n) → g.0 ≢ 0 → entry (sum-form.row v) g.0 ≡ (v only g).0
  unfolding sum-form
  sum-others v g h = to-row-at v g ∙ ap (λ (a : Below (suc q)). a.0) (choose-other g (ε v) (v only g) h)

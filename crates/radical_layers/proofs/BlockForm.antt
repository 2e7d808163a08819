-- Coordinates of b blocks, from those of one block and the places.
use Rattle.std.proofs.Common.{◌≡◌, ℕ, zero, suc, ◌+◌, ◌<◌, ◌≤◌, ◌⊎◌, List, [], ◌∷◌, length, inl, inr, arith}
use Rattle.std.proofs.Common.{ap, ap₂, sym, ◌∙◌, refl}
use Rattle.std.proofs.lemmas.Bool.{cases_lt}
use Rattle.std.proofs.lemmas.List.{get_or_past}
use Rattle.std.proofs.lemmas.Grind.{same_number_lists}
use mathlib.Core.Path.{subst, fun_ext}
use Rattle.group_modules.specs.Module.{Module}
use Rattle.group_modules.specs.Field.{Below}
use Rattle.linear_algebra.proofs.Residues.{below-path}
use Rattle.group_modules.specs.Tables.{Group, monoid, Table}
use Rattle.linear_algebra.specs.Modular.{IsCongruent}
use Rattle.linear_algebra.specs.Rows.{entry, IsRow}
use Rattle.linear_algebra.proofs.Congruences.{congruent_trans, congruent_eq}
use Rattle.augmentation_ideal.proofs.Finite.{up-lt, down-lt, first-lt}
use Rattle.radical_layers.specs.Coordinates.{RowForm}
use Rattle.radical_layers.specs.Placing.{Placing}

-- the list of all f(i)
pub tab : (n : ℕ) → (Below n → ℕ) → List ℕ
tab zero f = []
tab (suc n) f = f (0, first-lt n) ∷ tab n (λ i. f (suc i.0, up-lt i.0 n i.1))

pub length-tab : (n : ℕ) (f : Below n → ℕ) → length (tab n f) ≡ n
unfolding tab
length-tab zero f = refl
length-tab (suc n) f = ap suc (length-tab n (λ i. f (suc i.0, up-lt i.0 n i.1)))

pub entry-tab : (n : ℕ) (f : Below n → ℕ) (i : ℕ) (l : i < n) → entry (tab n f) i ≡ f (i, l)
unfolding tab
entry-tab zero f i l = absurd (omega (arith, l))
entry-tab (suc n) f zero l = ap f (below-path (0, first-lt n) (0, l) refl)
entry-tab (suc n) f (suc i) l = entry-tab n (λ i. f (suc i.0, up-lt i.0 n i.1)) i (down-lt i n l)
    ∙ ap f (below-path _ (suc i, l) refl)

module _ {n : ℕ} (q : ℕ) (Γ : Group n) (K : RowForm n (Table q Γ 1)) (b w : ℕ) (Y : Placing b n w) where
  abbrev T : Module (suc q) (monoid Γ)
  T = Table q Γ b

  only : Below 1
  only = (0, first-lt 0)

  alone : (z : Below 1) → only ≡ z
  unfolding only
  alone z = below-path (0, first-lt 0) z (let l : z.0 < 1 = z.1 in let e : 0 ≡ z.0 = omega (arith, l) in e)

  -- block i of v
  abbrev pub part : T.of → Below b → (Table q Γ 1).of
  part v i z g = v i g

  pub to-row : T.of → List ℕ
  to-row v = tab w (λ x. entry (K.row (part v (Y.block x))) (Y.member x).0)

  -- block i of a row
  pub part-row : List ℕ → Below b → List ℕ
  part-row y i = tab n (λ k. entry y (Y.place i k).0)

  pub from-row : List ℕ → T.of
  from-row y i g = K.table (part-row y i) only g

  to-row-at : (v : T.of) (x : Below w) → entry (to-row v) x.0 ≡ entry (K.row (part v (Y.block x)))
      (Y.member x).0
  unfolding to-row
  to-row-at v x = entry-tab w (λ x. entry (K.row (part v (Y.block x))) (Y.member x).0) x.0 x.1

  pub to-row-is : (v : T.of) → IsRow (suc q) w (to-row v)
  unfolding to-row
  to-row-is v = record {
    length_is = length-tab w (λ x. entry (K.row (part v (Y.block x))) (Y.member x).0);
    below = λ j l. subst (λ k. k < suc q) (sym (to-row-at v (j, l)))
        ((K.row-is (part v (Y.block (j, l)))).below (Y.member (j, l)).0 (Y.member (j, l)).1);
  }

  part-row-is : (y : List ℕ) → IsRow (suc q) w y → (i : Below b) → IsRow (suc q) n (part-row y i)
  unfolding part-row
  part-row-is y r i = record {
    length_is = length-tab n (λ k. entry y (Y.place i k).0);
    below = λ j l. subst (λ k. k < suc q) (sym (entry-tab n (λ k. entry y (Y.place i k).0) j l))
        (r.below (Y.place i (j, l)).0 (Y.place i (j, l)).1);
  }

  pub part-to : (v : T.of) (i : Below b) → part-row (to-row v) i ≡ K.row (part v i)
  unfolding part-row
  part-to v i = same_number_lists (part-row (to-row v) i) (K.row (part v i))
      (length-tab n (λ k. entry (to-row v) (Y.place i k).0) ∙ sym (K.row-is (part v i)).length_is)
      (λ k l. let d : k < n = subst (λ m. k < m) (length-tab n (λ k. entry (to-row v) (Y.place i k).0)) l in
      entry-tab n (λ k. entry (to-row v) (Y.place i k).0) k d ∙ to-row-at v (Y.place i (k, d))
      ∙ ap₂ (λ j m. entry (K.row (part v j)) m) (Y.block-place i (k, d))
      (ap (λ (m : Below n). m.0) (Y.member-place i (k, d))))

  pub from-to : (v : T.of) → from-row (to-row v) ≡ v
  unfolding from-row
  from-to v = fun_ext (λ i. fun_ext (λ g. ap (λ y. K.table y only g) (part-to v i)
      ∙ ap (λ u. u only g) (K.table-row (part v i))))

  part-from : (y : List ℕ) → IsRow (suc q) w y → (i : Below b) → K.row (part (from-row y) i) ≡ part-row y i
  unfolding from-row
  part-from y r i = ap K.row (fun_ext (λ z. fun_ext (λ g. ap (λ u. K.table (part-row y i) u g) (alone z))))
      ∙ K.row-table (part-row y i) (part-row-is y r i)

  pub to-from : (y : List ℕ) → IsRow (suc q) w y → to-row (from-row y) ≡ y
  unfolding part-row
  to-from y r = same_number_lists (to-row (from-row y)) y ((to-row-is (from-row y)).length_is
      ∙ sym r.length_is)
      (λ k l. let d : k < w = subst (λ m. k < m) (to-row-is (from-row y)).length_is l in let x : Below w = (
        k,
        d,
      ) in
      to-row-at (from-row y) x ∙ ap (λ u. entry u (Y.member x).0) (part-from y r (Y.block x))
      ∙ entry-tab n (λ k. entry y (Y.place (Y.block x) k).0) (Y.member x).0 (Y.member x).1
      ∙ ap (λ (m : Below w). entry y m.0) (Y.place-at x))

  pub to-add : (v u : T.of) (j : ℕ) → IsCongruent (suc q) (entry (to-row (T.add v u)) j)
      (entry (to-row v) j + entry (to-row u) j)
  to-add v u j = go (cases_lt j w)
    where
      past : (x : T.of) → w ≤ j → entry (to-row x) j ≡ 0
      past x d = get_or_past (to-row x) j 0
          (let e : length (to-row x) ≡ w = (to-row-is x).length_is in omega (arith, e, d))

      go : (j < w) ⊎ (w ≤ j) → IsCongruent (suc q) (entry (to-row (T.add v u)) j)
          (entry (to-row v) j + entry (to-row u) j)
      go (inl d) = congruent_trans (congruent_eq (to-row-at (T.add v u) (j, d)))
          (congruent_trans (K.row-add (part v (Y.block (j, d))) (part u (Y.block (j, d))) (Y.member (j, d)).0)
          (congruent_eq (sym (ap₂ ◌+◌ (to-row-at v (j, d)) (to-row-at u (j, d))))))
      go (inr d) = congruent_eq (past (T.add v u) d ∙ (let z : ◌≡◌ {A = ℕ} 0 (0 + 0) = omega arith in z)
          ∙ sym (ap₂ ◌+◌ (past v d) (past u d)))

  pub part-row-at : (y : List ℕ) (i : Below b) (k : Below n)
      → entry (part-row y i) k.0 ≡ entry y (Y.place i k).0
  unfolding part-row
  part-row-at y i k = entry-tab n (λ k. entry y (Y.place i k).0) k.0 k.1

  -- the coordinates of b blocks
  abbrev pub block-form : RowForm w T
  block-form = record {
    table = from-row;
    row = to-row;
    row-is = to-row-is;
    table-row = from-to;
    row-table = to-from;
    row-add = to-add;
  }

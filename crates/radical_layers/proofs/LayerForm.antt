-- The coordinates in the layer basis.
use Rattle.std.proofs.Common.{◌≡◌, ◌≢◌, ℕ, zero, suc, ◌+◌, ◌-◌, ◌*◌, ◌%◌, ◌<◌, ◌≤◌, ◌⊎◌, List, [], ◌++◌}
use Rattle.std.proofs.Common.{length, get_or, inl, inr, eqb, cond, arith, ap, ap₂, sym, ◌∙◌, refl}
use Rattle.std.proofs.lemmas.Bool.{cases_lt}
use Rattle.std.proofs.lemmas.Bool.Decides.{nat_tests}
use Rattle.std.proofs.lemmas.List.{length-append, length-map, get_or_append_left, get_or-append-add}
use Rattle.std.proofs.lemmas.List.{get_or_past}
use Rattle.std.proofs.Math.Nat.{zero-mod}
use mathlib.Core.Path.{subst, fun_ext}
use Rattle.group_modules.specs.Sums.{total, below}
use Rattle.group_modules.specs.Module.{Module, times}
use Rattle.group_modules.specs.Field.{Below}
use Rattle.group_modules.specs.Tables.{Group, monoid, Table}
use Rattle.linear_algebra.specs.Modular.{IsCongruent, IsFieldModulo, sum_below}
use Rattle.linear_algebra.specs.Rows.{entry, row, IsRow, IsMatrix, IsInSpan, AreInSpan}
use Rattle.linear_algebra.specs.Choices.{rows_at}
use Rattle.linear_algebra.proofs.Sums.{sum_below-one, sum_below-vanishes}
use Rattle.linear_algebra.proofs.Spans.{in_span_trans}
use Rattle.linear_algebra.proofs.Congruences.{congruent_trans, congruent_eq, congruent_sym}
use Rattle.linear_algebra.proofs.Dimension.{Dependence, dependent}
use Rattle.linear_algebra.proofs.Independence.{Independent, independent_le}
use Rattle.radical_layers.specs.Coordinates.{RowForm, Coordinates}
use Rattle.radical_layers.specs.Placing.{Placing, size_of, place_of}
use Rattle.radical_layers.specs.LayerBasis.{Layers, AreLayers, joined, layer_basis, sizes_from, layer_sizes}
use Rattle.linear_algebra.proofs.GreedyChoice.{greedy-below}
use Rattle.radical_layers.proofs.LayerLaws.{layer-spans, layer-members, radical-step}
use Rattle.radical_layers.proofs.LayerBasis.{joined-spans, joined-independent}
use Rattle.radical_layers.proofs.BasisForm.{list_of, entry-list_of, length-list_of, basis-form, expand}
use Rattle.radical_layers.proofs.BlockForm.{block-form, part-row, part-row-at, part-to, to-row}
use Rattle.radical_layers.proofs.Places.{placing, placing-place}

pub matrix-append : (p w : ℕ) (xs ys : List (List ℕ)) → IsMatrix p w xs → IsMatrix p w ys
    → IsMatrix p w (xs ++ ys)
matrix-append p w xs ys h k i l = go (cases_lt i (length xs))
  where
    go : (i < length xs) ⊎ (length xs ≤ i) → IsRow p w (row (xs ++ ys) i)
    go (inl m) = rw (get_or_append_left xs ys [] i m) (h i m)
    go (inr m) = let e : i ≡ length xs + (i - length xs) = omega (arith, m) in
        rw (e, get_or-append-add xs ys (i - length xs) [])
        (k (i - length xs) (let f : length
        (xs ++ ys) ≡ length xs + length ys = length-append xs ys in omega (arith, f, l, m)))

-- independent rows of n entries that span all such rows are n in number
pub size-at-most : {p : ℕ} → IsFieldModulo p → (n : ℕ) (B : List (List ℕ)) → IsMatrix p n B
    → Independent p (length B) (λ i j. entry (row B i) j) → length B ≤ n
size-at-most {p} F n B M I = go (cases_lt n (length B))
  where
    past : (i j : ℕ) → i < length B → n ≤ j → entry (row B i) j ≡ 0
    past i j l d = get_or_past (row B i) j 0
        (let e : length (row B i) ≡ n = (M i l).length_is in omega (arith, e, d))

    bad : Dependence p (length B) n (λ i j. entry (row B i) j) → ⊥
    bad D = D.nonzero (zero-of (I.only_zero D.coefficients (λ j. at j (cases_lt j n)) D.place D.below))
      where
        zero-of : {x : ℕ} → IsCongruent p x 0 → x % p ≡ 0
        zero-of h = h.same_remainder ∙ zero-mod p

        at : (j : ℕ) → (j < n) ⊎ (n ≤ j)
            → IsCongruent p (sum_below (length B) (λ i. D.coefficients i * entry (row B i) j)) 0
        at j (inl d) = D.vanishes j d
        at j (inr d) = sum_below-vanishes p (length B) (λ i. D.coefficients i * entry (row B i) j)
            (λ i l. congruent_eq (ap (λ x. D.coefficients i * x) (past i j l d)
            ∙ (let z : D.coefficients i * 0 ≡ 0 = omega arith in z)))

    go : (n < length B) ⊎ (length B ≤ n) → length B ≤ n
    go (inl l) = absurd (bad (dependent F n (length B) (λ i j. entry (row B i) j) l))
    go (inr l) = l

unit-list : ℕ → ℕ → List ℕ
unit-list n i = list_of n (λ j. cond (eqb j i) 1 0)

pub size-at-least : {p : ℕ} → IsFieldModulo p → (n : ℕ) (B : List (List ℕ))
    → ((x : List ℕ) → IsRow p n x → IsInSpan p B (entry x)) → n ≤ length B
unfolding unit-list
size-at-least {p} F n B spans = independent_le F n (length B) (λ i. (inside i).0) (λ i j. entry (row B i) j)
    (λ i j. entry (unit-list n i) j)
    (record {
      only_zero = λ u h i l. congruent_trans
          (congruent_sym (congruent_trans (sum_below-one p n i (λ k. u k * entry (unit-list n k) i) l
          (λ k d ne. congruent_eq (ap (λ x. u k * x) (entry-list_of n (λ j. cond (eqb j k) 1 0) i l
          ∙ other i k (λ e. ne (sym e))) ∙ (let z : u k * 0 ≡ 0 = omega arith in z))))
          (congruent_eq (ap (λ x. u i * x) (entry-list_of n (λ j. cond (eqb j i) 1 0) i l ∙ own i)
          ∙ (let z : u i * 1 ≡ u i = omega arith in z))))) (h i);
    })
    (λ i l. record { each = (inside i).1.each })
  where
    own : (i : ℕ) → ◌≡◌ {A = ℕ} (cond (eqb i i) 1 0) 1
    own i = grind (arith, nat_tests)

    other : (i k : ℕ) → i ≢ k → ◌≡◌ {A = ℕ} (cond (eqb i k) 1 0) 0
    other i k h = grind (arith, nat_tests)

    small : (i k : ℕ) → cond (eqb i k) 1 0 < p
    small i k = let a : 1 < p = F.above_one in grind (arith, nat_tests)

    inside : (i : ℕ) → IsInSpan p B (entry (unit-list n i))
    inside i = spans (unit-list n i) (record {
      length_is = length-list_of n (λ j. cond (eqb j i) 1 0);
      below = λ j l. subst (λ x. x < p) (sym (entry-list_of n (λ j. cond (eqb j i) 1 0) j l)) (small j i);
    })

module _ {n : ℕ} (q : ℕ) (F : IsFieldModulo (suc q)) (Γ : Group n) (K : RowForm n (Table q Γ 1)) (Y : Layers)
    (A : AreLayers q Γ K Y) where
  abbrev pub T : Module (suc q) (monoid Γ)
  T = Table q Γ 1

  abbrev pub B : List (List ℕ)
  B = layer_basis Y

  pub smaller : (i : ℕ) → AreInSpan (suc q) (Y.powers i) (Y.powers (suc i))
  smaller i k l = subst (λ y. IsInSpan (suc q) (Y.powers i) (entry y))
      (K.row-table (row (Y.powers (suc i)) k) ((A.powers_are (suc i)).matrix k l))
      (layer-spans q Γ n T K i (Y.powers i) (A.powers_are i) (K.table (row (Y.powers (suc i)) k))
      (radical-step q Γ n T K i _ (layer-members q Γ n T K (suc i) (Y.powers (suc i))
      (A.powers_are (suc i)) k l)))

  pub joined-matrix : (c i : ℕ) → IsMatrix (suc q) n (joined Y.powers Y.positions i c)
  joined-matrix zero i k l = absurd (omega (arith, l))
  joined-matrix (suc c) i k l = matrix-append (suc q) n (rows_at (Y.powers i) (Y.positions i))
      (joined Y.powers Y.positions (suc i) c)
      (λ a d. let g : (row (rows_at (Y.powers i) (Y.positions i)) a ≡ row (Y.powers i)
      (get_or (Y.positions i) a 0)) × (get_or (Y.positions i) a 0 < length (Y.powers i)) =
      greedy-below (suc q) (Y.powers i) (Y.powers (suc i)) (length (Y.powers i)) (Y.positions i)
      (A.positions_are i) a (subst (λ x. a < x) (length-map (Y.positions i) (row (Y.powers i))) d) in
      subst (IsRow (suc q) n) (sym g.0) ((A.powers_are i).matrix (get_or (Y.positions i) a 0) g.1))
      (joined-matrix c (suc i)) k l

  pub basis-independent : Independent (suc q) (length B) (λ i j. entry (row B i) j)
  basis-independent = joined-independent (suc q) F Y.powers Y.positions A.positions_are smaller Y.count 0

  pub basis-spans : (x : List ℕ) → IsRow (suc q) n x → IsInSpan (suc q) B (entry x)
  basis-spans x r = in_span_trans (joined-spans
      (suc q) F Y.powers Y.positions A.positions_are smaller Y.count 0 A.ends)
      ((A.powers_are 0).spans x (r, tt))

  pub basis-size : length B ≡ n
  basis-size = both (size-at-most F n B (joined-matrix Y.count 0) basis-independent)
      (size-at-least F n B basis-spans)
    where
      both : {a b : ℕ} → a ≤ b → b ≤ a → a ≡ b
      both u v = omega (arith, u, v)

  sizes-sum : (c i : ℕ) → size_of (sizes_from Y.positions i c) ≡ length (joined Y.powers Y.positions i c)
  sizes-sum zero i = refl
  sizes-sum (suc c) i = ap₂ ◌+◌ (sym (length-map (Y.positions i) (row (Y.powers i)))) (sizes-sum c (suc i))
      ∙ sym (length-append (rows_at (Y.powers i) (Y.positions i)) (joined Y.powers Y.positions (suc i) c))

  pub size : size_of (layer_sizes Y) ≡ n
  size = sizes-sum Y.count 0 ∙ basis-size

  -- the coordinates of one block, and of b blocks
  abbrev pub one-block : RowForm n T
  one-block = basis-form q F Γ n T K B (joined-matrix Y.count 0) basis-independent basis-size

  abbrev pub layer-coordinates : Coordinates q Γ
  layer-coordinates b = block-form q Γ one-block b (n * b) (placing b (layer_sizes Y) n size)

  -- block i of v by the coefficients at its places
  pub layer-expand : (b : ℕ) (v : (Table q Γ b).of) (i : Below b)
      → (λ z g. v i g) ≡ total T (below (length B))
      (λ k. times T.add T.zero (entry ((layer-coordinates b).row v) (place_of (layer_sizes Y) b i.0 k.0))
      (K.table (row B k.0)))
  layer-expand b v i =
      sym (expand q F Γ n T K B (joined-matrix Y.count 0) basis-independent basis-size (λ z g. v i g) x
      (λ k l. ap (λ y. entry y k) (part-to q Γ one-block b (n * b) Y' v i)))
      ∙ ap (total T (below (length B))) (fun_ext (λ k. ap (λ c. times T.add T.zero c (K.table (row B k.0)))
      (part-row-at q Γ one-block b (n * b) Y' (to-row q Γ one-block b (n * b) Y' v) i (
        k.0,
        subst (λ m. k.0 < m) basis-size k.1,
      )
      ∙ ap (entry (to-row q Γ one-block b (n * b) Y' v))
      (placing-place b (layer_sizes Y) n size i (k.0, subst (λ m. k.0 < m) basis-size k.1)))))
    where
      Y' : Placing b n (n * b)
      Y' = placing b (layer_sizes Y) n size

      x : List ℕ
      x = part-row q Γ one-block b (n * b) Y' (to-row q Γ one-block b (n * b) Y' v) i

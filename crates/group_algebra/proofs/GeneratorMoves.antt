-- The moves by generators span what all moves span.
use Rattle.std.proofs.Common.{◌≡◌, ℕ, zero, suc, ◌+◌, ◌-◌, ◌<◌, ◌≤◌, ◌⊎◌, List, [], ◌∷◌, ◌++◌, length, map}
use Rattle.std.proofs.Common.{get_or, inl, inr, arith, ap, ap₂, sym, ◌∙◌, refl}
use Rattle.std.specs.Prelude.{All}
use Rattle.std.proofs.lemmas.Bool.{cases_lt}
use Rattle.std.proofs.lemmas.List.{get_or_append_left, get_or-append-add, length-append, length-map}
use Rattle.std.proofs.lemmas.List.{get_or-map}
use mathlib.Core.Path.{subst, fun_ext}
use Rattle.group_modules.specs.Module.{Module, sub, times}
use Rattle.group_modules.proofs.Laws.{sub-add, map-times, sub-self, sub-back}
use Rattle.group_modules.specs.Field.{Below}
use Rattle.linear_algebra.proofs.Residues.{below-path}
use Rattle.group_modules.specs.Tables.{Group, monoid}
use Rattle.group_modules.specs.Sums.{below, total}
use Rattle.group_modules.proofs.SumLaws.{map-total}
use Rattle.augmentation_ideal.specs.Radical.{Moved, Radical, none, both, moved, IsSubmodule}
use Rattle.linear_algebra.specs.Rows.{entry, row, IsMatrix, IsInSpan, AreInSpan, IsEchelonOf}
use Rattle.linear_algebra.specs.Choices.{IsGreedy}
use Rattle.linear_algebra.proofs.Spans.{in_span_congruent, in_span_zero, in_span_row, in_span_add}
use Rattle.linear_algebra.proofs.Spans.{are_in_span_trans}
use Rattle.linear_algebra.proofs.Congruences.{congruent_trans, congruent_eq, congruent_sym}
use Rattle.linear_algebra.proofs.GreedyChoice.{in-left, in-right, greedy-same-span}
use Rattle.radical_layers.specs.Coordinates.{RowForm}
use Rattle.radical_layers.specs.Moves.{move_row, moves_by, moves, IsEchelonFor}
use Rattle.radical_layers.specs.Layers.{RowIn}
use Rattle.radical_layers.proofs.LayerLaws.{radical-step, layer-spans, span-in-layer, next-layer}
use Rattle.radical_layers.proofs.Bridge.{at, at-zero, from-span, span-total, moves-matrix, moved-from-span}
use Rattle.radical_layers.proofs.Bridge.{span-from-moved}
use Rattle.group_algebra.specs.Products.{IsProductOf, unit, times as more, Generate, numbers}

-- numbers below n are the numbers of elements
pub elements : (n : ℕ) (xs : List ℕ) → All (λ x. x < n) xs → (gs : List (Below n)) × (numbers gs ≡ xs)
elements n [] a = ([], refl)
elements n (x ∷ xs) a = go (elements n xs (λ k d l. a (suc k) d (omega (arith, l))))
  where
    go : (gs : List (Below n)) × (numbers gs ≡ xs) → (gs : List (Below n)) × (numbers gs ≡ x ∷ xs)
    go (gs, e) = ((x, a 0 0 (omega arith)) ∷ gs, ap (λ ys. x ∷ ys) e)

-- the product and the unit of Γ, on numbers
pub record IsNumbered {n : ℕ} (Γ : Group n) (mul : ℕ → ℕ → ℕ) : Type 0 where
  pub one-is : Γ.one.0 ≡ 0
  pub mul-is : (g h : Below n) → (Γ.mul g h).0 ≡ mul g.0 h.0

abbrev In : {A : Type 0} → A → List A → Type 0
In x [] = ⊥
In x (y ∷ ys) = (x ≡ y) ⊎ In x ys

-- a number in the list is one of the elements
member : {n : ℕ} (gs : List (Below n)) (s k : ℕ) → k < length (numbers gs) → get_or (numbers gs) k s ≡ s
    → (g : Below n) × (g.0 ≡ s) × In g gs
member {n} [] s k l e = absurd (omega (arith, l))
member {n} (g ∷ gs) s zero l e = (g, e, inl refl)
member {n} (g ∷ gs) s (suc k) l e = later (member gs s k (omega (arith, l)) e)
  where
    later : (h : Below n) × (h.0 ≡ s) × In h gs → (h : Below n) × (h.0 ≡ s) × In h (g ∷ gs)
    later (h, d, i) = (h, d, inr i)

module _ {n q : ℕ} (Γ : Group n) (mul : ℕ → ℕ
    → ℕ) (N : IsNumbered Γ mul) (D : ℕ) (T : Module (suc q) (monoid Γ)) (K : RowForm D T) (E : List (List ℕ))
    (matrix : IsMatrix (suc q) D E) (U : IsSubmodule T (λ v. IsInSpan (suc q) E (entry (K.row v))))
    (gs : List (Below n)) where
  abbrev L : T.of → Type 0
  L v = IsInSpan (suc q) E (entry (K.row v))

  abbrev R : List (List ℕ)
  R = moves_by Γ T K gs E

  members : (i : ℕ) → i < length E → L (K.table (row E i))
  members i l = subst (λ x. IsInSpan (suc q) E (entry x)) (sym (K.row-table (row E i) (matrix i l)))
      (in_span_row E i l)

  -- the move of a row of E by a member of the list
  move-in : (g : Below n) (hs : List (Below n)) → In g hs → (i : ℕ) → i < length E
      → IsInSpan (suc q) (moves_by Γ T K hs E) (entry (move_row Γ T K g (row E i)))
  move-in g [] h i l = absurd h
  move-in g (k ∷ hs) (inl e) i l = in-left (suc q) (map (move_row Γ T K k) E) (moves_by Γ T K hs E)
      (entry (move_row Γ T K g (row E i)))
      (rw e (let h : IsInSpan (suc q) (map (move_row Γ T K k) E)
      (entry (row (map (move_row Γ T K k) E) i)) =
      in_span_row (map (move_row Γ T K k) E) i (rw (length-map E (move_row Γ T K k)) l) in
      rw (get_or-map (move_row Γ T K k) E i [] [] l) at h))
  move-in g (k ∷ hs) (inr h) i l = in-right (suc q) (map (move_row Γ T K k) E) (moves_by Γ T K hs E)
      (entry (move_row Γ T K g (row E i))) (move-in g hs h i l)

  -- the move of a member of the submodule by a member of the list
  generator-move : (g : Below n) → In g gs → (w : T.of) → L w
      → IsInSpan (suc q) R (at q Γ D T K (sub T (T.act g w) w))
  generator-move g h w k = subst (λ x. IsInSpan (suc q) R (at q Γ D T K x)) (sym expand)
      (span-total q Γ D T K R (below (length E)) (λ i. k.0 i.0) (λ i. step (K.table (row E i.0)))
      (λ i. move-in g gs h i.0 i.1))
    where
      step : T.of → T.of
      step x = sub T (T.act g x) x

      step-add : (x y : T.of) → step (T.add x y) ≡ T.add (step x) (step y)
      step-add x y = ap (λ z. sub T z (T.add x y)) (T.act-add g x y) ∙ sub-add T (T.act g x) (T.act g y) x y

      expand : step w ≡ total T (below (length E))
          (λ i. times T.add T.zero (k.0 i.0) (step (K.table (row E i.0))))
      expand = ap step (from-span q Γ D T K E matrix k.0 w k.1)
          ∙ map-total T T step step-add (below (length E))
          (λ i. times T.add T.zero (k.0 i.0) (K.table (row E i.0)))
          ∙ ap (total T (below (length E)))
          (fun_ext (λ i. map-times T T step step-add (k.0 i.0) (K.table (row E i.0))))

  -- the move by a product
  product-move : (x : ℕ) → IsProductOf mul (numbers gs) x → (g : Below n) × (g.0 ≡ x)
      × ((w : T.of) → L w → IsInSpan (suc q) R (at q Γ D T K (sub T (T.act g w) w)))
  product-move x unit = (
    Γ.one,
    N.one-is,
    λ w k. subst (λ v. IsInSpan (suc q) R (at q Γ D T K v))
        (sym (ap (λ v. sub T v w) (T.act-one w) ∙ sub-self T w))
        (in_span_congruent (λ j. congruent_sym (at-zero q Γ D T K j)) in_span_zero),
  )
  product-move x (more y s h c) = joined (product-move y h) (member gs s c.0 c.1 c.2)
    where
      joined : (g : Below n) × (g.0 ≡ y)
          × ((w : T.of) → L w → IsInSpan (suc q) R (at q Γ D T K (sub T (T.act g w) w))) → (k : Below n)
          × (k.0 ≡ s) × In k gs
          → (g : Below n) × (g.0 ≡ mul y s)
          × ((w : T.of) → L w → IsInSpan (suc q) R (at q Γ D T K (sub T (T.act g w) w)))
      joined (g, e, f) (k, d, i) = (
        Γ.mul g k,
        N.mul-is g k ∙ ap₂ mul e d,
        λ w l. subst (λ v. IsInSpan (suc q) R (at q Γ D T K v)) (parts w)
            (in_span_congruent (λ j. congruent_sym
            (congruent_trans (K.row-add (sub T (T.act g (T.act k w)) (T.act k w)) (sub T (T.act k w) w) j)
            (congruent_eq (omega arith))))
            (in_span_add {f = at q Γ D T K (sub T (T.act g (T.act k w)) (T.act k w))} {g = at q Γ D T K
            (sub T (T.act k w) w)} 1 (f (T.act k w) (U.act-in k w l)) (generator-move k i w l))),
      )
        where
          parts : (w : T.of) → T.add (sub T (T.act g (T.act k w)) (T.act k w)) (sub T (T.act k w) w) ≡ sub T
              (T.act (Γ.mul g k) w) w
          parts w = sym (T.add-assoc (sub T (T.act g (T.act k w)) (T.act k w)) (T.act k w) (T.neg w))
              ∙ ap (λ v. T.add v (T.neg w)) (sub-back T (T.act g (T.act k w)) (T.act k w))
              ∙ ap (λ v. sub T v w) (sym (T.act-mul g k w))

  module _ (G : Generate n mul (numbers gs)) where
    all-moves : (g : Below n) (w : T.of) → L w → IsInSpan (suc q) R (at q Γ D T K (sub T (T.act g w) w))
    all-moves g w k = go (product-move g.0 (G g.0 g.1))
      where
        go : (h : Below n) × (h.0 ≡ g.0)
            × ((w : T.of) → L w → IsInSpan (suc q) R (at q Γ D T K (sub T (T.act h w) w)))
            → IsInSpan (suc q) R (at q Γ D T K (sub T (T.act g w) w))
        go (h, e, f) = subst (λ x. IsInSpan (suc q) R (at q Γ D T K (sub T (T.act x w) w))) (below-path h g e)
            (f w k)

    moved-in : (v : T.of) → Moved T L v → IsInSpan (suc q) R (at q Γ D T K v)
    moved-in v none = in_span_congruent (λ j. congruent_sym (at-zero q Γ D T K j)) in_span_zero
    moved-in v (both {x = x} {y = y} h k) = in_span_congruent
        (λ j. congruent_sym (congruent_trans (K.row-add x y j) (congruent_eq (omega arith))))
        (in_span_add {f = at q Γ D T K x} {g = at q Γ D T K y} 1 (moved-in x h) (moved-in y k))
    moved-in v (moved g w k) = all-moves g w k

    -- the moves by the list are among all moves
    generated-row : (i : ℕ) → i < length R → (v : T.of) × Moved T L v × (row R i ≡ K.row v)
    generated-row i l = each gs i l
      where
        each : (hs : List (Below n)) (i : ℕ) → i < length (moves_by Γ T K hs E) → (v : T.of) × Moved T L v
            × (row (moves_by Γ T K hs E) i ≡ K.row v)
        each [] i l = absurd (omega (arith, l))
        each (g ∷ hs) i l = go (cases_lt i (length (map (move_row Γ T K g) E))) (each hs)
          where
            go : (i < length (map (move_row Γ T K g) E)) ⊎ (length (map (move_row Γ T K g) E) ≤ i)
                → ((i : ℕ) → i < length (moves_by Γ T K hs E) → (v : T.of) × Moved T L v
                × (row (moves_by Γ T K hs E) i ≡ K.row v))
                → (v : T.of) × Moved T L v × (row (moves_by Γ T K (g ∷ hs) E) i ≡ K.row v)
            go (inl m) ih = let k : i < length E = (rw (length-map E (move_row Γ T K g)) at m) in (
              sub T (T.act g (K.table (row E i))) (K.table (row E i)),
              moved g (K.table (row E i)) (members i k),
              get_or_append_left (map (move_row Γ T K g) E) (moves_by Γ T K hs E) [] i m
                  ∙ get_or-map (move_row Γ T K g) E i [] [] k,
            )
            go (inr m) ih = let a : ℕ = length (map (move_row Γ T K g) E) in let d : i ≡ a + (i - a) =
                omega (arith, m) in
                rw d (rw (get_or-append-add (map (move_row Γ T K g) E) (moves_by Γ T K hs E) (i - a) [])
                (ih (i - a) (let f : length (map (move_row Γ T K g) E ++ moves_by Γ T K hs E) ≡ a + length
                (moves_by Γ T K hs E) = length-append (map (move_row Γ T K g) E) (moves_by Γ T K hs E) in
                omega (arith, f, l, m))))

    pub all-in-generated : AreInSpan (suc q) R (moves Γ T K E)
    all-in-generated i l = subst (λ x. IsInSpan (suc q) R (entry x))
        (K.row-table (row (moves Γ T K E) i) (moves-are i l))
        (moved-in (K.table (row (moves Γ T K E) i))
        (moved-from-span q Γ D T K L E matrix members (λ v s. s) (K.table (row (moves Γ T K E) i))
        (subst (λ x. IsInSpan (suc q) (moves Γ T K E) (entry x))
        (sym (K.row-table (row (moves Γ T K E) i) (moves-are i l))) (in_span_row (moves Γ T K E) i l))))
      where
        moves-are : IsMatrix (suc q) D (moves Γ T K E)
        moves-are = moves-matrix q Γ D T K L E matrix members (λ v s. s)

    pub generated-in-all : AreInSpan (suc q) (moves Γ T K E) R
    generated-in-all i l = go (generated-row i l)
      where
        go : (v : T.of) × Moved T L v × (row R i ≡ K.row v)
            → IsInSpan (suc q) (moves Γ T K E) (entry (row R i))
        go (v, h, e) = subst (λ x. IsInSpan (suc q) (moves Γ T K E) (entry x)) (sym e)
            (span-from-moved q Γ D T K L E matrix members (λ v s. s) v h)

    -- the echelon list of the moves by generators is that of all moves
    pub echelon-of-all : (t : List (List ℕ)) → IsEchelonOf (suc q) D R t
        → IsEchelonOf (suc q) D (moves Γ T K E) t
    echelon-of-all t e = record {
      matrix = e.matrix;
      echelon = e.echelon;
      spanned = are_in_span_trans t generated-in-all e.spanned;
      spans = are_in_span_trans (moves Γ T K E) e.spans all-in-generated;
    }

    -- a greedy choice modulo it is one modulo all moves
    pub greedy-by-generators : (t : List (List ℕ)) (xs : List ℕ) → IsEchelonOf (suc q) D R t
        → IsGreedy (suc q) E t xs → IsGreedy (suc q) E (moves Γ T K E) xs
    greedy-by-generators t xs e g = greedy-same-span (suc q) E t (moves Γ T K E) (echelon-of-all t e).spans
        (echelon-of-all t e).spanned (length E) xs g

-- the list of J^(i+1) is the echelon list of the moves of that of J^i by generators
module _ {n q : ℕ} (Γ : Group n) (mul : ℕ → ℕ → ℕ) (N : IsNumbered Γ mul) (D : ℕ)
    (T : Module (suc q) (monoid Γ)) (K : RowForm D T) (i : ℕ) (E : List (List ℕ))
    (P : IsEchelonFor (suc q) D (RowIn K (Radical T i)) E) (gs : List (Below n))
    (G : Generate n mul (numbers gs)) where
  radical-add : (i : ℕ) (x y : T.of) → Radical T i x → Radical T i y → Radical T i (T.add x y)
  radical-add zero x y h k = tt
  radical-add (suc i) x y h k = both h k

  -- g x is (g - 1) x plus x
  radical-act : (g : Below n) (x : T.of) → Radical T i x → Radical T i (T.act g x)
  radical-act g x h = subst (Radical T i) (sub-back T (T.act g x) x)
      (radical-add i (sub T (T.act g x) x) x (radical-step q Γ D T K i (sub T (T.act g x) x) (moved g x h)) h)

  spans-submodule : IsSubmodule T (λ v. IsInSpan (suc q) E (entry (K.row v)))
  spans-submodule = record {
    zero-in = in_span_congruent (λ j. congruent_sym (at-zero q Γ D T K j)) in_span_zero;
    add-in = λ x y h k. to (T.add x y) (radical-add i x y (from x h) (from y k));
    act-in = λ g x h. to (T.act g x) (radical-act g x (from x h));
  }
    where
      to : (v : T.of) → Radical T i v → IsInSpan (suc q) E (entry (K.row v))
      to v h = layer-spans q Γ D T K i E P v h

      from : (v : T.of) → IsInSpan (suc q) E (entry (K.row v)) → Radical T i v
      from v h = span-in-layer q Γ D T K i E P v h

  pub next-by-generators : (t : List (List ℕ)) → IsEchelonOf (suc q) D (moves_by Γ T K gs E) t
      → IsEchelonFor (suc q) D (RowIn K (Radical T (suc i))) t
  next-by-generators t e = next-layer q Γ D T K i E P t
      (echelon-of-all Γ mul N D T K E P.matrix spans-submodule gs G t e)

-- The products of generators by layer 1 generate J K.
use Rattle.std.proofs.Common.{◌≡◌, ℕ, zero, suc, ◌+◌, ◌-◌, ◌*◌, ◌/◌, ◌%◌, ◌<◌, ◌≤◌, ◌⊎◌, List, [], ◌∷◌, ◌++◌}
use Rattle.std.proofs.Common.{length, inl, inr, arith, ap, sym, ◌∙◌, refl}
use Rattle.std.proofs.lemmas.Bool.{cases_lt}
use Rattle.std.proofs.lemmas.List.{get_or_append_left, get_or-append-add, length-append}
use Rattle.std.proofs.lemmas.Nat.{div-add-mod'}
use Rattle.std.proofs.Math.Nat.{div-lt_iff_lt-mul, mod-lt}
use mathlib.Core.Path.{subst}
use Rattle.linear_algebra.specs.Modular.{IsFieldModulo}
use Rattle.linear_algebra.specs.Rows.{entry, row, combination, IsMatrix, IsRow, IsInSpan, AreInSpan}
use Rattle.linear_algebra.proofs.Congruences.{congruent_refl, congruent_add, congruent_trans, congruent_eq}
use Rattle.linear_algebra.proofs.Congruences.{congruent_sym, congruent_mul_left}
use Rattle.linear_algebra.proofs.Spans.{in_span_congruent, in_span_row, in_span_trans, are_in_span_trans}
use Rattle.linear_algebra.proofs.GreedyChoice.{in-left, in-right, greedy-same-span}
use Rattle.group_modules.specs.Module.{Module, sub, times}
use Rattle.group_modules.proofs.Laws.{sub-add, sub-back, sub-self, act-zero}
use Rattle.group_modules.specs.Field.{Below}
use Rattle.group_modules.specs.Sums.{below, total}
use Rattle.group_modules.specs.Tables.{Group, monoid, Table}
use Rattle.augmentation_ideal.specs.Radical.{Moved, none, both, moved, IsSubmodule}
use Rattle.augmentation_ideal.specs.Claims.{IsPrimePower}
use Rattle.augmentation_ideal.proofs.Nakayama.{moved-more, moved-in, sub-in}
use Rattle.radical_layers.specs.Coordinates.{RowForm}
use Rattle.radical_layers.specs.Moves.{moves}
use Rattle.radical_layers.specs.LayerBasis.{Layers, AreLayers}
use Rattle.radical_layers.proofs.Bridge.{at, at-sub, tabs, at-tabs, moves-matrix, moved-from-span}
use Rattle.radical_layers.proofs.Bridge.{span-from-moved}
use Rattle.radical_layers.proofs.Basis.{in-span-append}
use Rattle.neg_basis.specs.Maps.{IsClosed, IsInSubmodule}
use Rattle.neg_basis.specs.Results.{IsNegBasisOf}
use Rattle.neg_basis.specs.declared.origin.Origin.{Origin}
use Rattle.neg_basis.proofs.SubmoduleLemmas.{closed}
use Rattle.radical_generators.specs.FirstLayer.{product, layer_size, layer_member}
use Rattle.neg_basis.specs.Images.{AreImages}
use Rattle.radical_generators.specs.Claims.{Spanned, maps, AreGenerators, RadicalGeneratorClaims}
use Rattle.radical_generators.proofs.ClosedSets.{ideal-product, less-one-in-submodule}
use Rattle.radical_generators.proofs.ClosedSpans.{span-submodule}
use Rattle.radical_generators.proofs.Ideal.{ideal-claims}
use Rattle.radical_generators.proofs.Rows.{layer_map-linear, layer_map-row}
use Rattle.neg_basis.proofs.ImageLemmas.{image-place}

-- the vectors that every g - 1 takes into a submodule
module _ {n : ℕ} (q : ℕ) (Γ : Group n) (T : Module (suc q) (monoid Γ)) (L : T.of → Type 0)
    (U : IsSubmodule T L) where
  abbrev Steps : T.of → Type 0
  Steps v = (g : Below n) → L (sub T (T.act g v) v)

  steps-zero : Steps T.zero
  steps-zero g = subst L (sym (ap (λ x. sub T x T.zero) (act-zero T g) ∙ sub-self T T.zero)) U.zero-in

  pub steps-add : (v w : T.of) → Steps v → Steps w → Steps (T.add v w)
  steps-add v w h k g = subst L (sym (ap (λ z. sub T z (T.add v w)) (T.act-add g v w)
      ∙ sub-add T (T.act g v) (T.act g w) v w)) (U.add-in _ _ (h g) (k g))

  steps-times : (c : ℕ) (v : T.of) → Steps v → Steps (times T.add T.zero c v)
  steps-times zero v h = steps-zero
  steps-times (suc c) v h = steps-add v (times T.add T.zero c v) h (steps-times c v h)

  pub steps-total : {A : Type 0} (xs : List A) (u : A → ℕ) (f : A → T.of) → ((a : A) → Steps (f a))
      → Steps (total T xs (λ a. times T.add T.zero (u a) (f a)))
  steps-total [] u f h = steps-zero
  steps-total (x ∷ xs) u f h = steps-add (times T.add T.zero (u x) (f x)) _ (steps-times (u x) (f x) (h x))
      (steps-total xs u f h)

  pub steps-inside : (v : T.of) → L v → Steps v
  steps-inside v h g = sub-in T L U (T.act g v) v (U.act-in g v h) h

no-place : (t c m : ℕ) → m ≤ 0 → t < c * m → ⊥
no-place t c zero z l = omega (arith, l)
no-place t c (suc m) z l = omega (arith, z)

module _ {n : ℕ} (q : ℕ) (F : IsFieldModulo (suc q)) (Γ : Group n) (P : IsPrimePower q n)
    (K : RowForm n (Table q Γ 1)) (Y : Layers) (A : AreLayers q Γ K Y) (b : ℕ) {width : ℕ}
    (C : RowForm width (Table q Γ b)) (E R products : List (List ℕ)) (G : AreGenerators q Γ K Y b C E R)
    (I : AreImages (suc q) (layer_size q Γ K Y) (maps q Γ K Y b C) R products) where
  abbrev T : Module (suc q) (monoid Γ)
  T = Table q Γ b

  abbrev m : ℕ
  m = layer_size q Γ K Y

  abbrev f : ℕ → (ℕ → ℕ) → ℕ → ℕ
  f = maps q Γ K Y b C

  abbrev S : T.of → Type 0
  S = Spanned q Γ K Y b C E

  abbrev rows-at : T.of → ℕ → ℕ
  rows-at v = at q Γ width T C v

  -- the table of row i of the generators
  abbrev generator : ℕ → T.of
  generator i = C.table (row R i)

  -- the product of a generator, in a span that has all products
  product-in : (rows : List (List ℕ)) → AreInSpan (suc q) rows products → (k i : ℕ) → k < m → i < length R
      → IsInSpan (suc q) rows (f k (entry (row R i)))
  product-in rows a k i h l = in_span_congruent (I.each i k l h)
      (a (i * m + k) (subst (λ c. i * m + k < c) (sym I.count) (image-place i k m (length R) l h)))

  module _ (rows : List (List ℕ)) (a : AreInSpan (suc q) rows products) (c : IsClosed (suc q) m f rows) where
    L : T.of → Type 0
    L = Spanned q Γ K Y b C rows

    U : IsSubmodule T (Spanned q Γ K Y b C rows)
    U = span-submodule q F Γ P K Y A b C rows c

    generator-steps : (i : ℕ) → i < length R
        → (g : Below n) → Spanned q Γ K Y b C rows (sub T (T.act g (generator i)) (generator i))
    generator-steps i l g = less-one-in-submodule q F Γ P K Y A T (Spanned q Γ K Y b C rows) U (generator i)
        (λ k h. in_span_congruent
        (λ j. congruent_eq (layer_map-row q Γ width T C K Y k (row R i) (G.generators i l) j))
        (product-in rows a k i h l)) g

    -- with the generators the span is closed too
    with-generators : IsClosed (suc q) m f (rows ++ R)
    with-generators = closed (rows ++ R) (λ k h. layer_map-linear q Γ width T C K Y k)
        (λ k t h l. in-left (suc q) rows R (f k (entry (row (rows ++ R) t)))
        (go k t h l (cases_lt t (length rows))))
      where
        go : (k t : ℕ) → k < m → t < length (rows ++ R) → (t < length rows) ⊎ (length rows ≤ t)
            → IsInSpan (suc q) rows (f k (entry (row (rows ++ R) t)))
        go k t h l (inl d) = rw (get_or_append_left rows R [] t d)
            (c.each k h (entry (row rows t)) (in_span_row rows t d))
        go k t h l (inr d) = let e : t ≡ length rows + (t - length rows) = omega (arith, d) in
            rw (e, get_or-append-add rows R (t - length rows) [])
            (product-in rows a k (t - length rows) h
            (let z : length (rows ++ R) ≡ length rows + length R = length-append rows R in
            omega (arith, z, l, d)))

    -- so every g - 1 takes each member of the submodule into the span
    member-steps : (w : T.of) → S w → (g : Below n) → Spanned q Γ K Y b C rows (sub T (T.act g w) w)
    member-steps w s = go (in-span-append q rows R (rows-at w) F.above_one (in_span_trans
        (λ i l. (G.generate i l).in_each (rows ++ R)
        (λ t d. in-right (suc q) rows R (entry (row R t)) (in_span_row R t d)) with-generators) s))
      where
        go : (u : ℕ → ℕ) × IsInSpan (suc q) rows (λ j. rows-at w j + q * combination u R j)
            → (g : Below n) → Spanned q Γ K Y b C rows (sub T (T.act g w) w)
        go (u, h) = subst (λ v. (g : Below n) → Spanned q Γ K Y b C rows (sub T (T.act g v) v))
            (sub-back T w x)
            (steps-add q Γ T (Spanned q Γ K Y b C rows) U (sub T w x) x
            (steps-inside q Γ T (Spanned q Γ K Y b C rows) U (sub T w x)
            (in_span_congruent (λ j. congruent_sym (congruent_trans (at-sub q Γ width T C w x j)
            (congruent_add (congruent_refl (rows-at w j)) (congruent_mul_left q
            (at-tabs q Γ width T C R G.generators u (length R) refl j))))) h))
            (steps-total q Γ T (Spanned q Γ K Y b C rows) U (below (length R)) (λ i. u i.0)
            (λ i. generator i.0) (λ i. generator-steps i.0 i.1)))
          where
            x : T.of
            x = tabs q Γ width T C R u (length R)

    pub moved-is-in : (v : T.of) → Moved T S v → Spanned q Γ K Y b C rows v
    moved-is-in v none = U.zero-in
    moved-is-in v (both {x = x} {y = y} h k) = U.add-in x y (moved-is-in x h) (moved-is-in y k)
    moved-is-in v (moved g w s) = member-steps w s g

  -- the rows of all (g - 1) v have the products in their span, which is closed
  members : (i : ℕ) → i < length E → S (C.table (row E i))
  members i l = subst (λ x. IsInSpan (suc q) E (entry x)) (sym (C.row-table (row E i) (G.matrix i l)))
      (in_span_row E i l)

  moves-are : IsMatrix (suc q) width (moves Γ T C E)
  moves-are = moves-matrix q Γ width T C S E G.matrix members (λ v s. s)

  from-moves : (v : T.of) → IsInSpan (suc q) (moves Γ T C E) (rows-at v) → Moved T S v
  from-moves = moved-from-span q Γ width T C S E G.matrix members (λ v s. s)

  in-moves : (v : T.of) → Moved T S v → IsInSpan (suc q) (moves Γ T C E) (rows-at v)
  in-moves = span-from-moved q Γ width T C S E G.matrix members (λ v s. s)

  move-member : (t : ℕ) → t < length (moves Γ T C E) → Moved T S (C.table (row (moves Γ T C E) t))
  move-member t l = from-moves (C.table (row (moves Γ T C E) t))
      (subst (λ x. IsInSpan (suc q) (moves Γ T C E) (entry x))
      (sym (C.row-table (row (moves Γ T C E) t) (moves-are t l))) (in_span_row (moves Γ T C E) t l))

  product-row : (k : ℕ) → k < m → (x : List ℕ) → IsRow (suc q) width x → S (C.table x)
      → IsInSpan (suc q) (moves Γ T C E) (f k (entry x))
  product-row k h x r s = in_span_congruent
      (λ j. congruent_eq (sym (layer_map-row q Γ width T C K Y k x r j)))
      (in-moves (product q Γ T (layer_member q Γ K Y k) (C.table x))
      (moved-more T (λ w. w ≡ C.table x) S (λ w e. subst S (sym e) s) _
      (ideal-product q Γ T (layer_member q Γ K Y k) ((ideal-claims q F Γ P K Y A).members k h) (C.table x))))

  products-in-moves : AreInSpan (suc q) (moves Γ T C E) products
  products-in-moves t l = go (cases_lt 0 m)
    where
      inside : t < length R * m
      inside = subst (λ c. t < c) I.count l

      go : (0 < m) ⊎ (m ≤ 0) → IsInSpan (suc q) (moves Γ T C E) (entry (row products t))
      go (inr z) = absurd (no-place t (length R) m z inside)
      go (inl z) = subst (λ s. IsInSpan (suc q) (moves Γ T C E) (entry (row products s))) (div-add-mod' t m)
          (in_span_congruent (λ j. congruent_sym (I.each (t / m) (t % m) below-count (mod-lt t z) j))
          (product-row (t % m) (mod-lt t z) (row R (t / m)) (G.generators (t / m) below-count)
          (subst (λ x. IsInSpan (suc q) E (entry x))
          (sym (C.row-table (row R (t / m)) (G.generators (t / m) below-count)))
          (G.inside (t / m) below-count))))
        where
          below-count : t / m < length R
          below-count = (div-lt_iff_lt-mul z).1 inside

  moves-closed : IsClosed (suc q) m f (moves Γ T C E)
  moves-closed = closed (moves Γ T C E) (λ k h. layer_map-linear q Γ width T C K Y k)
      (λ k t h l. product-row k h (row (moves Γ T C E) t) (moves-are t l)
      (moved-in T S G.submodule (C.table (row (moves Γ T C E) t)) (move-member t l)))

  is-moved : (v : T.of) → IsInSubmodule (suc q) m f products (rows-at v) → Moved T S v
  is-moved v h = from-moves v (h.in_each (moves Γ T C E) products-in-moves moves-closed)

  has-moved : (v : T.of) → Moved T S v → IsInSubmodule (suc q) m f products (rows-at v)
  has-moved v h = record { in_each = λ rows a c. moved-is-in rows a c v h }

  module _ (vectors : List (List ℕ)) (origins : List Origin)
      (N : IsNegBasisOf (suc q) width m f products vectors origins) where
    vectors-in : AreInSpan (suc q) (moves Γ T C E) vectors
    vectors-in i l = (N.spanned (entry (row vectors i)) (in_span_row vectors i l)).in_each (moves Γ T C E)
        products-in-moves moves-closed

    moves-in : AreInSpan (suc q) vectors (moves Γ T C E)
    moves-in t l = subst (λ x. IsInSpan (suc q) vectors (entry x))
        (C.row-table (row (moves Γ T C E) t) (moves-are t l))
        (N.spans _ (has-moved (C.table (row (moves Γ T C E) t)) (move-member t l)))

  pub radical-claims : RadicalGeneratorClaims q Γ K Y b C E R products
  radical-claims = record {
    generate = λ v. (is-moved v, has-moved v);
    spans = λ vectors origins N v. (
      λ s. is-moved v (N.spanned (rows-at v) s),
      λ h. N.spans (rows-at v) (has-moved v h),
    );
    greedy = λ vectors origins rows positions N e g. greedy-same-span (suc q) E rows (moves Γ T C E)
        (are_in_span_trans (moves Γ T C E) e.spans (moves-in vectors origins N))
        (are_in_span_trans rows (vectors-in vectors origins N) e.spanned) (length E) positions g;
  }

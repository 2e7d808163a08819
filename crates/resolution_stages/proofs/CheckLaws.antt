-- The six checks make the parts those of the next stage.
use Rattle.std.proofs.Common.{◌≡◌, ◌≢◌, ℕ, suc, ◌+◌, ◌*◌, ◌-◌, ◌%◌, ◌<◌, ◌≤◌, ◌⊎◌, List, [], ◌++◌}
use Rattle.std.proofs.Common.{length, get_or, take, inl, inr, arith, ap, ap₂, sym, ◌∙◌, refl}
use Rattle.std.proofs.lemmas.Bool.{cases_lt}
use Rattle.std.proofs.lemmas.List.{length-append, length-map, get_or-map}
use Rattle.std.proofs.Math.Seq.{take-length}
use Rattle.std.proofs.Math.Nat.{zero-mod, mod-eq_of_lt, le_refl}
use mathlib.Core.Path.{subst, fun_ext}
use Rattle.group_modules.specs.Module.{Module, sub, times, IsLinear}
use Rattle.group_modules.proofs.Laws.{zero-add, sub-self, sub-zero, map-zero, map-sub, map-times, times-zero}
use Rattle.group_modules.specs.Field.{Below, residue, Fp}
use Rattle.group_modules.specs.Tables.{Group, monoid, Table, block-sum}
use Rattle.group_modules.specs.Sums.{below, total}
use Rattle.group_modules.proofs.SumLaws.{total-zero, map-total}
use Rattle.augmentation_ideal.specs.Radical.{Moved, IsSubmodule}
use Rattle.augmentation_ideal.specs.Generators.{combine}
use Rattle.augmentation_ideal.proofs.Generators.{split}
use Rattle.linear_algebra.specs.Modular.{IsCongruent, IsFieldModulo, sum_below}
use Rattle.linear_algebra.specs.Rows.{entry, row, combination, IsRow, IsMatrix, IsInSpan}
use Rattle.linear_algebra.specs.Choices.{rows_at, IsGreedyBelow}
use Rattle.linear_algebra.proofs.Sums.{sum_below-same, sum_below-vanishes, sum_below-mul, update, update_same}
use Rattle.linear_algebra.proofs.Sums.{update_other}
use Rattle.linear_algebra.proofs.Spans.{in_span_congruent, in_span_add}
use Rattle.linear_algebra.proofs.Congruences.{congruent_refl, congruent_add, congruent_trans, congruent_eq}
use Rattle.linear_algebra.proofs.Congruences.{congruent_sym, congruent_mod, congruent_mul_left, to_congruent}
use Rattle.linear_algebra.proofs.Congruences.{congruent_mul_right}
use Rattle.linear_algebra.proofs.Independence.{Independent}
use Rattle.radical_layers.specs.Coordinates.{Coordinates}
use Rattle.radical_layers.specs.Moves.{moves, IsEchelonFor}
use Rattle.radical_layers.specs.Layers.{RowIn}
use Rattle.resolution_stages.specs.Checks.{StageParts, HasShape, HasCount, PassesChecks, IsNextStage}
use Rattle.resolution_stages.specs.Checks.{chosen_row, del}
use Rattle.linear_algebra.proofs.GreedyChoice.{in-left, in-right, in-combination}
use Rattle.radical_layers.proofs.Bridge.{at, at-zero, at-times, at-sub, at-total, tabs, at-tabs, same-table}
use Rattle.radical_layers.proofs.Bridge.{from-span, moved-from-span, span-from-moved}
use Rattle.radical_layers.proofs.Basis.{in-span-append, combination-append}
use Rattle.radical_layers.proofs.LayerForm.{matrix-append}
use Rattle.radical_layers.proofs.SameDimension.{echelon-independent, full}
use Rattle.radical_layers.proofs.Blocks.{block-is-linear, spread, block-spread, f-linear, f-spread}
use Rattle.radical_layers.proofs.Blocks.{moved-value}
use Rattle.resolution_stages.proofs.Sequences.{masked, masked-below, masked-from, sequence, sequence-at}
use Rattle.resolution_stages.proofs.TakenRows.{AreChosen, firsts-form, firsts-only, greedy}

module _ {n : ℕ} (q : ℕ) (F : IsFieldModulo (suc q)) (Γ : Group n) (K : Coordinates q Γ) (b : ℕ)
    (L : (Table q Γ b).of → Type 0) (U : IsSubmodule (Table q Γ b) L)
    (E : List (List ℕ)) (LE : IsEchelonFor (suc q) (n * b) (RowIn (K b) L) E) (Q : StageParts)
    (H : HasShape q Γ K b E Q) where
  abbrev m : ℕ
  m = length Q.positions

  abbrev T : Module (suc q) (monoid Γ)
  T = Table q Γ b

  abbrev P : Module (suc q) (monoid Γ)
  P = Table q Γ m

  abbrev rows : Below m → T.of
  rows = chosen_row q Γ K b E Q

  abbrev f : P.of → T.of
  f u = del q Γ K b E Q u

  abbrev pos : ℕ → ℕ
  pos i = get_or Q.positions i 0

  abbrev R : List (List ℕ)
  R = rows_at E Q.positions

  -- rows of T and of P
  abbrev atT : T.of → ℕ → ℕ
  atT v j = at q Γ (n * b) T (K b) v j

  abbrev atP : P.of → ℕ → ℕ
  atP v j = at q Γ (n * m) P (K m) v j

  pub members : (k : ℕ) → k < length E → L ((K b).table (row E k))
  members k l = (LE.members k l).1

  pub spans : (v : T.of) → L v → IsInSpan (suc q) E (atT v)
  spans v h = LE.spans ((K b).row v) ((K b).row-is v, subst L (sym ((K b).table-row v)) h)

  taken : (i : ℕ) → i < m → row R i ≡ row E (pos i)
  taken i l = get_or-map (row E) Q.positions i 0 [] l

  pub rows-in : (i : Below m) → L (rows i)
  rows-in i = subst L (ap (K b).table (sym (taken i.0 i.1))) (members (pos i.0) (H.inside i.0 i.1))

  t : List (List ℕ)
  t = moves Γ T (K b) E

  -- the first k of the rows
  abbrev firsts : ℕ → List (List ℕ)
  firsts k = rows_at E (take k Q.positions)

  pub at-combine : (c : Below m → Below (suc q)) (u : ℕ → ℕ)
      → ((i : Below m) → IsCongruent (suc q) (c i).0 (u i.0)) → (j : ℕ)
      → IsCongruent (suc q) (atT (combine T m rows c) j) (combination u R j)
  at-combine c u e j = congruent_trans
      (at-total q Γ (n * b) T (K b) m (λ i. times T.add T.zero (c i).0 (rows i))
      (λ i. u i * entry (row R i) j) j
      (λ i. congruent_trans (at-times q Γ (n * b) T (K b) (c i).0 (rows i) j)
      (congruent_trans (congruent_mul_right (atT (rows i) j) (e i))
      (congruent_eq (ap (λ r. u i.0 * entry r j)
      ((K b).row-table (row R i.0) (subst (IsRow (suc q) (n * b)) (sym (taken i.0 i.1))
      (LE.matrix (pos i.0) (H.inside i.0 i.1)))))))))
      (congruent_eq (ap (λ k. sum_below k (λ i. u i * entry (row R i) j))
      (sym (length-map Q.positions (row E)))))

  in-moved : (v : T.of) → IsInSpan (suc q) t (atT v) → Moved T L v
  unfolding t
  in-moved v s = moved-from-span q Γ (n * b) T (K b) L E LE.matrix members spans v s

  moved-in-span : (v : T.of) → Moved T L v → IsInSpan (suc q) t (atT v)
  unfolding t
  moved-in-span v h = span-from-moved q Γ (n * b) T (K b) L E LE.matrix members spans v h

  pub at-row : (k : ℕ) → k < length E → (j : ℕ) → atT ((K b).table (row E k)) j ≡ entry (row E k) j
  at-row k l j = ap (λ r. entry r j) ((K b).row-table (row E k) (LE.matrix k l))

  pub minus-plus : (a x : ℕ) → IsCongruent (suc q) (a + q * x + 1 * x) a
  minus-plus a x = to_congruent 0 x (omega arith)

  -- a row with its section differs from the combination by the sums of the section's blocks by a member of
  -- the span of all (g - 1) v
  pub row-moved : (x : P.of) (k : ℕ) → f x ≡ (K b).table (row E k)
      → Moved T L (sub T ((K b).table (row E k)) (combine T m rows (block-sum q Γ m x)))
  row-moved x k e = subst (λ v. Moved T L (sub T v (combine T m rows (block-sum q Γ m x)))) e
      (split q Γ T L m rows rows-in x)

  module _ (C : PassesChecks q Γ K b E Q) where
    abbrev pub sections-of : (ℕ → ℕ) → P.of
    sections-of c = tabs q Γ (n * m) P (K m) Q.sections c (length E)

    abbrev kernel-of : (ℕ → ℕ) → P.of
    kernel-of a = tabs q Γ (n * m) P (K m) Q.kernel a (length Q.kernel)

    abbrev E-of : (ℕ → ℕ) → T.of
    E-of c = tabs q Γ (n * b) T (K b) E c (length E)

    pub l : IsLinear P T f
    l = f-linear q Γ m T rows

    pub f-sections : (c : ℕ → ℕ) → f (sections-of c) ≡ E-of c
    f-sections c = map-total P T f l.on-add (below (length E))
        (λ i. times P.add P.zero (c i.0) ((K m).table (row Q.sections i.0)))
        ∙ ap (total T (below (length E)))
        (fun_ext (λ i. map-times P T f l.on-add (c i.0) ((K m).table (row Q.sections i.0))
        ∙ ap (times T.add T.zero (c i.0)) (C.sections_to_rows i.0 i.1)))

    f-kernel : (a : ℕ → ℕ) → f (kernel-of a) ≡ T.zero
    f-kernel a = map-total P T f l.on-add (below (length Q.kernel))
        (λ i. times P.add P.zero (a i.0) ((K m).table (row Q.kernel i.0)))
        ∙ total-zero T (below (length Q.kernel)) _
        (λ i. map-times P T f l.on-add (a i.0) ((K m).table (row Q.kernel i.0))
        ∙ ap (times T.add T.zero (a i.0)) (C.kernel_to_zero i.0 i.1) ∙ times-zero T (a i.0))

    -- the boundary is onto L
    onto : (v : T.of) → L v → (u : P.of) × (f u ≡ v)
    onto v h = (
      sections-of (spans v h).0,
      f-sections (spans v h).0
          ∙ sym (from-span q Γ (n * b) T (K b) E LE.matrix (spans v h).0 v (spans v h).1),
    )

    E-zero : (c : ℕ → ℕ) → E-of c ≡ T.zero → (i : ℕ) → i < length E → IsCongruent (suc q) (c i) 0
    E-zero c e = (echelon-independent (suc q) E LE.echelon).only_zero c
        (λ j. congruent_trans (congruent_sym (at-tabs q Γ (n * b) T (K b) E LE.matrix c (length E) refl j))
        (congruent_trans (congruent_eq (ap (λ v. atT v j) e)) (at-zero q Γ (n * b) T (K b) j)))

    -- a sum of a part over the kernel rows and a part over the section rows
    at-both : (a c : ℕ → ℕ) (j : ℕ) → IsCongruent (suc q) (atP (P.add (kernel-of a) (sections-of c)) j)
        (combination a Q.kernel j + combination c Q.sections j)
    at-both a c j = congruent_trans ((K m).row-add (kernel-of a) (sections-of c) j)
        (congruent_add (at-tabs q Γ (n * m) P (K m) Q.kernel H.kernel_rows a (length Q.kernel) refl j)
        (at-tabs q Γ (n * m) P (K m) Q.sections H.section_rows c (length E) (sym H.section_count) j))

    f-both : (a c : ℕ → ℕ) → f (P.add (kernel-of a) (sections-of c)) ≡ E-of c
    f-both a c = l.on-add (kernel-of a) (sections-of c) ∙ ap₂ T.add (f-kernel a) (f-sections c)
        ∙ zero-add T (E-of c)

    -- what is taken to 0 has no part over the section rows
    no-sections : (a c : ℕ → ℕ) (u : P.of) → f u ≡ T.zero
        → ((j : ℕ) → IsCongruent (suc q) (combination a Q.kernel j + combination c Q.sections j) (atP u j))
        → ((i : ℕ) → i < length E → IsCongruent (suc q) (c i) 0)
        × ((j : ℕ) → IsCongruent (suc q) (combination a Q.kernel j) (atP u j))
    no-sections a c u e h = (
      none,
      λ j. congruent_trans
          (congruent_sym (congruent_trans (congruent_add (congruent_refl (combination a Q.kernel j))
          (vanishes j)) (congruent_eq (omega arith)))) (h j),
    )
      where
        same : u ≡ P.add (kernel-of a) (sections-of c)
        same = same-table q Γ (n * m) P (K m) u _ (λ j. congruent_sym (congruent_trans (at-both a c j) (h j)))

        none : (i : ℕ) → i < length E → IsCongruent (suc q) (c i) 0
        none = E-zero c (sym (f-both a c) ∙ ap f (sym same) ∙ e)

        vanishes : (j : ℕ) → IsCongruent (suc q) (combination c Q.sections j) 0
        vanishes j = sum_below-vanishes (suc q) (length Q.sections) (λ i. c i * entry (row Q.sections i) j)
            (λ i d. congruent_trans (congruent_mul_right (entry (row Q.sections i) j)
            (none i (subst (λ k. i < k) H.section_count d)))
            (congruent_eq (let z : 0 * entry (row Q.sections i) j ≡ 0 = omega arith in z)))

    W : List (List ℕ)
    W = Q.kernel ++ Q.sections

    W-independent : Independent (suc q) (length W) (λ i j. entry (row W i) j)
    unfolding W
    W-independent = record { only_zero = λ u h i d. go u h i d (cases_lt i (length Q.kernel)) }
      where
        parts : (u : ℕ → ℕ) → ((j : ℕ) → IsCongruent (suc q) (combination u (Q.kernel ++ Q.sections) j) 0)
            → ((i : ℕ) → i < length E → IsCongruent (suc q) (u (length Q.kernel + i)) 0)
            × ((j : ℕ) → IsCongruent (suc q) (combination u Q.kernel j) (atP P.zero j))
        parts u h = no-sections u (λ i. u (length Q.kernel + i)) P.zero (map-zero P T f l.on-add)
            (λ j. congruent_trans (congruent_trans
            (congruent_eq (sym (combination-append u Q.kernel Q.sections j))) (h j))
            (congruent_sym (at-zero q Γ (n * m) P (K m) j)))

        go : (u : ℕ → ℕ) → ((j : ℕ) → IsCongruent (suc q) (combination u (Q.kernel ++ Q.sections) j) 0)
            → (i : ℕ) → i < length (Q.kernel ++ Q.sections)
            → (i < length Q.kernel) ⊎ (length Q.kernel ≤ i) → IsCongruent (suc q) (u i) 0
        go u h i d (inl k) = (echelon-independent (suc q) Q.kernel C.echelon).only_zero u
            (λ j. congruent_trans ((parts u h).1 j) (at-zero q Γ (n * m) P (K m) j)) i k
        go u h i d (inr k) = subst (λ x. IsCongruent (suc q) (u x) 0)
            (let e : length Q.kernel + (i - length Q.kernel) ≡ i = omega (arith, k) in e)
            ((parts u h).0 (i - length Q.kernel)
            (let s : length (Q.kernel ++ Q.sections)
            ≡ length Q.kernel + length Q.sections = length-append Q.kernel Q.sections in
            let c : length Q.sections ≡ length E = H.section_count in omega (arith, s, c, d, k)))

    pub W-matrix-of : IsMatrix (suc q) (n * m) (Q.kernel ++ Q.sections)
    W-matrix-of = matrix-append (suc q) (n * m) Q.kernel Q.sections H.kernel_rows H.section_rows

    W-matrix : IsMatrix (suc q) (n * m) W
    unfolding W
    W-matrix = W-matrix-of

    pub W-independent-of : Independent (suc q) (length (Q.kernel ++ Q.sections))
        (λ i j. entry (row (Q.kernel ++ Q.sections) i) j)
    unfolding W
    W-independent-of = W-independent

    module _ (full-count : HasCount q Γ K b E Q) where
      W-count : length W ≡ n * m
      unfolding W
      W-count = length-append Q.kernel Q.sections ∙ ap (λ k. length Q.kernel + k) H.section_count ∙ full-count

      -- the kernel rows span the kernel
      kernel-spans : (u : P.of) → f u ≡ T.zero → IsInSpan (suc q) Q.kernel (atP u)
      unfolding W
      kernel-spans u e = go (full F (n * m) W W-matrix W-independent W-count ((K m).row u) ((K m).row-is u))
        where
          go : IsInSpan (suc q) (Q.kernel ++ Q.sections) (atP u) → IsInSpan (suc q) Q.kernel (atP u)
          go s = (
            s.0,
            record {
              each = (no-sections s.0 (λ i. s.0 (length Q.kernel + i)) u e
                  (λ j. congruent_trans (congruent_eq (sym (combination-append s.0 Q.kernel Q.sections j)))
                  (s.1.each j))).1;
            },
          )

      -- a table in the kernel has blocks of sum 0
      kernel-sums : (u : P.of) → f u ≡ T.zero → (i : Below m) → block-sum q Γ m u i ≡ residue q 0
      kernel-sums u e i =
          let N : Module (suc q) (monoid Γ) = Fp q (monoid Γ) in
          let s : IsInSpan (suc q) Q.kernel (atP u) = kernel-spans u e in
          ap (λ v. block-sum q Γ m v i) (from-span q Γ (n * m) P (K m) Q.kernel H.kernel_rows s.0 u s.1)
          ∙ map-total P N (λ v. block-sum q Γ m v i) (block-is-linear q Γ m i).on-add
          (below (length Q.kernel)) (λ k. times P.add P.zero (s.0 k.0) ((K m).table (row Q.kernel k.0)))
          ∙ total-zero N (below (length Q.kernel)) _
          (λ k. map-times P N (λ v. block-sum q Γ m v i) (block-is-linear q Γ m i).on-add (s.0 k.0)
          ((K m).table (row Q.kernel k.0))
          ∙ ap (times N.add N.zero (s.0 k.0)) (C.kernel_minimal k.0 k.1 i) ∙ times-zero N (s.0 k.0))

      -- the rows are independent modulo the span of all (g - 1) v
      independent : (c : Below m → Below (suc q)) → Moved T L (combine T m rows c) → (i : Below m)
          → c i ≡ residue q 0
      independent c h i =
          let N : Module (suc q) (monoid Γ) = Fp q (monoid Γ) in
          let r : (x : P.of) × (f x ≡ combine T m rows c)
          × ((i : Below m) → block-sum q Γ m x i ≡ residue q 0) =
          moved-value q Γ m T rows L onto (combine T m rows c) h in
          sym (block-spread q Γ m c i) ∙ sym (sub-zero N (block-sum q Γ m (spread q Γ m c) i))
          ∙ ap (sub N (block-sum q Γ m (spread q Γ m c) i)) (sym (r.2 i))
          ∙ sym (map-sub P N (λ v. block-sum q Γ m v i) (block-is-linear q Γ m i).on-add (spread q Γ m c) r.0)
          ∙ kernel-sums (sub P (spread q Γ m c) r.0) (map-sub P T f l.on-add (spread q Γ m c) r.0
          ∙ ap₂ (sub T) (f-spread q Γ m T rows c) r.1 ∙ sub-self T (combine T m rows c)) i

      -- a row that is taken is not in the span of the moves and the rows taken before
      outside : (k : ℕ) → k < m → IsInSpan (suc q) (t ++ firsts k) (entry (row E (pos k))) → ⊥
      outside k d s = one (sym (mod-eq_of_lt F.above_one) ∙ ap (λ x. x % suc q) (sym u-k)
          ∙ ap (λ (a : Below (suc q)). a.0) zero-k ∙ zero-mod (suc q))
        where
          one : ◌≡◌ {A = ℕ} 1 0 → ⊥
          one e = omega (arith, e)

          r : (c : ℕ → ℕ) × IsInSpan (suc q) t (λ j. entry (row E (pos k)) j + q * combination c (firsts k) j)
          r = in-span-append q t (firsts k) (entry (row E (pos k))) F.above_one s

          c : ℕ → ℕ
          c = r.0

          u : ℕ → ℕ
          u = update k 1 (masked k (λ i. q * c i))

          u-k : u k ≡ 1
          u-k = update_same k 1 (masked k (λ i. q * c i))

          u-before : (i : ℕ) → i < k → u i ≡ q * c i
          u-before i l = update_other k 1 (masked k (λ i. q * c i)) i
              (let x : i ≢ k = (λ e. absurd (omega (arith, l, e))) in x) ∙ masked-below k (λ i. q * c i) i l

          u-after : (i : ℕ) → suc k ≤ i → i < m → IsCongruent (suc q) (u i) 0
          u-after i l _ = congruent_eq (update_other k 1 (masked k (λ i. q * c i)) i
              (let x : i ≢ k = (λ e. absurd (omega (arith, l, e))) in x)
              ∙ masked-from k (λ i. q * c i) i (let y : k ≤ i = omega (arith, l) in y))

          sums : (j : ℕ) → combination u (firsts (suc k)) j ≡ entry (row E (pos k)) j + q * combination c
              (firsts k) j
          sums j = firsts-form q E Q.positions u (suc k) d j
              ∙ ap₂ ◌+◌ (sum_below-same k (λ i. u i * entry (row E (pos i)) j)
              (λ i. q * (c i * entry (row E (pos i)) j))
              (λ i l. ap (λ x. x * entry (row E (pos i)) j) (u-before i l)
              ∙ (let z : q * c i * entry (row E (pos i)) j ≡ q *
              (c i * entry (row E (pos i)) j) = omega arith in z))
              ∙ sum_below-mul k q (λ i. c i * entry (row E (pos i)) j)
              ∙ ap (λ x. q * x)
              (sym (firsts-form q E Q.positions c k (let y : k ≤ m = omega (arith, d) in y) j)))
              (ap (λ x. x * entry (row E (pos k)) j) u-k)
              ∙ (let z : q * combination c (firsts k) j + 1 * entry (row E (pos k)) j ≡ entry
              (row E (pos k)) j + q * combination c (firsts k) j = omega arith in z)

          in-t : IsInSpan (suc q) t (atT (combine T m rows (λ i. residue q (u i.0))))
          in-t = in_span_congruent (λ j. congruent_sym
              (congruent_trans (at-combine (λ i. residue q (u i.0)) u (λ i. congruent_mod (u i.0)) j)
              (congruent_trans (firsts-only q E Q.positions u (suc k) d u-after j)
              (congruent_eq (sums j))))) r.1

          zero-k : residue q (u k) ≡ residue q 0
          zero-k = independent (λ i. residue q (u i.0))
              (in-moved (combine T m rows (λ i. residue q (u i.0))) in-t) (k, d)

      -- a row that is not taken is in that span
      within : (x : ℕ) → x < length E → ((i : Below m) → pos i.0 ≢ x) → (k : ℕ) → k ≤ m
          → ((i : ℕ) → k ≤ i → i < m → x < pos i) → IsInSpan (suc q) (t ++ firsts k) (entry (row E x))
      within x d free k l after = in_span_congruent
          (λ j. minus-plus (entry (row E x) j) (combination e (firsts k) j))
          (in_span_add {f = λ j. entry (row E x) j + q * combination e (firsts k) j} {g = combination e
          (firsts k)} 1
          (in-left (suc q) t (firsts k) (λ j. entry (row E x) j + q * combination e (firsts k) j) in-t)
          (in-right (suc q) t (firsts k) (combination e (firsts k)) (in-combination (suc q) e (firsts k))))
        where
          s : P.of
          s = (K m).table (row Q.sections x)

          sums : Below m → Below (suc q)
          sums = block-sum q Γ m s

          e : ℕ → ℕ
          e = sequence sums

          e-after : (i : ℕ) → k ≤ i → i < m → IsCongruent (suc q) (e i) 0
          e-after i c h = congruent_trans
              (congruent_eq (sym (sequence-at sums (i, h))
              ∙ ap (λ (a : Below (suc q)). a.0) (C.sections_before x d free (i, h) (after i c h))))
              (congruent_mod 0)

          in-t : IsInSpan (suc q) t (λ j. entry (row E x) j + q * combination e (firsts k) j)
          in-t = in_span_congruent (λ j. congruent_trans
              (at-sub q Γ (n * b) T (K b) ((K b).table (row E x)) (combine T m rows sums) j)
              (congruent_add (congruent_eq (at-row x d j)) (congruent_mul_left q
              (congruent_trans (at-combine sums e (λ i. congruent_eq (sequence-at sums i)) j)
              (firsts-only q E Q.positions e k l e-after j)))))
              (moved-in-span _ (row-moved s x (C.sections_to_rows x d)))

      chosen : AreChosen q E Q.positions (moves Γ T (K b) E)
      unfolding t
      chosen = record { ascending = H.ascending; outside = outside; within = within }

      pub is-next : IsNextStage q Γ K b E Q
      unfolding t
      is-next = record {
        rows_are = subst (IsGreedyBelow (suc q) E (moves Γ T (K b) E) (length E)) (take-length Q.positions)
            (greedy q E Q.positions (moves Γ T (K b) E) chosen (length E) m (le_refl (length E)) (le_refl m)
            (λ i c. H.inside i c) (λ i c h. absurd (omega (arith, c, h))));
        kernel_is = record {
          matrix = H.kernel_rows;
          echelon = C.echelon;
          members = λ k d. (H.kernel_rows k d, C.kernel_to_zero k d);
          spans = λ y s. subst (λ z. IsInSpan (suc q) Q.kernel (entry z)) ((K m).row-table y s.0)
              (kernel-spans ((K m).table y) s.1);
        };
        section_count = H.section_count;
        section_rows = H.section_rows;
        sections_to_rows = C.sections_to_rows;
        zero_at_pivots = C.zero_at_pivots;
      }

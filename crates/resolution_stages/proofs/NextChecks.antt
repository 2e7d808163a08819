-- The parts of the next stage pass the six checks.
use Rattle.std.proofs.Common.{◌≡◌, ◌≢◌, ℕ, suc, ◌+◌, ◌*◌, ◌%◌, ◌<◌, ◌≤◌, ◌⊎◌, List, [], ◌∷◌, ◌++◌, length}
use Rattle.std.proofs.Common.{get_or, take, inl, inr, arith, ap, sym, ◌∙◌, refl}
use Rattle.std.proofs.lemmas.Bool.{cases_lt}
use Rattle.std.proofs.lemmas.List.{length-append}
use mathlib.Core.Path.{subst}
use Rattle.group_modules.specs.Module.{Term, Module, sub, lin}
use Rattle.group_modules.proofs.Laws.{sub-self, map-sub}
use Rattle.group_modules.specs.Field.{Below, residue}
use Rattle.linear_algebra.proofs.Residues.{below-path}
use Rattle.group_modules.specs.Tables.{Group, monoid, Table, terms, block-sum}
use Rattle.augmentation_ideal.specs.Radical.{Moved, IsSubmodule}
use Rattle.augmentation_ideal.specs.Generators.{combine, IsBasisModuloMoved}
use Rattle.augmentation_ideal.proofs.Generators.{kernel-minimal, same-coefficients, close-sym, close-trans}
use Rattle.linear_algebra.specs.Modular.{IsCongruent, IsFieldModulo}
use Rattle.linear_algebra.specs.Rows.{entry, row, combination, IsRow, IsInSpan}
use Rattle.linear_algebra.specs.Choices.{rows_at}
use Rattle.linear_algebra.proofs.Sums.{sum_below-same}
use Rattle.linear_algebra.proofs.Spans.{in_span_congruent, in_span_add}
use Rattle.linear_algebra.proofs.Congruences.{congruent_refl, congruent_add, congruent_trans, congruent_eq}
use Rattle.linear_algebra.proofs.Congruences.{congruent_sym, congruent_mod, congruent_mul_left}
use Rattle.radical_layers.specs.Coordinates.{Coordinates}
use Rattle.radical_layers.specs.Moves.{moves, IsEchelonFor}
use Rattle.radical_layers.specs.Layers.{RowIn}
use Rattle.resolution_stages.specs.Checks.{StageParts, HasShape, HasCount, PassesChecks, IsNextStage}
use Rattle.resolution_stages.specs.Checks.{chosen_row, del}
use Rattle.linear_algebra.proofs.GreedyChoice.{greedy-before, in-left, in-right}
use Rattle.radical_layers.proofs.Bridge.{at, at-sub, at-tabs, from-span, moved-from-span}
use Rattle.radical_layers.proofs.Basis.{in-span-append, basis}
use Rattle.augmentation_ideal.proofs.Nakayama.{times-in}
use Rattle.radical_layers.proofs.LayerForm.{size-at-most, size-at-least}
use Rattle.resolution_stages.proofs.Sequences.{masked, masked-below, masked-from}
use Rattle.resolution_stages.proofs.TakenRows.{firsts-form, firsts-only}
use Rattle.resolution_stages.proofs.CheckLaws.{members, spans, rows-in, at-combine}
use Rattle.resolution_stages.proofs.CheckLaws.{at-row, minus-plus, row-moved, sections-of, f-sections}
use Rattle.resolution_stages.proofs.CheckLaws.{W-matrix-of, W-independent-of, l}

module _ {n : ℕ} (q : ℕ) (F : IsFieldModulo (suc q)) (Γ : Group n) (K : Coordinates q Γ) (b : ℕ)
    (L : (Table q Γ b).of → Type 0) (U : IsSubmodule (Table q Γ b) L)
    (E : List (List ℕ)) (LE : IsEchelonFor (suc q) (n * b) (RowIn (K b) L) E) (Q : StageParts)
    (H : HasShape q Γ K b E Q) where
  abbrev m : ℕ
  m = length Q.positions

  abbrev T : Module (suc q) (monoid Γ)
  T = Table q Γ b

  abbrev P : Module (suc q) (monoid Γ)
  P = Table q Γ m

  abbrev rows : Below m → T.of
  rows = chosen_row q Γ K b E Q

  abbrev f : P.of → T.of
  f u = del q Γ K b E Q u

  abbrev pos : ℕ → ℕ
  pos i = get_or Q.positions i 0

  abbrev R : List (List ℕ)
  R = rows_at E Q.positions

  -- rows of T and of P
  abbrev atT : T.of → ℕ → ℕ
  atT v j = at q Γ (n * b) T (K b) v j

  abbrev atP : P.of → ℕ → ℕ
  atP v j = at q Γ (n * m) P (K m) v j

  abbrev firsts : ℕ → List (List ℕ)
  firsts k = rows_at E (take k Q.positions)

  -- the parts of the next stage pass the checks
  module _ (N : IsNextStage q Γ K b E Q) where
    next-basis : IsBasisModuloMoved T L m rows
    next-basis = basis q F Γ (n * b) T (K b) L E LE.matrix (members q F Γ K b L U E LE Q H)
        (spans q F Γ K b L U E LE Q H) Q.positions N.rows_are m refl

    before-zero : (x : ℕ) → x < length E → ((i : Below m) → pos i.0 ≢ x) → (i : Below m) → x < pos i.0
        → block-sum q Γ m ((K m).table (row Q.sections x)) i ≡ residue q 0
    before-zero x d free i l = go (greedy-before (suc q) E (moves Γ T (K b) E)
        (length E) Q.positions N.rows_are x d (λ k c. free (k, c)))
      where
        go : (k : ℕ) × (k ≤ m) × IsInSpan (suc q) (moves Γ T (K b) E ++ firsts k) (entry (row E x))
            × ((i : ℕ) → i < k → pos i < x)
            → block-sum q Γ m ((K m).table (row Q.sections x)) i ≡ residue q 0
        go r = ap (λ c. c i) same ∙ below-path _ _ (ap (λ y. y % suc q) (masked-from r.0 u i.0 far))
          where
            k : ℕ
            k = r.0

            s : (c : ℕ → ℕ) × IsInSpan (suc q) (moves Γ T (K b) E)
                (λ j. entry (row E x) j + q * combination c (firsts k) j)
            s = in-span-append q (moves Γ T (K b) E) (firsts k) (entry (row E x)) F.above_one r.2

            u : ℕ → ℕ
            u = s.0

            far : k ≤ i.0
            far = at (cases_lt i.0 k)
              where
                at : (i.0 < k) ⊎ (k ≤ i.0) → k ≤ i.0
                at (inr c) = c
                at (inl c) = absurd (let z : pos i.0 < x = r.3 i.0 c in omega (arith, z, l))

            c : Below m → Below (suc q)
            c i = residue q (masked k u i.0)

            v : T.of
            v = (K b).table (row E x)

            close-c : Moved T L (sub T v (combine T m rows c))
            close-c = moved-from-span q Γ (n * b) T (K b) L E LE.matrix (members q F Γ K b L U E LE Q H)
                (spans q F Γ K b L U E LE Q H) (sub T v (combine T m rows c))
                (in_span_congruent (λ j. congruent_sym
                (congruent_trans (at-sub q Γ (n * b) T (K b) v (combine T m rows c) j)
                (congruent_add (congruent_eq ((at-row q F Γ K b L U E LE Q H) x d j)) (congruent_mul_left q
                (congruent_trans ((at-combine q F Γ K b L U E LE Q H) c (masked k u)
                (λ i. congruent_mod (masked k u i.0)) j)
                (congruent_trans ((firsts-only q E Q.positions) (masked k u) k r.1
                (λ i a h. congruent_eq (masked-from k u i a)) j)
                (congruent_eq ((firsts-form q E Q.positions) (masked k u) k r.1 j
                ∙ sum_below-same k (λ i. masked k u i * entry (row E (pos i)) j)
                (λ i. u i * entry (row E (pos i)) j)
                (λ i a. ap (λ y. y * entry (row E (pos i)) j) (masked-below k u i a))
                ∙ sym ((firsts-form q E Q.positions) u k r.1 j))))))))) s.1)

            same : block-sum q Γ m ((K m).table (row Q.sections x)) ≡ c
            same = same-coefficients q Γ T L m rows next-basis
                (block-sum q Γ m ((K m).table (row Q.sections x))) c
                (close-trans T L (combine T m rows (block-sum q Γ m ((K m).table (row Q.sections x)))) v
                (combine T m rows c) (close-sym T L v
                (combine T m rows (block-sum q Γ m ((K m).table (row Q.sections x))))
                ((row-moved q F Γ K b L U E LE Q H) ((K m).table (row Q.sections x)) x
                (N.sections_to_rows x d))) close-c)

    pub passes : PassesChecks q Γ K b E Q
    passes = record {
      echelon = N.kernel_is.echelon;
      kernel_to_zero = λ k d. (N.kernel_is.members k d).1;
      sections_to_rows = N.sections_to_rows;
      zero_at_pivots = N.zero_at_pivots;
      kernel_minimal = λ k d. kernel-minimal q Γ T L m rows next-basis ((K m).table (row Q.kernel k))
          (N.kernel_is.members k d).1;
      sections_before = before-zero;
    }

    -- and the kernel has the dimension that is left
    value-in : (ts : List (Term (monoid Γ) (Below m))) → L (lin T rows ts)
    value-in [] = U.zero-in
    value-in (x ∷ ts) = U.add-in _ _ (times-in T L U x.coef _
        (U.act-in x.elem _ ((rows-in q F Γ K b L U E LE Q H) x.base))) (value-in ts)

    both-span : (x : List ℕ) → IsRow (suc q) (n * m) x → IsInSpan (suc q) (Q.kernel ++ Q.sections) (entry x)
    both-span x d = go ((spans q F Γ K b L U E LE Q H) (f u) (value-in (terms q Γ m u)))
      where
        u : P.of
        u = (K m).table x

        go : IsInSpan (suc q) E (atT (f u)) → IsInSpan (suc q) (Q.kernel ++ Q.sections) (entry x)
        go s = in_span_congruent (λ j. back (entry x j) (atP s' j) (atP rest j) (congruent-at j))
            (in_span_add {f = atP rest} {g = atP s'} 1
            (in-left (suc q) Q.kernel Q.sections (atP rest)
            (subst (λ y. IsInSpan (suc q) Q.kernel (entry y))
            ((K m).row-table ((K m).row rest) ((K m).row-is rest)) rest-in))
            (in-right (suc q) Q.kernel Q.sections (atP s') (
              s.0,
              record {
                each = λ j. congruent_sym
                    (at-tabs q Γ (n * m) P (K m) Q.sections H.section_rows s.0 (length E)
                    (sym H.section_count) j);
              },
            )))
          where
            s' : P.of
            s' = sections-of q F Γ K b L U E LE Q H passes s.0

            rest : P.of
            rest = sub P u s'

            rest-zero : f rest ≡ T.zero
            rest-zero = map-sub P T f (l q F Γ K b L U E LE Q H passes).on-add u s'
                ∙ ap (sub T (f u)) (f-sections q F Γ K b L U E LE Q H passes s.0
                ∙ sym (from-span q Γ (n * b) T (K b) E LE.matrix s.0 (f u) s.1)) ∙ sub-self T (f u)

            rest-in : IsInSpan (suc q) Q.kernel (entry ((K m).row ((K m).table ((K m).row rest))))
            rest-in = subst (λ w. IsInSpan (suc q) Q.kernel (atP w)) (sym ((K m).table-row rest))
                (N.kernel_is.spans ((K m).row rest) (
                  (K m).row-is rest,
                  subst (λ w. f w ≡ T.zero) (sym ((K m).table-row rest)) rest-zero,
                ))

            congruent-at : (j : ℕ) → IsCongruent (suc q) (atP rest j) (entry x j + q * atP s' j)
            congruent-at j = congruent_trans (at-sub q Γ (n * m) P (K m) u s' j)
                (congruent_eq (ap (λ y. entry y j + q * atP s' j) ((K m).row-table x d)))

            back : (a c e : ℕ) → IsCongruent (suc q) e (a + q * c) → IsCongruent (suc q) (e + 1 * c) a
            back a c e h = congruent_trans (congruent_add h (congruent_refl (1 * c)))
                ((minus-plus q F Γ K b L U E LE Q H) a c)

    pub next-count : HasCount q Γ K b E Q
    next-count = sym (length-append-count)
        ∙ both (size-at-most F (n * m) (Q.kernel ++ Q.sections) (W-matrix-of q F Γ K b L U E LE Q H passes)
        (W-independent-of q F Γ K b L U E LE Q H passes))
        (size-at-least F (n * m) (Q.kernel ++ Q.sections) both-span)
      where
        length-append-count : length (Q.kernel ++ Q.sections) ≡ length Q.kernel + length E
        length-append-count = length-append Q.kernel Q.sections
            ∙ ap (λ k. length Q.kernel + k) H.section_count

        both : {x y : ℕ} → x ≤ y → y ≤ x → x ≡ y
        both u v = omega (arith, u, v)

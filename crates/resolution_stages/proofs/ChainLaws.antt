-- The stages of a group exist in every degree and are one; parts that follow each other are theirs.
use Rattle.std.proofs.Common.{◌≡◌, ℕ, zero, suc, ◌+◌, ◌*◌, ◌<◌, ◌⊎◌, List, [], ◌∷◌, ◌++◌, length, map, get_or}
use Rattle.std.proofs.Common.{inl, inr, arith, ap, ap₂, sym, ◌∙◌, refl}
use Rattle.std.proofs.lemmas.Bool.{cases_eq}
use Rattle.std.proofs.lemmas.List.{length-map, get_or-map}
use mathlib.Core.Path.{subst, fun_ext}
use Rattle.group_modules.specs.Field.{Below, residue, Fp}
use Rattle.linear_algebra.proofs.Residues.{below-path}
use Rattle.group_modules.specs.Tables.{Group, monoid, Table, block-sum}
use Rattle.group_modules.specs.Resolutions.{rank}
use Rattle.augmentation_ideal.specs.Claims.{IsPrimePower}
use Rattle.linear_algebra.specs.Modular.{IsFieldModulo}
use Rattle.linear_algebra.specs.Rows.{row}
use Rattle.linear_algebra.proofs.EchelonLists.{same_echelon}
use Rattle.radical_layers.specs.Coordinates.{Coordinates}
use Rattle.resolution_stages.specs.Definitions.{StageRows, RowInKernel, IsSectionAt, AreStages}
use Rattle.radical_layers.specs.Moves.{IsEchelonFor}
use Rattle.resolution_stages.specs.Checks.{StageParts, IsSubmoduleList, IsNextStage}
use Rattle.resolution_stages.specs.Chain.{section_row, parts_of, parts_from, end_rank, end_list, IsFirstList}
use Rattle.resolution_stages.specs.Chain.{IsChain, AreSameStages, StageClaims}
use Rattle.radical_layers.proofs.Existence.{list-exists}
use Rattle.resolution_stages.proofs.NextExists.{next-exists}
use Rattle.resolution_stages.proofs.NextList.{next-list, first-list}
use Rattle.resolution_stages.proofs.SectionSum.{value-is_row, value-zero, value-boundary, values-one}
use Rattle.resolution_stages.proofs.Unique.{next-is-one}
use Rattle.resolution_stages.proofs.FromDefinitions.{kernel-submodule}
use Rattle.radical_layers.proofs.Blocks.{block-is-linear}

-- the kernel lists of parts
abbrev pub list-of : List (List ℕ) → (ℕ → StageParts) → ℕ → List (List ℕ)
list-of first parts zero = first
list-of first parts (suc d) = (parts d).kernel

module _ {n : ℕ} (q : ℕ) (F : IsFieldModulo (suc q)) (Γ : Group n) (K : Coordinates q Γ) where
  module _ (first : List (List ℕ)) (parts : ℕ → StageParts) where
    -- the stages with these parts
    abbrev pub made : StageRows
    made = record {
      ranks = λ d. length (parts d).positions;
      kernel = list-of first parts;
      positions = λ d. (parts d).positions;
      section = λ d x. section_row (suc q) (n * length (parts d).positions) (list-of first parts d)
          (parts d).sections x;
    }

    abbrev pub b : ℕ → ℕ
    b d = rank q Γ (λ d. length (parts d).positions) d

    module _ (first-is : IsFirstList q Γ K first) (next : (d : ℕ)
        → IsNextStage q Γ K (b d) (list-of first parts d) (parts d)) where
      kernel-is : (d : ℕ) → IsEchelonFor (suc q) (n * b d) (RowInKernel q Γ K made d) (list-of first parts d)
      kernel-is zero = first-is
      kernel-is (suc d) = (next d).kernel_is

      section-is : (d : ℕ) (x : List ℕ) → RowInKernel q Γ K made d x
          → IsSectionAt q Γ K made d x (made.section d x)
      section-is d x h = record {
        is_row = value-is_row q F Γ K (b d) (list-of first parts d) (kernel-is d).matrix (kernel-is d).echelon
            (parts d) (next d) x h.0 ((kernel-is d).spans x h);
        boundary_is = value-boundary q F Γ K (b d) (list-of first parts d) (kernel-is d).matrix
            (kernel-is d).echelon (parts d) (next d) x h.0 ((kernel-is d).spans x h);
        zero_at_pivots = value-zero q F Γ K (b d) (list-of first parts d) (kernel-is d).matrix
            (kernel-is d).echelon (parts d) (next d) x h.0 ((kernel-is d).spans x h);
      }

      -- from next stages to the stages
      pub made-are : AreStages q Γ K made
      made-are = record {
        kernel_is = kernel-is;
        rows_are = λ d. (next d).rows_are;
        rank_is = λ d. refl;
        section_is = section-is;
      }

  -- with the lengths of the positions as ranks
  abbrev normal : StageRows → StageRows
  normal S = record {
    ranks = λ d. length (S.positions d);
    kernel = S.kernel;
    positions = S.positions;
    section = S.section;
  }

  normal-is : (S : StageRows) → AreStages q Γ K S → S ≡ normal S
  normal-is S A = ap (λ r. with-ranks r) (fun_ext A.rank_is)
    where
      with-ranks : (ℕ → ℕ) → StageRows
      with-ranks r = record { ranks = r; kernel = S.kernel; positions = S.positions; section = S.section }

  abbrev rk : StageRows → ℕ → ℕ
  rk S d = rank q Γ (λ d. length (S.positions d)) d

  module _ (S : StageRows) (A : AreStages q Γ K (normal S)) where
    -- row i of the table of sections
    section-row : (d i : ℕ) → i < length (S.kernel d)
        → row (map (S.section d) (S.kernel d)) i ≡ S.section d (row (S.kernel d) i)
    section-row d i l = get_or-map (S.section d) (S.kernel d) i [] [] l

    at-row : (d i : ℕ) → i < length (S.kernel d)
        → IsSectionAt q Γ K (normal S) d (row (S.kernel d) i) (row (map (S.section d) (S.kernel d)) i)
    at-row d i l = subst (IsSectionAt q Γ K (normal S) d (row (S.kernel d) i)) (sym (section-row d i l))
        (A.section_is d (row (S.kernel d) i) ((A.kernel_is d).members i l))

    -- the parts of stages are the next stage
    pub next-of : (d : ℕ) → IsNextStage q Γ K (rk S d) (S.kernel d) (parts_of S d)
    next-of d = record {
      rows_are = A.rows_are d;
      kernel_is = A.kernel_is (suc d);
      section_count = length-map (S.kernel d) (S.section d);
      section_rows = λ i l. (at-row d i (subst (λ k. i < k)
          (length-map (S.kernel d) (S.section d)) l)).is_row;
      sections_to_rows = λ i l. (at-row d i l).boundary_is;
      zero_at_pivots = λ i j l m. (at-row d i l).zero_at_pivots j m;
    }

    first-one : (E : List (List ℕ)) → IsFirstList q Γ K E → E ≡ S.kernel 0
    first-one E e = same_echelon F.above_one E (S.kernel 0) e.matrix (A.kernel_is 0).matrix e.echelon
        (A.kernel_is 0).echelon
        (λ i l. e.spans (row (S.kernel 0) i) ((A.kernel_is 0).members i l))
        (λ i l. (A.kernel_is 0).spans (row E i) (e.members i l))

    -- parts that follow the kernel of degree d
    follow : (Qs : List StageParts) (d r : ℕ) (E : List (List ℕ)) → r ≡ rk S d → E ≡ S.kernel d
        → IsChain q Γ K r E Qs
        → (Qs ≡ parts_from S d (length Qs)) × (end_rank r Qs ≡ rk S (length Qs + d))
        × (end_list E Qs ≡ S.kernel (length Qs + d))
    follow [] d r E e f h = (
      refl,
      e ∙ ap (rk S) (let z : d ≡ 0 + d = omega arith in z),
      f
          ∙ ap S.kernel (let z : d ≡ 0 + d = omega arith in z),
    )
    follow (Q ∷ Qs) d r E e f h = step (follow Qs (suc d) (length Q.positions) Q.kernel
        (ap (λ (X : StageParts). length X.positions) same) (ap (λ (X : StageParts). X.kernel) same) h.1)
      where
        moved : IsNextStage q Γ K (rk S d) (S.kernel d) Q
        moved = subst (λ X. IsNextStage q Γ K (rk S d) X Q) f (subst (λ k. IsNextStage q Γ K k E Q) e h.0)

        same : Q ≡ parts_of S d
        same = next-is-one q F Γ K (rk S d) (S.kernel d) Q (parts_of S d) moved (next-of d)

        step : (Qs ≡ parts_from S (suc d) (length Qs))
            × (end_rank (length Q.positions) Qs ≡ rk S (length Qs + suc d))
            × (end_list Q.kernel Qs ≡ S.kernel (length Qs + suc d))
            → (Q ∷ Qs ≡ parts_from S d (suc (length Qs)))
            × (end_rank (length Q.positions) Qs ≡ rk S (suc (length Qs) + d))
            × (end_list Q.kernel Qs ≡ S.kernel (suc (length Qs) + d))
        step t = (ap₂ ◌∷◌ same t.0, t.1 ∙ ap (rk S) shift, t.2 ∙ ap S.kernel shift)
          where
            shift : length Qs + suc d ≡ suc (length Qs) + d
            shift = omega arith

    part-at : (c d i : ℕ) (Q : StageParts) → i < c → get_or (parts_from S d c) i Q ≡ parts_of S (i + d)
    part-at zero d i Q l = absurd (omega (arith, l))
    part-at (suc c) d zero Q l = ap (parts_of S) (let z : d ≡ 0 + d = omega arith in z)
    part-at (suc c) d (suc i) Q l = part-at c (suc d) i Q (let z : i < c = omega (arith, l) in z)
        ∙ ap (parts_of S) (let z : i + suc d ≡ suc i + d = omega arith in z)

    chains : (c d : ℕ) → IsChain q Γ K (rk S d) (S.kernel d) (parts_from S d c)
    chains zero d = tt
    chains (suc c) d = (next-of d, chains c (suc d))

    by-table : (d : ℕ) (x : List ℕ) → RowInKernel q Γ K (normal S) d x
        → S.section d x ≡ section_row (suc q) (n * length (S.positions d)) (S.kernel d)
        (map (S.section d) (S.kernel d)) x
    by-table d x h = values-one q F Γ K (rk S d) (S.kernel d) (A.kernel_is d).matrix (A.kernel_is d).echelon
        (parts_of S d) (next-of d)
        (S.section d x) (section_row (suc q) (n * length (S.positions d)) (S.kernel d)
        (map (S.section d) (S.kernel d)) x)
        (A.section_is d x h).is_row (value-is_row q F Γ K (rk S d) (S.kernel d) (A.kernel_is d).matrix
        (A.kernel_is d).echelon (parts_of S d) (next-of d) x h.0 ((A.kernel_is d).spans x h))
        ((A.section_is d x h).boundary_is
        ∙ sym (value-boundary q F Γ K (rk S d) (S.kernel d) (A.kernel_is d).matrix (A.kernel_is d).echelon
        (parts_of S d) (next-of d) x h.0 ((A.kernel_is d).spans x h)))
        (A.section_is d x h).zero_at_pivots
        (value-zero q F Γ K (rk S d) (S.kernel d) (A.kernel_is d).matrix (A.kernel_is d).echelon
        (parts_of S d) (next-of d) x h.0 ((A.kernel_is d).spans x h))

  module _ (S S' : StageRows) (A : AreStages q Γ K (normal S)) (A' : AreStages q Γ K (normal S')) where
    same-parts : (d : ℕ) → rk S d ≡ rk S' d → S.kernel d ≡ S'.kernel d → parts_of S d ≡ parts_of S' d
    same-parts d e f = next-is-one q F Γ K (rk S' d) (S'.kernel d) (parts_of S d) (parts_of S' d)
        (subst (λ X. IsNextStage q Γ K (rk S' d) X (parts_of S d)) f
        (subst (λ k. IsNextStage q Γ K k (S.kernel d) (parts_of S d)) e (next-of S A d)))
        (next-of S' A' d)

    same-at : (d : ℕ) → (rk S d ≡ rk S' d) × (S.kernel d ≡ S'.kernel d)
    same-at zero = (refl, first-one S' A' (S.kernel 0) (A.kernel_is 0))
    same-at (suc d) = go (same-at d)
      where
        go : (rk S d ≡ rk S' d) × (S.kernel d ≡ S'.kernel d) → (rk S (suc d) ≡ rk S' (suc d))
            × (S.kernel (suc d) ≡ S'.kernel (suc d))
        go h = (
          ap (λ (X : StageParts). length X.positions) (same-parts d h.0 h.1),
          ap (λ (X : StageParts). X.kernel) (same-parts d h.0 h.1),
        )

    parts-same : (d : ℕ) → parts_of S d ≡ parts_of S' d
    parts-same d = let h : (rk S d ≡ rk S' d) × (S.kernel d ≡ S'.kernel d) = same-at d in same-parts d h.0 h.1

    same-ranks : ◌≡◌ {A = ℕ → ℕ} (λ d. length (S.positions d)) (λ d. length (S'.positions d))
    same-ranks = fun_ext (λ d. ap (λ (X : StageParts). length X.positions) (parts-same d))

    same-kernels : S.kernel ≡ S'.kernel
    same-kernels = fun_ext (λ d. (same-at d).1)

    same-positions : S.positions ≡ S'.positions
    same-positions = fun_ext (λ d. ap (λ (X : StageParts). X.positions) (parts-same d))

    -- the kernels of S are those of S'
    in-kernel : (d : ℕ) (x : List ℕ) → RowInKernel q Γ K (normal S) d x → RowInKernel q Γ K (normal S') d x
    in-kernel d x h = subst (λ s. RowInKernel q Γ K (shape s) d x) same-shape h
      where
        shape : (ℕ → List (List ℕ)) × (ℕ → List ℕ) → StageRows
        shape s = record { ranks = λ d. length (s.1 d); kernel = s.0; positions = s.1; section = λ d x. x }

        same-shape : ◌≡◌ {A = (ℕ → List (List ℕ))
            × (ℕ → List ℕ)} (S.kernel, S.positions) (S'.kernel, S'.positions)
        same-shape = ap₂ (λ a b. (a, b)) same-kernels same-positions

    pub same-stages : AreSameStages q Γ K (normal S) (normal S')
    same-stages = record {
      ranks = λ d. ap (λ (X : StageParts). length X.positions) (parts-same d);
      kernel = λ d. (same-at d).1;
      positions = λ d. ap (λ (X : StageParts). X.positions) (parts-same d);
      section = λ d x h. by-table S A d x h
          ∙ ap₂ (λ (e : List (List ℕ)) (X : StageParts). section_row (suc q)
          (n * length X.positions) e X.sections x) (same-at d).1 (parts-same d)
          ∙ sym (by-table S' A' d x (in-kernel d x h));
    }

  -- what holds of any stages
  pub stage-claims : (S : StageRows) → AreStages q Γ K S → StageClaims q Γ K S
  stage-claims S A = subst (λ X. StageClaims q Γ K X) (sym (normal-is S A))
      (claims S (subst (λ X. AreStages q Γ K X) (normal-is S A) A))
    where
      claims : (S : StageRows) → AreStages q Γ K (normal S) → StageClaims q Γ K (normal S)
      claims S B = record {
        are = B;
        by_table = by-table S B;
        one = λ S' A'. subst (λ X. AreSameStages q Γ K (normal S) X) (sym (normal-is S' A'))
            (same-stages S S' B (subst (λ X. AreStages q Γ K X) (normal-is S' A') A'));
        first_list = first-one S B;
        chain = λ E Qs e h. let t : (Qs ≡ parts_from S 0 (length Qs)) × (end_rank 1 Qs ≡ rk S (length Qs + 0))
            × (end_list E Qs ≡ S.kernel (length Qs + 0)) = follow S B Qs 0 1 E refl (first-one S B E e) h in (
              t.0,
              t.1 ∙ ap (rk S) (let z : length Qs + 0 ≡ length Qs = omega arith in z),
              t.2
                  ∙ ap S.kernel (let z : length Qs + 0 ≡ length Qs = omega arith in z),
            );
        chain_at = λ E Qs e h i Q l. let t : (Qs ≡ parts_from S 0 (length Qs))
            × (end_rank 1 Qs ≡ rk S (length Qs + 0)) × (end_list E Qs ≡ S.kernel (length Qs + 0)) =
            follow S B Qs 0 1 E refl (first-one S B E e) h in
            ap (λ Xs. get_or Xs i Q) t.0 ∙ part-at S B (length Qs) 0 i Q l
            ∙ ap (parts_of S) (let z : i + 0 ≡ i = omega arith in z);
        chains = λ c. chains S B c 0;
      }

  -- the list of K_0
  pub first-exists : (E : List (List ℕ)) × IsFirstList q Γ K E
  first-exists = list-exists q F Γ (n * 1) (Table q Γ 1) (K 1)
      (λ v. block-sum q Γ 1 v (residue 0 0) ≡ residue q 0)
      (kernel-submodule (Table q Γ 1) (Fp q (monoid Γ)) (λ v. block-sum q Γ 1 v (residue 0 0))
      (block-is-linear q Γ 1 (residue 0 0)))
      (λ v. same-below (block-sum q Γ 1 v (residue 0 0)) (residue q 0))
    where
      same-below : (x y : Below (suc q)) → (x ≡ y) ⊎ (x ≡ y → ⊥)
      same-below x y = go (cases_eq x.0 y.0)
        where
          go : (x.0 ≡ y.0) ⊎ (x.0 ≡ y.0 → ⊥) → (x ≡ y) ⊎ (x ≡ y → ⊥)
          go (inl e) = inl (below-path x y e)
          go (inr d) = inr (λ e. d (ap (λ (z : Below (suc q)). z.0) e))

  -- a chain can be continued
  pub chain-push : (Qs : List StageParts) (r : ℕ) (E : List (List ℕ)) (Q : StageParts) → IsChain q Γ K r E Qs
      → IsNextStage q Γ K (end_rank r Qs) (end_list E Qs) Q
      → IsChain q Γ K r E (Qs ++ Q ∷ [])
  chain-push [] r E Q h N = (N, tt)
  chain-push (X ∷ Qs) r E Q h N = (h.0, chain-push Qs (length X.positions) X.kernel Q h.1 N)

  -- after a chain the next step can be taken
  chain-end-from : (Qs : List StageParts) (r : ℕ) (E : List (List ℕ)) → IsSubmoduleList q Γ K r E
      → IsChain q Γ K r E Qs → IsSubmoduleList q Γ K (end_rank r Qs) (end_list E Qs)
  chain-end-from [] r E U h = U
  chain-end-from (Q ∷ Qs) r E U h = chain-end-from Qs (length Q.positions) Q.kernel
      (next-list q Γ K r E Q h.0) h.1

  pub chain-end : (E : List (List ℕ)) (Qs : List StageParts) → IsFirstList q Γ K E → IsChain q Γ K 1 E Qs
      → IsSubmoduleList q Γ K (end_rank 1 Qs) (end_list E Qs)
  chain-end E Qs e h = chain-end-from Qs 1 E (first-list q Γ K E e) h

  module _ (P : IsPrimePower q n) where
    -- a list from which the next step can be taken
    record Ready : Type 0 where
      width-of : ℕ
      list-is : List (List ℕ)
      ready : IsSubmoduleList q Γ K width-of list-is

    abbrev next-parts : (R : Ready) → (Q : StageParts) × IsNextStage q Γ K R.width-of R.list-is Q
    next-parts R = next-exists q F P Γ K R.width-of R.list-is R.ready

    abbrev after-of : Ready → Ready
    after-of R = record {
      width-of = length (next-parts R).0.positions;
      list-is = (next-parts R).0.kernel;
      ready = next-list q Γ K R.width-of R.list-is (next-parts R).0 (next-parts R).1;
    }

    abbrev steps : Ready → ℕ → Ready
    steps R zero = R
    steps R (suc d) = after-of (steps R d)

    -- the stages exist in every degree
    pub stages-exist : (S : StageRows) × AreStages q Γ K S
    stages-exist = go first-exists
      where
        go : (E : List (List ℕ)) × IsFirstList q Γ K E → (S : StageRows) × AreStages q Γ K S
        go E = (
          made E.0 (λ d. (next-parts (steps start d)).0),
          made-are E.0 (λ d. (next-parts (steps start d)).0) E.1 next,
        )
          where
            start : Ready
            start = record { width-of = 1; list-is = E.0; ready = first-list q Γ K E.0 E.1 }

            next : (d : ℕ) → IsNextStage q Γ K (b E.0 (λ d. (next-parts (steps start d)).0) d)
                (list-of E.0 (λ d. (next-parts (steps start d)).0) d) (next-parts (steps start d)).0
            next zero = (next-parts start).1
            next (suc d) = (next-parts (steps start (suc d))).1

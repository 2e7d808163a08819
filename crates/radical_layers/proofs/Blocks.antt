-- The sums of the blocks of a table are linear, and a table with given sums.
use Rattle.std.proofs.Common.{◌≡◌, ◌≢◌, ℕ, suc, ◌⊎◌, true, false, eqb, eq-eqb, inl, inr, ap, ap₂, sym, ◌∙◌}
use Rattle.std.proofs.Common.{refl}
use Rattle.std.proofs.lemmas.Bool.Decides.{eqb_tells}
use mathlib.Core.Path.{subst, fun_ext}
use Rattle.group_modules.specs.Module.{Module, sub, times, lin, IsLinear}
use Rattle.group_modules.proofs.Laws.{sub-self, map-zero, map-sub, map-times, times-zero}
use Rattle.group_modules.specs.Field.{Below, residue, Fp}
use Rattle.linear_algebra.proofs.Residues.{times-one, residue-self}
use Rattle.group_modules.specs.Tables.{Group, monoid, Table, terms, unit, mark, part, block-sum}
use Rattle.group_modules.proofs.TermLaws.{lin-terms}
use Rattle.group_modules.proofs.MapLaws.{terms-linear, terms-unit, total-times}
use Rattle.group_modules.specs.Sums.{total, below}
use Rattle.group_modules.proofs.SumLaws.{total-only, map-total}
use Rattle.augmentation_ideal.specs.Radical.{Moved, none, both, moved}
use Rattle.augmentation_ideal.specs.Generators.{combine}

module _ {n : ℕ} (q : ℕ) (Γ : Group n) (m : ℕ) where
  abbrev N : Module (suc q) (monoid Γ)
  N = Fp q (monoid Γ)

  abbrev pub P : Module (suc q) (monoid Γ)
  P = Table q Γ m

  -- 1 at i
  abbrev delta : Below m → Below m → Below (suc q)
  delta i j = mark q Γ (eqb j.0 i.0)

  delta-off : (i j : Below m) → j.0 ≢ i.0 → delta i j ≡ residue q 0
  delta-off i j h = go (eqb_tells j.0 i.0)
    where
      go : ((eqb j.0 i.0 ≡ true) × (j.0 ≡ i.0)) ⊎ ((eqb j.0 i.0 ≡ false) × (j.0 ≢ i.0))
          → delta i j ≡ residue q 0
      go (inl k) = absurd (h k.1)
      go (inr k) = ap (λ t. mark q Γ t) k.0

  delta-on : (i : Below m) → delta i i ≡ residue q 1
  delta-on i = ap (λ t. mark q Γ t) (eq-eqb i.0 i.0 refl)

  -- the sum of block i by a linear extension
  block-linear : (i : Below m) (v : P.of) → lin N (delta i) (terms q Γ m v) ≡ block-sum q Γ m v i
  block-linear i v =
      lin-terms q Γ N m (delta i) v (below m)
      ∙ total-only N m (λ j. total N (below n) (part q Γ N m (delta i) v j)) i
      (λ j h. total-times q Γ N (below n) (v j) (delta i j)
      ∙ ap (times N.add N.zero (block-sum q Γ m v j).0) (delta-off i j h)
      ∙ times-zero N (block-sum q Γ m v j).0)
      ∙ total-times q Γ N (below n) (v i) (delta i i)
      ∙ ap (times N.add N.zero (block-sum q Γ m v i).0) (delta-on i)
      ∙ times-one q (block-sum q Γ m v i).0 ∙ residue-self q (block-sum q Γ m v i)

  pub block-is-linear : (i : Below m) → IsLinear P N (λ v. block-sum q Γ m v i)
  block-is-linear i = subst (IsLinear P N) (fun_ext (block-linear i)) (terms-linear q Γ m N (delta i))

  -- the table with sums c
  abbrev pub spread : (Below m → Below (suc q)) → P.of
  spread c = combine P m (unit q Γ m) c

  pub block-spread : (c : Below m → Below (suc q)) (i : Below m) → block-sum q Γ m (spread c) i ≡ c i
  block-spread c i =
      map-total P N (λ v. block-sum q Γ m v i) (block-is-linear i).on-add (below m)
      (λ j. times P.add P.zero (c j).0 (unit q Γ m j))
      ∙ ap (total N (below m)) (fun_ext (λ j. map-times P N (λ v. block-sum q Γ m v i)
      (block-is-linear i).on-add (c j).0 (unit q Γ m j)
      ∙ ap (times N.add N.zero (c j).0) (sym (block-linear i (unit q Γ m j))
      ∙ terms-unit q Γ m N (delta i) j)))
      ∙ total-only N m (λ j. times N.add N.zero (c j).0 (delta i j)) i
      (λ j h. ap (times N.add N.zero (c j).0) (delta-off i j h) ∙ times-zero N (c j).0)
      ∙ ap (times N.add N.zero (c i).0) (delta-on i) ∙ times-one q (c i).0 ∙ residue-self q (c i)

  module _ (T : Module (suc q) (monoid Γ)) (rows : Below m → T.of) where
    abbrev pub f : P.of → T.of
    f u = lin T rows (terms q Γ m u)

    pub f-linear : IsLinear P T f
    f-linear = terms-linear q Γ m T rows

    pub f-spread : (c : Below m → Below (suc q)) → f (spread c) ≡ combine T m rows c
    f-spread c = map-total P T f f-linear.on-add (below m) (λ j. times P.add P.zero (c j).0 (unit q Γ m j))
        ∙ ap (total T (below m)) (fun_ext (λ j. map-times P T f f-linear.on-add (c j).0 (unit q Γ m j)
        ∙ ap (times T.add T.zero (c j).0) (terms-unit q Γ m T rows j)))

    -- where f is onto L, a member of the span of all (g - 1) v with v in L is the value at a table whose
    -- blocks have sum 0
    pub moved-value : (L : T.of → Type 0) → ((v : T.of) → L v → (u : P.of) × (f u ≡ v)) → (y : T.of)
        → Moved T L y
        → (x : P.of) × (f x ≡ y) × ((i : Below m) → block-sum q Γ m x i ≡ residue q 0)
    moved-value L onto y none = (
      P.zero,
      map-zero P T f f-linear.on-add,
      λ i. map-zero P N (λ v. block-sum q Γ m v i) (block-is-linear i).on-add,
    )
    moved-value L onto y (both {x = a} {y = b} h k) = join (moved-value L onto a h) (moved-value L onto b k)
      where
        join : (x : P.of) × (f x ≡ a) × ((i : Below m) → block-sum q Γ m x i ≡ residue q 0) → (x : P.of)
            × (f x ≡ b) × ((i : Below m) → block-sum q Γ m x i ≡ residue q 0)
            → (x : P.of) × (f x ≡ T.add a b) × ((i : Below m) → block-sum q Γ m x i ≡ residue q 0)
        join r s = (
          P.add r.0 s.0,
          f-linear.on-add r.0 s.0
              ∙ ap₂ T.add r.1 s.1,
          λ i. (block-is-linear i).on-add r.0 s.0 ∙ ap₂ N.add (r.2 i) (s.2 i)
              ∙ N.add-zero N.zero,
        )
    moved-value L onto y (moved g v k) =
        let r : (u : P.of) × (f u ≡ v) = onto v k in (
          sub P (P.act g r.0) r.0,
          map-sub P T f f-linear.on-add (P.act g r.0) r.0
              ∙ ap₂ (sub T) (f-linear.on-act g r.0 ∙ ap (T.act g) r.1) r.1,
          λ i. map-sub P N (λ v. block-sum q Γ m v i) (block-is-linear i).on-add (P.act g r.0) r.0
              ∙ ap (λ w. sub N w (block-sum q Γ m r.0 i)) ((block-is-linear i).on-act g r.0)
              ∙ sub-self N (block-sum q Γ m r.0 i),
        )

-- Each table is the sum of its terms, and the linear maps between free modules.
use Rattle.std.specs.Prelude.{◌≡◌, ℕ, suc, refl, List, [], ◌∷◌, ◌<◌, ◌≢◌, ◌⊎◌, Bool, true, false, eqb, ◌&&◌}
use Rattle.std.specs.Prelude.{◌+◌}
use Rattle.std.proofs.Common.{sym, ◌∙◌, ap, ap₂, arith, inl, inr, eq-eqb}
use mathlib.Core.Path.{fun_ext}
use Rattle.std.proofs.lemmas.Bool.Decides.{eqb_tells}
use Rattle.group_modules.specs.Module.{Module, times, IsLinear, lin}
use Rattle.group_modules.specs.Field.{Below, Fp, residue, plus}
use Rattle.group_modules.specs.Sums.{below, total}
use Rattle.group_modules.specs.Tables.{Group, monoid, Table, mark, unit, terms, part, block-sum}
use Rattle.group_modules.proofs.Laws.{times-mod, times-sum, times-zero}
use Rattle.linear_algebra.proofs.Residues.{below-path, times-one, residue-self}
use Rattle.group_modules.proofs.SumLaws.{total-zero, total-only, map-total, additive-agree}
use Rattle.numbered_groups.proofs.GroupLaws.{inv-inv-mul}
use Rattle.numbered_groups.proofs.Entries.{times-at}
use Rattle.group_modules.proofs.TermLaws.{lin-terms, terms-add, terms-at-unit}

module _ {n : ℕ} (q : ℕ) (Γ : Group n) where
  -- the entry at j and k of the term at i and g
  entry : (b : ℕ) (v : (Table q Γ b).of) (j : Below b) (k : Below n) (i : Below b) (g : Below n)
      → part q Γ (Table q Γ b) b (unit q Γ b) v i g j k
      ≡ times (plus q) (residue q 0) (v i g).0 (mark q Γ (eqb j.0 i.0 && eqb (Γ.mul (Γ.inv g) k).0 Γ.one.0))
  entry b v j k i g = times-at q Γ b (v i g).0 ((Table q Γ b).act g (unit q Γ b i)) j k

  off : (c : ℕ) (i j : ℕ) (t : Bool) → i ≢ j → ((eqb j i ≡ true) × (j ≡ i)) ⊎ ((eqb j i ≡ false) × (j ≢ i))
      → times (plus q) (residue q 0) c (mark q Γ (eqb j i && t)) ≡ residue q 0
  off c i j t e (inl k) = absurd (e (sym k.1))
  off c i j t e (inr k) = ap (λ s. times (plus q) (residue q 0) c (mark q Γ (s && t))) k.0
      ∙ times-zero (Fp q (monoid Γ)) c

  off-elem : (c j : ℕ) (g k : Below n) → g.0 ≢ k.0
      → ((eqb (Γ.mul (Γ.inv g) k).0 Γ.one.0 ≡ true) × ((Γ.mul (Γ.inv g) k).0 ≡ Γ.one.0))
      ⊎ ((eqb (Γ.mul (Γ.inv g) k).0 Γ.one.0 ≡ false) × ((Γ.mul (Γ.inv g) k).0 ≢ Γ.one.0))
      → times (plus q) (residue q 0) c (mark q Γ (eqb j j && eqb (Γ.mul (Γ.inv g) k).0 Γ.one.0)) ≡ residue q 0
  off-elem c j g k e (inl m) =
      absurd (e (sym (ap (λ (x : Below n). x.0)
      (inv-inv-mul q Γ g k (below-path (Γ.mul (Γ.inv g) k) Γ.one m.1)))))
  off-elem c j g k e (inr m) =
      ap (λ s. times (plus q) (residue q 0) c (mark q Γ s)) (ap₂ ◌&&◌ (eq-eqb j j refl) m.0)
      ∙ times-zero (Fp q (monoid Γ)) c

  -- v is the sum of its terms
  pub terms-sum : (b : ℕ) (v : (Table q Γ b).of) → lin (Table q Γ b) (unit q Γ b) (terms q Γ b v) ≡ v
  terms-sum b v = fun_ext (λ j. fun_ext (λ k. at j k))
    where
      at : (j : Below b) (k : Below n) → lin (Table q Γ b) (unit q Γ b) (terms q Γ b v) j k ≡ v j k
      at j k =
          let T : Module (suc q) (monoid Γ) = Table q Γ b in
          let K : Module (suc q) (monoid Γ) = Fp q (monoid Γ) in
          ap (λ w. w j k) (lin-terms q Γ T b (unit q Γ b) v (below b))
          ∙ map-total T K (λ w. w j k) (λ v w. refl) (below b)
          (λ i. total T (below n) (part q Γ T b (unit q Γ b) v i))
          ∙ total-only K b (λ i. total T (below n) (part q Γ T b (unit q Γ b) v i) j k) j
          (λ i e.
          map-total T K (λ w. w j k) (λ v w. refl) (below n) (part q Γ T b (unit q Γ b) v i)
          ∙ total-zero K (below n) (λ g. part q Γ T b (unit q Γ b) v i g j k)
          (λ g. entry b v j k i g ∙ off (v i g).0 i.0 j.0 _ e (eqb_tells j.0 i.0)))
          ∙ map-total T K (λ w. w j k) (λ v w. refl) (below n) (part q Γ T b (unit q Γ b) v j)
          ∙ total-only K n (λ g. part q Γ T b (unit q Γ b) v j g j k) k
          (λ g e. entry b v j k j g ∙ off-elem (v j g).0 j.0 g k e (eqb_tells (Γ.mul (Γ.inv g) k).0 Γ.one.0))
          ∙ entry b v j k j k
          ∙ ap (λ c. times (plus q) (residue q 0) (v j k).0 (mark q Γ c))
          (ap₂ ◌&&◌ (eq-eqb j.0 j.0 refl)
          (eq-eqb (Γ.mul (Γ.inv k) k).0 Γ.one.0 (ap (λ (k : Below n). k.0) (Γ.inv-mul k))))
          ∙ times-one q (v j k).0 ∙ residue-self q (v j k)

  -- the linear extension is linear
  pub terms-linear : (b : ℕ) (M : Module (suc q) (monoid Γ)) (u : Below b → M.of)
      → IsLinear (Table q Γ b) M (λ v. lin M u (terms q Γ b v))
  terms-linear b M u =
      let T : Module (suc q) (monoid Γ) = Table q Γ b in
      let L : T.of → M.of = λ v. lin M u (terms q Γ b v) in
      record {
        on-add = terms-add q Γ M b u;
        on-act = λ h v.
            ap (λ w. L (T.act h w)) (sym (terms-sum b v))
            ∙ additive-agree T M (λ w. L (T.act h w)) (λ w. M.act h (L w))
            (λ v w. terms-add q Γ M b u (T.act h v) (T.act h w))
            (λ v w. ap (M.act h) (terms-add q Γ M b u v w) ∙ M.act-add h (L v) (L w))
            (unit q Γ b)
            (λ g i.
            ap L (sym (T.act-mul h g (unit q Γ b i))) ∙ terms-at-unit q Γ M b u (Γ.mul h g) i
            ∙ M.act-mul h g (u i)
            ∙ ap (M.act h) (sym (terms-at-unit q Γ M b u g i)))
            (terms q Γ b v)
            ∙ ap (λ w. M.act h (L w)) (terms-sum b v);
      }

  pub terms-unit : (b : ℕ) (M : Module (suc q) (monoid Γ)) (u : Below b → M.of) (i : Below b)
      → lin M u (terms q Γ b (unit q Γ b i)) ≡ u i
  terms-unit b M u i =
      ap (λ w. lin M u (terms q Γ b w)) (sym ((Table q Γ b).act-one (unit q Γ b i)))
      ∙ terms-at-unit q Γ M b u Γ.one i ∙ M.act-one (u i)

  -- a sum of multiples of one element
  pub total-times : (M : Module (suc q) (monoid Γ)) {A : Type 0} (xs : List A) (w : A
      → Below (suc q)) (x : M.of)
      → total M xs (λ g. times M.add M.zero (w g).0 x) ≡ times M.add M.zero (total (Fp q (monoid Γ)) xs w).0 x
  total-times M [] w x = sym (times-mod M 0 x)
  total-times M (a ∷ xs) w x =
      ap (M.add (times M.add M.zero (w a).0 x)) (total-times M xs w x)
      ∙ sym (times-sum M (w a).0 (total (Fp q (monoid Γ)) xs w).0 x)
      ∙ sym (times-mod M ((w a).0 + (total (Fp q (monoid Γ)) xs w).0) x)

  -- a functional on the blocks, at a table whose blocks have sum 0
  pair-zero : (b : ℕ) (c : Below b → Below (suc q)) (v : (Table q Γ b).of)
      → ((j : Below b) → block-sum q Γ b v j ≡ residue q 0)
      → lin (Fp q (monoid Γ)) c (terms q Γ b v) ≡ residue q 0
  pair-zero b c v e =
      let K : Module (suc q) (monoid Γ) = Fp q (monoid Γ) in
      lin-terms q Γ K b c v (below b)
      ∙ total-zero K (below b) (λ j. total K (below n) (part q Γ K b c v j))
      (λ j.
      total-times K (below n) (v j) (c j)
      ∙ ap (λ (s : Below (suc q)). times (plus q) (residue q 0) s.0 (c j)) (e j)
      ∙ times-mod K 0 (c j))

  pub augment-sum : (v : (Table q Γ 1).of)
      → lin (Fp q (monoid Γ)) (λ i. residue q 1) (terms q Γ 1 v) ≡ block-sum q Γ 1 v (residue 0 0)
  augment-sum v =
      let K : Module (suc q) (monoid Γ) = Fp q (monoid Γ) in
      let one : Below 1 = residue 0 0 in
      lin-terms q Γ K 1 (λ i. residue q 1) v (below 1)
      ∙ total-only K 1 (λ i. total K (below n) (part q Γ K 1 (λ i. residue q 1) v i)) one
      (λ y e. absurd (e (let a : y.0 < 1 = y.1 in let b : one.0 < 1 = one.1 in omega (arith, a, b))))
      ∙ ap (total K (below n)) (fun_ext (λ g. times-one q (v one g).0 ∙ residue-self q (v one g)))

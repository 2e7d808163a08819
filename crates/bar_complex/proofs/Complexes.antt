-- Complexes, chain maps, and the homotopy between two chain maps into a complex with a contraction.
use Rattle.std.specs.Prelude.{◌≡◌, ℕ, zero, suc, List}
use Rattle.std.proofs.Common.{◌∙◌, ap, ap₂}
use Rattle.group_modules.specs.Module.{Monoid, Module, ops, sub, IsLinear, Term, lin}
use Rattle.group_modules.proofs.Laws.{lin-sub, map-sub, map-lin, sub-self, sub-zero, sub-back}
use mathlib.Core.Path.{fun_ext}
use Rattle.group_modules.specs.Field.{Below, Fp, residue}
use Rattle.bar_complex.specs.Homotopies as homotopies

-- u is 0 at each basis element that counts as 0
abbrev pub Vanishes : {p : ℕ} {G : Monoid} (M : Module p G) {X : Type 0} → (X → Type 0) → (X → M.of) → Type 0
Vanishes M {X = X} null u = (x : X) → null x → u x ≡ M.zero

-- a complex of free modules: bases, of which some members count as 0, and the boundary of each as a formal
-- sum
pub record FreeComplex (p : ℕ) (G : Monoid) : Type 1 where
  pub basis : ℕ → Type 0
  pub null : (d : ℕ) → basis d → Type 0
  pub boundary : (d : ℕ) → basis (suc d) → List (Term G (basis d))
  pub boundary-null : (M : Module p G) (d : ℕ) (f : basis d → M.of) → Vanishes M (null d) f
      → Vanishes M (null (suc d)) (λ x. lin M f (boundary d x))
  pub twice : (M : Module p G) (d : ℕ) (f : basis d → M.of) → Vanishes M (null d) f
      → (x : basis (suc (suc d)))
      → lin M (λ y. lin M f (boundary d y)) (boundary (suc d) x) ≡ M.zero

-- a complex over F_p, with a preimage of each cycle
pub record Exact (q : ℕ) (G : Monoid) : Type 1 where
  pub at : ℕ → Module (suc q) G
  pub boundary : (d : ℕ) → (at (suc d)).of → (at d).of
  pub linear : (d : ℕ) → IsLinear (at (suc d)) (at d) (boundary d)
  pub augment : (at 0).of → Below (suc q)
  pub augment-linear : IsLinear (at 0) (Fp q G) augment
  pub augment-boundary : (v : (at 1).of) → augment (boundary 0 v) ≡ residue q 0
  pub lift : (d : ℕ) → (at d).of → (at (suc d)).of
  pub lift-nil : (d : ℕ) → lift d (at d).zero ≡ (at (suc d)).zero
  pub lift-zero : (v : (at 0).of) → augment v ≡ residue q 0 → boundary 0 (lift 0 v) ≡ v
  pub lift-suc : (d : ℕ) (v : (at (suc d)).of) → boundary d v ≡ (at d).zero
      → boundary (suc d) (lift (suc d) v) ≡ v

module _ {q : ℕ} {G : Monoid} (X : FreeComplex (suc q) G) (Y : Exact q G) where
  abbrev pub Maps : Type 0
  Maps = (d : ℕ) → X.basis d → (Y.at d).of

  -- f is 0 at the members that count as 0, and f(boundary x) = boundary f(x)
  pub record IsChainMap (f : Maps) : Type 0 where
    pub vanish : (d : ℕ) → Vanishes (Y.at d) (X.null d) (f d)
    pub commute : (d : ℕ) (x : X.basis (suc d))
        → Y.boundary d (f (suc d) x) ≡ lin (Y.at d) (f d) (X.boundary d x)

  abbrev pub Agree : Maps → Maps → Type 0
  Agree f g = (x : X.basis 0) → Y.augment (f 0 x) ≡ Y.augment (g 0 x)

  -- what is left to lift: f(x) - g(x) - h(boundary of x)
  abbrev pub rest : Maps → Maps → (d : ℕ) → X.basis d → (Y.at d).of
  rest f g = homotopies.rest X.basis X.boundary (λ d. ops (Y.at d)) (λ d. sub (Y.at d)) Y.lift f g

  abbrev pub homotopy : Maps → Maps → (d : ℕ) → X.basis d → (Y.at (suc d)).of
  homotopy f g = homotopies.homotopy X.basis X.boundary (λ d. ops (Y.at d)) (λ d. sub (Y.at d)) Y.lift f g

  module _ (f g : Maps) (cf : IsChainMap f) (cg : IsChainMap g) where
    rest-null : (d : ℕ) → Vanishes (Y.at d) (X.null d) (rest f g d)
    rest-null zero x z = ap₂ (sub (Y.at 0)) (cf.vanish 0 x z) (cg.vanish 0 x z) ∙ sub-self (Y.at 0) _
    rest-null (suc d) x z =
        let M : Module (suc q) G = Y.at (suc d) in
        ap₂ (sub M) (ap₂ (sub M) (cf.vanish (suc d) x z) (cg.vanish (suc d) x z) ∙ sub-self M _)
        (X.boundary-null M d (homotopy f g d) (λ y n. ap (Y.lift d) (rest-null d y n) ∙ Y.lift-nil d) x z)
        ∙ sub-self M _

    pub homotopy-null : (d : ℕ) → Vanishes (Y.at (suc d)) (X.null d) (homotopy f g d)
    homotopy-null d x z = ap (Y.lift d) (rest-null d x z) ∙ Y.lift-nil d

    -- the rest is what f - g leaves, summed over a boundary
    rest-sum : (d : ℕ) (x : X.basis (suc d)) → lin (Y.at d) (rest f g d) (X.boundary d x)
        ≡ sub (Y.at d) (lin (Y.at d) (f d) (X.boundary d x)) (lin (Y.at d) (g d) (X.boundary d x))
    rest-sum zero x = lin-sub (Y.at 0) (f 0) (g 0) (X.boundary 0 x)
    rest-sum (suc d) x =
        let M : Module (suc q) G = Y.at (suc d) in
        let t : List (Term G (X.basis (suc d))) = X.boundary (suc d) x in
        lin-sub M (λ y. sub M (f (suc d) y) (g (suc d) y)) (λ y. lin M (homotopy f g d) (X.boundary d y)) t
        ∙ ap₂ (sub M) (lin-sub M (f (suc d)) (g (suc d)) t) (X.twice M d (homotopy f g d) (homotopy-null d) x)
        ∙ sub-zero M _

    -- the rest is a cycle, where the homotopy one degree lower has the rest there as its boundary
    rest-cycle : (d : ℕ) → ((y : X.basis d) → Y.boundary d (homotopy f g d y) ≡ rest f g d y)
        → (x : X.basis (suc d)) → Y.boundary d (rest f g (suc d) x) ≡ (Y.at d).zero
    rest-cycle d ih x =
        let M : Module (suc q) G = Y.at (suc d) in
        let N : Module (suc q) G = Y.at d in
        let l : IsLinear M N (Y.boundary d) = Y.linear d in
        map-sub M N (Y.boundary d) l.on-add _ _
        ∙ ap₂ (sub N)
        (map-sub M N (Y.boundary d) l.on-add _ _ ∙ ap₂ (sub N) (cf.commute d x) (cg.commute d x))
        (map-lin M N (Y.boundary d) l (homotopy f g d) (X.boundary d x)
        ∙ ap (λ u. lin N u (X.boundary d x)) (fun_ext ih) ∙ rest-sum d x)
        ∙ sub-self N _

    pub homotopy-boundary : Agree f g → (d : ℕ) (x : X.basis d)
        → Y.boundary d (homotopy f g d x) ≡ rest f g d x
    homotopy-boundary e zero x =
        let l : IsLinear (Y.at 0) (Fp q G) Y.augment = Y.augment-linear in
        Y.lift-zero (rest f g 0 x)
        (map-sub (Y.at 0) (Fp q G) Y.augment l.on-add (f 0 x) (g 0 x)
        ∙ ap (λ z. sub (Fp q G) z (Y.augment (g 0 x))) (e x) ∙ sub-self (Fp q G) (Y.augment (g 0 x)))
    homotopy-boundary e (suc d) x = Y.lift-suc d (rest f g (suc d) x) (rest-cycle d (homotopy-boundary e d) x)

    -- the boundary of h(x) and h of the boundary of x make f(x) - g(x)
    pub homotopic : Agree f g → (d : ℕ) (x : X.basis (suc d))
        → (Y.at (suc d)).add (Y.boundary (suc d) (homotopy f g (suc d) x))
        (lin (Y.at (suc d)) (homotopy f g d) (X.boundary d x))
        ≡ sub (Y.at (suc d)) (f (suc d) x) (g (suc d) x)
    homotopic e d x =
        let M : Module (suc q) G = Y.at (suc d) in
        ap (λ z. M.add z (lin M (homotopy f g d) (X.boundary d x))) (homotopy-boundary e (suc d) x)
        ∙ sub-back M _ _

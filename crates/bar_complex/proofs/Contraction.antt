-- The normalised bar complex: its boundary, and its contraction.
use Rattle.std.specs.Prelude.{◌≡◌, ℕ, zero, suc, refl}
use Rattle.std.proofs.Common.{sym, ◌∙◌, ap, ap₂, inl, inr}
use Rattle.group_modules.specs.Module.{Monoid, Module, sub, IsAdditive, IsLinear}
use Rattle.group_modules.proofs.Laws.{sub-self, sub-zero, sub-add, map-sub}
use Rattle.bar_complex.specs.Tuples.{Tuple, HasIdentity}
use Rattle.bar_complex.proofs.FreeModules.{term, nil, plus, minus, null, free, sum, extend, extend-linear}
use Rattle.bar_complex.proofs.FreeModules.{additive-ext, move, move-one}

module _ (p : ℕ) (G : Monoid) where
  abbrev pub Bar : ℕ → Module p G
  Bar d = free p G (Tuple G.elem d) (HasIdentity G d)

  -- the contraction: g[t] goes to [g|t]
  abbrev pub cons : (d : ℕ) → (Bar d).of → (Bar (suc d)).of
  cons d = sum (Bar (suc d)) (λ g t. term G.one (g, t)) (λ g t z. null G.one (g, t) (inr z))

  -- what is subtracted from g[t] in the boundary of [g|t]: [g h|t'] - [g| the same of h and t'] for t = (h,
  -- t'), and [] for d = 0
  abbrev pub inner : (d : ℕ) → G.elem → Tuple G.elem d → (Bar d).of
  inner zero g t = term G.one t
  inner (suc d) g t = sub (Bar (suc d)) (term G.one (G.mul g t.0, t.1)) (cons d (move G g (inner d t.0 t.1)))

  abbrev pub bd : (d : ℕ) → Tuple G.elem (suc d) → (Bar d).of
  bd d t = sub (Bar d) (term t.0 t.1) (inner d t.0 t.1)

  cons-add : (d : ℕ) → IsAdditive (Bar d) (Bar (suc d)) (cons d)
  cons-add d a b = refl

  pub cons-cons : (d : ℕ) (a : (Bar d).of) → cons (suc d) (cons d a) ≡ nil
  cons-cons d =
      additive-ext (Bar (suc (suc d))) (λ a. cons (suc d) (cons d a)) (λ a. nil) (λ a b. refl)
      (λ a b. sym ((Bar (suc (suc d))).add-zero nil)) (λ g t. null G.one (G.one, (g, t)) (inl refl))

  pub cons-inner : (d : ℕ) (g : G.elem) (t : Tuple G.elem d) → cons d (inner d g t) ≡ nil
  cons-inner zero g t = null G.one (G.one, t) (inl refl)
  cons-inner (suc d) g t =
      ap₂ (λ a b. plus a (minus b)) (null G.one (G.one, (G.mul g t.0, t.1)) (inl refl))
      (cons-cons d (move G g (inner d t.0 t.1)))
      ∙ sub-self (Bar (suc (suc d))) nil

  inner-one : (d : ℕ) (t : Tuple G.elem d) → inner d G.one t ≡ term G.one t
  inner-one zero t = refl
  inner-one (suc d) t =
      ap₂ (sub (Bar (suc d))) (ap (λ k. term G.one (k, t.1)) (G.one-mul t.0))
      (ap (cons d) (move-one G (inner d t.0 t.1)) ∙ cons-inner d t.0 t.1)
      ∙ sub-zero (Bar (suc d)) _

  inner-null : (d : ℕ) (g : G.elem) (t : Tuple G.elem d) → HasIdentity G d t → inner d g t ≡ nil
  inner-null zero g t z = absurd z
  inner-null (suc d) g t (inl e) =
      ap₂ (sub (Bar (suc d)))
      (ap (λ k. term G.one (k, t.1)) (ap (G.mul g) e ∙ G.mul-one g))
      (ap (λ k. cons d (move G g (inner d k t.1))) e ∙ ap (λ a. cons d (move G g a)) (inner-one d t.1)
      ∙ ap (λ k. term G.one (k, t.1)) (G.mul-one g))
      ∙ sub-self (Bar (suc d)) _
  inner-null (suc d) g t (inr z) =
      ap₂ (sub (Bar (suc d))) (null G.one (G.mul g t.0, t.1) (inr z))
      (ap (λ a. cons d (move G g a)) (inner-null d t.0 t.1 z))
      ∙ sub-self (Bar (suc d)) _

  pub bd-null : (d : ℕ) (t : Tuple G.elem (suc d)) → HasIdentity G (suc d) t → bd d t ≡ nil
  bd-null d t (inl e) = ap (λ k. bd d (k, t.1)) e ∙ ap (sub (Bar d) (term G.one t.1)) (inner-one d t.1)
      ∙ sub-self (Bar d) _
  bd-null d t (inr z) = ap₂ (sub (Bar d)) (null t.0 t.1 z) (inner-null d t.0 t.1 z) ∙ sub-self (Bar d) _

  -- the boundary
  abbrev pub D : (d : ℕ) → (Bar (suc d)).of → (Bar d).of
  D d = extend (Tuple G.elem (suc d)) (HasIdentity G (suc d)) (Bar d) (bd d) (bd-null d)

  pub D-linear : (d : ℕ) → IsLinear (Bar (suc d)) (Bar d) (D d)
  D-linear d = extend-linear (Tuple G.elem (suc d)) (HasIdentity G (suc d)) (Bar d) (bd d) (bd-null d)

  -- the contraction's law
  pub D-cons : (d : ℕ) (a : (Bar (suc d)).of)
      → D (suc d) (cons (suc d) a) ≡ sub (Bar (suc d)) a (cons d (D d a))
  D-cons d =
      additive-ext (Bar (suc d)) (λ a. D (suc d) (cons (suc d) a)) (λ a. sub (Bar (suc d)) a (cons d (D d a)))
      (λ a b. refl) (λ a b. sub-add (Bar (suc d)) a b (cons d (D d a)) (cons d (D d b)))
      (λ g t. move-one G (bd (suc d) (g, t)))

  -- the augmentation, as a map of degree 0 to itself: g[] goes to []
  abbrev pub collapse : (Bar 0).of → (Bar 0).of
  collapse = sum (Bar 0) (λ g t. term G.one t) (λ g t z. absurd z)

  pub D-cons-zero : (a : (Bar 0).of) → D 0 (cons 0 a) ≡ sub (Bar 0) a (collapse a)
  D-cons-zero =
      additive-ext (Bar 0) (λ a. D 0 (cons 0 a)) (λ a. sub (Bar 0) a (collapse a)) (λ a b. refl)
      (λ a b. sub-add (Bar 0) a b (collapse a) (collapse b)) (λ g t. move-one G (bd 0 (g, t)))

  collapse-move : (g : G.elem) (a : (Bar 0).of) → collapse (move G g a) ≡ collapse a
  collapse-move g =
      additive-ext (Bar 0) (λ a. collapse (move G g a)) collapse (λ a b. refl) (λ a b. refl) (λ k t. refl)

  pub collapse-D : (a : (Bar 1).of) → collapse (D 0 a) ≡ nil
  collapse-D =
      additive-ext (Bar 0) (λ a. collapse (D 0 a)) (λ a. nil) (λ a b. refl)
      (λ a b. sym ((Bar 0).add-zero nil))
      (λ g t. collapse-move g (bd 0 t) ∙ sub-self (Bar 0) _)

  D-D-step : (d : ℕ) → ((a : (Bar (suc d)).of) → D d (cons d (D d a)) ≡ D d a) → (a : (Bar (suc (suc d))).of)
      → D d (D (suc d) a) ≡ nil
  D-D-step d h =
      let l : IsLinear (Bar (suc d)) (Bar d) (D d) = D-linear d in
      additive-ext (Bar d) (λ a. D d (D (suc d) a)) (λ a. nil) (λ a b. refl)
      (λ a b. sym ((Bar d).add-zero nil))
      (λ g t.
      let y : (Bar (suc d)).of = term t.0 t.1 in
      l.on-act g (bd (suc d) t)
      ∙ ap (λ a. move G g (D d a)) (sym (move-one G (bd (suc d) t)) ∙ D-cons d y)
      ∙ ap (λ a. move G g a)
      (map-sub (Bar (suc d)) (Bar d) (D d) l.on-add y (cons d (D d y)) ∙ ap (sub (Bar d) (D d y)) (h y)
      ∙ sub-self (Bar d) _))

  -- the boundary of a boundary is 0
  pub D-D : (d : ℕ) (a : (Bar (suc (suc d))).of) → D d (D (suc d) a) ≡ nil
  D-D zero =
      D-D-step zero (λ y. D-cons-zero (D 0 y) ∙ ap (sub (Bar 0) (D 0 y)) (collapse-D y) ∙ sub-zero (Bar 0) _)
  D-D (suc e) =
      D-D-step (suc e)
      (λ y. D-cons e (D (suc e) y) ∙ ap (λ w. sub (Bar (suc e)) (D (suc e) y) (cons e w)) (D-D e y)
      ∙ sub-zero (Bar (suc e)) _)

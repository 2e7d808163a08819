-- The boundary of a bar tuple as a formal sum; the bar complex as a complex with bases and as an exact
-- complex.
use Rattle.std.specs.Prelude.{◌≡◌, ℕ, zero, suc, refl, Bool, true, false, not, List, [], ◌∷◌, map}
use Rattle.std.proofs.Common.{sym, ◌∙◌, ap, ap₂}
use mathlib.Core.Path.{fun_ext}
use Rattle.group_modules.specs.Module.{Monoid, Module, sub, times, IsLinear, Term, lin}
use Rattle.group_modules.proofs.Laws.{map-zero, map-times, map-lin, neg-add, neg-neg, neg-unique}
use Rattle.bar_complex.proofs.FreeModules.{term, nil, plus, minus, extend, extend-linear, move, move-one}
use Rattle.bar_complex.specs.Tuples.{Tuple, HasIdentity}
use Rattle.bar_complex.proofs.Contraction.{Bar, cons, inner, bd, bd-null, D, D-D}
use Rattle.bar_complex.specs.Boundary.{signed, put, faces, boundary}
use Rattle.bar_complex.proofs.Complexes.{Vanishes, FreeComplex}

module _ (q : ℕ) (G : Monoid) where
  -- the element of the bar complex that a formal sum stands for
  abbrev pub value : (d : ℕ) → List (Term G (Tuple G.elem d)) → (Bar (suc q) G d).of
  value d ts = lin (Bar (suc q) G d) (λ t. term G.one t) ts

  abbrev sgn : (M : Module (suc q) G) → Bool → M.of → M.of
  sgn M true x = x
  sgn M false x = M.neg x

  signed-times : (M : Module (suc q) G) (s : Bool) (x : M.of) → times M.add M.zero (signed q s) x ≡ sgn M s x
  signed-times M true x = M.add-zero x
  signed-times M false x = neg-unique M x (times M.add M.zero q x) (M.times-p x)

  value-put : (d : ℕ) (g : G.elem) (ts : List (Term G (Tuple G.elem d)))
      → value (suc d) (map (put q G d g) ts) ≡ cons (suc q) G d (move G g (value d ts))
  value-put d g [] = refl
  value-put d g (a ∷ ts) =
      let M : Module (suc q) G = Bar (suc q) G d in
      let N : Module (suc q) G = Bar (suc q) G (suc d) in
      ap₂ plus
      (ap (times plus nil a.coef)
      (move-one G (term G.one (G.mul g a.elem, a.base))
      ∙ ap (λ k. term G.one (G.mul g k, a.base)) (sym (G.mul-one a.elem)))
      ∙ sym (map-times M N (λ x. cons (suc q) G d (move G g x)) (λ x y. refl) a.coef
      (term (G.mul a.elem G.one) a.base)))
      (value-put d g ts)

  value-faces : (d : ℕ) (s : Bool) (g : G.elem) (t : Tuple G.elem d)
      → value d (faces q G d s g t) ≡ sgn (Bar (suc q) G d) s (inner (suc q) G d g t)
  value-faces zero s g t =
      let M : Module (suc q) G = Bar (suc q) G zero in
      M.add-zero _ ∙ signed-times M s _ ∙ ap (sgn M s) (move-one G (term G.one t))
  value-faces (suc d) s g t =
      let M : Module (suc q) G = Bar (suc q) G (suc d) in
      let N : Module (suc q) G = Bar (suc q) G d in
      ap₂ plus (signed-times M s _ ∙ ap (sgn M s) (move-one G (term G.one (G.mul g t.0, t.1))))
      (value-put d g (faces q G d (not s) t.0 t.1)
      ∙ ap (λ x. cons (suc q) G d (move G g x)) (value-faces d (not s) t.0 t.1))
      ∙ sides s (term G.one (G.mul g t.0, t.1)) (inner (suc q) G d t.0 t.1)
    where
      sides : (s : Bool) (a : (Bar (suc q) G (suc d)).of) (b : (Bar (suc q) G d).of)
          → plus (sgn (Bar (suc q) G (suc d)) s a)
          (cons (suc q) G d (move G g (sgn (Bar (suc q) G d) (not s) b)))
          ≡ sgn (Bar (suc q) G (suc d)) s (sub (Bar (suc q) G (suc d)) a (cons (suc q) G d (move G g b)))
      sides true a b = refl
      sides false a b =
          let M : Module (suc q) G = Bar (suc q) G (suc d) in
          sym (neg-add M a (minus (cons (suc q) G d (move G g b)))
          ∙ ap (plus (minus a)) (neg-neg M (cons (suc q) G d (move G g b))))

  pub value-boundary : (d : ℕ) (t : Tuple G.elem (suc d)) → value d (boundary q G d t) ≡ bd (suc q) G d t
  value-boundary d t =
      let M : Module (suc q) G = Bar (suc q) G d in
      ap₂ plus (M.add-zero _ ∙ ap (λ k. term k t.1) (G.mul-one t.0)) (value-faces d false t.0 t.1)

  -- the sum over a formal sum is the linear extension at its value
  pub lin-value : (M : Module (suc q) G) (d : ℕ) (f : Tuple G.elem d → M.of)
      (z : Vanishes M (HasIdentity G d) f)
      (ts : List (Term G (Tuple G.elem d)))
      → lin M f ts ≡ extend (Tuple G.elem d) (HasIdentity G d) M f z (value d ts)
  lin-value M d f z ts =
      sym
      (map-lin (Bar (suc q) G d) M (extend (Tuple G.elem d) (HasIdentity G d) M f z)
      (extend-linear (Tuple G.elem d) (HasIdentity G d) M f z) (λ t. term G.one t) ts
      ∙ ap (λ u. lin M u ts) (fun_ext (λ x. M.act-one (f x))))

  -- the bar complex with its bases
  pub bar-twice : (M : Module (suc q) G) (d : ℕ) (f : Tuple G.elem d → M.of) → Vanishes M (HasIdentity G d) f
      → (x : Tuple G.elem (suc (suc d)))
      → lin M (λ y. lin M f (boundary q G d y)) (boundary q G (suc d) x) ≡ M.zero
  bar-twice M d f z x =
      let B : Module (suc q) G = Bar (suc q) G d in
      let F : B.of → M.of = extend (Tuple G.elem d) (HasIdentity G d) M f z in
      let l : IsLinear B M F = extend-linear (Tuple G.elem d) (HasIdentity G d) M f z in
      ap (λ u. lin M u (boundary q G (suc d) x))
      (fun_ext (λ y. lin-value M d f z (boundary q G d y) ∙ ap F (value-boundary d y)))
      ∙ sym (map-lin B M F l (bd (suc q) G d) (boundary q G (suc d) x))
      ∙ ap F
      (lin-value B (suc d) (bd (suc q) G d) (bd-null (suc q) G d) (boundary q G (suc d) x)
      ∙ ap (D (suc q) G d) (value-boundary (suc d) x ∙ sym (move-one G (bd (suc q) G (suc d) x)))
      ∙ D-D (suc q) G d (term G.one x))
      ∙ map-zero B M F l.on-add

  pub bar-null : (M : Module (suc q) G) (d : ℕ) (f : Tuple G.elem d → M.of) → Vanishes M (HasIdentity G d) f
      → Vanishes M (HasIdentity G (suc d)) (λ x. lin M f (boundary q G d x))
  bar-null M d f z x n =
      lin-value M d f z (boundary q G d x)
      ∙ ap (extend (Tuple G.elem d) (HasIdentity G d) M f z) (value-boundary d x ∙ bd-null (suc q) G d x n)

  abbrev pub bar-complex : FreeComplex (suc q) G
  bar-complex = record {
    basis = Tuple G.elem;
    null = HasIdentity G;
    boundary = boundary q G;
    boundary-null = bar-null;
    twice = bar-twice;
  }

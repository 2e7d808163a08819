-- The contraction of formal sums.
use Rattle.std.specs.Prelude.{◌≡◌, ℕ, zero, suc, refl, [], ◌∷◌, ◌++◌, ◌*◌, ◌+◌, List}
use Rattle.std.proofs.Common.{sym, ◌∙◌, ap, ap₂, arith}
use Rattle.group_modules.specs.Module.{Monoid, Module, Term, sub, times, lin}
use Rattle.group_modules.specs.Operations.{linear}
use Rattle.group_modules.specs.Field.{Below, Fp, residue, plus}
use Rattle.group_modules.proofs.Laws.{map-times, act-times, times-zero, times-add, times-sum, sub-back}
use Rattle.group_modules.proofs.Laws.{neg-unique}
use Rattle.group_modules.proofs.SumLaws.{lin-append}
use Rattle.linear_algebra.proofs.Residues.{times-residue}
use Rattle.bar_complex.specs.Tuples.{Tuple}
use Rattle.bar_complex.specs.Boundary.{boundary}
use Rattle.bar_complex.specs.Cochains.{IsZeroAtIdentity}
use Rattle.bar_complex.specs.Contraction.{Chain, multiple, chains, chain_minus, single, chain_boundary}
use Rattle.bar_complex.specs.Contraction.{contraction, collapsed, AreSame}
use Rattle.bar_complex.specs.Contraction as formal
use Rattle.bar_complex.proofs.FreeModules.{term, sum, move, move-one}
use Rattle.bar_complex.proofs.Contraction.{Bar, cons, bd, D, D-cons, D-cons-zero, D-D, collapse}
use Rattle.bar_complex.proofs.FormalBoundary.{value, value-boundary}

-- c k times x is c times k times x
times-times : {p : ℕ} {G : Monoid} (M : Module p G) (c k : ℕ) (x : M.of)
    → times M.add M.zero (c * k) x ≡ times M.add M.zero c (times M.add M.zero k x)
times-times M zero k x = ap (λ j. times M.add M.zero j x) (let e : 0 * k ≡ 0 = omega arith in e)
times-times M (suc c) k x =
    ap (λ j. times M.add M.zero j x) (let e : suc c * k ≡ k + c * k = omega arith in e)
    ∙ times-sum M k (c * k) x ∙ ap (M.add (times M.add M.zero k x)) (times-times M c k x)

module _ (q : ℕ) (G : Monoid) where
  abbrev B : ℕ → Module (suc q) G
  B d = Bar (suc q) G d

  -- the element of the bar complex that a formal sum stands for
  abbrev v : (d : ℕ) → Chain q G d → (B d).of
  v d x = value q G d x

  -- the additive map of a function
  abbrev at : (d : ℕ) (f : G.elem → Tuple G.elem d → Below (suc q))
      → ((g : G.elem) → IsZeroAtIdentity q G d (f g)) → (B d).of → Below (suc q)
  at d f z = sum (Fp q G) f z

  value-at : (d : ℕ) (f : G.elem → Tuple G.elem d → Below (suc q))
      (z : (g : G.elem) → IsZeroAtIdentity q G d (f g)) (x : Chain q G d)
      → formal.value q G d f x ≡ at d f z (v d x)
  value-at d f z [] = refl
  value-at d f z (a ∷ x) =
      ap₂ (plus q)
      (sym (times-residue q a.coef (f a.elem a.base))
      ∙ ap (λ g. times (plus q) (residue q 0) a.coef (f g a.base)) (sym (G.mul-one a.elem))
      ∙ sym (map-times (B d) (Fp q G) (at d f z) (λ y w. refl) a.coef (term (G.mul a.elem G.one) a.base)))
      (value-at d f z x)

  value-multiple : (d c : ℕ) (g : G.elem) (x : Chain q G d)
      → v d (multiple q G d c g x) ≡ times (B d).add (B d).zero c (move G g (v d x))
  value-multiple d c g [] = sym (times-zero (B d) c)
  value-multiple d c g (a ∷ x) =
      let M : Module (suc q) G = B d in
      let y : M.of = term (G.mul a.elem G.one) a.base in
      ap₂ M.add
      (times-times M c a.coef (term (G.mul (G.mul g a.elem) G.one) a.base)
      ∙ ap (times M.add M.zero c)
      (ap (λ k. times M.add M.zero a.coef (term k a.base)) (G.mul-assoc g a.elem G.one)
      ∙ sym (act-times M g a.coef y)))
      (value-multiple d c g x)
      ∙ sym (times-add M c (move G g (times M.add M.zero a.coef y)) (move G g (v d x)))

  pub value-chain : (d : ℕ) (x : Chain q G (suc d))
      → v d (chain_boundary q G d x) ≡ D (suc q) G d (v (suc d) x)
  value-chain d [] = refl
  value-chain d (a ∷ x) =
      let M : Module (suc q) G = B d in
      lin-append M (λ t. term G.one t) (multiple q G d a.coef a.elem (boundary q G d a.base))
      (chain_boundary q G d x)
      ∙ ap₂ M.add
      (value-multiple d a.coef a.elem (boundary q G d a.base)
      ∙ ap (λ y. times M.add M.zero a.coef (move G a.elem y)) (value-boundary q G d a.base)
      ∙ ap (λ g. times M.add M.zero a.coef (move G g (bd (suc q) G d a.base))) (sym (G.mul-one a.elem))
      ∙ sym (map-times (B (suc d)) M (D (suc q) G d) (λ y w. refl) a.coef
      (term (G.mul a.elem G.one) a.base)))
      (value-chain d x)

  pub value-contraction : (d : ℕ) (x : Chain q G d)
      → v (suc d) (contraction q G d x) ≡ cons (suc q) G d (v d x)
  value-contraction d [] = refl
  value-contraction d (a ∷ x) =
      let N : Module (suc q) G = B (suc d) in
      ap₂ N.add
      (ap (λ g. times N.add N.zero a.coef (term g (a.elem, a.base))) (G.mul-one G.one)
      ∙ ap (λ g. times N.add N.zero a.coef (term G.one (g, a.base))) (sym (G.mul-one a.elem))
      ∙ sym (map-times (B d) N (cons (suc q) G d) (λ y w. refl) a.coef (term (G.mul a.elem G.one) a.base)))
      (value-contraction d x)

  value-collapsed : (x : Chain q G 0) → v 0 (collapsed q G x) ≡ collapse (suc q) G (v 0 x)
  value-collapsed [] = refl
  value-collapsed (a ∷ x) =
      let M : Module (suc q) G = B 0 in
      ap₂ M.add
      (ap (λ g. times M.add M.zero a.coef (term g a.base)) (G.mul-one G.one)
      ∙ sym (map-times M M (collapse (suc q) G) (λ y w. refl) a.coef (term (G.mul a.elem G.one) a.base)))
      (value-collapsed x)

  value-times : (d k : ℕ) (x : Chain q G d)
      → v d (times (λ y w. y ++ w) [] k x) ≡ times (B d).add (B d).zero k (v d x)
  value-times d zero x = refl
  value-times d (suc k) x =
      lin-append (B d) (λ t. term G.one t) x (times (λ y w. y ++ w) [] k x)
      ∙ ap ((B d).add (v d x)) (value-times d k x)

  pub value-linear : {X : Type 0} (d : ℕ) (f : X → Chain q G d) (ts : List (Term G X))
      → v d (linear (chains q G d) f ts) ≡ lin (B d) (λ x. v d (f x)) ts
  value-linear d f [] = refl
  value-linear d f (t ∷ ts) =
      let M : Module (suc q) G = B d in
      let x : Chain q G d = multiple q G d 1 t.elem (f t.base) in
      lin-append M (λ t. term G.one t) (times (λ y w. y ++ w) [] t.coef x) (linear (chains q G d) f ts)
      ∙ ap₂ M.add
      (value-times d t.coef x
      ∙ ap (times M.add M.zero t.coef)
      (value-multiple d 1 t.elem (f t.base) ∙ M.add-zero (move G t.elem (v d (f t.base)))))
      (value-linear d f ts)

  pub value-minus : (d : ℕ) (x y : Chain q G d) → v d (chain_minus q G d x y) ≡ sub (B d) (v d x) (v d y)
  value-minus d x y =
      let M : Module (suc q) G = B d in
      lin-append M (λ t. term G.one t) x (multiple q G d q G.one y)
      ∙ ap (M.add (v d x))
      (value-multiple d q G.one y ∙ ap (times M.add M.zero q) (move-one G (v d y))
      ∙ neg-unique M (v d y) (times M.add M.zero q (v d y)) (M.times-p (v d y)))

  pub value-single : (d : ℕ) (t : Tuple G.elem d) → v d (single q G d t) ≡ term G.one t
  value-single d t =
      let M : Module (suc q) G = B d in
      M.add-zero _ ∙ M.add-zero _ ∙ ap (λ g. term g t) (G.mul-one G.one)

  -- formal sums for one element of the bar complex are the same
  pub same : (d : ℕ) (x y : Chain q G d) → v d x ≡ v d y → AreSame q G d x y
  same d x y e f z = value-at d f z x ∙ ap (at d f z) e ∙ sym (value-at d f z y)

  pub boundary-twice : (d : ℕ) (x : Chain q G (suc (suc d)))
      → AreSame q G d (chain_boundary q G d (chain_boundary q G (suc d) x)) []
  boundary-twice d x =
      same d (chain_boundary q G d (chain_boundary q G (suc d) x)) []
      (value-chain d (chain_boundary q G (suc d) x) ∙ ap (D (suc q) G d) (value-chain (suc d) x)
      ∙ D-D (suc q) G d (v (suc (suc d)) x))

  pub contracts : (d : ℕ) (x : Chain q G (suc d))
      → AreSame q G (suc d)
      (chain_boundary q G (suc d) (contraction q G (suc d) x) ++ contraction q G d (chain_boundary q G d x)) x
  contracts d x =
      let M : Module (suc q) G = B (suc d) in
      let y : M.of = v (suc d) x in
      same (suc d)
      (chain_boundary q G (suc d) (contraction q G (suc d) x) ++ contraction q G d (chain_boundary q G d x)) x
      (lin-append M (λ t. term G.one t) (chain_boundary q G (suc d) (contraction q G (suc d) x))
      (contraction q G d (chain_boundary q G d x))
      ∙ ap₂ M.add
      (value-chain (suc d) (contraction q G (suc d) x)
      ∙ ap (D (suc q) G (suc d)) (value-contraction (suc d) x) ∙ D-cons (suc q) G d y)
      (value-contraction d (chain_boundary q G d x) ∙ ap (cons (suc q) G d) (value-chain d x))
      ∙ sub-back M y (cons (suc q) G d (D (suc q) G d y)))

  pub contracts-start : (x : Chain q G 0)
      → AreSame q G 0 (chain_boundary q G 0 (contraction q G 0 x) ++ collapsed q G x) x
  contracts-start x =
      let M : Module (suc q) G = B 0 in
      same 0 (chain_boundary q G 0 (contraction q G 0 x) ++ collapsed q G x) x
      (lin-append M (λ t. term G.one t) (chain_boundary q G 0 (contraction q G 0 x)) (collapsed q G x)
      ∙ ap₂ M.add
      (value-chain 0 (contraction q G 0 x) ∙ ap (D (suc q) G 0) (value-contraction 0 x)
      ∙ D-cons-zero (suc q) G (v 0 x))
      (value-collapsed x)
      ∙ sub-back M (v 0 x) (collapse (suc q) G (v 0 x)))

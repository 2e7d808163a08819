-- The chain map of a cocycle from the bar complex, a degree down by that of the cocycle, to itself; cup
-- products by it.
use Rattle.std.specs.Prelude.{◌≡◌, ℕ, zero, suc, refl, ◌+◌, ◌*◌}
use Rattle.std.proofs.Common.{sym, ◌∙◌, ap, ap₂, inl, inr, mul_comm}
use mathlib.Core.Path.{fun_ext}
use Rattle.group_modules.specs.Module.{Monoid, Module, sub, times, IsAdditive, IsLinear, lin}
use Rattle.group_modules.proofs.Laws.{map-sub, map-times, map-lin, sub-eq, then-linear, times-zero, times-mod}
use Rattle.group_modules.proofs.Laws.{times-sum}
use Rattle.group_modules.specs.Field.{Below, Fp, residue}
use Rattle.linear_algebra.proofs.Residues.{times-residue}
use Rattle.bar_complex.proofs.FreeModules.{term, nil, plus, null, extend, extend-linear, additive-ext}
use Rattle.bar_complex.proofs.FreeModules.{linear-ext, move, move-one}
use Rattle.bar_complex.specs.Tuples.{Tuple, HasIdentity}
use Rattle.bar_complex.proofs.Contraction.{Bar, bd, bd-null, inner, cons, D, D-linear, D-cons, D-cons-zero}
use Rattle.bar_complex.proofs.Contraction.{collapse}
use Rattle.bar_complex.specs.Boundary.{boundary}
use Rattle.bar_complex.proofs.FormalBoundary.{lin-value, value-boundary}
use Rattle.bar_complex.proofs.Complexes.{Vanishes}
use Rattle.chain_maps.specs.Lifts.{ahead}

-- the first j entries of a tuple, and the others
abbrev pub first : (E : Type 0) (e j : ℕ) → Tuple E (ahead e j) → Tuple E j
first E e zero t = tt
first E e (suc j) t = (t.0, first E e j t.1)

abbrev pub others : (E : Type 0) (e j : ℕ) → Tuple E (ahead e j) → Tuple E e
others E e zero t = t
others E e (suc j) t = others E e j t.1

module _ (q : ℕ) (G : Monoid) where
  -- the cup product of a cochain of degree j and one of degree e
  abbrev pub cup : (j e : ℕ) → (Tuple G.elem j → Below (suc q)) → (Tuple G.elem e → Below (suc q))
      → Tuple G.elem (ahead e j) → Below (suc q)
  cup j e u v t = residue q ((u (first G.elem e j t)).0 * (v (others G.elem e j t)).0)

  -- [g1|..|g(j+e)] goes to v(the last e entries) times [g1|..|gj]
  abbrev pub theta : (e : ℕ) → (Tuple G.elem e → Below (suc q)) → (j : ℕ) → Tuple G.elem (ahead e j)
      → (Bar (suc q) G j).of
  theta e v j t = times plus nil (v (others G.elem e j t)).0 (term G.one (first G.elem e j t))

  theta-step : (e : ℕ) (v : Tuple G.elem e → Below (suc q)) (j : ℕ) (t : Tuple G.elem (ahead e (suc j)))
      → theta e v (suc j) t ≡ cons (suc q) G j (move G t.0 (theta e v j t.1))
  theta-step e v j t =
      sym
      (map-times (Bar (suc q) G j) (Bar (suc q) G (suc j)) (λ a. cons (suc q) G j (move G t.0 a))
      (λ a b. refl)
      (v (others G.elem e j t.1)).0 (term G.one (first G.elem e j t.1))
      ∙ ap (λ k. times plus nil (v (others G.elem e j t.1)).0 (term G.one (k, first G.elem e j t.1)))
      (G.mul-one t.0))

  module _ (e : ℕ) (v : Tuple G.elem e → Below (suc q)) (z : Vanishes (Fp q G) (HasIdentity G e) v) where
    cons-theta : (j : ℕ) (t : Tuple G.elem (ahead e j)) → cons (suc q) G j (theta e v j t) ≡ nil
    cons-theta j t =
        map-times (Bar (suc q) G j) (Bar (suc q) G (suc j)) (cons (suc q) G j) (λ a b. refl)
        (v (others G.elem e j t)).0 (term G.one (first G.elem e j t))
        ∙ ap (times plus nil (v (others G.elem e j t)).0) (null G.one (G.one, first G.elem e j t) (inl refl))
        ∙ times-zero (Bar (suc q) G (suc j)) (v (others G.elem e j t)).0

    pub theta-null : (j : ℕ) → Vanishes (Bar (suc q) G j) (HasIdentity G (ahead e j)) (theta e v j)
    theta-null zero t n = ap (λ (b : Below (suc q)). times plus nil b.0 (term G.one tt)) (z t n)
        ∙ times-mod (Bar (suc q) G 0) 0 (term G.one tt)
    theta-null (suc j) t (inl k) =
        theta-step e v j t ∙ ap (λ g. cons (suc q) G j (move G g (theta e v j t.1))) k
        ∙ ap (cons (suc q) G j) (move-one G (theta e v j t.1)) ∙ cons-theta j t.1
    theta-null (suc j) t (inr k) = theta-step e v j t
        ∙ ap (λ a. cons (suc q) G j (move G t.0 a)) (theta-null j t.1 k)

    -- theta, extended linearly
    abbrev pub big : (j : ℕ) → (Bar (suc q) G (ahead e j)).of → (Bar (suc q) G j).of
    big j = extend (Tuple G.elem (ahead e j)) (HasIdentity G (ahead e j)) (Bar (suc q) G j) (theta e v j)
        (theta-null j)

    big-linear : (j : ℕ) → IsLinear (Bar (suc q) G (ahead e j)) (Bar (suc q) G j) (big j)
    big-linear j =
        extend-linear (Tuple G.elem (ahead e j)) (HasIdentity G (ahead e j)) (Bar (suc q) G j) (theta e v j)
        (theta-null j)

    big-cons : (j : ℕ) (a : (Bar (suc q) G (ahead e j)).of)
        → big (suc j) (cons (suc q) G (ahead e j) a) ≡ cons (suc q) G j (big j a)
    big-cons j =
        additive-ext (Bar (suc q) G (suc j)) (λ a. big (suc j) (cons (suc q) G (ahead e j) a))
        (λ a. cons (suc q) G j (big j a))
        (λ a b. refl) (λ a b. refl) (λ g t. move-one G (theta e v (suc j) (g, t)) ∙ theta-step e v j (g, t))

    abbrev pub val : (Bar (suc q) G e).of → Below (suc q)
    val = extend (Tuple G.elem e) (HasIdentity G e) (Fp q G) v z

    -- the value, as a multiple of the empty tuple
    abbrev spot : (Bar (suc q) G e).of → (Bar (suc q) G 0).of
    spot a = times plus nil (val a).0 (term G.one tt)

    spot-add : IsAdditive (Bar (suc q) G e) (Bar (suc q) G 0) spot
    spot-add a b = times-mod (Bar (suc q) G 0) ((val a).0 + (val b).0) (term G.one tt)
        ∙ times-sum (Bar (suc q) G 0) (val a).0 (val b).0 (term G.one tt)

    big-one : (t : Tuple G.elem e) → big 0 (term G.one t) ≡ spot (term G.one t)
    big-one t = move-one G (theta e v 0 t)

  -- at the faces of [g|t] after the first one the coefficients are units, and theta has the value there
  big-inner : (e : ℕ) (v : Tuple G.elem e → Below (suc q)) (z : Vanishes (Fp q G) (HasIdentity G e) v)
      (g : G.elem) (t : Tuple G.elem e)
      → big e v z 0 (inner (suc q) G e g t) ≡ spot e v z (inner (suc q) G e g t)
  big-inner zero v z g t = big-one zero v z t
  big-inner (suc e) v z g t =
      let B : Module (suc q) G = Bar (suc q) G (suc e) in
      let Z : Module (suc q) G = Bar (suc q) G 0 in
      let x : B.of = term G.one (G.mul g t.0, t.1) in
      let a : (Bar (suc q) G e).of = move G g (inner (suc q) G e t.0 t.1) in
      ap₂ (sub Z) (big-one (suc e) v z (G.mul g t.0, t.1))
      (additive-ext Z (λ a. big (suc e) v z 0 (cons (suc q) G e a))
      (λ a. spot (suc e) v z (cons (suc q) G e a)) (λ a b. refl)
      (λ a b. spot-add (suc e) v z (cons (suc q) G e a) (cons (suc q) G e b))
      (λ k s. big-one (suc e) v z (k, s)) a)
      ∙ sym (map-sub B Z (spot (suc e) v z) (spot-add (suc e) v z) x (cons (suc q) G e a))

  module _ (e : ℕ) (v : Tuple G.elem e → Below (suc q)) (z : Vanishes (Fp q G) (HasIdentity G e) v)
      (cocycle : (t : Tuple G.elem (suc e)) → lin (Fp q G) v (boundary q G e t) ≡ residue q 0) where
    val-bd : (t : Tuple G.elem (suc e)) → val e v z (bd (suc q) G e t) ≡ residue q 0
    val-bd t = ap (val e v z) (sym (value-boundary q G e t))
        ∙ sym (lin-value q G (Fp q G) e v z (boundary q G e t)) ∙ cocycle t

    -- the value at the later faces of [g|t] is that at t
    val-inner : (t : Tuple G.elem (suc e)) → val e v z (inner (suc q) G e t.0 t.1) ≡ v t.1
    val-inner t = sym (sub-eq (Fp q G) (v t.1) (val e v z (inner (suc q) G e t.0 t.1)) (val-bd t))

    big-commute-zero : (t : Tuple G.elem (suc e))
        → D (suc q) G 0 (theta e v 1 t) ≡ big e v z 0 (bd (suc q) G e t)
    big-commute-zero t =
        let Z : Module (suc q) G = Bar (suc q) G 0 in
        let y : Z.of = move G t.0 (theta e v 0 t.1) in
        ap (D (suc q) G 0) (theta-step e v 0 t) ∙ D-cons-zero (suc q) G y
        ∙ ap (sub Z y)
        (map-times Z Z (λ a. collapse (suc q) G (move G t.0 a)) (λ a b. refl) (v t.1).0 (term G.one tt)
        ∙ ap (λ (b : Below (suc q)). times plus nil b.0 (term G.one tt)) (sym (val-inner t))
        ∙ sym (big-inner e v z t.0 t.1))

    big-commute-from : (j : ℕ)
        → ((t : Tuple G.elem (suc (ahead e j)))
        → D (suc q) G j (big e v z (suc j) (term G.one t))
        ≡ big e v z j (D (suc q) G (ahead e j) (term G.one t)))
        → (a : (Bar (suc q) G (suc (ahead e j))).of)
        → D (suc q) G j (big e v z (suc j) a) ≡ big e v z j (D (suc q) G (ahead e j) a)
    big-commute-from j =
        linear-ext (Bar (suc q) G j) (λ a. D (suc q) G j (big e v z (suc j) a))
        (λ a. big e v z j (D (suc q) G (ahead e j) a))
        (then-linear (Bar (suc q) G (suc (ahead e j))) (Bar (suc q) G (suc j)) (Bar (suc q) G j)
        (big e v z (suc j)) (D (suc q) G j)
        (big-linear e v z (suc j)) (D-linear (suc q) G j))
        (then-linear (Bar (suc q) G (suc (ahead e j))) (Bar (suc q) G (ahead e j)) (Bar (suc q) G j)
        (D (suc q) G (ahead e j)) (big e v z j)
        (D-linear (suc q) G (ahead e j)) (big-linear e v z j))

    -- theta is a chain map
    pub big-commute : (j : ℕ) (a : (Bar (suc q) G (suc (ahead e j))).of)
        → D (suc q) G j (big e v z (suc j) a) ≡ big e v z j (D (suc q) G (ahead e j) a)
    big-commute zero =
        big-commute-from zero
        (λ t.
        ap (D (suc q) G 0) (move-one G (theta e v 1 t)) ∙ big-commute-zero t
        ∙ ap (big e v z 0) (sym (move-one G (bd (suc q) G e t))))
    big-commute (suc i) =
        big-commute-from (suc i)
        (λ t.
        let k : ℕ = ahead e i in
        let y : (Bar (suc q) G (suc k)).of = term t.0 t.1 in
        ap (D (suc q) G (suc i)) (big-cons e v z (suc i) y) ∙ D-cons (suc q) G i (big e v z (suc i) y)
        ∙ ap (λ w. sub (Bar (suc q) G (suc i)) (big e v z (suc i) y) (cons (suc q) G i w)) (big-commute i y)
        ∙ ap (sub (Bar (suc q) G (suc i)) (big e v z (suc i) y)) (sym (big-cons e v z i (D (suc q) G k y)))
        ∙ ap (big e v z (suc i)) (sym (D-cons (suc q) G k y)))

    pub theta-commute : (j : ℕ) (t : Tuple G.elem (suc (ahead e j)))
        → D (suc q) G j (theta e v (suc j) t)
        ≡ lin (Bar (suc q) G j) (theta e v j) (boundary q G (ahead e j) t)
    theta-commute j t =
        ap (D (suc q) G j) (sym (move-one G (theta e v (suc j) t))) ∙ big-commute j (term G.one t)
        ∙ ap (big e v z j) (move-one G (bd (suc q) G (ahead e j) t) ∙ sym (value-boundary q G (ahead e j) t))
        ∙ sym (lin-value q G (Bar (suc q) G j) (ahead e j) (theta e v j) (theta-null e v z j)
        (boundary q G (ahead e j) t))

    -- a cochain of degree j at theta is its cup product with v
    pub val-theta : (j : ℕ) (w : Tuple G.elem j → Below (suc q)) (y : Vanishes (Fp q G) (HasIdentity G j) w)
        (t : Tuple G.elem (ahead e j))
        → val j w y (theta e v j t) ≡ cup j e w v t
    val-theta j w y t =
        map-times (Bar (suc q) G j) (Fp q G) (val j w y) (λ a b. refl) (v (others G.elem e j t)).0
        (term G.one (first G.elem e j t))
        ∙ times-residue q (v (others G.elem e j t)).0 (w (first G.elem e j t)) ∙ ap (residue q) (mul_comm _ _)

    -- the cup product of a coboundary with a cocycle is the coboundary of the cup product
    pub cup-coboundary : (j : ℕ) (w : Tuple G.elem j → Below (suc q))
        (y : Vanishes (Fp q G) (HasIdentity G j) w) (t : Tuple G.elem (suc (ahead e j)))
        → cup (suc j) e (λ s. lin (Fp q G) w (boundary q G j s)) v t
        ≡ lin (Fp q G) (cup j e w v) (boundary q G (ahead e j) t)
    cup-coboundary j w y t =
        let B : Module (suc q) G = Bar (suc q) G j in
        let K : Module (suc q) G = Fp q G in
        let k : Tuple G.elem (suc j) → Below (suc q) = λ s. val j w y (bd (suc q) G j s) in
        let n : Vanishes K (HasIdentity G (suc j)) k = λ s m. ap (val j w y) (bd-null (suc q) G j s m) in
        ap (λ u. cup (suc j) e u v t)
        (fun_ext (λ s. lin-value q G K j w y (boundary q G j s)
        ∙ ap (val j w y) (value-boundary q G j s)))
        ∙ sym (val-theta (suc j) k n t)
        ∙ linear-ext K (val (suc j) k n) (λ a. val j w y (D (suc q) G j a))
        (extend-linear (Tuple G.elem (suc j)) (HasIdentity G (suc j)) K k n)
        (then-linear (Bar (suc q) G (suc j)) B K (D (suc q) G j) (val j w y) (D-linear (suc q) G j)
        (extend-linear (Tuple G.elem j) (HasIdentity G j) K w y))
        (λ s. ap (val j w y) (sym (move-one G (bd (suc q) G j s)))) (theta e v (suc j) t)
        ∙ ap (val j w y) (theta-commute j t)
        ∙ map-lin B K (val j w y) (extend-linear (Tuple G.elem j) (HasIdentity G j) K w y) (theta e v j)
        (boundary q G (ahead e j) t)
        ∙ ap (λ u. lin K u (boundary q G (ahead e j) t)) (fun_ext (val-theta j w y))

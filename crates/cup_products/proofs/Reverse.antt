-- The reversal of bar tuples is a chain map.
use Rattle.std.specs.Prelude.{◌≡◌, ℕ, zero, suc, refl}
use Rattle.std.proofs.Common.{sym, ◌∙◌, ap, ap₂, inl, inr}
use Rattle.group_modules.specs.Module.{Monoid, Module, sub, IsAdditive, IsLinear}
use Rattle.group_modules.proofs.Laws.{sub-add, map-neg, neg-neg, neg-add, neg-zero, swap, then-linear}
use Rattle.bar_complex.proofs.FreeModules.{term, nil, plus, minus, null, comm, sum, extend, extend-linear}
use Rattle.bar_complex.proofs.FreeModules.{additive-ext, linear-ext, move, move-one}
use Rattle.bar_complex.specs.Tuples.{Tuple, HasIdentity}
use Rattle.bar_complex.proofs.Contraction.{Bar, cons, D, D-linear, D-cons, D-cons-zero, collapse}

-- inverses in a monoid
pub record Inverse (G : Monoid) : Type 0 where
  pub inv : G.elem → G.elem
  pub inv-mul : (g : G.elem) → G.mul (inv g) g ≡ G.one
  pub mul-inv : (g : G.elem) → G.mul g (inv g) ≡ G.one

abbrev pub snoc : (E : Type 0) (d : ℕ) → Tuple E d → E → Tuple E (suc d)
snoc E zero t x = (x, t)
snoc E (suc d) t x = (t.0, snoc E d t.1 x)

abbrev pub prod : (G : Monoid) (d : ℕ) → Tuple G.elem d → G.elem
prod G zero t = G.one
prod G (suc d) t = G.mul t.0 (prod G d t.1)

module _ (p : ℕ) (G : Monoid) (I : Inverse G) where
  pub snoc-null : (d : ℕ) (t : Tuple G.elem d) (x : G.elem) → HasIdentity G d t
      → HasIdentity G (suc d) (snoc G.elem d t x)
  snoc-null zero t x z = absurd z
  snoc-null (suc d) t x (inl e) = inl e
  snoc-null (suc d) t x (inr z) = inr (snoc-null d t.1 x z)

  -- from g t to h: what is left of h
  abbrev pub left : (d : ℕ) → G.elem → G.elem → Tuple G.elem d → G.elem
  left d h g t = G.mul (I.inv (G.mul g (prod G d t))) h

  -- h at the end: g[t] goes to g[t|x], x being such that g times all entries is h
  abbrev pub end : (d : ℕ) → G.elem → (Bar p G d).of → (Bar p G (suc d)).of
  end d h = sum (Bar p G (suc d)) (λ g t. term g (snoc G.elem d t (left d h g t)))
      (λ g t z. null g (snoc G.elem d t (left d h g t)) (snoc-null d t (left d h g t) z))

  end-cons : (d : ℕ) (h : G.elem) (a : (Bar p G d).of)
      → end (suc d) h (cons p G d a) ≡ cons p G (suc d) (end d h a)
  end-cons d h =
      additive-ext (Bar p G (suc (suc d))) (λ a. end (suc d) h (cons p G d a))
      (λ a. cons p G (suc d) (end d h a)) (λ a b. refl) (λ a b. refl)
      (λ g t. ap (λ k. term G.one (g, snoc G.elem d t (G.mul (I.inv k) h)))
      (G.one-mul (G.mul g (prod G d t))))

  pub inv-unique : (g h : G.elem) → G.mul g h ≡ G.one → h ≡ I.inv g
  inv-unique g h e =
      sym (G.one-mul h) ∙ ap (λ k. G.mul k h) (sym (I.inv-mul g)) ∙ G.mul-assoc (I.inv g) g h
      ∙ ap (G.mul (I.inv g)) e
      ∙ G.mul-one (I.inv g)

  -- x (x^-1 h) = h
  pub reach : (x h : G.elem) → G.mul x (G.mul (I.inv x) h) ≡ h
  reach x h = sym (G.mul-assoc x (I.inv x) h) ∙ ap (λ k. G.mul k h) (I.mul-inv x) ∙ G.one-mul h

  -- (g x)^-1 (g h) = x^-1 h
  cancel : (g x h : G.elem) → G.mul (I.inv (G.mul g x)) (G.mul g h) ≡ G.mul (I.inv x) h
  cancel g x h =
      ap (G.mul (I.inv (G.mul g x)))
      (sym (ap (G.mul g) (reach x h)) ∙ sym (G.mul-assoc g x (G.mul (I.inv x) h)))
      ∙ sym (G.mul-assoc (I.inv (G.mul g x)) (G.mul g x) (G.mul (I.inv x) h))
      ∙ ap (λ k. G.mul k (G.mul (I.inv x) h)) (I.inv-mul (G.mul g x)) ∙ G.one-mul (G.mul (I.inv x) h)

  end-move : (d : ℕ) (g h : G.elem) (a : (Bar p G d).of)
      → end d (G.mul g h) (move G g a) ≡ move G g (end d h a)
  end-move d g h =
      additive-ext (Bar p G (suc d)) (λ a. end d (G.mul g h) (move G g a)) (λ a. move G g (end d h a))
      (λ a b. refl) (λ a b. refl)
      (λ k t.
      ap (λ x. term (G.mul g k) (snoc G.elem d t x))
      (ap (λ x. G.mul (I.inv x) (G.mul g h)) (G.mul-assoc g k (prod G d t))
      ∙ cancel g (G.mul k (prod G d t)) h))

  -- the same, with h reached by g
  end-moved : (d : ℕ) (g h : G.elem) (a : (Bar p G d).of)
      → end d h (move G g a) ≡ move G g (end d (G.mul (I.inv g) h) a)
  end-moved d g h a = ap (λ k. end d k (move G g a)) (sym (reach g h)) ∙ end-move d g (G.mul (I.inv g) h) a

  -- a, with n changes of sign
  abbrev pub flip : (d n : ℕ) → (Bar p G d).of → (Bar p G d).of
  flip d zero a = a
  flip d (suc n) a = minus (flip d n a)

  pub flip-map : (d e n : ℕ) (f : (Bar p G d).of → (Bar p G e).of) → IsAdditive (Bar p G d) (Bar p G e) f
      → (a : (Bar p G d).of)
      → f (flip d n a) ≡ flip e n (f a)
  flip-map d e zero f l a = refl
  flip-map d e (suc n) f l a = map-neg (Bar p G d) (Bar p G e) f l (flip d n a)
      ∙ ap minus (flip-map d e n f l a)

  flip-add : (d n : ℕ) → IsAdditive (Bar p G d) (Bar p G d) (flip d n)
  flip-add d zero a b = refl
  flip-add d (suc n) a b = ap minus (flip-add d n a b) ∙ neg-add (Bar p G d) (flip d n a) (flip d n b)

  flip-twice : (d n : ℕ) (a : (Bar p G d).of) → flip d n (flip d n a) ≡ a
  flip-twice d zero a = refl
  flip-twice d (suc n) a =
      ap minus (sym (flip-map d d n minus (neg-add (Bar p G d)) (flip d n a)))
      ∙ neg-neg (Bar p G d) (flip d n (flip d n a)) ∙ flip-twice d n a

  -- the boundary of a with h at the end
  end-zero : (h : G.elem) (a : (Bar p G 0).of)
      → D p G 0 (end 0 h a) ≡ sub (Bar p G 0) (move G h (collapse p G a)) a
  end-zero h =
      additive-ext (Bar p G 0) (λ a. D p G 0 (end 0 h a))
      (λ a. sub (Bar p G 0) (move G h (collapse p G a)) a) (λ a b. refl)
      (λ a b. sub-add (Bar p G 0) (move G h (collapse p G a)) (move G h (collapse p G b)) a b)
      (λ g t.
      ap₂ (λ x y. plus (term x t) (minus (term y t)))
      (ap (λ k. G.mul g (G.mul (I.inv k) h)) (G.mul-one g) ∙ reach g h ∙ sym (G.mul-one h)) (G.mul-one g))

  end-collapse : (h : G.elem) (a : (Bar p G 0).of)
      → end 0 h (collapse p G a) ≡ cons p G 0 (move G h (collapse p G a))
  end-collapse h =
      additive-ext (Bar p G 1) (λ a. end 0 h (collapse p G a)) (λ a. cons p G 0 (move G h (collapse p G a)))
      (λ a b. refl) (λ a b. refl)
      (λ g t. ap (λ x. term G.one (x, t))
      (ap (G.mul (I.inv (G.mul G.one G.one))) (sym (G.one-mul h)) ∙ cancel G.one G.one h ∙ one-left h
      ∙ sym (G.mul-one h)))
    where
      one-left : (h : G.elem) → G.mul (I.inv G.one) h ≡ h
      one-left h = ap (λ k. G.mul k h) (sym (inv-unique G.one G.one (G.one-mul G.one))) ∙ G.one-mul h

  minus-plus : (d : ℕ) (x y w : (Bar p G d).of)
      → sub (Bar p G d) x (plus y w) ≡ plus (sub (Bar p G d) x y) (minus w)
  minus-plus d x y w = ap (plus x) (neg-add (Bar p G d) y w)
      ∙ sym ((Bar p G d).add-assoc x (minus y) (minus w))

  -- the boundary of a with h at the end, from that where the contraction made a
  end-from : (e : ℕ)
      → ((h : G.elem) (z : (Bar p G e).of)
      → D p G (suc e) (end (suc e) h (cons p G e z))
      ≡ plus (end e h (D p G e (cons p G e z))) (flip (suc e) e (cons p G e z)))
      → (h : G.elem) (a : (Bar p G (suc e)).of)
      → D p G (suc e) (end (suc e) h a) ≡ plus (end e h (D p G e a)) (flip (suc e) e a)
  end-from e base h =
      let B : Module p G = Bar p G (suc e) in
      additive-ext B (λ a. D p G (suc e) (end (suc e) h a))
      (λ a. plus (end e h (D p G e a)) (flip (suc e) e a)) (λ a b. refl)
      (λ a b. ap (plus (plus (end e h (D p G e a)) (end e h (D p G e b)))) (flip-add (suc e) e a b)
      ∙ swap B (end e h (D p G e a)) (end e h (D p G e b)) (flip (suc e) e a) (flip (suc e) e b))
      (λ g t.
      let k : G.elem = G.mul (I.inv g) h in
      let y : B.of = cons p G e (term t.0 t.1) in
      let l : IsLinear (Bar p G (suc (suc e))) B (D p G (suc e)) = D-linear p G (suc e) in
      let m : IsLinear B (Bar p G e) (D p G e) = D-linear p G e in
      ap (λ x. D p G (suc e) (end (suc e) h (term x t))) (sym (G.mul-one g))
      ∙ ap (D p G (suc e)) (end-moved (suc e) g h y) ∙ l.on-act g (end (suc e) k y)
      ∙ ap (move G g) (base k (term t.0 t.1))
      ∙ ap₂ plus (sym (ap (end e h) (m.on-act g y) ∙ end-moved e g h (D p G e y)))
      (flip-map (suc e) (suc e) e (move G g) (λ a b. refl) y)
      ∙ ap (λ x. plus (end e h (D p G e (term x t))) (flip (suc e) e (term x t))) (G.mul-one g))

  pub end-suc : (e : ℕ) (h : G.elem) (a : (Bar p G (suc e)).of)
      → D p G (suc e) (end (suc e) h a) ≡ plus (end e h (D p G e a)) (flip (suc e) e a)
  end-suc zero =
      end-from zero
      (λ h z.
      let B : Module p G = Bar p G 1 in
      ap (D p G 1) (end-cons 0 h z) ∙ D-cons p G 0 (end 0 h z)
      ∙ ap (λ w. sub B (end 0 h z) (cons p G 0 w)) (end-zero h z)
      ∙ minus-plus 1 (end 0 h z) (cons p G 0 (move G h (collapse p G z))) (minus (cons p G 0 z))
      ∙ ap₂ plus
      (ap (sub B (end 0 h z)) (sym (end-collapse h z)) ∙ ap (end 0 h) (sym (D-cons-zero p G z)))
      (neg-neg B (cons p G 0 z)))
  end-suc (suc e) =
      end-from (suc e)
      (λ h z.
      let B : Module p G = Bar p G (suc (suc e)) in
      ap (D p G (suc (suc e))) (end-cons (suc e) h z) ∙ D-cons p G (suc e) (end (suc e) h z)
      ∙ ap (λ w. sub B (end (suc e) h z) (cons p G (suc e) w)) (end-suc e h z)
      ∙ minus-plus (suc (suc e)) (end (suc e) h z) (cons p G (suc e) (end e h (D p G e z)))
      (cons p G (suc e) (flip (suc e) e z))
      ∙ ap₂ plus
      (ap (sub B (end (suc e) h z)) (sym (end-cons e h (D p G e z)))
      ∙ ap (end (suc e) h) (sym (D-cons p G e z)))
      (ap minus (flip-map (suc e) (suc (suc e)) e (cons p G (suc e)) (λ a b. refl) z)))

  -- two ends that are both 1 give an entry 1
  pub prod-snoc : (d : ℕ) (t : Tuple G.elem d) (x : G.elem)
      → prod G (suc d) (snoc G.elem d t x) ≡ G.mul (prod G d t) x
  prod-snoc zero t x = G.mul-one x ∙ sym (G.one-mul x)
  prod-snoc (suc d) t x = ap (G.mul t.0) (prod-snoc d t.1 x) ∙ sym (G.mul-assoc t.0 (prod G d t.1) x)

  snoc-one : (d : ℕ) (t : Tuple G.elem d) (x : G.elem) → x ≡ G.one → HasIdentity G (suc d) (snoc G.elem d t x)
  snoc-one zero t x e = inl e
  snoc-one (suc d) t x e = inr (snoc-one d t.1 x e)

  end-end : (d : ℕ) (h : G.elem) (a : (Bar p G d).of) → end (suc d) h (end d h a) ≡ nil
  end-end d h =
      additive-ext (Bar p G (suc (suc d))) (λ a. end (suc d) h (end d h a)) (λ a. nil) (λ a b. refl)
      (λ a b. sym ((Bar p G (suc (suc d))).add-zero nil))
      (λ g t.
      let s : Tuple G.elem (suc d) = snoc G.elem d t (left d h g t) in
      null g (snoc G.elem (suc d) s (left (suc d) h g s))
      (snoc-one (suc d) s (left (suc d) h g s)
      (ap (λ k. G.mul (I.inv k) h)
      (ap (G.mul g) (prod-snoc d t (left d h g t)) ∙ sym (G.mul-assoc g (prod G d t) (left d h g t))
      ∙ reach (G.mul g (prod G d t)) h)
      ∙ I.inv-mul h)))

  flip-zero : (d n : ℕ) → flip d n nil ≡ nil
  flip-zero d zero = refl
  flip-zero d (suc n) = ap minus (flip-zero d n) ∙ neg-zero (Bar p G d)

  -- the reversal: [] stays, and [g|t] goes to the reversal of g[t], with 1 at the end, and with the sign of
  -- -1 to the power of the degree
  abbrev pub rho : (d : ℕ) → Tuple G.elem d → (Bar p G d).of
  rho zero t = term G.one t
  rho (suc d) t = flip (suc d) (suc d) (end d G.one (move G t.0 (rho d t.1)))

  end-one-rho : (d : ℕ) (t : Tuple G.elem d) → end d G.one (rho d t) ≡ nil
  end-one-rho zero t =
      null G.one (G.mul (I.inv (G.mul G.one G.one)) G.one, t)
      (inl (ap (λ k. G.mul (I.inv k) G.one) (G.one-mul G.one) ∙ I.inv-mul G.one))
  end-one-rho (suc d) t =
      flip-map (suc d) (suc (suc d)) (suc d) (end (suc d) G.one) (λ a b. refl)
      (end d G.one (move G t.0 (rho d t.1)))
      ∙ ap (flip (suc (suc d)) (suc d)) (end-end d G.one (move G t.0 (rho d t.1)))
      ∙ flip-zero (suc (suc d)) (suc d)

  pub rho-null : (d : ℕ) (t : Tuple G.elem d) → HasIdentity G d t → rho d t ≡ nil
  rho-null zero t z = absurd z
  rho-null (suc d) t (inl e) =
      ap (flip (suc d) (suc d))
      (ap (λ k. end d G.one (move G k (rho d t.1))) e ∙ ap (end d G.one) (move-one G (rho d t.1))
      ∙ end-one-rho d t.1)
      ∙ flip-zero (suc d) (suc d)
  rho-null (suc d) t (inr z) =
      ap (λ a. flip (suc d) (suc d) (end d G.one (move G t.0 a))) (rho-null d t.1 z)
      ∙ flip-zero (suc d) (suc d)

  -- the reversal, extended linearly
  abbrev pub turn : (d : ℕ) → (Bar p G d).of → (Bar p G d).of
  turn d = extend (Tuple G.elem d) (HasIdentity G d) (Bar p G d) (rho d) (rho-null d)

  pub turn-linear : (d : ℕ) → IsLinear (Bar p G d) (Bar p G d) (turn d)
  turn-linear d = extend-linear (Tuple G.elem d) (HasIdentity G d) (Bar p G d) (rho d) (rho-null d)

  turn-cons : (d : ℕ) (a : (Bar p G d).of)
      → turn (suc d) (cons p G d a) ≡ flip (suc d) (suc d) (end d G.one (turn d a))
  turn-cons d =
      additive-ext (Bar p G (suc d)) (λ a. turn (suc d) (cons p G d a))
      (λ a. flip (suc d) (suc d) (end d G.one (turn d a))) (λ a b. refl)
      (λ a b. flip-add (suc d) (suc d) (end d G.one (turn d a)) (end d G.one (turn d b)))
      (λ g t. move-one G (rho (suc d) (g, t)))

  turn-from : (d : ℕ)
      → ((y : (Bar p G d).of) → D p G d (turn (suc d) (cons p G d y)) ≡ turn d (D p G d (cons p G d y)))
      → (a : (Bar p G (suc d)).of) → D p G d (turn (suc d) a) ≡ turn d (D p G d a)
  turn-from d base =
      linear-ext (Bar p G d) (λ a. D p G d (turn (suc d) a)) (λ a. turn d (D p G d a))
      (then-linear (Bar p G (suc d)) (Bar p G (suc d)) (Bar p G d) (turn (suc d)) (D p G d)
      (turn-linear (suc d)) (D-linear p G d))
      (then-linear (Bar p G (suc d)) (Bar p G d) (Bar p G d) (D p G d) (turn d) (D-linear p G d)
      (turn-linear d))
      (λ t. base (term t.0 t.1))

  turn-same : (a : (Bar p G 0).of) → turn 0 a ≡ a
  turn-same = additive-ext (Bar p G 0) (turn 0) (λ a. a) (λ a b. refl) (λ a b. refl)
      (λ g t. ap (λ k. term k t) (G.mul-one g))

  -- the reversal is a chain map
  pub turn-commute : (d : ℕ) (a : (Bar p G (suc d)).of) → D p G d (turn (suc d) a) ≡ turn d (D p G d a)
  turn-commute zero =
      turn-from zero
      (λ y.
      let B : Module p G = Bar p G 0 in
      ap (D p G 0) (turn-cons 0 y)
      ∙ map-neg (Bar p G 1) B (D p G 0) (D-linear p G 0).on-add (end 0 G.one (turn 0 y))
      ∙ ap minus (end-zero G.one (turn 0 y)
      ∙ ap₂ (sub B) (move-one G (collapse p G (turn 0 y)) ∙ ap (collapse p G) (turn-same y))
      (turn-same y))
      ∙ neg-add B (collapse p G y) (minus y) ∙ ap (plus (minus (collapse p G y))) (neg-neg B y)
      ∙ comm (minus (collapse p G y)) y ∙ sym (turn-same (sub B y (collapse p G y)))
      ∙ ap (turn 0) (sym (D-cons-zero p G y)))
  turn-commute (suc e) =
      turn-from (suc e)
      (λ y.
      let B : Module p G = Bar p G (suc e) in
      let A : Module p G = Bar p G (suc (suc e)) in
      let l : IsLinear A B (D p G (suc e)) = D-linear p G (suc e) in
      let w : B.of = turn (suc e) y in
      ap (D p G (suc e)) (turn-cons (suc e) y)
      ∙ flip-map (suc (suc e)) (suc e) (suc (suc e)) (D p G (suc e)) l.on-add (end (suc e) G.one w)
      ∙ ap (flip (suc e) (suc (suc e))) (end-suc e G.one w)
      ∙ flip-add (suc e) (suc (suc e)) (end e G.one (D p G e w)) (flip (suc e) e w)
      ∙ ap₂ plus
      (ap minus (ap (λ x. flip (suc e) (suc e) (end e G.one x)) (turn-commute e y)
      ∙ sym (turn-cons e (D p G e y))))
      (neg-neg B (flip (suc e) e (flip (suc e) e w)) ∙ flip-twice (suc e) e w)
      ∙ comm (minus (turn (suc e) (cons p G e (D p G e y)))) w
      ∙ ap (turn (suc e)) (sym (D-cons p G e y)))

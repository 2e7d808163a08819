-- Layer 1 has few members: modulo J^2 each member of J is g - 1 for some g of the group, so p to the number of
-- members of layer 1 is at most the order.
use Rattle.std.proofs.Common.{◌≡◌, ℕ, zero, suc, ◌*◌, ◌^◌, ◌<◌, ◌≤◌, ◌⊎◌, List, [], ◌∷◌, inl, inr, arith, ap}
use Rattle.std.proofs.Common.{ap₂, sym, ◌∙◌}
use Rattle.std.proofs.Math.Nat.{pow-suc, pow-zero, le_refl}
use Rattle.std.proofs.lemmas.Bool.{cases_lt}
use Rattle.std.proofs.lemmas.Nat.{mul-le, pow_below}
use mathlib.Core.Path.{subst}
use Rattle.group_modules.specs.Module.{Module, sub, times, lin}
use Rattle.group_modules.proofs.Laws.{sub-self, sub-zero, sub-add, sub-back, neg-add, act-neg, act-times}
use Rattle.group_modules.proofs.Laws.{times-add, times-neg}
use Rattle.group_modules.specs.Field.{Below}
use Rattle.group_modules.specs.Tables.{Group, monoid, Table, terms, unit, block-sum}
use Rattle.group_modules.proofs.MapLaws.{terms-sum}
use Rattle.group_modules.specs.Sums.{below, total}
use Rattle.linear_algebra.specs.Modular.{IsFieldModulo}
use Rattle.augmentation_ideal.specs.Radical.{Moved, none, both, moved, Radical}
use Rattle.augmentation_ideal.specs.Generators.{combine, IsBasisModuloMoved}
use Rattle.augmentation_ideal.proofs.Finite.{sum, finite-below, finite-function, size-below}
use Rattle.augmentation_ideal.proofs.Generators.{Close, close-add, close-refl, close-sym, close-trans}
use Rattle.augmentation_ideal.proofs.Generators.{same-coefficients, split}
use Rattle.augmentation_ideal.proofs.Nakayama.{moved-times}
use Rattle.augmentation_ideal.proofs.Pigeonhole.{fewer-members, size-function}
use Rattle.radical_layers.specs.Coordinates.{RowForm}
use Rattle.radical_layers.specs.LayerBasis.{Layers, AreLayers}
use Rattle.radical_generators.specs.FirstLayer.{layer_size, layer_member}
use Rattle.radical_generators.proofs.Ideal.{layer-basis}

module _ {n : ℕ} (q : ℕ) (Γ : Group n) where
  abbrev T : Module (suc q) (monoid Γ)
  T = Table q Γ 1

  abbrev J : T.of → Type 0
  J v = Radical T 1 v

  abbrev Near : T.of → T.of → Type 0
  Near x y = Close T J x y

  abbrev one : 0 < 1
  one = native.Mathlib.Nat.lt-suc_self 0

  -- the unit of kG
  abbrev u : T.of
  u = unit q Γ 1 (0, one)

  -- g - 1
  abbrev D : Below n → T.of
  D g = sub T (T.act g u) u

  D-in : (g : Below n) → J (D g)
  D-in g = moved g u tt

  -- sums and differences
  telescope : (a b c : T.of) → T.add (sub T a b) (sub T b c) ≡ sub T a c
  telescope a b c = sym (T.add-assoc (sub T a b) b (T.neg c)) ∙ ap (λ w. T.add w (T.neg c)) (sub-back T a b)

  add-sub : (x y : T.of) → sub T (T.add x y) y ≡ x
  add-sub x y = T.add-assoc x y (T.neg y) ∙ ap (T.add x) (T.add-neg y) ∙ T.add-zero x

  D-one : D Γ.one ≡ T.zero
  D-one = ap (λ w. sub T w u) (T.act-one u) ∙ sub-self T u

  -- g h - 1 is (g - 1) + (h - 1) modulo J^2
  D-product : (g h : Below n) → Near (D (Γ.mul g h)) (T.add (D g) (D h))
  D-product g h = subst (Moved T J) path (moved g (D h) (D-in h))
    where
      act-D : T.act g (D h) ≡ sub T (T.act (Γ.mul g h) u) (T.act g u)
      act-D = T.act-add g (T.act h u) (T.neg u) ∙ ap₂ T.add (sym (T.act-mul g h u)) (act-neg T g u)

      whole : T.add (sub T (T.act g (D h)) (D h)) (T.add (D g) (D h)) ≡ D (Γ.mul g h)
      whole = ap (T.add (sub T (T.act g (D h)) (D h))) (T.add-comm (D g) (D h))
          ∙ sym (T.add-assoc (sub T (T.act g (D h)) (D h)) (D h) (D g))
          ∙ ap (λ w. T.add w (D g)) (sub-back T (T.act g (D h)) (D h) ∙ act-D)
          ∙ telescope (T.act (Γ.mul g h) u) (T.act g u) u

      path : sub T (T.act g (D h)) (D h) ≡ sub T (D (Γ.mul g h)) (T.add (D g) (D h))
      path = sym (add-sub (sub T (T.act g (D h)) (D h)) (T.add (D g) (D h)))
          ∙ ap (λ w. sub T w (T.add (D g) (D h))) whole

  add-near : (x y : T.of) (g h : Below n) → Near x (D g) → Near y (D h) → Near (T.add x y) (D (Γ.mul g h))
  add-near x y g h a b = close-trans T J (T.add x y) (T.add (D g) (D h)) (D (Γ.mul g h))
      (close-add T J x (D g) y (D h) a b) (close-sym T J (D (Γ.mul g h)) (T.add (D g) (D h)) (D-product g h))

  zero-near : Near T.zero (D Γ.one)
  zero-near = subst (Near T.zero) (sym D-one) (close-refl T J T.zero)

  -- c (g - 1) is h - 1 for some h
  times-near : (c : ℕ) (g : Below n) → (h : Below n) × Near (times T.add T.zero c (D g)) (D h)
  times-near zero g = (Γ.one, zero-near)
  times-near (suc c) g =
      let r = times-near c g in
      (Γ.mul g r.0, add-near (D g) (times T.add T.zero c (D g)) g r.0 (close-refl T J (D g)) r.1)

  -- the sum of the coefficients of w, and as many units
  abbrev total-of : T.of → ℕ
  total-of w = (block-sum q Γ 1 w (0, one)).0

  abbrev units-of : T.of → T.of
  units-of w = times T.add T.zero (total-of w) u

  rest-in : (w : T.of) → J (sub T w (units-of w))
  rest-in w =
      let e : combine T 1 (unit q Γ 1) (block-sum q Γ 1 w) ≡ units-of w = T.add-zero (units-of w) in
      let f : lin T (unit q Γ 1) (terms q Γ 1 w) ≡ w = terms-sum q Γ 1 w in
      subst (λ y. J (sub T w y)) e
      (subst (λ x. J (sub T x (combine T 1 (unit q Γ 1) (block-sum q Γ 1 w)))) f
      (split q Γ T (Radical T 0) 1 (unit q Γ 1) (λ i. tt) w))

  moved-units : (g : Below n) (c : ℕ)
      → sub T (T.act g (times T.add T.zero c u)) (times T.add T.zero c u) ≡ times T.add T.zero c (D g)
  moved-units g c = ap₂ T.add (act-times T g c u) (sym (times-neg T c u))
      ∙ sym (times-add T c (T.act g u) (T.neg u))

  moved-rest : (g : Below n) (w y z : T.of) → sub T (T.act g y) y ≡ z
      → sub T (T.act g (sub T w y)) (sub T w y) ≡ sub T (sub T (T.act g w) w) z
  moved-rest g w y z e = ap (λ x. sub T x (sub T w y)) (T.act-add g w (T.neg y))
      ∙ sub-add T (T.act g w) (T.act g (T.neg y)) w (T.neg y)
      ∙ ap (T.add (sub T (T.act g w) w)) (ap (λ x. T.add x (T.neg (T.neg y))) (act-neg T g y)
      ∙ sym (neg-add T (T.act g y) (T.neg y)) ∙ ap T.neg e)

  -- (g - 1) w is c (g - 1) modulo J^2, where c is that sum
  move-near : (g : Below n) (w : T.of)
      → Near (sub T (T.act g w) w) (times T.add T.zero (total-of w) (D g))
  move-near g w = subst (Moved T J)
      (moved-rest g w (units-of w) (times T.add T.zero (total-of w) (D g)) (moved-units g (total-of w)))
      (moved g (sub T w (units-of w)) (rest-in w))

  -- each member of J is g - 1 for some g modulo J^2
  near : (x : T.of) → J x → (g : Below n) × Near x (D g)
  near x none = (Γ.one, zero-near)
  near x (both {x = a} {y = b} h k) =
      let r = near a h in let s = near b k in
      (Γ.mul r.0 s.0, add-near a b r.0 s.0 r.1 s.1)
  near x (moved g w k) =
      let r = times-near (total-of w) g in (
        r.0,
        close-trans T J (sub T (T.act g w) w) (times T.add T.zero (total-of w) (D g)) (D r.0)
            (move-near g w) r.1,
      )

  -- a basis of J modulo J^2 has p^m combinations, and no two belong to one g
  module _ (m : ℕ) (row : Below m → T.of) (B : IsBasisModuloMoved T J m row) where
    combine-in : (c : Below m → Below (suc q)) → J (combine T m row c)
    combine-in c = in-list (below m)
      where
        in-list : (xs : List (Below m)) → J (total T xs (λ i. times T.add T.zero (c i).0 (row i)))
        in-list [] = none
        in-list (x ∷ xs) = both (moved-times T (Radical T 0) (c x).0 (row x) (B.members x)) (in-list xs)

    abbrev element : (Below m → Below (suc q)) → Below n
    element c = (near (combine T m row c) (combine-in c)).0

    one-to-one : (c d : Below m → Below (suc q)) → element c ≡ element d → c ≡ d
    one-to-one c d e = same-coefficients q Γ T J m row B c d
        (close-trans T J (combine T m row c) (D (element c)) (combine T m row d)
        (near (combine T m row c) (combine-in c)).1
        (close-sym T J (combine T m row d) (D (element c))
        (subst (λ g. Near (combine T m row d) (D g)) (sym e) (near (combine T m row d) (combine-in d)).1)))

    combinations-fit : suc q ^ m ≤ n
    combinations-fit = subst (λ a. a ≤ n) (size-function (finite-below (suc q)) m
        ∙ ap (λ k. k ^ m) (size-below (suc q)))
        (subst (λ b. sum (finite-function (finite-below (suc q)) m).all (λ x. 1) ≤ b) (size-below n)
        (fewer-members (finite-function (finite-below (suc q)) m) (finite-below n) element one-to-one))

twos : (p m : ℕ) → 1 < p → 2 ^ m ≤ p ^ m
twos p zero h = rw (pow-zero p) (le_refl 1)
twos p (suc m) h = rw (pow-suc 2 m, pow-suc p m) (mul-le (2 ^ m) 2 (p ^ m) p (twos p m h)
    (let z : 2 ≤ p = omega (arith, h) in z))

at-most : (m n : ℕ) → 2 ^ m ≤ n → n ≤ 256 → m ≤ 8
at-most m n h l = go (cases_lt 8 m)
  where
    go : (8 < m) ⊎ (m ≤ 8) → m ≤ 8
    go (inr k) = k
    go (inl k) = absurd (let z : 2 ^ 8 < 2 ^ m = pow_below 8 m k in omega (arith, z, h, l))

-- the group algebra of at most 256 elements has at most 8 members in layer 1
pub few-in-layer : {n : ℕ} (q : ℕ) (F : IsFieldModulo (suc q)) (Γ : Group n) (K : RowForm n (Table q Γ 1))
    (Y : Layers) → AreLayers q Γ K Y → n ≤ 256 → layer_size q Γ K Y ≤ 8
few-in-layer {n} q F Γ K Y A small =
    let fit : suc q ^ layer_size q Γ K Y ≤ n =
    combinations-fit q Γ (layer_size q Γ K Y) (λ k. layer_member q Γ K Y k.0) (layer-basis q F Γ K Y A) in
    let twos-fit : 2 ^ layer_size q Γ K Y ≤ suc q ^ layer_size q Γ K Y =
    twos (suc q) (layer_size q Γ K Y) F.above_one in
    at-most (layer_size q Γ K Y) n (omega (arith, twos-fit, fit)) small

-- The bar cochain takes products of classes to cup products, up to coboundaries. So products of classes obey
-- the laws of cup products.
use Rattle.std.specs.Prelude.{◌≡◌, ℕ, zero, suc, refl, take, drop, ◌+◌, ◌*◌}
use Rattle.std.proofs.Common.{sym, ◌∙◌, ap, ap₂, subst, arith}
use mathlib.Core.Path.{fun_ext}
use Rattle.group_modules.specs.Module.{Monoid, Module, sub, times, lin}
use Rattle.group_modules.proofs.Laws.{neg-neg, lin-add, map-lin, times-sum, times-zero, times-add}
use Rattle.group_modules.specs.Field.{Below, Fp, residue, minus, plus}
use Rattle.bar_complex.specs.Tuples.{Tuple, entries, tuple}
use Rattle.bar_comparison.proofs.Comparison.{MinimalStages, Class, comparison, bar_cocycle}
use Rattle.bar_comparison.proofs.Classes.{bar-is, bar-normal, bar-cocycle, injective, bar-add}
use Rattle.chain_maps.specs.Lifts.{ahead}
use Rattle.cup_products.proofs.Products.{product, kc-null, between, between-null, cup-product}
use Rattle.cup_products.proofs.Products.{cup-product-zero}
use Rattle.cup_products.proofs.Theta as typed
use Rattle.cup_products.proofs.Products as products
use Rattle.cup_products.proofs.Reverse.{Inverse}
use Rattle.bar_complex.specs.Cochains.{turned, cup, Cochain, AreCohomologous}
use Rattle.cup_products.proofs.GradedCocycles.{Cocycle, AreAlike}
use Rattle.cup_products.proofs.Graded.{Graded, bar, IsOdd}
use Rattle.cup_products.proofs.Graded as graded
use Rattle.bar_complex.proofs.Cohomologous.{mulK, mulK-add, near-eq, near-sym, near-trans, near-add}
use Rattle.cup_products.proofs.CupCoboundaries.{cup-list}
use Rattle.cup_products.proofs.Cocycles.{alike-sym, alike-trans, alike-eq, ahead-is, minus-lin, turn}
use Rattle.cup_products.proofs.Cocycles.{turn-cong, mul, one, mul-left, mul-right, mul-assoc, one-mul}
use Rattle.cup_products.proofs.Cocycles.{mul-one, mul-comm}

module _ {q : ℕ} {G : Monoid} (S : MinimalStages q G) where
  abbrev pub K : Module (suc q) G
  K = Fp q G

  bis : (a : Graded S) (t : Tuple G.elem a.0) → bar S a (entries a.0 t) ≡ bar_cocycle S a.0 a.1 t
  bis a t = bar-is S a.0 a.1 t

  -- the cocycle of a class
  abbrev pub cochain : Graded S → Cocycle q G
  cochain a = record {
    deg = a.0;
    at = bar S a;
    normal = bar-normal S a.0 a.1;
    cocycle = bar-cocycle S a.0 a.1;
  }

  pub near-mul : (e j : ℕ) (a : Class S j) (c : Class S e)
      → AreCohomologous q G (ahead e j) (cup q j (bar S (j, a)) (bar S (e, c)))
      (bar S (ahead e j, product S e c j a))
  near-mul e j a c = go j a
    where
      as-tuples : (j : ℕ) (a : Class S j) (t : Tuple G.elem (ahead e j))
          → cup q j (bar S (j, a)) (bar S (e, c)) (entries (ahead e j) t)
          ≡ typed.cup q G j e (bar_cocycle S j a) (bar_cocycle S e c) t
      as-tuples j a t =
          sym (cup-list q G e j (bar S (j, a)) (bar S (e, c)) t)
          ∙ ap₂ (λ u v. typed.cup q G j e u v t) (fun_ext (bis (j, a))) (fun_ext (bis (e, c)))

      go : (j : ℕ) (a : Class S j)
          → AreCohomologous q G (ahead e j) (cup q j (bar S (j, a)) (bar S (e, c)))
          (bar S (ahead e j, product S e c j a))
      go zero a =
          near-eq q G e (cup q zero (bar S (zero, a)) (bar S (e, c))) (bar S (e, product S e c zero a))
          (λ t. as-tuples zero a t ∙ cup-product-zero S e c a t ∙ sym (bis (e, product S e c zero a) t))
      go (suc j) a = (
        between S e c j a,
        between-null S e c j a,
        λ t.
            ap₂ (sub K) (as-tuples (suc j) a t) (bis (ahead e (suc j), product S e c (suc j) a) t)
            ∙ cup-product S e c j a t,
      )

  pub cochain-mul : (a c : Graded S) → AreAlike (cochain (graded.mul S a c)) (mul q G (cochain a) (cochain c))
  cochain-mul a c =
      alike-sym q G (mul q G (cochain a) (cochain c)) (cochain (graded.mul S a c))
      (record {
        same = sym (ahead-is c.0 a.0);
        near = subst (λ d. AreCohomologous q G d (cup q a.0 (bar S a) (bar S c)) (bar S (graded.mul S a c)))
            (ahead-is c.0 a.0) (near-mul c.0 a.0 a.1 c.1);
      })

  pub cochain-near : (a c : Graded S)
      → AreCohomologous q G (ahead c.0 a.0) (bar S (graded.mul S a c)) (cup q a.0 (bar S a) (bar S c))
  cochain-near a c =
      near-sym q G (ahead c.0 a.0) (cup q a.0 (bar S a) (bar S c)) (bar S (graded.mul S a c))
      (near-mul c.0 a.0 a.1 c.1)

  pub cochain-one : AreAlike (cochain (graded.one S)) (one q G)
  cochain-one =
      alike-eq q G (cochain (graded.one S)) (one q G) refl
      (λ t.
      let P : Module (suc q) G = S.exact.at 0 in
      ap (λ u. lin K u (S.terms 0 S.one))
      (fun_ext (λ i. sym (ap S.exact.augment (S.only-one i) ∙ S.augment-one)))
      ∙ sym (map-lin P K S.exact.augment S.exact.augment-linear (S.unit 0) (S.terms 0 S.one))
      ∙ ap S.exact.augment (S.terms-sum 0 S.one) ∙ S.augment-one)

  pub cochain-turn : (n : ℕ) (a : Graded S) → AreAlike (cochain (graded.turn S n a)) (turn q G n (cochain a))
  cochain-turn n a =
      alike-eq q G (cochain (graded.turn S n a)) (turn q G n (cochain a)) refl
      (λ t. minus-lin q G n a.1 (S.terms a.0 (comparison S a.0 (tuple G.one a.0 (entries a.0 t)))))

  pub graded-eq : (a c : Graded S) → AreAlike (cochain a) (cochain c) → a ≡ c
  graded-eq a c h =
      subst (λ d. (c : Class S d) → AreCohomologous q G a.0 (bar S a) (bar S (d, c))
      → ◌≡◌ {A = Graded S} a (d, c)) h.same
      (λ c h. ap (λ x. (a.0, x)) (injective S a.0 a.1 c h)) c.1 h.near

  pub one-left : (a : Graded S) → graded.mul S (graded.one S) a ≡ a
  one-left a =
      let k : Cocycle q G = cochain a in
      graded-eq (graded.mul S (graded.one S) a) a
      (alike-trans q G (cochain (graded.mul S (graded.one S) a)) (mul q G (cochain (graded.one S)) k) k
      (cochain-mul (graded.one S) a)
      (alike-trans q G (mul q G (cochain (graded.one S)) k) (mul q G (one q G) k) k
      (mul-left q G (cochain (graded.one S)) (one q G) k cochain-one)
      (one-mul q G k)))

  pub add-left : (e j : ℕ) (a b : Class S j) (c : Class S e)
      → product S e c j (graded.add S j a b)
      ≡ graded.add S (ahead e j) (product S e c j a) (product S e c j b)
  add-left e j a b c = fun_ext (λ i. lin-add K a b (S.terms j (products.lift-map S e c j i)))

  pub add-right : (e j : ℕ) (a : Class S j) (b c : Class S e)
      → product S e (graded.add S e b c) j a
      ≡ graded.add S (ahead e j) (product S e b j a) (product S e c j a)
  add-right e j a b c =
      let D : ℕ = ahead e j in
      let u : Cochain q G = bar S (j, a) in
      let x : Class S D = product S e b j a in
      let y : Class S D = product S e c j a in
      let z : Class S D = product S e (graded.add S e b c) j a in
      let m : Cochain q G = λ xs. plus q (cup q j u (bar S (e, b)) xs) (cup q j u (bar S (e, c)) xs) in
      injective S D z (graded.add S D x y)
      (near-trans q G D (bar S (D, z)) (cup q j u (bar S (e, graded.add S e b c)))
      (bar S (D, graded.add S D x y))
      (near-sym q G D (cup q j u (bar S (e, graded.add S e b c))) (bar S (D, z))
      (near-mul e j a (graded.add S e b c)))
      (near-trans q G D (cup q j u (bar S (e, graded.add S e b c))) m (bar S (D, graded.add S D x y))
      (near-eq q G D (cup q j u (bar S (e, graded.add S e b c))) m
      (λ t. ap (mulK q G (u (take j (entries D t)))) (bar-add S e b c (drop j (entries D t)))
      ∙ mulK-add q G (u (take j (entries D t))) (bar S (e, b) (drop j (entries D t)))
      (bar S (e, c) (drop j (entries D t)))))
      (near-trans q G D m (λ xs. plus q (bar S (D, x) xs) (bar S (D, y) xs)) (bar S (D, graded.add S D x y))
      (near-add q G D (cup q j u (bar S (e, b))) (bar S (D, x)) (cup q j u (bar S (e, c))) (bar S (D, y))
      (near-mul e j a b) (near-mul e j a c))
      (near-eq q G D (λ xs. plus q (bar S (D, x) xs) (bar S (D, y) xs)) (bar S (D, graded.add S D x y))
      (λ t. sym (bar-add S D x y (entries D t)))))))

  module _ (I : Inverse G) where
    pub one-right : (a : Graded S) → graded.mul S a (graded.one S) ≡ a
    one-right a =
        let k : Cocycle q G = cochain a in
        graded-eq (graded.mul S a (graded.one S)) a
        (alike-trans q G (cochain (graded.mul S a (graded.one S))) (mul q G k (cochain (graded.one S))) k
        (cochain-mul a (graded.one S))
        (alike-trans q G (mul q G k (cochain (graded.one S))) (mul q G k (one q G)) k
        (mul-right q G I k (cochain (graded.one S)) (one q G) cochain-one)
        (mul-one q G k)))

    pub assoc : (a b c : Graded S) → graded.mul S (graded.mul S a b) c ≡ graded.mul S a (graded.mul S b c)
    assoc a b c =
        let u : Cocycle q G = cochain a in
        let v : Cocycle q G = cochain b in
        let w : Cocycle q G = cochain c in
        let ab : Graded S = graded.mul S a b in
        let bc : Graded S = graded.mul S b c in
        let l : Cocycle q G = cochain (graded.mul S ab c) in
        let r : Cocycle q G = cochain (graded.mul S a bc) in
        graded-eq (graded.mul S ab c) (graded.mul S a bc)
        (alike-trans q G l (mul q G (cochain ab) w) r (cochain-mul ab c)
        (alike-trans q G (mul q G (cochain ab) w) (mul q G (mul q G u v) w) r
        (mul-left q G (cochain ab) (mul q G u v) w (cochain-mul a b))
        (alike-trans q G (mul q G (mul q G u v) w) (mul q G u (mul q G v w)) r (mul-assoc q G u v w)
        (alike-trans q G (mul q G u (mul q G v w)) (mul q G u (cochain bc)) r
        (mul-right q G I u (mul q G v w) (cochain bc)
        (alike-sym q G (cochain bc) (mul q G v w) (cochain-mul b c)))
        (alike-sym q G r (mul q G u (cochain bc)) (cochain-mul a bc))))))

    alike-commutes : (a c : Graded S)
        → AreAlike (cochain (graded.mul S a c)) (cochain (graded.turn S (a.0 * c.0) (graded.mul S c a)))
    alike-commutes a c =
        let u : Cocycle q G = cochain a in
        let v : Cocycle q G = cochain c in
        let n : ℕ = a.0 * c.0 in
        let ca : Graded S = graded.mul S c a in
        let r : Cocycle q G = cochain (graded.turn S n ca) in
        alike-trans q G (cochain (graded.mul S a c)) (mul q G u v) r (cochain-mul a c)
        (alike-trans q G (mul q G u v) (turn q G n (mul q G v u)) r (mul-comm q G I u v)
        (alike-sym q G r (turn q G n (mul q G v u))
        (alike-trans q G r (turn q G n (cochain ca)) (turn q G n (mul q G v u)) (cochain-turn n ca)
        (turn-cong q G n (cochain ca) (mul q G v u) (cochain-mul c a)))))

    pub commutes : (a c : Graded S) → graded.mul S a c ≡ graded.turn S (a.0 * c.0) (graded.mul S c a)
    commutes a c =
        graded-eq (graded.mul S a c) (graded.turn S (a.0 * c.0) (graded.mul S c a)) (alike-commutes a c)

    turned-even : (n : ℕ) (x : Below (suc q)) → turned q (n + n) x ≡ x
    turned-even zero x = refl
    turned-even (suc n) x =
        ap (λ k. turned q k x) (let f : suc n + suc n ≡ suc (suc (n + n)) = omega arith in f)
        ∙ neg-neg K (turned q (n + n) x) ∙ turned-even n x

    -- x = -x only for 0, where p is odd
    half : IsOdd (suc q) → (x : Below (suc q)) → x ≡ minus q x → x ≡ residue q 0
    half o x e =
        let k : ℕ = o.0 in
        let twice : plus q x x ≡ residue q 0 = ap (plus q x) e ∙ K.add-neg x in
        sym (K.add-zero x)
        ∙ ap (plus q x)
        (sym
        (ap (λ n. times (plus q) (residue q 0) n x)
        (let f : suc q ≡ suc (k + k) = o.1 in let g : q ≡ k + k = omega (arith, f) in g)
        ∙ times-sum K k k x ∙ sym (times-add K k x x) ∙ ap (times (plus q) (residue q 0) k) twice
        ∙ times-zero K k))
        ∙ K.times-p x

    -- the square of a class of odd degree is 0, where p is odd
    pub odd-square : IsOdd (suc q) → (d : ℕ) → IsOdd d → (a : Class S d)
        → product S d a d a ≡ (λ i. residue q 0)
    odd-square o d od a =
        let m : ℕ = od.0 in
        let k : ℕ = m * m + m * m + (m + m) in
        let c : Class S (ahead d d) = product S d a d a in
        let odd : d * d ≡ suc (k + k) =
        (ap (λ n. n * n) od.1
        ∙ (let f : suc (m + m) * suc (m + m)
        ≡ suc ((m * m + m * m + (m + m)) + (m * m + m * m + (m + m))) = omega arith in f)) in
        let e : c ≡ (λ i. turned q (d * d) (c i)) =
        injective S (ahead d d) c (λ i. turned q (d * d) (c i)) (alike-commutes (d, a) (d, a)).near in
        fun_ext (λ i. half o (c i)
        (ap (λ f. f i) e ∙ ap (λ n. turned q n (c i)) odd ∙ ap (minus q) (turned-even k (c i))))

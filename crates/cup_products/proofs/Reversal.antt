-- The reversal on cochains, and the cup product of two cochains in the other order. Cochains are functions
-- on lists here.
use Rattle.std.specs.Prelude.{◌≡◌, ℕ, zero, suc, refl, List, [], ◌∷◌, ◌++◌, length, take, drop, ◌+◌, ◌*◌}
use Rattle.std.proofs.Common.{sym, ◌∙◌, ap, ap₂, arith, append_assoc, length-append, mul_comm}
use Rattle.std.proofs.lemmas.List.{append-nil}
use Rattle.std.proofs.Math.Seq.{take-append_seam, drop-append_seam}
use Rattle.group_modules.specs.Module.{Monoid, Module, sub, IsAdditive, IsLinear, lin}
use Rattle.group_modules.proofs.Laws.{map-neg, map-sub, map-lin, zero-add, times-neg, then-linear}
use Rattle.group_modules.proofs.Laws.{zero-linear}
use Rattle.group_modules.specs.Field.{Below, Fp, residue, minus}
use Rattle.linear_algebra.proofs.Residues.{times-residue}
use Rattle.bar_complex.proofs.FreeModules.{term, null, extend, extend-linear, linear-ext, move, move-one}
use Rattle.bar_complex.specs.Tuples.{Tuple, HasIdentity, entries}
use Rattle.bar_complex.proofs.Contraction.{Bar, bd, D, D-linear}
use Rattle.bar_complex.specs.Boundary.{boundary}
use Rattle.bar_complex.proofs.FormalBoundary.{bar-complex, lin-value, value-boundary}
use Rattle.bar_complex.proofs.ExactBar.{bar-exact}
use Rattle.bar_complex.proofs.Complexes.{Vanishes, IsChainMap, homotopic, homotopy}
use Rattle.bar_complex.specs.Cochains as lists
use Rattle.bar_complex.specs.Cochains.{turned}
use Rattle.cup_products.proofs.Reverse.{Inverse, snoc, prod, prod-snoc, inv-unique, reach, flip, flip-map}
use Rattle.cup_products.proofs.Reverse.{end, rho, rho-null, turn, turn-commute}

module _ (q : ℕ) (G : Monoid) (I : Inverse G) where
  -- the inverses in the other order
  abbrev pub rev : (d : ℕ) → Tuple G.elem d → Tuple G.elem d
  rev zero t = t
  rev (suc d) t = snoc G.elem d (rev d t.1) (I.inv t.0)

  inv-of-mul : (g h : G.elem) → G.mul (I.inv h) (I.inv g) ≡ I.inv (G.mul g h)
  inv-of-mul g h =
      inv-unique (suc q) G I (G.mul g h) (G.mul (I.inv h) (I.inv g))
      (G.mul-assoc g h (G.mul (I.inv h) (I.inv g)) ∙ ap (G.mul g) (reach (suc q) G I h (I.inv g))
      ∙ I.mul-inv g)

  prod-rev : (d : ℕ) (t : Tuple G.elem d) → prod G d (rev d t) ≡ I.inv (prod G d t)
  prod-rev zero t = inv-unique (suc q) G I G.one G.one (G.one-mul G.one)
  prod-rev (suc d) t =
      prod-snoc (suc q) G I d (rev d t.1) (I.inv t.0) ∙ ap (λ k. G.mul k (I.inv t.0)) (prod-rev d t.1)
      ∙ inv-of-mul t.0 (prod G d t.1)

  -- x with the sign of -1 to the power d(d + 1)/2
  abbrev pub spin : (e d : ℕ) → (Bar (suc q) G e).of → (Bar (suc q) G e).of
  spin e zero a = a
  spin e (suc d) a = flip (suc q) G I e (suc d) (spin e d a)

  spin-map : (e f d : ℕ) (k : (Bar (suc q) G e).of → (Bar (suc q) G f).of)
      → IsAdditive (Bar (suc q) G e) (Bar (suc q) G f) k
      → (a : (Bar (suc q) G e).of) → k (spin e d a) ≡ spin f d (k a)
  spin-map e f zero k l a = refl
  spin-map e f (suc d) k l a =
      flip-map (suc q) G I e f (suc d) k l (spin e d a)
      ∙ ap (flip (suc q) G I f (suc d)) (spin-map e f d k l a)

  -- the reversal's formula
  pub rho-formula : (d : ℕ) (t : Tuple G.elem d)
      → rho (suc q) G I d t ≡ spin d d (term (prod G d t) (rev d t))
  rho-formula zero t = refl
  rho-formula (suc d) t =
      let P : G.elem = prod G d t.1 in
      ap (flip (suc q) G I (suc d) (suc d))
      (ap (λ a. end (suc q) G I d G.one (move G t.0 a)) (rho-formula d t.1)
      ∙ spin-map d (suc d) d (λ a. end (suc q) G I d G.one (move G t.0 a)) (λ a b. refl) (term P (rev d t.1))
      ∙ ap (λ x. spin (suc d) d (term (G.mul t.0 P) (snoc G.elem d (rev d t.1) x)))
      (ap (λ k. G.mul (I.inv k) G.one)
      (G.mul-assoc t.0 P (prod G d (rev d t.1))
      ∙ ap (G.mul t.0) (ap (G.mul P) (prod-rev d t.1) ∙ I.mul-inv P) ∙ G.mul-one t.0)
      ∙ G.mul-one (I.inv t.0)))

  abbrev pub K : Module (suc q) G
  K = Fp q G

  -- 1 + 2 + .. + d
  abbrev pub triangle : ℕ → ℕ
  triangle zero = 0
  triangle (suc d) = suc d + triangle d

  pub turned-sum : (m n : ℕ) (a : Below (suc q)) → turned q (m + n) a ≡ turned q m (turned q n a)
  turned-sum zero n a = ap (λ k. turned q k a) (let e : 0 + n ≡ n = omega arith in e)
  turned-sum (suc m) n a =
      ap (λ k. turned q k a) (let e : suc m + n ≡ suc (m + n) = omega arith in e)
      ∙ ap (minus q) (turned-sum m n a)

  flip-value : (e n : ℕ) (f : (Bar (suc q) G e).of → Below (suc q)) → IsAdditive (Bar (suc q) G e) K f
      → (a : (Bar (suc q) G e).of)
      → f (flip (suc q) G I e n a) ≡ turned q n (f a)
  flip-value e zero f l a = refl
  flip-value e (suc n) f l a = map-neg (Bar (suc q) G e) K f l (flip (suc q) G I e n a)
      ∙ ap (minus q) (flip-value e n f l a)

  spin-value : (e d : ℕ) (f : (Bar (suc q) G e).of → Below (suc q)) → IsAdditive (Bar (suc q) G e) K f
      → (a : (Bar (suc q) G e).of)
      → f (spin e d a) ≡ turned q (triangle d) (f a)
  spin-value e zero f l a = refl
  spin-value e (suc d) f l a =
      flip-value e (suc d) f l (spin e d a) ∙ ap (turned q (suc d)) (spin-value e d f l a)
      ∙ sym (turned-sum (suc d) (triangle d) (f a))

  -- a cochain at an element of the bar complex
  abbrev pub val : (d : ℕ) (u : Tuple G.elem d → Below (suc q)) → Vanishes K (HasIdentity G d) u
      → (Bar (suc q) G d).of → Below (suc q)
  val d u z = extend (Tuple G.elem d) (HasIdentity G d) K u z

  val-linear : (d : ℕ) (u : Tuple G.elem d → Below (suc q)) (z : Vanishes K (HasIdentity G d) u)
      → IsLinear (Bar (suc q) G d) K (val d u z)
  val-linear d u z = extend-linear (Tuple G.elem d) (HasIdentity G d) K u z

  -- a cochain at the reversal
  pub val-rho : (d : ℕ) (u : Tuple G.elem d → Below (suc q)) (z : Vanishes K (HasIdentity G d) u)
      (t : Tuple G.elem d)
      → val d u z (rho (suc q) G I d t) ≡ turned q (triangle d) (u (rev d t))
  val-rho d u z t = ap (val d u z) (rho-formula d t)
      ∙ spin-value d d (val d u z) (λ a b. refl) (term (prod G d t) (rev d t))

  pub rho-map : IsChainMap (bar-complex q G) (bar-exact q G) (rho (suc q) G I)
  rho-map = record {
    vanish = rho-null (suc q) G I;
    commute = λ d t.
        ap (D (suc q) G d) (sym (move-one G (rho (suc q) G I (suc d) t)))
        ∙ turn-commute (suc q) G I d (term G.one t)
        ∙ ap (turn (suc q) G I d) (move-one G (bd (suc q) G d t) ∙ sym (value-boundary q G d t))
        ∙ sym (lin-value q G (Bar (suc q) G d) d (rho (suc q) G I d) (rho-null (suc q) G I d)
        (boundary q G d t));
  }

  abbrev pub same : (d : ℕ) → Tuple G.elem d → (Bar (suc q) G d).of
  same d t = term G.one t

  pub same-map : IsChainMap (bar-complex q G) (bar-exact q G) same
  same-map = record {
    vanish = λ d t n. null G.one t n;
    commute = λ d t. move-one G (bd (suc q) G d t)
        ∙ sym (value-boundary q G d t);
  }

  -- a cocycle differs by a coboundary from its reversal
  pub reversal : (d : ℕ) (u : Tuple G.elem (suc d) → Below (suc q)) (z : Vanishes K (HasIdentity G (suc d)) u)
      → ((t : Tuple G.elem (suc (suc d))) → lin K u (boundary q G (suc d) t) ≡ residue q 0)
      → (t : Tuple G.elem (suc d))
      → sub K (turned q (triangle (suc d)) (u (rev (suc d) t))) (u t)
      ≡ lin K (λ s. val (suc d) u z (homotopy (bar-complex q G) (bar-exact q G) (rho (suc q) G I) same d s))
      (boundary q G d t)
  reversal d u z cocycle t =
      let B : Module (suc q) G = Bar (suc q) G (suc d) in
      let A : Module (suc q) G = Bar (suc q) G (suc (suc d)) in
      let h : (d : ℕ) → Tuple G.elem d
      → (Bar (suc q) G (suc d)).of = homotopy (bar-complex q G) (bar-exact q G) (rho (suc q) G I) same in
      let l : IsLinear B K (val (suc d) u z) = val-linear (suc d) u z in
      ap (λ x. sub K x (u t)) (sym (val-rho (suc d) u z t))
      ∙ sym (map-sub B K (val (suc d) u z) l.on-add (rho (suc q) G I (suc d) t) (same (suc d) t))
      ∙ ap (val (suc d) u z)
      (sym (homotopic (bar-complex q G) (bar-exact q G) (rho (suc q) G I) same rho-map same-map
      (λ t. refl) d t))
      ∙ l.on-add (D (suc q) G (suc d) (h (suc d) t)) (lin B (h d) (boundary q G d t))
      ∙ ap₂ K.add
      (linear-ext K (λ a. val (suc d) u z (D (suc q) G (suc d) a)) (λ a. K.zero)
      (then-linear A B K (D (suc q) G (suc d)) (val (suc d) u z) (D-linear (suc q) G (suc d)) l)
      (zero-linear A K)
      (λ x.
      ap (val (suc d) u z) (move-one G (bd (suc q) G (suc d) x) ∙ sym (value-boundary q G (suc d) x))
      ∙ sym (lin-value q G K (suc d) u z (boundary q G (suc d) x)) ∙ cocycle x)
      (h (suc d) t))
      (map-lin B K (val (suc d) u z) l (h d) (boundary q G d t))
      ∙ zero-add K _

  -- the inverses in the other order, on lists
  abbrev pub back : List G.elem → List G.elem
  back [] = []
  back (x ∷ xs) = back xs ++ (I.inv x ∷ [])

  entries-snoc : (d : ℕ) (t : Tuple G.elem d) (x : G.elem)
      → entries (suc d) (snoc G.elem d t x) ≡ entries d t ++ (x ∷ [])
  entries-snoc zero t x = refl
  entries-snoc (suc d) t x = ap (λ xs. t.0 ∷ xs) (entries-snoc d t.1 x)

  pub entries-rev : (d : ℕ) (t : Tuple G.elem d) → entries d (rev d t) ≡ back (entries d t)
  entries-rev zero t = refl
  entries-rev (suc d) t = entries-snoc d (rev d t.1) (I.inv t.0)
      ∙ ap (λ xs. xs ++ (I.inv t.0 ∷ [])) (entries-rev d t.1)

  pub back-append : (xs ys : List G.elem) → back (xs ++ ys) ≡ back ys ++ back xs
  back-append [] ys = sym (append-nil (back ys))
  back-append (x ∷ xs) ys = ap (λ zs. zs ++ (I.inv x ∷ [])) (back-append xs ys)
      ∙ append_assoc (back ys) (back xs) (I.inv x ∷ [])

  pub back-length : (xs : List G.elem) → length (back xs) ≡ length xs
  back-length [] = refl
  back-length (x ∷ xs) = length-append (back xs) (I.inv x ∷ []) ∙ ap (λ n. n + 1) (back-length xs)
      ∙ (let e : length xs + 1 ≡ suc (length xs) = omega arith in e)

  -- the cup product of cochains on lists, the first of degree j
  abbrev pub cup : ℕ → (u v : List G.elem → Below (suc q)) → List G.elem → Below (suc q)
  cup j u v xs = lists.cup q j u v xs

  -- the reversal of a cochain of degree d
  abbrev pub reversed : ℕ → (List G.elem → Below (suc q)) → List G.elem → Below (suc q)
  reversed d u xs = turned q (triangle d) (u (back xs))

  triangle-sum : (j e : ℕ) → triangle (j + e) ≡ (triangle e + triangle j) + j * e
  triangle-sum zero e = ap triangle (let f : 0 + e ≡ e = omega arith in f)
      ∙ (let f : triangle e ≡ (triangle e + 0) + 0 * e = omega arith in f)
  triangle-sum (suc j) e =
      ap triangle (let f : suc j + e ≡ suc (j + e) = omega arith in f)
      ∙ ap (λ n. suc (j + e) + n) (triangle-sum j e)
      ∙ (let f : suc (j + e) + ((triangle e + triangle j) + j * e)
      ≡ (triangle e + (suc j + triangle j)) + suc j * e = omega arith in f)

  pub minus-right : (a b : Below (suc q)) → residue q (a.0 * (minus q b).0) ≡ minus q (residue q (a.0 * b.0))
  minus-right a b = sym (times-residue q a.0 (minus q b)) ∙ times-neg K a.0 b
      ∙ ap (minus q) (times-residue q a.0 b)

  pub minus-left : (a b : Below (suc q)) → residue q ((minus q a).0 * b.0) ≡ minus q (residue q (a.0 * b.0))
  minus-left a b =
      ap (residue q) (mul_comm (minus q a).0 b.0) ∙ minus-right b a
      ∙ ap (λ k. minus q (residue q k)) (mul_comm b.0 a.0)

  pub turned-right : (n : ℕ) (a b : Below (suc q))
      → residue q (a.0 * (turned q n b).0) ≡ turned q n (residue q (a.0 * b.0))
  turned-right zero a b = refl
  turned-right (suc n) a b = minus-right a (turned q n b) ∙ ap (minus q) (turned-right n a b)

  pub product-turned : (m n : ℕ) (a b : Below (suc q))
      → residue q ((turned q m a).0 * (turned q n b).0) ≡ turned q (m + n) (residue q (a.0 * b.0))
  product-turned zero n a b =
      turned-right n a b ∙ ap (λ k. turned q k (residue q (a.0 * b.0))) (let e : n ≡ 0 + n = omega arith in e)
  product-turned (suc m) n a b =
      minus-left (turned q m a) (turned q n b) ∙ ap (minus q) (product-turned m n a b)
      ∙ ap (λ k. turned q k (residue q (a.0 * b.0))) (let e : suc (m + n) ≡ suc m + n = omega arith in e)

  -- the cup product in the other order
  pub cup-reversed : (j e : ℕ) (u v : List G.elem → Below (suc q)) (xs ys : List G.elem) → length xs ≡ e
      → length ys ≡ j
      → turned q (j * e) (cup e (reversed e v) (reversed j u) (xs ++ ys))
      ≡ reversed (j + e) (cup j u v) (xs ++ ys)
  cup-reversed j e u v xs ys hx hy =
      ap (turned q (j * e))
      (ap₂ (λ a b. residue q (a.0 * b.0))
      (ap (reversed e v) (ap (λ n. take n (xs ++ ys)) (sym hx) ∙ take-append_seam xs ys))
      (ap (reversed j u) (ap (λ n. drop n (xs ++ ys)) (sym hx) ∙ drop-append_seam xs ys))
      ∙ product-turned (triangle e) (triangle j) (v (back xs)) (u (back ys)))
      ∙ sym (turned-sum (j * e) (triangle e + triangle j) _)
      ∙ ap₂ (turned q)
      ((let f : j * e + (triangle e + triangle j) ≡ (triangle e + triangle j) + j * e = omega arith in f)
      ∙ sym (triangle-sum j e))
      (ap (residue q) (mul_comm (v (back xs)).0 (u (back ys)).0)
      ∙ sym
      (ap₂ (λ a b. residue q (a.0 * b.0))
      (ap u (ap (take j) (back-append xs ys)
      ∙ ap (λ n. take n (back ys ++ back xs)) (sym (back-length ys ∙ hy))
      ∙ take-append_seam (back ys) (back xs)))
      (ap v (ap (drop j) (back-append xs ys)
      ∙ ap (λ n. drop n (back ys ++ back xs)) (sym (back-length ys ∙ hy))
      ∙ drop-append_seam (back ys) (back xs)))))

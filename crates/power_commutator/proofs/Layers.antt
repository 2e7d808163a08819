-- Where the tests hold, each layer is a group in which the relations hold.
use Rattle.std.proofs.Common.{◌≡◌, ℕ, zero, suc, refl, sym, ◌∙◌, ap, ap₂, ◌+◌, ◌-◌, ◌%◌, ◌<◌, ◌≤◌, arith}
use Rattle.std.proofs.Common.{if◌then◌else◌, ◌⊎◌, inl, inr, List, ◌∷◌, drop, length, eq-eqb, ne_eqb}
use Rattle.std.proofs.Math.Seq.{drop-cons}
use Rattle.power_commutator.specs.Presentations.{Presentation, IsWord, IsPresentation, pow, iterate}
use Rattle.power_commutator.specs.Presentations.{ascending, power_word, commutator_word}
use Rattle.power_commutator.proofs.Group.{IsGroup, IsHom, one-mul, iterate-hom, iterate-fixed, map-pow}
use Rattle.power_commutator.proofs.Tuples.{Below, residue, none, residue-small, residue-is, Tuple, list-of}
use Rattle.power_commutator.proofs.Tuples.{tuple-of, identity-tuple, generator-tuple, Among, conj-ascending}
use Rattle.power_commutator.proofs.Tuples.{ascending-same, map-ascending}
use Rattle.power_commutator.proofs.Cyclic.{less-or, put, put-less, put-more, ext-group}
use Rattle.power_commutator.proofs.Dyck.{word, image, twisted, times, value, Respects, value-identity}
use Rattle.power_commutator.proofs.Dyck.{value-generator, value-hom}

-- the tests of layer i hold
pub record Holds (q : ℕ) (P : Presentation) (i m : ℕ) : Type 0 where
  pub power : (j : ℕ) → Among (suc i) m j
      → pow (times q P (suc i) m) (identity-tuple q m)
      (twisted q P i m (times q P (suc i) m) (generator-tuple q (suc i) m j)) (suc q)
      ≡ twisted q P i m (times q P (suc i) m) (word q i m (power_word P j))
  pub swap : (j k : ℕ) → Among (suc i) m j → Among (suc i) m k → j < k
      → times q P (suc i) m (twisted q P i m (times q P (suc i) m) (generator-tuple q (suc i) m k))
      (twisted q P i m (times q P (suc i) m) (generator-tuple q (suc i) m j))
      ≡ times q P (suc i) m (times q P (suc i) m
      (twisted q P i m (times q P (suc i) m) (generator-tuple q (suc i) m j))
      (twisted q P i m (times q P (suc i) m) (generator-tuple q (suc i) m k)))
      (twisted q P i m (times q P (suc i) m) (word q i m (commutator_word P k j)))
  pub fixed : twisted q P i m (times q P (suc i) m) (word q i m (power_word P i)) ≡ word q i m
      (power_word P i)
  pub twist : (j : ℕ) → Among (suc i) m j
      → times q P (suc i) m (word q i m (power_word P i))
      (iterate (twisted q P i m (times q P (suc i) m)) (suc q) (generator-tuple q (suc i) m j))
      ≡ times q P (suc i) m (generator-tuple q (suc i) m j) (word q i m (power_word P i))

-- the tests of the layers of the m generators from g_i on hold
abbrev pub AllHold : (q : ℕ) → Presentation → (i m : ℕ) → Type 0
AllHold q P i zero = Unit {0}
AllHold q P i (suc m) = AllHold q P (suc i) m × Holds q P i m

-- the layer after g_d, of m generators
pub record Layer (q : ℕ) (P : Presentation) (d m : ℕ) : Type 0 where
  pub group : IsGroup (identity-tuple q m) (times q P (suc d) m)
  pub spans : (x : Tuple q m) → ascending (times q P (suc d) m) (identity-tuple q m)
      (generator-tuple q (suc d) m) (suc d) (list-of q m x) ≡ x
  pub power : (j : ℕ) → Among (suc d) m j
      → pow (times q P (suc d) m) (identity-tuple q m) (generator-tuple q (suc d) m j) (suc q) ≡ word q d m
      (power_word P j)
  pub swap : (j k : ℕ) → Among (suc d) m j → Among (suc d) m k → j < k
      → times q P (suc d) m (generator-tuple q (suc d) m k) (generator-tuple q (suc d) m j)
      ≡ times q P (suc d) m (generator-tuple q (suc d) m j)
      (times q P (suc d) m (generator-tuple q (suc d) m k) (word q d m (commutator_word P k j)))

-- a word with no generator up to g_j, in two layers before g_j
pub word-step : (q p n j : ℕ) (w : List ℕ) → IsWord p n j w → (i m : ℕ) → i < j → i + suc m ≡ n
    → word q i (suc m) w ≡ (none q, word q (suc i) m w)
word-step q p n j w v i m h e =
    ap (tuple-of q (suc m)) (drop-cons w i 0 (let l : length w ≡ n = v.len in omega (arith, l, e))
    ∙ ap (λ t. t ∷ drop (suc i) w) (v.later i h))
    ∙ ap (λ a. (a, word q (suc i) m w)) (residue-is q 0 (none q) refl)

pub generator-past : (q i m k : ℕ) → k < i → generator-tuple q i m k ≡ identity-tuple q m
generator-past q i zero k h = refl
generator-past q i (suc m) k h =
    ap₂ (λ a t. (a, t)) (ap (λ b. if b then (residue q 1) else (none q))
    (ne_eqb i k (λ e. let h' : k < i = h in omega (arith, e, h'))))
    (generator-past q (suc i) m k (let h' : k < i = h in omega (arith, h')))

module _ (q : ℕ) (r : 1 < suc q) (P : Presentation) (v : IsPresentation P) (d m : ℕ)
    (n-is : suc d + m ≡ P.gens)
    (L : Layer q P (suc d) m) (T : Holds q P (suc d) m) where
  abbrev mul : Tuple q m → Tuple q m → Tuple q m
  mul = times q P (suc (suc d)) m

  abbrev one : Tuple q m
  one = identity-tuple q m

  abbrev g : ℕ → Tuple q m
  g = generator-tuple q (suc (suc d)) m

  abbrev f : Tuple q m → Tuple q m
  f = twisted q P (suc d) m mul

  abbrev w : Tuple q m
  w = word q (suc d) m (power_word P (suc d))

  abbrev u : ℕ → Tuple q m
  u = image q P (suc d) m mul

  f-generator : (j : ℕ) → Among (suc (suc d)) m j → f (g j) ≡ u j
  f-generator j a = value-generator q P L.group u (suc (suc d)) m j a r

  -- words after g_j have one image in the layer after g_(d+1) and in the layer after g_e
  Link : (e s : ℕ) → Type 0
  Link e s = (j : ℕ) (w : List ℕ) → IsWord P.prime P.gens j w → e ≤ j
      → f (word q (suc d) m w) ≡ value q P L.group u (suc e) s (word q e s w)

  link-step : (e s : ℕ) → e + suc s ≡ P.gens → Link e (suc s) → Link (suc e) s
  unfolding Link
  link-step e s n-is l j w x h =
      l j w x (let h' : suc e ≤ j = h in omega (arith, h'))
      ∙ ap (value q P L.group u (suc e) (suc s)) (word-step q P.prime P.gens j w x e s h n-is)
      ∙ one-mul L.group _

  respects : (s e : ℕ) → e + s ≡ P.gens → suc d ≤ e → Link e s → Respects q P L.group u (suc e) s
  unfolding Link
  respects zero e n-s h l = tt
  respects (suc s) e n-s h l = (
    ap (λ x. pow mul one x (suc q)) (sym (f-generator (suc e) at)) ∙ T.power (suc e) at
        ∙ next (suc e) (power_word P (suc e)) (v.power (suc e) (omega arith) (omega (arith, n-s)))
        (omega arith),
    λ k a.
        let b : Among (suc (suc d)) m k = (
          let c = a.0 in omega (arith, h, c),
          let c = a.1 in omega (arith, c, n-s, n-is),
        ) in
        ap₂ mul (sym (f-generator k b)) (sym (f-generator (suc e) at))
        ∙ T.swap (suc e) k at b a.0
        ∙ ap₂ mul (ap₂ mul (f-generator (suc e) at) (f-generator k b))
        (next k (commutator_word P k (suc e))
        (v.commutator k (suc e) (omega arith) a.0 (let c = a.1 in omega (arith, c, n-s)))
        (let c = a.0 in omega (arith, c)))
        ∙ L.group.mul-assoc _ _ _,
    respects s (suc e) (omega (arith, n-s)) (omega (arith, h)) next,
  )
    where
      at : Among (suc (suc d)) m (suc e)
      at = (omega (arith, h), omega (arith, n-s, n-is))

      next : Link (suc e) s
      next = link-step e s n-s l

  f-hom : IsHom mul mul f
  unfolding Link
  f-hom = value-hom q P L.group u r (suc (suc d)) m (respects m (suc d) n-is (omega arith) (λ j w x h. refl))

  f-one : f one ≡ one
  f-one = value-identity q P L.group u (suc (suc d)) m

  twist-all : (x : Tuple q m) → mul w (iterate f (suc q) x) ≡ mul x w
  twist-all x =
      ap (λ s. mul w (iterate f (suc q) s)) (sym (L.spans x))
      ∙ ap (mul w) (map-ascending one mul one mul (iterate f (suc q)) (iterate-hom mul f f-hom (suc q))
      (iterate-fixed f one f-one (suc q)) g (suc (suc d)) (list-of q m x))
      ∙ sym (conj-ascending q L.group g (λ j. iterate f (suc q) (g j)) w (suc (suc d)) m
      (λ j a. sym (T.twist j a)) x)
      ∙ ap (λ s. mul s w) (L.spans x)

  pub next-group : IsGroup (identity-tuple q (suc m)) (times q P (suc d) (suc m))
  next-group = ext-group q L.group f w f-hom T.fixed twist-all

  -- the layer itself
  abbrev big : Tuple q (suc m) → Tuple q (suc m) → Tuple q (suc m)
  big = times q P (suc d) (suc m)

  abbrev unit : Tuple q (suc m)
  unit = identity-tuple q (suc m)

  abbrev top : ℕ → Tuple q (suc m)
  top = generator-tuple q (suc d) (suc m)

  abbrev emb : Tuple q m → Tuple q (suc m)
  emb x = (none q, x)

  emb-hom : IsHom mul big emb
  emb-hom x y =
      sym (put-less q mul w (0 + 0) (mul x y) (omega arith)
      ∙ ap (λ a. (a, mul x y)) (residue-is q (0 + 0) (none q) refl))

  top-later : (k : ℕ) → suc d < k → top k ≡ emb (g k)
  top-later k h = ap (λ b. (if b then (residue q 1) else (none q), g k))
      (ne_eqb (suc d) k (λ e. let h' : suc d < k = h in omega (arith, e, h')))

  top-first : top (suc d) ≡ (residue q 1, one)
  top-first =
      ap₂ (λ a t. (a, t)) (ap (λ b. if b then (residue q 1) else (none q)) (eq-eqb (suc d) (suc d) refl))
      (generator-past q (suc (suc d)) m (suc d) (omega arith))

  f-ones : (e : ℕ) → mul (iterate f e one) one ≡ one
  f-ones e = L.group.mul-one _ ∙ iterate-fixed f one f-one e

  power-first : (e : ℕ) → e < suc q → pow big unit (top (suc d)) e ≡ (residue q e, one)
  power-first zero h = ap (λ a. (a, one)) (sym (residue-is q 0 (none q) refl))
  power-first (suc e) h =
      ap₂ big top-first (power-first e (omega (arith, h)))
      ∙ ap₂ (put q mul w) (ap₂ (λ a b. a + b) (residue-small q 1 r) (residue-small q e (omega (arith, h))))
      (f-ones (e % suc q))
      ∙ put-less q mul w (1 + e) one (omega (arith, h))
      ∙ ap (λ n. (residue q n, one)) (omega arith)

  after-first : (a : Below (suc q)) (x : Tuple q m) → big (a, one) (emb x) ≡ (a, x)
  after-first a x =
      put-less q mul w (a.0 + 0) (mul one x) (let h : a.0 < suc q = a.1 in omega (arith, h))
      ∙ ap₂ (λ b t. (b, t)) (residue-is q (a.0 + 0) a (omega arith)) (one-mul L.group x)

  next-spans : (x : Tuple q (suc m)) → ascending big unit top (suc d) (list-of q (suc m) x) ≡ x
  next-spans x =
      ap₂ big (power-first x.0.0 x.0.1 ∙ ap (λ a. (a, one)) (residue-is q x.0.0 x.0 refl))
      (ascending-same q unit big top (λ k. emb (g k)) (suc (suc d)) m (λ k a. top-later k a.0) x.1
      ∙ sym (map-ascending one mul unit big emb emb-hom refl g (suc (suc d)) (list-of q m x.1))
      ∙ ap emb (L.spans x.1))
      ∙ after-first x.0 x.1

  word-emb : (j : ℕ) (x : List ℕ) → IsWord P.prime P.gens j x → d < j
      → word q d (suc m) x ≡ emb (word q (suc d) m x)
  word-emb j x z h = word-step q P.prime P.gens j x z d m h (omega (arith, n-is))

  next-power : (j : ℕ) → Among (suc d) (suc m) j
      → pow big unit (top j) (suc q) ≡ word q d (suc m) (power_word P j)
  next-power j a = go (less-or (suc d) j)
    where
      z : IsWord P.prime P.gens j (power_word P j)
      z = v.power j (let b = a.0 in omega (arith, b)) (let b = a.1 in omega (arith, b, n-is))

      go : (suc d < j) ⊎ (j ≤ suc d) → pow big unit (top j) (suc q) ≡ word q d (suc m) (power_word P j)
      go (inl h) =
          ap (λ x. pow big unit x (suc q)) (top-later j h)
          ∙ sym (map-pow one mul unit big emb emb-hom refl (g j) (suc q))
          ∙ ap emb (L.power j (h, let b = a.1 in omega (arith, b)))
          ∙ sym (word-emb j (power_word P j) z a.0)
      go (inr h) =
          let e : suc d ≡ j = let b = a.0 in omega (arith, b, h) in
          ap (λ k. pow big unit (top k) (suc q)) (sym e)
          ∙ ap₂ big top-first (power-first q (omega arith))
          ∙ ap₂ (put q mul w) (ap₂ (λ a b. a + b) (residue-small q 1 r) (residue-small q q (omega arith)))
          (f-ones (q % suc q))
          ∙ put-more q mul w (1 + q) one (omega arith)
          ∙ ap₂ (λ a t. (a, t)) (residue-is q (1 + q - suc q) (none q) (omega arith)) (L.group.mul-one w)
          ∙ ap (λ k. emb (word q (suc d) m (power_word P k))) e
          ∙ sym (word-emb j (power_word P j) z a.0)

  next-swap : (j k : ℕ) → Among (suc d) (suc m) j → Among (suc d) (suc m) k → j < k
      → big (top k) (top j) ≡ big (top j) (big (top k) (word q d (suc m) (commutator_word P k j)))
  next-swap j k a b s = go (less-or (suc d) j)
    where
      z : IsWord P.prime P.gens k (commutator_word P k j)
      z = v.commutator k j (let c = a.0 in omega (arith, c)) s (let c = b.1 in omega (arith, c, n-is))

      later : suc d < k
      later = let c = a.0 in let c' : j < k = s in omega (arith, c, c')

      at : Among (suc (suc d)) m k
      at = (later, let c = b.1 in omega (arith, c))

      c-emb : word q d (suc m) (commutator_word P k j) ≡ emb (word q (suc d) m (commutator_word P k j))
      c-emb = word-emb k (commutator_word P k j) z b.0

      right : big (top k) (word q d (suc m) (commutator_word P k j)) ≡ emb
          (mul (g k) (word q (suc d) m (commutator_word P k j)))
      right = ap₂ big (top-later k later) c-emb
          ∙ sym (emb-hom (g k) (word q (suc d) m (commutator_word P k j)))

      go : (suc d < j) ⊎ (j ≤ suc d) → big (top k) (top j) ≡ big (top j)
          (big (top k) (word q d (suc m) (commutator_word P k j)))
      go (inl h) =
          ap₂ big (top-later k later) (top-later j h) ∙ sym (emb-hom (g k) (g j))
          ∙ ap emb (L.swap j k (h, let c = a.1 in omega (arith, c)) at s)
          ∙ emb-hom (g j) (mul (g k) (word q (suc d) m (commutator_word P k j)))
          ∙ ap₂ big (sym (top-later j h)) (sym right)
      go (inr h) =
          let e : suc d ≡ j = let c = a.0 in omega (arith, c, h) in
          ap₂ big (top-later k later) (ap top (sym e) ∙ top-first)
          ∙ ap (λ n. put q mul w (0 + n) (mul (iterate f n (g k)) one)) (residue-small q 1 r)
          ∙ put-less q mul w (0 + 1) _ r
          ∙ ap₂ (λ a t. (a, t)) (ap (residue q) (let o : 0 + 1 ≡ 1 = refl in o)) (L.group.mul-one _
          ∙ f-generator k at ∙ ap (λ t. mul (g k) (word q (suc d) m (commutator_word P k t))) e)
          ∙ sym (after-first (residue q 1) _)
          ∙ ap₂ big (sym top-first ∙ ap top e) (sym right)

  pub next-layer : Layer q P d (suc m)
  next-layer = record { group = next-group; spans = next-spans; power = next-power; swap = next-swap }

-- the last layer, and then each one
pub layers : (q : ℕ) → 1 < suc q → (P : Presentation) → IsPresentation P → (d m : ℕ) → d + m ≡ P.gens
    → AllHold q P (suc d) m → Layer q P d m
layers q r P v d zero n-is t = record {
  group = record { inv = λ x. x; mul-one = λ x. refl; mul-assoc = λ x y z. refl; mul-inv = λ x. refl };
  spans = λ x. refl;
  power = λ j a. refl;
  swap = λ j k a b s. refl;
}
layers q r P v d (suc m) n-is t =
    next-layer q r P v d m (omega (arith, n-is)) (layers q r P v (suc d) m (omega (arith, n-is)) t.0) t.1

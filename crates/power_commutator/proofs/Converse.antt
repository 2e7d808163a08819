-- Where a group of p^n elements with generators satisfies the relations, no test is false.
use Rattle.std.proofs.Common.{◌≡◌, ℕ, zero, suc, pred, refl, sym, ◌∙◌, ap, ap₂, ◌+◌, ◌-◌, ◌^◌, ◌%◌, ◌<◌, ◌≤◌}
use Rattle.std.proofs.Common.{arith, List, None, mod-lt, mod-eq_of_lt}
use Rattle.power_commutator.specs.Presentations.{Presentation, IsWord, IsPresentation, pow, iterate}
use Rattle.power_commutator.specs.Presentations.{ascending, tests, first_fault, number, word_of, power_word}
use Rattle.power_commutator.specs.Presentations.{commutator_word}
use Rattle.power_commutator.specs.Claims.{Realisation, Generated, has_one, has_generator, has_product}
use Rattle.power_commutator.specs.Claims.{has_inverse}
use Rattle.group_table.specs.Groups.{IsGroup as IsTableGroup}
use Rattle.power_commutator.proofs.Group.{IsGroup, IsHom, one-mul, cancel, conj-pow, pow-last, pow-add}
use Rattle.power_commutator.proofs.Group.{map-pow}
use Rattle.power_commutator.proofs.Tuples.{Below, below-path, none, residue, residue-small, Tuple, list-of}
use Rattle.power_commutator.proofs.Tuples.{tuple-of, tuple-list, identity-tuple, generator-tuple, Among}
use Rattle.power_commutator.proofs.Tuples.{ascending-same, map-ascending}
use Rattle.power_commutator.proofs.Dyck.{word, twisted, times, value, Respects, value-identity}
use Rattle.power_commutator.proofs.Dyck.{value-generator, value-hom, value-twisted, value-iterate}
use Rattle.power_commutator.proofs.Layers.{Holds, AllHold, word-step}
use Rattle.power_commutator.proofs.Tests.{each-none, hold-all}
use Rattle.power_commutator.proofs.Lists.{list-word, list-inj}
use Rattle.power_commutator.proofs.Numbers.{list-below, word-number-list}
use Rattle.group_table.proofs.Pigeonhole.{Into}
use Rattle.power_commutator.proofs.OntoMaps.{onto-one}

module _ (q : ℕ) (r : 1 < suc q) (P : Presentation) (v : IsPresentation P) {B : Type 0} {one : B} {mul : B → B
    → B} (H : IsGroup one mul) (u : ℕ → B) where
  abbrev val : (i m : ℕ) → Tuple q m → B
  val = value q P H u

  -- the relations, read in the layer after g_d
  pub record Relate (d m : ℕ) : Type 0 where
    pub power : (j : ℕ) → Among (suc d) m j
        → pow mul one (u j) (suc q) ≡ val (suc d) m (word q d m (power_word P j))
    pub swap : (j k : ℕ) → Among (suc d) m j → Among (suc d) m k → j < k
        → mul (u k) (u j) ≡ mul (u j) (mul (u k) (val (suc d) m (word q d m (commutator_word P k j))))

  -- a word after the first generator has the same value in the next layer
  val-step : (j : ℕ) (w : List ℕ) → IsWord P.prime P.gens j w → (d m : ℕ) → d < j → d + suc m ≡ P.gens
      → val (suc d) (suc m) (word q d (suc m) w) ≡ val (suc (suc d)) m (word q (suc d) m w)
  val-step j w x d m h e = ap (val (suc d) (suc m)) (word-step q P.prime P.gens j w x d m h e) ∙ one-mul H _

  relate-next : (d m : ℕ) → d + suc m ≡ P.gens → Relate d (suc m) → Relate (suc d) m
  relate-next d m e R = record {
    power = λ j a.
        R.power j (let b = a.0 in omega (arith, b), let b = a.1 in omega (arith, b))
        ∙ val-step j (power_word P j) (v.power j (let b = a.0 in omega (arith, b))
        (let b = a.1 in omega (arith, b, e))) d m (let b = a.0 in omega (arith, b)) e;
    swap = λ j k a b l.
        R.swap j k (
          let c = a.0 in omega (arith, c),
          let c = a.1 in omega (arith, c),
        ) (
          let c = b.0 in omega (arith, c),
          let c = b.1 in
              omega (arith, c),
        ) l
        ∙ ap (λ t. mul (u j) (mul (u k) t))
        (val-step k (commutator_word P k j)
        (v.commutator k j (let c = a.0 in omega (arith, c)) l (let c = b.1 in omega (arith, c, e))) d m
        (let c = b.0 in omega (arith, c)) e);
  }

  pub respects : (m d : ℕ) → d + m ≡ P.gens → Relate d m → Respects q P H u (suc d) m
  respects zero d e R = tt
  respects (suc m) d e R = (
    R.power (suc d) (omega arith, omega arith)
        ∙ val-step (suc d) (power_word P (suc d)) (v.power (suc d) (omega arith) (omega (arith, e))) d m
        (omega arith) e,
    λ k a.
        R.swap (suc d) k (omega arith, omega arith) (
          let b = a.0 in omega (arith, b),
          let b = a.1 in omega (arith, b),
        ) a.0
        ∙ ap (λ t. mul (u (suc d)) (mul (u k) t))
        (val-step k (commutator_word P k (suc d))
        (v.commutator k (suc d) (omega arith) a.0 (let b = a.1 in omega (arith, b, e))) d m
        (let b = a.0 in omega (arith, b)) e),
    respects m (suc d) (omega (arith, e)) (relate-next d m e R),
  )

  -- x' is the conjugate of x by t
  abbrev Conj : B → B → B → Type 0
  Conj t x x' = mul x t ≡ mul t x'

  conj-mul : (t x x' y y' : B) → Conj t x x' → Conj t y y' → Conj t (mul x y) (mul x' y')
  conj-mul t x x' y y' h k =
      H.mul-assoc x y t ∙ ap (mul x) k ∙ sym (H.mul-assoc x t y') ∙ ap (λ s. mul s y') h ∙ H.mul-assoc t x' y'

  conj-same : (t x x' y y' : B) → Conj t x x' → Conj t y y' → x ≡ y → x' ≡ y'
  conj-same t x x' y y' h k e = cancel H t x' y' (sym h ∙ ap (λ s. mul s t) e ∙ k)

  -- the test of the layer after g_d, m generators being left after g_(d+1)
  module _ (d m : ℕ) (e : d + suc m ≡ P.gens) (R : Relate d (suc m))
      (inj : (x y : Tuple q m) → val (suc (suc d)) m x ≡ val (suc (suc d)) m y → x ≡ y) where
    abbrev op : Tuple q m → Tuple q m → Tuple q m
    op = times q P (suc (suc d)) m

    abbrev unit : Tuple q m
    unit = identity-tuple q m

    abbrev f : Tuple q m → Tuple q m
    f = twisted q P (suc d) m op

    abbrev g : ℕ → Tuple q m
    g = generator-tuple q (suc (suc d)) m

    abbrev ψ : Tuple q m → B
    ψ = val (suc (suc d)) m

    abbrev t : B
    t = u (suc d)

    abbrev w : Tuple q m
    w = word q (suc d) m (power_word P (suc d))

    next : Relate (suc d) m
    next = relate-next d m e R

    hom : IsHom op mul ψ
    hom = value-hom q P H u r (suc (suc d)) m (respects m (suc d) (omega (arith, e)) next)

    all : Respects q P H u (suc d) (suc m)
    all = respects (suc m) d e R

    conj : (x : Tuple q m) → Conj t (ψ x) (ψ (f x))
    conj x = value-twisted q P H u r (suc d) m all hom x

    gen : (j : ℕ) → Among (suc (suc d)) m j → ψ (g j) ≡ u j
    gen j a = value-generator q P H u (suc (suc d)) m j a r

    on-pow : (x : Tuple q m) (k : ℕ) → ψ (pow op unit x k) ≡ pow mul one (ψ x) k
    on-pow x k = map-pow unit op one mul ψ hom (value-identity q P H u (suc (suc d)) m) x k

    pub holds : Holds q P (suc d) m
    holds = record {
      power = λ j a. inj _ _
          (on-pow (f (g j)) (suc q)
          ∙ conj-same t (pow mul one (ψ (g j)) (suc q)) _ (ψ (word q (suc d) m (power_word P j))) _
          (conj-pow H (ψ (g j)) (ψ (f (g j))) t (conj (g j)) (suc q))
          (conj (word q (suc d) m (power_word P j)))
          (ap (λ s. pow mul one s (suc q)) (gen j a) ∙ next.power j a));
      swap = λ j k a b l. inj _ _
          (hom (f (g k)) (f (g j))
          ∙ conj-same t (mul (ψ (g k)) (ψ (g j))) (mul (ψ (f (g k))) (ψ (f (g j))))
          (mul (mul (ψ (g j)) (ψ (g k))) (ψ (word q (suc d) m (commutator_word P k j))))
          (mul (mul (ψ (f (g j))) (ψ (f (g k)))) (ψ (f (word q (suc d) m (commutator_word P k j)))))
          (conj-mul t _ _ _ _ (conj (g k)) (conj (g j)))
          (conj-mul t _ _ _ _ (conj-mul t _ _ _ _ (conj (g j)) (conj (g k)))
          (conj (word q (suc d) m (commutator_word P k j))))
          (ap₂ mul (gen k b) (gen j a) ∙ next.swap j k a b l
          ∙ sym (H.mul-assoc _ _ _) ∙ ap (λ s. mul s (ψ (word q (suc d) m (commutator_word P k j))))
          (ap₂ mul (sym (gen j a)) (sym (gen k b))))
          ∙ sym (hom (op (f (g j)) (f (g k))) _
          ∙ ap (λ s. mul s (ψ (f (word q (suc d) m (commutator_word P k j)))))
          (hom (f (g j)) (f (g k)))));
      fixed = inj _ _
          (conj-same t (ψ w) (ψ (f w)) (pow mul one t (suc q)) (pow mul one t (suc q)) (conj w)
          (sym (pow-last H t (suc q))) (sym all.0)
          ∙ all.0);
      twist = λ j a. inj _ _
          (hom w _ ∙ ap (λ s. mul s (ψ (iterate f (suc q) (g j)))) (sym all.0)
          ∙ sym (value-iterate q P H u r (suc d) m all hom (suc q) (g j))
          ∙ ap (mul (ψ (g j))) all.0 ∙ sym (hom (g j) w));
    }

  -- the value is one to one on each layer, since it is on the first
  pub all-tests : (m d : ℕ) → d + m ≡ P.gens → Relate d m
      → ((x y : Tuple q m) → val (suc d) m x ≡ val (suc d) m y → x ≡ y) → AllHold q P (suc d) m
  all-tests zero d e R inj = tt
  all-tests (suc m) d e R inj =
      let below : (x y : Tuple q m) → val (suc (suc d)) m x ≡ val (suc (suc d)) m y → x ≡ y =
      λ x y h. ap (λ a. a.1) (inj (none q, x) (none q, y) (one-mul H _ ∙ h ∙ sym (one-mul H _))) in
      (all-tests m (suc d) (omega (arith, e)) (relate-next d m e R) below, holds d m e R below)

-- the inverse of (a, x), from inverses in the next layer
inverse-by : (q : ℕ) (P : Presentation) (i m : ℕ) → (Tuple q m → Tuple q m) → ℕ → Tuple q m → Tuple q (suc m)
inverse-by q P i m inv zero x = (none q, inv x)
inverse-by q P i m inv (suc k) x = (
  residue q (q - k),
  inv (times q P (suc i) m (word q i m (power_word P i))
      (iterate (twisted q P i m (times q P (suc i) m)) (q - k) x)),
)

inverse-step : (q : ℕ) (r : 1 < suc q) (P : Presentation) {B : Type 0} {one : B} {mul : B → B
    → B} (H : IsGroup one mul) (u : ℕ → B) (m i : ℕ)
    (t : Respects q P H u i (suc m)) (inv : Tuple q m → Tuple q m)
    → ((x : Tuple q m) → mul (value q P H u (suc i) m x) (value q P H u (suc i) m (inv x)) ≡ one)
    → (k : ℕ) (h : k < suc q) (x : Tuple q m)
    → mul (value q P H u i (suc m) ((k, h), x)) (value q P H u i (suc m) (inverse-by q P i m inv k x)) ≡ one
unfolding inverse-by
inverse-step q r P {B} {one = one} {mul = mul} H u m i t inv ok zero h x = ap₂ mul (one-mul H _) (one-mul H _)
    ∙ ok x
inverse-step q r P {B} {one = one} {mul = mul} H u m i t inv ok (suc k) h x =
    ap (λ n. mul (mul (pow mul one (u i) (suc k)) (ψ x)) (mul (pow mul one (u i) n) (ψ (inv z))))
    (residue-small q (q - k) (omega arith))
    ∙ H.mul-assoc _ _ _
    ∙ ap (mul (pow mul one (u i) (suc k))) (sym (H.mul-assoc _ _ _)
    ∙ ap (λ s. mul s (ψ (inv z))) (value-iterate q P H u r i m t ih (q - k) x) ∙ H.mul-assoc _ _ _)
    ∙ sym (H.mul-assoc _ _ _)
    ∙ ap₂ mul (sym (pow-add H (u i) (suc k) (q - k))
    ∙ ap (pow mul one (u i)) (let h' : suc k < suc q = h in let e : suc k + (q - k) ≡ suc q = omega
    (arith, h') in e) ∙ t.0) refl
    ∙ sym (H.mul-assoc _ _ _) ∙ ap (λ s. mul s (ψ (inv z))) (sym (ih _ _)) ∙ ok z
  where
    ψ : Tuple q m → B
    ψ = value q P H u (suc i) m

    ih : IsHom (times q P (suc i) m) mul (value q P H u (suc i) m)
    ih = value-hom q P H u r (suc i) m t.2

    z : Tuple q m
    z = times q P (suc i) m (word q i m (power_word P i))
        (iterate (twisted q P i m (times q P (suc i) m)) (q - k) x)

-- an element whose value is the inverse of that of x
pub inverse-tuple : (q : ℕ) (P : Presentation) (i m : ℕ) → Tuple q m → Tuple q m
inverse-tuple q P i zero x = tt
inverse-tuple q P i (suc m) x =
    inverse-by q P i m (inverse-tuple q P (suc i) m) x.0.0 x.1

pub value-inverse : (q : ℕ) (r : 1 < suc q) (P : Presentation) {B : Type 0} {one : B} {mul : B → B
    → B} (H : IsGroup one mul) (u : ℕ → B) (m i : ℕ)
    → Respects q P H u i m → (x : Tuple q m)
    → mul (value q P H u i m x) (value q P H u i m (inverse-tuple q P i m x)) ≡ one
unfolding inverse-tuple
value-inverse q r P H u zero i t x = H.mul-one _
value-inverse q r P H u (suc m) i t x =
    inverse-step q r P H u m i t (inverse-tuple q P (suc i) m)
    (value-inverse q r P H u m (suc i) t.2) x.0.0 x.0.1 x.1

-- a group of numbers, with its elements as numbers below n
pub table-elements : (n : ℕ) (mul : ℕ → ℕ → ℕ) (γ : IsTableGroup n mul)
    → IsGroup {A = Below n} (0, γ.some) (λ a b. (mul a.0 b.0, γ.closed a.0 b.0 a.1 b.1))
table-elements n mul γ = record {
  inv = λ a. let i = γ.inverse a.0 a.1 in (i.0, i.1);
  mul-one = λ a. below-path _ a (γ.mul-one a.0 a.1);
  mul-assoc = λ a b c. below-path _ _ (γ.mul-assoc a.0 b.0 c.0 a.1 b.1 c.1);
  mul-inv = λ a. below-path _ _ ((γ.inverse a.0 a.1).2);
}

module _ (q : ℕ) (r : 1 < suc q) (P : Presentation) (p-is : P.prime ≡ suc q) (v : IsPresentation P)
    (R : Realisation P) where
  abbrev N : ℕ
  N = P.prime ^ P.gens

  abbrev n : ℕ
  n = P.gens

  abbrev one : Below N
  one = (0, R.group.some)

  abbrev mul : Below N → Below N → Below N
  mul a b = (R.mul a.0 b.0, R.group.closed a.0 b.0 a.1 b.1)

  abbrev H : IsGroup one mul
  H = table-elements N R.mul R.group

  abbrev u : ℕ → Below N
  u i = (R.h i % N, mod-lt (R.h i) R.group.some)

  u-is : (i : ℕ) → 0 < i → i ≤ n → (u i).0 ≡ R.h i
  u-is i h l = mod-eq_of_lt (R.h-below i h l)

  abbrev φ : Tuple q P.gens → Below (P.prime ^ P.gens)
  φ = value q P H u 1 P.gens

  φ-word : (j : ℕ) (w : List ℕ) → IsWord P.prime n j w → (φ (word q 0 n w)).0 ≡ ascending R.mul 0 R.h 1 w
  φ-word j w x =
      map-ascending one mul 0 R.mul (λ b. b.0) (λ a b. refl) refl u 1 (list-of q n (word q 0 n w))
      ∙ ascending-same q 0 R.mul (λ i. (u i).0) R.h 1 n (λ i a. u-is i a.0 (let b = a.1 in omega (arith, b)))
      (word q 0 n w)
      ∙ ap (ascending R.mul 0 R.h 1) (list-word q P.prime n j w p-is x 0 n (omega arith))

  relate : Relate q r P v H u 0 n
  relate = record {
    power = λ j a.
        let l : j ≤ n = let b = a.1 in omega (arith, b) in
        below-path _ _
        (map-pow one mul 0 R.mul (λ b. b.0) (λ a b. refl) refl (u j) (suc q)
        ∙ ap₂ (pow R.mul 0) (u-is j a.0 l) (sym p-is) ∙ R.power j a.0 l
        ∙ sym (φ-word j (power_word P j) (v.power j a.0 l)));
    swap = λ j k a b s.
        let k-in : k ≤ n = let c = b.1 in omega (arith, c) in
        let j-in : j ≤ n = let c = a.1 in omega (arith, c) in
        below-path _ _
        (ap₂ R.mul (u-is k b.0 k-in) (u-is j a.0 j-in) ∙ R.commutator k j a.0 s k-in
        ∙ sym (ap₂ R.mul (u-is j a.0 j-in)
        (ap₂ R.mul (u-is k b.0 k-in) (φ-word k (commutator_word P k j) (v.commutator k j a.0 s k-in)))));
  }

  φ-hom : IsHom (times q P 1 n) mul φ
  φ-hom = value-hom q P H u r 1 n (respects q r P v H u n 0 (omega arith) relate)

  onto : (a : ℕ) → Generated R.mul R.h P.gens N a → (x : Tuple q n) × ((φ x).0 ≡ a)
  onto a has_one = (identity-tuple q n, ap (λ b. b.0) (value-identity q P H u 1 n))
  onto a (has_generator i h l) = (
    generator-tuple q 1 n i,
    ap (λ b. b.0) (value-generator q P H u 1 n i (h, omega (arith, l)) r)
        ∙ u-is i h l,
  )
  onto c (has_product a b g k) =
      let x = onto a g in
      let y = onto b k in
      (times q P 1 n x.0 y.0, ap (λ b. b.0) (φ-hom x.0 y.0) ∙ ap₂ R.mul x.1 y.1)
  onto c (has_inverse a b g l e) =
      let x = onto a g in
      let y = inverse-tuple q P 1 n x.0 in (
        y,
        ap (λ b. b.0)
            (cancel H (φ x.0) (φ y) (b, l)
            (value-inverse q r P H u n 1 (respects q r P v H u n 0 (omega arith) relate) x.0
            ∙ sym (below-path (mul (φ x.0) (b, l)) one (ap (λ t. R.mul t b) x.1 ∙ e)))),
      )

  preimage : (b : Below N) → (x : Tuple q n) × ((φ x).0 ≡ b.0)
  preimage b = onto b.0 (R.generated b.0 b.1)

  -- the value of the element with a number, and the number of a preimage
  by-number : ℕ → ℕ
  by-number k = (φ (tuple-of q n (word_of (suc q) n k))).0

  back : ℕ → ℕ
  back a = number (suc q) (list-of q n (preimage (a % N, mod-lt a R.group.some)).0)

  by-number-list : (x : Tuple q n) → by-number (number (suc q) (list-of q n x)) ≡ (φ x).0
  unfolding by-number
  by-number-list x = ap (λ t. (φ t).0) (ap (tuple-of q n) (word-number-list q n x) ∙ tuple-list q n x)

  back-into : Into back N N
  unfolding back
  back-into a h =
      let l : number (suc q) (list-of q n (preimage (a % N, mod-lt a R.group.some)).0) < suc q ^ n =
      list-below q n _ in
      let e : P.prime ^ n ≡ suc q ^ n = ap (λ p. p ^ n) p-is in
      omega (arith, l, e)

  by-number-into : Into by-number N N
  unfolding by-number
  by-number-into k h = (φ (tuple-of q n (word_of (suc q) n k))).1

  by-number-back : (a : ℕ) → a < N → by-number (back a) ≡ a
  unfolding back
  by-number-back a h =
      by-number-list (preimage (a % N, mod-lt a R.group.some)).0 ∙ (preimage (a % N, mod-lt a R.group.some)).1
      ∙ mod-eq_of_lt h

  number-in : (x : Tuple q n) → number (suc q) (list-of q n x) < N
  number-in x = let l : number (suc q) (list-of q n x) < suc q ^ n = list-below q n x in
      let e : P.prime ^ n ≡ suc q ^ n = ap (λ p. p ^ n) p-is in omega (arith, l, e)

  φ-inj : (x y : Tuple q n) → φ x ≡ φ y → x ≡ y
  φ-inj x y h =
      list-inj q n x y
      (sym (word-number-list q n x)
      ∙ ap (word_of (suc q) n)
      (onto-one N by-number back back-into by-number-back by-number-into (number (suc q) (list-of q n x))
      (number (suc q) (list-of q n y)) (number-in x) (number-in y)
      (by-number-list x ∙ ap (λ b. b.0) h ∙ sym (by-number-list y)))
      ∙ word-number-list q n y)

  pub realised : first_fault P ≡ None
  realised =
      each-none (tests P 1 n)
      (hold-all q r P p-is v 1 n (omega arith) (omega arith)
      (all-tests q r P v H u n 0 (omega arith) relate φ-inj))

pub no-fault : (P : Presentation) → 1 < P.prime → IsPresentation P → Realisation P → first_fault P ≡ None
no-fault P s v R = realised (pred P.prime) (omega (arith, s)) P (omega (arith, s)) v R

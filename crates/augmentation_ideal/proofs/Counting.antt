-- A set on which a group of p^e elements acts with no fixed point has a multiple of p members.
use Rattle.std.specs.Prelude.{◌≡◌, ◌≢◌, ℕ, zero, suc, refl, ◌+◌, ◌*◌, ◌%◌, ◌/◌, ◌<◌, ◌≤◌, ◌⊎◌, ◌^◌, Bool}
use Rattle.std.specs.Prelude.{true, false, not, ◌&&◌}
use Rattle.std.proofs.Common.{sym, ◌∙◌, ap, arith, inl, inr}
use Rattle.std.proofs.lemmas.Bool.{and_from, and_parts, false_from_ne_true, true≢false}
use Rattle.std.proofs.Math.Nat.{div-add-mod, mul-mod_right, zero-mod, pow-suc, pow-zero, add-mod-mod}
use Rattle.std.proofs.Math.Nat.{mul-div_cancel_left}
use Rattle.group_modules.specs.Field.{Below}
use Rattle.group_modules.specs.Tables.{Group}
use Rattle.augmentation_ideal.proofs.Finite.{bit, sum, tell, same-test, sum-same, sum-add, sum-scale}
use Rattle.augmentation_ideal.proofs.Finite.{sum-zero, sum-le, sum-swap, Finite, same-of, pick, search-all}
use Rattle.augmentation_ideal.proofs.Finite.{some, some-at, some-from, some-none, finite-below, size-below}
use Rattle.group_modules.specs.Sums.{below}
use Rattle.augmentation_ideal.specs.Primes.{IsPrime}

-- a divisor of p^e other than 1 is a multiple of p
pub divides-power : (p : ℕ) → IsPrime p → (e a b : ℕ) → a * b ≡ p ^ e → a ≢ 1 → a % p ≡ 0
divides-power p P zero a b h o = absurd (o (one a b (h ∙ pow-zero p)))
  where
    one : (a b : ℕ) → a * b ≡ 1 → a ≡ 1
    one zero b h = absurd (let z : 0 * b ≡ 0 = omega arith in omega (arith, h, z))
    one (suc a) zero h = absurd (let z : suc a * 0 ≡ 0 = omega arith in omega (arith, h, z))
    one (suc a) (suc b) h = let z : suc a * suc b ≡ suc (a + b + a * b) = omega arith in omega (arith, h, z)
divides-power p P (suc e) a b h o = at (P.no-zero-divisors a b (ap (λ k. k % p) whole
    ∙ mul-mod_right p (p ^ e))) (λ c k. divides-power p P e a c k o)
  where
    whole : a * b ≡ p * p ^ e
    whole = h ∙ pow-suc p e ∙ (let c : p ^ e * p ≡ p * p ^ e = omega arith in c)

    at : (a % p ≡ 0) ⊎ (b % p ≡ 0) → ((c : ℕ) → a * c ≡ p ^ e → a % p ≡ 0) → a % p ≡ 0
    at (inl z) ih = z
    at (inr z) ih = ih (b / p) (cancel (a * (b / p)) (p ^ e) (positive P.above-one) (product (b / p) split))
      where
        positive : 1 < p → 0 < p
        positive l = omega arith

        cancel : (x y : ℕ) → 0 < p → p * x ≡ p * y → x ≡ y
        cancel x y l k = sym (mul-div_cancel_left x l) ∙ ap (λ m. m / p) k ∙ mul-div_cancel_left y l

        split : b ≡ p * (b / p)
        split = sym (div-add-mod b p) ∙ ap (λ k. p * (b / p) + k) z
            ∙ (let k : p * (b / p) + 0 ≡ p * (b / p) = omega arith in k)

        product : (c : ℕ) → b ≡ p * c → p * (a * c) ≡ p * p ^ e
        product c k = (let m : p * (a * c) ≡ a * (p * c) = omega arith in m) ∙ ap (λ x. a * x) (sym k) ∙ whole

module _ {n : ℕ} (Γ : Group n) {X : Type 0} (F : Finite X) (act : Below n → X → X) where
  -- the group acts on the members that pass the test
  pub record Acts (P : X → Bool) : Type 0 where
    pub stays : (g : Below n) (x : X) → P x ≡ true → P (act g x) ≡ true
    pub one : (x : X) → P x ≡ true → act Γ.one x ≡ x
    pub mul : (g h : Below n) (x : X) → P x ≡ true → act (Γ.mul g h) x ≡ act g (act h x)

  abbrev pub G : Finite (Below n)
  G = finite-below n

  -- a sum over the group is a sum over the translated group
  translate : (h : Below n) (f : Below n → ℕ) → sum (below n) (λ g. f (Γ.mul h g)) ≡ sum (below n) f
  translate h f =
      sum-same (below n) (λ g. f (Γ.mul h g)) (λ g. sum (below n) (λ k. bit (G.same (Γ.mul h g) k) * f k))
      (λ g. sym (pick G (Γ.mul h g) f))
      ∙ sum-swap (below n) (below n) (λ g k. bit (G.same (Γ.mul h g) k) * f k)
      ∙ sum-same (below n) (λ k. sum (below n) (λ g. bit (G.same (Γ.mul h g) k) * f k)) f
      (λ k. sum-scale (below n) (λ g. bit (G.same (Γ.mul h g) k)) (f k)
      ∙ ap (λ m. m * f k) (sum-same (below n) (λ g. bit (G.same (Γ.mul h g) k))
      (λ g. bit (G.same (Γ.mul (Γ.inv h) k) g)) (λ g. ap bit (turn g k)) ∙ G.once (Γ.mul (Γ.inv h) k))
      ∙ (let e : 1 * f k ≡ f k = omega arith in e))
    where
      turn : (g k : Below n) → G.same (Γ.mul h g) k ≡ G.same (Γ.mul (Γ.inv h) k) g
      turn g k = same-test (G.same (Γ.mul h g) k) (G.same (Γ.mul (Γ.inv h) k) g)
          (λ e. same-of G (Γ.mul (Γ.inv h) k) g (ap (Γ.mul (Γ.inv h)) (sym (G.same-path (Γ.mul h g) k e))
          ∙ sym (Γ.mul-assoc (Γ.inv h) h g) ∙ ap (λ x. Γ.mul x g) (Γ.inv-mul h) ∙ Γ.one-mul g))
          (λ e. same-of G (Γ.mul h g) k (ap (Γ.mul h) (sym (G.same-path (Γ.mul (Γ.inv h) k) g e))
          ∙ sym (Γ.mul-assoc h (Γ.inv h) k) ∙ ap (λ x. Γ.mul x k) (Γ.mul-inv h) ∙ Γ.one-mul k))

  module _ (P : X → Bool) (A : Acts P) where
    undo : (g : Below n) (x : X) → P x ≡ true → act (Γ.inv g) (act g x) ≡ x
    undo g x e = sym (A.mul (Γ.inv g) g x e) ∙ ap (λ k. act k x) (Γ.inv-mul g) ∙ A.one x e

    redo : (g : Below n) (x : X) → P x ≡ true → act g (act (Γ.inv g) x) ≡ x
    redo g x e = sym (A.mul g (Γ.inv g) x e) ∙ ap (λ k. act k x) (Γ.mul-inv g) ∙ A.one x e

    module _ (x : X) (px : P x ≡ true) where
      abbrev orbit : X → Bool
      orbit y = some G (λ g. F.same (act g x) y)

      abbrev stab : ℕ
      stab = sum (below n) (λ g. bit (F.same (act g x) x))

      -- as many group elements take x to a member of its orbit as fix it
      to-member : (y : X) → orbit y ≡ true → sum (below n) (λ g. bit (F.same (act g x) y)) ≡ stab
      to-member y e = at (some-from G (λ g. F.same (act g x) y) e)
        where
          at : ((h : Below n) × (F.same (act h x) y ≡ true))
              → sum (below n) (λ g. bit (F.same (act g x) y)) ≡ stab
          at r = sym (translate r.0 (λ g. bit (F.same (act g x) y)))
              ∙ sum-same (below n) (λ g. bit (F.same (act (Γ.mul r.0 g) x) y)) (λ g. bit (F.same (act g x) x))
              (λ g. ap bit (same-test (F.same (act (Γ.mul r.0 g) x) y) (F.same (act g x) x)
              (λ k. same-of F (act g x) x
              (sym (undo r.0 (act g x) (A.stays g x px))
              ∙ ap (act (Γ.inv r.0)) (sym (A.mul r.0 g x px) ∙ F.same-path (act (Γ.mul r.0 g) x) y k
              ∙ sym (F.same-path (act r.0 x) y r.1))
              ∙ undo r.0 x px))
              (λ k. same-of F (act (Γ.mul r.0 g) x) y (A.mul r.0 g x px
              ∙ ap (act r.0) (F.same-path (act g x) x k) ∙ F.same-path (act r.0 x) y r.1))))

      at-each : (y : X) → sum (below n) (λ g. bit (F.same (act g x) y)) ≡ bit (orbit y) * stab
      at-each y = at (tell (orbit y))
        where
          at : (orbit y ≡ true) ⊎ (orbit y ≡ false)
              → sum (below n) (λ g. bit (F.same (act g x) y)) ≡ bit (orbit y) * stab
          at (inl e) = to-member y e ∙ (let k : stab ≡ 1 * stab = omega arith in k)
              ∙ ap (λ b. bit b * stab) (sym e)
          at (inr e) =
              sum-same (below n) (λ g. bit (F.same (act g x) y)) (λ g. 0)
              (λ g. ap bit (some-none G (λ g. F.same (act g x) y) e g))
              ∙ sum-zero (below n) ∙ (let k : 0 ≡ 0 * stab = omega arith in k)
              ∙ ap (λ b. bit b * stab) (sym e)

      -- the size of the orbit times the number of elements that fix x
      orbit-stab : sum F.all (λ y. bit (orbit y)) * stab ≡ n
      orbit-stab =
          sym (sum-scale F.all (λ y. bit (orbit y)) stab)
          ∙ sym (sum-same F.all (λ y. sum (below n) (λ g. bit (F.same (act g x) y)))
          (λ y. bit (orbit y) * stab) at-each)
          ∙ sum-swap F.all (below n) (λ y g. bit (F.same (act g x) y))
          ∙ sum-same (below n) (λ g. sum F.all (λ y. bit (F.same (act g x) y))) (λ g. 1)
          (λ g. F.once (act g x))
          ∙ size-below n

      in-orbit : (g : Below n) → orbit (act g x) ≡ true
      in-orbit g = some-at G (λ k. F.same (act k x) (act g x)) g (F.same-self (act g x))

      self-in-orbit : orbit x ≡ true
      self-in-orbit = some-at G (λ k. F.same (act k x) x) Γ.one (same-of F (act Γ.one x) x (A.one x px))

      -- x and another member are in the orbit
      two : (g : Below n) → F.same (act g x) x ≡ false → 2 ≤ sum F.all (λ y. bit (orbit y))
      two g e = joined (sum-le F.all (λ y. bit (F.same x y) + bit (F.same (act g x) y)) (λ y. bit (orbit y))
          (λ y. at y (tell (F.same x y)) (tell (F.same (act g x) y))))
          (sum-add F.all (λ y. bit (F.same x y)) (λ y. bit (F.same (act g x) y))) (F.once x)
          (F.once (act g x))
        where
          joined : {s a b c : ℕ} → s ≤ c → s ≡ a + b → a ≡ 1 → b ≡ 1 → 2 ≤ c
          joined l h i j = omega arith

          at : (y : X) → (F.same x y ≡ true) ⊎ (F.same x y ≡ false) → (F.same (act g x) y ≡ true)
              ⊎ (F.same (act g x) y ≡ false)
              → bit (F.same x y) + bit (F.same (act g x) y) ≤ bit (orbit y)
          at y (inl k) (inl l) = absurd (true≢false
              (sym (same-of F (act g x) x (F.same-path (act g x) y l ∙ sym (F.same-path x y k))) ∙ e))
          at y (inl k) (inr l) = rw (
            k,
            l,
            sym (ap orbit (F.same-path x y k))
                ∙ self-in-orbit,
          ) (let z : 1 + 0 ≤ 1 = omega arith in z)
          at y (inr k) (inl l) = rw (
            k,
            l,
            sym (ap orbit (F.same-path (act g x) y l))
                ∙ in-orbit g,
          ) (let z : 0 + 1 ≤ 1 = omega arith in z)
          at y (inr k) (inr l) = rw (k, l) (let z : 0 + 0 ≤ bit (orbit y) = omega arith in z)

      -- the test holds on the orbit
      orbit-passes : (y : X) → orbit y ≡ true → P y ≡ true
      orbit-passes y e = at (some-from G (λ g. F.same (act g x) y) e)
        where
          at : ((g : Below n) × (F.same (act g x) y ≡ true)) → P y ≡ true
          at r = sym (ap P (F.same-path (act r.0 x) y r.1)) ∙ A.stays r.0 x px

      -- what passes outside of the orbit
      abbrev rest : X → Bool
      rest y = P y && not (orbit y)

      acts-rest : Acts rest
      acts-rest = record {
        stays = λ g y e. let both : (P y ≡ true) × (not (orbit y) ≡ true) =
            and_parts (P y) (not (orbit y)) e in
            and_from (P (act g y)) (not (orbit (act g y))) (A.stays g y both.0)
            (ap not (false_from_ne_true (orbit (act g y)) (λ k. back g y both.0 both.1 k)));
        one = λ y e. A.one y (and_parts (P y) (not (orbit y)) e).0;
        mul = λ g h y e. A.mul g h y (and_parts (P y) (not (orbit y)) e).0;
      }
        where
          back : (g : Below n) (y : X) → P y ≡ true → not (orbit y) ≡ true → orbit (act g y) ≡ true → ⊥
          back g y py out k = at (some-from G (λ h. F.same (act h x) (act g y)) k)
            where
              at : ((h : Below n) × (F.same (act h x) (act g y) ≡ true)) → ⊥
              at r = true≢false (sym out ∙ ap not (ap orbit
                  (sym (undo g y py) ∙ ap (act (Γ.inv g)) (sym (F.same-path (act r.0 x) (act g y) r.1))
                  ∙ sym (A.mul (Γ.inv g) r.0 x px)) ∙ in-orbit (Γ.mul (Γ.inv g) r.0)))

      split : sum F.all (λ y. bit (P y)) ≡ sum F.all (λ y. bit (rest y)) + sum F.all (λ y. bit (orbit y))
      split = sum-same F.all (λ y. bit (P y)) (λ y. bit (rest y) + bit (orbit y)) (λ y. at y (tell (orbit y)))
          ∙ sum-add F.all (λ y. bit (rest y)) (λ y. bit (orbit y))
        where
          at : (y : X) → (orbit y ≡ true) ⊎ (orbit y ≡ false) → bit (P y) ≡ bit (rest y) + bit (orbit y)
          at y (inl e) = rw (e, orbit-passes y e) refl
          at y (inr e) = rw e (plain (P y))
            where
              plain : (b : Bool) → bit b ≡ bit (b && true) + 0
              plain true = refl
              plain false = refl

      orbit-multiple : (p e : ℕ) → IsPrime p → n ≡ p ^ e → (g : Below n) → F.same (act g x) x ≡ false
          → sum F.all (λ y. bit (orbit y)) % p ≡ 0
      orbit-multiple p e W h g k = divides-power p W e (sum F.all (λ y. bit (orbit y))) stab (orbit-stab
          ∙ h) (more (two g k))
        where
          more : {c : ℕ} → 2 ≤ c → c ≢ 1
          more l i = omega (arith, l, i)

  -- with no fixed point the size is a multiple of p
  pub no-fixed : (p e : ℕ) → IsPrime p → n ≡ p ^ e → (k : ℕ) (P : X → Bool) → Acts P
      → ((x : X) → P x ≡ true → (g : Below n) × (F.same (act g x) x ≡ false))
      → sum F.all (λ y. bit (P y)) ≤ k → sum F.all (λ y. bit (P y)) % p ≡ 0
  no-fixed p e W h zero P A moves l = ap (λ k. k % p) (none l) ∙ zero-mod p
    where
      none : {c : ℕ} → c ≤ 0 → c ≡ 0
      none l = omega arith
  no-fixed p e W h (suc k) P A moves l = at (search-all F P) (λ Q B m. no-fixed p e W h k Q B m)
    where
      at : ((x : X) × (P x ≡ true)) ⊎ ((x : X) → P x ≡ false)
          → ((Q : X → Bool) → Acts Q → ((x : X) → Q x ≡ true → (g : Below n) × (F.same (act g x) x ≡ false))
          → sum F.all (λ y. bit (Q y)) ≤ k → sum F.all (λ y. bit (Q y)) % p ≡ 0)
          → sum F.all (λ y. bit (P y)) % p ≡ 0
      at (inr none) ih = ap (λ k. k % p) (sum-same F.all (λ y. bit (P y)) (λ y. 0) (λ y. ap bit (none y))
          ∙ sum-zero F.all) ∙ zero-mod p
      at (inl r) ih =
          ap (λ k. k % p) (split P A r.0 r.1)
          ∙ both (sum F.all (λ y. bit (rest P A r.0 r.1 y))) (sum F.all (λ y. bit (orbit P A r.0 r.1 y)))
          (ih (rest P A r.0 r.1) (acts-rest P A r.0 r.1)
          (λ y e. moves y (and_parts (P y) (not (orbit P A r.0 r.1 y)) e).0)
          (less l (split P A r.0 r.1) (two P A r.0 r.1 (moves r.0 r.1).0 (moves r.0 r.1).1)))
          (orbit-multiple P A r.0 r.1 p e W h (moves r.0 r.1).0 (moves r.0 r.1).1)
        where
          less : {s a b : ℕ} → s ≤ suc k → s ≡ a + b → 2 ≤ b → a ≤ k
          less i j m = omega arith

          both : (a b : ℕ) → a % p ≡ 0 → b % p ≡ 0 → (a + b) % p ≡ 0
          both a b i j = sym (add-mod-mod a b p) ∙ ap (λ k. (a + k) % p) j
              ∙ ap (λ k. k % p) (let z : a + 0 ≡ a = omega arith in z) ∙ i

-- A group of p^e elements acts nilpotently on a finite module over the field of p elements.
use Rattle.std.specs.Prelude.{◌≡◌, ℕ, zero, suc, refl, List, [], ◌∷◌, ◌+◌, ◌*◌, ◌%◌, ◌≤◌, ◌⊎◌, ◌^◌, Bool}
use Rattle.std.specs.Prelude.{true, false, not, ◌&&◌}
use Rattle.std.proofs.Common.{sym, ◌∙◌, ap, ap₂, arith, inl, inr}
use Rattle.std.proofs.lemmas.Bool.{and_from, and_parts, false_from_ne_true, true≢false}
use Rattle.std.proofs.Math.Nat.{pow-suc, pow-zero, mod-add-mod, mod-eq_of_lt, le_refl}
use mathlib.Core.Path.{fun_ext, subst}
use Rattle.group_modules.specs.Module.{Module, sub, times}
use Rattle.group_modules.proofs.Laws.{zero-add, neg-zero, neg-add, neg-neg, sub-self, sub-zero, sub-add}
use Rattle.group_modules.proofs.Laws.{sub-back, act-zero, act-neg, times-mod, times-sum}
use Rattle.group_modules.specs.Field.{Below, Fp, residue, plus, minus}
use Rattle.group_modules.specs.Tables.{Group, monoid}
use Rattle.augmentation_ideal.specs.Primes.{IsPrime}
use Rattle.augmentation_ideal.proofs.Finite.{bit, sum, tell, same-test, sum-same, sum-add, sum-le, Finite}
use Rattle.augmentation_ideal.proofs.Finite.{Fails, fails-at, apart, same-of, search-all, every, every-at}
use Rattle.augmentation_ideal.proofs.Finite.{every-from, every-fails, finite-below}
use Rattle.augmentation_ideal.proofs.Counting.{Acts, no-fixed}

-- the numbers modulo p as a group
abbrev pub cyclic : {n : ℕ} (q : ℕ) → Group n → Group (suc q)
cyclic q Γ = record {
  one = residue q 0;
  mul = plus q;
  inv = minus q;
  one-mul = λ a. zero-add (Fp q (monoid Γ)) a;
  mul-one = λ a. (Fp q (monoid Γ)).add-zero a;
  mul-assoc = λ a b c. (Fp q (monoid Γ)).add-assoc a b c;
  inv-mul = λ a. (Fp q (monoid Γ)).add-comm (minus q a) a ∙ (Fp q (monoid Γ)).add-neg a;
  mul-inv = λ a. (Fp q (monoid Γ)).add-neg a;
}

-- the first member that passes
abbrev first : {A : Type 0} → List A → (A → Bool) → A → A
first [] f d = d
first (x ∷ xs) f d = elim (f x) [ true ↦ x | false ↦ first xs f d ]

first-passes : {A : Type 0} (xs : List A) (f : A → Bool) (d : A) → (f (first xs f d) ≡ true) ⊎ Fails xs f
first-passes [] f d = inr tt
first-passes {A} (x ∷ xs) f d = at (f x) refl (first-passes xs f d)
  where
    at : (b : Bool) → f x ≡ b → (f (first xs f d) ≡ true) ⊎ Fails xs f
        → (f (elim b [ true ↦ x | false ↦ first xs f d ]) ≡ true) ⊎ Fails (x ∷ xs) f
    at true e r = inl e
    at false e (inl k) = inl k
    at false e (inr k) = inr (e, k)

module _ {n : ℕ} (q e : ℕ) (Γ : Group n) (W : IsPrime (suc q)) (size : n ≡ suc q ^ e)
    (M : Module (suc q) (monoid Γ)) (F : Finite M.of) where
  abbrev G : Finite (Below n)
  G = finite-below n

  -- all products of i factors g - 1 take v to 0
  abbrev pub S : ℕ → M.of → Bool
  S zero v = F.same v M.zero
  S (suc i) v = every G (λ g. S i (sub M (M.act g v) v))

  pub at-each : (i : ℕ) (x : M.of) → S (suc i) x ≡ true → (g : Below n) → S i (sub M (M.act g x) x) ≡ true
  at-each i x h = every-at G (λ g. S i (sub M (M.act g x) x)) h

  pub from-each : (i : ℕ) (x : M.of) → ((g : Below n) → S i (sub M (M.act g x) x) ≡ true) → S (suc i) x ≡ true
  from-each i x h = every-from G (λ g. S i (sub M (M.act g x) x)) h

  pub move : (i : ℕ) (x y : M.of) → x ≡ y → S i x ≡ true → S i y ≡ true
  move i x y k h = sym (ap (S i) k) ∙ h

  pub S-zero : (i : ℕ) → S i M.zero ≡ true
  S-zero zero = F.same-self M.zero
  S-zero (suc i) = from-each i M.zero (λ g. move i M.zero _ (sym (sub-zero M (M.act g M.zero) ∙ act-zero M g))
      (S-zero i))

  pub S-add : (i : ℕ) (x y : M.of) → S i x ≡ true → S i y ≡ true → S i (M.add x y) ≡ true
  S-add zero x y h k = same-of F (M.add x y) M.zero
      (ap₂ M.add (F.same-path x M.zero h) (F.same-path y M.zero k) ∙ M.add-zero M.zero)
  S-add (suc i) x y h k = from-each i (M.add x y) (λ g.
      move i (M.add (sub M (M.act g x) x) (sub M (M.act g y) y)) (sub M (M.act g (M.add x y)) (M.add x y))
      (sym (sub-add M (M.act g x) (M.act g y) x y) ∙ ap (λ z. sub M z (M.add x y)) (sym (M.act-add g x y)))
      (S-add i _ _ (at-each i x h g) (at-each i y k g)))

  pub S-neg : (i : ℕ) (x : M.of) → S i x ≡ true → S i (M.neg x) ≡ true
  S-neg zero x h = same-of F (M.neg x) M.zero (ap M.neg (F.same-path x M.zero h) ∙ neg-zero M)
  S-neg (suc i) x h = from-each i (M.neg x) (λ g.
      move i (M.neg (sub M (M.act g x) x)) (sub M (M.act g (M.neg x)) (M.neg x))
      (neg-add M (M.act g x) (M.neg x) ∙ ap (λ z. M.add z (M.neg (M.neg x))) (sym (act-neg M g x)))
      (S-neg i _ (at-each i x h g)))

  act-sub : (g : Below n) (x y : M.of) → M.act g (sub M x y) ≡ sub M (M.act g x) (M.act g y)
  act-sub g x y = M.act-add g x (M.neg y) ∙ ap (M.add (M.act g x)) (act-neg M g y)

  pub S-act : (i : ℕ) (g : Below n) (x : M.of) → S i x ≡ true → S i (M.act g x) ≡ true
  S-act zero g x h = same-of F (M.act g x) M.zero (ap (M.act g) (F.same-path x M.zero h) ∙ act-zero M g)
  S-act (suc i) g x h = from-each i (M.act g x) (λ k.
      let c : Below n = Γ.mul (Γ.inv g) (Γ.mul k g) in
      move i (M.act g (sub M (M.act c x) x)) (sub M (M.act k (M.act g x)) (M.act g x))
      (act-sub g (M.act c x) x
      ∙ ap (λ z. sub M z (M.act g x))
      (sym (M.act-mul g c x)
      ∙ ap (λ m. M.act m x) (sym (Γ.mul-assoc g (Γ.inv g) (Γ.mul k g))
      ∙ ap (λ m. Γ.mul m (Γ.mul k g)) (Γ.mul-inv g) ∙ Γ.one-mul (Γ.mul k g))
      ∙ M.act-mul k g x))
      (S-act i g _ (at-each i x h c)))

  pub S-up : (i : ℕ) (x : M.of) → S i x ≡ true → S (suc i) x ≡ true
  S-up i x h = from-each i x (λ g. S-add i (M.act g x) (M.neg x) (S-act i g x h) (S-neg i x h))

  module _ (i : ℕ) where
    -- x and y differ by what products of i factors take to 0
    abbrev Near : M.of → M.of → Type 0
    Near x y = S i (sub M x y) ≡ true

    near-refl : (x : M.of) → Near x x
    near-refl x = move i M.zero (sub M x x) (sym (sub-self M x)) (S-zero i)

    near-sym : (x y : M.of) → Near x y → Near y x
    near-sym x y h = move i (M.neg (sub M x y)) (sub M y x)
        (neg-add M x (M.neg y) ∙ ap (M.add (M.neg x)) (neg-neg M y) ∙ M.add-comm (M.neg x) y) (S-neg i _ h)

    near-trans : (x y z : M.of) → Near x y → Near y z → Near x z
    near-trans x y z h k = move i (M.add (sub M x y) (sub M y z)) (sub M x z)
        (sym (M.add-assoc (sub M x y) y (M.neg z))
        ∙ ap (λ w. M.add w (M.neg z)) (sub-back M x y)) (S-add i _ _ h k)

    near-act : (g : Below n) (x y : M.of) → Near x y → Near (M.act g x) (M.act g y)
    near-act g x y h = move i (M.act g (sub M x y)) (sub M (M.act g x) (M.act g y)) (act-sub g x y)
        (S-act i g _ h)

    near-add : (x y a : M.of) → Near x y → Near (M.add x a) (M.add y a)
    near-add x y a h = move i (sub M x y) (sub M (M.add x a) (M.add y a))
        (sym (sub-add M x a y a ∙ ap (M.add (sub M x y)) (sub-self M a) ∙ M.add-zero (sub M x y))) h

    -- the first member that is near
    abbrev r : M.of → M.of
    r x = first F.all (λ y. S i (sub M x y)) M.zero

    r-near : (x : M.of) → Near x (r x)
    r-near x = at (first-passes F.all (λ y. S i (sub M x y)) M.zero)
      where
        at : (S i (sub M x (r x)) ≡ true) ⊎ Fails F.all (λ y. S i (sub M x y)) → Near x (r x)
        at (inl k) = k
        at (inr k) = absurd (nowhere (fails-at F (λ y. S i (sub M x y)) k x))
          where
            nowhere : S i (sub M x x) ≡ false → ⊥
            nowhere l = true≢false (sym (near-refl x) ∙ l)

    r-same : (x y : M.of) → Near x y → r x ≡ r y
    r-same x y h = ap (λ f. first F.all f M.zero) (fun_ext (λ z. same-test (S i (sub M x z)) (S i (sub M y z))
        (near-trans y x z (near-sym x y h)) (near-trans x y z h)))

    r-back : (x y : M.of) → r x ≡ y → Near x y
    r-back x y k = subst (λ z. Near x z) k (r-near x)

    abbrev rep : M.of → Bool
    rep x = F.same (r x) x

    r-rep : (x : M.of) → rep (r x) ≡ true
    r-rep x = same-of F (r (r x)) (r x) (sym (r-same x (r x) (r-near x)))

    rep-path : (x : M.of) → rep x ≡ true → r x ≡ x
    rep-path x h = F.same-path (r x) x h

    -- adding a multiple of w
    abbrev shift : M.of → Below (suc q) → M.of → M.of
    shift w a x = r (M.add x (times M.add M.zero a.0 w))

    shift-acts : (w : M.of) → Acts (cyclic q Γ) F (shift w) rep
    shift-acts w = record {
      stays = λ a x h. r-rep (M.add x (times M.add M.zero a.0 w));
      one = λ x h. ap r (ap (M.add x) (times-mod M 0 w) ∙ M.add-zero x) ∙ rep-path x h;
      mul = λ a b x h.
          ap r (ap (M.add x) (times-mod M (a.0 + b.0) w ∙ times-sum M a.0 b.0 w ∙ M.add-comm _ _)
          ∙ sym (M.add-assoc x _ _))
          ∙ r-same _ _ (near-add (M.add x (times M.add M.zero b.0 w)) (shift w b x) (times M.add M.zero a.0 w)
          (r-near (M.add x (times M.add M.zero b.0 w))));
    }

    -- so the number of representatives is a multiple of p, where w is not near 0
    many : (w : M.of) → S i w ≡ false → sum F.all (λ x. bit (rep x)) % suc q ≡ 0
    many w out = no-fixed (cyclic q Γ) F (shift w) (suc q) 1 W
        (let k : suc q ≡ suc q ^ 1 = sym (pow-suc (suc q) 0 ∙ ap (λ m. m * suc q) (pow-zero (suc q))
        ∙ (let z : 1 * suc q ≡ suc q = omega arith in z)) in k)
        (sum F.all (λ x. bit (rep x))) rep (shift-acts w)
        (λ x h. (residue q 1, apart F (shift w (residue q 1) x) x (λ k. true≢false (sym (inside x k) ∙ out))))
        (le_refl _)
      where
        inside : (x : M.of) → shift w (residue q 1) x ≡ x → S i w ≡ true
        inside x k = move i _ w
            (ap (λ z. sub M z x) (M.add-comm x _) ∙ M.add-assoc _ x (M.neg x) ∙ ap (M.add _) (sub-self M x)
            ∙ M.add-zero _ ∙ times-mod M 1 w ∙ M.add-zero w)
            (r-back (M.add x (times M.add M.zero (residue q 1).0 w)) x k)

    -- the representatives other than that of 0
    abbrev other : M.of → Bool
    other x = rep x && not (F.same (r M.zero) x)

    other-acts : Acts Γ F (λ g x. r (M.act g x)) other
    other-acts = record {
      stays = λ g x h. let b : (rep x ≡ true) × (not (F.same (r M.zero) x) ≡ true) =
          and_parts (rep x) (not (F.same (r M.zero) x)) h in
          and_from (rep (r (M.act g x))) (not (F.same (r M.zero) (r (M.act g x)))) (r-rep (M.act g x))
          (ap not (apart F (r M.zero) (r (M.act g x))
          (λ k. true≢false (sym b.1 ∙ ap not (same-of F (r M.zero) x (stay g x k ∙ rep-path x b.0))))));
      one = λ x h. ap r (M.act-one x) ∙ rep-path x (and_parts (rep x) (not (F.same (r M.zero) x)) h).0;
      mul = λ g h x _. ap r (M.act-mul g h x)
          ∙ r-same _ _ (near-act g (M.act h x) (r (M.act h x)) (r-near (M.act h x)));
    }
      where
        near-of : (x y : M.of) → r x ≡ r y → Near x y
        near-of x y k = near-trans x (r y) y (r-back x (r y) k) (near-sym y (r y) (r-near y))

        stay : (g : Below n) (x : M.of) → r M.zero ≡ r (M.act g x) → r M.zero ≡ r x
        stay g x k = r-same M.zero x
            (move i _ _ (ap₂ (sub M) (act-zero M (Γ.inv g)) (sym (M.act-mul (Γ.inv g) g x)
            ∙ ap (λ m. M.act m x) (Γ.inv-mul g) ∙ M.act-one x))
            (near-act (Γ.inv g) M.zero (M.act g x) (near-of M.zero (M.act g x) k)))

    count : sum F.all (λ x. bit (rep x)) ≡ sum F.all (λ x. bit (other x)) + 1
    count =
        sum-same F.all (λ x. bit (rep x)) (λ x. bit (other x) + bit (F.same (r M.zero) x))
        (λ x. at x (tell (F.same (r M.zero) x)))
        ∙ sum-add F.all (λ x. bit (other x)) (λ x. bit (F.same (r M.zero) x))
        ∙ ap (λ k. sum F.all (λ x. bit (other x)) + k) (F.once (r M.zero))
      where
        at : (x : M.of) → (F.same (r M.zero) x ≡ true) ⊎ (F.same (r M.zero) x ≡ false)
            → bit (rep x) ≡ bit (other x) + bit (F.same (r M.zero) x)
        at x (inl k) = rw (k, sym (ap rep (F.same-path (r M.zero) x k)) ∙ r-rep M.zero) refl
        at x (inr k) = rw k (plain (rep x))
          where
            plain : (b : Bool) → bit b ≡ bit (b && true) + 0
            plain true = refl
            plain false = refl

    -- where some w is not taken to 0 by the products of i factors, some x is so, and is taken to 0 by those
    -- of i + 1 factors
    grow : (w : M.of) → S i w ≡ false → (x : M.of) × (S i x ≡ false) × (S (suc i) x ≡ true)
    grow w out = at (search-all F (λ x. other x && every G (λ g. F.same (r (M.act g x)) x)))
      where
        more : (a : ℕ) → (a + 1) % suc q ≡ 0 → a % suc q ≡ 0 → ⊥
        more a h k = absurd (one (sym (mod-eq_of_lt W.above-one)
            ∙ ap (λ (m : ℕ). m % suc q) (let z : ◌≡◌ {A = ℕ} 1 (0 + 1) = omega arith in z)
            ∙ ap (λ m. (m + 1) % suc q) (sym k) ∙ mod-add-mod a (suc q) 1 ∙ h))
          where
            one : (let z : ℕ = 1 in z ≡ 0) → ⊥
            one z = omega (arith, z)

        at : ((x : M.of) × ((other x && every G (λ g. F.same (r (M.act g x)) x)) ≡ true))
            ⊎ ((x : M.of) → (other x && every G (λ g. F.same (r (M.act g x)) x)) ≡ false)
            → (x : M.of) × (S i x ≡ false) × (S (suc i) x ≡ true)
        at (inl h) =
            let b : (other h.0 ≡ true) × (every G (λ g. F.same (r (M.act g h.0)) h.0) ≡ true) =
            and_parts (other h.0) (every G (λ g. F.same (r (M.act g h.0)) h.0)) h.1 in
            let c : (rep h.0 ≡ true) × (not (F.same (r M.zero) h.0) ≡ true) =
            and_parts (rep h.0) (not (F.same (r M.zero) h.0)) b.0 in (
              h.0,
              false_from_ne_true (S i h.0) (λ k. true≢false (sym c.1 ∙ ap not (same-of F (r M.zero) h.0
                  (r-same M.zero h.0 (near-sym h.0 M.zero
                  (move i h.0 (sub M h.0 M.zero) (sym (sub-zero M h.0)) k)) ∙ rep-path h.0 c.0)))),
              from-each i h.0 (λ g. r-back (M.act g h.0) h.0
                  (F.same-path (r (M.act g h.0)) h.0 (every-at G (λ g. F.same (r (M.act g h.0)) h.0) b.1 g))),
            )
        at (inr none) = absurd (more (sum F.all (λ x. bit (other x))) (ap (λ k. k % suc q) (sym count)
            ∙ many w out)
            (no-fixed Γ F (λ g x. r (M.act g x)) (suc q) e W size
            (sum F.all (λ x. bit (other x))) other other-acts
            (λ x h. every-fails G (λ g. F.same (r (M.act g x)) x)
            (second (other x) (every G (λ g. F.same (r (M.act g x)) x)) h (none x))) (le_refl _)))
          where
            second : (a b : Bool) → a ≡ true → (a && b) ≡ false → b ≡ false
            second true b h k = k
            second false b h k = absurd (true≢false (sym h))

  missed : ℕ → ℕ
  missed i = sum F.all (λ x. bit (not (S i x)))

  fewer : (i : ℕ) (x : M.of) → S i x ≡ false → S (suc i) x ≡ true → missed (suc i) + 1 ≤ missed i
  unfolding missed
  fewer i x h k = joined _ _ _ _
      (sum-le F.all (λ y. bit (not (S (suc i) y)) + bit (F.same x y)) (λ y. bit (not (S i y)))
      (λ y. at y (tell (F.same x y)) (tell (S i y))))
      (sum-add F.all (λ y. bit (not (S (suc i) y))) (λ y. bit (F.same x y))) (F.once x)
    where
      joined : (s a b c : ℕ) → s ≤ c → s ≡ a + b → b ≡ 1 → a + 1 ≤ c
      joined s a b c l m o = omega arith

      bit-le : (b : Bool) → bit b ≤ 1
      bit-le true = le_refl 1
      bit-le false = omega arith

      at : (y : M.of) → (F.same x y ≡ true) ⊎ (F.same x y ≡ false) → (S i y ≡ true) ⊎ (S i y ≡ false)
          → bit (not (S (suc i) y)) + bit (F.same x y) ≤ bit (not (S i y))
      at y (inl m) (inl o) = absurd (true≢false (sym o ∙ ap (S i) (sym (F.same-path x y m)) ∙ h))
      at y (inl m) (inr o) = weigh _ _ _
          (ap (λ b. bit (not b)) (sym (ap (S (suc i)) (F.same-path x y m)) ∙ k)) (ap bit m)
          (ap (λ b. bit (not b)) o)
        where
          weigh : (a b c : ℕ) → a ≡ 0 → b ≡ 1 → c ≡ 1 → a + b ≤ c
          weigh a b c u v w = omega arith
      at y (inr m) (inl o) = weigh _ _ _ (ap (λ b. bit (not b)) (S-up i y o)) (ap bit m)
        where
          weigh : (a b c : ℕ) → a ≡ 0 → b ≡ 0 → a + b ≤ c
          weigh a b c u v = omega arith
      at y (inr m) (inr o) = weigh _ _ _ (bit-le (not (S (suc i) y))) (ap bit m) (ap (λ b. bit (not b)) o)
        where
          weigh : (a b c : ℕ) → a ≤ 1 → b ≡ 0 → c ≡ 1 → a + b ≤ c
          weigh a b c u v w = omega arith

  -- all products of N factors vanish
  steps : (k i : ℕ) → missed i ≤ k → (N : ℕ) × ((x : M.of) → S N x ≡ true)
  steps zero i l = at (search-all F (λ x. not (S i x)))
    where
      un-not : (b : Bool) → not b ≡ false → b ≡ true
      un-not true k = refl
      un-not false k = absurd (true≢false k)

      not-un : (b : Bool) → not b ≡ true → b ≡ false
      not-un true k = absurd (true≢false (sym k))
      not-un false k = refl

      at : ((x : M.of) × (not (S i x) ≡ true)) ⊎ ((x : M.of) → not (S i x) ≡ false) → (N : ℕ)
          × ((x : M.of) → S N x ≡ true)
      at (inr h) = (i, λ x. un-not (S i x) (h x))
      at (inl h) = let g : (x : M.of) × (S i x ≡ false) × (S (suc i) x ≡ true) =
          grow i h.0 (not-un (S i h.0) h.1) in absurd (less (missed (suc i)) (fewer i g.0 g.1 g.2))
        where
          less : (a : ℕ) → a + 1 ≤ missed i → ⊥
          less a m = omega (arith, l, m)
  steps (suc k) i l = at (search-all F (λ x. not (S i x))) (λ m. steps k (suc i) m)
    where
      un-not : (b : Bool) → not b ≡ false → b ≡ true
      un-not true k = refl
      un-not false k = absurd (true≢false k)

      not-un : (b : Bool) → not b ≡ true → b ≡ false
      not-un true k = absurd (true≢false (sym k))
      not-un false k = refl

      at : ((x : M.of) × (not (S i x) ≡ true)) ⊎ ((x : M.of) → not (S i x) ≡ false)
          → (missed (suc i) ≤ k → (N : ℕ) × ((x : M.of) → S N x ≡ true)) → (N : ℕ)
          × ((x : M.of) → S N x ≡ true)
      at (inr h) ih = (i, λ x. un-not (S i x) (h x))
      at (inl h) ih = let g : (x : M.of) × (S i x ≡ false) × (S (suc i) x ≡ true) =
          grow i h.0 (not-un (S i h.0) h.1) in ih (less (missed (suc i)) (fewer i g.0 g.1 g.2))
        where
          less : (a : ℕ) → a + 1 ≤ missed i → a ≤ k
          less a m = omega (arith, l, m)

  pub vanish : (N : ℕ) × ((x : M.of) → S N x ≡ true)
  vanish = steps (missed 0) 0 (le_refl (missed 0))

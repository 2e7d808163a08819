-- What follows from the nilpotence: layers end, and Nakayama's lemma.
use Rattle.std.specs.Prelude.{◌≡◌, ℕ, zero, suc, ◌^◌, ◌+◌, true}
use Rattle.std.proofs.Common.{sym, ◌∙◌, ap, ap₂, arith}
use mathlib.Core.Path.{subst}
use Rattle.group_modules.specs.Module.{Monoid, Module, sub, times}
use Rattle.group_modules.proofs.Laws.{zero-add, swap, sub-add, neg-unique}
use Rattle.group_modules.specs.Tables.{Group, monoid}
use Rattle.augmentation_ideal.specs.Primes.{IsPrime}
use Rattle.augmentation_ideal.specs.Radical.{Moved, none, both, moved, Radical, IsSubmodule}
use Rattle.augmentation_ideal.proofs.Finite.{Finite}
use Rattle.augmentation_ideal.proofs.Nilpotent.{S, S-zero, S-add, at-each, vanish}

module _ {q : ℕ} {G : Monoid} (M : Module (suc q) G) where
  -- the span of all (g - 1) v with v in K grows with K
  pub moved-more : (K L : M.of → Type 0) → ((v : M.of) → K v → L v) → (x : M.of) → Moved M K x → Moved M L x
  moved-more K L h x none = none
  moved-more K L h x (both a b) = both (moved-more K L h _ a) (moved-more K L h _ b)
  moved-more K L h x (moved g v k) = moved g v (h v k)

  module _ (K : M.of → Type 0) where
    pub moved-times : (c : ℕ) (x : M.of) → Moved M K x → Moved M K (times M.add M.zero c x)
    moved-times zero x m = none
    moved-times (suc c) x m = both m (moved-times c x m)

    pub neg-times : (x : M.of) → times M.add M.zero q x ≡ M.neg x
    neg-times x = neg-unique M x (times M.add M.zero q x) (M.times-p x)

    pub moved-neg : (x : M.of) → Moved M K x → Moved M K (M.neg x)
    moved-neg x m = subst (Moved M K) (neg-times x) (moved-times q x m)

    module _ (T : IsSubmodule M K) where
      pub times-in : (c : ℕ) (x : M.of) → K x → K (times M.add M.zero c x)
      times-in zero x k = T.zero-in
      times-in (suc c) x k = T.add-in x _ k (times-in c x k)

      pub neg-in : (x : M.of) → K x → K (M.neg x)
      neg-in x k = subst K (neg-times x) (times-in q x k)

      pub sub-in : (x y : M.of) → K x → K y → K (sub M x y)
      sub-in x y k l = T.add-in x (M.neg y) k (neg-in y l)

      -- a submodule holds the span of all (g - 1) v
      pub moved-in : (x : M.of) → Moved M K x → K x
      moved-in x none = T.zero-in
      moved-in x (both {x = a} {y = b} m l) = T.add-in a b (moved-in a m) (moved-in b l)
      moved-in x (moved g v k) = sub-in (M.act g v) v (T.act-in g v k) k

module _ {n : ℕ} (q e : ℕ) (Γ : Group n) (W : IsPrime (suc q)) (size : n ≡ suc q ^ e)
    (M : Module (suc q) (monoid Γ)) (F : Finite M.of) where
  T : ℕ → M.of → Type 0
  T i x = S q e Γ W size M F i x ≡ true

  down : (i : ℕ) (K : M.of → Type 0) → ((v : M.of) → K v → T (suc i) v) → (x : M.of) → Moved M K x → T i x
  unfolding T
  down i K h x none = S-zero q e Γ W size M F i
  down i K h x (both {x = a} {y = b} m l) = S-add q e Γ W size M F i a b (down i K h a m) (down i K h b l)
  down i K h x (moved g v k) = at-each q e Γ W size M F i v (h v k) g

  descend : (K : M.of → Type 0) → ((v : M.of) → K v → Moved M K v) → (i : ℕ) → ((v : M.of) → K v → T i v)
      → (v : M.of) → K v → v ≡ M.zero
  unfolding T
  descend K f zero h v k = F.same-path v M.zero (h v k)
  descend K f (suc i) h v k = descend K f i (λ v k. down i K h v (f v k)) v k

  -- a set that lies in the span of all (g - 1) v with v in it is 0
  pub moved-zero : (K : M.of → Type 0) → ((v : M.of) → K v → Moved M K v) → (v : M.of) → K v → v ≡ M.zero
  unfolding T
  moved-zero K f v k = descend K f (vanish q e Γ W size M F).0 (λ v k. (vanish q e Γ W size M F).1 v) v k

  abbrev far : ℕ → ℕ → ℕ
  far zero i = i
  far (suc j) i = far j (suc i)

  far-sum : (j i : ℕ) → far j i ≡ j + i
  far-sum zero i = omega arith
  far-sum (suc j) i = far-sum j (suc i) ∙ (let k : j + suc i ≡ suc j + i = omega arith in k)

  radical-down : (j i : ℕ) → ((x : M.of) → T (far j i) x) → (x : M.of) → Radical M j x → T i x
  radical-down zero i h x m = h x
  radical-down (suc j) i h x m = down i (Radical M j) (λ v k. radical-down j (suc i) h v k) x m

  -- J is nilpotent
  pub nilpotent : (N : ℕ) × ((x : M.of) → Radical M N x → x ≡ M.zero)
  unfolding T
  nilpotent = let r : (N : ℕ) × ((x : M.of) → S q e Γ W size M F N x ≡ true) = vanish q e Γ W size M F in (
    r.0,
    λ x m. F.same-path x M.zero (radical-down r.0 0
        (λ x. subst (λ k. S q e Γ W size M F k x ≡ true)
        (sym (far-sum r.0 0 ∙ (let k : r.0 + 0 ≡ r.0 = omega arith in k))) (r.1 x)) x m),
  )

  module _ (K L : M.of → Type 0) (U : IsSubmodule M L) (f : (v : M.of) → K v → (x y : M.of) × L x
      × Moved M K y × (v ≡ M.add x y)) where
    Parts : ℕ → M.of → Type 0
    Parts i v = (x y : M.of) × L x × T i y × (v ≡ M.add x y)

    parts-down : (i : ℕ) → ((v : M.of) → K v → Parts (suc i) v) → (y : M.of) → Moved M K y → Parts i y
    unfolding Parts T
    parts-down i h y none = (M.zero, M.zero, U.zero-in, S-zero q e Γ W size M F i, sym (M.add-zero M.zero))
    parts-down i h y (both {x = a} {y = b} m l) = join (parts-down i h a m) (parts-down i h b l)
      where
        join : Parts i a → Parts i b → Parts i (M.add a b)
        join r s = (
          M.add r.0 s.0,
          M.add r.1 s.1,
          U.add-in r.0 s.0 r.2 s.2,
          S-add q e Γ W size M F i r.1 s.1 r.3 s.3,
          ap₂ M.add r.4 s.4 ∙ swap M r.0 r.1 s.0 s.1,
        )
    parts-down i h y (moved g v k) = go (h v k)
      where
        go : Parts (suc i) v → Parts i (sub M (M.act g v) v)
        go r = (
          sub M (M.act g r.0) r.0,
          sub M (M.act g r.1) r.1,
          sub-in M L U (M.act g r.0) r.0 (U.act-in g r.0 r.2) r.2,
          at-each q e Γ W size M F i r.1 r.3 g,
          ap (λ w. sub M (M.act g w) w) r.4 ∙ ap (λ w. sub M w (M.add r.0 r.1)) (M.act-add g r.0 r.1)
              ∙ sub-add M (M.act g r.0) (M.act g r.1) r.0 r.1,
        )

    parts-descend : (i : ℕ) → ((v : M.of) → K v → Parts i v) → (v : M.of) → K v → Parts 0 v
    unfolding Parts
    parts-descend zero h v k = h v k
    parts-descend (suc i) h v k = parts-descend i (λ v k. once v (f v k)) v k
      where
        once : (v : M.of) → (x y : M.of) × L x × Moved M K y × (v ≡ M.add x y) → Parts i v
        once v r = go (parts-down i h r.1 r.3)
          where
            go : Parts i r.1 → Parts i v
            go s = (
              M.add r.0 s.0,
              s.1,
              U.add-in r.0 s.0 r.2 s.2,
              s.3,
              r.4 ∙ ap (M.add r.0) s.4
                  ∙ sym (M.add-assoc r.0 s.0 s.1),
            )

    -- Nakayama's lemma: K lies in a submodule L where K lies in L plus the span of all (g - 1) v with v in K
    pub nakayama : (v : M.of) → K v → L v
    unfolding Parts T
    nakayama v k = go (parts-descend (vanish q e Γ W size M F).0
        (λ v k. (M.zero, v, U.zero-in, (vanish q e Γ W size M F).1 v, sym (zero-add M v))) v k)
      where
        go : Parts 0 v → L v
        go r = subst L (sym (r.4 ∙ ap (M.add r.0) (F.same-path r.1 M.zero r.3) ∙ M.add-zero r.0)) r.2

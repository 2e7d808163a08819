-- A set that is closed under sums and the products by layer 1 is a submodule.
use Rattle.std.proofs.Common.{◌≡◌, ℕ, zero, suc, ◌<◌, List, [], ◌∷◌, true, ap, ap₂, sym, ◌∙◌, refl}
use mathlib.Core.Path.{subst}
use Rattle.group_modules.specs.Module.{Monoid, Module, IsLinear, Term, sub, times, lin}
use Rattle.group_modules.proofs.Laws.{act-zero, map-zero, map-sub, sub-back, times-mod}
use Rattle.group_modules.proofs.MapLaws.{terms-linear, terms-unit}
use Rattle.group_modules.specs.Field.{Below, residue}
use Rattle.group_modules.specs.Tables.{Group, monoid, Table, terms, unit, block-sum}
use Rattle.linear_algebra.proofs.Residues.{below-path}
use Rattle.linear_algebra.specs.Modular.{IsFieldModulo}
use Rattle.augmentation_ideal.specs.Radical.{Moved, none, both, moved, Radical, IsSubmodule}
use Rattle.augmentation_ideal.specs.Generators.{combine}
use Rattle.augmentation_ideal.specs.Claims.{IsPrimePower}
use Rattle.augmentation_ideal.proofs.Finite.{Finite}
use Rattle.augmentation_ideal.proofs.Nakayama.{times-in}
use Rattle.augmentation_ideal.proofs.Nilpotent.{S, S-zero, S-add, S-up, at-each, vanish}
use Rattle.augmentation_ideal.proofs.Generators.{split, close-zero}
use Rattle.radical_layers.specs.Coordinates.{RowForm}
use Rattle.radical_layers.specs.LayerBasis.{Layers, AreLayers}
use Rattle.radical_layers.proofs.FirstLayer.{radical-sum}
use Rattle.radical_generators.specs.FirstLayer.{product, layer_size, layer_member}
use Rattle.radical_generators.proofs.Ideal.{ideal-claims}

-- a submodule has the linear extensions of maps into it
pub lin-in : {q : ℕ} {G : Monoid} (M : Module (suc q) G) (L : M.of → Type 0) → IsSubmodule M L → {X : Type 0}
    (u : X → M.of) → ((x : X) → L (u x)) → (ts : List (Term G X)) → L (lin M u ts)
lin-in M L U u h [] = U.zero-in
lin-in M L U u h (t ∷ ts) = U.add-in _ _
    (times-in M L U t.coef (M.act t.elem (u t.base)) (U.act-in t.elem (u t.base) (h t.base)))
    (lin-in M L U u h ts)

module _ {n : ℕ} (q : ℕ) (Γ : Group n) (M : Module (suc q) (monoid Γ)) where
  abbrev kG : Module (suc q) (monoid Γ)
  kG = Table q Γ 1

  -- the products with v are linear, and 1 v = v
  pub product-linear : (v : M.of) → IsLinear kG M (λ a. product q Γ M a v)
  product-linear v = terms-linear q Γ 1 M (λ i. v)

  abbrev pub one : kG.of
  one = unit q Γ 1 (residue 0 0)

  pub product-one : (v : M.of) → product q Γ M one v ≡ v
  product-one v = terms-unit q Γ 1 M (λ i. v) (residue 0 0)

  -- g - 1, and its product with v
  abbrev pub less_one : Below n → kG.of
  less_one g = sub kG (kG.act g one) one

  pub less-one-in : (g : Below n) → Radical kG 1 (less_one g)
  less-one-in g = moved g one tt

  pub product-less-one : (g : Below n) (v : M.of) → product q Γ M (less_one g) v ≡ sub M (M.act g v) v
  product-less-one g v = map-sub kG M (λ a. product q Γ M a v) (product-linear v).on-add (kG.act g one) one
      ∙ ap₂ (sub M) ((product-linear v).on-act g one ∙ ap (M.act g) (product-one v)) (product-one v)

  -- the product of a member of J and v is a sum of multiples of all (g - 1) v
  pub ideal-product : (a : kG.of) → Radical kG 1 a → (v : M.of)
      → Moved M (λ w. w ≡ v) (product q Γ M a v)
  ideal-product a h v = close-zero M (λ w. w ≡ v) (product q Γ M a v)
      (subst (λ x. Moved M (λ w. w ≡ v) (sub M (product q Γ M a v) x)) nothing
      (split q Γ M (λ w. w ≡ v) 1 (λ i. v) (λ i. refl) a))
    where
      nothing : combine M 1 (λ i. v) (block-sum q Γ 1 a) ≡ M.zero
      nothing = M.add-zero _ ∙ ap (λ (c : Below (suc q)). times M.add M.zero c.0 v)
          (ap (block-sum q Γ 1 a) (below-path (0, first) (residue 0 0) refl) ∙ radical-sum q Γ a h)
          ∙ times-mod M 0 v
        where
          first : 0 < 1
          first = native.Mathlib.Nat.lt-suc_self 0

module _ {n : ℕ} (q : ℕ) (F : IsFieldModulo (suc q)) (Γ : Group n) (P : IsPrimePower q n)
    (K : RowForm n (Table q Γ 1)) (Y : Layers) (A : AreLayers q Γ K Y) (M : Module (suc q) (monoid Γ)) where
  -- a submodule of kG that has the members of layer 1 has J
  pub ideal-in : (L : (Table q Γ 1).of → Type 0) → IsSubmodule (Table q Γ 1) L
      → ((k : ℕ) → k < layer_size q Γ K Y → L (layer_member q Γ K Y k))
      → (a : (Table q Γ 1).of) → Radical (Table q Γ 1) 1 a → L a
  ideal-in L U h a j = go ((ideal-claims q F Γ P K Y A).generate a j)
    where
      go : (u : (Table q Γ (layer_size q Γ K Y)).of)
          × (lin (Table q Γ 1) (λ k. layer_member q Γ K Y k.0) (terms q Γ (layer_size q Γ K Y) u) ≡ a) → L a
      go (u, e) = subst L e (lin-in (Table q Γ 1) L U (λ k. layer_member q Γ K Y k.0) (λ k. h k.0 k.1)
          (terms q Γ (layer_size q Γ K Y) u))

  -- the members of kG whose products with v lie in a submodule are a submodule
  pub factors : (L : M.of → Type 0) → IsSubmodule M L → (v : M.of)
      → IsSubmodule (Table q Γ 1) (λ a. L (product q Γ M a v))
  factors L U v = record {
    zero-in = subst L (sym (map-zero (Table q Γ 1) M (λ a. product q Γ M a v)
        (product-linear q Γ M v).on-add))
        U.zero-in;
    add-in = λ a c h k. subst L (sym ((product-linear q Γ M v).on-add a c)) (U.add-in _ _ h k);
    act-in = λ g a h. subst L (sym ((product-linear q Γ M v).on-act g a)) (U.act-in g _ h);
  }

  -- a submodule with the products of v by layer 1 has all (g - 1) v
  pub less-one-in-submodule : (L : M.of → Type 0) → IsSubmodule M L → (v : M.of)
      → ((k : ℕ) → k < layer_size q Γ K Y → L (product q Γ M (layer_member q Γ K Y k) v))
      → (g : Below n) → L (sub M (M.act g v) v)
  less-one-in-submodule L U v h g = subst L (product-less-one q Γ M g v)
      (ideal-in (λ a. L (product q Γ M a v)) (factors L U v) h (less_one q Γ M g) (less-one-in q Γ M g))

  module _ (finite : Finite M.of) where
    -- products of i factors of J take v to 0
    abbrev Killed : ℕ → M.of → Type 0
    Killed i v = S q P.exponent Γ P.prime P.power M finite i v ≡ true

    down : (i : ℕ) (L : M.of → Type 0) → ((v : M.of) → L v → Killed (suc i) v) → (x : M.of) → Moved M L x
        → Killed i x
    down i L h x none = S-zero q P.exponent Γ P.prime P.power M finite i
    down i L h x (both {x = a} {y = b} m l) =
        S-add q P.exponent Γ P.prime P.power M finite i a b (down i L h a m) (down i L h b l)
    down i L h x (moved g v k) = at-each q P.exponent Γ P.prime P.power M finite i v (h v k) g

    killed-product : (i k : ℕ) → k < layer_size q Γ K Y → (v : M.of) → Killed (suc i) v
        → Killed i (product q Γ M (layer_member q Γ K Y k) v)
    killed-product i k l v h = down i (λ w. w ≡ v) (λ w e. subst (Killed (suc i)) (sym e) h)
        (product q Γ M (layer_member q Γ K Y k) v)
        (ideal-product q Γ M (layer_member q Γ K Y k) ((ideal-claims q F Γ P K Y A).members k l) v)

    -- V is closed under sums and the products by layer 1
    pub record IsClosedSet (V : M.of → Type 0) : Type 0 where
      pub zero-in : V M.zero
      pub add-in : (x y : M.of) → V x → V y → V (M.add x y)
      pub product-in : (k : ℕ) → k < layer_size q Γ K Y → (v : M.of) → V v
          → V (product q Γ M (layer_member q Γ K Y k) v)

    part : (i : ℕ) (V : M.of → Type 0) → IsClosedSet V → IsClosedSet (λ w. V w × Killed i w)
    part i V C = record {
      zero-in = (C.zero-in, S-zero q P.exponent Γ P.prime P.power M finite i);
      add-in = λ x y h k. (
        C.add-in x y h.0 k.0,
        S-add q P.exponent Γ P.prime P.power M finite i x y h.1 k.1,
      );
      product-in = λ k l v h. (
        C.product-in k l v h.0,
        killed-product i k l v (S-up q P.exponent Γ P.prime P.power M finite i v h.1),
      );
    }

    -- the members that products of i factors take to 0 are moved inside, so those of one factor more are
    act-step : (i : ℕ) (V : M.of → Type 0) → IsClosedSet V
        → ((g : Below n) (w : M.of) → V w × Killed i w → V (M.act g w) × Killed i (M.act g w))
        → (g : Below n) (v : M.of) → V v → Killed (suc i) v → V (M.act g v)
    act-step i V C ih g v h s = subst V (sub-back M (M.act g v) v)
        (C.add-in _ v (less-one-in-submodule (λ w. V w × Killed i w) submodule v
        (λ k l. (C.product-in k l v h, killed-product i k l v s)) g).0 h)
      where
        submodule : IsSubmodule M (λ w. V w × Killed i w)
        submodule = record { zero-in = (part i V C).zero-in; add-in = (part i V C).add-in; act-in = ih }

    act-in : (i : ℕ) (V : M.of → Type 0) → IsClosedSet V → ((v : M.of) → V v → Killed i v)
        → (g : Below n) (v : M.of) → V v → V (M.act g v)
    act-in zero V C s g v h = subst V (sym (ap (M.act g) (finite.same-path v M.zero (s v h)) ∙ act-zero M g))
        C.zero-in
    act-in (suc i) V C s g v h = act-step i V C
        (act-in i (λ w. V w × Killed i w) (part i V C) (λ w k. k.1)) g v h (s v h)

    pub closed-submodule : (V : M.of → Type 0) → IsClosedSet V → IsSubmodule M V
    closed-submodule V C = record {
      zero-in = C.zero-in;
      add-in = C.add-in;
      act-in = act-in bound.0 V C (λ v h. bound.1 v);
    }
      where
        bound : (N : ℕ) × ((x : M.of) → S q P.exponent Γ P.prime P.power M finite N x ≡ true)
        bound = vanish q P.exponent Γ P.prime P.power M finite

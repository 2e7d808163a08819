-- Lists of products of group elements.
use Rattle.std.proofs.Common.{◌≡◌, ◌≢◌, ℕ, ◌+◌, ◌<◌, ◌⊎◌, List, [], ◌∷◌, ◌++◌, length, get_or, set, Bool}
use Rattle.std.proofs.Common.{true, false, inl, inr, arith, sym, ◌∙◌, refl}
use Rattle.std.specs.Prelude.{Contains}
use Rattle.std.proofs.lemmas.Bool.{cases_eq}
use Rattle.std.proofs.lemmas.List.{get_or_append_left, length_push, get_or_push, get_or-set_other}
use Rattle.std.proofs.lemmas.List.{get_or_default}
use Rattle.std.proofs.lemmas.List.Elements.{All-push}
use mathlib.Core.Path.{subst}
use Rattle.group_table.specs.Tables.{GroupTable, IsGroupTable, order, product}
use Rattle.group_algebra.specs.Products.{IsProductOf, unit, times, AreProducts}

contains-push : (xs : List ℕ) (y s : ℕ) → Contains xs s → Contains (xs ++ y ∷ []) s
contains-push xs y s c = (
  c.0,
  let e : length (xs ++ y ∷ []) ≡ length xs + 1 = length_push xs y in omega
      (arith, e, c.1),
  get_or_append_left xs (y ∷ []) s c.0 c.1 ∙ c.2,
)

-- products of a list are products of a longer one
pub product-push : (mul : ℕ → ℕ → ℕ) (xs : List ℕ) (y x : ℕ) → IsProductOf mul xs x
    → IsProductOf mul (xs ++ y ∷ []) x
product-push mul xs y x unit = unit
product-push mul xs y x (times z s h c) = times z s (product-push mul xs y z h) (contains-push xs y s c)

pub products-push : (G : GroupTable) (xs : List ℕ) (y : ℕ) (products : List ℕ) (seen : List Bool)
    → AreProducts G xs products seen → AreProducts G (xs ++ y ∷ []) products seen
products-push G xs y products seen h = record {
  below = h.below;
  listed = λ k d l. product-push (product G) xs y (get_or products k d) (h.listed k d l);
  marked = λ x m. product-push (product G) xs y x (h.marked x m);
}

-- one more product
pub products-add : (G : GroupTable) (xs : List ℕ) (y : ℕ) (products : List ℕ) (seen : List Bool) → y < order G
    → IsProductOf (product G) xs y → AreProducts G xs products seen
    → AreProducts G xs (products ++ y ∷ []) (set seen y true)
products-add G xs y products seen l p h = record {
  below = All-push (λ g. g < order G) products y h.below l;
  listed = All-push (IsProductOf (product G) xs) products y h.listed p;
  marked = marked;
}
  where
    marked : (x : ℕ) → get_or (set seen y true) x false ≡ true → IsProductOf (product G) xs x
    marked x m = go (cases_eq x y)
      where
        go : (x ≡ y) ⊎ (x ≢ y) → IsProductOf (product G) xs x
        go (inl e) = rw e p
        go (inr d) = h.marked x (sym (get_or-set_other seen y x true false d) ∙ m)

-- a generator is a product
pub generator-product : (G : GroupTable) (xs : List ℕ) (g : ℕ) → IsGroupTable G → g < order G
    → IsProductOf (product G) (xs ++ g ∷ []) g
generator-product G xs g law l = let P : ℕ → Type 0 = λ x. IsProductOf (product G) (xs ++ g ∷ []) x in
    subst P (law.one-mul g l)
    (times 0 g unit (
      length xs,
      let e : length (xs ++ g ∷ []) ≡ length xs + 1 = length_push xs g in omega
          (arith, e),
      get_or_push xs g g (length xs) refl,
    ))

-- a product times the generator at a place of the list
pub product-by : (G : GroupTable) (xs : List ℕ) (x y i : ℕ) → IsProductOf (product G) xs x → i < length xs
    → y ≡ product G x (get_or xs i 0) → IsProductOf (product G) xs y
product-by G xs x y i h l e = let P : ℕ → Type 0 = λ z. IsProductOf (product G) xs z in
    subst P (sym e) (times x (get_or xs i 0) h (i, l, get_or_default xs i (get_or xs i 0) 0 l))

-- Laws of sums over lists and over all numbers below a bound.
use Rattle.std.specs.Prelude.{◌≡◌, ℕ, zero, suc, refl, List, [], ◌∷◌, ◌++◌, map, ◌<◌, ◌≢◌, ◌⊎◌, true, false}
use Rattle.std.specs.Prelude.{eqb}
use Rattle.std.proofs.Common.{sym, ◌∙◌, ap, ap₂, arith, inl, inr}
use Rattle.std.proofs.lemmas.Bool.Decides.{eqb_tells}
use native.Mathlib.Nat.{lt-suc_self}
use Rattle.group_modules.specs.Module.{Monoid, Module, times, IsAdditive, Term, lin}
use Rattle.linear_algebra.specs.Residues.{Below}
use Rattle.group_modules.specs.Sums.{up, below, total}
use Rattle.group_modules.proofs.Laws.{swap, zero-add, map-zero, map-times}
use Rattle.linear_algebra.proofs.Residues.{below-path}

module _ {p : ℕ} {G : Monoid} (M : Module p G) where
  pub total-map : {A B : Type 0} (g : A → B) (xs : List A) (f : B → M.of)
      → total M (map g xs) f ≡ total M xs (λ x. f (g x))
  total-map g [] f = refl
  total-map g (x ∷ xs) f = ap (M.add (f (g x))) (total-map g xs f)

  pub total-add : {A : Type 0} (xs : List A) (f g : A → M.of)
      → total M xs (λ x. M.add (f x) (g x)) ≡ M.add (total M xs f) (total M xs g)
  total-add [] f g = sym (M.add-zero M.zero)
  total-add (x ∷ xs) f g = ap (M.add (M.add (f x) (g x))) (total-add xs f g)
      ∙ swap M (f x) (g x) (total M xs f) (total M xs g)

  pub total-zero : {A : Type 0} (xs : List A) (f : A → M.of) → ((x : A) → f x ≡ M.zero)
      → total M xs f ≡ M.zero
  total-zero [] f e = refl
  total-zero (x ∷ xs) f e = ap₂ M.add (e x) (total-zero xs f e) ∙ M.add-zero M.zero

  -- a sum with one term that may differ from 0
  pub total-only : (n : ℕ) (f : Below n → M.of) (x : Below n) → ((y : Below n) → y.0 ≢ x.0 → f y ≡ M.zero)
      → total M (below n) f ≡ f x
  total-only zero f x e = absurd (let h : x.0 < 0 = x.1 in omega (arith, h))
  total-only (suc n) f x e = go (eqb_tells x.0 n) (λ (y : Below n) h. total-only n (λ i. f (up i)) y h)
    where
      go : ((eqb x.0 n ≡ true) × (x.0 ≡ n)) ⊎ ((eqb x.0 n ≡ false) × (x.0 ≢ n))
          → ((y : Below n) → ((z : Below n) → z.0 ≢ y.0 → f (up z) ≡ M.zero)
          → total M (below n) (λ i. f (up i)) ≡ f (up y))
          → total M (below (suc n)) f ≡ f x
      go (inl h) ih =
          ap₂ M.add (ap f (below-path (n, lt-suc_self n) x (sym h.1)))
          (total-map (λ i. up i) (below n) f
          ∙ total-zero (below n) (λ i. f (up i))
          (λ y. e (up y) (let a : y.0 < n = y.1 in let b : x.0 ≡ n = h.1 in omega (arith, a, b))))
          ∙ M.add-zero (f x)
      go (inr h) ih =
          let y : Below n = (
            x.0,
            (let a : x.0 ≢ n = h.1 in let b : x.0 < suc n = x.1 in omega (
              arith,
              b,
              a,
            )),
          ) in
          ap₂ M.add (e (n, lt-suc_self n) (λ k. h.1 (sym k)))
          (total-map (λ i. up i) (below n) f ∙ ih y (λ z k. e (up z) k))
          ∙ zero-add M (f (up y)) ∙ ap f (below-path (up y) x refl)

module _ {p : ℕ} {G : Monoid} (M N : Module p G) (f : M.of → N.of) (a : IsAdditive M N f) where
  pub map-total : {A : Type 0} (xs : List A) (g : A → M.of) → f (total M xs g) ≡ total N xs (λ x. f (g x))
  map-total [] g = map-zero M N f a
  map-total (x ∷ xs) g = a (g x) (total M xs g) ∙ ap (N.add (f (g x))) (map-total xs g)

-- additive maps that agree at `g u(x)` agree at each linear extension of u
pub additive-agree : {p : ℕ} {G : Monoid} (M N : Module p G) (f k : M.of → N.of) → IsAdditive M N f
    → IsAdditive M N k
    → {X : Type 0} (u : X → M.of) → ((g : G.elem) (x : X) → f (M.act g (u x)) ≡ k (M.act g (u x)))
    → (ts : List (Term G X)) → f (lin M u ts) ≡ k (lin M u ts)
additive-agree M N f k af ak u e [] = map-zero M N f af ∙ sym (map-zero M N k ak)
additive-agree M N f k af ak u e (t ∷ ts) =
    af _ _
    ∙ ap₂ N.add
    (map-times M N f af t.coef (M.act t.elem (u t.base)) ∙ ap (times N.add N.zero t.coef) (e t.elem t.base)
    ∙ sym (map-times M N k ak t.coef (M.act t.elem (u t.base))))
    (additive-agree M N f k af ak u e ts)
    ∙ sym (ak _ _)

pub lin-append : {p : ℕ} {G : Monoid} (M : Module p G) {X : Type 0} (u : X → M.of) (s t : List (Term G X))
    → lin M u (s ++ t) ≡ M.add (lin M u s) (lin M u t)
lin-append M u [] t = sym (zero-add M (lin M u t))
lin-append M u (x ∷ s) t = ap (M.add _) (lin-append M u s t) ∙ sym (M.add-assoc _ (lin M u s) (lin M u t))

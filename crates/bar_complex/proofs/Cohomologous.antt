-- Cochains that differ by a coboundary: sums, multiples, and what stays normalised or a cocycle.
use Rattle.std.specs.Prelude.{◌≡◌, ℕ, zero, suc, refl, ◌*◌}
use Rattle.std.proofs.Common.{sym, ◌∙◌, ap, ap₂, subst, mul_comm}
use mathlib.Core.Path.{fun_ext}
use Rattle.group_modules.specs.Module.{Monoid, Module, sub, times, IsAdditive, lin}
use Rattle.group_modules.proofs.Laws.{map-zero, map-sub, sub-self, sub-add, sub-back, neg-add, neg-neg}
use Rattle.group_modules.proofs.Laws.{lin-zero, lin-add, lin-neg, times-add}
use Rattle.group_modules.specs.Field.{Below, Fp, residue, minus, plus}
use Rattle.linear_algebra.proofs.Residues.{times-residue}
use Rattle.bar_complex.specs.Tuples.{Tuple, entries}
use Rattle.bar_complex.specs.Boundary.{boundary}
use Rattle.bar_complex.specs.Cochains.{turned, Cochain, IsNormalised, IsCocycle, AreCohomologous}
use Rattle.bar_complex.proofs.FormalBoundary.{bar-twice, bar-null}

module _ (q : ℕ) (G : Monoid) where
  abbrev pub K : Module (suc q) G
  K = Fp q G

  abbrev pub mulK : (a b : Below (suc q)) → Below (suc q)
  mulK a b = residue q (a.0 * b.0)

  pub mulK-add : (a : Below (suc q)) → IsAdditive K K (mulK a)
  mulK-add a b c =
      sym (times-residue q a.0 (plus q b c)) ∙ times-add K a.0 b c
      ∙ ap₂ (plus q) (times-residue q a.0 b) (times-residue q a.0 c)

  pub mulK-comm : (a b : Below (suc q)) → mulK a b ≡ mulK b a
  mulK-comm a b = ap (residue q) (mul_comm a.0 b.0)

  pub mulK-add-left : (b : Below (suc q)) → IsAdditive K K (λ a. mulK a b)
  mulK-add-left b a c = mulK-comm (plus q a c) b ∙ mulK-add b a c
      ∙ ap₂ (plus q) (mulK-comm b a) (mulK-comm b c)

  pub mulK-zero : (b : Below (suc q)) → mulK (residue q 0) b ≡ residue q 0
  mulK-zero b = map-zero K K (λ a. mulK a b) (mulK-add-left b)

  -- a - c = (a - b) + (b - c)
  between : (a b c : Below (suc q)) → sub K a c ≡ plus q (sub K a b) (sub K b c)
  between a b c =
      ap (λ x. sub K x c) (sym (sub-back K a b)) ∙ K.add-assoc (sub K a b) b (minus q c)

  -- b - a = -(a - b)
  other-way : (a b : Below (suc q)) → sub K b a ≡ minus q (sub K a b)
  other-way a b = K.add-comm b (minus q a)
      ∙ sym (neg-add K a (minus q b) ∙ ap (plus q (minus q a)) (neg-neg K b))

  pub near-eq : (d : ℕ) (u v : Cochain q G) → ((t : Tuple G.elem d) → u (entries d t) ≡ v (entries d t))
      → AreCohomologous q G d u v
  near-eq zero u v e = e tt
  near-eq (suc d) u v e = (
    λ s. residue q 0,
    (λ s n. refl),
    λ t. ap (λ x. sub K x (v (entries (suc d) t))) (e t) ∙ sub-self K (v (entries (suc d) t))
        ∙ sym (lin-zero K (boundary q G d t)),
  )

  pub near-refl : (d : ℕ) (u : Cochain q G) → AreCohomologous q G d u u
  near-refl d u = near-eq d u u (λ t. refl)

  pub near-sym : (d : ℕ) (u v : Cochain q G) → AreCohomologous q G d u v → AreCohomologous q G d v u
  near-sym zero u v h = sym h
  near-sym (suc d) u v h = (
    λ s. minus q (h.0 s),
    (λ s n. ap (minus q) (h.1 s n) ∙ map-zero K K (minus q) (neg-add K)),
    λ t. other-way (u (entries (suc d) t)) (v (entries (suc d) t)) ∙ ap (minus q) (h.2 t)
        ∙ sym (lin-neg K h.0 (boundary q G d t)),
  )

  pub near-trans : (d : ℕ) (u v w : Cochain q G) → AreCohomologous q G d u v → AreCohomologous q G d v w
      → AreCohomologous q G d u w
  near-trans zero u v w h k = h ∙ k
  near-trans (suc d) u v w h k = (
    λ s. plus q (h.0 s) (k.0 s),
    (λ s n. ap₂ (plus q) (h.1 s n) (k.1 s n) ∙ K.add-zero (residue q 0)),
    λ t. between (u (entries (suc d) t)) (v (entries (suc d) t)) (w (entries (suc d) t))
        ∙ ap₂ (plus q) (h.2 t) (k.2 t)
        ∙ sym (lin-add K h.0 k.0 (boundary q G d t)),
  )

  pub near-add : (d : ℕ) (u u' v v' : Cochain q G) → AreCohomologous q G d u u' → AreCohomologous q G d v v'
      → AreCohomologous q G d (λ xs. plus q (u xs) (v xs)) (λ xs. plus q (u' xs) (v' xs))
  near-add zero u u' v v' h k = ap₂ (plus q) h k
  near-add (suc d) u u' v v' h k = (
    λ s. plus q (h.0 s) (k.0 s),
    (λ s n. ap₂ (plus q) (h.1 s n) (k.1 s n) ∙ K.add-zero (residue q 0)),
    λ t.
        sub-add K (u (entries (suc d) t)) (v (entries (suc d) t)) (u' (entries (suc d) t))
        (v' (entries (suc d) t))
        ∙ ap₂ (plus q) (h.2 t) (k.2 t) ∙ sym (lin-add K h.0 k.0 (boundary q G d t)),
  )

  pub near-minus : (d : ℕ) (u v : Cochain q G) → AreCohomologous q G d u v
      → AreCohomologous q G d (λ xs. minus q (u xs)) (λ xs. minus q (v xs))
  near-minus zero u v h = ap (minus q) h
  near-minus (suc d) u v h = (
    λ s. minus q (h.0 s),
    (λ s n. ap (minus q) (h.1 s n) ∙ map-zero K K (minus q) (neg-add K)),
    λ t.
        sym (map-sub K K (minus q) (neg-add K) (u (entries (suc d) t)) (v (entries (suc d) t)))
        ∙ ap (minus q) (h.2 t) ∙ sym (lin-neg K h.0 (boundary q G d t)),
  )

  pub near-turned : (n d : ℕ) (u v : Cochain q G) → AreCohomologous q G d u v
      → AreCohomologous q G d (λ xs. turned q n (u xs)) (λ xs. turned q n (v xs))
  near-turned zero d u v h = h
  near-turned (suc n) d u v h =
      near-minus d (λ xs. turned q n (u xs)) (λ xs. turned q n (v xs)) (near-turned n d u v h)

  near-times : (n d : ℕ) (u v : Cochain q G) → AreCohomologous q G d u v
      → AreCohomologous q G d (λ xs. times (plus q) (residue q 0) n (u xs))
      (λ xs. times (plus q) (residue q 0) n (v xs))
  near-times zero d u v h = near-eq d (λ xs. residue q 0) (λ xs. residue q 0) (λ t. refl)
  near-times (suc n) d u v h =
      near-add d u v (λ xs. times (plus q) (residue q 0) n (u xs))
      (λ xs. times (plus q) (residue q 0) n (v xs)) h (near-times n d u v h)

  pub near-scale : (n d : ℕ) (u v : Cochain q G) → AreCohomologous q G d u v
      → AreCohomologous q G d (λ xs. residue q (n * (u xs).0)) (λ xs. residue q (n * (v xs).0))
  near-scale n d u v h =
      subst (λ f. AreCohomologous q G d (λ xs. f (u xs)) (λ xs. f (v xs))) (fun_ext (times-residue q n))
      (near-times n d u v h)

  -- normal cochains and cocycles stay so
  near-is : (d : ℕ) (u v : Cochain q G) (h : AreCohomologous q G (suc d) u v) (t : Tuple G.elem (suc d))
      → u (entries (suc d) t) ≡ plus q (lin K h.0 (boundary q G d t)) (v (entries (suc d) t))
  near-is d u v h t =
      sym (sub-back K (u (entries (suc d) t)) (v (entries (suc d) t)))
      ∙ ap (λ x. plus q x (v (entries (suc d) t))) (h.2 t)

  pub near-normal : (d : ℕ) (u v : Cochain q G) → AreCohomologous q G d u v → IsNormalised q G d v
      → IsNormalised q G d u
  near-normal zero u v h z t n = absurd n
  near-normal (suc d) u v h z t n =
      near-is d u v h t ∙ ap₂ (plus q) (bar-null q G K d h.0 h.1 t n) (z t n) ∙ K.add-zero (residue q 0)

  pub near-cocycle : (d : ℕ) (u v : Cochain q G) → AreCohomologous q G d u v → IsCocycle q G d v
      → IsCocycle q G d u
  near-cocycle zero u v h c t = ap (λ a. lin K (λ s. a) (boundary q G 0 t)) h ∙ c t
  near-cocycle (suc d) u v h c t =
      ap (λ f. lin K f (boundary q G (suc d) t)) (fun_ext (near-is d u v h))
      ∙ lin-add K (λ s. lin K h.0 (boundary q G d s)) (λ s. v (entries (suc d) s)) (boundary q G (suc d) t)
      ∙ ap₂ (plus q) (bar-twice q G K d h.0 h.1 t) (c t) ∙ K.add-zero (residue q 0)

-- The classes of a minimal complex and the cocycles of the bar complex.
use Rattle.std.specs.Prelude.{◌≡◌, ℕ, zero, suc, refl, List, [], ◌↔◌}
use Rattle.std.proofs.Common.{sym, ◌∙◌, ap, ap₂, subst}
use mathlib.Core.Path.{fun_ext}
use Rattle.group_modules.specs.Module.{Monoid, Module, sub, lin}
use Rattle.group_modules.proofs.Laws.{lin-add, lin-sub, map-zero, sub-self, sub-eq}
use Rattle.group_modules.specs.Field.{Fp, residue, plus}
use Rattle.bar_complex.specs.Tuples.{Tuple, entries, tuple}
use Rattle.bar_complex.specs.Boundary.{boundary}
use Rattle.bar_complex.specs.Cochains.{Cochain, IsNormalised, IsCocycle, IsNormalisedCocycle, IsCoboundary}
use Rattle.bar_complex.specs.Cochains.{AreCohomologous}
use Rattle.bar_complex.proofs.Cohomologous.{near-sym, near-trans}
use Rattle.bar_comparison.proofs.Comparison.{MinimalStages, Class, pair, pair-linear, comparison}
use Rattle.bar_comparison.proofs.Comparison.{comparison-map, bar_cocycle, bar-cocycle-closed, only-zero}
use Rattle.bar_comparison.proofs.Comparison.{only-zero-start, class-reaches, class-reaches-start, class-of}
use Rattle.bar_comparison.proofs.Comparison as comparison

pub tuple-entries : {E : Type 0} (x : E) (d : ℕ) (t : Tuple E d) → tuple x d (entries d t) ≡ t
tuple-entries x zero t = refl
tuple-entries x (suc d) t = ap (λ s. (t.0, s)) (tuple-entries x d t.1)

module _ {q : ℕ} {G : Monoid} (S : MinimalStages q G) where
  abbrev pub K : Module (suc q) G
  K = Fp q G

  -- the cocycle of a class, on lists
  abbrev pub bar : (d : ℕ) → Class S d → Cochain q G
  bar d c xs = bar_cocycle S d c (tuple G.one d xs)

  pub bar-is : (d : ℕ) (c : Class S d) (t : Tuple G.elem d) → bar d c (entries d t) ≡ bar_cocycle S d c t
  bar-is d c t = ap (bar_cocycle S d c) (tuple-entries G.one d t)

  pub bar-normal : (d : ℕ) (c : Class S d) → IsNormalised q G d (bar d c)
  bar-normal d c t n =
      bar-is d c t ∙ ap (pair S d c) ((comparison-map S).vanish d t n)
      ∙ map-zero (S.exact.at d) (Fp q G) (pair S d c) (pair-linear S d c).on-add

  pub bar-cocycle : (d : ℕ) (c : Class S d) → IsCocycle q G d (bar d c)
  bar-cocycle d c t = ap (λ f. lin K f (boundary q G d t)) (fun_ext (bar-is d c)) ∙ bar-cocycle-closed S d c t

  -- classes with cochains that differ by a coboundary are equal
  pub injective : (d : ℕ) (a c : Class S d) → AreCohomologous q G d (bar d a) (bar d c) → a ≡ c
  injective d a c h = fun_ext (λ i. sub-eq K (a i) (c i) (go d a c h i))
    where
      kappa-sub : (d : ℕ) (a c : Class S d) (t : Tuple G.elem d)
          → bar_cocycle S d (λ i. sub K (a i) (c i)) t ≡ sub K (bar d a (entries d t)) (bar d c (entries d t))
      kappa-sub d a c t =
          lin-sub K a c (S.terms d (comparison S d t)) ∙ ap₂ (sub K) (sym (bar-is d a t)) (sym (bar-is d c t))

      go : (d : ℕ) (a c : Class S d) → AreCohomologous q G d (bar d a) (bar d c) → (i : S.basis d)
          → sub K (a i) (c i) ≡ residue q 0
      go zero a c h =
          only-zero-start S (λ i. sub K (a i) (c i))
          (kappa-sub zero a c tt ∙ ap (λ x. sub K x (bar zero c [])) h ∙ sub-self K (bar zero c []))
      go (suc d) a c h = only-zero S d (λ i. sub K (a i) (c i)) h.0 h.1 (λ t. kappa-sub (suc d) a c t ∙ h.2 t)

  -- the class whose cochain differs by a coboundary from u
  pub only-class : (d : ℕ) (u : Cochain q G) (c : Class S d) → AreCohomologous q G d (bar d c) u
      → (v : Class S d) → AreCohomologous q G d (bar d v) u ↔ (v ≡ c)
  only-class d u c h v = (
    λ k. injective d v c (near-trans q G d (bar d v) u (bar d c) k (near-sym q G d (bar d c) u h)),
    λ e. subst (λ c. AreCohomologous q G d (bar d c) u) (sym e) h,
  )

  pub bar-add : (d : ℕ) (a c : Class S d) (xs : List G.elem)
      → bar d (λ i. plus q (a i) (c i)) xs ≡ plus q (bar d a xs) (bar d c xs)
  bar-add d a c xs = lin-add K a c (S.terms d (comparison S d (tuple G.one d xs)))

  -- the bar cochain of a class is a coboundary only for the class 0
  pub only-coboundary : (d : ℕ) (c : Class S d) → IsCoboundary q G d (bar d c) → c ≡ (λ i. residue q 0)
  only-coboundary zero c h = fun_ext (only-zero-start S c h)
  only-coboundary (suc d) c h =
      fun_ext (only-zero S d c h.0 h.1 (λ t. sym (bar-is (suc d) c t) ∙ h.2 t))

  -- each cocycle is the bar cochain of a class
  pub surjective : (d : ℕ) (u : Cochain q G) → IsNormalised q G d u → IsCocycle q G d u
      → (c : Class S d) × AreCohomologous q G d u (bar d c)
  surjective zero u z c =
      let k : Class S 0 =
      λ i. comparison.at S 0 (λ t. u (entries 0 t)) (λ t n. absurd n) (comparison.back S 0 i) in
      (k, sym (class-reaches-start S (λ t. u (entries 0 t)) c tt))
  surjective (suc d) u z c =
      let k : Class S (suc d) = class-of S d (λ t. u (entries (suc d) t)) z in (
        k,
        near-sym q G (suc d) (bar (suc d) k) u (
          comparison.cochain S d (λ t. u (entries (suc d) t)) z,
          comparison.cochain-null S d (λ t. u (entries (suc d) t)) z,
          λ t. ap (λ x. sub K x (u (entries (suc d) t))) (bar-is (suc d) k t)
              ∙ class-reaches S d (λ t. u (entries (suc d) t)) z c t,
        ),
      )

  -- and of one class alone
  pub one-class : (d : ℕ) (u : Cochain q G) → IsNormalisedCocycle q G d u
      → (c : Class S d) × AreCohomologous q G d u (bar d c)
      × ((a : Class S d) → AreCohomologous q G d u (bar d a) → a ≡ c)
  one-class d u z =
      let c : (c : Class S d) × AreCohomologous q G d u (bar d c) = surjective d u z.0 z.1 in (
        c.0,
        c.1,
        λ a h. injective d a c.0 (near-trans q G d (bar d a) u (bar d c.0)
            (near-sym q G d u (bar d a) h) c.1),
      )

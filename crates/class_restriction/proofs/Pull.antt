-- Cochains along a homomorphism, and the restriction of classes.
use Rattle.std.specs.Prelude.{◌≡◌, ℕ, zero, suc, refl, List, [], ◌∷◌, map, take, drop, ◌+◌}
use Rattle.std.proofs.Common.{sym, ◌∙◌, ap, ap₂}
use mathlib.Core.Path.{fun_ext}
use Rattle.group_modules.specs.Module.{Monoid, sub, lin}
use Rattle.group_modules.proofs.Laws.{lin-add}
use Rattle.group_modules.specs.Field.{Below, Fp}
use Rattle.group_modules.specs.Tables.{Group, monoid}
use Rattle.bar_complex.specs.Tuples.{Tuple, entries}
use Rattle.bar_complex.specs.Boundary.{boundary}
use Rattle.bar_comparison.proofs.Comparison.{MinimalStages, Class, bar_cocycle}
use Rattle.class_restriction.proofs.Restrict.{Homomorphism, entries-one, lin-entries, boundary-entries}
use Rattle.class_restriction.proofs.Restrict.{restrict, between, between-null, restriction, restriction-zero}
use Rattle.class_restriction.proofs.Restrict.{embed}
use Rattle.class_restriction.proofs.Restrict as tuples
use Rattle.cup_products.proofs.Reverse.{Inverse}
use Rattle.bar_complex.specs.Cochains.{cup, Cochain, AreCohomologous}
use Rattle.cup_products.proofs.GradedCocycles.{Cocycle, AreAlike}
use Rattle.cup_products.proofs.Graded.{Graded, bar}
use Rattle.cup_products.proofs.Graded as graded
use Rattle.bar_complex.proofs.Cohomologous.{mulK}
use Rattle.cup_products.proofs.Cocycles.{alike-eq, mul, one}
use Rattle.bar_comparison.proofs.Classes.{bar-is}
use Rattle.cup_products.proofs.Classes.{cochain, cochain-mul, cochain-one, graded-eq}
use Rattle.class_restriction.proofs.Steps.{chain, back, left, right}

pub take-map : {X Y : Type 0} (f : X → Y) (j : ℕ) (xs : List X) → take j (map f xs) ≡ map f (take j xs)
take-map f zero xs = refl
take-map f (suc j) [] = refl
take-map f (suc j) (x ∷ xs) = ap (λ ys. f x ∷ ys) (take-map f j xs)

pub drop-map : {X Y : Type 0} (f : X → Y) (j : ℕ) (xs : List X) → drop j (map f xs) ≡ map f (drop j xs)
drop-map f zero xs = refl
drop-map f (suc j) [] = refl
drop-map f (suc j) (x ∷ xs) = drop-map f j xs

module _ {m n : ℕ} {Δ : Group m} {Γ : Group n} (φ : Homomorphism Δ Γ) where
  abbrev E : Monoid
  E = monoid Δ

  abbrev G : Monoid
  G = monoid Γ

  pub map-entries : (d : ℕ) (t : Tuple E.elem d) → entries d (tuples.entries φ d t) ≡ map φ.to (entries d t)
  map-entries zero t = refl
  map-entries (suc d) t = ap (λ xs. φ.to t.0 ∷ xs) (map-entries d t.1)

  module _ (q : ℕ) where
    abbrev pub pull : Cochain q G → Cochain q E
    pull u xs = u (map φ.to xs)

    pub pull-lin : (d : ℕ) (w : Tuple G.elem d → Below (suc q)) (t : Tuple E.elem (suc d))
        → lin (Fp q G) w (boundary q G d (tuples.entries φ (suc d) t))
        ≡ lin (Fp q E) (λ s. w (tuples.entries φ d s)) (boundary q E d t)
    pull-lin d w t =
        ap (lin (Fp q G) w) (sym (boundary-entries φ q d t)) ∙ lin-entries φ (Fp q G) d w (boundary q E d t)

    pub pull-near : (d : ℕ) (u v : Cochain q G) → AreCohomologous q G d u v
        → AreCohomologous q E d (pull u) (pull v)
    pull-near zero u v h = h
    pull-near (suc d) u v h = (
      (λ s. h.0 (tuples.entries φ d s)),
      (λ s n. h.1 (tuples.entries φ d s) (entries-one φ d s n)),
      λ t.
          ap (λ xs. sub (Fp q G) (u xs) (v xs)) (sym (map-entries (suc d) t))
          ∙ h.2 (tuples.entries φ (suc d) t) ∙ pull-lin d h.0 t,
    )

    abbrev pub pulled : Cocycle q G → Cocycle q E
    pulled u = record {
      deg = u.deg;
      at = pull u.at;
      normal = λ t n. ap u.at (sym (map-entries u.deg t))
          ∙ u.normal (tuples.entries φ u.deg t) (entries-one φ u.deg t n);
      cocycle = λ t.
          ap (λ f. lin (Fp q E) f (boundary q E u.deg t)) (fun_ext (λ s. ap u.at (sym (map-entries u.deg s))))
          ∙ sym (pull-lin u.deg (λ s. u.at (entries u.deg s)) t) ∙ u.cocycle (tuples.entries φ (suc u.deg) t);
    }

    pub pull-alike : (u v : Cocycle q G) → AreAlike u v → AreAlike (pulled u) (pulled v)
    pull-alike u v h = record { same = h.same; near = pull-near u.deg u.at v.at h.near }

    pub pull-cup : (j : ℕ) (u v : Cochain q G) (xs : List E.elem)
        → pull (cup q j u v) xs ≡ cup q j (pull u) (pull v) xs
    pull-cup j u v xs = ap₂ (mulK q G) (ap u (take-map φ.to j xs)) (ap v (drop-map φ.to j xs))

    pub pull-mul : (u v : Cocycle q G) → AreAlike (pulled (mul q G u v)) (mul q E (pulled u) (pulled v))
    pull-mul u v =
        alike-eq q E (pulled (mul q G u v)) (mul q E (pulled u) (pulled v)) refl
        (λ t. pull-cup u.deg u.at v.at (entries (u.deg + v.deg) t))

    pub pull-one : AreAlike (pulled (one q G)) (one q E)
    pull-one = alike-eq q E (pulled (one q G)) (one q E) refl (λ t. refl)

  module _ {q : ℕ} (A : MinimalStages q E) (S : MinimalStages q G) where
    abbrev pub res : Graded S → Graded A
    res a = (a.0, restrict φ A S a.0 a.1)

    bar-at : (d : ℕ) (x : Class S d) (t : Tuple E.elem d)
        → pull q (bar S (d, x)) (entries d t) ≡ bar_cocycle S d x (tuples.entries φ d t)
    bar-at d x t = ap (bar S (d, x)) (sym (map-entries d t)) ∙ bar-is S d x (tuples.entries φ d t)

    -- the restricted class, and the class on the tuples of E
    pub near-restrict : (d : ℕ) (x : Class S d)
        → AreCohomologous q E d (bar A (d, restrict φ A S d x)) (pull q (bar S (d, x)))
    near-restrict zero x = restriction-zero φ A S x tt
    near-restrict (suc d) x = (
      between φ A S d x,
      between-null φ A S d x,
      λ t. ap₂ (sub (Fp q E)) (bar-is A (suc d) (restrict φ A S (suc d) x) t) (bar-at (suc d) x t)
          ∙ restriction φ A S d x t,
    )

    pub alike-restrict : (a : Graded S) → AreAlike (cochain A (res a)) (pulled q (cochain S a))
    alike-restrict a = record { same = refl; near = near-restrict a.0 a.1 }

    pub restrict-add : (d : ℕ) (x y : Class S d)
        → restrict φ A S d (graded.add S d x y) ≡ graded.add A d (restrict φ A S d x) (restrict φ A S d y)
    restrict-add d x y = fun_ext (λ i. lin-add (Fp q G) x y (S.terms d (embed φ A S d i)))

    pub restrict-one : res (graded.one S) ≡ graded.one A
    restrict-one =
        graded-eq A (res (graded.one S)) (graded.one A)
        (chain (alike-restrict (graded.one S))
        (chain (pull-alike q (cochain S (graded.one S)) (one q G) (cochain-one S))
        (chain (pull-one q) (back (cochain-one A)))))

    pub restrict-mul : (I : Inverse E) (a c : Graded S)
        → res (graded.mul S a c) ≡ graded.mul A (res a) (res c)
    restrict-mul I a c =
        let u : Cocycle q G = cochain S a in
        let v : Cocycle q G = cochain S c in
        graded-eq A (res (graded.mul S a c)) (graded.mul A (res a) (res c))
        (chain (alike-restrict (graded.mul S a c))
        (chain (pull-alike q (cochain S (graded.mul S a c)) (mul q G u v) (cochain-mul S a c))
        (chain (pull-mul q u v)
        (chain (left (back (alike-restrict a)) (pulled q v))
        (chain (right I (cochain A (res a)) (back (alike-restrict c)))
        (back (cochain-mul A (res a) (res c))))))))

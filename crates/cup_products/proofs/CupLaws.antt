-- The laws of cup products of cocycles.
use Rattle.std.specs.Prelude.{◌≡◌, ℕ, zero, suc, refl, List, [], ◌+◌, ◌*◌, drop, take}
use Rattle.std.proofs.Common.{sym, ◌∙◌, ap, subst, arith}
use mathlib.Core.Path.{fun_ext}
use Rattle.group_modules.specs.Module.{Monoid, sub, lin}
use Rattle.group_modules.proofs.Laws.{sub-back, sub-zero, zero-add, lin-zero}
use Rattle.group_modules.specs.Field.{Below, residue, plus}
use Rattle.bar_complex.specs.Tuples.{Tuple, entries}
use Rattle.bar_complex.specs.Boundary.{boundary}
use Rattle.bar_complex.specs.Cochains.{turned, cup, Cochain, IsNormalised, IsCocycle, AreCohomologous}
use Rattle.bar_complex.proofs.FormalBoundary.{bar-twice, bar-null}
use Rattle.bar_complex.proofs.Cohomologous.{K, mulK, mulK-add, mulK-zero, mulK-comm, near-eq, near-refl}
use Rattle.bar_complex.proofs.Cohomologous.{near-trans, near-add}
use Rattle.cup_products.proofs.GradedCocycles.{Cocycle, AreAlike}
use Rattle.cup_products.proofs.Reverse.{Inverse}
use Rattle.cup_products.proofs.CupCoboundaries.{near-left}
use Rattle.cup_products.proofs.Cocycles.{ahead-is, mul, turn, mul-right, mul-comm}

module _ (q : ℕ) (G : Monoid) where
  -- a normalised cocycle with its degree
  abbrev pub cocycle : (d : ℕ) (u : Cochain q G) → IsNormalised q G d u → IsCocycle q G d u → Cocycle q G
  cocycle d u z c = record { deg = d; at = u; normal = z; cocycle = c }

  -- a cup product with a cocycle on the right
  pub cup-left : (d e : ℕ) (u u' v : Cochain q G) → IsNormalised q G e v → IsCocycle q G e v
      → AreCohomologous q G d u u' → AreCohomologous q G (d + e) (cup q d u v) (cup q d u' v)
  cup-left d e u u' v z c h =
      subst (λ k. AreCohomologous q G k (cup q d u v) (cup q d u' v)) (ahead-is e d)
      (near-left q G d e u v z c u' h)

  abbrev nil : Cochain q G
  nil xs = residue q 0

  nil-normalised : (d : ℕ) → IsNormalised q G d nil
  nil-normalised d t n = refl

  nil-cocycle : (d : ℕ) → IsCocycle q G d nil
  nil-cocycle d t = lin-zero (K q G) (boundary q G d t)

  drop-all : (d : ℕ) (t : Tuple G.elem d) → drop d (entries d t) ≡ []
  drop-all zero t = refl
  drop-all (suc d) t = drop-all d t.1

  module _ (I : Inverse G) where
    -- a cup product with a cocycle on the left
    pub cup-right : (d e : ℕ) (u v v' : Cochain q G) → IsNormalised q G d u → IsCocycle q G d u
        → AreCohomologous q G e v v' → AreCohomologous q G (d + e) (cup q d u v) (cup q d u v')
    cup-right d zero u v v' zu cu h =
        near-eq q G (d + 0) (cup q d u v) (cup q d u v')
        (λ t.
        let xs : List G.elem = entries (d + 0) t in
        let a : Below (suc q) = u (take d xs) in
        let e : drop d xs ≡ [] =
        subst (λ k. drop k xs ≡ []) (let f : d + 0 ≡ d = omega arith in f) (drop-all (d + 0) t) in
        ap (mulK q G a) (ap v e ∙ h ∙ ap v' (sym e)))
    cup-right d (suc e) u v v' zu cu h =
        near-trans q G (d + suc e) (cup q d u v) (λ xs. plus q (cup q d u z xs) (cup q d u v' xs))
        (cup q d u v')
        (near-eq q G (d + suc e) (cup q d u v) (λ xs. plus q (cup q d u z xs) (cup q d u v' xs))
        (λ t. apart (entries (d + suc e) t)))
        (near-trans q G (d + suc e) (λ xs. plus q (cup q d u z xs) (cup q d u v' xs))
        (λ xs. plus q (cup q d u nil xs) (cup q d u v' xs)) (cup q d u v')
        (near-add q G (d + suc e) (cup q d u z) (cup q d u nil) (cup q d u v') (cup q d u v') alike.near
        (near-refl q G (d + suc e) (cup q d u v')))
        (near-eq q G (d + suc e) (λ xs. plus q (cup q d u nil xs) (cup q d u v' xs)) (cup q d u v')
        (λ t. gone (entries (d + suc e) t))))
      where
        -- the difference, which is a coboundary
        z : Cochain q G
        z xs = sub (K q G) (v xs) (v' xs)

        apart : (xs : List G.elem) → cup q d u v xs ≡ plus q (cup q d u z xs) (cup q d u v' xs)
        apart xs =
            let a : Below (suc q) = u (take d xs) in
            let b : Below (suc q) = v (drop d xs) in
            let c : Below (suc q) = v' (drop d xs) in
            ap (mulK q G a) (sym (sub-back (K q G) b c)) ∙ mulK-add q G a (sub (K q G) b c) c

        gone : (xs : List G.elem) → plus q (cup q d u nil xs) (cup q d u v' xs) ≡ cup q d u v' xs
        gone xs =
            let a : Below (suc q) = u (take d xs) in
            ap (λ x. plus q x (cup q d u v' xs)) (mulK-comm q G a (residue q 0) ∙ mulK-zero q G a)
            ∙ zero-add (K q G) (cup q d u v' xs)

        z-normalised : IsNormalised q G (suc e) z
        z-normalised t n = h.2 t ∙ bar-null q G (K q G) e h.0 h.1 t n

        z-cocycle : IsCocycle q G (suc e) z
        z-cocycle t =
            ap (λ f. lin (K q G) f (boundary q G (suc e) t)) (fun_ext h.2) ∙ bar-twice q G (K q G) e h.0 h.1 t

        near : AreCohomologous q G (suc e) z nil
        near = (h.0, h.1, λ t. sub-zero (K q G) (z (entries (suc e) t)) ∙ h.2 t)

        alike : AreAlike (mul q G (cocycle d u zu cu) (cocycle (suc e) z z-normalised z-cocycle))
            (mul q G (cocycle d u zu cu) (cocycle (suc e) nil (nil-normalised (suc e)) (nil-cocycle (suc e))))
        alike =
            mul-right q G I (cocycle d u zu cu) (cocycle (suc e) z z-normalised z-cocycle)
            (cocycle (suc e) nil (nil-normalised (suc e)) (nil-cocycle (suc e))) record {
              same = refl;
              near = near;
            }

    -- the cup product in the other order
    pub cup-commutes : (d e : ℕ) (u v : Cochain q G) → IsNormalised q G d u → IsCocycle q G d u
        → IsNormalised q G e v
        → IsCocycle q G e v
        → AreCohomologous q G (d + e) (cup q d u v) (λ xs. turned q (d * e) (cup q e v u xs))
    cup-commutes d e u v zu cu zv cv =
        let a : AreAlike (mul q G (cocycle d u zu cu) (cocycle e v zv cv))
        (turn q G (d * e) (mul q G (cocycle e v zv cv) (cocycle d u zu cu))) =
        mul-comm q G I (cocycle d u zu cu) (cocycle e v zv cv) in
        a.near

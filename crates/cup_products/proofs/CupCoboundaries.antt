-- Cup products of cocycles that differ by coboundaries, and the cup product in the other order.
use Rattle.std.specs.Prelude.{◌≡◌, ℕ, zero, suc, refl, ◌∷◌, ◌++◌, length, take, drop, ◌+◌, ◌*◌}
use Rattle.std.proofs.Common.{sym, ◌∙◌, ap, ap₂, subst}
use mathlib.Core.Path.{fun_ext}
use Rattle.group_modules.specs.Module.{Monoid, sub, lin}
use Rattle.group_modules.proofs.Laws.{map-sub}
use Rattle.group_modules.specs.Field.{Below, residue}
use Rattle.chain_maps.specs.Lifts.{ahead}
use Rattle.bar_complex.specs.Tuples.{Tuple, HasIdentity, entries}
use Rattle.bar_complex.specs.Boundary.{boundary}
use Rattle.bar_complex.specs.Cochains.{turned, cup, Cochain, IsNormalised, IsCocycle, AreCohomologous}
use Rattle.bar_complex.proofs.FormalBoundary.{bar-complex}
use Rattle.bar_complex.proofs.ExactBar.{bar-exact}
use Rattle.bar_complex.proofs.Complexes.{Vanishes, homotopy, homotopy-null}
use Rattle.bar_complex.proofs.Cohomologous.{K, mulK, mulK-add-left, mulK-zero, near-eq}
use Rattle.cup_products.proofs.Theta as typed
use Rattle.cup_products.proofs.Theta.{first, others, val-theta, theta, theta-null, cup-coboundary}
use Rattle.cup_products.proofs.Reverse.{Inverse, rho}
use Rattle.cup_products.proofs.Reversal
use Rattle.cup_products.proofs.Reversal.{reversed, reversal, triangle, rev, back, entries-rev, cup-reversed}
use Rattle.cup_products.proofs.Reversal.{same, same-map, rho-map}

module _ (q : ℕ) (G : Monoid) where
  pub first-take : (e j : ℕ) (t : Tuple G.elem (ahead e j))
      → entries j (first G.elem e j t) ≡ take j (entries (ahead e j) t)
  first-take e zero t = refl
  first-take e (suc j) t = ap (λ xs. t.0 ∷ xs) (first-take e j t.1)

  pub others-drop : (e j : ℕ) (t : Tuple G.elem (ahead e j))
      → entries e (others G.elem e j t) ≡ drop j (entries (ahead e j) t)
  others-drop e zero t = refl
  others-drop e (suc j) t = others-drop e j t.1

  -- the cup product on tuples is that on lists
  pub cup-list : (e j : ℕ) (u v : Cochain q G) (t : Tuple G.elem (ahead e j))
      → typed.cup q G j e (λ t. u (entries j t)) (λ t. v (entries e t)) t
      ≡ cup q j u v (entries (ahead e j) t)
  cup-list e j u v t = ap₂ (mulK q G) (ap u (first-take e j t)) (ap v (others-drop e j t))

  -- cup products
  module _ (j e : ℕ) (u v : Cochain q G) (zv : IsNormalised q G e v) (cv : IsCocycle q G e v) where
    abbrev at : (d : ℕ) → Cochain q G → Tuple G.elem d → Below (suc q)
    at d w t = w (entries d t)

    cup-vanish : (w : Tuple G.elem j → Below (suc q)) → Vanishes (K q G) (HasIdentity G j) w
        → (t : Tuple G.elem (ahead e j)) → HasIdentity G (ahead e j) t
        → typed.cup q G j e w (at e v) t ≡ residue q 0
    cup-vanish w y t n =
        sym (val-theta q G e (at e v) zv cv j w y t)
        ∙ ap (typed.val q G j w y) (theta-null q G e (at e v) zv j t n)

    pub cup-normal : IsNormalised q G j u → IsNormalised q G (ahead e j) (cup q j u v)
    cup-normal zu t n = sym (cup-list e j u v t) ∙ cup-vanish (at j u) zu t n

    pub cup-cocycle : IsNormalised q G j u → IsCocycle q G j u → IsCocycle q G (ahead e j) (cup q j u v)
    cup-cocycle zu cu t =
        ap (λ f. lin (K q G) f (boundary q G (ahead e j) t)) (fun_ext (λ s. sym (cup-list e j u v s)))
        ∙ sym (cup-coboundary q G e (at e v) zv cv j (at j u) zu t)
        ∙ ap (λ a. mulK q G a (v (entries e (others G.elem e (suc j) t)))) (cu (first G.elem e (suc j) t))
        ∙ mulK-zero q G (v (entries e (others G.elem e (suc j) t)))

    -- a cup product with a cocycle on the right
    pub near-left : (u' : Cochain q G) → AreCohomologous q G j u u'
        → AreCohomologous q G (ahead e j) (cup q j u v) (cup q j u' v)
    near-left u' h = go j h
      where
        go : (j : ℕ) → AreCohomologous q G j u u'
            → AreCohomologous q G (ahead e j) (cup q j u v) (cup q j u' v)
        go zero h = near-eq q G e (cup q zero u v) (cup q zero u' v)
            (λ t. ap (λ a. mulK q G a (v (entries e t))) h)
        go (suc j) h = (
          typed.cup q G j e h.0 (at e v),
          (λ s n. sym (val-theta q G e (at e v) zv cv j h.0 h.1 s)
              ∙ ap (typed.val q G j h.0 h.1) (theta-null q G e (at e v) zv j s n)),
          λ t.
              let a : Below (suc q) = v (drop (suc j) (entries (suc (ahead e j)) t)) in
              sym (map-sub (K q G) (K q G) (λ x. mulK q G x a) (mulK-add-left q G a)
              (u (take (suc j) (entries (suc (ahead e j)) t)))
              (u' (take (suc j) (entries (suc (ahead e j)) t))))
              ∙ ap₂ (mulK q G)
              (ap (λ xs. sub (K q G) (u xs) (u' xs)) (sym (first-take e (suc j) t))
              ∙ h.2 (first G.elem e (suc j) t))
              (ap v (sym (others-drop e (suc j) t)))
              ∙ cup-coboundary q G e (at e v) zv cv j h.0 h.1 t,
        )

  module _ (I : Inverse G) where
    -- a cocycle and its reversal
    pub near-reversed : (d : ℕ) (u : Cochain q G) → IsNormalised q G d u → IsCocycle q G d u
        → AreCohomologous q G d (reversed q G I d u) u
    near-reversed zero u z c = refl
    near-reversed (suc d) u z c = (
      (λ s. Reversal.val q G I (suc d) (λ t. u (entries (suc d) t)) z
          (homotopy (bar-complex q G) (bar-exact q G) (rho (suc q) G I) (same q G I) d s)),
      (λ s n.
          ap (Reversal.val q G I (suc d) (λ t. u (entries (suc d) t)) z)
          (homotopy-null (bar-complex q G) (bar-exact q G) (rho (suc q) G I) (same q G I) (rho-map q G I)
          (same-map q G I) d s n)),
      λ t.
          ap (λ xs. sub (K q G) (turned q (triangle q G I (suc d)) (u xs)) (u (entries (suc d) t)))
          (sym (entries-rev q G I (suc d) t))
          ∙ reversal q G I d (λ t. u (entries (suc d) t)) z c t,
    )

    entries-length : (d : ℕ) (t : Tuple G.elem d) → length (entries d t) ≡ d
    entries-length zero t = refl
    entries-length (suc d) t = ap suc (entries-length d t.1)

    entries-split : (e j : ℕ) (t : Tuple G.elem (ahead e j))
        → entries j (first G.elem e j t) ++ entries e (others G.elem e j t) ≡ entries (ahead e j) t
    entries-split e zero t = refl
    entries-split e (suc j) t = ap (λ xs. t.0 ∷ xs) (entries-split e j t.1)

    pub near-cup-reversed : (j e : ℕ) (u v : Cochain q G)
        → AreCohomologous q G (ahead j e)
        (λ xs. turned q (j * e) (cup q e (reversed q G I e v) (reversed q G I j u) xs))
        (reversed q G I (j + e) (cup q j u v))
    near-cup-reversed j e u v =
        near-eq q G (ahead j e)
        (λ xs. turned q (j * e) (cup q e (reversed q G I e v) (reversed q G I j u) xs))
        (reversed q G I (j + e) (cup q j u v))
        (λ t.
        subst (λ xs. turned q (j * e) (cup q e (reversed q G I e v) (reversed q G I j u) xs)
        ≡ reversed q G I (j + e) (cup q j u v) xs)
        (entries-split j e t)
        (cup-reversed q G I j e u v (entries e (first G.elem j e t)) (entries j (others G.elem j e t))
        (entries-length e (first G.elem j e t)) (entries-length j (others G.elem j e t))))

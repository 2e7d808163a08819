-- The product of classes by lifts, and the cup product of their cocycles.
use Rattle.std.specs.Prelude.{◌≡◌, ℕ, suc}
use Rattle.std.proofs.Common.{sym, ◌∙◌, ap, ap₂, mul_comm}
use mathlib.Core.Path.{fun_ext}
use Rattle.group_modules.specs.Module.{Monoid, Module, sub, times, IsLinear, lin}
use Rattle.group_modules.proofs.Laws.{map-zero, map-sub, map-times, map-lin, zero-add, sub-eq, then-linear}
use Rattle.group_modules.specs.Field.{Below, Fp, residue}
use Rattle.linear_algebra.proofs.Residues.{residue-self, times-residue, times-one}
use Rattle.chain_maps.specs.Lifts.{ahead}
use Rattle.bar_complex.specs.Tuples.{Tuple, HasIdentity}
use Rattle.bar_complex.specs.Boundary.{boundary, coboundary}
use Rattle.bar_complex.proofs.FreeModules.{term}
use Rattle.bar_complex.proofs.Contraction.{Bar}
use Rattle.bar_complex.proofs.FormalBoundary.{bar-complex}
use Rattle.bar_complex.proofs.Complexes.{Vanishes, FreeComplex, IsChainMap, Agree, homotopic, homotopy}
use Rattle.bar_complex.proofs.Complexes.{homotopy-null, homotopy-boundary}
use Rattle.bar_comparison.proofs.Lifted.{lifted, lifted-map, Starts}
use Rattle.bar_comparison.proofs.Comparison.{MinimalStages, Class, pair, pair-linear, stage-complex}
use Rattle.bar_comparison.proofs.Comparison.{stage-boundary, row-minimal, comparison, comparison-map}
use Rattle.bar_comparison.proofs.Comparison.{bar_cocycle, bar-cocycle-closed, forth, forth-linear}
use Rattle.bar_comparison.proofs.Comparison.{forth-commute}
use Rattle.cup_products.proofs.Theta.{first, others, cup, theta, theta-null, theta-commute}

-- the complex from degree e on
abbrev pub shift : {p : ℕ} {G : Monoid} → ℕ → FreeComplex p G → FreeComplex p G
shift e X = record {
  basis = λ d. X.basis (ahead e d);
  null = λ d. X.null (ahead e d);
  boundary = λ d. X.boundary (ahead e d);
  boundary-null = λ M d. X.boundary-null M (ahead e d);
  twice = λ M d. X.twice M (ahead e d);
}

module _ {q : ℕ} {G : Monoid} (S : MinimalStages q G) (e : ℕ) (c : Class S e) where
  -- the lift of a class: basis element i of P_e goes to c_i 1, then by the section
  abbrev pub lift-map : (j : ℕ) → S.basis (ahead e j) → (S.exact.at j).of
  lift-map = lifted (shift e (stage-complex S)) S.exact
      (λ i. times (S.exact.at 0).add (S.exact.at 0).zero (c i).0 S.one)

  -- the product of a class of degree j with c
  abbrev pub product : (j : ℕ) → Class S j → Class S (ahead e j)
  product j a i = pair S j a (lift-map j i)

  times-aug : (b : Below (suc q))
      → S.exact.augment (times (S.exact.at 0).add (S.exact.at 0).zero b.0 S.one) ≡ b
  times-aug b =
      map-times (S.exact.at 0) (Fp q G) S.exact.augment S.exact.augment-linear.on-add b.0 S.one
      ∙ ap (times (Fp q G).add (Fp q G).zero b.0) S.augment-one ∙ times-one q b.0 ∙ residue-self q b

  lift-starts : Starts (shift e (stage-complex S)) S.exact
      (λ i. times (S.exact.at 0).add (S.exact.at 0).zero (c i).0 S.one)
  lift-starts = record {
    vanish = λ i n. absurd n;
    cycle = λ i.
        map-lin (S.exact.at 0) (Fp q G) S.exact.augment S.exact.augment-linear
        (λ i. times (S.exact.at 0).add (S.exact.at 0).zero (c i).0 S.one) (stage-boundary S e i)
        ∙ ap (λ u. lin (Fp q G) u (stage-boundary S e i)) (fun_ext (λ i. times-aug (c i)))
        ∙ row-minimal S e c i;
  }

  pub lift-chain : IsChainMap (shift e (stage-complex S)) S.exact lift-map
  lift-chain =
      lifted-map (shift e (stage-complex S)) S.exact
      (λ i. times (S.exact.at 0).add (S.exact.at 0).zero (c i).0 S.one) lift-starts

  -- the lift, extended linearly
  abbrev pub over : (j : ℕ) → (S.exact.at (ahead e j)).of → (S.exact.at j).of
  over j w = lin (S.exact.at j) (lift-map j) (S.terms (ahead e j) w)

  over-linear : (j : ℕ) → IsLinear (S.exact.at (ahead e j)) (S.exact.at j) (over j)
  over-linear j = S.terms-linear (ahead e j) (S.exact.at j) (lift-map j)

  over-commute : (j : ℕ) (w : (S.exact.at (suc (ahead e j))).of)
      → S.exact.boundary j (over (suc j) w) ≡ over j (S.exact.boundary (ahead e j) w)
  over-commute j w =
      let A : Module (suc q) G = S.exact.at (suc (ahead e j)) in
      let B : Module (suc q) G = S.exact.at (ahead e j) in
      let M : Module (suc q) G = S.exact.at (suc j) in
      let N : Module (suc q) G = S.exact.at j in
      let m : IsChainMap (shift e (stage-complex S)) S.exact lift-map = lift-chain in
      let F : A.of → N.of = λ w. over j (S.exact.boundary (ahead e j) w) in
      map-lin M N (S.exact.boundary j) (S.exact.linear j) (lift-map (suc j)) (S.terms (suc (ahead e j)) w)
      ∙ ap (λ u. lin N u (S.terms (suc (ahead e j)) w))
      (fun_ext (λ i. m.commute j i ∙ ap (over j) (sym (S.boundary-unit (ahead e j) i))))
      ∙ sym
      (map-lin A N F
      (then-linear A B N (S.exact.boundary (ahead e j)) (over j) (S.exact.linear (ahead e j))
      (over-linear j))
      (S.unit (suc (ahead e j))) (S.terms (suc (ahead e j)) w))
      ∙ ap F (S.terms-sum (suc (ahead e j)) w)

  abbrev pub kc : Tuple G.elem e → Below (suc q)
  kc = bar_cocycle S e c

  pub kc-null : Vanishes (Fp q G) (HasIdentity G e) kc
  kc-null t n = ap (pair S e c) ((comparison-map S).vanish e t n)
      ∙ map-zero (S.exact.at e) (Fp q G) (pair S e c) (pair-linear S e c).on-add

  -- theta, and then the comparison; the comparison, and then the lift
  abbrev pub left : (j : ℕ) → Tuple G.elem (ahead e j) → (S.exact.at j).of
  left j t = forth S j (theta q G e kc j t)

  abbrev pub right : (j : ℕ) → Tuple G.elem (ahead e j) → (S.exact.at j).of
  right j t = over j (comparison S (ahead e j) t)

  pub left-map : IsChainMap (shift e (bar-complex q G)) S.exact left
  left-map = record {
    vanish = λ j t n. ap (forth S j) (theta-null q G e kc kc-null j t n);
    commute = λ j t.
        forth-commute S j (theta q G e kc (suc j) t)
        ∙ ap (forth S j) (theta-commute q G e kc kc-null (bar-cocycle-closed S e c) j t)
        ∙ map-lin (Bar (suc q) G j) (S.exact.at j) (forth S j) (forth-linear S j) (theta q G e kc j)
        (boundary q G (ahead e j) t);
  }

  pub right-map : IsChainMap (shift e (bar-complex q G)) S.exact right
  right-map = record {
    vanish = λ j t n.
        ap (over j) ((comparison-map S).vanish (ahead e j) t n)
        ∙ map-zero (S.exact.at (ahead e j)) (S.exact.at j) (over j) (over-linear j).on-add;
    commute = λ j t.
        over-commute j (comparison S (suc (ahead e j)) t)
        ∙ ap (over j) ((comparison-map S).commute (ahead e j) t)
        ∙ map-lin (S.exact.at (ahead e j)) (S.exact.at j) (over j) (over-linear j) (comparison S (ahead e j))
        (boundary q G (ahead e j) t);
  }

  agree : Agree (shift e (bar-complex q G)) S.exact left right
  agree t =
      let P : Module (suc q) G = S.exact.at 0 in
      map-times (Bar (suc q) G 0) (Fp q G) (λ a. S.exact.augment (forth S 0 a))
      (λ a b. S.exact.augment-linear.on-add (forth S 0 a) (forth S 0 b)) (kc t).0 (term G.one tt)
      ∙ ap (times (Fp q G).add (Fp q G).zero (kc t).0) (ap S.exact.augment (P.act-one S.one) ∙ S.augment-one)
      ∙ times-one q (kc t).0 ∙ residue-self q (kc t)
      ∙ sym
      (map-lin P (Fp q G) S.exact.augment S.exact.augment-linear (lift-map 0) (S.terms e (comparison S e t))
      ∙ ap (λ u. lin (Fp q G) u (S.terms e (comparison S e t))) (fun_ext (λ i. times-aug (c i))))

  -- the two values of a class of degree j: the cup product, and the product by lifts
  left-value : (j : ℕ) (a : Class S j) (t : Tuple G.elem (ahead e j))
      → pair S j a (left j t) ≡ cup q G j e (bar_cocycle S j a) kc t
  left-value j a t =
      map-times (Bar (suc q) G j) (Fp q G) (λ x. pair S j a (forth S j x))
      (λ x y. (pair-linear S j a).on-add (forth S j x) (forth S j y)) (kc (others G.elem e j t)).0
      (term G.one (first G.elem e j t))
      ∙ ap (times (Fp q G).add (Fp q G).zero (kc (others G.elem e j t)).0)
      (ap (pair S j a) ((S.exact.at j).act-one (comparison S j (first G.elem e j t))))
      ∙ times-residue q (kc (others G.elem e j t)).0 (bar_cocycle S j a (first G.elem e j t))
      ∙ ap (residue q) (mul_comm _ _)

  right-value : (j : ℕ) (a : Class S j) (t : Tuple G.elem (ahead e j))
      → pair S j a (right j t) ≡ bar_cocycle S (ahead e j) (product j a) t
  right-value j a t =
      map-lin (S.exact.at j) (Fp q G) (pair S j a) (pair-linear S j a) (lift-map j)
      (S.terms (ahead e j) (comparison S (ahead e j) t))

  -- the cochain whose coboundary is the difference
  abbrev pub between : (j : ℕ) → Class S (suc j) → Tuple G.elem (ahead e j) → Below (suc q)
  between j a t = pair S (suc j) a (homotopy (shift e (bar-complex q G)) S.exact left right j t)

  pub between-null : (j : ℕ) (a : Class S (suc j))
      → Vanishes (Fp q G) (HasIdentity G (ahead e j)) (between j a)
  between-null j a t n =
      ap (pair S (suc j) a)
      (homotopy-null (shift e (bar-complex q G)) S.exact left right left-map right-map j t n)
      ∙ map-zero (S.exact.at (suc j)) (Fp q G) (pair S (suc j) a) (pair-linear S (suc j) a).on-add

  -- the cup product of the cochains differs by a coboundary from the cochain of the product by lifts
  pub cup-product : (j : ℕ) (a : Class S (suc j)) (t : Tuple G.elem (ahead e (suc j)))
      → sub (Fp q G) (cup q G (suc j) e (bar_cocycle S (suc j) a) kc t)
      (bar_cocycle S (ahead e (suc j)) (product (suc j) a) t)
      ≡ coboundary q G (ahead e j) (between j a) t
  cup-product j a t =
      let M : Module (suc q) G = S.exact.at (suc j) in
      let K : Module (suc q) G = Fp q G in
      let h : (d : ℕ) → Tuple G.elem (ahead e d)
      → (S.exact.at (suc d)).of = homotopy (shift e (bar-complex q G)) S.exact left right in
      ap₂ (sub K) (sym (left-value (suc j) a t)) (sym (right-value (suc j) a t))
      ∙ sym (map-sub M K (pair S (suc j) a) (pair-linear S (suc j) a).on-add (left (suc j) t)
      (right (suc j) t))
      ∙ ap (pair S (suc j) a)
      (sym (homotopic (shift e (bar-complex q G)) S.exact left right left-map right-map agree j t))
      ∙ (pair-linear S (suc j) a).on-add (S.exact.boundary (suc j) (h (suc j) t))
      (lin M (h j) (boundary q G (ahead e j) t))
      ∙ ap₂ K.add (S.minimal (suc j) a (h (suc j) t))
      (map-lin M K (pair S (suc j) a) (pair-linear S (suc j) a) (h j) (boundary q G (ahead e j) t))
      ∙ zero-add K (coboundary q G (ahead e j) (between j a) t)

  -- for a class of degree 0 the two are equal
  pub cup-product-zero : (a : Class S 0) (t : Tuple G.elem (ahead e 0))
      → cup q G 0 e (bar_cocycle S 0 a) kc t ≡ bar_cocycle S (ahead e 0) (product 0 a) t
  cup-product-zero a t =
      let M : Module (suc q) G = S.exact.at 0 in
      let K : Module (suc q) G = Fp q G in
      sub-eq K (cup q G 0 e (bar_cocycle S 0 a) kc t) (bar_cocycle S (ahead e 0) (product 0 a) t)
      (ap₂ (sub K) (sym (left-value 0 a t)) (sym (right-value 0 a t))
      ∙ sym (map-sub M K (pair S 0 a) (pair-linear S 0 a).on-add (left 0 t) (right 0 t))
      ∙ ap (pair S 0 a)
      (sym (homotopy-boundary
      (shift e (bar-complex q G)) S.exact left right left-map right-map agree 0 t))
      ∙ S.minimal 0 a (homotopy (shift e (bar-complex q G)) S.exact left right 0 t))

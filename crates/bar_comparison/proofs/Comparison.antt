-- MinimalStages: an exact complex with bases, in which the boundaries lie in the radical. The bar complex
-- beside them.
use Rattle.std.specs.Prelude.{◌≡◌, ℕ, zero, suc, List}
use Rattle.std.proofs.Common.{sym, ◌∙◌, ap, ap₂}
use mathlib.Core.Path.{fun_ext}
use Rattle.group_modules.specs.Module.{Monoid, Module, sub, IsLinear, Term, lin}
use Rattle.group_modules.proofs.Laws.{sub-self, map-zero, map-sub, map-lin, zero-add, sub-eq, then-linear}
use Rattle.group_modules.proofs.Laws.{zero-linear}
use Rattle.group_modules.specs.Field.{Below, Fp, residue}
use Rattle.bar_complex.proofs.FreeModules.{term, extend, extend-linear, linear-ext, move-one, null}
use Rattle.bar_complex.specs.Tuples.{Tuple, HasIdentity}
use Rattle.bar_complex.proofs.Contraction.{Bar, bd, D, D-linear}
use Rattle.bar_complex.specs.Boundary.{boundary, coboundary}
use Rattle.bar_complex.proofs.FormalBoundary.{bar-complex, lin-value, value-boundary}
use Rattle.bar_complex.proofs.ExactBar.{bar-exact}
use Rattle.bar_complex.proofs.Complexes.{Vanishes, FreeComplex, Exact, IsChainMap, Agree, homotopic, homotopy}
use Rattle.bar_complex.proofs.Complexes.{homotopy-null, homotopy-boundary}
use Rattle.bar_comparison.proofs.Lifted.{lifted, lifted-map, Starts}

-- minimal stages: P_d with its basis, the boundary and the section
pub record MinimalStages (q : ℕ) (G : Monoid) : Type 1 where
  pub exact : Exact q G
  pub basis : ℕ → Type 0
  pub unit : (d : ℕ) → basis d → (exact.at d).of
  -- the formal sum over the basis that is v
  pub terms : (d : ℕ) → (exact.at d).of → List (Term G (basis d))
  pub terms-sum : (d : ℕ) (v : (exact.at d).of) → lin (exact.at d) (unit d) (terms d v) ≡ v
  pub terms-linear : (d : ℕ) (M : Module (suc q) G) (u : basis d → M.of)
      → IsLinear (exact.at d) M (λ v. lin M u (terms d v))
  pub terms-unit : (d : ℕ) (M : Module (suc q) G) (u : basis d → M.of) (i : basis d)
      → lin M u (terms d (unit d i)) ≡ u i
  -- the boundary of a basis element
  pub row : (d : ℕ) → basis (suc d) → (exact.at d).of
  pub boundary-unit : (d : ℕ) (i : basis (suc d)) → exact.boundary d (unit (suc d) i) ≡ row d i
  pub twice : (d : ℕ) (v : (exact.at (suc (suc d))).of)
      → exact.boundary d (exact.boundary (suc d) v) ≡ (exact.at d).zero
  pub one : (exact.at 0).of
  pub only-one : (i : basis 0) → unit 0 i ≡ one
  pub augment-one : exact.augment one ≡ residue q 1
  pub minimal : (d : ℕ) (c : basis d → Below (suc q)) (v : (exact.at (suc d)).of)
      → lin (Fp q G) c (terms d (exact.boundary d v)) ≡ residue q 0

module _ {q : ℕ} {G : Monoid} (S : MinimalStages q G) where
  abbrev pub Class : ℕ → Type 0
  Class d = S.basis d → Below (suc q)

  -- the sum of c_i times the augmentation of block i of v
  abbrev pub pair : (d : ℕ) → Class d → (S.exact.at d).of → Below (suc q)
  pair d c v = lin (Fp q G) c (S.terms d v)

  -- the stages as a complex with bases
  abbrev pub stage-boundary : (d : ℕ) → S.basis (suc d) → List (Term G (S.basis d))
  stage-boundary d i = S.terms d (S.row d i)

  pub row-minimal : (d : ℕ) (c : Class d) (i : S.basis (suc d))
      → lin (Fp q G) c (stage-boundary d i) ≡ residue q 0
  row-minimal d c i = ap (pair d c) (sym (S.boundary-unit d i)) ∙ S.minimal d c (S.unit (suc d) i)

  pub stage-twice : (M : Module (suc q) G) (d : ℕ) (f : S.basis d → M.of) → Vanishes M (λ i. ⊥) f
      → (x : S.basis (suc (suc d)))
      → lin M (λ y. lin M f (stage-boundary d y)) (stage-boundary (suc d) x) ≡ M.zero
  stage-twice M d f z x =
      let P : Module (suc q) G = S.exact.at d in
      let Q : Module (suc q) G = S.exact.at (suc d) in
      let F : P.of → M.of = λ v. lin M f (S.terms d v) in
      let l : IsLinear P M F = S.terms-linear d M f in
      let b : IsLinear Q P (S.exact.boundary d) = S.exact.linear d in
      let k : IsLinear Q M (λ v. F (S.exact.boundary d v)) = record {
        on-add = λ v w. ap F (b.on-add v w) ∙ l.on-add _ _;
        on-act = λ g v. ap F (b.on-act g v) ∙ l.on-act g _;
      } in
      ap (λ u. lin M u (stage-boundary (suc d) x)) (fun_ext (λ i. ap F (sym (S.boundary-unit d i))))
      ∙ sym (map-lin Q M (λ v. F (S.exact.boundary d v)) k (S.unit (suc d)) (stage-boundary (suc d) x))
      ∙ ap F (ap (S.exact.boundary d) (S.terms-sum (suc d) _ ∙ sym (S.boundary-unit (suc d) x))
      ∙ S.twice d (S.unit (suc (suc d)) x))
      ∙ map-zero P M F l.on-add

  abbrev pub stage-complex : FreeComplex (suc q) G
  stage-complex = record {
    basis = S.basis;
    null = λ d i. ⊥;
    boundary = stage-boundary;
    boundary-null = λ M d f z x n. absurd n;
    twice = stage-twice;
  }

  -- the comparison: f_0 of the empty tuple is 1, and f_d(t) is the section at f_(d-1)(boundary of t)
  abbrev pub comparison : (d : ℕ) → Tuple G.elem d → (S.exact.at d).of
  comparison = lifted (bar-complex q G) S.exact (λ t. S.one)

  pub comparison-starts : Starts (bar-complex q G) S.exact (λ t. S.one)
  comparison-starts = record {
    vanish = λ x n. absurd n;
    cycle = λ x.
        let l : IsLinear (S.exact.at 0) (Fp q G) S.exact.augment = S.exact.augment-linear in
        map-lin (S.exact.at 0) (Fp q G) S.exact.augment l (λ t. S.one) (boundary q G 0 x)
        ∙ lin-value q G (Fp q G) 0 (λ t. S.exact.augment S.one) (λ t n. absurd n) (boundary q G 0 x)
        ∙ ap (extend (Tuple G.elem 0) (HasIdentity G 0) (Fp q G) (λ t. S.exact.augment S.one)
        (λ t n. absurd n)) (value-boundary q G 0 x)
        ∙ sub-self (Fp q G) (S.exact.augment S.one);
  }

  pub comparison-map : IsChainMap (bar-complex q G) S.exact comparison
  comparison-map = lifted-map (bar-complex q G) S.exact (λ t. S.one) comparison-starts

  -- the bar cochain of a class
  abbrev pub bar_cocycle : (d : ℕ) → Class d → Tuple G.elem d → Below (suc q)
  bar_cocycle d c t = pair d c (comparison d t)

  -- the bar cochain of a class is a cocycle
  pub bar-cocycle-closed : (d : ℕ) (c : Class d) (t : Tuple G.elem (suc d))
      → coboundary q G d (bar_cocycle d c) t ≡ residue q 0
  bar-cocycle-closed d c t =
      let m : IsChainMap (bar-complex q G) S.exact comparison = comparison-map in
      sym (map-lin (S.exact.at d) (Fp q G) (pair d c) (S.terms-linear d (Fp q G) c) (comparison d)
      (boundary q G d t))
      ∙ ap (pair d c) (sym (m.commute d t)) ∙ S.minimal d c (comparison (suc d) t)

  -- the chain map back: the basis element of P_0 goes to the empty tuple, then by the contraction of the bar
  -- complex
  abbrev pub back : (d : ℕ) → S.basis d → (Bar (suc q) G d).of
  back = lifted stage-complex (bar-exact q G) (λ i. term G.one tt)

  back-starts : Starts stage-complex (bar-exact q G) (λ i. term G.one tt)
  back-starts = record {
    vanish = λ x n. absurd n;
    cycle = λ x.
        let B : Exact q G = bar-exact q G in
        let P : Module (suc q) G = S.exact.at 0 in
        let l : IsLinear P (Fp q G) S.exact.augment = S.exact.augment-linear in
        map-lin (B.at 0) (Fp q G) B.augment B.augment-linear (λ i. term G.one tt) (stage-boundary 0 x)
        ∙ ap (λ u. lin (Fp q G) u (stage-boundary 0 x))
        (fun_ext (λ i. sym (ap S.exact.augment (S.only-one i) ∙ S.augment-one)))
        ∙ sym (map-lin P (Fp q G) S.exact.augment l (S.unit 0) (stage-boundary 0 x))
        ∙ ap S.exact.augment (S.terms-sum 0 _ ∙ sym (S.boundary-unit 0 x))
        ∙ S.exact.augment-boundary (S.unit 1 x);
  }

  pub back-map : IsChainMap stage-complex (bar-exact q G) back
  back-map = lifted-map stage-complex (bar-exact q G) (λ i. term G.one tt) back-starts

  -- the comparison, extended linearly to the bar complex
  abbrev pub forth : (d : ℕ) → (Bar (suc q) G d).of → (S.exact.at d).of
  forth d = extend (Tuple G.elem d) (HasIdentity G d) (S.exact.at d) (comparison d) (comparison-map.vanish d)

  pub forth-linear : (d : ℕ) → IsLinear (Bar (suc q) G d) (S.exact.at d) (forth d)
  forth-linear d =
      extend-linear (Tuple G.elem d) (HasIdentity G d) (S.exact.at d) (comparison d) (comparison-map.vanish d)

  pub forth-commute : (d : ℕ) (a : (Bar (suc q) G (suc d)).of)
      → S.exact.boundary d (forth (suc d) a) ≡ forth d (D (suc q) G d a)
  forth-commute d =
      let B : Module (suc q) G = Bar (suc q) G (suc d) in
      let C : Module (suc q) G = Bar (suc q) G d in
      let P : Module (suc q) G = S.exact.at (suc d) in
      let Q : Module (suc q) G = S.exact.at d in
      let m : IsChainMap (bar-complex q G) S.exact comparison = comparison-map in
      linear-ext Q (λ a. S.exact.boundary d (forth (suc d) a)) (λ a. forth d (D (suc q) G d a))
      (then-linear B P Q (forth (suc d)) (S.exact.boundary d) (forth-linear (suc d)) (S.exact.linear d))
      (then-linear B C Q (D (suc q) G d) (forth d) (D-linear (suc q) G d) (forth-linear d))
      (λ x.
      ap (S.exact.boundary d) (P.act-one (comparison (suc d) x)) ∙ m.commute d x
      ∙ lin-value q G Q d (comparison d) (m.vanish d) (boundary q G d x)
      ∙ ap (forth d) (value-boundary q G d x ∙ sym (move-one G (bd (suc q) G d x))))

  -- the way back, extended linearly to the stages
  abbrev pub backward : (d : ℕ) → (S.exact.at d).of → (Bar (suc q) G d).of
  backward d v = lin (Bar (suc q) G d) (back d) (S.terms d v)

  pub backward-commute : (d : ℕ) (v : (S.exact.at (suc d)).of)
      → D (suc q) G d (backward (suc d) v) ≡ backward d (S.exact.boundary d v)
  backward-commute d v =
      let B : Module (suc q) G = Bar (suc q) G (suc d) in
      let C : Module (suc q) G = Bar (suc q) G d in
      let P : Module (suc q) G = S.exact.at (suc d) in
      let Q : Module (suc q) G = S.exact.at d in
      let m : IsChainMap stage-complex (bar-exact q G) back = back-map in
      let F : P.of → C.of = λ w. backward d (S.exact.boundary d w) in
      let l : IsLinear P C F =
      then-linear P Q C (S.exact.boundary d) (backward d) (S.exact.linear d)
      (S.terms-linear d C (back d)) in
      map-lin B C (D (suc q) G d) (D-linear (suc q) G d) (back (suc d)) (S.terms (suc d) v)
      ∙ ap (λ u. lin C u (S.terms (suc d) v))
      (fun_ext (λ i. m.commute d i ∙ ap (backward d) (sym (S.boundary-unit d i))))
      ∙ sym (map-lin P C F l (S.unit (suc d)) (S.terms (suc d) v)) ∙ ap F (S.terms-sum (suc d) v)

  -- there and back on the stages, beside the identity
  abbrev pub round : (d : ℕ) → S.basis d → (S.exact.at d).of
  round d i = forth d (back d i)

  pub round-map : IsChainMap stage-complex S.exact round
  round-map = record {
    vanish = λ d i n. absurd n;
    commute = λ d i.
        let m : IsChainMap stage-complex (bar-exact q G) back = back-map in
        forth-commute d (back (suc d) i) ∙ ap (forth d) (m.commute d i)
        ∙ map-lin (Bar (suc q) G d) (S.exact.at d) (forth d) (forth-linear d) (back d) (stage-boundary d i);
  }

  pub unit-map : IsChainMap stage-complex S.exact S.unit
  unit-map = record {
    vanish = λ d i n. absurd n;
    commute = λ d i. S.boundary-unit d i
        ∙ sym (S.terms-sum d (S.row d i));
  }

  pub round-agree : Agree stage-complex S.exact round S.unit
  round-agree i = ap S.exact.augment ((S.exact.at 0).act-one S.one ∙ sym (S.only-one i))

  pub pair-linear : (d : ℕ) (c : Class d) → IsLinear (S.exact.at d) (Fp q G) (pair d c)
  pair-linear d c = S.terms-linear d (Fp q G) c

  pub pair-boundary : (d : ℕ) (c : Class (suc d)) (w : S.basis d → (S.exact.at (suc d)).of)
      (i : S.basis (suc d))
      → pair (suc d) c (lin (S.exact.at (suc d)) w (stage-boundary d i)) ≡ residue q 0
  pair-boundary d c w i =
      map-lin (S.exact.at (suc d)) (Fp q G) (pair (suc d) c) (pair-linear (suc d) c) w (stage-boundary d i)
      ∙ row-minimal d (λ j. pair (suc d) c (w j)) i

  -- going there and back changes no class
  pub pair-round : (d : ℕ) (c : Class d) (i : S.basis d) → pair d c (round d i) ≡ c i
  pair-round d c i =
      sub-eq (Fp q G) (pair d c (round d i)) (c i)
      (ap (sub (Fp q G) (pair d c (round d i))) (sym (S.terms-unit d (Fp q G) c i))
      ∙ sym (map-sub (S.exact.at d) (Fp q G) (pair d c) (pair-linear d c).on-add (round d i) (S.unit d i))
      ∙ gone d c i)
    where
      gone : (d : ℕ) (c : Class d) (i : S.basis d)
          → pair d c (sub (S.exact.at d) (round d i) (S.unit d i)) ≡ residue q 0
      gone zero c i =
          ap (pair 0 c)
          (sym (homotopy-boundary stage-complex S.exact round S.unit round-map unit-map round-agree 0 i))
          ∙ S.minimal 0 c _
      gone (suc d) c i =
          let h : (d : ℕ) → S.basis d
          → (S.exact.at (suc d)).of = homotopy stage-complex S.exact round S.unit in
          ap (pair (suc d) c)
          (sym (homotopic stage-complex S.exact round S.unit round-map unit-map round-agree d i))
          ∙ (pair-linear (suc d) c).on-add (S.exact.boundary (suc d) (h (suc d) i))
          (lin (S.exact.at (suc d)) (h d) (stage-boundary d i))
          ∙ ap₂ (Fp q G).add (S.minimal (suc d) c (h (suc d) i)) (pair-boundary d c (h d) i)
          ∙ (Fp q G).add-zero (residue q 0)

  -- a cochain at an element of the bar complex
  abbrev pub at : (d : ℕ) (u : Tuple G.elem d → Below (suc q)) → Vanishes (Fp q G) (HasIdentity G d) u
      → (Bar (suc q) G d).of → Below (suc q)
  at d u z = extend (Tuple G.elem d) (HasIdentity G d) (Fp q G) u z

  pub at-linear : (d : ℕ) (u : Tuple G.elem d → Below (suc q)) (z : Vanishes (Fp q G) (HasIdentity G d) u)
      → IsLinear (Bar (suc q) G d) (Fp q G) (at d u z)
  at-linear d u z = extend-linear (Tuple G.elem d) (HasIdentity G d) (Fp q G) u z

  -- the coboundary at an element is the cochain at the boundary
  pub at-coboundary : (d : ℕ) (u : Tuple G.elem d → Below (suc q))
      (z : Vanishes (Fp q G) (HasIdentity G d) u) (t : Tuple G.elem (suc d))
      → coboundary q G d u t ≡ at d u z (D (suc q) G d (term G.one t))
  at-coboundary d u z t =
      lin-value q G (Fp q G) d u z (boundary q G d t)
      ∙ ap (at d u z) (value-boundary q G d t ∙ sym (move-one G (bd (suc q) G d t)))

  -- the bar cochain of a class is a coboundary only for the class 0
  pub only-zero : (d : ℕ) (c : Class (suc d)) (w : Tuple G.elem d → Below (suc q))
      → Vanishes (Fp q G) (HasIdentity G d) w
      → ((t : Tuple G.elem (suc d)) → bar_cocycle (suc d) c t ≡ coboundary q G d w t) → (i : S.basis (suc d))
      → c i ≡ residue q 0
  only-zero d c w z e i =
      let B : Module (suc q) G = Bar (suc q) G (suc d) in
      let C : Module (suc q) G = Bar (suc q) G d in
      let P : Module (suc q) G = S.exact.at (suc d) in
      let K : Module (suc q) G = Fp q G in
      let m : IsChainMap stage-complex (bar-exact q G) back = back-map in
      sym (pair-round (suc d) c i)
      ∙ linear-ext K (λ a. pair (suc d) c (forth (suc d) a)) (λ a. at d w z (D (suc q) G d a))
      (then-linear B P K (forth (suc d)) (pair (suc d) c) (forth-linear (suc d)) (pair-linear (suc d) c))
      (then-linear B C K (D (suc q) G d) (at d w z) (D-linear (suc q) G d) (at-linear d w z))
      (λ t. ap (pair (suc d) c) (P.act-one (comparison (suc d) t)) ∙ e t ∙ at-coboundary d w z t)
      (back (suc d) i)
      ∙ ap (at d w z) (m.commute d i)
      ∙ map-lin C K (at d w z) (at-linear d w z) (back d) (stage-boundary d i)
      ∙ row-minimal d (λ j. at d w z (back d j)) i

  -- there and back on the bar complex, beside the identity
  abbrev pub circle : (d : ℕ) → Tuple G.elem d → (Bar (suc q) G d).of
  circle d t = backward d (comparison d t)

  pub circle-map : IsChainMap (bar-complex q G) (bar-exact q G) circle
  circle-map = record {
    vanish = λ d t n.
        ap (backward d) (comparison-map.vanish d t n)
        ∙ map-zero (S.exact.at d) (Bar (suc q) G d) (backward d)
        (S.terms-linear d (Bar (suc q) G d) (back d)).on-add;
    commute = λ d t.
        let m : IsChainMap (bar-complex q G) S.exact comparison = comparison-map in
        backward-commute d (comparison (suc d) t) ∙ ap (backward d) (m.commute d t)
        ∙ map-lin (S.exact.at d) (Bar (suc q) G d) (backward d) (S.terms-linear d (Bar (suc q) G d) (back d))
        (comparison d) (boundary q G d t);
  }

  abbrev pub same : (d : ℕ) → Tuple G.elem d → (Bar (suc q) G d).of
  same d t = term G.one t

  pub same-map : IsChainMap (bar-complex q G) (bar-exact q G) same
  same-map = record {
    vanish = λ d t n. null G.one t n;
    commute = λ d t. move-one G (bd (suc q) G d t) ∙ sym (value-boundary q G d t);
  }

  pub circle-agree : Agree (bar-complex q G) (bar-exact q G) circle same
  circle-agree t =
      let B : Exact q G = bar-exact q G in
      let P : Module (suc q) G = S.exact.at 0 in
      map-lin (B.at 0) (Fp q G) B.augment B.augment-linear (back 0) (S.terms 0 S.one)
      ∙ ap (λ u. lin (Fp q G) u (S.terms 0 S.one))
      (fun_ext (λ i. sym (ap S.exact.augment (S.only-one i) ∙ S.augment-one)))
      ∙ sym (map-lin P (Fp q G) S.exact.augment S.exact.augment-linear (S.unit 0) (S.terms 0 S.one))
      ∙ ap S.exact.augment (S.terms-sum 0 S.one) ∙ S.augment-one

  -- the class of a cocycle, and the cochain whose coboundary is the difference
  abbrev pub class-of : (d : ℕ) (u : Tuple G.elem (suc d) → Below (suc q))
      → Vanishes (Fp q G) (HasIdentity G (suc d)) u → Class (suc d)
  class-of d u z i = at (suc d) u z (back (suc d) i)

  abbrev pub cochain : (d : ℕ) (u : Tuple G.elem (suc d) → Below (suc q))
      → Vanishes (Fp q G) (HasIdentity G (suc d)) u
      → Tuple G.elem d → Below (suc q)
  cochain d u z s = at (suc d) u z (homotopy (bar-complex q G) (bar-exact q G) circle same d s)

  pub cochain-null : (d : ℕ) (u : Tuple G.elem (suc d) → Below (suc q))
      (z : Vanishes (Fp q G) (HasIdentity G (suc d)) u)
      → Vanishes (Fp q G) (HasIdentity G d) (cochain d u z)
  cochain-null d u z s n =
      ap (at (suc d) u z)
      (homotopy-null (bar-complex q G) (bar-exact q G) circle same circle-map same-map d s n)

  -- each cocycle differs by a coboundary from the bar cochain of a class
  pub class-reaches : (d : ℕ) (u : Tuple G.elem (suc d) → Below (suc q))
      (z : Vanishes (Fp q G) (HasIdentity G (suc d)) u)
      → ((t : Tuple G.elem (suc (suc d))) → coboundary q G (suc d) u t ≡ residue q 0)
      → (t : Tuple G.elem (suc d))
      → sub (Fp q G) (bar_cocycle (suc d) (class-of d u z) t) (u t)
      ≡ coboundary q G d (cochain d u z) t
  class-reaches d u z cocycle t =
      let B : Module (suc q) G = Bar (suc q) G (suc d) in
      let A : Module (suc q) G = Bar (suc q) G (suc (suc d)) in
      let K : Module (suc q) G = Fp q G in
      let h : (d : ℕ) → Tuple G.elem d
      → (Bar (suc q) G (suc d)).of = homotopy (bar-complex q G) (bar-exact q G) circle same in
      ap (λ x. sub K x (u t))
      (sym (map-lin B K (at (suc d) u z) (at-linear (suc d) u z) (back (suc d))
      (S.terms (suc d) (comparison (suc d) t))))
      ∙ sym (map-sub B K (at (suc d) u z) (at-linear (suc d) u z).on-add (circle (suc d) t) (same (suc d) t))
      ∙ ap (at (suc d) u z)
      (sym (homotopic (bar-complex q G) (bar-exact q G) circle same circle-map same-map circle-agree d t))
      ∙ (at-linear (suc d) u z).on-add (D (suc q) G (suc d) (h (suc d) t)) (lin B (h d) (boundary q G d t))
      ∙ ap₂ K.add
      (linear-ext K (λ a. at (suc d) u z (D (suc q) G (suc d) a)) (λ a. K.zero)
      (then-linear A B K (D (suc q) G (suc d)) (at (suc d) u z) (D-linear (suc q) G (suc d))
      (at-linear (suc d) u z)) (zero-linear A K)
      (λ x. sym (at-coboundary (suc d) u z x) ∙ cocycle x) (h (suc d) t))
      (map-lin B K (at (suc d) u z) (at-linear (suc d) u z) (h d) (boundary q G d t))
      ∙ zero-add K _

  -- degree 0: a class with the cochain 0 is 0
  pub only-zero-start : (c : Class 0) → bar_cocycle 0 c tt ≡ residue q 0 → (i : S.basis 0) → c i ≡ residue q 0
  only-zero-start c e i =
      sym (pair-round 0 c i) ∙ ap (pair 0 c) ((S.exact.at 0).act-one S.one) ∙ e

  -- degree 0: a cocycle is the cochain of a class
  pub class-reaches-start : (u : Tuple G.elem 0 → Below (suc q))
      → ((t : Tuple G.elem 1) → coboundary q G 0 u t ≡ residue q 0)
      → (t : Tuple G.elem 0) → bar_cocycle 0 (λ i. at 0 u (λ t n. absurd n) (back 0 i)) t ≡ u t
  class-reaches-start u cocycle t =
      let B : Module (suc q) G = Bar (suc q) G 0 in
      let A : Module (suc q) G = Bar (suc q) G 1 in
      let K : Module (suc q) G = Fp q G in
      let z : Vanishes K (HasIdentity G 0) u = λ t n. absurd n in
      sub-eq K (bar_cocycle 0 (λ i. at 0 u z (back 0 i)) t) (u t)
      (ap (λ x. sub K x (u t))
      (sym (map-lin B K (at 0 u z) (at-linear 0 u z) (back 0) (S.terms 0 (comparison 0 t))))
      ∙ sym (map-sub B K (at 0 u z) (at-linear 0 u z).on-add (circle 0 t) (same 0 t))
      ∙ ap (at 0 u z)
      (sym (homotopy-boundary (bar-complex q G)
      (bar-exact q G) circle same circle-map same-map circle-agree 0 t))
      ∙ linear-ext K (λ a. at 0 u z (D (suc q) G 0 a)) (λ a. K.zero)
      (then-linear A B K (D (suc q) G 0) (at 0 u z) (D-linear (suc q) G 0) (at-linear 0 u z))
      (zero-linear A K)
      (λ x. sym (at-coboundary 0 u z x) ∙ cocycle x)
      (homotopy (bar-complex q G) (bar-exact q G) circle same 0 t))

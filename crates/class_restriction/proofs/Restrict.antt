-- Restriction of classes along a homomorphism, by lifts and on bar cochains.
use Rattle.std.specs.Prelude.{◌≡◌, ℕ, zero, suc, refl, List, [], ◌∷◌, Bool, not, map}
use Rattle.std.proofs.Common.{sym, ◌∙◌, ap, ap₂, inl, inr}
use mathlib.Core.Path.{fun_ext}
use Rattle.group_modules.specs.Module.{Monoid, Module, sub, times, IsLinear, Term, lin}
use Rattle.group_modules.proofs.Laws.{map-zero, map-sub, map-lin, zero-add, sub-eq, then-linear}
use Rattle.group_modules.specs.Field.{Below, Fp, residue}
use Rattle.group_modules.specs.Tables.{Group, monoid}
use Rattle.chain_maps_along.specs.Along.{IsHomomorphism}
use Rattle.chain_maps_along.proofs.Modules.{one-to-one, module_along, linear-along}
use Rattle.bar_complex.specs.Tuples.{Tuple, HasIdentity}
use Rattle.bar_complex.specs.Boundary.{signed, put, faces, boundary, coboundary}
use Rattle.bar_complex.proofs.FormalBoundary.{bar-complex}
use Rattle.bar_complex.proofs.Complexes.{Vanishes, Exact, IsChainMap, Agree, homotopic, homotopy}
use Rattle.bar_complex.proofs.Complexes.{homotopy-null, homotopy-boundary}
use Rattle.bar_comparison.proofs.Lifted.{lifted, lifted-map, Starts}
use Rattle.bar_comparison.proofs.Comparison.{MinimalStages, Class, pair, pair-linear, stage-complex}
use Rattle.bar_comparison.proofs.Comparison.{stage-boundary, comparison, comparison-map, bar_cocycle}
use Rattle.bar_comparison.proofs.Comparison.{row-minimal}

-- a homomorphism of groups
pub record Homomorphism {m n : ℕ} (Δ : Group m) (Γ : Group n) : Type 0 where
  pub to : Below m → Below n
  pub to-mul : IsHomomorphism Δ Γ to

module _ {m n : ℕ} {Δ : Group m} {Γ : Group n} (φ : Homomorphism Δ Γ) where
  abbrev pub E : Monoid
  E = monoid Δ

  abbrev pub G : Monoid
  G = monoid Γ

  pub to-one : φ.to Δ.one ≡ Γ.one
  to-one = one-to-one Δ Γ φ.to φ.to-mul

  -- M with E acting through φ
  abbrev pub along : {p : ℕ} → Module p G → Module p E
  along M = module_along Δ Γ φ.to φ.to-mul M

  pub along-linear : {p : ℕ} (M N : Module p G) (f : M.of → N.of) → IsLinear M N f
      → IsLinear (along M) (along N) f
  along-linear M N f l = linear-along Δ Γ φ.to φ.to-mul M N f l

  abbrev pub along-exact : {q : ℕ} → Exact q G → Exact q E
  along-exact {q} Y = record {
    at = λ d. along (Y.at d);
    boundary = Y.boundary;
    linear = λ d. along-linear (Y.at (suc d)) (Y.at d) (Y.boundary d) (Y.linear d);
    augment = Y.augment;
    augment-linear =
        record { on-add = Y.augment-linear.on-add; on-act = λ g v. Y.augment-linear.on-act (φ.to g) v };
    augment-boundary = Y.augment-boundary;
    lift = Y.lift;
    lift-nil = Y.lift-nil;
    lift-zero = Y.lift-zero;
    lift-suc = Y.lift-suc;
  }

  -- φ at each entry of a tuple
  abbrev pub entries : (d : ℕ) → Tuple E.elem d → Tuple G.elem d
  entries zero t = tt
  entries (suc d) t = (φ.to t.0, entries d t.1)

  pub entries-one : (d : ℕ) (t : Tuple E.elem d) → HasIdentity E d t → HasIdentity G d (entries d t)
  entries-one zero t n = n
  entries-one (suc d) t (inl e) = inl (ap φ.to e ∙ to-one)
  entries-one (suc d) t (inr n) = inr (entries-one d t.1 n)

  abbrev pub entry-terms : (d : ℕ) → List (Term E (Tuple E.elem d)) → List (Term G (Tuple G.elem d))
  entry-terms d [] = []
  entry-terms d (t ∷ ts) =
      record { coef = t.coef; elem = φ.to t.elem; base = entries d t.base } ∷ entry-terms d ts

  pub lin-entries : {p : ℕ} (M : Module p G) (d : ℕ) (u : Tuple G.elem d → M.of)
      (ts : List (Term E (Tuple E.elem d)))
      → lin M u (entry-terms d ts) ≡ lin (along M) (λ t. u (entries d t)) ts
  lin-entries M d u [] = refl
  lin-entries M d u (t ∷ ts) =
      ap (M.add (times M.add M.zero t.coef (M.act (φ.to t.elem) (u (entries d t.base)))))
      (lin-entries M d u ts)

  put-entries : (q d : ℕ) (g : E.elem) (ts : List (Term E (Tuple E.elem d)))
      → entry-terms (suc d) (map (put q E d g) ts) ≡ map (put q G d (φ.to g)) (entry-terms d ts)
  put-entries q d g [] = refl
  put-entries q d g (t ∷ ts) =
      ap₂ (λ x xs. x ∷ xs)
      (λ i. record { coef = t.coef; elem = to-one i; base = (φ.to-mul g t.elem i, entries d t.base) })
      (put-entries q d g ts)

  faces-entries : (q d : ℕ) (s : Bool) (g : E.elem) (t : Tuple E.elem d)
      → entry-terms d (faces q E d s g t) ≡ faces q G d s (φ.to g) (entries d t)
  faces-entries q zero s g t = λ i. record { coef = signed q s; elem = to-one i; base = tt } ∷ []
  faces-entries q (suc d) s g t =
      ap₂ (λ x xs. x ∷ xs)
      (λ i. record { coef = signed q s; elem = to-one i; base = (φ.to-mul g t.0 i, entries d t.1) })
      (put-entries q d g (faces q E d (not s) t.0 t.1)
      ∙ ap (map (put q G d (φ.to g))) (faces-entries q d (not s) t.0 t.1))

  pub boundary-entries : (q d : ℕ) (t : Tuple E.elem (suc d))
      → entry-terms d (boundary q E d t) ≡ boundary q G d (entries (suc d) t)
  boundary-entries q d t =
      ap (λ xs. record { coef = 1; elem = φ.to t.0; base = entries d t.1 } ∷ xs)
      (faces-entries q d Bool.false t.0 t.1)

  module _ {q : ℕ} (A : MinimalStages q E) (S : MinimalStages q G) where
    abbrev pub Y : Exact q E
    Y = along-exact S.exact

    -- the inclusion of kE in kG, and then by the section of G
    abbrev pub embed : (d : ℕ) → A.basis d → (S.exact.at d).of
    embed = lifted (stage-complex A) Y (λ i. S.one)

    -- the restricted class
    abbrev pub restrict : (d : ℕ) → Class S d → Class A d
    restrict d x i = pair S d x (embed d i)

    embed-starts : Starts (stage-complex A) Y (λ i. S.one)
    embed-starts = record {
      vanish = λ i n. absurd n;
      cycle = λ i.
          map-lin (Y.at 0) (Fp q E) Y.augment Y.augment-linear (λ i. S.one) (stage-boundary A 0 i)
          ∙ ap (λ u. lin (Fp q E) u (stage-boundary A 0 i)) (fun_ext (λ i. S.augment-one))
          ∙ row-minimal A 0 (λ i. residue q 1) i;
    }

    pub embed-map : IsChainMap (stage-complex A) Y embed
    embed-map = lifted-map (stage-complex A) Y (λ i. S.one) embed-starts

    abbrev pub over : (d : ℕ) → (A.exact.at d).of → (S.exact.at d).of
    over d w = lin (Y.at d) (embed d) (A.terms d w)

    over-linear : (d : ℕ) → IsLinear (A.exact.at d) (Y.at d) (over d)
    over-linear d = A.terms-linear d (Y.at d) (embed d)

    over-commute : (d : ℕ) (w : (A.exact.at (suc d)).of)
        → Y.boundary d (over (suc d) w) ≡ over d (A.exact.boundary d w)
    over-commute d w =
        let P : Module (suc q) E = A.exact.at (suc d) in
        let Q : Module (suc q) E = A.exact.at d in
        let m : IsChainMap (stage-complex A) Y embed = embed-map in
        let F : P.of → (Y.at d).of = λ w. over d (A.exact.boundary d w) in
        map-lin (Y.at (suc d)) (Y.at d) (Y.boundary d) (Y.linear d) (embed (suc d)) (A.terms (suc d) w)
        ∙ ap (λ u. lin (Y.at d) u (A.terms (suc d) w))
        (fun_ext (λ i. m.commute d i ∙ ap (over d) (sym (A.boundary-unit d i))))
        ∙ sym
        (map-lin P (Y.at d) F
        (then-linear P Q (Y.at d) (A.exact.boundary d) (over d) (A.exact.linear d) (over-linear d))
        (A.unit (suc d)) (A.terms (suc d) w))
        ∙ ap F (A.terms-sum (suc d) w)

    abbrev pub left : (d : ℕ) → Tuple E.elem d → (S.exact.at d).of
    left d t = over d (comparison A d t)

    abbrev pub right : (d : ℕ) → Tuple E.elem d → (S.exact.at d).of
    right d t = comparison S d (entries d t)

    pub left-map : IsChainMap (bar-complex q E) Y left
    left-map = record {
      vanish = λ d t n. ap (over d) ((comparison-map A).vanish d t n)
          ∙ map-zero (A.exact.at d) (Y.at d) (over d) (over-linear d).on-add;
      commute = λ d t.
          over-commute d (comparison A (suc d) t) ∙ ap (over d) ((comparison-map A).commute d t)
          ∙ map-lin (A.exact.at d) (Y.at d) (over d) (over-linear d) (comparison A d) (boundary q E d t);
    }

    pub right-map : IsChainMap (bar-complex q E) Y right
    right-map = record {
      vanish = λ d t n. (comparison-map S).vanish d (entries d t) (entries-one d t n);
      commute = λ d t.
          (comparison-map S).commute d (entries (suc d) t)
          ∙ ap (lin (S.exact.at d) (comparison S d)) (sym (boundary-entries q d t))
          ∙ lin-entries (S.exact.at d) d (comparison S d) (boundary q E d t);
    }

    agree : Agree (bar-complex q E) Y left right
    agree t =
        map-lin (Y.at 0) (Fp q E) Y.augment Y.augment-linear (embed 0) (A.terms 0 A.one)
        ∙ ap (λ u. lin (Fp q E) u (A.terms 0 A.one))
        (fun_ext (λ i. S.augment-one ∙ sym (ap A.exact.augment (A.only-one i) ∙ A.augment-one)))
        ∙ sym (map-lin (A.exact.at 0) (Fp q E) A.exact.augment A.exact.augment-linear (A.unit 0)
        (A.terms 0 A.one))
        ∙ ap A.exact.augment (A.terms-sum 0 A.one) ∙ A.augment-one ∙ sym S.augment-one

    along-pair : (d : ℕ) (x : Class S d) → IsLinear (Y.at d) (Fp q E) (pair S d x)
    along-pair d x =
        record { on-add = (pair-linear S d x).on-add; on-act = λ g v. (pair-linear S d x).on-act (φ.to g) v }

    abbrev pub between : (d : ℕ) → Class S (suc d) → Tuple E.elem d → Below (suc q)
    between d x t = pair S (suc d) x (homotopy (bar-complex q E) Y left right d t)

    pub between-null : (d : ℕ) (x : Class S (suc d)) → Vanishes (Fp q E) (HasIdentity E d) (between d x)
    between-null d x t n =
        ap (pair S (suc d) x) (homotopy-null (bar-complex q E) Y left right left-map right-map d t n)
        ∙ map-zero (Y.at (suc d)) (Fp q E) (pair S (suc d) x) (along-pair (suc d) x).on-add

    -- the cochain of the restricted class differs by a coboundary from that of the class on the tuples of E
    pub restriction : (d : ℕ) (x : Class S (suc d)) (t : Tuple E.elem (suc d))
        → sub (Fp q E) (bar_cocycle A (suc d) (restrict (suc d) x) t)
        (bar_cocycle S (suc d) x (entries (suc d) t)) ≡ coboundary q E d (between d x) t
    restriction d x t =
        let M : Module (suc q) E = Y.at (suc d) in
        let K : Module (suc q) E = Fp q E in
        let h : (d : ℕ) → Tuple E.elem d
        → (S.exact.at (suc d)).of = homotopy (bar-complex q E) Y left right in
        let l : IsLinear M K (pair S (suc d) x) = along-pair (suc d) x in
        ap (λ b. sub K b (bar_cocycle S (suc d) x (entries (suc d) t)))
        (sym (map-lin M K (pair S (suc d) x) l (embed (suc d))
        (A.terms (suc d) (comparison A (suc d) t))))
        ∙ sym (map-sub M K (pair S (suc d) x) l.on-add (left (suc d) t) (right (suc d) t))
        ∙ ap (pair S (suc d) x) (sym (homotopic (bar-complex q E) Y left right left-map right-map agree d t))
        ∙ l.on-add (Y.boundary (suc d) (h (suc d) t)) (lin M (h d) (boundary q E d t))
        ∙ ap₂ K.add (S.minimal (suc d) x (h (suc d) t))
        (map-lin M K (pair S (suc d) x) l (h d) (boundary q E d t))
        ∙ zero-add K (coboundary q E d (between d x) t)

    -- in degree 0 the two are equal
    pub restriction-zero : (x : Class S 0) (t : Tuple E.elem 0)
        → bar_cocycle A 0 (restrict 0 x) t ≡ bar_cocycle S 0 x (entries 0 t)
    restriction-zero x t =
        let M : Module (suc q) E = Y.at 0 in
        let K : Module (suc q) E = Fp q E in
        let l : IsLinear M K (pair S 0 x) = along-pair 0 x in
        sub-eq K (bar_cocycle A 0 (restrict 0 x) t) (bar_cocycle S 0 x (entries 0 t))
        (ap (λ b. sub K b (bar_cocycle S 0 x (entries 0 t)))
        (sym (map-lin M K (pair S 0 x) l (embed 0) (A.terms 0 (comparison A 0 t))))
        ∙ sym (map-sub M K (pair S 0 x) l.on-add (left 0 t) (right 0 t))
        ∙ ap (pair S 0 x)
        (sym (homotopy-boundary (bar-complex q E) Y left right left-map right-map agree 0 t))
        ∙ S.minimal 0 x (homotopy (bar-complex q E) Y left right 0 t))

-- The chain map back and the homotopies on formal sums are those of the bar complex as a module.
use Rattle.std.specs.Prelude.{◌≡◌, ℕ, zero, suc, [], ◌++◌}
use Rattle.std.proofs.Common.{sym, ◌∙◌, ap, ap₂, subst}
use mathlib.Core.Path.{fun_ext}
use Rattle.group_modules.specs.Module.{Monoid, Module, sub, lin}
use Rattle.group_modules.specs.Operations.{linear}
use Rattle.group_modules.specs.Field.{Below}
use Rattle.group_modules.specs.Tables.{Group, monoid, terms}
use Rattle.group_modules.specs.Resolutions.{rank}
use Rattle.group_modules.proofs.SumLaws.{lin-append}
use Rattle.radical_layers.specs.Coordinates.{Coordinates}
use Rattle.resolution_stages.specs.Definitions.{StageRows}
use Rattle.resolution_stages.specs.Claims.{ResolutionClaims, row_table}
use Rattle.chain_maps.specs.Lifts.{free, row_terms}
use Rattle.bar_complex.specs.Tuples.{Tuple, HasIdentity}
use Rattle.bar_complex.specs.Boundary.{boundary}
use Rattle.bar_complex.specs.Contraction.{Chain, chains, chain_minus, single, contraction, chain_boundary}
use Rattle.bar_complex.specs.Contraction.{AreSame}
use Rattle.bar_complex.specs.Homotopies as homotopies
use Rattle.bar_complex.proofs.FreeModules.{term}
use Rattle.bar_complex.proofs.Contraction.{Bar, cons, D}
use Rattle.bar_complex.proofs.FormalBoundary.{bar-complex, value, lin-value}
use Rattle.bar_complex.proofs.FormalContraction.{value-chain, value-contraction, value-linear, value-minus}
use Rattle.bar_complex.proofs.FormalContraction.{value-single, same}
use Rattle.bar_complex.proofs.ExactBar.{bar-exact}
use Rattle.bar_complex.proofs.Complexes.{homotopy, homotopic, homotopy-boundary, homotopy-null, rest}
use Rattle.bar_comparison.specs.Comparison.{comparison}
use Rattle.bar_comparison.specs.Homotopies.{back, to_bar, to_stages, bar_homotopy}
use Rattle.bar_comparison.specs.HomotopyClaims.{HomotopyClaims}
use Rattle.bar_comparison.proofs.Comparison as minimal
use Rattle.bar_comparison.proofs.Comparison.{MinimalStages}
use Rattle.bar_comparison.proofs.Stages.{stages}

module _ {n : ℕ} (q : ℕ) (Γ : Group n) (K : Coordinates q Γ) (S : StageRows)
    (R : ResolutionClaims q Γ K S) where
  abbrev G : Monoid
  G = monoid Γ

  abbrev A : MinimalStages q G
  A = stages q Γ K S R

  abbrev r : ℕ → ℕ
  r d = rank q Γ S.ranks d

  abbrev B : ℕ → Module (suc q) G
  B d = Bar (suc q) G d

  abbrev circle : (d : ℕ) → Tuple (Below n) d → (B d).of
  circle d t = minimal.circle A d t

  abbrev identity : (d : ℕ) → Tuple (Below n) d → (B d).of
  identity d t = minimal.same A d t

  back-is : (d : ℕ) (i : Below (r d)) → value q G d (back q Γ K S d i) ≡ minimal.back A d i
  back-is zero i = value-single q G 0 tt
  back-is (suc d) i =
      value-contraction q G d (linear (chains q G d) (back q Γ K S d) (row_terms q Γ K S d i))
      ∙ ap (cons (suc q) G d)
      (value-linear q G d (back q Γ K S d) (row_terms q Γ K S d i)
      ∙ ap (λ u. lin (B d) u (row_terms q Γ K S d i)) (fun_ext (back-is d)))

  to-bar-is : (d : ℕ) (v : (free q Γ K S d).of) → value q G d (to_bar q Γ K S d v) ≡ minimal.backward A d v
  to-bar-is d v =
      value-linear q G d (back q Γ K S d) (terms q Γ (r d) v)
      ∙ ap (λ u. lin (B d) u (terms q Γ (r d) v)) (fun_ext (back-is d))

  to-stages-is : (d : ℕ) (x : Chain q G d) → to_stages q Γ K S d x ≡ minimal.forth A d (value q G d x)
  to-stages-is d x =
      lin-value q G (free q Γ K S d) d (comparison q Γ K S d) ((minimal.comparison-map A).vanish d) x

  abbrev Rounds : Type 0
  Rounds = (d : ℕ) → Below (r d) → (free q Γ K S d).of

  abbrev round : Rounds
  round d i = to_stages q Γ K S d (back q Γ K S d i)

  round-is : minimal.round A ≡ round
  round-is =
      fun_ext (λ d. fun_ext (λ i.
      sym (to-stages-is d (back q Γ K S d i) ∙ ap (minimal.forth A d) (back-is d i))))

  abbrev stage_h : Rounds → (d : ℕ) → Below (r d) → (free q Γ K S (suc d)).of
  stage_h f = homotopy (minimal.stage-complex A) A.exact f A.unit

  stages-start : (i : Below (r 0))
      → A.exact.boundary 0 (stage_h round 0 i) ≡ sub (free q Γ K S 0) (round 0 i) (A.unit 0 i)
  stages-start i =
      subst (λ (f : Rounds). A.exact.boundary 0 (stage_h f 0 i) ≡ sub (free q Γ K S 0) (f 0 i) (A.unit 0 i))
      round-is
      (homotopy-boundary (minimal.stage-complex A) A.exact (minimal.round A) A.unit (minimal.round-map A)
      (minimal.unit-map A) (minimal.round-agree A) 0 i)

  stages-next : (d : ℕ) (i : Below (r (suc d)))
      → (free q Γ K S (suc d)).add (A.exact.boundary (suc d) (stage_h round (suc d) i))
      (lin (free q Γ K S (suc d)) (stage_h round d) (row_terms q Γ K S d i))
      ≡ sub (free q Γ K S (suc d)) (round (suc d) i) (A.unit (suc d) i)
  stages-next d i =
      subst (λ (f : Rounds).
      (free q Γ K S (suc d)).add (A.exact.boundary (suc d) (stage_h f (suc d) i))
      (lin (free q Γ K S (suc d)) (stage_h f d) (row_terms q Γ K S d i))
      ≡ sub (free q Γ K S (suc d)) (f (suc d) i) (A.unit (suc d) i))
      round-is
      (homotopic (minimal.stage-complex A) A.exact (minimal.round A) A.unit (minimal.round-map A)
      (minimal.unit-map A) (minimal.round-agree A) d i)

  -- what the homotopy on formal sums has to lift
  abbrev formal_rest : (d : ℕ) → Tuple (Below n) d → Chain q G d
  formal_rest =
      homotopies.rest (Tuple (Below n)) (boundary q G) (chains q G) (chain_minus q G)
      (contraction q G) (λ d t. to_bar q Γ K S d (comparison q Γ K S d t)) (single q G)

  -- the difference of the way round and the identity
  difference : (d : ℕ) (t : Tuple (Below n) d)
      → value q G d (chain_minus q G d (to_bar q Γ K S d (comparison q Γ K S d t)) (single q G d t))
      ≡ sub (B d) (circle d t) (identity d t)
  difference d t =
      value-minus q G d (to_bar q Γ K S d (comparison q Γ K S d t)) (single q G d t)
      ∙ ap₂ (sub (B d)) (to-bar-is d (comparison q Γ K S d t)) (value-single q G d t)

  rest-is : (d : ℕ) (t : Tuple (Below n) d)
      → value q G d (formal_rest d t) ≡ rest (bar-complex q G) (bar-exact q G) circle identity d t
  rest-is zero t = difference zero t
  rest-is (suc d) t =
      let x : Chain q G (suc d) =
      chain_minus q G (suc d) (to_bar q Γ K S (suc d) (comparison q Γ K S (suc d) t))
      (single q G (suc d) t) in
      value-minus q G (suc d) x (linear (chains q G (suc d)) (bar_homotopy q Γ K S d) (boundary q G d t))
      ∙ ap₂ (sub (B (suc d))) (difference (suc d) t)
      (value-linear q G (suc d) (bar_homotopy q Γ K S d) (boundary q G d t)
      ∙ ap (λ u. lin (B (suc d)) u (boundary q G d t))
      (fun_ext (λ s. value-contraction q G d (formal_rest d s) ∙ ap (cons (suc q) G d) (rest-is d s))))

  abbrev h : (d : ℕ) → Tuple (Below n) d → (B (suc d)).of
  h = homotopy (bar-complex q G) (bar-exact q G) circle identity

  homotopy-is : (d : ℕ) (t : Tuple (Below n) d) → value q G (suc d) (bar_homotopy q Γ K S d t) ≡ h d t
  homotopy-is d t = value-contraction q G d (formal_rest d t) ∙ ap (cons (suc q) G d) (rest-is d t)

  vanishes : (d : ℕ) (t : Tuple (Below n) d) → HasIdentity G d t
      → AreSame q G (suc d) (bar_homotopy q Γ K S d t) []
  vanishes d t e =
      same q G (suc d) (bar_homotopy q Γ K S d t) []
      (homotopy-is d t
      ∙ homotopy-null (bar-complex q G) (bar-exact q G) circle identity (minimal.circle-map A)
      (minimal.same-map A) d t e)

  bar-start : (t : Tuple (Below n) 0)
      → AreSame q G 0 (chain_boundary q G 0 (bar_homotopy q Γ K S 0 t))
      (chain_minus q G 0 (to_bar q Γ K S 0 (comparison q Γ K S 0 t)) (single q G 0 t))
  bar-start t =
      same q G 0 (chain_boundary q G 0 (bar_homotopy q Γ K S 0 t))
      (chain_minus q G 0 (to_bar q Γ K S 0 (comparison q Γ K S 0 t)) (single q G 0 t))
      (value-chain q G 0 (bar_homotopy q Γ K S 0 t) ∙ ap (D (suc q) G 0) (homotopy-is 0 t)
      ∙ homotopy-boundary (bar-complex q G) (bar-exact q G) circle identity (minimal.circle-map A)
      (minimal.same-map A) (minimal.circle-agree A) 0 t
      ∙ sym (difference 0 t))

  bar-next : (d : ℕ) (t : Tuple (Below n) (suc d))
      → AreSame q G (suc d)
      (chain_boundary q G (suc d) (bar_homotopy q Γ K S (suc d) t)
      ++ linear (chains q G (suc d)) (bar_homotopy q Γ K S d) (boundary q G d t))
      (chain_minus q G (suc d) (to_bar q Γ K S (suc d) (comparison q Γ K S (suc d) t))
      (single q G (suc d) t))
  bar-next d t =
      let M : Module (suc q) G = B (suc d) in
      let x : Chain q G (suc d) = chain_boundary q G (suc d) (bar_homotopy q Γ K S (suc d) t) in
      let y : Chain q G (suc d) =
      linear (chains q G (suc d)) (bar_homotopy q Γ K S d) (boundary q G d t) in
      same q G (suc d) (x ++ y)
      (chain_minus q G (suc d) (to_bar q Γ K S (suc d) (comparison q Γ K S (suc d) t))
      (single q G (suc d) t))
      (lin-append M (λ s. term Γ.one s) x y
      ∙ ap₂ M.add
      (value-chain q G (suc d) (bar_homotopy q Γ K S (suc d) t)
      ∙ ap (D (suc q) G (suc d)) (homotopy-is (suc d) t))
      (value-linear q G (suc d) (bar_homotopy q Γ K S d) (boundary q G d t)
      ∙ ap (λ u. lin M u (boundary q G d t)) (fun_ext (homotopy-is d)))
      ∙ homotopic (bar-complex q G) (bar-exact q G) circle identity (minimal.circle-map A)
      (minimal.same-map A) (minimal.circle-agree A) d t
      ∙ sym (difference (suc d) t))

  back-chain-map : (d : ℕ) (i : Below (r (suc d)))
      → AreSame q G d (chain_boundary q G d (back q Γ K S (suc d) i))
      (to_bar q Γ K S d (row_table q Γ K S d i))
  back-chain-map d i =
      same q G d (chain_boundary q G d (back q Γ K S (suc d) i)) (to_bar q Γ K S d (row_table q Γ K S d i))
      (value-chain q G d (back q Γ K S (suc d) i) ∙ ap (D (suc q) G d) (back-is (suc d) i)
      ∙ (minimal.back-map A).commute d i ∙ sym (to-bar-is d (row_table q Γ K S d i)))

  pub homotopy-claims : HomotopyClaims q Γ K S
  homotopy-claims = record {
    back_chain_map = back-chain-map;
    stages_start = stages-start;
    stages_next = stages-next;
    vanishes = vanishes;
    bar_start = bar-start;
    bar_next = bar-next;
  }

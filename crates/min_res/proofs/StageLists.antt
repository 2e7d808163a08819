-- The stages that a resolution keeps.
use Rattle.std.proofs.Common.{◌≡◌, ℕ, zero, suc, ◌+◌, ◌-◌, ◌^◌, ◌<◌, ◌≤◌, ◌⊎◌, List, [], ◌∷◌, ◌++◌, length}
use Rattle.std.proofs.Common.{get_or, inl, inr, arith, ap, sym, ◌∙◌}
use Rattle.std.proofs.lemmas.Bool.{cases_lt}
use Rattle.std.proofs.lemmas.List.{get_or_append_left, get_or_push, length_push, length-map, get_or-map}
use Rattle.std.proofs.lemmas.List.{map-append}
use Rattle.std.specs.declared.rc.Rc.{Rc}
use Rattle.std.specs.Prelude.{Option, None, Some, unwrap_or}
use mathlib.Core.Path.{subst}
use Rattle.p_groups.specs.PGroups.{PGroup}
use Rattle.neg_basis.specs.Results.{BasisValue}
use Rattle.min_res.specs.Radicals.{IsRadicalBasis}
use Rattle.min_res.specs.Values.{StageValue}
use Rattle.min_res.specs.Defined.{IsStageAt}
use Rattle.min_res.specs.Stores.{stage_values, IsResolutionStore}

-- the value of the stage at a place
pub value-at : {Z : Type 0} (items : List (Rc StageValue Z)) (d : ℕ) (x : Rc StageValue Z) (s : StageValue)
    → d < length items → x ≡ get_or items d x → get_or (stage_values items) d s ≡ x.value
value-at {Z} items d x s l e = get_or-map (λ (r : Rc StageValue Z). r.value) items d x s l
    ∙ ap (λ (r : Rc StageValue Z). r.value) (sym e)

pub length-values : {Z : Type 0} (items : List (Rc StageValue Z)) → length (stage_values items) ≡ length items
length-values {Z} items = length-map items (λ (r : Rc StageValue Z). r.value)

pub values-push : {Z : Type 0} (items : List (Rc StageValue Z)) (x : Rc StageValue Z)
    → stage_values (items ++ x ∷ []) ≡ stage_values items ++ x.value ∷ []
values-push {Z} items x = map-append (λ (r : Rc StageValue Z). r.value) items (x ∷ [])

abbrev is-some : Option BasisValue → ℕ
is-some None = 0
is-some (Some B) = 1

pub none-some : {A : Type 0} (B : BasisValue) → None ≡ Some B → A
none-some B e = let z : 0 ≡ 1 = ap is-some e in absurd (omega (arith, z))

pub this-one : (G : PGroup) (last : ℕ) (B : BasisValue) → IsRadicalBasis G last B
    → (C : BasisValue) → Some B ≡ Some C → IsRadicalBasis G last C
this-one G last B b C e = subst (λ D. IsRadicalBasis G last D) (ap (λ o. unwrap_or o B) e) b

module _ (G : PGroup) where
  pub store-push : (stages : List StageValue) (s : StageValue) (computed now : ℕ)
      (old radical : Option BasisValue) → IsResolutionStore G stages computed old
      → now ≤ suc computed
      → length stages < 2 ^ 32
      → IsStageAt G (length stages) s → s.kernel.width ≤ 2 ^ 28
      → ((B : BasisValue) → radical ≡ Some B → (d : ℕ) × (length stages ≡ suc d) × IsRadicalBasis G d B)
      → IsResolutionStore G (stages ++ s ∷ []) now radical
  store-push stages s computed now old radical R more few new small basis = record {
    some = omega (arith, count);
    few = omega (arith, count, few);
    computed_fits = omega (arith, count, more, R.computed_fits);
    each = λ d t l. every d t l;
    small = λ d t l. narrow d t l;
    radical_is = λ B e. more-stages B (basis B e);
  }
    where
      count : length (stages ++ s ∷ []) ≡ length stages + 1
      count = length_push stages s

      more-stages : (B : BasisValue) → (d : ℕ) × (length stages ≡ suc d) × IsRadicalBasis G d B
          → (d : ℕ) × (length (stages ++ s ∷ []) ≡ suc (suc d)) × IsRadicalBasis G d B
      more-stages B (d, l, b) = (d, omega (arith, count, l), b)

      before : (d : ℕ) (t : StageValue) → d < length stages
          → get_or (stages ++ s ∷ []) d t ≡ get_or stages d t
      before d t l = get_or_append_left stages (s ∷ []) t d l

      here : (d : ℕ) (t : StageValue) → d ≡ length stages → get_or (stages ++ s ∷ []) d t ≡ s
      here d t e = get_or_push stages s t d (sym e)

      every : (d : ℕ) (t : StageValue) → d < length (stages ++ s ∷ [])
          → IsStageAt G d (get_or (stages ++ s ∷ []) d t)
      every d t l = go (cases_lt d (length stages))
        where
          go : (d < length stages) ⊎ (length stages ≤ d) → IsStageAt G d (get_or (stages ++ s ∷ []) d t)
          go (inl m) = subst (λ x. IsStageAt G d x) (sym (before d t m)) (R.each d t m)
          go (inr m) = let e : d ≡ length stages = omega (arith, m, l, count) in
              subst (λ x. IsStageAt G d x) (sym (here d t e)) (subst (λ k. IsStageAt G k s) (sym e) new)

      narrow : (d : ℕ) (t : StageValue) → d < length (stages ++ s ∷ [])
          → (get_or (stages ++ s ∷ []) d t).kernel.width ≤ 2 ^ 28
      narrow d t l = go (cases_lt d (length stages))
        where
          go : (d < length stages) ⊎ (length stages ≤ d)
              → (get_or (stages ++ s ∷ []) d t).kernel.width ≤ 2 ^ 28
          go (inl m) = subst (λ (x : StageValue). x.kernel.width ≤ 2 ^ 28) (sym (before d t m))
              (R.small d t m)
          go (inr m) = subst (λ (x : StageValue). x.kernel.width ≤ 2 ^ 28)
              (sym (here d t (let e : d ≡ length stages = omega (arith, m, l, count) in e))) small

  pub store-start : (s : StageValue) → IsStageAt G 0 s → s.kernel.width ≤ 2 ^ 28
      → IsResolutionStore G (s ∷ []) 0 None
  store-start s first small = record {
    some = omega arith;
    few = omega arith;
    computed_fits = omega arith;
    each = stages;
    small = narrow;
    radical_is = λ B e. none-some B e;
  }
    where
      stages : (d : ℕ) (t : StageValue) → d < length (s ∷ []) → IsStageAt G d (get_or (s ∷ []) d t)
      stages zero t l = first
      stages (suc d) t l = absurd (omega (arith, l))

      narrow : (d : ℕ) (t : StageValue) → d < length (s ∷ []) → (get_or (s ∷ []) d t).kernel.width ≤ 2 ^ 28
      narrow zero t l = small
      narrow (suc d) t l = absurd (omega (arith, l))

-- the stage at a place is the one of that degree
pub kept-at : {Z : Type 0} (G G' : PGroup) (radical : Option BasisValue) (items : List (Rc StageValue Z))
    (computed d last : ℕ) (x : Rc StageValue Z)
    → IsResolutionStore G (stage_values items) computed radical → G ≡ G'
    → length items - 1 ≡ last → d ≤ last → x ≡ get_or items d x → (IsStageAt G' d x.value)
    × (x.value.kernel.width ≤ 2 ^ 28)
kept-at {Z} G G' radical items computed d last x R g e l i = (
  let P : PGroup → Type 0 = λ H. IsStageAt H d x.value in
      subst P g (subst (λ s. IsStageAt G d s) same (R.each d x.value inside)),
  subst (λ (s : StageValue). s.kernel.width ≤ 2 ^ 28) same (R.small d x.value inside),
)
  where
    inside : d < length (stage_values items)
    inside = let s : 0 < length (stage_values items) = R.some in
        let k : length (stage_values items) ≡ length items = length-values items in omega (arith, s, k, e, l)

    same : get_or (stage_values items) d x.value ≡ x.value
    same = value-at items d x x.value (let k : length
        (stage_values items) ≡ length items = length-values items in let z : d < length (stage_values items) =
        inside in omega (arith, k, z)) i

-- one more stage
pub grown : {Z : Type 0} (G G' : PGroup) (old radical : Option BasisValue)
    (items new : List (Rc StageValue Z)) (computed now last limit : ℕ) (x : Rc StageValue Z) (s : StageValue)
    → IsResolutionStore G (stage_values items) computed old → now ≤ suc computed → G ≡ G'
    → length items - 1 ≡ last
    → last + 1 < 2 ^ 32 → IsStageAt G' (suc last) s
    → s.kernel.width ≤ limit → limit ≤ 2 ^ 28
    → ((B : BasisValue) → radical ≡ Some B → IsRadicalBasis G' last B)
    → x.value ≡ s → new ≡ items ++ x ∷ []
    → IsResolutionStore G (stage_values new) now radical
grown {Z} G G' old radical items new computed now last limit x s R more g e few stage narrow l basis v n =
    subst (λ t. IsResolutionStore G t now radical)
    (sym (ap (λ (t : List (Rc StageValue Z)). stage_values t) n ∙ values-push items x))
    (store-push G (stage_values items) x.value computed now old radical R more (omega (arith, count, few))
    (let P : PGroup → Type 0 = λ H. IsStageAt H (length (stage_values items)) x.value in
    subst P (sym g) (subst (λ t. IsStageAt G' (length (stage_values items)) t) (sym v)
    (subst (λ k. IsStageAt G' k s) (sym count) stage)))
    (subst (λ (t : StageValue). t.kernel.width ≤ 2 ^ 28) (sym v) (omega (arith, narrow, l)))
    (λ B r. let P : PGroup → Type 0 = λ H. IsRadicalBasis H last B in
    (last, count, subst P (sym g) (basis B r))))
  where
    count : length (stage_values items) ≡ suc last
    count = let a : length (stage_values items) ≡ length items = length-values items in
        let b : 0 < length (stage_values items) = R.some in omega (arith, a, b, e)

-- the stage of degree 0 alone
pub started : {Z : Type 0} (G : PGroup) (old items : List (Rc StageValue Z)) (x : Rc StageValue Z)
    (s : StageValue) → IsStageAt G 0 s → s.kernel.width ≤ 256 → x.value ≡ s → old ≡ []
    → items ≡ old ++ x ∷ [] → IsResolutionStore G (stage_values items) 0 None
started {Z} G old items x s first narrow v o n =
    subst (λ t. IsResolutionStore G t 0 None)
    (sym (ap (λ (t : List (Rc StageValue Z)). stage_values t) (n
    ∙ ap (λ (t : List (Rc StageValue Z)). t ++ x ∷ []) o)))
    (store-start G x.value (subst (λ t. IsStageAt G 0 t) (sym v) first)
    (subst (λ (t : StageValue). t.kernel.width ≤ 2 ^ 28) (sym v)
    (let z : s.kernel.width ≤ 268435456 = omega (arith, narrow) in z)))

-- the basis of J K_(d-1), where there is one
pub radical-at : {Z : Type 0} (G G' : PGroup) (radical : Option BasisValue) (items : List (Rc StageValue Z))
    (computed last : ℕ) → IsResolutionStore G (stage_values items) computed radical → G ≡ G'
    → length items - 1 ≡ last → (B : BasisValue) → radical ≡ Some B
    → (d : ℕ) × (last ≡ suc d) × IsRadicalBasis G' d B
radical-at {Z} G G' radical items computed last R g e B r = go (R.radical_is B r)
  where
    go : (d : ℕ) × (length (stage_values items) ≡ suc (suc d)) × IsRadicalBasis G d B
        → (d : ℕ) × (last ≡ suc d) × IsRadicalBasis G' d B
    go (d, l, b) = let P : PGroup → Type 0 = λ H. IsRadicalBasis H d B in
        let count : length (stage_values items) ≡ length items = length-values items in
        (d, omega (arith, count, l, e), subst P g b)

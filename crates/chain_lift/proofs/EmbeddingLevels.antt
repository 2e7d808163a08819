-- The maps that the map of an embedding keeps, and the next one.
use Rattle.std.proofs.Common.{◌≡◌, ℕ, zero, suc, ◌+◌, ◌-◌, ◌*◌, ◌^◌, ◌<◌, ◌≤◌, ◌⊎◌, List, [], ◌∷◌, ◌++◌}
use Rattle.std.proofs.Common.{length, map, get_or, take, inl, inr, arith, ap, ap₂, sym, ◌∙◌}
use Rattle.std.proofs.lemmas.Bool.{cases_lt}
use Rattle.std.proofs.lemmas.List.{get_or_append_left, get_or_push, length_push, length-take-le, get_or-take}
use mathlib.Core.Path.{subst}
use Rattle.group_table.specs.Tables.{order}
use Rattle.linear_algebra.specs.Rows.{row, IsRow}
use Rattle.fp_rows.specs.Values.{MatrixValue}
use Rattle.p_groups.specs.PGroups.{PGroup, group}
use Rattle.elementary_subgroups.specs.Bases.{NumberedSubgroup, IsSubgroupOf}
use Rattle.min_res.specs.Stages.{rank_of}
use Rattle.min_res.specs.Values.{StageValue}
use Rattle.min_res.specs.Defined.{IsStageAt}
use Rattle.min_res.proofs.StageReadings.{above-zero, source-width, prime}
use Rattle.chain_maps_along.specs.Along.{IsHomomorphism}
use Rattle.chain_lift.specs.declared.level.Level.{Level}
use Rattle.chain_lift.specs.MapsAlong.{IsMapAlong}
use Rattle.chain_lift.specs.Embeddings.{elementary, elementary_over, embedding, restrict_row}
use Rattle.chain_lift.specs.EmbeddingValues.{EmbedValue}
use Rattle.group_cocycles.specs.Cocycles.{cocycle_of, IsClassOf}
use Rattle.chain_lift.specs.EmbeddingStores.{IsEmbedLevel, IsEmbedStore}
use Rattle.chain_lift.specs.EmbeddingRows.{AreImages, FitAlong, listed, value_along}
use Rattle.chain_lift.specs.RowMaps.{image_row, section_of}
use Rattle.chain_lift.proofs.Stages.{image-is-row}
use Rattle.chain_lift.proofs.EmbeddingElements.{homomorphism, images-are, listed-is}
use Rattle.chain_lift.proofs.EmbeddingMaps.{next-map}
use Rattle.chain_lift.proofs.RestrictedClasses.{restricted-class}

-- the map at a place
pub level-at : (v : EmbedValue) (s : NumberedSubgroup) (levels : List Level) → IsEmbedStore v s levels
    → (d : ℕ) (l : Level) → d ≤ v.height
    → l ≡ get_or levels d l → IsEmbedLevel v.group v.basis d l
level-at v s levels S d l m e = subst (λ (x : Level). IsEmbedLevel v.group v.basis d x) (sym e)
    (S.each d l (let c : length levels ≡ suc v.height = S.count in omega (arith, c, m)))

-- the rows of the map at a place, for an equal value
pub rows-at : (v w : EmbedValue) (s : NumberedSubgroup) (levels : List Level) → v ≡ w
    → IsEmbedStore v s levels → (d : ℕ) (l : Level)
    → d ≤ w.height → l ≡ get_or levels d l
    → IsMapAlong w.group (elementary_over w.group (length w.basis)) (embedding w.group w.basis) d l.rows
rows-at v w s levels e S d l m k = (level-at w s levels (subst (λ x. IsEmbedStore x s levels) e S) d l m
    k).rows_are

-- the restriction to the subgroup is the class of the restricted cocycle, for an equal value
pub class-at : (v w : EmbedValue) (s : NumberedSubgroup) (levels : List Level) → v ≡ w
    → IsEmbedStore v s levels → (d : ℕ) (x : List ℕ)
    → IsClassOf (elementary w.group (length w.basis)) d
    (λ xs. cocycle_of w.group d x (map (embedding w.group w.basis) xs)) (restrict_row w.group w.basis d x)
class-at v w s levels e S d x = subst IsRestricted e
    (restricted-class v.group (elementary_over v.group (length v.basis)) (embedding v.group v.basis)
    (subst (λ bs. IsHomomorphism (group (elementary v.group (length bs))) (group v.group)
    (embedding v.group bs)) S.basis (homomorphism v.group s S.subgroup)) d x)
  where
    IsRestricted : EmbedValue → Type 0
    IsRestricted u = IsClassOf (elementary u.group (length u.basis)) d
        (λ xs. cocycle_of u.group d x (map (embedding u.group u.basis) xs)) (restrict_row u.group u.basis d x)

-- the subgroup lists the elements, for an equal basis
pub images-at : (G : PGroup) (basis : List ℕ) (s : NumberedSubgroup) → IsSubgroupOf G.table s → s.basis
    ≡ basis
    → AreImages (elementary G (length basis)) G s.images
images-at G basis s S e = subst (λ bs. AreImages (elementary G (length bs)) G s.images) e (images-are G s S)

module _ (G : PGroup) (basis : List ℕ) (d : ℕ) (l : Level) (L : IsEmbedLevel G basis d l) (s t : StageValue)
    (at-source : IsStageAt (elementary G (length basis)) (d + 1) s) (at-target : IsStageAt G (d + 1) t)
    (b : ℕ)
    (b-is : b ≡ l.target.value.rank) where
  abbrev E : PGroup
  E = elementary G (length basis)

  source-at : IsStageAt E (suc d) s
  source-at = subst (λ d. IsStageAt E d s) (let w : d + 1 ≡ suc d = omega arith in w) at-source

  target-at : IsStageAt G (suc d) t
  target-at = subst (λ d. IsStageAt G d t) (let w : d + 1 ≡ suc d = omega arith in w) at-target

  rank-is : b ≡ rank_of G d
  rank-is = b-is ∙ L.target_is.rank_is

  pub fit : l.source.value.kernel.width < 2 ^ 64 → FitAlong E G b l.rows s t
  fit w = record {
    source_above_zero = above-zero E d s source-at;
    target_above_zero = above-zero G d t target-at;
    before_prime = L.rows_are.prime;
    source_prime = prime E d s source-at;
    target_prime = prime G d t target-at;
    before_width = L.rows_are.width ∙ ap (λ k. order G.table * k) (sym rank-is);
    target_width = source-width G d t target-at ∙ ap (λ k. order G.table * k) (sym rank-is);
    fits = subst (λ k. k < 2 ^ 64) (ap (λ (m : MatrixValue). m.width) L.source_is.kernel_is
        ∙ ap (λ k. order E.table * k) (sym L.rows_are.count)) w;
    images = λ i k. subst (λ n. IsRow E.table.p (order E.table * n) (image_row s i)) (sym L.rows_are.count)
        (image-is-row E d s source-at i k);
  }

  pub next-rows-are : (u : NumberedSubgroup) → IsSubgroupOf G.table u → u.basis ≡ basis
      → (new : MatrixValue) → new.p ≡ G.table.p → new.width ≡ t.kernel.width → length new.rows ≡ s.rank
      → ((i : ℕ) → i < s.rank → row new.rows i ≡ section_of t
      (value_along E G (listed E G u.images) b l.rows.rows (image_row s i)))
      → IsMapAlong G (elementary_over G (length basis)) (embedding G basis) (suc d) new
  next-rows-are u U e new p w n r = next-map G (elementary_over G (length basis)) (embedding G basis)
      homomorphism-here d l.rows
      L.rows_are s t b new source-at target-at rank-is p w n
      (λ i k. r i k ∙ ap (λ f. section_of t (value_along E G f b l.rows.rows (image_row s i))) listed-here)
    where
      homomorphism-here : IsHomomorphism (group (elementary G (length basis))) (group G) (embedding G basis)
      homomorphism-here = subst (λ bs. IsHomomorphism (group (elementary G (length bs))) (group G)
          (embedding G bs)) e (homomorphism G u U)

      listed-here : listed (elementary G (length basis)) G u.images ≡ embedding G basis
      listed-here = subst (λ bs. listed (elementary G (length bs)) G u.images ≡ embedding G bs) e
          (listed-is G u U)

-- the first map
pub store-start : (v : EmbedValue) (s : NumberedSubgroup) (old new : List Level) (l : Level)
    → IsSubgroupOf v.group.table s
    → s.basis ≡ v.basis → IsEmbedLevel v.group v.basis 0 l
    → v.height ≡ 0 → old ≡ [] → new ≡ old ++ l ∷ [] → IsEmbedStore v s new
store-start v s old new l U e L z o n = subst (λ ls. IsEmbedStore v s ls)
    (sym (n ∙ ap (λ (x : List Level). x ++ l ∷ []) o)) (record {
      subgroup = U;
      basis = e;
      count = omega (arith, z);
      few = omega arith;
      each = at;
    })
  where
    at : (j : ℕ) (x : Level) → j < length (l ∷ []) → IsEmbedLevel v.group v.basis j (get_or (l ∷ []) j x)
    at zero x m = L
    at (suc j) x m = absurd (omega (arith, m))

-- one more map
pub store-push : (v : EmbedValue) (s : NumberedSubgroup) (n : ℕ) (levels new : List Level) (l : Level)
    → IsEmbedStore v s levels
    → suc v.height < 2 ^ 32 → IsEmbedLevel v.group v.basis (suc v.height) l → new ≡ levels ++ l ∷ [] → n
    ≡ length new - 1
    → IsEmbedStore (record v { height = n }) s new
store-push v s n levels new l S few L e f = subst (λ ls. IsEmbedStore (record v { height = n }) s ls) (sym e)
    (record {
      subgroup = S.subgroup;
      basis = S.basis;
      count = omega (arith, count, f, ap (λ (x : List Level). length x) e);
      few = omega (arith, count, few);
      each = λ j x k. at j x (cases_lt j (length levels)) k;
    })
  where
    count : length (levels ++ l ∷ []) ≡ suc (suc v.height)
    count = let a : length (levels ++ l ∷ []) ≡ length levels + 1 = length_push levels l in
        let b : length levels ≡ suc v.height = S.count in omega (arith, a, b)

    at : (j : ℕ) (x : Level) → (j < length levels) ⊎ (length levels ≤ j) → j < length (levels ++ l ∷ [])
        → IsEmbedLevel v.group v.basis j (get_or (levels ++ l ∷ []) j x)
    at j x (inl k) m = subst (IsEmbedLevel v.group v.basis j) (sym (get_or_append_left levels (l ∷ []) x j k))
        (S.each j x k)
    at j x (inr k) m =
        let here : j ≡ suc v.height = (let b : length levels ≡ suc v.height = S.count in
        omega (arith, b, k, m, count)) in
        subst (IsEmbedLevel v.group v.basis j)
        (sym (get_or_push levels l x j
        (let b : length levels ≡ suc v.height = S.count in let z : length levels ≡ j =
        omega (arith, b, here) in z)))
        (subst (λ d. IsEmbedLevel v.group v.basis d l) (sym here) L)

-- the first maps
pub store-take : (v : EmbedValue) (s : NumberedSubgroup) (k n : ℕ) (levels new : List Level)
    → IsEmbedStore v s levels → k ≤ v.height
    → new ≡ take (k + 1) levels → n ≡ length new - 1 → IsEmbedStore (record v { height = n }) s new
store-take v s k n levels new S l e f = subst (λ ls. IsEmbedStore (record v { height = n }) s ls) (sym e)
    (record {
      subgroup = S.subgroup;
      basis = S.basis;
      count = omega (arith, count, f, ap (λ (x : List Level). length x) e);
      few = let b : length levels ≤ 2 ^ 32 = S.few in let a : length levels ≡ suc v.height = S.count in
          omega (arith, count, a, b, l);
      each = λ j x m. subst (IsEmbedLevel v.group v.basis j)
          (sym (get_or-take (k + 1) levels j x (omega (arith, m, count))))
          (S.each j x (let a : length levels ≡ suc v.height = S.count in omega (arith, m, count, a, l)));
    })
  where
    count : length (take (k + 1) levels) ≡ k + 1
    count = length-take-le (k + 1) levels (let a : length levels ≡ suc v.height = S.count in
        omega (arith, a, l))

-- the first map, for an equal group and basis
pub first-level : (A G : PGroup) → A ≡ G → (b c : List ℕ) → b ≡ c → (l : Level) → IsEmbedLevel A b 0 l
    → IsEmbedLevel G c 0 l
first-level A G g b c e l L = subst (λ x. IsEmbedLevel x c 0 l) g (subst (λ x. IsEmbedLevel A x 0 l) e L)

pub same-value : (g g' : PGroup) (b b' : List ℕ) (m n : ℕ) → g ≡ g' → b ≡ b' → m ≡ n
    → ◌≡◌ {A = EmbedValue} (record { group = g; basis = b; height = m })
    (record { group = g'; basis = b'; height = n })
same-value g g' b b' m n e f k =
    ap (λ (x : PGroup). record { group = x; basis = b; height = m }) e
    ∙ ap₂ (λ (x : List ℕ) (y : ℕ). record { group = g'; basis = x; height = y }) f k

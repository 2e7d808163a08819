-- The maps that a lift keeps, and the next one.
use Rattle.std.proofs.Common.{◌≡◌, ℕ, zero, suc, ◌+◌, ◌-◌, ◌*◌, ◌%◌, ◌^◌, ◌<◌, ◌≤◌, ◌⊎◌, List, [], ◌∷◌, ◌++◌}
use Rattle.std.proofs.Common.{length, get_or, take, replicate, inl, inr, arith, ap, ap₂, sym, ◌∙◌, refl}
use Rattle.std.proofs.lemmas.Bool.{cases_lt}
use Rattle.std.proofs.lemmas.List.{get_or_append_left, get_or_push, length_push, length-take-le, get_or-take}
use Rattle.std.proofs.Math.Nat.{mod-eq_of_lt}
use mathlib.Core.Path.{subst}
use Rattle.group_table.specs.Tables.{order}
use Rattle.linear_algebra.specs.Rows.{row, add_multiple, IsRow}
use Rattle.fp_rows.specs.Values.{MatrixValue}
use Rattle.p_groups.specs.PGroups.{PGroup}
use Rattle.min_res.specs.Stages.{rank_of}
use Rattle.min_res.specs.Values.{StageValue}
use Rattle.min_res.specs.Defined.{IsStageAt}
use Rattle.min_res.proofs.StageReadings.{above-zero, source-width, prime}
use Rattle.chain_maps.specs.Lifts.{ahead}
use Rattle.chain_maps.proofs.Vectors.{ahead-is}
use Rattle.chain_lift.specs.declared.level.Level.{Level}
use Rattle.chain_lift.specs.Values.{LiftValue}
use Rattle.group_algebra.specs.RowMaps.{map_row}
use Rattle.chain_lift.specs.RowMaps.{image_row, section_of, FitTogether}
use Rattle.chain_lift.specs.Maps.{IsLiftMap}
use Rattle.chain_lift.specs.Stores.{IsLevel, IsLiftStore}
use Rattle.chain_lift.proofs.Stages.{image-is-row}
use Rattle.chain_lift.proofs.LiftRows.{next-map}

-- the map at a place
pub level-at : (v : LiftValue) (p : ℕ) (levels : List Level) → IsLiftStore v p levels → (j : ℕ) (l : Level)
    → j ≤ v.height → l ≡ get_or levels j l
    → IsLevel v.group v.degree v.class j l
level-at v p levels S j l m e = subst (λ (x : Level). IsLevel v.group v.degree v.class j x) (sym e)
    (S.each j l (let c : length levels ≡ suc v.height = S.count in omega (arith, c, m)))

-- a stage of a group, by an equal group, degree and value
pub stage-along : (R V : PGroup) → R ≡ V → (d k : ℕ) (s x : StageValue) → d ≡ k → s ≡ x → IsStageAt R d x
    → IsStageAt V k s
stage-along R V g d k s x e f =
    subst (λ G. IsStageAt R d x → IsStageAt G k s) g
    (λ L. subst (λ y. IsStageAt R k y) (sym f) (subst (λ n. IsStageAt R n x) e L))

module _ (V : PGroup) (e j : ℕ) (c : List ℕ) (l : Level) (L : IsLevel V e c j l) (s t : StageValue)
    (at-source : IsStageAt V (e + (j + 1)) s) (at-target : IsStageAt V (j + 1) t) (b : ℕ)
    (b-is : b ≡ l.target.value.rank) where
  source-at : IsStageAt V (suc (ahead e j)) s
  source-at = subst (λ d. IsStageAt V d s)
      (let z : ahead e j ≡ j + e = ahead-is e j in let w : e + (j + 1) ≡ suc (ahead e j) = omega (
        arith,
        z,
      ) in w) at-source

  target-at : IsStageAt V (suc j) t
  target-at = subst (λ d. IsStageAt V d t) (let w : j + 1 ≡ suc j = omega arith in w) at-target

  rank-is : b ≡ rank_of V j
  rank-is = b-is ∙ L.target_is.rank_is

  pub fit : l.source.value.kernel.width < 2 ^ 64 → FitTogether V b l.rows s t
  fit w = record {
    source_above_zero = above-zero V (ahead e j) s source-at;
    target_above_zero = above-zero V j t target-at;
    before_prime = L.rows_are.prime;
    source_prime = prime V (ahead e j) s source-at;
    target_prime = prime V j t target-at;
    before_width = L.rows_are.width ∙ ap (λ k. order V.table * k) (sym rank-is);
    target_width = source-width V j t target-at ∙ ap (λ k. order V.table * k) (sym rank-is);
    fits = subst (λ k. k < 2 ^ 64) (ap (λ (m : MatrixValue). m.width) L.source_is.kernel_is
        ∙ ap (λ k. order V.table * k) (sym count)) w;
    images = λ i k. subst (λ n. IsRow V.table.p (order V.table * n) (image_row s i)) (sym L.rows_are.count)
        (image-is-row V (ahead e j) s source-at i k);
  }
    where
      count : length l.rows.rows ≡ rank_of V (e + j)
      count = L.rows_are.count ∙ ap (rank_of V) (ahead-is e j ∙ (let w : j + e ≡ e + j = omega arith in w))

  pub next-rows-are : (new : MatrixValue) → new.p ≡ V.table.p → new.width ≡ t.kernel.width
      → length new.rows ≡ s.rank
      → ((i : ℕ) → i < s.rank → row new.rows i ≡ section_of t (map_row V b l.rows.rows (image_row s i)))
      → IsLiftMap V e c (suc j) new
  next-rows-are new p w n r = next-map V e c j l.rows L.rows_are s t b new source-at target-at rank-is p w n r

pub first-level : (A G : PGroup) → A ≡ G → (e : ℕ) (xs c : List ℕ) → xs ≡ c → (l : Level) → IsLevel A e xs 0 l
    → IsLevel G e c 0 l
first-level A G g e xs c f l = subst (λ G. IsLevel A e xs 0 l → IsLevel G e c 0 l) g
    (λ L. subst (λ y. IsLevel A e y 0 l) f L)

pub same-value : (g g' : PGroup) (d : ℕ) (c c' : List ℕ) (m n : ℕ) → g ≡ g' → c ≡ c' → m ≡ n
    → ◌≡◌ {A = LiftValue} (record { group = g; degree = d; class = c; height = m })
    (record { group = g'; degree = d; class = c'; height = n })
same-value g g' d c c' m n e f k =
    ap (λ (x : PGroup). record { group = x; degree = d; class = c; height = m }) e
    ∙ ap₂ (λ (x : List ℕ) (y : ℕ). record { group = g'; degree = d; class = x; height = y }) f k

-- a row added to zeros
pub added : (p n : ℕ) (xs : List ℕ) → IsRow p n xs → add_multiple p 1 (replicate n 0) xs ≡ xs
added p zero [] r = refl
added p zero (x ∷ xs) r = absurd (let l : length (x ∷ xs) ≡ 0 = r.length_is in omega (arith, l))
added p (suc n) [] r = absurd (let l : length {A = ℕ} [] ≡ suc n = r.length_is in omega (arith, l))
added p (suc n) (x ∷ xs) r =
    ap₂ (λ y ys. y ∷ ys) (ap (λ z. z % p) (let z : 0 + 1 * x ≡ x = omega arith in z)
    ∙ mod-eq_of_lt (r.below 0 (let z : 0 < suc n = omega arith in z)))
    (added p n xs (record {
      length_is = (let l : length (x ∷ xs) ≡ suc n = r.length_is in let z : length xs ≡ n = omega (
        arith,
        l,
      ) in z);
      below = λ j l. r.below (suc j) (let z : suc j < suc n = omega (arith, l) in z);
    }))

-- the first map
pub store-start : (v : LiftValue) (p : ℕ) (old new : List Level) (l : Level) → p ≡ v.group.table.p
    → length v.class ≡ rank_of v.group v.degree → IsLevel v.group v.degree v.class 0 l
    → v.height ≡ 0 → old ≡ [] → new ≡ old ++ l ∷ [] → IsLiftStore v p new
store-start v p old new l e c L z o n = subst (λ ls. IsLiftStore v p ls)
    (sym (n ∙ ap (λ (x : List Level). x ++ l ∷ []) o)) (record {
      prime = e;
      entries = c;
      count = omega (arith, z);
      few = omega arith;
      each = at;
    })
  where
    at : (j : ℕ) (x : Level) → j < length (l ∷ []) → IsLevel v.group v.degree v.class j (get_or (l ∷ []) j x)
    at zero x m = L
    at (suc j) x m = absurd (omega (arith, m))

-- one more map
pub store-push : (v : LiftValue) (p n : ℕ) (levels new : List Level) (l : Level) → IsLiftStore v p levels
    → suc v.height < 2 ^ 32
    → IsLevel v.group v.degree v.class (suc v.height) l → new ≡ levels ++ l ∷ [] → n ≡ length new - 1
    → IsLiftStore (record v { height = n }) p new
store-push v p n levels new l S few L e f =
    subst (λ ls. IsLiftStore (record v { height = n }) p ls) (sym e) (record {
      prime = S.prime;
      entries = S.entries;
      count = omega (arith, count, f, ap (λ (x : List Level). length x) e);
      few = omega (arith, count, few);
      each = λ j x k. at j x (cases_lt j (length levels)) k;
    })
  where
    count : length (levels ++ l ∷ []) ≡ suc (suc v.height)
    count = let a : length (levels ++ l ∷ []) ≡ length levels + 1 = length_push levels l in
        let b : length levels ≡ suc v.height = S.count in
        omega (arith, a, b)

    at : (j : ℕ) (x : Level) → (j < length levels) ⊎ (length levels ≤ j) → j < length (levels ++ l ∷ [])
        → IsLevel v.group v.degree v.class j (get_or (levels ++ l ∷ []) j x)
    at j x (inl k) m = subst (IsLevel v.group v.degree v.class j)
        (sym (get_or_append_left levels (l ∷ []) x j k)) (S.each j x k)
    at j x (inr k) m = let here : j ≡ suc v.height =
        (let b : length levels ≡ suc v.height = S.count in omega (arith, b, k, m, count)) in
        subst (IsLevel v.group v.degree v.class j)
        (sym (get_or_push levels l x j
        (let b : length levels ≡ suc v.height = S.count in let z : length levels ≡ j = omega (
          arith,
          b,
          here,
        ) in z)))
        (subst (λ d. IsLevel v.group v.degree v.class d l) (sym here) L)

-- the first maps
pub store-take : (v : LiftValue) (p k n : ℕ) (levels new : List Level) → IsLiftStore v p levels → k ≤ v.height
    → new ≡ take (k + 1) levels
    → n ≡ length new - 1
    → IsLiftStore (record v { height = n }) p new
store-take v p k n levels new S l e f = subst (λ ls. IsLiftStore (record v { height = n }) p ls) (sym e)
    (record {
      prime = S.prime;
      entries = S.entries;
      count = omega (arith, count, f, ap (λ (x : List Level). length x) e);
      few = let b : length levels ≤ 2 ^ 32 = S.few in let a : length levels ≡ suc v.height = S.count in
          omega (arith, count, a, b, l);
      each = λ j x m. subst (IsLevel v.group v.degree v.class j)
          (sym (get_or-take (k + 1) levels j x (omega (arith, m, count))))
          (S.each j x (let a : length levels ≡ suc v.height = S.count in omega (arith, m, count, a, l)));
    })
  where
    count : length (take (k + 1) levels) ≡ k + 1
    count = length-take-le (k + 1) levels
        (let a : length levels ≡ suc v.height = S.count in omega (arith, a, l))

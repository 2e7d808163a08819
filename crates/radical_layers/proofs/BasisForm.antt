-- Coordinates in a basis.
use Rattle.std.proofs.Common.{◌≡◌, ℕ, zero, suc, ◌+◌, ◌*◌, ◌-◌, ◌%◌, ◌<◌, ◌≤◌, ◌⊎◌, List, [], ◌∷◌, length}
use Rattle.std.proofs.Common.{inl, inr, arith, ap, ap₂, sym, ◌∙◌, refl}
use Rattle.std.proofs.lemmas.Bool.{cases_lt}
use Rattle.std.proofs.lemmas.List.{get_or_past}
use Rattle.std.proofs.lemmas.Grind.{same_number_lists}
use Rattle.std.proofs.Math.Nat.{mod-lt}
use mathlib.Core.Path.{subst, fun_ext}
use Rattle.group_modules.specs.Sums.{total, below}
use Rattle.group_modules.specs.Module.{Module, times}
use Rattle.group_modules.specs.Tables.{Group, monoid}
use Rattle.linear_algebra.specs.Modular.{IsCongruent, IsFieldModulo, sum_below}
use Rattle.linear_algebra.specs.Rows.{entry, row, combination, IsRow, IsMatrix, IsInSpan}
use Rattle.linear_algebra.proofs.Sums.{sum_below-congruent}
use Rattle.linear_algebra.proofs.Congruences.{congruent_refl, congruent_add, congruent_trans, congruent_eq}
use Rattle.linear_algebra.proofs.Congruences.{congruent_sym, congruent_mod, congruent_mul_right}
use Rattle.linear_algebra.proofs.Congruences.{congruent_minus, congruent_cancel, same_below}
use Rattle.linear_algebra.proofs.Independence.{Independent}
use Rattle.radical_layers.specs.Coordinates.{RowForm}
use Rattle.radical_layers.proofs.Bridge.{at, tabs, at-tabs, same-table}
use Rattle.radical_layers.proofs.SameDimension.{full}

-- the list of f 0 to f (n - 1)
abbrev pub list_of : ℕ → (ℕ → ℕ) → List ℕ
list_of zero f = []
list_of (suc n) f = f 0 ∷ list_of n (λ i. f (suc i))

pub length-list_of : (n : ℕ) (f : ℕ → ℕ) → length (list_of n f) ≡ n
length-list_of zero f = refl
length-list_of (suc n) f = ap suc (length-list_of n (λ i. f (suc i)))

pub entry-list_of : (n : ℕ) (f : ℕ → ℕ) (i : ℕ) → i < n → entry (list_of n f) i ≡ f i
entry-list_of zero f i l = absurd (omega (arith, l))
entry-list_of (suc n) f zero l = refl
entry-list_of (suc n) f (suc i) l = entry-list_of n (λ i. f (suc i)) i (let k : i < n = omega (arith, l) in k)

entry-past : {p width : ℕ} (x : List ℕ) → IsRow p width x → (j : ℕ) → width ≤ j → entry x j ≡ 0
entry-past {width = width} x r j l = get_or_past x j 0
    (let k : length x ≡ width = r.length_is in omega (arith, k, l))

combination-two : (c : ℕ) (u w : ℕ → ℕ) (X : List (List ℕ)) (j : ℕ)
    → combination (λ i. u i + c * w i) X j ≡ combination u X j + c * combination w X j
combination-two c u w X j = apart (length X) (λ i. entry (row X i) j)
  where
    apart : (n : ℕ) (r : ℕ → ℕ) → sum_below n (λ i. (u i + c * w i) * r i) ≡ sum_below n
        (λ i. u i * r i) + c * sum_below n (λ i. w i * r i)
    apart zero r = omega arith
    apart (suc n) r = omega (arith, apart n r)

-- coefficients of one combination of independent rows are congruent
unique : (p : ℕ) → 1 < p → (X : List (List ℕ)) → Independent p (length X) (λ i j. entry (row X i) j)
    → (u w : ℕ → ℕ)
    → ((j : ℕ) → IsCongruent p (combination u X j) (combination w X j)) → (i : ℕ) → i < length X
    → IsCongruent p (u i) (w i)
unique p h X I u w e i l = congruent_cancel ((p - 1) * w i) (congruent_trans
    (I.only_zero (λ i. u i + (p - 1) * w i)
    (λ j. congruent_trans (congruent_eq (combination-two (p - 1) u w X j))
    (congruent_trans (congruent_add (e j) (congruent_refl ((p - 1) * combination w X j)))
    (congruent_minus (combination w X j) h))) i l)
    (congruent_sym (congruent_minus (w i) h)))

module _ {n : ℕ} (q : ℕ) (F : IsFieldModulo (suc q)) (Γ : Group n) (D : ℕ) (T : Module (suc q) (monoid Γ))
    (K : RowForm D T)
    (B : List (List ℕ)) (matrix : IsMatrix (suc q) D B)
    (I : Independent (suc q) (length B) (λ i j. entry (row B i) j)) (count : length B ≡ D) where
  coefficients : (v : T.of) → IsInSpan (suc q) B (at q Γ D T K v)
  coefficients v = full F D B matrix I count (K.row v) (K.row-is v)

  -- the coefficients of v in the basis, and the member with given coefficients
  pub to-basis : T.of → List ℕ
  to-basis v = list_of D (λ i. (coefficients v).0 i % suc q)

  pub from-basis : List ℕ → T.of
  from-basis x = tabs q Γ D T K B (entry x) (length B)

  pub to-basis-row : (v : T.of) → IsRow (suc q) D (to-basis v)
  unfolding to-basis
  to-basis-row v = record {
    length_is = length-list_of D (λ i. (coefficients v).0 i % suc q);
    below = λ j l. subst (λ x. x < suc q) (sym (entry-list_of D (λ i. (coefficients v).0 i % suc q) j l))
        (mod-lt ((coefficients v).0 j) (let z : 0 < suc q = omega arith in z));
  }

  -- v is the combination of the basis by its coefficients
  combines : (v : T.of) (j : ℕ) → IsCongruent (suc q) (combination (entry (to-basis v)) B j)
      (at q Γ D T K v j)
  unfolding to-basis
  combines v j = congruent_trans (sum_below-congruent (suc q) (length B)
      (λ i. entry (to-basis v) i * entry (row B i) j) (λ i. (coefficients v).0 i * entry (row B i) j)
      (λ i l. congruent_mul_right (entry (row B i) j)
      (congruent_trans (congruent_eq
      (entry-list_of D (λ i. (coefficients v).0 i % suc q) i (subst (λ k. i < k) count l)))
      (congruent_mod ((coefficients v).0 i)))))
      ((coefficients v).1.each j)

  pub from-to : (v : T.of) → from-basis (to-basis v) ≡ v
  unfolding from-basis
  from-to v = same-table q Γ D T K _ v (λ j. congruent_trans
      (at-tabs q Γ D T K B matrix (entry (to-basis v)) (length B) refl j) (combines v j))

  pub to-from : (x : List ℕ) → IsRow (suc q) D x → to-basis (from-basis x) ≡ x
  unfolding from-basis
  to-from x r = same_number_lists (to-basis (from-basis x)) x ((to-basis-row (from-basis x)).length_is
      ∙ sym r.length_is)
      (λ k l. let d : k < D = subst (λ y. k < y) (to-basis-row (from-basis x)).length_is l in
      same_below (unique (suc q) F.above_one B I (entry (to-basis (from-basis x))) (entry x)
      (λ j. congruent_trans (combines (from-basis x) j)
      (at-tabs q Γ D T K B matrix (entry x) (length B) refl j)) k (subst (λ y. k < y) (sym count) d))
      ((to-basis-row (from-basis x)).below k d) (r.below k d))

  pub to-add : (v w : T.of) (j : ℕ) → IsCongruent (suc q) (entry (to-basis (T.add v w)) j)
      (entry (to-basis v) j + entry (to-basis w) j)
  to-add v w j = go (cases_lt j D)
    where
      go : (j < D) ⊎ (D ≤ j) → IsCongruent (suc q) (entry (to-basis (T.add v w)) j)
          (entry (to-basis v) j + entry (to-basis w) j)
      go (inl d) = congruent_trans (unique (suc q) F.above_one B I (entry (to-basis (T.add v w)))
          (λ i. entry (to-basis v) i + 1 * entry (to-basis w) i)
          (λ k. congruent_trans (combines (T.add v w) k) (congruent_trans (K.row-add v w k)
          (congruent_trans (congruent_add (congruent_sym (combines v k)) (congruent_sym (combines w k)))
          (congruent_eq ((let z : combination (entry (to-basis v)) B k + combination
          (entry (to-basis w)) B k ≡ combination (entry (to-basis v)) B k + 1 * combination
          (entry (to-basis w)) B k = omega arith in z)
          ∙ sym (combination-two 1 (entry (to-basis v)) (entry (to-basis w)) B k)))))) j
          (subst (λ y. j < y) (sym count) d))
          (congruent_eq (omega arith))
      go (inr d) = congruent_eq (entry-past (to-basis (T.add v w)) (to-basis-row (T.add v w)) j d
          ∙ (let z : ◌≡◌ {A = ℕ} 0 (0 + 0) = omega arith in z)
          ∙ sym (ap₂ ◌+◌ (entry-past (to-basis v) (to-basis-row v) j d)
          (entry-past (to-basis w) (to-basis-row w) j d)))

  -- the coordinates in the basis
  abbrev pub basis-form : RowForm D T
  basis-form = record {
    table = from-basis;
    row = to-basis;
    row-is = to-basis-row;
    table-row = from-to;
    row-table = to-from;
    row-add = to-add;
  }

  -- a member is the sum of the multiples of the basis by its coefficients
  pub expand : (v : T.of) (x : List ℕ) → ((k : ℕ) → k < length B → entry x k ≡ entry (to-basis v) k)
      → tabs q Γ D T K B (entry x) (length B) ≡ v
  unfolding from-basis
  expand v x h = ap (total T (below (length B)))
      (fun_ext (λ i. ap (λ c. times T.add T.zero c (K.table (row B i.0))) (h i.0 i.1))) ∙ from-to v

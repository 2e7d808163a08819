-- The first number at which a set and a conjugate differ.
use Rattle.std.proofs.Common.{◌≡◌, ℕ, ◌<◌, ◌≤◌, List, [], ◌∷◌, ◌↔◌, inl, inr, refl, sym, ◌∙◌, subst, arith}
use Rattle.std.proofs.lemmas.Bool.{cases_lt}
use Rattle.group_table.specs.Tables.{GroupTable, order, product}
use Rattle.elementary_subgroups.proofs.GroupLaws.{HasGroupLaw}
use Rattle.elementary_subgroups.specs.Sets.{IsIn, IsSet, IsSubset, IsBefore}
use Rattle.elementary_subgroups.specs.Subgroups.{IsConjugateBy, IsLeast}
use Rattle.elementary_subgroups.specs.Cliques.{IsFull}
use Rattle.elementary_subgroups.proofs.Members.{same_set, not_before_both}
use Rattle.elementary_subgroups.proofs.Cliques.{maximal_from_full}
use Rattle.elementary_subgroups.proofs.Conjugates.{Carries, same_left, conjugate_full, conjugate_to}
use Rattle.elementary_subgroups.proofs.Conjugates.{conjugate_from, conjugate_exists}

-- at the first number that only m has, m comes before, where l is no part of m
pub before_by : (x : ℕ) (m l : List ℕ) → IsSet m → IsSet l →
    ((k : ℕ) → k < x → IsIn k m → IsIn k l) → ((k : ℕ) → k < x → IsIn k l → IsIn k m) →
    IsIn x m → (IsIn x l → ⊥) → (IsSubset l m → ⊥) → IsBefore m l
before_by x [] l s t f g h n w = elim h [ ]
before_by x (a ∷ m) [] s t f g h n w = absurd (w (λ z k. absurd k))
before_by x (a ∷ m) (b ∷ l) s t f g h n w = elim (cases_lt a b) [
  | inl less ↦ inl less
  | inr more ↦ (let e : a ≡ b = equal h more in
      inr (
        e,
        before_by x m l s.1 t.1
            (λ k r i. let q : a < k = s.0 k i in drop_m k (f k r (inr i)) e q)
            (λ k r i. let q : b < k = t.0 k i in drop_l k (g k r (inr i)) e (omega arith))
            (elim h [ inl q ↦ absurd (n (inl (q ∙ e))) | inr i ↦ i ])
            (λ i. n (inr i))
            (λ sub. w (λ z i. elim i [ inl q ↦ inl (q ∙ sym e) | inr j ↦ inr (sub z j) ])),
      ))
]
  where
    a_le_x : IsIn x (a ∷ m) → a ≤ x
    a_le_x (inl e) = omega arith
    a_le_x (inr k) = let r : a < x = s.0 x k in omega arith

    b_above : IsIn b (a ∷ m) → a ≤ b
    b_above (inl e) = omega arith
    b_above (inr k) = let r : a < b = s.0 b k in omega arith

    drop_m : (k : ℕ) → IsIn k (b ∷ l) → a ≡ b → a < k → IsIn k l
    drop_m k (inl e) q r = absurd (omega arith)
    drop_m k (inr i) q r = i

    drop_l : (k : ℕ) → IsIn k (a ∷ m) → a ≡ b → a < k → IsIn k m
    drop_l k (inl e) q r = absurd (omega arith)
    drop_l k (inr i) q r = i

    equal : IsIn x (a ∷ m) → b ≤ a → a ≡ b
    equal hx le =
        let ax = a_le_x hx in
        let bx : b < x = elim (cases_lt b x) [
          | inl r ↦ r
          | inr r ↦ (let q : x ≡ b = omega arith in
              absurd (n (inl q)))
        ] in
        let ab : a ≤ b = b_above (g b bx (inl refl)) in
        omega arith

-- what the comparison goes by: the set and its conjugate have the same members below x
abbrev pub AgreeBelow : GroupTable → ℕ → ℕ → List ℕ → ℕ → Type 0
AgreeBelow G g i m x = (k : ℕ) → k < x → IsIn k m ↔ IsIn (product G (product G g k) i) m

module _ {G : GroupTable} (L : HasGroupLaw G) (g i : ℕ) (m l : List ℕ) (a : g < order G) (b : i < order G)
    (e : product G i g ≡ 0)
    (F : IsFull G m) (C : IsConjugateBy G g m l) (x : ℕ) (z : x ≤ order G) (A : AgreeBelow G g i m x) where
  there : (k : ℕ) → k < x → IsIn k m → IsIn k l
  there k r h = conjugate_from L g i m l a b e C k (omega arith) ((A k r).0 h)

  here : (k : ℕ) → k < x → IsIn k l → IsIn k m
  here k r h = (A k r).1 (conjugate_to L g i m l a b e (λ y h. (F.torsion y h).element) C k h)

  l_full : IsFull G l
  l_full = conjugate_full L g m l a F C

  not_part : ¬ (m ≡ l) → IsSubset l m → ⊥
  not_part n s = n ((maximal_from_full L l l_full).maximal m (maximal_from_full L m F).elementary s)

  not_part_back : ¬ (m ≡ l) → IsSubset m l → ⊥
  not_part_back n s = n
      (sym ((maximal_from_full L m F).maximal l (maximal_from_full L l l_full).elementary s))

  pub before_here : x < order G → IsIn x m → (IsIn (product G (product G g x) i) m → ⊥) → IsBefore m l
  before_here xo h n =
      let no_l : IsIn x l →
      ⊥ = λ k. n (conjugate_to L g i m l a b e (λ y h. (F.torsion y h).element) C x k) in
      before_by x m l F.is_set C.is_set there here h no_l
      (not_part (λ q. let P : List ℕ → Type 0 = λ w. IsIn x w in no_l (subst P q h)))

  pub before_there : x < order G → (IsIn x m → ⊥) → IsIn (product G (product G g x) i) m → IsBefore l m
  before_there xo n h =
      let in_l : IsIn x l = conjugate_from L g i m l a b e C x xo h in
      before_by x l m C.is_set F.is_set here there in_l n
      (not_part_back (λ q. let P : List ℕ → Type 0 = λ w. IsIn x w in n (subst P (sym q) in_l)))

  pub agree_all : order G ≤ x → m ≡ l
  agree_all o = same_set m l F.is_set C.is_set
      (λ y h. there y (let r : y < order G = (F.torsion y h).element in omega arith) h)
      (λ y h. here y (let r : y < order G = C.elements y h in omega arith) h)

pub not_before_self : (xs : List ℕ) → IsBefore xs xs → ⊥
not_before_self xs h = not_before_both xs xs h h

-- a set that has a conjugate before it is not least
pub not_least : {G : GroupTable} → HasGroupLaw G → (g : ℕ) (m : List ℕ) → g < order G →
    ((x : ℕ) → IsIn x m → x < order G) →
    ((l : List ℕ) → IsConjugateBy G g m l → IsBefore l m) → IsLeast G m → ⊥
not_least {G} L g m i below h l = let C = conjugate_exists L g m i below in
    elim (l C.0 (g, i, C.1)) [
      | inl e ↦ (let P : List ℕ → Type 0 = λ w. IsBefore w m in
          not_before_self m (subst P (sym e) (h C.0 C.1)))
      | inr b ↦ not_before_both m C.0 b (h C.0 C.1)
    ]

-- a set into which conjugation takes its members is its own conjugate
pub kept_same : {G : GroupTable} → HasGroupLaw G → (g : ℕ) (m l : List ℕ) → g < order G → IsFull G m →
    IsConjugateBy G g m l → ((x : ℕ) → IsIn x m → (y : ℕ) × IsIn y m × Carries G g x y) → m ≡ l
kept_same {G} L g m l i F C k =
    (maximal_from_full L l (conjugate_full L g m l i F C)).maximal m (maximal_from_full L m F).elementary
    (λ y h. let r = C.comes y h in let s = k r.0 r.1 in
    let P : ℕ → Type 0 = λ w. IsIn w m in
    subst P (same_left L g s.0 y i (F.torsion s.0 s.1).element (C.elements y h) (s.2 ∙ sym r.2)) s.1)

-- The list is one list, and it has each conjugacy class once.
use Rattle.std.proofs.Common.{◌≡◌, ℕ, zero, suc, ◌<◌, ◌≤◌, List, [], ◌∷◌, ◌⊎◌, inl, inr, ap, sym, ◌∙◌, subst}
use Rattle.std.proofs.Common.{arith}
use Rattle.std.proofs.lemmas.Bool.{cases_lt}
use Rattle.group_table.specs.Tables.{GroupTable, order, product}
use Rattle.elementary_subgroups.proofs.GroupLaws.{HasGroupLaw, cancel_left}
use Rattle.elementary_subgroups.specs.Sets.{IsIn, IsSet, IsSubset, IsBefore}
use Rattle.elementary_subgroups.specs.Subgroups.{IsMaximalElementary, IsConjugateBy, IsConjugate}
use Rattle.elementary_subgroups.specs.Subgroups.{IsMaximalElementaryList, IsOnlyConjugate}
use Rattle.elementary_subgroups.proofs.Members.{same_members, same_set, not_before_both}
use Rattle.elementary_subgroups.proofs.Cliques.{maximal_from_full, full_from_maximal}
use Rattle.elementary_subgroups.proofs.Conjugates.{Carries, undo_right, same_left, conjugate_full}
use Rattle.elementary_subgroups.proofs.Conjugates.{conjugate_exists}

-- the answer is determined
pub list_is_one : (G : GroupTable) (ms ns : List (List ℕ)) → IsMaximalElementaryList G ms →
    IsMaximalElementaryList G ns → ms ≡ ns
list_is_one G ms ns a b = same_members IsBefore not_before_both ms ns a.ascending b.ascending
    (λ m h. b.complete m (a.each m h).0 (a.each m h).1) (λ m h. a.complete m (b.each m h).0 (b.each m h).1)

-- of two different full sets, one comes before
before_or : (m l : List ℕ) → (m ≡ l) ⊎ IsBefore m l ⊎ IsBefore l m ⊎ IsSubset m l ⊎ IsSubset l m
before_or [] l = inr (inr (inr (inl (λ x h. absurd h))))
before_or (x ∷ m) [] = inr (inr (inr (inr (λ y h. absurd h))))
before_or (x ∷ m) (y ∷ l) = elim (cases_lt x y) [
  | inl r ↦ inr (inl (inl r))
  | inr r ↦ elim (cases_lt y x) [
    | inl s ↦ inr (inr (inl (inl s)))
    | inr s ↦ (let e : x ≡ y = omega arith in
        elim (before_or m l) [
          | inl q ↦ inl (ap (λ w. w ∷ m) e ∙ ap (λ w. y ∷ w) q)
          | inr t ↦ elim t [
            | inl q ↦ inr (inl (inr (e, q)))
            | inr u ↦ elim u [
              | inl q ↦ inr (inr (inl (inr (sym e, q))))
              | inr v ↦ elim v [
                | inl q ↦ inr (inr (inr (inl (λ z h. elim h [ inl k ↦ inl (k ∙ e) | inr k ↦ inr (q z k) ]))))
                | inr q ↦ inr (inr (inr
                    (inr (λ z h. elim h [ inl k ↦ inl (k ∙ sym e) | inr k ↦ inr (q z k) ]))))
              ]
            ]
          ]
        ])
  ]
]

pub compare_maximal : {G : GroupTable} (m l : List ℕ) → IsMaximalElementary G m → IsMaximalElementary G l →
    (m ≡ l) ⊎ IsBefore m l ⊎ IsBefore l m
compare_maximal m l M N = elim (before_or m l) [
  | inl q ↦ inl q
  | inr t ↦ elim t [
    | inl q ↦ inr (inl q)
    | inr u ↦ elim u [
      | inl q ↦ inr (inr q)
      | inr v ↦ elim v [
        | inl s ↦ inl (sym (M.maximal l N.elementary s))
        | inr s ↦
            inl (N.maximal m M.elementary s)
      ]
    ]
  ]
]

pub before_trans : (a b c : List ℕ) → IsBefore a b → IsBefore b c → IsBefore a c
before_trans a b [] h k = elim k [ ]
before_trans [] b (z ∷ c) h k = tt
before_trans (x ∷ a) [] (z ∷ c) h k = elim h [ ]
before_trans (x ∷ a) (y ∷ b) (z ∷ c) (inl h) (inl k) = inl (omega arith)
before_trans (x ∷ a) (y ∷ b) (z ∷ c) (inl h) (inr k) = let e = k.0 in inl (omega arith)
before_trans (x ∷ a) (y ∷ b) (z ∷ c) (inr h) (inl k) = let e = h.0 in inl (omega arith)
before_trans (x ∷ a) (y ∷ b) (z ∷ c) (inr h) (inr k) = inr (h.0 ∙ k.0, before_trans a b c h.1 k.1)

-- conjugate to the conjugate, and back
pub conjugate_trans : {G : GroupTable} → HasGroupLaw G → (m l k : List ℕ) →
    ((x : ℕ) → IsIn x m → x < order G) → IsConjugate G m l → IsConjugate G l k → IsConjugate G m k
conjugate_trans {G} L m l k below a b =
    let g = a.0 in let h = b.0 in
    let chain : (x y z : ℕ) → x < order G → y < order G → z < order G → Carries G g x y → Carries G h y z →
    Carries G (product G g h) x z =
    λ x y z i j n e f. L.law.mul-assoc g h z a.1 b.1 n ∙ ap (λ w. product G g w) f
    ∙ sym (L.law.mul-assoc g y h a.1 j b.1)
    ∙ ap (λ w. product G w h) e ∙ L.law.mul-assoc x g h i a.1 b.1 in (
      product G g h,
      L.law.closed g h a.1 b.1,
      record {
        is_set = b.2.is_set;
        elements = b.2.elements;
        takes = λ x i. let r = a.2.takes x i in let s = b.2.takes r.0 r.1 in
            (s.0, s.1, chain x r.0 s.0 (below x i) (a.2.elements r.0 r.1) (b.2.elements s.0 s.1) r.2 s.2);
        comes = λ z i. let s = b.2.comes z i in let r = a.2.comes s.0 s.1 in
            (r.0, r.1, chain r.0 s.0 z (below r.0 r.1) (a.2.elements s.0 s.1) (b.2.elements z i) r.2 s.2);
      },
    )

pub conjugate_back : {G : GroupTable} → HasGroupLaw G → (m l : List ℕ) → IsSet m →
    ((x : ℕ) → IsIn x m → x < order G) → IsConjugate G m l → IsConjugate G l m
conjugate_back {G} L m l s below a =
    let g = a.0 in
    let n = L.law.inverse g a.1 in
    -- n x = y n where g y = x g
    let turn : (x y : ℕ) → x < order G → y < order G → Carries G g x y → Carries G n.0 y x =
    λ x y i j e.
    let gy = L.law.closed g y a.1 j in
    ap (λ w. product G n.0 w) (sym (undo_right L g n.0 x a.1 n.1 i n.3) ∙ ap (λ w. product G w n.0) (sym e)
    ∙ L.law.mul-assoc g y n.0 a.1 j n.1)
    ∙ cancel_left L g n.0 (product G y n.0) a.1 n.1 (L.law.closed y n.0 j n.1) n.3 in (
      n.0,
      n.1,
      record {
        is_set = s;
        elements = below;
        takes = λ y i. let r = a.2.comes y i in (r.0, r.1, turn r.0 y (below r.0 r.1) (a.2.elements y i) r.2);
        comes = λ x i. let r = a.2.takes x i in (r.0, r.1, turn x r.0 (below x i) (a.2.elements r.0 r.1) r.2);
      },
    )

conjugate_self : {G : GroupTable} → HasGroupLaw G → (m : List ℕ) → IsSet m →
    ((x : ℕ) → IsIn x m → x < order G) → IsConjugate G m m
conjugate_self {G} L m s below = (
  0,
  L.law.some,
  record {
    is_set = s;
    elements = below;
    takes = λ x h. (x, h, L.law.one-mul x (below x h) ∙ sym (L.law.mul-one x (below x h)));
    comes = λ x h. (x, h, L.law.one-mul x (below x h) ∙ sym (L.law.mul-one x (below x h)));
  },
)

-- the least of the conjugates by the elements below n
least_below : {G : GroupTable} → HasGroupLaw G → (m : List ℕ) → IsMaximalElementary G m → (n : ℕ) →
    n ≤ order G → (l : List ℕ) × IsConjugate G m l × ((g : ℕ) → g < n → (k : List ℕ) → IsConjugateBy G g m k →
    (l ≡ k) ⊎ IsBefore l k)
least_below {G} L m M zero i = (
  m,
  conjugate_self L m M.elementary.is_set M.elementary.elements,
  λ g h.
      absurd (let b : g < 0 = h in omega arith),
)
least_below {G} L m M (suc n) i =
    let r = least_below L m M n (omega arith) in
    let F = full_from_maximal L m M in
    let C = conjugate_exists L n m (omega arith) M.elementary.elements in
    let N = maximal_from_full L C.0 (conjugate_full L n m C.0 (omega arith) F C.1) in
    let R = maximal_from_full L r.0 (conjugate_full L r.1.0 m r.0 r.1.1 F r.1.2) in
    let only : (k : List ℕ) → IsConjugateBy G n m k → C.0 ≡ k = λ k K. same_conjugate k K in
    elim (compare_maximal r.0 C.0 R N) [
      | inl q ↦ (
        r.0,
        r.1,
        λ g h k K. elim (cases_lt g n) [
          | inl s ↦ r.2 g s k K
          | inr s ↦ (let e : g ≡ n = omega arith in let P : ℕ → Type 0 = λ w. IsConjugateBy G w m k in
              inl (q ∙ only k (subst P e K)))
        ],
      )
      | inr t ↦ elim t [
        | inl q ↦ (
          r.0,
          r.1,
          λ g h k K. elim (cases_lt g n) [
            | inl s ↦ r.2 g s k K
            | inr s ↦ (let e : g ≡ n = omega arith in let P : ℕ → Type 0 = λ w. IsConjugateBy G w m k in
                let Q : List ℕ → Type 0 = λ w. IsBefore r.0 w in inr (subst Q (only k (subst P e K)) q))
          ],
        )
        | inr q ↦ (
          C.0,
          (n, (let z : n < order G = omega arith in z), C.1),
          λ g h k K. elim (cases_lt g n) [
            | inl s ↦ elim (r.2 g s k K) [
              | inl e ↦ (let Q : List ℕ → Type 0 = λ w. IsBefore C.0 w in inr (subst Q e q))
              | inr b ↦ inr (before_trans C.0 r.0 k q b)
            ]
            | inr s ↦ (let e : g ≡ n = omega arith in let P : ℕ → Type 0 = λ w. IsConjugateBy G w m k in
                inl (only k (subst P e K)))
          ],
        )
      ]
    ]
  where
    same_conjugate : (k : List ℕ) → IsConjugateBy G n m k →
        (conjugate_exists L n m (omega arith) M.elementary.elements).0 ≡ k
    same_conjugate k K = let C = conjugate_exists L n m (omega arith) M.elementary.elements in
        same_set C.0 k C.1.is_set K.is_set
        (λ y h. let r = C.1.comes y h in let s = K.takes r.0 r.1 in
        let P : ℕ → Type 0 = λ w. IsIn w k in
        subst P (same_left L n s.0 y (omega arith) (K.elements s.0 s.1) (C.1.elements y h)
        (s.2 ∙ sym r.2)) s.1)
        (λ y h. let r = K.comes y h in let s = C.1.takes r.0 r.1 in
        let P : ℕ → Type 0 = λ w. IsIn w C.0 in
        subst P (same_left L n s.0 y (omega arith) (C.1.elements s.0 s.1) (K.elements y h)
        (s.2 ∙ sym r.2)) s.1)

-- each maximal elementary abelian subgroup has a conjugate in the list
pub class_listed : {G : GroupTable} → HasGroupLaw G → (ms : List (List ℕ)) → IsMaximalElementaryList G ms →
    (m : List ℕ) → IsMaximalElementary G m → (l : List ℕ) × IsIn l ms × IsConjugate G m l
class_listed {G} L ms A m M =
    let r = least_below L m M (order G) (omega arith) in
    let F = full_from_maximal L m M in
    let R = maximal_from_full L r.0 (conjugate_full L r.1.0 m r.0 r.1.1 F r.1.2) in (
      r.0,
      A.complete r.0 R (λ k C. let D = conjugate_trans L m r.0 k M.elementary.elements r.1 C in
          r.2 D.0 D.1 k D.2),
      r.1,
    )

-- and only one
pub class_once : {G : GroupTable} → HasGroupLaw G → (ms : List (List ℕ)) → IsMaximalElementaryList G ms →
    (m l : List ℕ) → IsIn m ms → IsIn l ms → IsConjugate G m l → m ≡ l
class_once {G} L ms A m l h k C =
    let M = (A.each m h).0.elementary in
    elim ((A.each m h).1 l C) [
      | inl e ↦ e
      | inr b ↦ elim ((A.each l k).1 m (conjugate_back L m l M.is_set M.elements C)) [
        | inl e ↦
            sym e
        | inr d ↦ absurd (not_before_both m l b d)
      ]
    ]

-- each maximal elementary abelian subgroup has one conjugate in the list
pub only_conjugate : {G : GroupTable} → HasGroupLaw G → (ms : List (List ℕ)) → IsMaximalElementaryList G ms →
    (m : List ℕ) → IsMaximalElementary G m → (l : List ℕ) × IsOnlyConjugate G m ms l
only_conjugate {G} L ms A m M =
    let r = class_listed L ms A m M in
    let E = M.elementary in (
      r.0,
      record {
        listed = r.1;
        conjugate = r.2;
        only = λ k h C. class_once L ms A k r.0 h r.1
            (conjugate_trans L k m r.0 (A.each k h).0.elementary.elements
            (conjugate_back L m k E.is_set E.elements C) r.2);
      },
    )

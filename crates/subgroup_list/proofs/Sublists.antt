-- Lists that go through another one and leave some members out.
use Rattle.std.proofs.Common.{◌≡◌, ℕ, ◌<◌, List, [], ◌∷◌, ◌++◌, Bool, true, inl, inr, refl, ap, sym, subst}
use Rattle.std.proofs.Common.{arith}
use Rattle.std.specs.Prelude.{filter}
use Rattle.elementary_subgroups.specs.Sets.{IsIn, IsBelow, IsSet, IsSubset, IsBefore}
use Rattle.subgroup_list.specs.Search.{IsSublist}
use Rattle.elementary_subgroups.proofs.Members.{filter_taken, in_left, in_right, ascending_append, bool_cases}
use Rattle.elementary_subgroups.proofs.Members.{filter_left}

pub empty_sublist : (xs : List ℕ) → IsSublist [] xs
empty_sublist [] = refl
empty_sublist (x ∷ xs) = inr (empty_sublist xs)

pub sublist_in : (ys xs : List ℕ) → IsSublist ys xs → IsSubset ys xs
sublist_in ys [] e z h = let P : List ℕ → Type 0 = λ l. IsIn z l in subst P e h
sublist_in ys (x ∷ xs) (inl t) z h = let P : List ℕ → Type 0 = λ l. IsIn z l in
    elim (subst P t.1 h) [ inl e ↦ inl e | inr k ↦ inr (sublist_in t.0 xs t.2 z k) ]
sublist_in ys (x ∷ xs) (inr t) z h = inr (sublist_in ys xs t z h)

pub sublist_ascending : (ys xs : List ℕ) → IsSublist ys xs → IsSet xs → IsSet ys
sublist_ascending ys [] e s = let P : List ℕ → Type 0 = λ l. IsSet l in subst P (sym e) tt
sublist_ascending ys (x ∷ xs) (inl t) s = let P : List ℕ → Type 0 = λ l. IsSet l in
    subst P (sym t.1) ((λ y h. s.0 y (sublist_in t.0 xs t.2 y h)), sublist_ascending t.0 xs t.2 s.1)
sublist_ascending ys (x ∷ xs) (inr t) s = sublist_ascending ys xs t s.1

-- a set of members of xs goes through xs
pub set_is_sublist : (ys xs : List ℕ) → IsSet ys → IsSet xs → IsSubset ys xs → IsSublist ys xs
set_is_sublist [] xs s t f = empty_sublist xs
set_is_sublist (y ∷ ys) [] s t f = absurd (f y (inl refl))
set_is_sublist (y ∷ ys) (x ∷ xs) s t f = elim (f y (inl refl)) [
  | inl e ↦ inl (
    ys,
    ap (λ w. w ∷ ys) e,
    set_is_sublist ys xs s.1 t.1
        (λ z h. elim (f z (inr h)) [
          | inl k ↦ absurd (let l : IsBelow y z = s.0 z h in let l2 : y < z = l in
              omega arith)
          | inr k ↦ k
        ]),
  )
  | inr g ↦ inr (set_is_sublist (y ∷ ys) xs s t.1
      (λ z h. elim (f z h) [
        | inl k ↦ absurd (let l : x < y = t.0 y g in
            elim h [ inl m ↦ omega arith | inr m ↦ (let l2 : y < z = s.0 z m in omega arith) ])
        | inr k ↦ k
      ]))
]

-- where all taken ones pass the test, the ones that fail can be left out first
pub sublist_filter : (t : ℕ → Bool) (ys xs : List ℕ) → IsSublist ys xs →
    ((y : ℕ) → IsIn y ys → t y ≡ true) → IsSublist ys (filter t xs)
sublist_filter t ys [] e f = e
sublist_filter t ys (x ∷ xs) (inl s) f =
    let e : t x ≡ true = f x (let P : List ℕ → Type 0 = λ l. IsIn x l in subst P (sym s.1) (inl refl)) in
    let P : List ℕ → Type 0 = λ l. IsSublist ys l in
    subst P (sym (filter_taken t x xs e))
    (inl (
      s.0,
      s.1,
      sublist_filter t s.0 xs s.2 (λ y h. f y (let Q : List ℕ → Type 0 = λ l. IsIn y l in
          subst Q (sym s.1) (inr h))),
    ))
sublist_filter t ys (x ∷ xs) (inr s) f =
    let r = sublist_filter t ys xs s f in
    let P : List ℕ → Type 0 = λ l. IsSublist ys l in
    elim (bool_cases (t x)) [
      | inl e ↦ subst P (sym (filter_taken t x xs e)) (inr r)
      | inr e ↦ subst P
          (sym (filter_left t x xs e)) r
    ]

-- what the test lets through is a sublist
pub filter_sublist : (t : ℕ → Bool) (ys xs : List ℕ) → IsSublist ys (filter t xs) → IsSublist ys xs
filter_sublist t ys [] e = e
filter_sublist t ys (x ∷ xs) s =
    let P : List ℕ → Type 0 = λ l. IsSublist ys l in
    elim (bool_cases (t x)) [
      | inl e ↦ elim (subst P (filter_taken t x xs e) s) [
        | inl r ↦ inl (r.0, r.1, filter_sublist t r.0 xs r.2)
        | inr r ↦ inr (filter_sublist t ys xs r)
      ]
      | inr e ↦ inr (filter_sublist t ys xs (subst P (filter_left t x xs e) s))
    ]

-- a list that begins the same, and then with a smaller number, comes before
pub before_at : (ks ys zs : List ℕ) (u v : ℕ) → u < v → IsBefore (ks ++ u ∷ ys) (ks ++ v ∷ zs)
before_at [] ys zs u v l = inl l
before_at (k ∷ ks) ys zs u v l = inr (refl, before_at ks ys zs u v l)

-- the parts of an ascending list
pub ascending_left : (xs ys : List ℕ) → IsSet (xs ++ ys) → IsSet xs
ascending_left [] ys s = tt
ascending_left (x ∷ xs) ys s = ((λ z h. s.0 z (in_left z xs ys h)), ascending_left xs ys s.1)

pub ascending_right : (xs ys : List ℕ) → IsSet (xs ++ ys) → IsSet ys
ascending_right [] ys s = s
ascending_right (x ∷ xs) ys s = ascending_right xs ys s.1

pub ascending_across : (xs ys : List ℕ) → IsSet (xs ++ ys) → (x y : ℕ) → IsIn x xs → IsIn y ys → x < y
ascending_across [] ys s x y h k = elim h [ ]
ascending_across (z ∷ xs) ys s x y (inl e) k = let l : z < y = s.0 y (in_right y xs ys k) in omega arith
ascending_across (z ∷ xs) ys s x y (inr h) k = ascending_across xs ys s.1 x y h k

-- a shorter end
pub ascending_end : (xs ys zs : List ℕ) → IsSet (xs ++ ys) → IsSublist zs ys → IsSet (xs ++ zs)
ascending_end xs ys zs s t =
    ascending_append IsBelow xs zs (ascending_left xs ys s) (sublist_ascending zs ys t
    (ascending_right xs ys s))
    (λ x y h k. ascending_across xs ys s x y h (sublist_in zs ys t y k))

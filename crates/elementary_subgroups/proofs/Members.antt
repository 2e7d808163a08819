-- Members of lists, and ascending lists.
use Rattle.std.proofs.Common.{◌≡◌, ℕ, zero, suc, ◌<◌, List, [], ◌∷◌, ◌++◌, Bool, true, false, cond, ◌⊎◌, inl}
use Rattle.std.proofs.Common.{inr, refl, ap, sym, ◌∙◌, subst, arith}
use Rattle.std.proofs.lemmas.Bool.{cases_lt}
use Rattle.std.specs.Prelude.{filter}
use Rattle.elementary_subgroups.specs.Bases.{numbers}
use Rattle.elementary_subgroups.specs.Sets.{IsIn, IsAscending, IsBelow, IsSet, IsSubset, IsBefore}

pub in_left : {A : Type 0} (x : A) (xs ys : List A) → IsIn x xs → IsIn x (xs ++ ys)
in_left x [] ys h = elim h [ ]
in_left x (z ∷ xs) ys (inl e) = inl e
in_left x (z ∷ xs) ys (inr h) = inr (in_left x xs ys h)

pub in_right : {A : Type 0} (x : A) (xs ys : List A) → IsIn x ys → IsIn x (xs ++ ys)
in_right x [] ys h = h
in_right x (z ∷ xs) ys h = inr (in_right x xs ys h)

pub in_append : {A : Type 0} (x : A) (xs ys : List A) → IsIn x (xs ++ ys) → IsIn x xs ⊎ IsIn x ys
in_append x [] ys h = inr h
in_append x (z ∷ xs) ys (inl e) = inl (inl e)
in_append x (z ∷ xs) ys (inr h) = elim (in_append x xs ys h) [ inl a ↦ inl (inr a) | inr b ↦ inr b ]

pub bool_cases : (b : Bool) → (b ≡ true) ⊎ (b ≡ false)
bool_cases true = inl refl
bool_cases false = inr refl

filter_step : {A : Type 0} (t : A → Bool) (x : A) (xs : List A) (b : Bool) → t x ≡ b →
    filter t (x ∷ xs) ≡ cond b (x ∷ filter t xs) (filter t xs)
filter_step t x xs b e = ap (λ v. cond v (x ∷ filter t xs) (filter t xs)) e

pub filter_taken : {A : Type 0} (t : A → Bool) (x : A) (xs : List A) → t x ≡ true →
    filter t (x ∷ xs) ≡ x ∷ filter t xs
filter_taken t x xs e = filter_step t x xs true e

pub filter_left : {A : Type 0} (t : A → Bool) (x : A) (xs : List A) → t x ≡ false →
    filter t (x ∷ xs) ≡ filter t xs
filter_left t x xs e = filter_step t x xs false e

pub in_filter : {A : Type 0} (t : A → Bool) (x : A) (xs : List A) → IsIn x xs → t x ≡ true →
    IsIn x (filter t xs)
in_filter t x [] h e = elim h [ ]
in_filter {A} t x (y ∷ ys) h e = elim (bool_cases (t y)) [
  | inl a ↦ let P : List A → Type 0 = λ l. IsIn x l in subst P (sym (filter_taken t y ys a))
      (elim h [ inl r ↦ inl r | inr r ↦ inr (in_filter t x ys r e) ])
  | inr a ↦ let P : List A → Type 0 = λ l. IsIn x l in subst P (sym (filter_left t y ys a))
      (elim h [
        | inl r ↦ absurd (let bad : true ≡ false = sym e ∙ ap t r ∙ a in cc)
        | inr r ↦
            in_filter t x ys r e
      ])
]

pub from_filter : {A : Type 0} (t : A → Bool) (x : A) (xs : List A) → IsIn x (filter t xs) →
    IsIn x xs × (t x ≡ true)
from_filter t x [] h = elim h [ ]
from_filter {A} t x (y ∷ ys) h = elim (bool_cases (t y)) [
  | inl a ↦ (let P : List A → Type 0 = λ l. IsIn x l in
      elim (subst P (filter_taken t y ys a) h) [
        | inl r ↦ (inl r, ap t r ∙ a)
        | inr r ↦ (inr (from_filter t x ys r).0, (from_filter t x ys r).1)
      ])
  | inr a ↦ (let P : List A → Type 0 = λ l. IsIn x l in
      let r = from_filter t x ys (subst P (filter_left t y ys a) h) in (inr r.0, r.1))
]

pub filter_ascending : {A : Type 0} (R : A → A → Type 0) (t : A → Bool) (xs : List A) → IsAscending R xs →
    IsAscending R (filter t xs)
filter_ascending R t [] s = tt
filter_ascending {A} R t (y ∷ ys) s = elim (bool_cases (t y)) [
  | inl a ↦ let P : List A → Type 0 = λ l. IsAscending R l in subst P (sym (filter_taken t y ys a))
      ((λ z h. s.0 z (from_filter t z ys h).0), filter_ascending R t ys s.1)
  | inr a ↦ let P : List A → Type 0 = λ l. IsAscending R l in subst P (sym (filter_left t y ys a))
      (filter_ascending R t ys s.1)
]

-- ascending lists with the same members are equal
pub same_members : {A : Type 0} (R : A → A → Type 0) → ((x y : A) → R x y → R y x → ⊥) → (xs ys : List A) →
    IsAscending R xs → IsAscending R ys →
    ((x : A) → IsIn x xs → IsIn x ys) → ((x : A) → IsIn x ys → IsIn x xs) → xs ≡ ys
same_members R asym [] [] s t f g = refl
same_members R asym [] (y ∷ ys) s t f g = absurd (g y (inl refl))
same_members R asym (x ∷ xs) [] s t f g = absurd (f x (inl refl))
same_members {A} R asym (x ∷ xs) (y ∷ ys) s t f g =
    let same : x ≡ y = elim (f x (inl refl)) [
      | inl e ↦ e
      | inr h ↦ elim (g y (inl refl)) [ inl e ↦ sym e | inr k ↦ absurd (asym x y (s.0 y k) (t.0 x h)) ]
    ] in
    let rest : xs ≡ ys = same_members R asym xs ys s.1 t.1
    (λ z h. elim (f z (inr h)) [
      | inl e ↦ absurd (let P : A → Type 0 = λ w. R x w in
          let r : R x x = subst P (e ∙ sym same) (s.0 z h) in asym x x r r)
      | inr k ↦ k
    ])
    (λ z h. elim (g z (inr h)) [
      | inl e ↦ absurd (let P : A → Type 0 = λ w. R y w in
          let r : R y y = subst P (e ∙ same) (t.0 z h) in asym y y r r)
      | inr k ↦ k
    ]) in
    ap (λ w. w ∷ xs) same ∙ ap (λ zs. y ∷ zs) rest

pub not_below_both : (x y : ℕ) → IsBelow x y → IsBelow y x → ⊥
not_below_both x y h k = omega arith

pub same_set : (xs ys : List ℕ) → IsSet xs → IsSet ys → IsSubset xs ys → IsSubset ys xs → xs ≡ ys
same_set xs ys s t f g = same_members IsBelow not_below_both xs ys s t f g

pub not_before_both : (xs ys : List ℕ) → IsBefore xs ys → IsBefore ys xs → ⊥
not_before_both [] ys h k = elim k [ ]
not_before_both (x ∷ xs) [] h k = elim h [ ]
not_before_both (x ∷ xs) (y ∷ ys) (inl h) (inl k) = omega arith
not_before_both (x ∷ xs) (y ∷ ys) (inl h) (inr k) = let e = k.0 in omega arith
not_before_both (x ∷ xs) (y ∷ ys) (inr h) (inl k) = let e = h.0 in omega arith
not_before_both (x ∷ xs) (y ∷ ys) (inr h) (inr k) = not_before_both xs ys h.1 k.1

pub in_numbers : (n x : ℕ) → x < n → IsIn x (numbers n)
in_numbers zero x h = absurd (omega arith)
in_numbers (suc n) x h = elim (lt_or_same x n h) [
  | inl l ↦ in_left x (numbers n) (n ∷ [])
      (in_numbers n x l)
  | inr e ↦ in_right x (numbers n) (n ∷ []) (inl e)
]
  where
    lt_or_same : (x n : ℕ) → x < suc n → (x < n) ⊎ (x ≡ n)
    lt_or_same x n h = elim (cases_lt x n) [ inl l ↦ inl l | inr g ↦ inr (omega arith) ]

pub from_numbers : (n x : ℕ) → IsIn x (numbers n) → x < n
from_numbers zero x h = elim h [ ]
from_numbers (suc n) x h = elim (in_append x (numbers n) (n ∷ []) h) [
  | inl k ↦ (let l = from_numbers n x k in omega arith)
  | inr k ↦ elim k [ inl e ↦ omega arith | inr b ↦ absurd b ]
]

pub ascending_append : {A : Type 0} (R : A → A → Type 0) (xs ys : List A) → IsAscending R xs →
    IsAscending R ys → ((x y : A) → IsIn x xs → IsIn y ys → R x y) → IsAscending R (xs ++ ys)
ascending_append R [] ys s t h = t
ascending_append R (x ∷ xs) ys s t h = (
  (λ z k. elim (in_append z xs ys k) [ inl a ↦ s.0 z a | inr b ↦ h x z (inl refl) b ]),
  ascending_append R xs ys s.1 t (λ a b p q. h a b (inr p) q),
)

pub numbers_ascending : (n : ℕ) → IsSet (numbers n)
numbers_ascending zero = tt
numbers_ascending (suc n) =
    ascending_append IsBelow (numbers n) (n ∷ []) (numbers_ascending n) ((λ y b. absurd b), tt)
    (λ x y h k. elim k [ inl e ↦ (let l = from_numbers n x h in omega arith) | inr b ↦ absurd b ])

pub filter_push : {A : Type 0} (t : A → Bool) (xs : List A) (x : A) → t x ≡ true → filter t (xs ++ x ∷ [])
    ≡ filter t xs ++ x ∷ []
filter_push t [] x e = filter_taken t x [] e
filter_push t (y ∷ xs) x e = let r = filter_push t xs x e in elim (bool_cases (t y)) [
  | inl a ↦ filter_taken t y (xs ++ x ∷ []) a ∙ ap (λ l. y ∷ l) r
      ∙ sym (ap (λ l. l ++ x ∷ []) (filter_taken t y xs a))
  | inr a ↦ filter_left t y (xs ++ x ∷ []) a ∙ r ∙ sym (ap (λ l. l ++ x ∷ []) (filter_left t y xs a))
]

pub filter_skip : {A : Type 0} (t : A → Bool) (xs : List A) (x : A) → t x ≡ false → filter t (xs ++ x ∷ [])
    ≡ filter t xs
filter_skip t [] x e = filter_left t x [] e
filter_skip t (y ∷ xs) x e = let r = filter_skip t xs x e in elim (bool_cases (t y)) [
  | inl a ↦ filter_taken t y (xs ++ x ∷ []) a ∙ ap (λ l. y ∷ l) r ∙ sym (filter_taken t y xs a)
  | inr a ↦ filter_left t y (xs ++ x ∷ []) a ∙ r ∙ sym (filter_left t y xs a)
]

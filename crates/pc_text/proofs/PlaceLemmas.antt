-- The left sides over n generators: each once, and all of them.
use Rattle.std.proofs.Common.{◌≡◌, ◌≢◌, ℕ, zero, suc, ◌+◌, ◌-◌, ◌*◌, ◌<◌, ◌≤◌, ◌||◌, Bool, true, false, eqb}
use Rattle.std.proofs.Common.{List, [], ◌∷◌, ◌++◌, map, All, ◌⊎◌, inl, inr, refl, ap, ◌∙◌, arith, eq-eqb}
use Rattle.std.specs.Prelude.{flat_map}
use Rattle.std.specs.List.{list_any}
use Rattle.std.proofs.lemmas.Bool.Decides.{nat_tests}
use Rattle.std.proofs.lemmas.List.Elements.{All-nil, All-cons, All-append}
use Rattle.std.proofs.lemmas.List.Folds.{list_any-append}
use Rattle.limits.specs.declared.TheConstants.{MOST_GENERATORS}
use Rattle.power_commutator.specs.Presentations.{range}
use Rattle.power_commutator.proofs.Cyclic.{less-or}
use Rattle.pc_text.specs.declared.place.Place.{Place}
use Rattle.pc_text.specs.declared.place.Place.TheVariants.{Power, Commutator}
use Rattle.pc_text.specs.Relations.{Relation, same_place, stands}
use Rattle.pc_text.specs.Canonical.{row_places, places}
use Rattle.pc_text.specs.Rules.{IsPlace, AreNew}
use Rattle.pc_text.proofs.Steps.{and_parts}

-- equal left sides

same_numbers : (a b : ℕ) → eqb a b ≡ true → a ≡ b
same_numbers a b h = grind (arith, nat_tests)

pub same_is : (q r : Place) → same_place q r ≡ true → q ≡ r
same_is (Power i) (Power k) h = ap (λ n. Power n) (same_numbers i k h)
same_is (Power i) (Commutator m k) h = absurd (let e : false ≡ true = h in cc)
same_is (Commutator j i) (Power k) h = absurd (let e : false ≡ true = h in cc)
same_is (Commutator j i) (Commutator m k) h =
    let parts = and_parts (eqb j m) (eqb i k) h in
    let first = same_numbers j m parts.0 in
    let second = same_numbers i k parts.1 in
    cc

-- the left sides by numbers that ascend

abbrev pub place_number : Place → ℕ
place_number (Power i) = i
place_number (Commutator j i) = suc MOST_GENERATORS * j + i

other_number : (q r : Place) → place_number q ≢ place_number r → (b : Bool) → same_place q r ≡ b
    → same_place q r ≡ false
other_number q r ne true e = absurd (ne (ap place_number (same_is q r e)))
other_number q r ne false e = e

abbrev pub Ascend : ℕ → List Place → Type 0
Ascend b [] = Unit {0}
Ascend b (q ∷ qs) = (b < place_number q) × Ascend (place_number q) qs

pub ascend_from : (a b : ℕ) (qs : List Place) → a ≤ b → Ascend b qs → Ascend a qs
ascend_from a b [] le h = tt
ascend_from a b (q ∷ qs) le h = (let lt = h.0 in omega arith, h.1)

ascend_append : (b c : ℕ) (xs ys : List Place) → b ≤ c → Ascend b xs → All (λ q. place_number q ≤ c) xs
    → Ascend c ys → Ascend b (xs ++ ys)
ascend_append b c [] ys le first low second = ascend_from b c ys le second
ascend_append b c (q ∷ xs) ys le first low second = (
  first.0,
  ascend_append (place_number q) c xs ys (low 0 q (omega arith)) first.1
      (λ i d lt. low (suc i) d (omega arith)) second,
)

all_range : {X : Type 0} (P : X → Type 0) (f : ℕ → X) (j m : ℕ) → ((k : ℕ) → j ≤ k → k < j + m → P (f k))
    → All P (map f (range j m))
all_range P f j zero h = All-nil P
all_range P f j (suc m) h = All-cons P (f j) (map f (range (suc j) m)) (h j (omega arith) (omega arith))
    (all_range P f (suc j) m (λ k low high. h k (omega arith) (omega arith)))

ascend_range : (f : ℕ → Place) (b j m : ℕ) → ((k : ℕ) → place_number (f k) ≡ b + k) → 0 < j
    → Ascend (b + (j - 1)) (map f (range j m))
ascend_range f b j zero h pos = tt
ascend_range f b j (suc m) h pos =
    let here = h j in
    let next : suc j - 1 ≡ j = omega arith in
    (omega (arith, here), rw here (rw next at (ascend_range f b (suc j) m h (omega arith))))

ascend_rows : (j m : ℕ) → 0 < j → j + m ≤ suc MOST_GENERATORS
    → Ascend (suc MOST_GENERATORS * j) (flat_map row_places (range j m))
ascend_rows j zero pos le = tt
ascend_rows j (suc m) pos le =
    ascend_append (suc MOST_GENERATORS * j) (suc MOST_GENERATORS * suc j) (row_places j)
    (flat_map row_places (range (suc j) m)) (omega arith)
    (let z : suc MOST_GENERATORS * j + (1 - 1) ≡ suc MOST_GENERATORS * j = omega arith in rw z at
    (ascend_range (λ i. Commutator j i) (suc MOST_GENERATORS * j) 1 (j - 1) (λ k. refl) (omega arith)))
    (all_range (λ q. place_number q ≤ suc MOST_GENERATORS * suc j) (λ i. Commutator j i) 1 (j - 1)
    (λ k low high. omega arith))
    (ascend_rows (suc j) m (omega arith) (omega arith))

pub places_ascend : (n : ℕ) → n ≤ MOST_GENERATORS → Ascend 0 (places n)
places_ascend n few =
    ascend_append 0 MOST_GENERATORS (map (λ i. Power i) (range 1 n)) (flat_map row_places (range 1 n))
    (omega arith)
    (ascend_range (λ i. Power i) 0 1 n (λ k. omega arith) (omega arith))
    (all_range (λ q. place_number q ≤ MOST_GENERATORS) (λ i. Power i) 1 n (λ k low high. omega arith))
    (ascend_from MOST_GENERATORS (suc MOST_GENERATORS) (flat_map row_places (range 1 n)) (omega arith)
    (ascend_rows 1 n (omega arith) (omega arith)))

-- relations with ascending left sides are new, one after another

abbrev pub AscendRelations : ℕ → List Relation → Type 0
AscendRelations b [] = Unit {0}
AscendRelations b (r ∷ rs) = (b < place_number r.place) × AscendRelations (place_number r.place) rs

not_among : (q : Place) (earlier : List Relation) → All (λ r. place_number r.place < place_number q) earlier
    → stands q earlier ≡ false
not_among q [] low = refl
not_among q (r ∷ earlier) low =
    let lt : place_number r.place < place_number q = low 0 r (omega arith) in
    rw (
      other_number q r.place (omega arith) (same_place q r.place) refl,
      not_among q earlier (λ i d lt. low (suc i) d (omega arith)),
    ) refl

lower : (a b : ℕ) (rs : List Relation) → a ≤ b → All (λ r. place_number r.place ≤ a) rs
    → All (λ r. place_number r.place ≤ b) rs
lower a b rs le all i d lt = let here = all i d lt in omega (arith, here)

pub ascending_new : (b : ℕ) (earlier rs : List Relation) → All (λ r. place_number r.place ≤ b) earlier
    → AscendRelations b rs → AreNew earlier rs
ascending_new b earlier [] low h = tt
ascending_new b earlier (r ∷ rs) low h =
    let lt = h.0 in (
      not_among r.place earlier (λ i d within. let here = low i d within in omega (arith, here, lt)),
      ascending_new (place_number r.place) (earlier ++ r ∷ []) rs
          (All-append (λ s. place_number s.place ≤ place_number r.place) earlier (r ∷ [])
          (lower b (place_number r.place) earlier (omega (arith, lt)) low)
          (All-cons (λ s. place_number s.place ≤ place_number r.place) r [] (omega arith)
          (All-nil (λ s. place_number s.place ≤ place_number r.place))))
          h.1,
    )

-- they are left sides over n generators, and each left side is among them

all_rows : (n j m : ℕ) → 0 < j → j + m ≤ suc n → All (IsPlace n) (flat_map row_places (range j m))
all_rows n j zero pos le = All-nil (IsPlace n)
all_rows n j (suc m) pos le =
    All-append (IsPlace n) (row_places j) (flat_map row_places (range (suc j) m))
    (all_range (IsPlace n) (λ i. Commutator j i) 1 (j - 1)
    (λ k low high. (omega arith, omega arith, omega arith)))
    (all_rows n (suc j) m (omega arith) (omega arith))

pub places_are : (n : ℕ) → All (IsPlace n) (places n)
places_are n =
    All-append (IsPlace n) (map (λ i. Power i) (range 1 n)) (flat_map row_places (range 1 n))
    (all_range (IsPlace n) (λ i. Power i) 1 n (λ k low high. (omega arith, omega arith)))
    (all_rows n 1 n (omega arith) (omega arith))

or_true : (a b : Bool) → b ≡ true → (a || b) ≡ true
or_true true b h = refl
or_true false b h = h

any_range : {X : Type 0} (t : X → Bool) (f : ℕ → X) (j m k : ℕ) → j ≤ k → k < j + m → t (f k) ≡ true
    → list_any t (map f (range j m)) ≡ true
any_range t f j zero k low high h = absurd (omega arith)
any_range t f j (suc m) k low high h = at (less-or j k) (λ lt. any_range t f (suc j) m k lt (omega arith) h)
  where
    at : (j < k) ⊎ (k ≤ j) → (j < k → list_any t (map f (range (suc j) m)) ≡ true)
        → list_any t (map f (range j (suc m))) ≡ true
    at (inl lt) more = or_true (t (f j)) (list_any t (map f (range (suc j) m))) (more lt)
    at (inr le) more = let e : k ≡ j = omega arith in let here : t (f j) ≡ true = rw e at h in rw here refl

same_self : (place : Place) → same_place place place ≡ true
same_self (Power i) = eq-eqb i i refl
same_self (Commutator j i) = grind (arith, nat_tests)

or_left : (a b : Bool) → a ≡ true → (a || b) ≡ true
or_left a b h = rw h refl

any_row : (t : Place → Bool) (j m k : ℕ) → j ≤ k → k < j + m → list_any t (row_places k) ≡ true
    → list_any t (flat_map row_places (range j m)) ≡ true
any_row t j zero k low high h = absurd (omega arith)
any_row t j (suc m) k low high h = at (less-or j k) (λ lt. any_row t (suc j) m k lt (omega arith) h)
  where
    at : (j < k) ⊎ (k ≤ j) → (j < k → list_any t (flat_map row_places (range (suc j) m)) ≡ true)
        → list_any t (flat_map row_places (range j (suc m))) ≡ true
    at (inl lt) more = list_any-append t (row_places j) (flat_map row_places (range (suc j) m))
        ∙ or_true (list_any t (row_places j)) (list_any t (flat_map row_places (range (suc j) m))) (more lt)
    at (inr le) more =
        let e : k ≡ j = omega arith in
        list_any-append t (row_places j) (flat_map row_places (range (suc j) m))
        ∙ or_left (list_any t (row_places j)) (list_any t (flat_map row_places (range (suc j) m)))
        (rw e at h)

pub is_among : (n : ℕ) (q : Place) → IsPlace n q → list_any (same_place q) (places n) ≡ true
is_among n (Power i) is =
    let pos = is.0 in
    let le = is.1 in
    list_any-append (same_place (Power i)) (map (λ i. Power i) (range 1 n)) (flat_map row_places (range 1 n))
    ∙ or_left (list_any (same_place (Power i)) (map (λ i. Power i) (range 1 n)))
    (list_any (same_place (Power i)) (flat_map row_places (range 1 n)))
    (any_range (same_place (Power i)) (λ i. Power i) 1 n i pos (omega arith) (same_self (Power i)))
is_among n (Commutator j i) is =
    let pos = is.0 in
    let lt = is.1 in
    let le = is.2 in
    list_any-append (same_place (Commutator j i)) (map (λ i. Power i) (range 1 n))
    (flat_map row_places (range 1 n))
    ∙ or_true (list_any (same_place (Commutator j i)) (map (λ i. Power i) (range 1 n)))
    (list_any (same_place (Commutator j i)) (flat_map row_places (range 1 n)))
    (any_row (same_place (Commutator j i)) 1 n j (omega arith) (omega arith)
    (any_range (same_place (Commutator j i)) (λ i. Commutator j i) 1 (j - 1) i pos (omega arith)
    (same_self (Commutator j i))))

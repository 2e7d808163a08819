-- One more relation sets one word of the presentation.
use Rattle.std.proofs.Common.{◌≡◌, ◌≢◌, ℕ, zero, suc, ◌+◌, ◌-◌, ◌<◌, ◌≤◌, ◌||◌, Bool, true, false, cond, List}
use Rattle.std.proofs.Common.{[], ◌∷◌, ◌++◌, map, set, get_or, replicate, ◌⊎◌, inl, inr, refl, sym, ap, ◌∙◌}
use Rattle.std.proofs.Common.{arith, eq-eqb}
use Rattle.std.proofs.lemmas.Bool.Decides.{nat_tests}
use Rattle.power_commutator.specs.Presentations.{identity, range}
use Rattle.power_commutator.proofs.Cyclic.{less-or}
use Rattle.pc_group.specs.Parts.{elementary_abelian}
use Rattle.pc_group.proofs.MadeParts.{identity-replicate}
use Rattle.pc_text.specs.declared.place.Place.{Place}
use Rattle.pc_text.specs.declared.place.Place.TheVariants.{Power, Commutator}
use Rattle.pc_text.specs.Relations.{Relation, same_place, stands}
use Rattle.pc_text.specs.FromRelations.{word_given, powers_given, commutators_given, with_relations}
use Rattle.pc_text.specs.Rules.{IsPlace}
use Rattle.pc_text.specs.Views.{with_relation}

-- lists over a range

pub map_same : {X : Type 0} (f g : ℕ → X) (j m : ℕ) → ((k : ℕ) → j ≤ k → k < j + m → g k ≡ f k)
    → map f (range j m) ≡ map g (range j m)
map_same f g j zero same = refl
map_same f g j (suc m) same =
    let first : g j ≡ f j = same j (omega arith) (omega arith) in
    rw first (ap (λ xs. f j ∷ xs) (map_same f g (suc j) m (λ k low high. same k (omega arith) (omega arith))))

set_suc : {X : Type 0} (x y : X) (xs : List X) (j k : ℕ) → j < k
    → set (x ∷ xs) (k - j) y ≡ x ∷ set xs (k - suc j) y
set_suc x y xs j k lt = let e : k - j ≡ suc (k - suc j) = omega arith in rw e refl

-- the list of g where the list of f has g k at the place of k, and both agree elsewhere
pub map_set : {X : Type 0} (f g : ℕ → X) (j m k : ℕ) → j ≤ k → k < j + m
    → ((i : ℕ) → j ≤ i → i < j + m → i ≢ k → g i ≡ f i)
    → set (map f (range j m)) (k - j) (g k) ≡ map g (range j m)
map_set f g j zero k low high same = absurd (omega arith)
map_set f g j (suc m) k low high same = at (less-or j k)
    (λ lt. map_set f g (suc j) m k lt (omega arith) (λ i a b c. same i (omega arith) (omega arith) c))
  where
    at : (j < k) ⊎ (k ≤ j) → (j < k → set (map f (range (suc j) m)) (k - suc j) (g k) ≡ map g
        (range (suc j) m)) → set (map f (range j (suc m))) (k - j) (g k) ≡ map g (range j (suc m))
    at (inl lt) more =
        let first : g j ≡ f j = same j (omega arith) (omega arith) (omega arith) in
        set_suc (f j) (g k) (map f (range (suc j) m)) j k lt
        ∙ rw first (ap (λ xs. f j ∷ xs) (more lt))
    at (inr le) more =
        let e : k ≡ j = omega arith in
        let z : j - j ≡ 0 = omega arith in
        rw (e, z) (ap (λ xs. g j ∷ xs) (map_same f g (suc j) m
        (λ i a b. same i (omega arith) (omega arith) (omega arith))))

pub get_range : {X : Type 0} (f : ℕ → X) (d : X) (j m k : ℕ) → j ≤ k → k < j + m
    → get_or (map f (range j m)) (k - j) d ≡ f k
get_range f d j zero k low high = absurd (omega arith)
get_range f d j (suc m) k low high = at (less-or j k) (λ lt. get_range f d (suc j) m k lt (omega arith))
  where
    at : (j < k) ⊎ (k ≤ j) → (j < k → get_or (map f (range (suc j) m)) (k - suc j) d ≡ f k)
        → get_or (map f (range j (suc m))) (k - j) d ≡ f k
    at (inl lt) more = let e : k - j ≡ suc (k - suc j) = omega arith in rw e (more lt)
    at (inr le) more = let e : k ≡ j = omega arith in let z : j - j ≡ 0 = omega arith in rw (e, z) refl

-- the word of a left side with one more relation

same_self : (place : Place) → same_place place place ≡ true
same_self (Power i) = eq-eqb i i refl
same_self (Commutator j i) = grind (arith, nat_tests)

given_cond : (b : Bool) (w : List ℕ) (x y : List ℕ) → (b ≡ false → x ≡ y) → cond b w x ≡ cond b w y
given_cond true w x y e = refl
given_cond false w x y e = e refl

pub given_other : (n : ℕ) (earlier : List Relation) (r : Relation) (place : Place)
    → same_place place r.place ≡ false → word_given n (earlier ++ r ∷ []) place ≡ word_given n earlier place
given_other n [] r place other = rw other refl
given_other n (s ∷ earlier) r place other =
    given_cond (same_place place s.place) s.word _ _ (λ _. given_other n earlier r place other)

neither : (a b : Bool) → (a || b) ≡ false → (a ≡ false) × (b ≡ false)
neither true b h = absurd (let e : true ≡ false = h in cc)
neither false b h = (refl, h)

given_at : (n : ℕ) (earlier : List Relation) (r : Relation) (place : Place) → r.place ≡ place
    → stands place earlier ≡ false → word_given n (earlier ++ r ∷ []) place ≡ r.word
given_at n [] r place is new = rw (is, same_self place) refl
given_at n (s ∷ earlier) r place is new =
    let parts = neither (same_place place s.place) (stands place earlier) new in
    rw parts.0 (given_at n earlier r place is parts.1)

pub given_new : (n : ℕ) (earlier : List Relation) (r : Relation) → stands r.place earlier ≡ false
    → word_given n (earlier ++ r ∷ []) r.place ≡ r.word
given_new n earlier r new = given_at n earlier r r.place refl new

other_power : (i k : ℕ) → k ≢ i → same_place (Power k) (Power i) ≡ false
other_power i k ne = grind (arith, nat_tests)

other_row : (j i m k : ℕ) → m ≢ j → same_place (Commutator m k) (Commutator j i) ≡ false
other_row j i m k ne = grind (arith, nat_tests)

other_column : (j i m k : ℕ) → k ≢ i → same_place (Commutator m k) (Commutator j i) ≡ false
other_column j i m k ne = grind (arith, nat_tests)

-- one more relation with a new left side sets its word

abbrev by : Place → List ℕ → Relation
by place w = record { place = place; word = w }

powers_still : (n : ℕ) (earlier : List Relation) (j i : ℕ) (w : List ℕ)
    → powers_given n earlier ≡ powers_given n (earlier ++ by (Commutator j i) w ∷ [])
powers_still n earlier j i w = map_same _ _ 1 n
    (λ k low high. given_other n earlier (by (Commutator j i) w) (Power k) refl)

rows_still : (n : ℕ) (earlier : List Relation) (i : ℕ) (w : List ℕ)
    → map (commutators_given n earlier) (range 1 n) ≡ map
    (commutators_given n (earlier ++ by (Power i) w ∷ [])) (range 1 n)
rows_still n earlier i w =
    map_same _ _ 1 n (λ m low high. sym (map_same _ _ 1 (m - 1)
    (λ k a b. given_other n earlier (by (Power i) w) (Commutator m k) refl)))

powers_set : (n : ℕ) (earlier : List Relation) (i : ℕ) (w : List ℕ) → 0 < i → i ≤ n
    → stands (Power i) earlier ≡ false
    → set (powers_given n earlier) (i - 1) w ≡ powers_given n (earlier ++ by (Power i) w ∷ [])
powers_set n earlier i w pos le new =
    ap (set (powers_given n earlier) (i - 1)) (sym (given_new n earlier (by (Power i) w) new))
    ∙ map_set (λ k. word_given n earlier (Power k))
    (λ k. word_given n (earlier ++ by (Power i) w ∷ []) (Power k)) 1 n i pos (omega arith)
    (λ k low high ne. given_other n earlier (by (Power i) w) (Power k) (other_power i k ne))

row_set : (n : ℕ) (earlier : List Relation) (j i : ℕ) (w : List ℕ) → 0 < i → i < j → j ≤ n
    → stands (Commutator j i) earlier ≡ false
    → set (commutators_given n earlier j) (i - 1) w ≡ commutators_given n
    (earlier ++ by (Commutator j i) w ∷ []) j
row_set n earlier j i w pos lt le new =
    ap (set (commutators_given n earlier j) (i - 1)) (sym (given_new n earlier (by (Commutator j i) w) new))
    ∙ map_set (λ k. word_given n earlier (Commutator j k))
    (λ k. word_given n (earlier ++ by (Commutator j i) w ∷ []) (Commutator j k)) 1 (j - 1) i pos
    (omega arith)
    (λ k low high ne. given_other n earlier (by (Commutator j i) w) (Commutator j k)
    (other_column j i j k ne))

rows_set : (n : ℕ) (earlier : List Relation) (j i : ℕ) (w : List ℕ) → 0 < i → i < j → j ≤ n
    → stands (Commutator j i) earlier ≡ false
    → set (map (commutators_given n earlier) (range 1 n)) (j - 1)
    (set (get_or (map (commutators_given n earlier) (range 1 n)) (j - 1) []) (i - 1) w)
    ≡ map (commutators_given n (earlier ++ by (Commutator j i) w ∷ [])) (range 1 n)
rows_set n earlier j i w pos lt le new =
    ap (λ row. set (map (commutators_given n earlier) (range 1 n)) (j - 1) (set row (i - 1) w))
    (get_range (commutators_given n earlier) [] 1 n j (omega arith) (omega arith))
    ∙ ap (set (map (commutators_given n earlier) (range 1 n)) (j - 1)) (row_set n earlier j i w pos lt le new)
    ∙ map_set (commutators_given n earlier)
    (commutators_given n (earlier ++ by (Commutator j i) w ∷ [])) 1 n j (omega arith) (omega arith)
    (λ m low high ne. sym (map_same _ _ 1 (m - 1)
    (λ k a b. given_other n earlier (by (Commutator j i) w) (Commutator m k) (other_row j i m k ne))))

set_by : (p n : ℕ) (earlier : List Relation) (place : Place) (w : List ℕ) → IsPlace n place
    → stands place earlier ≡ false
    → with_relation (with_relations p n earlier) (by place w) ≡ with_relations p n
    (earlier ++ by place w ∷ [])
set_by p n earlier (Power i) w is new = rw (
  powers_set n earlier i w is.0 is.1 new,
  rows_still n earlier i w,
) refl
set_by p n earlier (Commutator j i) w is new =
    rw (rows_set n earlier j i w is.0 is.1 is.2 new, powers_still n earlier j i w) refl

pub one_more : (p n : ℕ) (earlier : List Relation) (r : Relation) → IsPlace n r.place
    → stands r.place earlier ≡ false
    → with_relation (with_relations p n earlier) r ≡ with_relations p n (earlier ++ r ∷ [])
one_more p n earlier r is new = set_by p n earlier r.place r.word is new

-- with no relation all words are empty

copies : {X : Type 0} (x : X) (j m : ℕ) → replicate m x ≡ map (λ k. x) (range j m)
copies x j zero = refl
copies x j (suc m) = ap (λ xs. x ∷ xs) (copies x (suc j) m)

shifted : {X : Type 0} (f : ℕ → X) (j m : ℕ) → map f (range j m) ≡ map (λ k. f (k - 1)) (range (suc j) m)
shifted f j zero = refl
shifted f j (suc m) = let e : suc j - 1 ≡ j = omega arith in rw e (ap (λ xs. f j ∷ xs) (shifted f (suc j) m))

pub no_relations : (p n : ℕ) → elementary_abelian p n ≡ with_relations p n []
no_relations p n =
    let powers : replicate n (identity n) ≡ powers_given n [] = ap (replicate n) (sym (identity-replicate n))
    ∙ copies (replicate n 0) 1 n in
    let rows : map (λ i. replicate i (identity n)) (range 0 n) ≡ map (commutators_given n []) (range 1 n) =
    shifted (λ i. replicate i (identity n)) 0 n
    ∙ map_same (λ j. replicate (j - 1) (identity n)) (commutators_given n []) 1 n
    (λ j low high. sym (ap (replicate (j - 1)) (sym (identity-replicate n))
    ∙ copies (replicate n 0) 1 (j - 1))) in
    rw (powers, rows) refl

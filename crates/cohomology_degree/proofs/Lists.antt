-- Lists of numbers and of lifts.
use Rattle.std.proofs.Common.{◌≡◌, ℕ, zero, suc, ◌+◌, ◌<◌, ◌≤◌, List, [], ◌∷◌, ◌++◌, length, take, map, arith}
use Rattle.std.proofs.Common.{ap, sym, ◌∙◌, refl, length-take, append_assoc}
use Rattle.std.specs.Prelude.{slice_index, slice_index_or, slice_set, All}
use Rattle.std.proofs.lemmas.List.{get_or-take, length-map, take_more, map-append}
use Rattle.gc_poly.specs.Generators.{AreOrdered}
use Rattle.chain_lift.specs.Values.{LiftValue}
use Rattle.cohomology_degree.specs.Degrees.{kept}

pub index-at : (ds : List ℕ) (i x : ℕ) → i < length ds → slice_index ds i ≡ slice_index_or ds i x
index-at [] i x l = absurd (omega (arith, l))
index-at (d ∷ ds) zero x l = refl
index-at (d ∷ ds) (suc i) x l = index-at ds i x (omega (arith, l))

-- the numbers before one of a list that does not descend are at most it
pub ordered-take : (ds es : List ℕ) (i d : ℕ) → es ≡ take i ds → i < length ds → d ≡ slice_index ds i
    → AreOrdered ds → All (λ e. e ≤ d) es
ordered-take ds es i d e l v o k x b =
    let m : k < i = (let t : length es ≡ length (take i ds) = ap length e in omega (
      arith,
      t,
      b,
      length-take i ds,
    )) in
    rw (e, get_or-take i ds k x m, v, index-at ds i x l) (o.order k i x m l)

-- lifts that are the same but for their heights
pub length-kept : (xs ys : List LiftValue) → map kept xs ≡ map kept ys → length xs ≡ length ys
length-kept xs ys e = sym (length-map xs kept) ∙ ap length e ∙ length-map ys kept

pub kept-at : (xs ys : List LiftValue) → map kept xs ≡ map kept ys → (k : ℕ) (d f : LiftValue) → k < length xs
    → kept (slice_index_or xs k d) ≡ kept (slice_index_or ys k f)
kept-at [] ys e k d f l = absurd (omega (arith, l))
kept-at (x ∷ xs) [] e k d f l = absurd cc
kept-at (x ∷ xs) (y ∷ ys) e zero d f l = cc
kept-at (x ∷ xs) (y ∷ ys) e (suc k) d f l = let t : map kept xs ≡ map kept ys = cc in
    kept-at xs ys t k d f (omega (arith, l))

pub kept-set : (xs : List LiftValue) (i : ℕ) (v d : LiftValue) → i < length xs
    → kept v ≡ kept (slice_index_or xs i d) → map kept (slice_set xs i v) ≡ map kept xs
kept-set [] i v d l e = refl
kept-set (x ∷ xs) zero v d l e = ap (λ k. k ∷ map kept xs) e
kept-set (x ∷ xs) (suc i) v d l e = ap (λ ks. kept x ∷ ks) (kept-set xs i v d (omega (arith, l)) e)

-- one more of the mapped members
pub map-more : {X Y : Type 0} (f : X → Y) (init old new : List Y) (xs : List X) (i : ℕ) (x : X)
    → i < length xs → slice_index_or xs i x ≡ x
    → old ≡ init ++ map f (take i xs) → new ≡ old ++ f x ∷ [] → new ≡ init ++ map f (take (i + 1) xs)
map-more f init old new xs i x l e eo en =
    en ∙ ap (λ ys. ys ++ f x ∷ []) eo ∙ append_assoc init (map f (take i xs)) (f x ∷ [])
    ∙ ap (λ ys. init ++ ys) (sym (ap (map f) (take_more xs i x l ∙ ap (λ y. take i xs ++ y ∷ []) e)
    ∙ map-append f (take i xs) (x ∷ [])))

-- How many places a greedy choice takes, and how many generators there are with those of a degree.
use Rattle.std.proofs.Common.{◌≡◌, ℕ, zero, suc, ◌+◌, ◌*◌, ◌^◌, ◌<◌, ◌≤◌, inl, inr, List, [], ◌∷◌, ◌++◌, map}
use Rattle.std.proofs.Common.{take, length}
use Rattle.std.proofs.Common.{length-append, length-take, append_assoc, arith, ap, ◌∙◌}
use Rattle.std.proofs.lemmas.List.{length-map, length_push}
use Rattle.limits.specs.declared.TheConstants.{GREATEST_DEGREE}
use Rattle.linear_algebra.specs.Choices.{IsGreedyBelow}
use Rattle.gc_poly.specs.Generators.{Generators}
use Rattle.chain_lift.specs.Values.{LiftValue}
use Rattle.graded_polynomials.specs.Texts.{power}
use Rattle.cohomology_degree.specs.Degrees.{degrees_of}
use Rattle.cohomology_degree.specs.KnownTables.{generators_from}

pub greedy-length : (p : ℕ) (s t : List (List ℕ)) (n : ℕ) (places : List ℕ) → IsGreedyBelow p s t n places
    → length places ≤ n
greedy-length p s t zero places h = let e = ap length h in omega (arith, e)
greedy-length p s t (suc n) places (inl h) = let l = greedy-length p s t n places h.0 in omega (arith, l)
greedy-length p s t (suc n) places (inr h) =
    let l = greedy-length p s t n h.0 h.1 in
    let e = ap length h.3 in
    let k = length_push h.0 n in
    omega (arith, l, e, k)

pub generators-few : (lifts new : List LiftValue) (f : ℕ
    → LiftValue) (places : List ℕ) (g : Generators) (p i degrees : ℕ) → length lifts ≤ degrees * 2 ^ 27
    → degrees < GREATEST_DEGREE
    → i < length places → length places ≤ 2 ^ 27 → new ≡ map f (take i places)
    → g ≡ record { prime = p; degrees = degrees_of (lifts ++ new) } → length g.degrees < 4294967295
generators-few lifts new f places g p i degrees few high here count e eg =
    let a = ap (λ (g : Generators). length g.degrees) eg in
    let b = length-map (lifts ++ new) (λ (l : LiftValue). l.degree) in
    let c = length-append lifts new in
    let d = ap length e in
    let k = length-map (take i places) f in
    let t = length-take i places in
    omega (arith, a, b, c, d, k, t)

pub generators-count : (lifts new : List LiftValue) (f : ℕ → LiftValue) (places : List ℕ) (g : Generators)
    (p i : ℕ) → i < length places → new ≡ map f (take i places)
    → g ≡ record { prime = p; degrees = degrees_of (lifts ++ new) } → length g.degrees ≡ length lifts + i
generators-count lifts new f places g p i here e eg =
    let a = ap (λ (g : Generators). length g.degrees) eg in
    let b = length-map (lifts ++ new) (λ (l : LiftValue). l.degree) in
    let c = length-append lifts new in
    let d = ap length e in
    let k = length-map (take i places) f in
    let t = length-take i places in
    omega (arith, a, b, c, d, k, t, here)

-- one more generator's monomial
pub more-monomials : (init old new : List (List ℕ)) (k i : ℕ) → old ≡ init ++ generators_from k i
    → new ≡ old ++ power (k + i) 1 ∷ [] → new ≡ init ++ generators_from k (i + 1)
more-monomials init old new k i eo en = en ∙ ap (λ ms. ms ++ power (k + i) 1 ∷ []) eo
    ∙ append_assoc init (generators_from k i) (power (k + i) 1 ∷ [])
    ∙ ap (λ j. init ++ generators_from k j) (let z : suc i ≡ i + 1 = omega arith in z)

-- how many were placed at the end
pub all-placed : (new : List LiftValue) (f : ℕ → LiftValue) (places : List ℕ) (i : ℕ) → length places ≤ i
    → i ≤ length places → new ≡ map f (take i places) → i ≡ length new
all-placed new f places i l h e =
    let d = ap length e in
    let k = length-map (take i places) f in
    let t = length-take i places in
    omega (arith, d, k, t, l, h)

-- The order of the tests, and which is the first false one.
use Rattle.std.proofs.Common.{◌≡◌, ℕ, zero, suc, refl, sym, ◌∙◌, ap, ap₂, subst, ◌+◌, ◌-◌, ◌<◌, ◌≤◌, arith}
use Rattle.std.proofs.Common.{Bool, true, false, if◌then◌else◌, List, [], ◌∷◌, ◌++◌, map, Some, None, ◌⊎◌}
use Rattle.std.proofs.Common.{inl, inr}
use Rattle.power_commutator.specs.declared.TestName.{TestName}
use Rattle.power_commutator.specs.Presentations.{Presentation, Equation, power_test, swap_test, fixed_test}
use Rattle.power_commutator.specs.Presentations.{twist_test, equations, range, pairs, same, first_false}
use Rattle.power_commutator.specs.Steps.{or_else}
pub use Rattle.power_commutator.specs.Order.{row}
use Rattle.power_commutator.proofs.Tuples.{Among}
use Rattle.power_commutator.proofs.Cyclic.{less-or}

pub first-append : (es fs : List Equation)
    → first_false (es ++ fs) ≡ or_else (first_false es) (first_false fs)
first-append [] fs = refl
first-append (e ∷ es) fs = go (same e.left e.right) (first-append es fs)
  where
    go : (b : Bool) → first_false (es ++ fs) ≡ or_else (first_false es) (first_false fs)
        → (if b then (first_false (es ++ fs)) else (Some e.name)) ≡ or_else
        (if b then (first_false es) else (Some e.name)) (first_false fs)
    go true ih = ih
    go false ih = refl

-- the tests of a layer, part by part
pub first-layer : (P : Presentation) (mul : List ℕ → List ℕ → List ℕ) (i m : ℕ)
    → first_false (equations P mul i m)
    ≡ or_else (first_false (map (power_test P mul i m) (range (suc i) m)))
    (or_else (first_false (pairs (swap_test P mul i m) (suc i) m))
    (or_else (first_false (fixed_test P mul i m ∷ []))
    (first_false (map (twist_test P mul i m) (range (suc i) m)))))
first-layer P mul i m =
    first-append (map (power_test P mul i m) (range (suc i) m))
    (pairs (swap_test P mul i m) (suc i) m ++ last)
    ∙ ap (or_else (first_false (map (power_test P mul i m) (range (suc i) m))))
    (first-append (pairs (swap_test P mul i m) (suc i) m) last
    ∙ ap (or_else (first_false (pairs (swap_test P mul i m) (suc i) m)))
    (first-append (fixed_test P mul i m ∷ []) (map (twist_test P mul i m) (range (suc i) m))))
  where
    last : List Equation
    last = fixed_test P mul i m ∷ map (twist_test P mul i m) (range (suc i) m)

abbrev pub Passes : Equation → Bool → Type 0
Passes e b = same e.left e.right ≡ b

pub none-step : (e : Equation) (es : List Equation) → Passes e true → first_false (e ∷ es) ≡ first_false es
none-step e es h = ap (λ b. if b then (first_false es) else (Some e.name)) h

pub some-step : (e : Equation) (es : List Equation) → Passes e false → first_false (e ∷ es) ≡ Some e.name
some-step e es h = ap (λ b. if b then (first_false es) else (Some e.name)) h

pub none-range : (f : ℕ → Equation) (j m : ℕ) → ((k : ℕ) → Among j m k → Passes (f k) true)
    → first_false (map f (range j m)) ≡ None
none-range f j zero h = refl
none-range f j (suc m) h =
    none-step (f j) (map f (range (suc j) m)) (h j (omega arith, omega arith))
    ∙ none-range f (suc j) m (λ k a. h k (let b = a.0 in omega (arith, b), let b = a.1 in omega (arith, b)))

pub some-range : (f : ℕ → Equation) (j m k : ℕ) → Among j m k → ((l : ℕ) → j ≤ l → l < k → Passes (f l) true)
    → Passes (f k) false
    → first_false (map f (range j m)) ≡ Some (f k).name
some-range f j zero k a h s = absurd (let b = a.0 in let c = a.1 in omega (arith, b, c))
some-range f j (suc m) k a h s = go (less-or j k) (some-range f (suc j) m k)
  where
    go : (j < k) ⊎ (k ≤ j) → (Among (suc j) m k → ((l : ℕ) → suc j ≤ l → l < k → Passes (f l) true)
        → Passes (f k) false → first_false (map f (range (suc j) m)) ≡ Some (f k).name)
        → first_false (map f (range j (suc m))) ≡ Some (f k).name
    go (inl l) ih =
        none-step (f j) (map f (range (suc j) m)) (h j (omega arith) l)
        ∙ ih (l, let c = a.1 in omega (arith, c)) (λ t u. h t (let u' : suc j ≤ t = u in omega (arith, u'))) s
    go (inr l) ih =
        let e : j ≡ k = let b = a.0 in omega (arith, b, l) in
        subst (λ t. first_false (map f (range j (suc m))) ≡ Some (f t).name) e
        (some-step (f j) (map f (range (suc j) m)) (subst (λ t. Passes (f t) false) (sym e) s))

row-is : (f : ℕ → ℕ → Equation) (j m : ℕ) → row f (j + suc m) j ≡ map (f j) (range (suc j) m)
row-is f j m = ap (λ t. map (f j) (range (suc j) t)) (let e : j + suc m - suc j ≡ m = omega arith in e)

pub none-pairs : (f : ℕ → ℕ → Equation) (j m e : ℕ) → e ≡ j + m
    → ((a : ℕ) → Among j m a → first_false (row f e a) ≡ None) → first_false (pairs f j m) ≡ None
none-pairs f j zero e s h = refl
none-pairs f j (suc m) e s h =
    first-append (map (f j) (range (suc j) m)) (pairs f (suc j) m)
    ∙ ap₂ or_else
    (ap first_false (sym (ap (λ t. row f t j) s ∙ row-is f j m)) ∙ h j (omega arith, omega arith))
    (none-pairs f (suc j) m e (omega (arith, s))
    (λ a b. h a (let c = b.0 in omega (arith, c), let c = b.1 in omega (arith, c))))

pub some-pairs : (f : ℕ → ℕ → Equation) (j m e a : ℕ) (x : TestName) → e ≡ j + m → Among j m a
    → ((l : ℕ) → j ≤ l → l < a → first_false (row f e l) ≡ None) → first_false (row f e a) ≡ Some x
    → first_false (pairs f j m) ≡ Some x
some-pairs f j zero e a x s b h k = absurd (let c = b.0 in let d = b.1 in omega (arith, c, d))
some-pairs f j (suc m) e a x s b h k = go (less-or j a) (some-pairs f (suc j) m e a x (omega (arith, s)))
  where
    first : first_false (pairs f j (suc m)) ≡ or_else (first_false (row f e j))
        (first_false (pairs f (suc j) m))
    first =
        first-append (map (f j) (range (suc j) m)) (pairs f (suc j) m)
        ∙ ap (λ t. or_else (first_false t) (first_false (pairs f (suc j) m)))
        (sym (ap (λ t. row f t j) s ∙ row-is f j m))

    go : (j < a) ⊎ (a ≤ j) → (Among (suc j) m a
        → ((l : ℕ) → suc j ≤ l → l < a → first_false (row f e l) ≡ None) → first_false (row f e a) ≡ Some x
        → first_false (pairs f (suc j) m) ≡ Some x)
        → first_false (pairs f j (suc m)) ≡ Some x
    go (inl l) ih =
        first ∙ ap₂ or_else (h j (omega arith) l)
        (ih (l, let c = b.1 in omega (arith, c)) (λ t u. h t (let u' : suc j ≤ t = u in omega (arith, u'))) k)
    go (inr l) ih =
        first
        ∙ ap (λ t. or_else t (first_false (pairs f (suc j) m)))
        (ap (λ t. first_false (row f e t)) (let z : j ≡ a = let c = b.0 in omega (arith, c, l) in z) ∙ k)

-- The homotopy between two chain maps into a complex with a contraction (Brown, "Cohomology of Groups", I.7).
use Rattle.std.specs.Prelude.{ℕ, zero, suc, List}
use Rattle.group_modules.specs.Operations.{Ops, Term, linear}

-- the first complex by bases and the boundaries of their members, as formal sums; the second by the
-- operations of its modules, with differences and a contraction s; f and g by their values at the bases
module _ {E : Type 0} (basis : ℕ → Type 0) (boundary : (d : ℕ) → basis (suc d) → List (Term E (basis d)))
    (M : ℕ → Ops E) (minus : (d : ℕ) → (M d).of → (M d).of → (M d).of)
    (s : (d : ℕ) → (M d).of → (M (suc d)).of) (f g : (d : ℕ) → basis d → (M d).of) where
  -- what the homotopy h has to lift: f(x) - g(x) - h(boundary of x)
  abbrev pub rest : (d : ℕ) → basis d → (M d).of
  rest zero x = minus 0 (f 0 x) (g 0 x)
  rest (suc d) x =
      minus (suc d) (minus (suc d) (f (suc d) x) (g (suc d) x))
      (linear (M (suc d)) (λ y. s d (rest d y)) (boundary d x))

  -- h(x) = s(f(x) - g(x) - h(boundary of x))
  abbrev pub homotopy : (d : ℕ) → basis d → (M (suc d)).of
  homotopy d x = s d (rest d x)

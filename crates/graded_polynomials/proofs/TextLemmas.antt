-- Texts in pieces: a separator that stands in no piece splits a text in one way.
use Rattle.std.proofs.Common.{◌≡◌, ◌≢◌, ℕ, List, [], ◌∷◌, ◌++◌, ap, ap₂, sym, refl}
use Rattle.std.specs.Prelude.{codes}
use Rattle.std.specs.Fmt.{digits}
use Rattle.std.specs.List.{AllByRecursion as Each}
use Rattle.graded_polynomials.specs.Texts.{joined_by, polynomial_text}

sample : polynomial_text (1 ∷ 1 ∷ 2 ∷ [])
    (record { scalar = 2; monomial = 1 ∷ 1 ∷ [] } ∷ record { scalar = 1; monomial = 0 ∷ 0 ∷ 1 ∷ [] } ∷ [])
    ≡ codes "2*x_1_1*x_1_2+x_2_1"
unfolding digits
sample = refl

sample-power : polynomial_text (1 ∷ 1 ∷ 2 ∷ [])
    (record { scalar = 1; monomial = 2 ∷ [] } ∷ []) ≡ codes "x_1_1^2"
unfolding digits
sample-power = refl

head-equal : {x y : ℕ} {a b : List ℕ} → (x ∷ a) ≡ (y ∷ b) → x ≡ y
head-equal e = cc

tail-equal : {x y : ℕ} {a b : List ℕ} → (x ∷ a) ≡ (y ∷ b) → a ≡ b
tail-equal e = cc

abbrev Without : ℕ → List ℕ → Type 0
Without s p = Each (λ b. b ≢ s) p

-- the first piece is determined
split-once : (s : ℕ) (p r u v : List ℕ) → Without s p → Without s r → p ++ s ∷ u ≡ r ++ s ∷ v → (p ≡ r)
    × (u ≡ v)
split-once s [] [] u v h k e = (refl, tail-equal e)
split-once s [] (y ∷ r) u v h k e = absurd (k.0 (sym (head-equal e)))
split-once s (x ∷ p) [] u v h k e = absurd (h.0 (head-equal e))
split-once s (x ∷ p) (y ∷ r) u v h k e = let t = split-once s p r u v h.1 k.1 (tail-equal e) in
    (ap₂ (λ x p. x ∷ p) (head-equal e) t.0, t.1)

not-one : (s : ℕ) (p r v : List ℕ) → Without s p → p ≡ r ++ s ∷ v → ⊥
not-one s [] [] v h e = cc
not-one s [] (y ∷ r) v h e = cc
not-one s (x ∷ p) [] v h e = h.0 (head-equal e)
not-one s (x ∷ p) (y ∷ r) v h e = not-one s p r v h.1 (tail-equal e)

-- the pieces are determined
pub joined-unique : (s : ℕ) (ps rs : List (List ℕ)) → ps ≢ [] → rs ≢ [] → Each (Without s) ps
    → Each (Without s) rs → joined_by s ps ≡ joined_by s rs → ps ≡ rs
joined-unique s [] rs n m h k e = absurd (n refl)
joined-unique s (p ∷ ps) [] n m h k e = absurd (m refl)
joined-unique s (p ∷ []) (r ∷ []) n m h k e = ap (λ p. p ∷ []) e
joined-unique s (p ∷ []) (r ∷ r' ∷ rs) n m h k e = absurd (not-one s p r (joined_by s (r' ∷ rs)) h.0 e)
joined-unique s (p ∷ p' ∷ ps) (r ∷ []) n m h k e = absurd (not-one s r p (joined_by s (p' ∷ ps)) k.0 (sym e))
joined-unique s (p ∷ p' ∷ ps) (r ∷ r' ∷ rs) n m h k e =
    let t = split-once s p r (joined_by s (p' ∷ ps)) (joined_by s (r' ∷ rs)) h.0 k.0 e in
    ap₂ (λ p ps. p ∷ ps) t.0 (joined-unique s (p' ∷ ps) (r' ∷ rs) (λ e. cc) (λ e. cc) h.1 k.1 t.1)

use Rattle.std.proofs.Common.{◌≡◌, ℕ, zero, suc, ◌+◌, ◌<◌, ◌≤◌, ◌⊎◌, inl, inr, List, [], ◌∷◌, ◌++◌, length}
use Rattle.std.proofs.Common.{refl, ap, sym, ◌∙◌, subst, arith}
use Rattle.std.specs.List.{AllByRecursion as Each}
use Rattle.std.proofs.lemmas.Bool.{cases_lt}
use Rattle.param_test.specs.Firsts.{IsLess}
use Rattle.param_test.specs.Tuples.{Ascends}
use Rattle.param_test.specs.Odometers.{AreDigits, AreTop, AreOnes, IsTurned, run, IsLast, IsShifted, Precedes}
use Rattle.param_test.specs.Odometers.{IsSparse, IsSuccessor}
use Rattle.param_test.proofs.Places.{less-trans}
use Rattle.param_test.proofs.Steps.{room-le}

-- coefficients
pub top-greatest : (p : ℕ) (e c : List ℕ) → AreDigits p e → length e ≡ length c → AreTop p c
    → IsLess e c ⊎ (e ≡ c)
top-greatest p [] [] v l t = inr refl
top-greatest p [] (x ∷ c) v l t = absurd (omega arith)
top-greatest p (z ∷ e) [] v l t = absurd (omega arith)
top-greatest p (z ∷ e) (x ∷ c) v l t =
    elim (cases_lt z x) as (λ _. IsLess (z ∷ e) (x ∷ c) ⊎ (z ∷ e ≡ x ∷ c)) [
      | inl k ↦ inl (inl k)
      | inr k ↦ let i : z ≡ x = omega (arith, v.0.1, t.0) in
          elim (top-greatest p e c v.1 (omega arith) t.1) as (λ _. IsLess (z ∷ e) (x ∷ c) ⊎ (z ∷ e ≡ x ∷ c))
          [ inl g ↦ inl (inr (i, g)) | inr g ↦ inr cc ]
    ]

pub ones-least : (p : ℕ) (e d : List ℕ) → AreDigits p e → AreOnes d → IsLess e d → ⊥
ones-least p [] d v o l = l
ones-least p (z ∷ e) [] v o l = l
ones-least p (z ∷ e) (y ∷ d) v o (inl l) = omega (arith, v.0.0, o.0)
ones-least p (z ∷ e) (y ∷ d) v o (inr l) = ones-least p e d v.1 o.1 l.1

pub turned-less : (p : ℕ) (c d : List ℕ) → IsTurned p c d → IsLess c d
turned-less p [] d t = absurd t
turned-less p (x ∷ c) [] t = absurd t
turned-less p (x ∷ c) (y ∷ d) (inl t) = inr (t.0, turned-less p c d t.1)
turned-less p (x ∷ c) (y ∷ d) (inr t) = inl (omega (arith, t.0))

pub turned-between : (p : ℕ) (e c d : List ℕ) → AreDigits p e → length e ≡ length c → IsTurned p c d
    → IsLess e d → IsLess e c ⊎ (e ≡ c)
turned-between p e [] d v l t k = absurd t
turned-between p e (x ∷ c) [] v l t k = absurd t
turned-between p [] (x ∷ c) (y ∷ d) v l t k = absurd k
turned-between p (z ∷ e) (x ∷ c) (y ∷ d) v l (inl t) (inl k) = inl (inl (omega (arith, t.0)))
turned-between p (z ∷ e) (x ∷ c) (y ∷ d) v l (inl t) (inr k) =
    let i : z ≡ x = k.0 ∙ sym t.0 in
    elim (turned-between p e c d v.1 (omega arith) t.1 k.1) as (λ _. IsLess (z ∷ e) (x ∷ c) ⊎ (z ∷ e ≡ x ∷ c))
    [ inl g ↦ inl (inr (i, g)) | inr g ↦ inr cc ]
turned-between p (z ∷ e) (x ∷ c) (y ∷ d) v l (inr t) (inl k) =
    elim (cases_lt z x) as (λ _. IsLess (z ∷ e) (x ∷ c) ⊎ (z ∷ e ≡ x ∷ c)) [
      | inl g ↦ inl (inl g)
      | inr g ↦ let i : z ≡ x = omega (arith, t.0) in
          elim (top-greatest p e c v.1 (omega arith) t.2) as (λ _. IsLess (z ∷ e) (x ∷ c) ⊎ (z ∷ e ≡ x ∷ c))
          [ inl h ↦ inl (inr (i, h)) | inr h ↦ inr cc ]
    ]
turned-between p (z ∷ e) (x ∷ c) (y ∷ d) v l (inr t) (inr k) = absurd (ones-least p e d v.1 t.3 k.1)

pub ones-digits : (p : ℕ) (d : List ℕ) → 1 < p → AreOnes d → AreDigits p d
ones-digits p [] h o = tt
ones-digits p (y ∷ d) h o = ((omega (arith, o.0), omega (arith, o.0)), ones-digits p d h o.1)

pub turned-digits : (p : ℕ) (c d : List ℕ) → 1 < p → AreDigits p c → IsTurned p c d
    → AreDigits p d × (length d ≡ length c)
turned-digits p [] d h v t = absurd t
turned-digits p (x ∷ c) [] h v t = absurd t
turned-digits p (x ∷ c) (y ∷ d) h v (inl t) = let r : AreDigits p d × (length d ≡ length c) =
    turned-digits p c d h v.1 t.1 in
    (((omega (arith, t.0, v.0.0), omega (arith, t.0, v.0.1)), r.0), omega (arith, r.1))
turned-digits p (x ∷ c) (y ∷ d) h v (inr t) =
    (((omega (arith, t.0), t.1), ones-digits p d h t.3), omega (arith, t.4))

-- positions
pub length-run : (i k : ℕ) → length (run i k) ≡ k
length-run i zero = refl
length-run i (suc k) = let e : length (run (suc i) k) ≡ k = length-run (suc i) k in omega arith

pub run-ascends : (low i k n : ℕ) → low ≤ i → i + k ≤ n → Ascends low n (run i k)
run-ascends low i zero n h l = tt
run-ascends low i (suc k) n h l =
    (h, omega arith, run-ascends (suc i) (suc i) k n (omega arith) (omega arith))

pub run-least : (n low i k : ℕ) (e : List ℕ) → i ≤ low → Ascends low n e → IsLess e (run i k) → ⊥
run-least n low i zero [] h a l = l
run-least n low i zero (z ∷ e) h a l = l
run-least n low i (suc k) [] h a l = l
run-least n low i (suc k) (z ∷ e) h a (inl l) = omega (arith, a.0)
run-least n low i (suc k) (z ∷ e) h a (inr l) = run-least n (suc z) (suc i) k e (omega (arith, l.0)) a.2 l.1

pub last-greatest : (n low : ℕ) (e a : List ℕ) → Ascends low n e → length e ≡ length a → IsLast n a
    → IsLess e a ⊎ (e ≡ a)
last-greatest n low [] [] v l t = inr refl
last-greatest n low [] (x ∷ a) v l t = absurd (omega arith)
last-greatest n low (z ∷ e) [] v l t = absurd (omega arith)
last-greatest n low (z ∷ e) (x ∷ a) v l t =
    elim (cases_lt z x) as (λ _. IsLess (z ∷ e) (x ∷ a) ⊎ (z ∷ e ≡ x ∷ a)) [
      | inl k ↦ inl (inl k)
      | inr k ↦
          let r : suc z + length e ≤ n = room-le n (suc z) e (omega (arith, v.1)) v.2 in
          let i : z ≡ x = omega (arith, t.0) in
          elim (last-greatest n (suc z) e a v.2 (omega arith) t.1) as
          (λ _. IsLess (z ∷ e) (x ∷ a) ⊎ (z ∷ e ≡ x ∷ a))
          [ inl g ↦ inl (inr (i, g)) | inr g ↦ inr cc ]
    ]

pub shifted-less : (n : ℕ) (a b : List ℕ) → IsShifted n a b → IsLess a b
shifted-less n [] b t = absurd t
shifted-less n (x ∷ a) [] t = absurd t
shifted-less n (x ∷ a) (y ∷ b) (inl t) = inr (t.0, shifted-less n a b t.1)
shifted-less n (x ∷ a) (y ∷ b) (inr t) = inl (omega (arith, t.0))

pub shifted-between : (n low : ℕ) (e a b : List ℕ) → Ascends low n e → length e ≡ length a → IsShifted n a b
    → IsLess e b → IsLess e a ⊎ (e ≡ a)
shifted-between n low e [] b v l t k = absurd t
shifted-between n low e (x ∷ a) [] v l t k = absurd t
shifted-between n low [] (x ∷ a) (y ∷ b) v l t k = absurd k
shifted-between n low (z ∷ e) (x ∷ a) (y ∷ b) v l (inl t) (inl k) = inl (inl (omega (arith, t.0)))
shifted-between n low (z ∷ e) (x ∷ a) (y ∷ b) v l (inl t) (inr k) =
    let i : z ≡ x = k.0 ∙ sym t.0 in
    elim (shifted-between n (suc z) e a b v.2 (omega arith) t.1 k.1) as
    (λ _. IsLess (z ∷ e) (x ∷ a) ⊎ (z ∷ e ≡ x ∷ a))
    [ inl g ↦ inl (inr (i, g)) | inr g ↦ inr cc ]
shifted-between n low (z ∷ e) (x ∷ a) (y ∷ b) v l (inr t) (inl k) =
    elim (cases_lt z x) as (λ _. IsLess (z ∷ e) (x ∷ a) ⊎ (z ∷ e ≡ x ∷ a)) [
      | inl g ↦ inl (inl g)
      | inr g ↦ let i : z ≡ x = omega (arith, t.0) in
          elim (last-greatest n (suc z) e a v.2 (omega arith) t.2) as
          (λ _. IsLess (z ∷ e) (x ∷ a) ⊎ (z ∷ e ≡ x ∷ a))
          [ inl h ↦ inl (inr (i, h)) | inr h ↦ inr cc ]
    ]
shifted-between n low (z ∷ e) (x ∷ a) (y ∷ b) v l (inr t) (inr k) =
    absurd
    (run-least n (suc z) (suc y) (length a) e (omega (arith, k.0)) v.2 (subst (λ w. IsLess e w) t.3 k.1))

pub shifted-ascends : (n low : ℕ) (a b : List ℕ) → Ascends low n a → IsShifted n a b
    → Ascends low n b × (length b ≡ length a)
shifted-ascends n low [] b v t = absurd t
shifted-ascends n low (x ∷ a) [] v t = absurd t
shifted-ascends n low (x ∷ a) (y ∷ b) v (inl t) =
    let r : Ascends (suc x) n b × (length b ≡ length a) = shifted-ascends n (suc x) a b v.2 t.1 in (
      (omega (arith, t.0, v.0), omega (arith, t.0, v.1), subst (λ w. Ascends (suc w) n b) t.0 r.0),
      omega (arith, r.1),
    )
shifted-ascends n low (x ∷ a) (y ∷ b) v (inr t) =
    let g : Ascends (suc y) n (run (suc y) (length a)) =
    run-ascends (suc y) (suc y) (length a) n (omega arith) (omega (arith, t.1)) in
    let m : length b ≡ length a = ap length t.3 ∙ length-run (suc y) (length a) in
    ((omega (arith, t.0, v.0), omega (arith, t.1), subst (λ w. Ascends (suc y) n w) (sym t.3) g), omega arith)

-- combinations
pub precedes-trans : (a c b d e f : List ℕ) → Precedes a c b d → Precedes b d e f → Precedes a c e f
precedes-trans a c b d e f (inl h) (inl k) = inl (omega arith)
precedes-trans a c b d e f (inl h) (inr k) = inl (omega (arith, k.0))
precedes-trans a c b d e f (inr h) (inl k) = inl (omega (arith, h.0))
precedes-trans a c b d e f (inr h) (inr k) = inr (h.0 ∙ k.0, both h.1 k.1)
  where
    both : IsLess a b ⊎ ((a ≡ b) × IsLess c d) → IsLess b e ⊎ ((b ≡ e) × IsLess d f)
        → IsLess a e ⊎ ((a ≡ e) × IsLess c f)
    both (inl h) (inl k) = inl (less-trans a b e h k)
    both (inl h) (inr k) = inl (subst (λ w. IsLess a w) k.0 h)
    both (inr h) (inl k) = inl (subst (λ w. IsLess w e) (sym h.0) k)
    both (inr h) (inr k) = inr (h.0 ∙ k.0, less-trans c d f h.1 k.1)

module _ (p n : ℕ) (prime : 1 < p) where
  abbrev pub Or : List ℕ → List ℕ → List ℕ → List ℕ → Type 0
  Or e f a c = Precedes e f a c ⊎ ((e ≡ a) × (f ≡ c))

  -- the next coefficients
  pub successor-turn : (a c d : List ℕ) → IsSparse p n a c → IsTurned p c d → IsSuccessor p n a c a d
  successor-turn a c d s t = record {
    sparse = let r = turned-digits p c d prime s.digits t in
        record {
          some = s.some;
          ascends = s.ascends;
          digits = r.0;
          same_length =
              omega (arith, s.same_length, r.1);
        };
    later = inr (refl, inr (refl, turned-less p c d t));
    between = between;
  }
    where
      between : (e f : List ℕ) → IsSparse p n e f → Precedes e f a d → Or e f a c
      between e f v (inl k) = inl (inl k)
      between e f v (inr k) = elim k.1 as (λ _. Or e f a c) [
        | inl g ↦ inl (inr (k.0, inl g))
        | inr g ↦
            elim (turned-between p f c d v.digits (omega (arith, k.0, v.same_length, s.same_length)) t g.1) as
            (λ _. Or e f a c)
            [ inl h ↦ inl (inr (k.0, inr (g.0, h))) | inr h ↦ inr (g.0, h) ]
      ]

  -- the next positions
  pub successor-shift : (a c b d : List ℕ) → IsSparse p n a c → AreTop p c → IsShifted n a b → AreOnes d
      → length d ≡ length c → IsSuccessor p n a c b d
  successor-shift a c b d s t h o l = record {
    sparse = let r = shifted-ascends n 0 a b s.ascends h in
        record {
          some = omega (arith, s.some, r.1);
          ascends = r.0;
          digits = ones-digits p d prime o;
          same_length = omega (arith, s.same_length, r.1);
        };
    later = let r = shifted-ascends n 0 a b s.ascends h in inr (sym r.1, inl (shifted-less n a b h));
    between = between;
  }
    where
      between : (e f : List ℕ) → IsSparse p n e f → Precedes e f b d → Or e f a c
      between e f v (inl k) = let r = shifted-ascends n 0 a b s.ascends h in inl (inl (omega (arith, r.1)))
      between e f v (inr k) = let r = shifted-ascends n 0 a b s.ascends h in let m : length e ≡ length a =
          k.0 ∙ r.1 in elim k.1 as (λ _. Or e f a c) [
            | inl g ↦ elim (shifted-between n 0 e a b v.ascends m h g) as (λ _. Or e f a c) [
              | inl i ↦ inl (inr (m, inl i))
              | inr i ↦ elim (top-greatest p f c v.digits
                  (omega (arith, m, v.same_length, s.same_length)) t) as
                  (λ _. Or e f a c)
                  [ inl j ↦ inl (inr (m, inr (i, j))) | inr j ↦ inr (i, j) ]
            ]
            | inr g ↦ absurd (ones-least p f d v.digits o g.1)
          ]

  -- the last of their length
  pub greatest-of-length : (a c e f : List ℕ) → IsSparse p n a c → AreTop p c → IsLast n a → IsSparse p n e f
      → length e ≡ length a → Or e f a c
  greatest-of-length a c e f s t h v m = elim (last-greatest n 0 e a v.ascends m h) as (λ _. Or e f a c) [
    | inl i ↦ inl (inr (m, inl i))
    | inr i ↦ elim (top-greatest p f c v.digits (omega (arith, m, v.same_length, s.same_length)) t) as
        (λ _. Or e f a c)
        [ inl j ↦ inl (inr (m, inr (i, j))) | inr j ↦ inr (i, j) ]
  ]

  -- one more term
  pub successor-longer : (a c b d : List ℕ) → IsSparse p n a c → AreTop p c → IsLast n a → length a < n
      → b ≡ run 0 (length a + 1) → AreOnes d → length d ≡ length c + 1 → IsSuccessor p n a c b d
  successor-longer a c b d s t h l q o m = record {
    sparse =
        record {
          some = omega (arith, size);
          ascends =
              subst (λ w. Ascends 0 n w) (sym q)
              (run-ascends 0 0 (length a + 1) n (omega arith) (omega arith));
          digits = ones-digits p d prime o;
          same_length = omega (arith, size, s.same_length);
        };
    later = inl (omega (arith, size));
    between = between;
  }
    where
      size : length b ≡ length a + 1
      size = ap length q ∙ length-run 0 (length a + 1)

      between : (e f : List ℕ) → IsSparse p n e f → Precedes e f b d → Or e f a c
      between e f v (inl k) =
          elim (cases_lt (length e) (length a)) as (λ _. Or e f a c)
          [ inl g ↦ inl (inl g) | inr g ↦ greatest-of-length a c e f s t h v (omega (arith, size)) ]
      between e f v (inr k) = elim k.1 as (λ _. Or e f a c) [
        | inl g ↦
            absurd (run-least n 0 0 (length a + 1) e (omega arith) v.ascends (subst (λ w. IsLess e w) q g))
        | inr g ↦ absurd (ones-least p f d v.digits o g.1)
      ]

  -- none is longer
  pub all-past : (a c e f : List ℕ) → IsSparse p n a c → AreTop p c → IsLast n a → length a ≡ n
      → IsSparse p n e f → Or e f a c
  all-past a c e f s t h l v =
      let r : 0 + length e ≤ n = room-le n 0 e (omega arith) v.ascends in
      elim (cases_lt (length e) (length a)) as (λ _. Or e f a c)
      [ inl g ↦ inl (inl g) | inr g ↦ greatest-of-length a c e f s t h v (omega arith) ]

pub below-each : (low n : ℕ) (a : List ℕ) → Ascends low n a → Each (λ x. x < n) a
below-each low n [] h = tt
below-each low n (x ∷ a) h = (h.1, below-each (suc x) n a h.2)

pub ones-snoc : (c : List ℕ) → AreOnes c → AreOnes (c ++ 1 ∷ [])
ones-snoc [] h = (refl, tt)
ones-snoc (x ∷ c) h = (h.0, ones-snoc c h.1)

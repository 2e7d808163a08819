-- The steps of the walk.
use Rattle.std.proofs.Common.{◌≡◌, ℕ, suc, ◌+◌, ◌-◌, ◌<◌, ◌≤◌, ◌⊎◌, inl, inr, List, [], ◌∷◌, ◌++◌, length}
use Rattle.std.proofs.Common.{refl, ap, sym, ◌∙◌, subst, arith, length-append}
use Rattle.std.proofs.lemmas.Bool.{cases_order}
use Rattle.param_test.specs.Firsts.{IsLess, IsFirstPassing, NonePasses}
use Rattle.param_test.specs.Tuples.{IsTuple, IsBefore, total, AreByDegree}
use Rattle.param_test.specs.Walks.{Fits, IsPast, IsAt}
use Rattle.param_test.proofs.Lists.{length-snoc}
use Rattle.param_test.proofs.Places.{less-trans, less-longer, less-after, compare-less, less-none}
use Rattle.param_test.proofs.Walking.{walked-start, walked-same, walked-more, walked-found, walked-end}
use Rattle.param_test.proofs.Steps.{push-back, visit-back, visit-on, pop-back, pop-on, total-on, total-back}

module _ (ds : List ℕ) where
  pub before-trans : (x y z : List ℕ) → IsBefore ds x y → IsBefore ds y z → IsBefore ds x z
  before-trans x y z (inl h) (inl k) = inl (omega arith)
  before-trans x y z (inl h) (inr k) = inl (omega (arith, k.0))
  before-trans x y z (inr h) (inl k) = inl (omega (arith, h.0))
  before-trans x y z (inr h) (inr k) = inr (h.0 ∙ k.0, less-trans x y z h.1 k.1)

  -- what is past is before a list of this degree that is not
  pub past-before : (sum : ℕ) (q x w : List ℕ) → total ds (q ++ w) ≡ sum → IsPast ds sum q x
      → IsBefore ds x (q ++ w)
  past-before sum q x w e (inl h) = inl (omega arith)
  past-before sum q x w e (inr h) = inr (h.0 ∙ sym e, less-longer x q w h.1)

  pub past-or-ahead : (sum : ℕ) (q y : List ℕ) → length q ≤ length y
      → IsPast ds sum q y ⊎ ((x : List ℕ) → IsPast ds sum q x → IsBefore ds x y)
  past-or-ahead sum q y l =
      elim (cases_order (total ds y) sum) as
      (λ _. IsPast ds sum q y ⊎ ((x : List ℕ) → IsPast ds sum q x → IsBefore ds x y)) [
        | inl e ↦
            elim (compare-less y q l) as
            (λ _. IsPast ds sum q y ⊎ ((x : List ℕ) → IsPast ds sum q x → IsBefore ds x y)) [
              | inl a ↦ inl (inr (e, a))
              | inr b ↦ inr (λ x p. elim p as (λ _. IsBefore ds x y) [
                | inl h ↦ inl (omega arith)
                | inr h ↦ inr (
                  h.0 ∙ sym e,
                  elim b as (λ _. IsLess x y) [
                    | inl a ↦ less-trans x q y h.1 a
                    | inr c ↦ subst (λ z. IsLess x z) (sym c.1) (less-longer x q c.0 h.1)
                  ],
                )
              ])
            ]
        | inr k ↦ elim k as (λ _. IsPast ds sum q y ⊎ ((x : List ℕ) → IsPast ds sum q x → IsBefore ds x y)) [
          | inl a ↦ inl (inl a)
          | inr a ↦
              inr
              (λ x p. inl
              (elim p as (λ _. total ds x < total ds y) [ inl h ↦ omega arith | inr h ↦ omega (arith, h.0) ]))
        ]
      ]

  -- q itself, what is before it and what comes after
  pub around : (sum : ℕ) (q y : List ℕ) → total ds q ≡ sum → length q ≡ length y
      → IsPast ds sum q y ⊎ ((y ≡ q) ⊎ IsBefore ds q y)
  around sum q y e l =
      elim (cases_order (total ds y) sum) as (λ _. IsPast ds sum q y ⊎ ((y ≡ q) ⊎ IsBefore ds q y)) [
        | inl f ↦
            elim (compare-less y q (omega arith)) as (λ _. IsPast ds sum q y ⊎ ((y ≡ q) ⊎ IsBefore ds q y)) [
              | inl a ↦ inl (inr (f, a))
              | inr b ↦ inr (elim b as (λ _. (y ≡ q) ⊎ IsBefore ds q y)
                  [ inl a ↦ inr (inr (e ∙ sym f, a)) | inr c ↦ inl (same c.0 c.1) ])
            ]
        | inr k ↦ elim k as (λ _. IsPast ds sum q y ⊎ ((y ≡ q) ⊎ IsBefore ds q y))
            [ inl a ↦ inl (inl a) | inr a ↦ inr (inr (inl (omega arith))) ]
      ]
    where
      same : (w : List ℕ) → y ≡ q ++ w → y ≡ q
      same [] f = f ∙ append-nil q
        where
          append-nil : (a : List ℕ) → a ++ [] ≡ a
          append-nil [] = refl
          append-nil (x ∷ a) = ap (λ z. x ∷ z) (append-nil a)
      same (x ∷ w) f =
          absurd (let g : length y ≡ length q + suc (length w) = ap length f ∙ length-append q (x ∷ w) in
          omega arith)

module _ (ds : List ℕ) (d : AreByDegree ds) (r : ℕ) (Passes : List ℕ → Type 0) where
  abbrev pub Member : List ℕ → Type 0
  Member y = IsTuple (length ds) r y

  pub at-start : IsAt ds r Passes 0 (0 ∷ []) 5000
  at-start =
      record {
        tried = [];
        count = refl;
        walked =
            walked-start Member (IsBefore ds) Passes (IsPast ds 0 (0 ∷ [])) none;
      }
    where
      never : (v : List ℕ) → IsLess v (0 ∷ []) → ⊥
      never [] l = l
      never (b ∷ v) (inl l) = omega arith
      never (b ∷ v) (inr l) = less-none v l.1

      none : (y : List ℕ) → Member y → IsPast ds 0 (0 ∷ []) y → ⊥
      none y m (inl h) = omega arith
      none y m (inr h) = never y h.1

  pub at-same : (sum more : ℕ) (q u : List ℕ) (left : ℕ)
      → ((y : List ℕ) → Member y → IsPast ds sum q y → IsPast ds more u y)
      → ((y : List ℕ) → Member y → IsPast ds more u y → IsPast ds sum q y) → IsAt ds r Passes sum q left
      → IsAt ds r Passes more u left
  at-same sum more q u left f g a =
      record {
        tried = a.tried;
        count = a.count;
        walked =
            walked-same Member (IsBefore ds) Passes (IsPast ds sum q) (IsPast ds more u) a.tried f g a.walked;
      }

  pub at-push : (sum next : ℕ) (pre : List ℕ) (left : ℕ) → IsAt ds r Passes sum (pre ++ next ∷ []) left
      → IsAt ds r Passes sum ((pre ++ next ∷ []) ++ (next + 1) ∷ []) left
  at-push sum next pre left a =
      at-same sum sum (pre ++ next ∷ []) ((pre ++ next ∷ []) ++ (next + 1) ∷ []) left (λ y m p. longer y p)
      (push-back ds d r sum next pre) a
    where
      longer : (y : List ℕ) → IsPast ds sum (pre ++ next ∷ []) y
          → IsPast ds sum ((pre ++ next ∷ []) ++ (next + 1) ∷ []) y
      longer y (inl h) = inl h
      longer y (inr h) = inr (h.0, less-longer y (pre ++ next ∷ []) ((next + 1) ∷ []) h.1)

  -- the tuple has a smaller degree
  pub at-skip : (sum next : ℕ) (pre : List ℕ) (left : ℕ) → length pre + 1 ≡ r
      → total ds (pre ++ next ∷ []) < sum
      → IsAt ds r Passes sum (pre ++ next ∷ []) left → IsAt ds r Passes sum (pre ++ (next + 1) ∷ []) left
  at-skip sum next pre left n l a =
      at-same sum sum (pre ++ next ∷ []) (pre ++ (next + 1) ∷ []) left
      (λ y m p. visit-on ds d r sum next pre y p)
      (λ y m p. elim (visit-back ds d r sum next pre y n m p) as (λ _. IsPast ds sum (pre ++ next ∷ []) y) [
        | inl b ↦ b
        | inr e ↦
            inl (let f : total ds y ≡ total ds (pre ++ next ∷ []) = ap (total ds) e in omega arith)
      ]) a

  pub at-visit : (sum next : ℕ) (pre : List ℕ) (left : ℕ) → length pre + 1 ≡ r → Member (pre ++ next ∷ [])
      → total ds (pre ++ next ∷ []) ≡ sum
      → (Passes (pre ++ next ∷ []) → ⊥) → 0 < left → IsAt ds r Passes sum (pre ++ next ∷ []) left
      → IsAt ds r Passes sum (pre ++ (next + 1) ∷ []) (left - 1)
  at-visit sum next pre left n m e f l a = record {
    tried = a.tried ++ (pre ++ next ∷ []) ∷ [];
    count = let c : length (a.tried ++ (pre ++ next ∷ []) ∷ []) ≡ length a.tried + 1 =
        length-snoc a.tried (pre ++ next ∷ []) in omega arith;
    walked = walked-more Member (IsBefore ds) Passes (IsPast ds sum (pre ++ next ∷ []))
        (IsPast ds sum (pre ++ (next + 1) ∷ [])) a.tried (pre ++ next ∷ []) m f
        (before e)
        (λ y p. visit-on ds d r sum next pre y p)
        (inr (e, less-after pre (next ∷ []) ((next + 1) ∷ []) (inl (omega arith))))
        (λ y k p. visit-back ds d r sum next pre y n k p)
        a.walked;
  }
    where
      before : total ds (pre ++ next ∷ []) ≡ sum → (x : List ℕ) → IsPast ds sum (pre ++ next ∷ []) x
          → IsBefore ds x (pre ++ next ∷ [])
      before e x (inl h) = inl (omega arith)
      before e x (inr h) = inr (h.0 ∙ sym e, h.1)

  pub at-found : (sum : ℕ) (q : List ℕ) (left : ℕ) → Member q → total ds q ≡ sum
      → Passes q → 0 < left → IsAt ds r Passes sum q left → IsFirstPassing Member (IsBefore ds) 5000 Passes q
  at-found sum q left m e f l a =
      walked-found Member (IsBefore ds) Passes (IsPast ds sum q) a.tried 5000 q m f (omega (arith, a.count))
      before
      (before-trans ds) (λ y k. around ds sum q y e (m.length_is ∙ sym k.length_is)) a.walked
    where
      before : (x : List ℕ) → IsPast ds sum q x → IsBefore ds x q
      before x (inl h) = inl (omega arith)
      before x (inr h) = inr (h.0 ∙ sym e, h.1)

  pub at-pop : (sum next x : ℕ) (pre : List ℕ) (left : ℕ) → length pre + 1 < r
      → (Fits ds r sum (pre ++ x ∷ []) next → ⊥)
      → IsAt ds r Passes sum ((pre ++ x ∷ []) ++ next ∷ []) left
      → IsAt ds r Passes sum (pre ++ (x + 1) ∷ []) left
  at-pop sum next x pre left n f a =
      at-same sum sum ((pre ++ x ∷ []) ++ next ∷ []) (pre ++ (x + 1) ∷ []) left
      (λ y m p. pop-on ds d r sum next x pre y p) (λ y m p. pop-back ds d r sum next x pre y n f m p) a

  pub at-next : (sum next : ℕ) (left : ℕ) → 0 < r → (Fits ds r sum [] next → ⊥)
      → IsAt ds r Passes sum (next ∷ []) left → IsAt ds r Passes (sum + 1) (0 ∷ []) left
  at-next sum next left n f a =
      at-same sum (sum + 1) (next ∷ []) (0 ∷ []) left (λ y m p. total-on ds d r sum next y p)
      (λ y m p. total-back ds d r sum next y n f m p) a

  -- 5,000 were tried
  pub at-limit : (sum : ℕ) (q : List ℕ) → length q ≤ r → IsAt ds r Passes sum q 0
      → NonePasses Member (IsBefore ds) 5000 Passes
  at-limit sum q l a =
      walked-end Member (IsBefore ds) Passes (IsPast ds sum q) a.tried 5000 (omega (arith, a.count))
      (λ y k. elim (past-or-ahead ds sum q y (omega (arith, k.length_is))) as
      (λ _. IsPast ds sum q y
      ⊎ ((length a.tried ≡ 5000) × ((x : List ℕ) → IsPast ds sum q x → IsBefore ds x y)))
      [ inl p ↦ inl p | inr p ↦ inr (omega (arith, a.count), p) ]) a.walked

  -- all were tried
  pub at-end : (sum : ℕ) (left : ℕ) → ((y : List ℕ) → Member y → total ds y < sum)
      → IsAt ds r Passes sum (0 ∷ []) left → NonePasses Member (IsBefore ds) 5000 Passes
  at-end sum left g a =
      walked-end Member (IsBefore ds) Passes (IsPast ds sum (0 ∷ [])) a.tried 5000 (omega (arith, a.count))
      (λ y k. inl (inl (g y k))) a.walked

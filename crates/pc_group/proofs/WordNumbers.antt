-- The number of a word, from its last exponent on.
use Rattle.std.proofs.Common.{◌≡◌, ℕ, zero, suc, refl, sym, ◌∙◌, ap, ◌+◌, ◌-◌, ◌*◌, ◌^◌, ◌<◌, ◌≤◌, arith}
use Rattle.std.proofs.Common.{List, [], ◌∷◌, get_or, drop, length, All, mul-le-mul_left}
use Rattle.std.proofs.Math.Nat.{pow-zero, pow-succ'}
use Rattle.std.proofs.lemmas.List.Elements.{All-head, All-tail}
use Rattle.power_commutator.specs.Presentations.{number}

pub number-small : (p : ℕ) → 0 < p → (w : List ℕ) → All (λ e. e < p) w → number p w < p ^ length w
number-small p s [] h = let e : p ^ 0 ≡ 1 = pow-zero p in omega (arith, e)
number-small p s (e ∷ w) h =
    let head : e < p = All-head (λ e. e < p) e w h in
    let tail : number p w < p ^ length w = number-small p s w (All-tail (λ e. e < p) e w h) in
    let z : p ^ suc (length w) ≡ p * p ^ length w = pow-succ' p (length w) in
    let k : p * suc (number p w) ≤ p * p ^ length w = mul-le-mul_left p tail in
    let d : p * suc (number p w) ≡ p * number p w + p = omega arith in
    omega (arith, head, z, k, d)

-- the number of the exponents from place k on
pub number-from : (p : ℕ) (w : List ℕ) (k : ℕ) → k < length w
    → number p (drop k w) ≡ get_or w k 0 + p * number p (drop (suc k) w)
number-from p [] k l = absurd (omega (arith, l))
number-from p (e ∷ w) zero l = refl
number-from p (e ∷ w) (suc k) l = number-from p w k (omega (arith, l))

pub number-end : (p : ℕ) (w : List ℕ) (k : ℕ) → length w ≤ k → number p (drop k w) ≡ 0
number-end p [] zero l = refl
number-end p [] (suc k) l = refl
number-end p (e ∷ w) zero l = absurd (omega (arith, l))
number-end p (e ∷ w) (suc k) l = number-end p w k (omega (arith, l))

-- it is at most that of the whole word
pub number-rest : (p : ℕ) → 0 < p → (w : List ℕ) (k : ℕ) → number p (drop k w) ≤ number p w
number-rest p s w zero = omega arith
number-rest p s [] (suc k) = omega arith
number-rest p s (e ∷ w) (suc k) =
    let a : number p (drop k w) ≤ number p w = number-rest p s w k in
    let b : number p w * 1 ≤ number p w * p = mul-le-mul_left (number p w) s in
    let c : number p w * p ≡ p * number p w = omega arith in
    omega (arith, a, b, c)

-- one exponent more, from the last s on
module _ (p : ℕ) (w : List ℕ) (s x : ℕ) (l : s < length w) (e : x ≡ number p (drop (length w - s) w)) where
  pub number-next : get_or w (length w - 1 - s) 0 + p * x ≡ number p (drop (length w - 1 - s) w)
  number-next =
      let k : suc (length w - 1 - s) ≡ length w - s = omega (arith, l) in
      ap (λ d. get_or w (length w - 1 - s) 0 + p * d) (e ∙ ap (λ d. number p (drop d w)) (sym k))
      ∙ sym (number-from p w (length w - 1 - s) (omega (arith, l)))

  pub next-small : 1 < p → All (λ e. e < p) w → get_or w (length w - 1 - s) 0 + p * x < p ^ length w
  next-small a b =
      let c = number-next in
      let d = number-rest p (omega (arith, a)) w (length w - 1 - s) in
      let f = number-small p (omega (arith, a)) w b in
      omega (arith, c, d, f)

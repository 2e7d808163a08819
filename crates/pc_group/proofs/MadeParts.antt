-- A presentation made a word at a time keeps the rules for words.
use Rattle.std.proofs.Common.{◌≡◌, ◌≢◌, ℕ, zero, suc, refl, sym, ◌∙◌, ap, subst, ◌+◌, ◌-◌, ◌<◌, ◌≤◌, arith}
use Rattle.std.proofs.Common.{List, [], ◌∷◌, ◌++◌, map, length, get_or, set, replicate, All, ◌⊎◌, inl, inr}
use Rattle.std.proofs.Common.{length-set, get_or-set_same, get_or-set_other}
use Rattle.std.proofs.lemmas.List.{length-replicate, get_or-replicate, get_or-map, length-map}
use Rattle.std.proofs.lemmas.List.Elements.{All-nil, All-cons}
use Rattle.power_commutator.specs.Presentations.{Presentation as Presented, IsWord, IsPresentation, identity}
use Rattle.power_commutator.specs.Presentations.{range}
use Rattle.power_commutator.proofs.Cyclic.{less-or}
use Rattle.pc_group.specs.Parts.{elementary_abelian, with_power, with_commutator}

-- an entry of a list in which one entry was set
set-at : {X : Type 0} (C : X → Type 0) (xs : List X) (i k : ℕ) (w d : X) → i < length xs → (k ≡ i → C w)
    → C (get_or xs k d)
    → C (get_or (set xs i w) k d)
set-at C xs i k w d l here there = go (less-or k i) (less-or i k)
  where
    other : k ≢ i → C (get_or (set xs i w) k d)
    other ne = subst C (sym (get_or-set_other xs i k w d ne)) there

    go : (k < i) ⊎ (i ≤ k) → (i < k) ⊎ (k ≤ i) → C (get_or (set xs i w) k d)
    go (inl a) b = other (omega (arith, a))
    go (inr a) (inl b) = other (omega (arith, b))
    go (inr a) (inr b) =
        let e : k ≡ i = omega (arith, a, b) in
        subst C (sym (ap (λ j. get_or (set xs i w) j d) e ∙ get_or-set_same xs i w d l)) (here e)

pub with_power-valid : (P : Presented) → IsPresentation P → (i : ℕ) (w : List ℕ) → 0 < i → i ≤ P.gens
    → IsWord P.prime P.gens i w
    → IsPresentation (with_power P i w)
with_power-valid P V i w a b W = record {
  power-count = length-set P.powers (i - 1) w ∙ V.power-count;
  commutator-count = V.commutator-count;
  row-count = V.row-count;
  power = λ k h l.
      set-at (IsWord P.prime P.gens k) P.powers (i - 1) (k - 1) w []
      (let c = V.power-count in omega (arith, a, b, c))
      (λ e. subst (λ j. IsWord P.prime P.gens j w) (omega (arith, e, a, h)) W) (V.power k h l);
  commutator = V.commutator;
}

-- the words of [g_j, g_1], [g_j, g_2], ..
abbrev row-of : Presented → ℕ → List (List ℕ)
row-of P j = get_or P.commutators (j - 1) []

pub with_commutator-valid : (P : Presented) → IsPresentation P → (j i : ℕ) (w : List ℕ) → 0 < i → i < j
    → j ≤ P.gens → IsWord P.prime P.gens j w
    → IsPresentation (with_commutator P j i w)
with_commutator-valid P V j i w a b c W = record {
  power-count = V.power-count;
  commutator-count = length-set P.commutators (j - 1) (set (row-of P j) (i - 1) w) ∙ V.commutator-count;
  row-count = λ k h l.
      set-at (λ r. length r ≡ k - 1) P.commutators (j - 1) (k - 1) (set (row-of P j) (i - 1) w) [] place
      (λ e. let z : length (set (row-of P j) (i - 1) w) ≡ j - 1 = length-set (row-of P j) (i - 1) w
      ∙ count in omega (arith, z, e)) (V.row-count k h l);
  power = V.power;
  commutator = λ l m h s t.
      set-at (λ r. IsWord P.prime P.gens l (get_or r (m - 1) [])) P.commutators (j - 1) (l - 1)
      (set (row-of P j) (i - 1) w) [] place
      (λ e.
      let same : l ≡ j = omega (arith, e, a, b, h, s) in
      set-at (IsWord P.prime P.gens l) (row-of P j) (i - 1) (m - 1) w [] (omega (arith, a, b, count))
      (λ d. subst (λ k. IsWord P.prime P.gens k w) (sym same) W)
      (subst (λ k. IsWord P.prime P.gens l (get_or (get_or P.commutators k []) (m - 1) [])) e
      (V.commutator l m h s t)))
      (V.commutator l m h s t);
}
  where
    count : length (row-of P j) ≡ j - 1
    count = V.row-count j (omega (arith, a, b)) c

    place : j - 1 < length P.commutators
    place = let z = V.commutator-count in omega (arith, z, a, b, c)

length-identity : (n : ℕ) → length (identity n) ≡ n
length-identity zero = refl
length-identity (suc n) = ap suc (length-identity n)

identity-small : (p n : ℕ) → 0 < p → All (λ e. e < p) (identity n)
identity-small p zero h = All-nil (λ e. e < p)
identity-small p (suc n) h = All-cons (λ e. e < p) 0 (identity n) h (identity-small p n h)

identity-zero : (n k : ℕ) → get_or (identity n) k 0 ≡ 0
identity-zero zero k = refl
identity-zero (suc n) zero = refl
identity-zero (suc n) (suc k) = identity-zero n k

pub identity-replicate : (n : ℕ) → replicate n 0 ≡ identity n
identity-replicate zero = refl
identity-replicate (suc n) = ap (λ w. 0 ∷ w) (identity-replicate n)

pub identity-word : (p n j : ℕ) → 0 < p → IsWord p n j (identity n)
identity-word p n j h = record {
  len = length-identity n;
  small = identity-small p n h;
  later = λ k l. identity-zero n k;
}

length-range : (j m : ℕ) → length (range j m) ≡ m
length-range j zero = refl
length-range j (suc m) = ap suc (length-range (suc j) m)

get_or-range : (j m k d : ℕ) → k < m → get_or (range j m) k d ≡ j + k
get_or-range j zero k d l = absurd (omega (arith, l))
get_or-range j (suc m) zero d l = omega arith
get_or-range j (suc m) (suc k) d l = get_or-range (suc j) m k d (omega (arith, l))
    ∙ (let z : suc j + k ≡ j + suc k = omega arith in z)

pub range-next : (j m : ℕ) → range j (m + 1) ≡ range j m ++ (j + m) ∷ []
range-next j zero = ap (λ k. k ∷ []) (let z : j ≡ j + 0 = omega arith in z)
range-next j (suc m) =
    ap (range j) (let z : suc m + 1 ≡ suc (m + 1) = omega arith in z)
    ∙ ap (λ xs. j ∷ xs) (range-next (suc j) m
    ∙ ap (λ k. range (suc j) m ++ k ∷ []) (let z : suc j + m ≡ j + suc m = omega arith in z))

row-is : (n k : ℕ) → k < n → get_or (map (λ i. replicate i (identity n)) (range 0 n)) k [] ≡ replicate k
    (identity n)
row-is n k l =
    get_or-map (λ i. replicate i (identity n)) (range 0 n) k 0 []
    (let z = length-range 0 n in omega (arith, z, l))
    ∙ ap (λ i. replicate i (identity n)) (get_or-range 0 n k 0 l ∙ (let z : 0 + k ≡ k = omega arith in z))

pub elementary-valid : (p n : ℕ) → 0 < p → IsPresentation (elementary_abelian p n)
elementary-valid p n s = record {
  power-count = length-replicate n (identity n);
  commutator-count = length-map (range 0 n) (λ i. replicate i (identity n)) ∙ length-range 0 n;
  row-count = λ j h l. ap length (row-is n (j - 1) (omega (arith, h, l)))
      ∙ length-replicate (j - 1) (identity n);
  power = λ i h l. subst (IsWord p n i) (sym
      (get_or-replicate n (i - 1) (identity n) [] (omega (arith, h, l)))) (identity-word p n i s);
  commutator = λ j i a b c.
      subst (IsWord p n j)
      (sym (ap (λ r. get_or r (i - 1) []) (row-is n (j - 1) (omega (arith, a, b, c)))
      ∙ get_or-replicate (j - 1) (i - 1) (identity n) [] (omega (arith, a, b))))
      (identity-word p n j s);
}

-- What the numbers of a layer tell of its tests.
use Rattle.std.proofs.Common.{◌≡◌, ℕ, suc, sym, ◌∙◌, ap, ap₂, subst, ◌+◌, ◌-◌, ◌*◌, ◌^◌, ◌<◌, ◌≤◌, arith}
use Rattle.std.proofs.Common.{true, false, eqb, List, get_or, drop, map, Some, None, eq-eqb, ne_eqb, ◌⊎◌, inl}
use Rattle.std.proofs.Common.{inr}
use Rattle.power_commutator.specs.Presentations.{Presentation as Presented, Equation, pow, iterate, product}
use Rattle.power_commutator.specs.Presentations.{power_test, swap_test, fixed_test, twist_test, number}
use Rattle.power_commutator.specs.Presentations.{power_word, commutator_word, range, first_false}
use Rattle.power_commutator.specs.Steps.{step_alpha}
use Rattle.power_commutator.proofs.Cyclic.{less-or}
use Rattle.power_commutator.proofs.Tuples.{Among}
use Rattle.power_commutator.proofs.Order.{Passes, none-range, some-range}
use Rattle.power_commutator.proofs.Program.{power-passes, swap-passes, fixed-passes, twist-passes}
use Rattle.power_commutator.proofs.Program.{iterate-agree}
use Rattle.pc_group.specs.declared.layer.Layer.{Layer}
use Rattle.pc_group.specs.Tables.{at}
use Rattle.pc_group.specs.Squares.{times}
use Rattle.pc_group.specs.Layers.{IsLayerOf}

-- a loop over a range: the tests before j pass
module _ (f : ℕ → Equation) (lo m hi : ℕ) (e : hi ≡ lo + m) where
  pub loop-none : ((k : ℕ) → lo ≤ k → k < hi → Passes (f k) true) → None ≡ first_false (map f (range lo m))
  loop-none h = sym (none-range f lo m (λ k a. h k a.0 (let b = a.1 in omega (arith, b, e))))

  pub loop-some : (j : ℕ) → lo ≤ j → j < hi → ((k : ℕ) → lo ≤ k → k < j → Passes (f k) true)
      → Passes (f j) false
      → Some (f j).name ≡ first_false (map f (range lo m))
  loop-some j h l before s = sym (some-range f lo m j (h, omega (arith, l, e)) before s)

pub loop-next : (f : ℕ → Equation) (lo j : ℕ) → ((k : ℕ) → lo ≤ k → k < j → Passes (f k) true)
    → Passes (f j) true
    → (k : ℕ) → lo ≤ k → k < j + 1 → Passes (f k) true
loop-next f lo j before s k h l = go (less-or k j)
  where
    go : (k < j) ⊎ (j ≤ k) → Passes (f k) true
    go (inl t) = before k h t
    go (inr t) = subst (λ a. Passes (f a) true) (let z : j ≡ k = omega (arith, t, l) in z) s

pub passing : (e : Equation) (a b : ℕ) → Passes e (eqb a b) → a ≡ b → Passes e true
passing e a b h z = h ∙ eq-eqb a b z

pub failing : (e : Equation) (a b : ℕ) → Passes e (eqb a b) → (a ≡ b → ⊥) → Passes e false
failing e a b h z = h ∙ ne_eqb a b z

module _ (P : Presented) (m : ℕ) (L : Layer) (R : IsLayerOf P m L) where
  abbrev i : ℕ
  i = L.index

  abbrev mul : List ℕ → List ℕ → List ℕ
  mul = product P (suc i) m

  abbrev t : ℕ → ℕ → ℕ
  t = times L.table

  abbrev α : ℕ → ℕ
  α = step_alpha P t i m

  -- entry k of the table of α_i, that of the words of the g_j^p, and so on
  abbrev image : ℕ → ℕ
  image k = get_or L.images.items k 0

  abbrev power : ℕ → ℕ
  power j = get_or L.powers.items j 0

  abbrev commutator : ℕ → ℕ → ℕ
  commutator k j = get_or L.commutators.items (k * (L.gens + 1) + j) 0

  abbrev generator : ℕ → ℕ
  generator j = get_or L.generators.items j 0

  among : (j : ℕ) → i < j → j < L.gens + 1 → Among (suc i) m j
  among j h l = (h, let c = R.count in let e = R.gens-is in omega (arith, l, e, c))

  image-of : (j : ℕ) → i < j → j < L.gens + 1 → image (generator j) ≡ α (P.prime ^ (j - suc i))
  image-of j h l =
      R.images-are (generator j) (L.generators_below.small j l)
      ∙ ap α (R.generators-are j h (let e = R.gens-is in omega (arith, l, e)))

  image-power : (j : ℕ) → i ≤ j → j < L.gens + 1
      → image (power j) ≡ α (number P.prime (drop i (power_word P j)))
  image-power j h l =
      let e = R.gens-is in
      R.images-are (power j) (L.powers_below.small j l)
      ∙ ap α (R.powers-are j h (omega (arith, l, e)))

  place : (n k j : ℕ) → j < k → k < n + 1 → k * (n + 1) + j < (n + 1) * (n + 1)
  place n k j h l = grind arith

  image-commutator : (k j : ℕ) → i < j → j < k → k < L.gens + 1
      → image (commutator k j) ≡ α (number P.prime (drop i (commutator_word P k j)))
  image-commutator k j h l s =
      R.images-are (commutator k j) (L.commutators_below.small (k * (L.gens + 1) + j) (place L.gens k j l s))
      ∙ ap α (ap (λ n. get_or L.commutators.items (k * (n + 1) + j) 0) (sym R.gens-is)
      ∙ R.commutators-are k j h l (let e = R.gens-is in omega (arith, s, e)))

  -- each test is decided by the numbers of its two sides
  pub power-tells : {g x l w r : ℕ} → (j : ℕ) → i < j → j < L.gens + 1 → g ≡ generator j → x ≡ image g
      → l ≡ pow t 0 x L.prime → w ≡ power j → r ≡ image w → Passes (power_test P mul i m j) (eqb l r)
  power-tells j h k g x l w r =
      power-passes P R.some R.valid i m R.count R.index t R.table-is.product-is j (among j h k)
      ∙ sym (ap₂ eqb (l ∙ ap₂ (pow t 0) (x ∙ ap image g ∙ image-of j h k) R.prime-is)
      (r ∙ ap image w ∙ image-power j (let h' : i < j = h in omega (arith, h')) k))

  pub swap-tells : {g a h b d c l ab r : ℕ} → (j k : ℕ) → i < j → j < k → k < L.gens + 1 → g ≡ generator j
      → a ≡ image g → h ≡ generator k → b ≡ image h → d ≡ commutator k j → c ≡ image d → l ≡ t b a
      → ab ≡ t a b → r ≡ t ab c → Passes (swap_test P mul i m j k) (eqb l r)
  swap-tells j k ij jk s g a h b d c l ab r =
      let ij' : i < j = ij in
      let jk' : j < k = jk in
      let js : j < L.gens + 1 = omega (arith, jk', s) in
      let ik : i < k = omega (arith, ij', jk') in
      let a' = a ∙ ap image g ∙ image-of j ij js in
      let b' = b ∙ ap image h ∙ image-of k ik s in
      swap-passes P R.some R.valid i m R.count R.index t R.table-is.product-is j k (among j ij js)
      (among k ik s) jk
      ∙ sym (ap₂ eqb (l ∙ ap₂ t b' a')
      (r ∙ ap₂ t (ab ∙ ap₂ t a' b') (c ∙ ap image d ∙ image-commutator k j ij jk s)))

  own : i < L.gens + 1 → power i ≡ number P.prime (drop i (power_word P i))
  own l = R.powers-are i (omega arith) (let e = R.gens-is in omega (arith, l, e))

  pub fixed-tells : {w x : ℕ} → w ≡ power i → x ≡ image w → Passes (fixed_test P mul i m) (eqb x w)
  fixed-tells w x =
      let o = L.inside in
      let l : i < L.gens + 1 = omega (arith, o) in
      fixed-passes P R.some R.valid i m R.count R.index t R.table-is.product-is
      ∙ sym (ap₂ eqb (x ∙ ap image w ∙ image-power i (omega arith) l) (w ∙ own l))

  pub twist-tells : {w g y l r : ℕ} → (j : ℕ) → i < j → j < L.gens + 1 → w ≡ power i → g ≡ generator j
      → y ≡ iterate (at L.images.items) L.prime g → l ≡ t w y → r ≡ t g w
      → Passes (twist_test P mul i m j) (eqb l r)
  twist-tells j h k w g y l r =
      let h' : i < j = h in
      let w' = w ∙ own (omega (arith, h', k)) in
      let g' : generator j ≡ P.prime ^ (j - suc i) =
      R.generators-are j h (let e = R.gens-is in omega (arith, k, e)) in
      let agree =
      iterate-agree L.table.width α (at L.images.items) (λ k b. sym (R.images-are k b)) L.images_below.small
      L.prime (generator j) (L.generators_below.small j k) in
      twist-passes P R.some R.valid i m R.count R.index t R.table-is.product-is j (among j h k)
      ∙ sym (ap₂ eqb
      (l ∙ ap₂ t w' (y ∙ ap (iterate (at L.images.items) L.prime) g ∙ sym agree.0
      ∙ ap₂ (iterate α) R.prime-is g'))
      (r ∙ ap₂ t (g ∙ g') w'))

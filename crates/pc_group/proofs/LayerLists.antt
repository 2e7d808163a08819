-- The lists of a layer are those of a presentation's.
use Rattle.std.proofs.Common.{◌≡◌, ℕ, suc, sym, ◌∙◌, ap, ap₂, subst, subst₂, ◌+◌, ◌-◌, ◌*◌, ◌/◌, ◌%◌, ◌^◌}
use Rattle.std.proofs.Common.{◌<◌, ◌≤◌, arith, List, get_or, drop, length, mod-eq_of_lt}
use Rattle.std.proofs.Math.Nat.{div-lt_iff_lt-mul, div-eq_of_lt, mul-add-mod_self_right, mul-add-div_right}
use Rattle.std.proofs.lemmas.Nat.{pow-add}
use Rattle.power_commutator.specs.Presentations.{Presentation as Presented, IsPresentation, ascending, number}
use Rattle.power_commutator.specs.Presentations.{word_of, power_word, commutator_word}
use Rattle.power_commutator.specs.Steps.{step_alpha}
use Rattle.pc_group.specs.declared.square.Square.{Square}
use Rattle.pc_group.specs.declared.word_numbers.WordNumbers.{WordNumbers}
use Rattle.pc_group.specs.Tables.{at, AreNumbers, Each}
use Rattle.pc_group.specs.Squares.{times, IsTableOf}
use Rattle.pc_group.specs.WordNumbers.{AreWordNumbers}
use Rattle.pc_group.proofs.LayerTables.{number-drop, images-from}
use Rattle.pc_group.proofs.Powers.{pow-some}

-- a number below p^n, over p^i
pub scaled-below : (p i m n x : ℕ) → 1 < p → i + m ≡ n → x < p ^ n → x / p ^ i < p ^ m
scaled-below p i m n x s e l =
    let whole : p ^ n ≡ p ^ m * p ^ i = ap (λ n. p ^ n) (let z : n ≡ m + i = omega (arith, e) in z)
    ∙ pow-add p m i in
    (div-lt_iff_lt-mul {k = p ^ i} {x = x} {y = p ^ m} (pow-some p i (omega (arith, s)))).1
    (omega (arith, l, whole))

-- each number over s
abbrev pub AreScaled : ℕ → (numbers own : List ℕ) → Type 0
AreScaled s numbers own = Each (λ k x. x ≡ get_or numbers k 0 / s) (length numbers) own

module _ (P : Presented) (i : ℕ) (s : 1 < P.prime) (e : i ≤ P.gens) (S : Square)
    (R : IsTableOf P (suc i) (P.gens - i) S) where
  abbrev m : ℕ
  m = P.gens - i

  count : i + m ≡ P.gens
  count = omega (arith, e)

  below : (x : ℕ) → x < P.prime ^ P.gens → x / P.prime ^ i < S.width
  below x l = subst (λ w. x / P.prime ^ i < w) (sym R.width-is) (scaled-below P.prime i m P.gens x s count l)

  -- numbers of elements become numbers of elements of the layer
  pub scaled-numbers : (n : ℕ) (numbers own : List ℕ) → length numbers ≡ n
      → ((k : ℕ) → k < n → get_or numbers k 0 < P.prime ^ P.gens)
      → AreScaled (P.prime ^ i) numbers own → AreNumbers n S.width own
  scaled-numbers n numbers own z b h = record {
    len = h.0 ∙ z;
    small = λ k l.
        subst (λ x. x < S.width) (sym (h.1 k (omega (arith, l, z)))) (below (get_or numbers k 0) (b k l));
  }

-- the numbers of the words of P, over p^i, are those of the words in the layer after g_i
module _ (P : Presented) (i : ℕ) (s : 1 < P.prime) (V : IsPresentation P) (h : 0 < i) (W : WordNumbers)
    (A : AreWordNumbers P W) (own : List ℕ) where
  pub powers-are : AreScaled (P.prime ^ i) W.powers.items own → (j : ℕ) → i ≤ j → j ≤ P.gens
      → at own j ≡ number P.prime (drop i (power_word P j))
  powers-are M j a l =
      let len = A.powers-are.0 in
      M.1 j (omega (arith, l, len))
      ∙ ap (λ t. t / P.prime ^ i) ((A.powers-are.1 j (omega (arith, l))).0 (omega (arith, a, h)))
      ∙ sym (number-drop P.prime (omega (arith, s)) i (power_word P j)
      (V.power j (omega (arith, a, h)) l).small)

  place : (n k j : ℕ) → j ≤ n → k ≤ n → k * (n + 1) + j < (n + 1) * (n + 1)
  place n k j a b = grind arith

  -- the number of the word of [g_k, g_j] in the list of all words
  at-place : (k j : ℕ) → 0 < j → j < k → k ≤ P.gens
      → at W.commutators.items (k * (P.gens + 1) + j) ≡ number P.prime (commutator_word P k j)
  at-place k j a l b =
      let l' : j < k = l in
      let row : (k * (P.gens + 1) + j) / (P.gens + 1) ≡ k =
      mul-add-div_right {m = P.gens + 1} (omega arith) k j
      ∙ ap (λ d. k + d) (let z : j < P.gens + 1 = omega (arith, l', b) in div-eq_of_lt z)
      ∙ (let z : k + 0 ≡ k = omega arith in z) in
      let column : (k * (P.gens + 1) + j) % (P.gens + 1) ≡ j =
      mul-add-mod_self_right k (P.gens + 1) j
      ∙ (let z : j < P.gens + 1 = omega (arith, l', b) in mod-eq_of_lt z) in
      subst₂ (λ c d. 0 < d → d < c → at W.commutators.items (k * (P.gens + 1) + j) ≡ number P.prime
      (commutator_word P c d)) row column
      (A.commutators-are.1 (k * (P.gens + 1) + j) (place P.gens k j (omega (arith, l', b)) b)).0 a l

  pub commutators-are : AreScaled (P.prime ^ i) W.commutators.items own → (k j : ℕ) → 0 < j → j < k
      → k ≤ P.gens → at own (k * (P.gens + 1) + j) ≡ number P.prime (drop i (commutator_word P k j))
  commutators-are M k j a l b =
      let z = place P.gens k j (let l' : j < k = l in omega (arith, l', b)) b in
      let len = A.commutators-are.0 in
      M.1 (k * (P.gens + 1) + j) (omega (arith, z, len))
      ∙ ap (λ t. t / P.prime ^ i) (at-place k j a l b)
      ∙ sym (number-drop P.prime (omega (arith, s)) i (commutator_word P k j)
      (V.commutator k j a l b).small)

-- what the lists of generators, of elements g_j c_{j,i} and of images are made of, for a prime p and n
-- generators in all
abbrev pub AreGenerators : (p n i : ℕ) → List ℕ → Type 0
AreGenerators p n i generators =
    Each (λ j x. (i < j → x ≡ p ^ (j - suc i)) × x < p ^ (n - i)) (n + 1) generators

abbrev pub AreElements : Square → (n i : ℕ) → (generators commutators elements : List ℕ) → Type 0
AreElements S n i generators commutators elements =
    Each (λ j x. (i < j → x ≡ times S (at generators j) (at commutators (j * (n + 1) + i))) × x < S.width)
    (n + 1) elements

abbrev pub AreImages : Square → (p i : ℕ) → (elements images : List ℕ) → Type 0
AreImages S p i elements images =
    Each (λ k x. (x ≡ ascending (times S) 0 (at elements) (i + 1) (word_of p (length elements - (i + 1)) k))
    × x < S.width) S.width images

-- the images are those under α_i
pub images-are : (P : Presented) (i : ℕ) → i ≤ P.gens → (S : Square)
    → (generators commutators elements images : List ℕ)
    → AreGenerators P.prime P.gens i generators
    → ((j : ℕ) → i < j → j ≤ P.gens
    → at commutators (j * (P.gens + 1) + i) ≡ number P.prime (drop i (commutator_word P j i)))
    → AreElements S P.gens i generators commutators elements
    → AreImages S P.prime i elements images
    → (k : ℕ) → k < S.width → at images k ≡ step_alpha P (times S) i (P.gens - i) k
images-are P i e S generators commutators elements images G C E I k l =
    (I.1 k l).0
    ∙ images-from P (times S) i (P.gens - i) elements
    (let z = E.0 in omega (arith, z, e))
    (λ j a b.
    (E.1 j (omega (arith, b, e))).0 a
    ∙ ap₂ (times S) ((G.1 j (omega (arith, b, e))).0 a) (C j a (omega (arith, b, e)))) k

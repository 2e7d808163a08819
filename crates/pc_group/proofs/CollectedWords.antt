-- Collection keeps the product.
use Rattle.std.proofs.Common.{◌≡◌, ℕ, zero, suc, ◌+◌, ◌-◌, ◌^◌, ◌<◌, ◌≤◌, ◌⊎◌, inl, inr, true, false, leb}
use Rattle.std.proofs.Common.{refl, sym, ◌∙◌, ap, ap₂, subst, arith, List, [], ◌∷◌, ◌++◌, length, get_or}
use Rattle.std.proofs.Common.{take, drop, append_assoc, length-take, length-drop, length-append, replicate}
use Rattle.std.proofs.Common.{drop-cons}
use Rattle.std.specs.List.{All, refill}
use Rattle.std.proofs.Math.Nat.{pow-le-pow_left}
use Rattle.std.proofs.lemmas.Nat.{pow_below}
use Rattle.std.proofs.lemmas.Bool.Decides.{leb_tells}
use Rattle.std.proofs.Math.Seq.{take-suc, take-suc-set, take-append_seam}
use Rattle.std.proofs.Math.ListN.{set, drop_of_length-le}
use Rattle.std.proofs.lemmas.List.{take-append-drop, length-replicate, length-set, get_or-take}
use Rattle.std.proofs.lemmas.List.Elements.{All-nil, All-cons, All-head, All-tail, All-append, All-take}
use Rattle.std.proofs.lemmas.List.Elements.{All-drop, All-get_or, All-replicate, All-weaker}
use Rattle.power_commutator.specs.Presentations.{Presentation as Presented, IsWord, IsPresentation, multiply}
use Rattle.power_commutator.specs.Presentations.{generator, power_word, commutator_word}
use Rattle.power_commutator.specs.Claims.{GroupClaims}
use Rattle.power_commutator.specs.Collect.{product_of, copies, spell}
use Rattle.power_commutator.proofs.Collecting.{product-append, product-spell, product-last, product-word}
use Rattle.power_commutator.proofs.Collecting.{generator-word, power-step, swap-step}
use Rattle.pc_group.specs.Collection.{passed}

-- a consistent presentation has few generators
pub few-generators : (p n : ℕ) → 1 < p → p ^ n ≤ 256 → n ≤ 8
few-generators p n s few = go (leb_tells n 8)
  where
    go : ((leb n 8 ≡ true) × (n ≤ 8)) ⊎ ((leb n 8 ≡ false) × (8 < n)) → n ≤ 8
    go (inl h) = h.1
    go (inr h) =
        let above : 2 ^ 8 < 2 ^ n = pow_below 8 n h.1 in
        let most : 2 ^ n ≤ p ^ n = pow-le-pow_left s n in
        absurd (omega (arith, above, most, few))

append-nil : (xs : List ℕ) → xs ++ [] ≡ xs
append-nil [] = refl
append-nil (x ∷ xs) = ap (λ t. x ∷ t) (append-nil xs)

-- one factor more
pub copies-last : (e k : ℕ) → copies e k ++ (k ∷ []) ≡ copies (suc e) k
copies-last zero k = refl
copies-last (suc e) k = ap (λ t. k ∷ t) (copies-last e k)

pub spell-append : (i : ℕ) (xs ys : List ℕ) → spell i (xs ++ ys) ≡ spell i xs ++ spell (i + length xs) ys
spell-append i [] ys = let e : i ≡ i + 0 = omega arith in ap (λ j. spell j ys) e
spell-append i (x ∷ xs) ys =
    let e : suc i + length xs ≡ i + suc (length xs) = omega arith in
    ap (λ t. copies x i ++ t) (spell-append (suc i) xs ys ∙ ap (λ j. spell (suc i) xs ++ spell j ys) e)
    ∙ sym (append_assoc (copies x i) (spell (suc i) xs) (spell (i + suc (length xs)) ys))

-- exponents 0 have no factors
spell-none : (i : ℕ) (xs : List ℕ) → ((k : ℕ) → k < length xs → get_or xs k 0 ≡ 0) → spell i xs ≡ []
spell-none i [] z = refl
spell-none i (x ∷ xs) z =
    let e : x ≡ 0 = z 0 (omega arith) in
    ap (λ t. copies t i ++ spell (suc i) xs) e ∙ spell-none (suc i) xs (λ k h. z (suc k) (omega (arith, h)))

spell-zeros : (i m : ℕ) → spell i (replicate m 0) ≡ []
spell-zeros i zero = refl
spell-zeros i (suc m) = spell-zeros (suc i) m

copies-all : (P : ℕ → Type 0) (e i : ℕ) → P i → All P (copies e i)
copies-all P zero i h = All-nil P
copies-all P (suc e) i h = All-cons P i (copies e i) h (copies-all P e i h)

-- the factors of exponents from g_i on are among the generators from g_i on
spell-range : (i : ℕ) (xs : List ℕ) → All (λ j. (i ≤ j) × (j < i + length xs)) (spell i xs)
spell-range i [] = All-nil _
spell-range i (x ∷ xs) =
    let P : ℕ → Type 0 = λ j. (i ≤ j) × (j < i + suc (length xs)) in
    All-append P (copies x i) (spell (suc i) xs)
    (copies-all P x i (omega arith, omega arith))
    (All-weaker (λ j. (suc i ≤ j) × (j < suc i + length xs)) P
    (λ j h. (omega (arith, h.0), omega (arith, h.1))) (spell (suc i) xs) (spell-range (suc i) xs))

-- the first k exponents, and those after them
spell-split : (k : ℕ) (w : List ℕ) → k ≤ length w → spell 1 w ≡ spell 1 (take k w) ++ spell (suc k) (drop k w)
spell-split k w h =
    ap (spell 1) (sym (take-append-drop k w))
    ∙ spell-append 1 (take k w) (drop k w)
    ∙ (let e : 1 + length (take k w) ≡ suc k = omega (
      arith,
      h,
      length-take k w,
    ) in ap (λ j. spell 1 (take k w) ++ spell j (drop k w)) e)

spell-place : (i : ℕ) (w : List ℕ) → i < length w
    → spell 1 (take (suc i) w) ≡ spell 1 (take i w) ++ copies (get_or w i 0) (suc i)
spell-place i w h =
    ap (spell 1) (take-suc w i 0 h)
    ∙ spell-append 1 (take i w) (get_or w i 0 ∷ [])
    ∙ (let e : 1 + length (take i w) ≡ suc i = omega (arith, h, length-take i w) in
    ap (λ j. spell 1 (take i w) ++ (copies (get_or w i 0) j ++ [])) e)
    ∙ ap (λ t. spell 1 (take i w) ++ t) (append-nil (copies (get_or w i 0) (suc i)))

take-zeros : (P : Presented) (j : ℕ) (w : List ℕ) → IsWord P.prime P.gens j w → j ≤ P.gens
    → spell 1 (take j w) ≡ []
take-zeros P j w v h = spell-none 1 (take j w)
    (λ k l. let q : k < j = omega (arith, l, length-take j w) in get_or-take j w k 0 q ∙ v.later k q)

-- the factors of a word of generators after g_j are after g_j
pub word-after : (P : Presented) (j : ℕ) (w : List ℕ) → IsWord P.prime P.gens j w → j ≤ P.gens
    → All (λ i. (j < i) × (i ≤ P.gens)) (spell 1 w)
word-after P j w v h =
    let e : spell 1 w ≡ spell (suc j) (drop j w) =
    spell-split j w (omega (arith, h, v.len))
    ∙ ap (λ t. t ++ spell (suc j) (drop j w)) (take-zeros P j w v h) in
    let range : All (λ i. (suc j ≤ i) × (i < suc j + length (drop j w))) (spell (suc j) (drop j w)) =
    spell-range (suc j) (drop j w) in
    subst (All (λ i. (j < i) × (i ≤ P.gens))) (sym e)
    (All-weaker (λ i. (suc j ≤ i) × (i < suc j + length (drop j w))) (λ i. (j < i) × (i ≤ P.gens))
    (λ i r. (omega (arith, r.0), omega (arith, r.1, length-drop j w, v.len, h)))
    (spell (suc j) (drop j w)) range)

-- the factors after g_k of a word
pub right-after : (P : Presented) (k : ℕ) (w : List ℕ) → length w ≡ P.gens → k ≤ P.gens
    → All (λ i. (k < i) × (i ≤ P.gens)) (spell (suc k) (drop k w))
right-after P k w e h =
    All-weaker (λ i. (suc k ≤ i) × (i < suc k + length (drop k w))) (λ i. (k < i) × (i ≤ P.gens))
    (λ i r. (omega (arith, r.0), omega (arith, r.1, length-drop k w, e, h))) (spell (suc k) (drop k w))
    (spell-range (suc k) (drop k w))

-- what g_k passes stays after g_k
pub passed-after : (P : Presented) → IsPresentation P → (k : ℕ) → 0 < k → (js : List ℕ)
    → All (λ i. (k < i) × (i ≤ P.gens)) js
    → All (λ i. (k < i) × (i ≤ P.gens)) (passed P k js)
passed-after P v k s [] h = All-nil _
passed-after P v k s (j ∷ js) h =
    let Q : ℕ → Type 0 = λ i. (k < i) × (i ≤ P.gens) in
    let here : (k < j) × (j ≤ P.gens) = All-head Q j js h in
    All-cons Q j (spell 1 (commutator_word P j k) ++ passed P k js) here
    (All-append Q (spell 1 (commutator_word P j k)) (passed P k js)
    (All-weaker (λ i. (j < i) × (i ≤ P.gens)) Q (λ i r. (omega (arith, r.0, here.0), r.1))
    (spell 1 (commutator_word P j k))
    (word-after P j (commutator_word P j k) (v.commutator j k s here.0 here.1) here.1))
    (passed-after P v k s js (All-tail Q j js h)))

module _ (P : Presented) (s : 1 < P.prime) (v : IsPresentation P) (C : GroupClaims P) where
  abbrev mul : List ℕ → List ℕ → List ℕ
  mul = multiply P

  abbrev g : ℕ → List ℕ
  g = generator 1 P.gens

  -- g_k passes the generators after it
  moved : (k : ℕ) → 0 < k → (js : List ℕ) → All (λ i. (k < i) × (i ≤ P.gens)) js
      → product_of P (js ++ (k ∷ [])) ≡ product_of P (k ∷ passed P k js)
  moved k z [] h = refl
  moved k z (j ∷ js) h =
      let here : (k < j) × (j ≤ P.gens) = All-head (λ i. (k < i) × (i ≤ P.gens)) j js h in
      ap (mul (g j)) (moved k z js (All-tail (λ i. (k < i) × (i ≤ P.gens)) j js h))
      ∙ swap-step P s v C [] (passed P k js) j k z here.0 here.1

  -- g_k goes to its place, and then come the generators that it passed
  pub collected : (w : List ℕ) (k : ℕ) → IsWord P.prime P.gens 0 w → 0 < k → k ≤ P.gens
      → mul (product_of P (spell 1 (take k w) ++ (k ∷ [])))
      (product_of P (passed P k (spell (suc k) (drop k w)))) ≡ mul w (g k)
  collected w k x z l =
      let left = spell 1 (take k w) in
      let right = spell (suc k) (drop k w) in
      sym (product-append P s v C (left ++ (k ∷ [])) (passed P k right))
      ∙ ap (product_of P) (append_assoc left (k ∷ []) (passed P k right))
      ∙ product-append P s v C left (k ∷ passed P k right)
      ∙ ap (mul (product_of P left)) (sym (moved k z right (right-after P k w x.len l)))
      ∙ sym (product-append P s v C left (right ++ (k ∷ [])))
      ∙ ap (product_of P) (sym (append_assoc left right (k ∷ []))
      ∙ ap (λ t. t ++ (k ∷ [])) (sym (spell-split k w (omega (arith, x.len, l)))))
      ∙ product-last P s v C (spell 1 w) k
      ∙ ap (λ t. mul t (g k)) (product-spell P s v C w x)

  -- g_k in its place, where its exponent stays below p
  pub put-below : (w : List ℕ) (i m : ℕ) → IsWord P.prime P.gens 0 w → suc i + m ≡ P.gens
      → suc (get_or w i 0) < P.prime
      → take (suc i) (set w i (suc (get_or w i 0))) ++ replicate m 0 ≡ product_of P
      (spell 1 (take (suc i) w) ++ (suc i ∷ []))
  put-below w i m x e l =
      let h : i < length w = omega (arith, x.len, e) in
      let a = get_or w i 0 in
      let first = take i w ++ (suc a ∷ []) in
      let Small : ℕ → Type 0 = λ b. b < P.prime in
      let len : length first ≡ suc i = omega (
        arith,
        length-append (take i w) (suc a ∷ []),
        length-take i w,
        h,
      ) in
      let new : IsWord P.prime P.gens 0 (first ++ replicate m 0) = record {
        len = omega (arith, length-append first (replicate m 0), len, length-replicate {A = ℕ} m 0, e);
        small = All-append Small first (replicate m 0)
            (All-append Small (take i w) (suc a ∷ []) (All-take Small i w x.small)
            (All-cons Small (suc a) [] l (All-nil Small)))
            (All-replicate Small m 0 (omega (arith, s)));
        later = λ k q. absurd (omega (arith, q));
      } in
      let spelled : spell 1 (first ++ replicate m 0) ≡ spell 1 (take (suc i) w) ++ (suc i ∷ []) =
      spell-append 1 first (replicate m 0)
      ∙ ap (λ t. spell 1 first ++ t) (spell-zeros (1 + length first) m)
      ∙ append-nil (spell 1 first)
      ∙ spell-append 1 (take i w) (suc a ∷ [])
      ∙ (let q : 1 + length (take i w) ≡ suc i = omega (arith, h, length-take i w) in
      ap (λ j. spell 1 (take i w) ++ (copies (suc a) j ++ [])) q)
      ∙ ap (λ t. spell 1 (take i w) ++ t) (append-nil (copies (suc a) (suc i)) ∙ sym (copies-last a (suc i)))
      ∙ sym (append_assoc (spell 1 (take i w)) (copies a (suc i)) (suc i ∷ []))
      ∙ ap (λ t. t ++ (suc i ∷ [])) (sym (spell-place i w h)) in
      ap (λ t. t ++ replicate m 0) (take-suc-set w i (suc a) h)
      ∙ sym (product-spell P s v C (first ++ replicate m 0) new)
      ∙ ap (product_of P) spelled

  -- g_k in its place, where its exponent comes to p
  pub put-power : (w : List ℕ) (i : ℕ) → IsWord P.prime P.gens 0 w → i < P.gens → suc (get_or w i 0) ≡ P.prime
      → take i w ++ drop i (power_word P (suc i)) ≡ product_of P (spell 1 (take (suc i) w) ++ (suc i ∷ []))
  put-power w i x l e =
      let h : i < length w = omega (arith, x.len, l) in
      let u = power_word P (suc i) in
      let U : IsWord P.prime P.gens (suc i) u = v.power (suc i) (omega arith) (omega (arith, l)) in
      let U' : IsWord P.prime P.gens i u =
      record { len = U.len; small = U.small; later = λ k q. U.later k (omega (arith, q)) } in
      let Small : ℕ → Type 0 = λ b. b < P.prime in
      let new : IsWord P.prime P.gens 0 (take i w ++ drop i u) = record {
        len = omega (
          arith,
          length-append (take i w) (drop i u),
          length-take i w,
          length-drop i u,
          U.len,
          x.len,
          l,
        );
        small = All-append Small (take i w) (drop i u) (All-take Small i w x.small)
            (All-drop Small i u U.small);
        later = λ k q. absurd (omega (arith, q));
      } in
      let factors : spell 1 u ≡ spell (suc i) (drop i u) =
      spell-split i u (omega (arith, U.len, l))
      ∙ ap (λ t. t ++ spell (suc i) (drop i u)) (take-zeros P i u U' (omega (arith, l))) in
      let spelled : spell 1 (take i w ++ drop i u) ≡ spell 1 (take i w) ++ spell 1 u =
      spell-append 1 (take i w) (drop i u)
      ∙ (let q : 1 + length (take i w) ≡ suc i = omega (
        arith,
        h,
        length-take i w,
      ) in ap (λ j. spell 1 (take i w) ++ spell j (drop i u)) q)
      ∙ ap (λ t. spell 1 (take i w) ++ t) (sym factors) in
      sym (product-spell P s v C (take i w ++ drop i u) new)
      ∙ ap (product_of P) (spelled ∙ ap (λ t. spell 1 (take i w) ++ t) (sym (append-nil (spell 1 u))))
      ∙ sym (power-step P s v C (spell 1 (take i w)) [] (suc i) (omega arith) (omega (arith, l)))
      ∙ ap (product_of P)
      (ap (λ t. spell 1 (take i w) ++ t) (append-nil (copies P.prime (suc i))
      ∙ ap (λ t. copies t (suc i)) (sym e) ∙ sym (copies-last (get_or w i 0) (suc i)))
      ∙ sym (append_assoc (spell 1 (take i w)) (copies (get_or w i 0) (suc i)) (suc i ∷ []))
      ∙ ap (λ t. t ++ (suc i ∷ [])) (sym (spell-place i w h)))

  -- one generator more is collected: the product of the word and of what is left stays
  pub collected-more : (w w' js : List ℕ) (i : ℕ) (x : List ℕ) → IsWord P.prime P.gens 0 w
      → w' ≡ mul w (g (get_or js i 0)) → i < length js
      → mul w (product_of P (drop i js)) ≡ x
      → IsWord P.prime P.gens 0 w' × (mul w' (product_of P (drop (i + 1) js)) ≡ x)
  collected-more w w' js i x v' e h q =
      let j = get_or js i 0 in
      let one : i + 1 ≡ suc i = omega arith in (
        subst (IsWord P.prime P.gens 0) (sym e) (C.group.closed w (g j) v' (generator-word P s v C j)),
        ap₂ (λ a b. mul a (product_of P (drop b js))) e one
            ∙ C.group.mul-assoc w (g j) (product_of P (drop (suc i) js)) v' (generator-word P s v C j)
            (product-word P s v C (drop (suc i) js))
            ∙ ap (λ t. mul w (product_of P t)) (sym (drop-cons js i 0 h))
            ∙ q,
      )

  -- all is collected
  pub collected-all : (w js : List ℕ) (i : ℕ) (x : List ℕ) → IsWord P.prime P.gens 0 w → length js ≤ i
      → mul w (product_of P (drop i js)) ≡ x → w ≡ x
  collected-all w js i x v' h q =
      sym (C.group.mul-one w v') ∙ ap (λ t. mul w (product_of P t)) (sym (drop_of_length-le js h)) ∙ q

  -- the same as a write to the word leaves it
  pub put-below-written : (w ys : List ℕ) (k a b t m : ℕ) → IsWord P.prime P.gens 0 w → 0 < k → k ≤ P.gens
      → a ≡ k → length w ≤ a + b
      → t ≡ suc (get_or w (k - 1) 0) → t < P.prime → ys ≡ replicate m 0 → k + m ≡ P.gens
      → take a (set w (k - 1) t) ++ (ys ++ drop b (drop a (set w (k - 1) t))) ≡ product_of P
      (spell 1 (take k w) ++ (k ∷ []))
  put-below-written w ys k a b t m x z l ea long et small ey em =
      let i = k - 1 in
      let ek : k ≡ suc i = omega (arith, z) in
      let xs = set w i t in
      ap (λ r. take a xs ++ (ys ++ r)) (drop_of_length-le (drop a xs)
      (omega (arith, long, length-drop a xs, length-set w i t)))
      ∙ ap (λ r. take a xs ++ r) (append-nil ys)
      ∙ ap (λ j. take j xs ++ ys) (ea ∙ ek)
      ∙ ap (λ j. take (suc i) (set w i j) ++ ys) et
      ∙ ap (λ r. take (suc i) (set w i (suc (get_or w i 0))) ++ r) ey
      ∙ put-below w i m x (omega (arith, ek, em)) (omega (arith, et, small))
      ∙ ap (λ j. product_of P (spell 1 (take j w) ++ (j ∷ []))) (sym ek)

  pub put-power-written : (w ys : List ℕ) (k b : ℕ) → IsWord P.prime P.gens 0 w → 0 < k → k ≤ P.gens
      → length w ≤ (k - 1) + b
      → P.prime ≤ suc (get_or w (k - 1) 0) → ys ≡ drop (k - 1) (power_word P k)
      → take (k - 1) w ++ (ys ++ drop b (drop (k - 1) w)) ≡ product_of P (spell 1 (take k w) ++ (k ∷ []))
  put-power-written w ys k b x z l long large ey =
      let i = k - 1 in
      let ek : k ≡ suc i = omega (arith, z) in
      let small : get_or w i 0 < P.prime =
      All-get_or (λ e. e < P.prime) w i 0 (omega (arith, x.len, l, ek)) x.small in
      ap (λ r. take i w ++ (ys ++ r)) (drop_of_length-le (drop i w) (omega (arith, long, length-drop i w)))
      ∙ ap (λ r. take i w ++ r) (append-nil ys ∙ ey ∙ ap (λ j. drop i (power_word P j)) ek)
      ∙ put-power w i x (omega (arith, ek, l)) (omega (arith, small, large))
      ∙ ap (λ j. product_of P (spell 1 (take j w) ++ (j ∷ []))) (sym ek)

-- a whole list in place of another of its length
pub refilled : (xs ys : List ℕ) → length ys ≡ length xs → refill (length xs) xs ys ≡ ys
refilled xs ys e = ap (λ n. take n (ys ++ drop (length ys) xs)) (sym e)
    ∙ take-append_seam ys (drop (length ys) xs)

-- What a loop over the layers needs: a word's number in a layer, the images from the elements, and the next
-- layer's table.
use Rattle.std.proofs.Common.{◌≡◌, ℕ, zero, suc, refl, sym, ◌∙◌, ap, ap₂, ◌+◌, ◌-◌, ◌*◌, ◌/◌, ◌^◌, ◌<◌, ◌≤◌}
use Rattle.std.proofs.Common.{arith, ◌%◌, ◌⊎◌, inl, inr, subst, List, [], ◌∷◌, ◌++◌, get_or, drop, length}
use Rattle.std.proofs.Common.{length-append, All, mod-eq_of_lt}
use Rattle.std.proofs.Math.Nat.{pow-zero, pow-succ', mul-add-div, div-eq_of_lt, div-div-eq-div-mul, div-one}
use Rattle.std.proofs.Math.Nat.{zero-div, mul-add-mod_self_right, mul-add-div_right}
use Rattle.std.proofs.Math.ListN.{get_or-append}
use Rattle.std.proofs.Math.Seq.{get_or-append_seam}
use Rattle.std.proofs.lemmas.List.Elements.{All-head, All-tail}
use Rattle.power_commutator.specs.Presentations.{Presentation, IsPresentation, pow, ascending, number}
use Rattle.power_commutator.specs.Presentations.{word_of, power_word, commutator_word}
use Rattle.power_commutator.specs.Steps.{step_table, step_alpha, IsLayerTable}
use Rattle.power_commutator.proofs.Cyclic.{less-or}
use Rattle.power_commutator.proofs.Program.{next-table, same-table, same-step, number-below}
use Rattle.pc_group.specs.Tables.{entry_of, at, AreNumbers, IsSquare, HasEntries}

-- the number of a word in the layer after g_i is the word's number over p^i
pub number-drop : (p : ℕ) → 0 < p → (i : ℕ) (w : List ℕ) → All (λ e. e < p) w
    → number p (drop i w) ≡ number p w / p ^ i
number-drop p s zero w h = sym (ap (λ d. number p w / d) (pow-zero p) ∙ div-one (number p w))
number-drop p s (suc i) [] h = sym (zero-div (p ^ suc i))
number-drop p s (suc i) (e ∷ w) h =
    number-drop p s i w (All-tail (λ e. e < p) e w h)
    ∙ ap (λ t. t / p ^ i)
    (sym
    (ap (λ t. t / p) (let z : e + p * number p w ≡ p * number p w + e = omega arith in z)
    ∙ mul-add-div s (number p w) e ∙ ap (λ t. number p w + t) (div-eq_of_lt (All-head (λ e. e < p) e w h))
    ∙ (let z : number p w + 0 ≡ number p w = omega arith in z)))
    ∙ div-div-eq-div-mul (e + p * number p w) p (p ^ i)
    ∙ ap (λ d. (e + p * number p w) / d) (sym (pow-succ' p i))

pub ascending-list : {A : Type 0} (mul : A → A → A) (one : A) (u v : ℕ → A) (j : ℕ) (xs : List ℕ)
    → ((k : ℕ) → j ≤ k → k < j + length xs → u k ≡ v k) → ascending mul one u j xs ≡ ascending mul one v j xs
ascending-list mul one u v j [] h = refl
ascending-list mul one u v j (x ∷ xs) h =
    ap₂ mul (ap (λ t. pow mul one t x) (h j (omega arith) (omega arith)))
    (ascending-list mul one u v (suc j) xs
    (λ k a b. h k (let a' : suc j ≤ k = a in omega (arith, a')) (omega (arith, b))))

length-word : (p m k : ℕ) → length (word_of p m k) ≡ m
length-word p zero k = refl
length-word p (suc m) k = ap suc (length-word p m (k / p))

-- α_i from a list of the elements g_j c_{j,i}
pub images-from : (P : Presentation) (t : ℕ → ℕ → ℕ) (i m : ℕ) (E : List ℕ) → length E ≡ suc i + m
    → ((j : ℕ) → i < j → j < suc i + m → get_or E j 0 ≡ t (P.prime ^ (j - suc i))
    (number P.prime (drop i (commutator_word P j i))))
    → (k : ℕ) → ascending t 0 (at E) (i + 1) (word_of P.prime (length E - (i + 1)) k) ≡ step_alpha P t i m k
images-from P t i m E l h k =
    ap₂ (λ a b. ascending t 0 (at E) a (word_of P.prime b k)) (let z : i + 1 ≡ suc i = omega arith in z)
    (let z : length E - (i + 1) ≡ m = omega (arith, l) in z)
    ∙ ascending-list t 0 (at E) _ (suc i) (word_of P.prime m k)
    (λ j a b. h j a (let w = length-word P.prime m k in omega (arith, b, w)))

-- one entry more
pub entries-next : (W : ℕ) (t : ℕ → ℕ → ℕ) (n : ℕ) (ts out : List ℕ) (x : ℕ) → HasEntries W t n ts
    → x ≡ t (n / W) (n % W) → x < W → out ≡ ts ++ x ∷ [] → HasEntries W t (n + 1) out
entries-next W t n ts out x H e l z = (
  ap length z ∙ length-append ts (x ∷ []) ∙ ap (λ k. k + 1) H.0,
  λ k h. go k (less-or k n) h,
)
  where
    go : (k : ℕ) → (k < n) ⊎ (n ≤ k) → k < n + 1 → (get_or out k 0 ≡ t (k / W) (k % W)) × get_or out k 0 < W
    go k (inl a) h =
        let b = H.0 in
        let old : get_or out k 0 ≡ get_or ts k 0 = ap (λ xs. get_or xs k 0) z
        ∙ get_or-append ts (x ∷ []) 0 k (omega (arith, a, b)) in
        subst (λ y. (y ≡ t (k / W) (k % W)) × y < W) (sym old) (H.1 k a)
    go k (inr a) h =
        let b = H.0 in
        let end : k ≡ length ts = omega (arith, a, h, b) in
        let last : get_or out k 0 ≡ x = ap₂ (λ xs j. get_or xs j 0) z end
        ∙ get_or-append_seam ts x [] 0 in
        let same : n ≡ k = omega (arith, a, h) in
        (last ∙ e ∙ ap (λ j. t (j / W) (j % W)) same, subst (λ y. y < W) (sym last) l)

entry-is : (W : ℕ) (t : ℕ → ℕ → ℕ) (out : List ℕ) → HasEntries W t (W * W) out → (a b : ℕ) → a < W → b < W
    → entry_of out W a b ≡ t a b
entry-is W t out h a b l k =
    let x = h.1 (a * W + b) (let z : a * W + b < W * W = grind arith in z) in
    x.0 ∙ ap₂ t (mul-add-div_right (omega (arith, k)) a b ∙ ap (λ d. a + d) (div-eq_of_lt k)
    ∙ (let z : a + 0 ≡ a = omega arith in z))
    (mul-add-mod_self_right a W b ∙ mod-eq_of_lt k)

pub square-is : (W : ℕ) (t : ℕ → ℕ → ℕ) (out : List ℕ) → HasEntries W t (W * W) out → IsSquare W out
square-is W t out h = record { len = h.0; small = λ k l. (h.1 k l).1 }

-- the table of the product with g_i is that of layer i
pub table-next : (P : Presentation) (s : 1 < P.prime) (v : IsPresentation P) (i m : ℕ) (e : i + m ≡ P.gens)
    (h : 0 < i) (W : ℕ) (T I out : List ℕ)
    → W ≡ P.prime ^ m → (R : IsLayerTable P (suc i) m (entry_of T W)) → AreNumbers W W I
    → ((k : ℕ) → k < W → get_or I k 0 ≡ step_alpha P (entry_of T W) i m k)
    → HasEntries (P.prime * W) (step_table P.prime (entry_of T W) (number P.prime (drop i (power_word P i)))
    (at I)) (P.prime * W * (P.prime * W)) out
    → IsLayerTable P i (suc m) (entry_of out (P.prime * W))
table-next P s v i m e h W T I out w R M a H =
    same-table P i (suc m) (step_table P.prime (entry_of T W) (number P.prime (drop i (power_word P i)))
    (step_alpha P (entry_of T W) i m)) (entry_of out (P.prime * W))
    (number-below P s (suc m))
    (λ x y l k.
    let z : P.prime ^ suc m ≡ P.prime * W = pow-succ' P.prime m ∙ ap (λ t. P.prime * t) (sym w) in
    same-step P.prime W (entry_of T W) (number P.prime (drop i (power_word P i)))
    (step_alpha P (entry_of T W) i m) (at I) (omega (arith, s))
    (λ k l. sym (a k l)) M.small x y (omega (arith, l, z))
    ∙ sym (entry-is (P.prime * W) (step_table P.prime (entry_of T W)
    (number P.prime (drop i (power_word P i))) (at I)) out H x y (omega (arith, l, z))
    (omega (arith, k, z))))
    (next-table P s v i m e h (entry_of T W) R)

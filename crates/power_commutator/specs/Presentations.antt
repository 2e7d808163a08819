-- Power-commutator presentations, the product of their layers, the consistency tests and the numbers of
-- elements: definitions alone.
use Rattle.std.specs.Prelude.{◌≡◌, ℕ, zero, suc, ◌+◌, ◌-◌, ◌*◌, ◌/◌, ◌%◌, Bool, true, false, eqb, ltb, ◌&&◌}
use Rattle.std.specs.Prelude.{if◌then◌else◌, List, [], ◌∷◌, ◌++◌, map, drop, Option, Some, None, ◌<◌, ◌≤◌}
use Rattle.std.specs.Prelude.{length, get_or, All}
use Rattle.power_commutator.specs.declared.TestName.{TestName}
use Rattle.power_commutator.specs.declared.TestName.TheVariants.{Power, Swap, Fixed, Twist}

-- p, n, the words w_1 to w_n, and for each j the words c_{j,1} to c_{j,j-1}. A word is the list of the
-- exponents of g_1 to g_n
pub record Presentation : Type 0 where
  pub prime : ℕ
  pub gens : ℕ
  pub powers : List (List ℕ)
  pub commutators : List (List (List ℕ))

-- w_i, the word of g_i^p
abbrev pub power_word : Presentation → ℕ → List ℕ
power_word P i = get_or P.powers (i - 1) []

-- c_{j,i}, the word of [g_j, g_i]
abbrev pub commutator_word : Presentation → ℕ → ℕ → List ℕ
commutator_word P j i = get_or (get_or P.commutators (j - 1) []) (i - 1) []

-- w has n exponents below p, and none but 0 of g_1 to g_j
pub record IsWord (p n j : ℕ) (w : List ℕ) : Type 0 where
  pub len : length w ≡ n
  pub small : All (λ e. e < p) w
  pub later : (k : ℕ) → k < j → get_or w k 0 ≡ 0

-- there is one word w_i for each i and one word c_{j,i} for each i < j; w_i has generators after i, and
-- c_{j,i} generators after j
pub record IsPresentation (P : Presentation) : Type 0 where
  pub power-count : length P.powers ≡ P.gens
  pub commutator-count : length P.commutators ≡ P.gens
  pub row-count : (j : ℕ) → 0 < j → j ≤ P.gens → length (get_or P.commutators (j - 1) []) ≡ j - 1
  pub power : (i : ℕ) → 0 < i → i ≤ P.gens → IsWord P.prime P.gens i (power_word P i)
  pub commutator : (j i : ℕ) → 0 < i → i < j → j ≤ P.gens → IsWord P.prime P.gens j (commutator_word P j i)

-- x to the power e
abbrev pub pow : {A : Type 0} → (A → A → A) → A → A → ℕ → A
pow mul one x zero = one
pow mul one x (suc e) = mul x (pow mul one x e)

-- f, applied e times
abbrev pub iterate : {A : Type 0} → (A → A) → ℕ → A → A
iterate f zero x = x
iterate f (suc e) x = f (iterate f e x)

-- the product of the powers of u(j), u(j+1), .. with the exponents e, e', ..
abbrev pub ascending : {A : Type 0} → (A → A → A) → A → (ℕ → A) → ℕ → List ℕ → A
ascending mul one u j [] = one
ascending mul one u j (e ∷ es) = mul (pow mul one (u j) e) (ascending mul one u (suc j) es)

-- the identity and g_k in the layer of the m generators g_j, g_(j+1), ..
abbrev pub identity : ℕ → List ℕ
identity zero = []
identity (suc m) = 0 ∷ identity m

abbrev pub generator : (j m k : ℕ) → List ℕ
generator j zero k = []
generator j (suc m) k = (if eqb j k then 1 else 0) ∷ generator (suc j) m k

-- α_i: the product of the powers of g_j c_{j,i} in layer i + 1, which has m generators and the product mul
abbrev pub alpha : Presentation → (List ℕ → List ℕ → List ℕ) → (i m : ℕ) → List ℕ → List ℕ
alpha P mul i m x = ascending mul (identity m)
    (λ j. mul (generator (suc i) m j) (drop i (commutator_word P j i))) (suc i) x

-- (k, x) where k < p, and (k - p, w x) otherwise
abbrev pub carry : ℕ → (List ℕ → List ℕ → List ℕ) → List ℕ → ℕ → List ℕ → List ℕ
carry p mul w k x = if (ltb k p) then (k ∷ x) else ((k - p) ∷ mul w x)

-- the product of (a, x) and (b, y): (a + b, f^b(x) y), with a carry
abbrev pub extend : ℕ → (List ℕ → List ℕ → List ℕ) → List ℕ → (List ℕ → List ℕ) → List ℕ → List ℕ → List ℕ
extend p mul w f [] y = []
extend p mul w f (a ∷ x) [] = []
extend p mul w f (a ∷ x) (b ∷ y) = carry p mul w (a + b) (mul (iterate f b x) y)

-- the product of layer i, which has m generators
abbrev pub product : Presentation → (i m : ℕ) → List ℕ → List ℕ → List ℕ
product P i zero = λ x y. []
product P i (suc m) = extend P.prime (product P (suc i) m) (drop i (power_word P i))
    (alpha P (product P (suc i) m) i m)

-- an equation between two elements, with the name of its test
pub record Equation : Type 0 where
  pub name : TestName
  pub left : List ℕ
  pub right : List ℕ

-- the m numbers from j on, and the pairs of them in ascending order
abbrev pub range : (j m : ℕ) → List ℕ
range j zero = []
range j (suc m) = j ∷ range (suc j) m

abbrev pub pairs : {A : Type 0} → (ℕ → ℕ → A) → (j m : ℕ) → List A
pairs f j zero = []
pairs f j (suc m) = map (f j) (range (suc j) m) ++ pairs f (suc j) m

-- the tests of layer i: equations in layer i + 1, which has m generators and the product mul
abbrev pub power_test : Presentation → (List ℕ → List ℕ → List ℕ) → (i m j : ℕ) → Equation
power_test P mul i m j =
    let α = alpha P mul i m in
    record {
      name = Power i j;
      left = pow mul (identity m) (α (generator (suc i) m j)) P.prime;
      right = α (drop i (power_word P j));
    }

abbrev pub swap_test : Presentation → (List ℕ → List ℕ → List ℕ) → (i m j k : ℕ) → Equation
swap_test P mul i m j k =
    let α = alpha P mul i m in
    let a = α (generator (suc i) m j) in
    let b = α (generator (suc i) m k) in
    record { name = Swap i j k; left = mul b a; right = mul (mul a b) (α (drop i (commutator_word P k j))) }

abbrev pub fixed_test : Presentation → (List ℕ → List ℕ → List ℕ) → (i m : ℕ) → Equation
fixed_test P mul i m =
    let w = drop i (power_word P i) in
    record { name = Fixed i; left = alpha P mul i m w; right = w }

abbrev pub twist_test : Presentation → (List ℕ → List ℕ → List ℕ) → (i m j : ℕ) → Equation
twist_test P mul i m j =
    let w = drop i (power_word P i) in
    let g = generator (suc i) m j in
    record { name = Twist i j; left = mul w (iterate (alpha P mul i m) P.prime g); right = mul g w }

-- the tests of layer i, in order
abbrev pub equations : Presentation → (List ℕ → List ℕ → List ℕ) → (i m : ℕ) → List Equation
equations P mul i m =
    map (power_test P mul i m) (range (suc i) m)
    ++ (pairs (swap_test P mul i m) (suc i) m ++
    (fixed_test P mul i m ∷ map (twist_test P mul i m) (range (suc i) m)))

-- the tests of the layers of the m generators from g_i on, the last layer first
abbrev pub tests : Presentation → (i m : ℕ) → List Equation
tests P i zero = []
tests P i (suc m) = tests P (suc i) m ++ equations P (product P (suc i) m) i m

-- two lists are equal
abbrev pub same : List ℕ → List ℕ → Bool
same [] [] = true
same [] (y ∷ ys) = false
same (x ∷ xs) [] = false
same (x ∷ xs) (y ∷ ys) = eqb x y && same xs ys

abbrev pub first_false : List Equation → Option TestName
first_false [] = None
first_false (e ∷ es) = if (same e.left e.right) then first_false es else (Some e.name)

-- the first false test
abbrev pub first_fault : Presentation → Option TestName
first_fault P = first_false (tests P 1 P.gens)

-- the group of P: layer 1
abbrev pub multiply : Presentation → List ℕ → List ℕ → List ℕ
multiply P = product P 1 P.gens

-- the number of an element: e_1 + e_2 p + e_3 p^2 and so on; and the element of n exponents with a number
abbrev pub number : ℕ → List ℕ → ℕ
number p [] = 0
number p (e ∷ es) = e + p * number p es

abbrev pub word_of : (p n : ℕ) → ℕ → List ℕ
word_of p zero k = []
word_of p (suc n) k = (k % p) ∷ word_of p n (k / p)

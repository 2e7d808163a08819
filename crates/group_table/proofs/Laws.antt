-- The laws of groups on the numbers below n.
use Rattle.std.proofs.Common.{◌≡◌, ℕ, zero, suc, ◌+◌, ◌*◌, ◌<◌, refl, ap, sym, ◌∙◌, arith}
use Rattle.std.proofs.Math.Nat.{mul-le-mul_left}
use Rattle.group_table.specs.Groups.{IsGroup}
use Rattle.group_table.specs.Tables.{GroupTable, IsGroupTable, order, product, power}

-- the place of row a and column b lies within n rows of n entries
pub place-below : (a b n : ℕ) → a < n → b < n → a * n + b < n * n
place-below a b n i j = omega (arith, mul-le-mul_left n i)

-- a (b x) = x where a b = 0
pub cancel-inverse : {n : ℕ} {mul : ℕ → ℕ → ℕ} → IsGroup n mul → (a b x : ℕ) → a < n → b < n → x < n
    → mul a b ≡ 0 → mul a (mul b x) ≡ x
cancel-inverse {mul = mul} L a b x i j k e = sym (L.mul-assoc a b x i j k) ∙ ap (λ y. mul y x) e
    ∙ L.one-mul x k

-- what is a left inverse of a is each right inverse of a
pub inverse-unique : {n : ℕ} {mul : ℕ → ℕ → ℕ} → IsGroup n mul → (a b c : ℕ) → a < n → b < n → c < n
    → mul b a ≡ 0 → mul a c ≡ 0 → b ≡ c
inverse-unique {mul = mul} L a b c i j k e f =
    sym (L.mul-one b j) ∙ ap (λ x. mul b x) (sym f) ∙ cancel-inverse L b a c j i k e

-- a right inverse is a left inverse
pub inverse-left : {n : ℕ} {mul : ℕ → ℕ → ℕ} → IsGroup n mul → (a b : ℕ) → a < n → b < n → mul a b ≡ 0
    → mul b a ≡ 0
inverse-left {mul = mul} L a b i j e =
    let c = L.inverse a i in
    ap (λ x. mul x a) (sym (inverse-unique L a c.0 b i c.1 j c.3 e)) ∙ c.3

-- a b = a c gives b = c
pub cancel-left : {n : ℕ} {mul : ℕ → ℕ → ℕ} → IsGroup n mul → (a b c : ℕ) → a < n → b < n → c < n
    → mul a b ≡ mul a c → b ≡ c
cancel-left {mul = mul} L a b c i j k e =
    let d = L.inverse a i in
    sym (cancel-inverse L d.0 a b d.1 i j d.3) ∙ ap (λ x. mul d.0 x) e ∙ cancel-inverse L d.0 a c d.1 i k d.3

pub power-below : (G : GroupTable) → IsGroupTable G → (a e : ℕ) → a < order G → power G a e < order G
power-below G L a zero i = L.some
power-below G L a (suc e) i = L.closed _ _ (power-below G L a e i) i

pub power-of-one : (G : GroupTable) → IsGroupTable G → (e : ℕ) → power G 0 e ≡ 0
power-of-one G L zero = refl
power-of-one G L (suc e) = ap (λ x. product G x 0) (power-of-one G L e) ∙ L.one-mul 0 L.some

-- what commutes with a and with b commutes with a b
pub commutes-product : {n : ℕ} {mul : ℕ → ℕ → ℕ} → IsGroup n mul → (a b x : ℕ) → a < n → b < n → x < n →
    mul a x ≡ mul x a → mul b x ≡ mul x b → mul (mul a b) x ≡ mul x (mul a b)
commutes-product {mul = mul} L a b x i j k e f =
    L.mul-assoc a b x i j k
    ∙ ap (λ y. mul a y) f
    ∙ sym (L.mul-assoc a x b i k j)
    ∙ ap (λ y. mul y b) e
    ∙ L.mul-assoc x a b k i j

pub commutes-power : (G : GroupTable) → IsGroupTable G → (a x e : ℕ) → a < order G → x < order G →
    product G a x ≡ product G x a → product G (power G a e) x ≡ product G x (power G a e)
commutes-power G L a x zero i k h = L.one-mul x k ∙ sym (L.mul-one x k)
commutes-power G L a x (suc e) i k h = commutes-product L _ a x (power-below G L a e i) i k
    (commutes-power G L a x e i k h) h

-- (a b)^e = a^e b^e where a and b commute
pub power-product : (G : GroupTable) → IsGroupTable G → (a b e : ℕ) → a < order G → b < order G
    → product G a b ≡ product G b a →
    power G (product G a b) e ≡ product G (power G a e) (power G b e)
power-product G L a b zero i j h = sym (L.one-mul 0 L.some)
power-product G L a b (suc e) i j h =
    let A = power G a e in
    let B = power G b e in
    let iA = power-below G L a e i in
    let jB = power-below G L b e j in
    let ab = L.closed a b i j in
    ap (λ y. product G y (product G a b)) (power-product G L a b e i j h)
    ∙ L.mul-assoc A B (product G a b) iA jB ab
    ∙ ap (λ y. product G A y)
    (sym (L.mul-assoc B a b jB i j) ∙ ap (λ y. product G y b) (commutes-power G L b a e j i (sym h))
    ∙ L.mul-assoc a B b i jB j)
    ∙ sym (L.mul-assoc A a (product G B b) iA i (L.closed B b jB j))

-- g (g^-1 x g) = x g
pub conjugate-moved : {n : ℕ} {mul : ℕ → ℕ → ℕ} → IsGroup n mul → (g h x : ℕ) → g < n → h < n → x < n
    → mul g h ≡ 0 →
    mul g (mul (mul h x) g) ≡ mul x g
conjugate-moved {mul = mul} L g h x i j k e =
    sym (L.mul-assoc g (mul h x) g i (L.closed h x j k) i)
    ∙ ap (λ y. mul y g) (cancel-inverse L g h x i j k e)

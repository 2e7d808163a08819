-- The numbers below p^r are a group under the sum of digits.
use Rattle.std.proofs.Common.{◌≡◌, ℕ, zero, suc, ◌<◌, ◌+◌, ◌*◌, ◌/◌, ◌%◌, ◌^◌, ◌-◌, ap, sym, ◌∙◌, subst, refl}
use Rattle.std.proofs.Common.{arith, get_or}
use Rattle.std.proofs.Math.Nat.{add-mod-mod, mod-add-mod, div-add-mod', div-lt_iff_lt-mul, mod-lt}
use Rattle.std.proofs.Math.Nat.{mod-eq_of_lt, div-eq_of_lt, mod_self, pow-suc, pow-zero}
use Rattle.std.proofs.lemmas.Nat.{div-mul-add, mod-mul-add}
use Rattle.group_table.specs.Tables.{IsTable, IsGroupTable, order, product, order_is, product_is}
use Rattle.group_table.proofs.Laws.{place-below}
use Rattle.elementary_subgroups.specs.Bases.{numbers}
use Rattle.elementary_subgroups.specs.OwnGroups.{digit_sum, entries_of, elementary_group}
use Rattle.elementary_subgroups.proofs.Lists.{length_map, length_numbers, at_map_numbers}

digit-below : (r s p d : ℕ) → r < s → d < p → r * p + d < s * p
digit-below r s p d a b = grind arith

-- the sum of r digits has r digits
pub digit_sum-below : (p r a b : ℕ) → 0 < p → digit_sum p r a b < p ^ r
digit_sum-below p zero a b z = rw (pow-zero p) (omega arith)
digit_sum-below p (suc r) a b z =
    rw (pow-suc p r) (digit-below (digit_sum p r (a / p) (b / p)) (p ^ r) p ((a % p + b % p) % p)
    (digit_sum-below p r (a / p) (b / p) z) (mod-lt (a % p + b % p) z))

-- the first digit of a sum, and the others
first_digit : (p r a b : ℕ) → 0 < p → digit_sum p (suc r) a b % p ≡ (a % p + b % p) % p
first_digit p r a b z =
    mod-mul-add (digit_sum p r (a / p) (b / p)) p ((a % p + b % p) % p) (mod-lt (a % p + b % p) z)

later_digits : (p r a b : ℕ) → 0 < p → digit_sum p (suc r) a b / p ≡ digit_sum p r (a / p) (b / p)
later_digits p r a b z =
    div-mul-add (digit_sum p r (a / p) (b / p)) p ((a % p + b % p) % p) (mod-lt (a % p + b % p) z)

digit_sum-comm : (p r a b : ℕ) → digit_sum p r a b ≡ digit_sum p r b a
digit_sum-comm p zero a b = refl
digit_sum-comm p (suc r) a b =
    ap (λ w. w * p + (a % p + b % p) % p) (digit_sum-comm p r (a / p) (b / p))
    ∙ ap (λ w. digit_sum p r (b / p) (a / p) * p + w % p) (swap (a % p) (b % p))
  where
    swap : (x y : ℕ) → x + y ≡ y + x
    swap x y = omega arith

digit_sum-assoc : (p r a b c : ℕ) → 0 < p →
    digit_sum p r (digit_sum p r a b) c ≡ digit_sum p r a (digit_sum p r b c)
digit_sum-assoc p zero a b c z = refl
digit_sum-assoc p (suc r) a b c z =
    ap (λ w. digit_sum p r w (c / p) * p + (digit_sum p (suc r) a b % p + c % p) % p) (later_digits p r a b z)
    ∙ ap (λ w. digit_sum p r (digit_sum p r (a / p) (b / p)) (c / p) * p + (w + c % p) % p)
    (first_digit p r a b z)
    ∙ ap (λ w. w * p + ((a % p + b % p) % p + c % p) % p) (digit_sum-assoc p r (a / p) (b / p) (c / p) z)
    ∙ ap (λ w. digit_sum p r (a / p) (digit_sum p r (b / p) (c / p)) * p + w) digits
    ∙ ap (λ w. digit_sum p r (a / p) (digit_sum p r (b / p) (c / p)) * p + (a % p + w) % p)
    (sym (first_digit p r b c z))
    ∙ ap (λ w. digit_sum p r (a / p) w * p + (a % p + digit_sum p (suc r) b c % p) % p)
    (sym (later_digits p r b c z))
  where
    regroup : (x y w : ℕ) → x + y + w ≡ x + (y + w)
    regroup x y w = omega arith

    digits : ((a % p + b % p) % p + c % p) % p ≡ (a % p + (b % p + c % p) % p) % p
    digits = mod-add-mod (a % p + b % p) p (c % p) ∙ ap (λ w. w % p) (regroup (a % p) (b % p) (c % p))
        ∙ sym (add-mod-mod (a % p) (b % p + c % p) p)

digit_sum-zero : (p r a : ℕ) → 0 < p → a < p ^ r → digit_sum p r 0 a ≡ a
digit_sum-zero p zero a z h = let e : a < 1 = subst (λ w. a < w) (pow-zero p) h in omega arith
digit_sum-zero p (suc r) a z h =
    let rest : a / p < p ^ r = (div-lt_iff_lt-mul z).1 (subst (λ w. a < w) (pow-suc p r) h) in
    ap (λ w. digit_sum p r w (a / p) * p + (0 % p + a % p) % p) (div-eq_of_lt z)
    ∙ ap (λ w. w * p + (0 % p + a % p) % p) (digit_sum-zero p r (a / p) z rest)
    ∙ ap (λ w. a / p * p + (w + a % p) % p) (mod-eq_of_lt z)
    ∙ ap (λ w. a / p * p + w) (ap (λ w. w % p) (plus (a % p)) ∙ mod-eq_of_lt (mod-lt a z))
    ∙ div-add-mod' a p
  where
    plus : (x : ℕ) → 0 + x ≡ x
    plus x = omega arith

-- the number with the negated digits
abbrev negative : ℕ → ℕ → ℕ → ℕ
negative p zero a = 0
negative p (suc r) a = negative p r (a / p) * p + (p - a % p) % p

negative-below : (p r a : ℕ) → 0 < p → negative p r a < p ^ r
negative-below p zero a z = rw (pow-zero p) (omega arith)
negative-below p (suc r) a z =
    rw (pow-suc p r) (digit-below (negative p r (a / p)) (p ^ r) p ((p - a % p) % p)
    (negative-below p r (a / p) z) (mod-lt (p - a % p) z))

digit_sum-negative : (p r a : ℕ) → 0 < p → digit_sum p r a (negative p r a) ≡ 0
digit_sum-negative p zero a z = refl
digit_sum-negative p (suc r) a z =
    let n = negative p r (a / p) in
    let d = (p - a % p) % p in
    let dl : d < p = mod-lt (p - a % p) z in
    ap (λ w. digit_sum p r (a / p) w * p + (a % p + (n * p + d) % p) % p) (div-mul-add n p d dl)
    ∙ ap (λ w. w * p + (a % p + (n * p + d) % p) % p) (digit_sum-negative p r (a / p) z)
    ∙ ap (λ w. 0 * p + (a % p + w) % p) (mod-mul-add n p d dl)
    ∙ ap (λ w. 0 * p + w) (add-mod-mod (a % p) (p - a % p) p ∙ ap (λ w. w % p) whole ∙ mod_self p)
    ∙ none p
  where
    whole : a % p + (p - a % p) ≡ p
    whole = let l = mod-lt a z in omega (arith, l)

    none : (p : ℕ) → 0 * p + 0 ≡ 0
    none p = omega arith

-- the entry of the table in row a at column b
pub elementary_product : (p r a b : ℕ) → a < p ^ r → b < p ^ r →
    product (elementary_group p r) a b ≡ digit_sum p r a b
elementary_product p r a b i j =
    let n = p ^ r in
    product_is (elementary_group p r) a b
    ∙ ap (λ w. get_or (entries_of n (digit_sum p r)) (a * w + b) 0) (order_is (elementary_group p r))
    ∙ at_map_numbers (λ k. digit_sum p r (k / n) (k % n)) (n * n) (a * n + b) (place-below a b n i j)
    ∙ ap (λ w. digit_sum p r w ((a * n + b) % n)) (div-mul-add a n b j)
    ∙ ap (λ w. digit_sum p r a w) (mod-mul-add a n b j)

pub elementary_is_table : (p r : ℕ) → 0 < p → IsTable (elementary_group p r)
elementary_is_table p r z =
    let E = elementary_group p r in
    let n = p ^ r in
    let o : order E ≡ n = order_is E in
    record {
      size = length_map (λ k. digit_sum p r (k / n) (k % n)) (numbers (n * n)) ∙ length_numbers (n * n)
          ∙ ap (λ w. w * w) (sym o);
      closed = λ a b i j. rw (elementary_product p r a b (subst (λ w. a < w) o i) (subst (λ w. b < w) o j), o)
          (digit_sum-below p r a b z);
    }

pub elementary_is_group : (p r : ℕ) → 0 < p → IsGroupTable (elementary_group p r)
elementary_is_group p r z = record {
  some = back 0 (positive p r z);
  closed = (elementary_is_table p r z).closed;
  one-mul = λ a i. sum 0 a (back 0 (positive p r z)) i ∙ digit_sum-zero p r a z (bound a i);
  mul-one = λ a i. sum a 0 i (back 0 (positive p r z)) ∙ digit_sum-comm p r a 0
      ∙ digit_sum-zero p r a z (bound a i);
  mul-assoc = λ a b c i j k.
      sum (product (elementary_group p r) a b) c ((elementary_is_table p r z).closed a b i j) k
      ∙ ap (λ w. digit_sum p r w c) (sum a b i j) ∙ digit_sum-assoc p r a b c z
      ∙ ap (digit_sum p r a) (sym (sum b c j k))
      ∙ sym (sum a (product (elementary_group p r) b c) i ((elementary_is_table p r z).closed b c j k));
  inverse = λ a i.
      let n = negative p r a in
      let j = back n (negative-below p r a z) in (
        n,
        j,
        sum a n i j ∙ digit_sum-negative p r a z,
        sum n a j i ∙ digit_sum-comm p r n a ∙ digit_sum-negative p r a z,
      );
}
  where
    bound : (a : ℕ) → a < order (elementary_group p r) → a < p ^ r
    bound a i = subst (λ w. a < w) (order_is (elementary_group p r)) i

    back : (a : ℕ) → a < p ^ r → a < order (elementary_group p r)
    back a i = subst (λ w. a < w) (sym (order_is (elementary_group p r))) i

    sum : (a b : ℕ) → a < order (elementary_group p r) → b < order (elementary_group p r) →
        product (elementary_group p r) a b ≡ digit_sum p r a b
    sum a b i j = elementary_product p r a b (bound a i) (bound b j)

    positive : (p r : ℕ) → 0 < p → 0 < p ^ r
    positive p zero z = rw (pow-zero p) (omega arith)
    positive p (suc r) z =
        let d = digit-below 0 (p ^ r) p 0 (positive p r z) z in rw (pow-suc p r) (omega (arith, d))

-- A table is that of a p-group in one way, so two p-groups with one table are the same.
use Rattle.std.specs.Prelude.{◌≡◌, ℕ, ◌<◌}
use Rattle.std.proofs.Common.{inl, inr, ap, sym, ◌∙◌, arith}
use Rattle.std.specs.Coded.{le_prop}
use mathlib.Core.HLevel.{is_prop→PathP}
use native.Mathlib.Nat.{ℕ_set}
use Rattle.group_table.specs.Groups.{IsGroup}
use Rattle.group_table.specs.Tables.{GroupTable, order, product}
use Rattle.linear_algebra.specs.Modular.{IsSmallPrime}
use Rattle.p_groups.specs.PGroups.{IsPGroup, PGroup}

-- p is one of the four in one way
IsSmallPrime-prop : (p : ℕ) → IsProp (IsSmallPrime p)
IsSmallPrime-prop p (inl a) (inl b) = ap inl (ℕ_set p 2 a b)
IsSmallPrime-prop p (inr (inl a)) (inr (inl b)) = ap (λ e. inr (inl e)) (ℕ_set p 3 a b)
IsSmallPrime-prop p (inr (inr (inl a))) (inr (inr (inl b))) = ap (λ e. inr (inr (inl e))) (ℕ_set p 5 a b)
IsSmallPrime-prop p (inr (inr (inr a))) (inr (inr (inr b))) = ap (λ e. inr (inr (inr e))) (ℕ_set p 7 a b)
IsSmallPrime-prop p (inl a) (inr (inl b)) = absurd (omega (arith, a, b))
IsSmallPrime-prop p (inl a) (inr (inr (inl b))) = absurd (omega (arith, a, b))
IsSmallPrime-prop p (inl a) (inr (inr (inr b))) = absurd (omega (arith, a, b))
IsSmallPrime-prop p (inr (inl a)) (inl b) = absurd (omega (arith, a, b))
IsSmallPrime-prop p (inr (inl a)) (inr (inr (inl b))) = absurd (omega (arith, a, b))
IsSmallPrime-prop p (inr (inl a)) (inr (inr (inr b))) = absurd (omega (arith, a, b))
IsSmallPrime-prop p (inr (inr (inl a))) (inl b) = absurd (omega (arith, a, b))
IsSmallPrime-prop p (inr (inr (inl a))) (inr (inl b)) = absurd (omega (arith, a, b))
IsSmallPrime-prop p (inr (inr (inl a))) (inr (inr (inr b))) = absurd (omega (arith, a, b))
IsSmallPrime-prop p (inr (inr (inr a))) (inl b) = absurd (omega (arith, a, b))
IsSmallPrime-prop p (inr (inr (inr a))) (inr (inl b)) = absurd (omega (arith, a, b))
IsSmallPrime-prop p (inr (inr (inr a))) (inr (inr (inl b))) = absurd (omega (arith, a, b))

below-prop : (m n : ℕ) → IsProp (m < n)
below-prop m n = le_prop

-- an inverse on both sides is one number
module _ (n : ℕ) (mul : ℕ → ℕ → ℕ) (G : IsGroup n mul) where
  abbrev Inverse : ℕ → Type 0
  Inverse a = (b : ℕ) × b < n × (mul a b ≡ 0) × (mul b a ≡ 0)

  inverse-one : (a : ℕ) → a < n → (x y : Inverse a) → x.0 ≡ y.0
  inverse-one a l x y =
      sym (G.mul-one x.0 x.1) ∙ ap (mul x.0) (sym y.2) ∙ sym (G.mul-assoc x.0 a y.0 x.1 l y.1)
      ∙ ap (λ k. mul k y.0) x.3 ∙ G.one-mul y.0 y.1

  inverse-prop : (a : ℕ) → a < n → IsProp (Inverse a)
  inverse-prop a l x y i = (
    inverse-one a l x y i,
    is_prop→PathP (λ i. inverse-one a l x y i < n) (λ i. le_prop) x.1 y.1 i,
    is_prop→PathP (λ i. mul a (inverse-one a l x y i) ≡ 0)
        (λ i. ℕ_set (mul a (inverse-one a l x y i)) 0) x.2 y.2 i,
    is_prop→PathP (λ i. mul (inverse-one a l x y i) a ≡ 0)
        (λ i. ℕ_set (mul (inverse-one a l x y i) a) 0) x.3 y.3 i,
  )

pub IsGroup-prop : (n : ℕ) (mul : ℕ → ℕ → ℕ) → IsProp (IsGroup n mul)
IsGroup-prop n mul G H i = record {
  closed = (λ a b l m. below-prop (mul a b) n (G.closed a b l m) (H.closed a b l m) i);
  some = below-prop 0 n G.some H.some i;
  one-mul = λ a l. ℕ_set (mul 0 a) a (G.one-mul a l) (H.one-mul a l) i;
  mul-one = λ a l. ℕ_set (mul a 0) a (G.mul-one a l) (H.mul-one a l) i;
  mul-assoc = λ a b c l m o. ℕ_set (mul (mul a b) c) (mul a (mul b c)) (G.mul-assoc a b c l m o)
      (H.mul-assoc a b c l m o) i;
  inverse = λ a l. inverse-prop n mul G a l (G.inverse a l) (H.inverse a l) i;
}

pub IsPGroup-prop : (G : GroupTable) → IsProp (IsPGroup G)
IsPGroup-prop G h k i = record {
  law = IsGroup-prop (order G) (product G) h.law k.law i;
  prime = IsSmallPrime-prop G.p h.prime k.prime i;
}

-- p-groups are equal where their tables are
pub same_table : (G H : PGroup) → G.table ≡ H.table → G ≡ H
same_table G H e i = record {
  table = e i;
  law = is_prop→PathP (λ i. IsPGroup (e i)) (λ i. IsPGroup-prop (e i)) G.law H.law i;
}

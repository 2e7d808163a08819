-- A table without faults is that of a group.
use Rattle.std.proofs.Common.{◌≡◌, ℕ, ◌+◌, ◌*◌, ◌^◌, ◌<◌, ◌⊎◌, inl, inr, ap, sym, ◌∙◌, arith, All, length}
use Rattle.std.proofs.lemmas.List.Elements.{All-get_or}
use Rattle.std.proofs.Math.Nat.{one-le-pow}
use Rattle.group_table.specs.Prime.{prime_value}
use Rattle.group_table.specs.declared.Prime.{Prime}
use Rattle.group_table.specs.declared.Prime.TheVariants.{P2, P3, P5, P7}
use Rattle.group_table.specs.TableFaults.{HasUnit, HasLatinRows, IsAssociative, IsLatinAt, IsAssociativeAt}
use Rattle.group_table.specs.TableFaults.{IsFirstFailure, IsFirstNotAssociative}
use Rattle.group_table.specs.Tables.{GroupTable, IsTable, IsGroupTable, order, order_is, product, product_is}
use Rattle.group_table.proofs.Laws.{place-below}
use Rattle.group_table.proofs.Pigeonhole.{preimage}

pub order-positive : (p : Prime) (n : ℕ) → 0 < prime_value p ^ n
order-positive P2 n = one-le-pow n 2 (omega arith)
order-positive P3 n = one-le-pow n 3 (omega arith)
order-positive P5 n = one-le-pow n 5 (omega arith)
order-positive P7 n = one-le-pow n 7 (omega arith)

pub table-of : (G : GroupTable) → length G.entries ≡ G.p ^ G.n * G.p ^ G.n
    → All (λ e. e < G.p ^ G.n) G.entries → IsTable G
table-of G size entries =
    record {
      size = rw order_is size;
      closed = λ a b i j.
          let e = order_is G in
          let p : a * (G.p ^ G.n) + b < length G.entries =
          rw size (place-below a b (G.p ^ G.n) (rw (← e) i) (rw (← e) j)) in
          rw (product_is, order_is) (All-get_or (λ e. e < G.p ^ G.n) G.entries
          (a * (G.p ^ G.n) + b) 0 p entries);
    }

ordered : (i j : ℕ) → (i < j) ⊎ ((i ≡ j) ⊎ (j < i))
ordered i j = grind arith

latin-one : (G : GroupTable) (a : ℕ) → IsLatinAt G a → (i j : ℕ) → i < order G → j < order G
    → product G a i ≡ product G a j → i ≡ j
latin-one G a latin i j p q e = go (ordered i j)
  where
    go : (i < j) ⊎ ((i ≡ j) ⊎ (j < i)) → i ≡ j
    go (inl h) = absurd (latin i j h q e)
    go (inr (inl h)) = h
    go (inr (inr h)) = absurd (latin j i h p (sym e))

pub group-of : (G : GroupTable) → 0 < order G → IsTable G → HasUnit G → HasLatinRows G → IsAssociative G
    → IsGroupTable G
group-of G some table unit latin associative =
    record {
      closed = table.closed;
      some = some;
      one-mul = λ a i. (unit a i).0;
      mul-one = λ a i. (unit a i).1;
      mul-assoc = associative;
      inverse = λ a i.
          let b = right a i in
          let c = right b.0 b.1 in
          let same : a ≡ c.0 =
          sym ((unit a i).1) ∙ ap (product G a) (sym c.2) ∙ sym (associative a b.0 c.0 i b.1 c.1)
          ∙ ap (λ x. product G x c.0) b.2 ∙ (unit c.0 c.1).0 in
          (b.0, b.1, b.2, ap (product G b.0) same ∙ c.2);
    }
  where
    right : (a : ℕ) → a < order G → (b : ℕ) × (b < order G) × (product G a b ≡ 0)
    right a i = preimage (order G) (product G a) (λ b j. table.closed a b i j)
        (latin-one G a (latin a i)) 0 some

-- what comes first place by place comes first in the order of triples
pub first-triple : (G : GroupTable) (a b c : ℕ) → a < order G
    → ((i j k : ℕ) → i < a → j < order G → k < order G → IsAssociativeAt G i j k)
    → IsFirstFailure (order G) (λ j. (k : ℕ) → k < order G → IsAssociativeAt G a j k) b
    → IsFirstFailure (order G) (IsAssociativeAt G a b) c
    → IsFirstNotAssociative G a b c
first-triple G a b c i before second third =
    record { left = i; middle = second.below; right = third.below; fails = third.fails; earlier = go }
  where
    go : (x y z : ℕ) → x < order G → y < order G → z < order G
        → (x < a) ⊎ ((x ≡ a) × ((y < b) ⊎ ((y ≡ b) × (z < c)))) → IsAssociativeAt G x y z
    go x y z p q r (inl h) = before x y z h q r
    go x y z p q r (inr (e, inl h)) = rw e (second.earlier y h z r)
    go x y z p q r (inr (e, inr (f, h))) = rw (e, f) (third.earlier z h)

-- The laws of groups by their tables, in the form that finds the table from its law.
use Rattle.std.proofs.Common.{◌≡◌, ℕ, ◌<◌}
use Rattle.group_table.specs.Tables.{GroupTable, IsGroupTable, order, product, power}
use Rattle.group_table.proofs.Laws as laws

-- the table is a group's
pub record HasGroupLaw (G : GroupTable) : Type 0 where
  pub law : IsGroupTable G

pub law_of : (G : GroupTable) → IsGroupTable G → HasGroupLaw G
law_of G L = record { law = L }

-- b a = 0 gives a b = 0
pub inverse_right : {G : GroupTable} → HasGroupLaw G → (a b : ℕ) → a < order G → b < order G →
    product G b a ≡ 0 → product G a b ≡ 0
inverse_right L a b i j e = laws.inverse-left L.law b a j i e

-- a (b x) = x where b a = 0
pub cancel_right : {G : GroupTable} → HasGroupLaw G → (a b x : ℕ) → a < order G → b < order G → x < order G →
    product G b a ≡ 0 → product G a (product G b x) ≡ x
cancel_right L a b x i j k e = laws.cancel-inverse L.law a b x i j k (inverse_right L a b i j e)

-- b (a x) = x where b a = 0
pub cancel_left : {G : GroupTable} → HasGroupLaw G → (a b x : ℕ) → a < order G → b < order G → x < order G →
    product G b a ≡ 0 → product G b (product G a x) ≡ x
cancel_left L a b x i j k e = laws.cancel-inverse L.law b a x j i k e

pub power_below : {G : GroupTable} → HasGroupLaw G → (a e : ℕ) → a < order G → power G a e < order G
power_below {G} L a e i = laws.power-below G L.law a e i

pub power_of_unit : {G : GroupTable} → HasGroupLaw G → (e : ℕ) → power G 0 e ≡ 0
power_of_unit {G} L e = laws.power-of-one G L.law e

-- what commutes with a and with b commutes with a b
pub commutes_product : {G : GroupTable} → HasGroupLaw G → (a b x : ℕ) → a < order G → b < order G →
    x < order G → product G a x ≡ product G x a → product G b x ≡ product G x b →
    product G (product G a b) x ≡ product G x (product G a b)
commutes_product L a b x i j k e f = laws.commutes-product L.law a b x i j k e f

pub commutes_power : {G : GroupTable} → HasGroupLaw G → (a x e : ℕ) → a < order G → x < order G →
    product G a x ≡ product G x a → product G (power G a e) x ≡ product G x (power G a e)
commutes_power {G} L a x e i k h = laws.commutes-power G L.law a x e i k h

-- (a b)^e = a^e b^e where a and b commute
pub power_product : {G : GroupTable} → HasGroupLaw G → (a b e : ℕ) → a < order G → b < order G →
    product G a b ≡ product G b a → power G (product G a b) e ≡ product G (power G a e) (power G b e)
power_product {G} L a b e i j h = laws.power-product G L.law a b e i j h

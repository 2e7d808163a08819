-- Groups on the numbers below n.
use Rattle.std.specs.Prelude.{◌≡◌, ℕ}
use Rattle.group_table.specs.Groups.{IsGroup}
use Rattle.linear_algebra.specs.Residues.{Below}
use Rattle.linear_algebra.proofs.Residues.{below-path}

-- a group on the numbers below n
pub record Group (n : ℕ) : Type 0 where
  pub one : Below n
  pub mul : Below n → Below n → Below n
  pub inv : Below n → Below n
  pub one-mul : (g : Below n) → mul one g ≡ g
  pub mul-one : (g : Below n) → mul g one ≡ g
  pub mul-assoc : (g h k : Below n) → mul (mul g h) k ≡ mul g (mul h k)
  pub inv-mul : (g : Below n) → mul (inv g) g ≡ one
  pub mul-inv : (g : Below n) → mul g (inv g) ≡ one

-- a group by its product on numbers
abbrev pub group_of : {n : ℕ} (mul : ℕ → ℕ → ℕ) → IsGroup n mul → Group n
group_of mul G = record {
  one = (0, G.some);
  mul = λ g h. (mul g.0 h.0, G.closed g.0 h.0 g.1 h.1);
  inv = λ g. ((G.inverse g.0 g.1).0, (G.inverse g.0 g.1).1);
  one-mul = λ g. below-path _ g (G.one-mul g.0 g.1);
  mul-one = λ g. below-path _ g (G.mul-one g.0 g.1);
  mul-assoc = λ g h k. below-path _ _ (G.mul-assoc g.0 h.0 k.0 g.1 h.1 k.1);
  inv-mul = λ g. below-path _ _ (G.inverse g.0 g.1).3;
  mul-inv = λ g. below-path _ _ (G.inverse g.0 g.1).2;
}

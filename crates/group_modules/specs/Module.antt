-- Modules over the group algebra of a monoid over the integers modulo p, by their laws.
use Rattle.std.specs.Prelude.{◌≡◌, ℕ, List}
use Rattle.group_modules.specs.Operations.{Ops, linear}
use Rattle.group_modules.specs.Operations as Defs
pub use Rattle.group_modules.specs.Operations.{times}

-- a group, of which only the product and the unit are used here
pub record Monoid : Type 1 where
  pub elem : Type 0
  pub one : elem
  pub mul : elem → elem → elem
  pub one-mul : (g : elem) → mul one g ≡ g
  pub mul-one : (g : elem) → mul g one ≡ g
  pub mul-assoc : (g h k : elem) → mul (mul g h) k ≡ mul g (mul h k)

-- an abelian group in which p x = 0, with an action of G by additive maps
pub record Module (p : ℕ) (G : Monoid) : Type 1 where
  pub of : Type 0
  pub is_set : IsSet of
  pub zero : of
  pub add : of → of → of
  pub neg : of → of
  pub act : G.elem → of → of
  pub add-assoc : (x y z : of) → add (add x y) z ≡ add x (add y z)
  pub add-comm : (x y : of) → add x y ≡ add y x
  pub add-zero : (x : of) → add x zero ≡ x
  pub add-neg : (x : of) → add x (neg x) ≡ zero
  pub times-p : (x : of) → times add zero p x ≡ zero
  pub act-add : (g : G.elem) (x y : of) → act g (add x y) ≡ add (act g x) (act g y)
  pub act-one : (x : of) → act G.one x ≡ x
  pub act-mul : (g h : G.elem) (x : of) → act (G.mul g h) x ≡ act g (act h x)

-- x - y
abbrev pub sub : {p : ℕ} {G : Monoid} (M : Module p G) → M.of → M.of → M.of
sub M x y = M.add x (M.neg y)

-- f respects sums
abbrev pub IsAdditive : {p : ℕ} {G : Monoid} (M N : Module p G) → (M.of → N.of) → Type 0
IsAdditive M N f = (x y : M.of) → f (M.add x y) ≡ N.add (f x) (f y)

-- f respects sums and the action
pub record IsLinear {p : ℕ} {G : Monoid} (M N : Module p G) (f : M.of → N.of) : Type 0 where
  pub on-add : IsAdditive M N f
  pub on-act : (g : G.elem) (x : M.of) → f (M.act g x) ≡ N.act g (f x)

-- the operations of M
abbrev pub ops : {p : ℕ} {G : Monoid} → Module p G → Ops G.elem
ops M = record { of = M.of; zero = M.zero; add = M.add; act = M.act }

abbrev pub Term : Monoid → Type 0 → Type 0
Term G X = Defs.Term G.elem X

-- the linear extension of f to a formal sum: the sum of all `c g f(x)`
abbrev pub lin : {p : ℕ} {G : Monoid} (M : Module p G) {X : Type 0} → (X → M.of) → List (Term G X) → M.of
lin M f ts = linear (ops M) f ts

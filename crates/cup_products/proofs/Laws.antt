-- The laws of cup products, and of the products of classes, for a group and its stages.
use Rattle.std.specs.Prelude.{ℕ, suc}
use Rattle.group_modules.specs.Tables.{Group, monoid}
use Rattle.linear_algebra.specs.Modular.{IsFieldModulo}
use Rattle.radical_layers.specs.Coordinates.{Coordinates}
use Rattle.resolution_stages.specs.Definitions.{StageRows}
use Rattle.resolution_stages.specs.Claims.{ResolutionClaims}
use Rattle.bar_comparison.proofs.Comparison.{MinimalStages}
use Rattle.bar_comparison.proofs.Classes.{only-class}
use Rattle.bar_comparison.proofs.Stages.{stages}
use Rattle.cup_products.proofs.GradedCocycles.{Cocycle}
use Rattle.cup_products.specs.Classes.{mul, cocycle_of}
use Rattle.bar_complex.specs.Cochains.{cup}
use Rattle.cup_products.specs.Claims.{CupClaims, ProductClaims}
use Rattle.cup_products.proofs.Cocycles as cocycles
use Rattle.cup_products.proofs.CupLaws.{cocycle, cup-left, cup-right, cup-commutes}
use Rattle.cup_products.proofs.Classes as classes
use Rattle.cup_products.proofs.Inverses.{inverses}
use Rattle.cup_products.proofs.Odd.{odd-by-remainder, odd-prime}

pub cup-claims : {n : ℕ} (q : ℕ) (Γ : Group n) → CupClaims q Γ
cup-claims q Γ = record {
  closed = λ d e u v a b.
      let m : Cocycle q (monoid Γ) =
      cocycles.mul q (monoid Γ) (cocycle q (monoid Γ) d u a.0 a.1) (cocycle q (monoid Γ) e v b.0 b.1) in
      (m.normal, m.cocycle);
  left = λ d e u u' v b h. cup-left q (monoid Γ) d e u u' v b.0 b.1 h;
  right = λ d e u v v' a h. cup-right q (monoid Γ) (inverses Γ) d e u v v' a.0 a.1 h;
  commutes = λ d e u v a b. cup-commutes q (monoid Γ) (inverses Γ) d e u v a.0 a.1 b.0 b.1;
}

module _ {n : ℕ} (q : ℕ) (Γ : Group n) (K : Coordinates q Γ) (S : StageRows) (F : IsFieldModulo (suc q))
    (R : ResolutionClaims q Γ K S) where
  abbrev A : MinimalStages q (monoid Γ)
  A = stages q Γ K S R

  pub product-claims : ProductClaims q Γ K S
  product-claims = record {
    product = λ a c v.
        only-class A (mul q Γ K S a c).0 (cup q a.0 (cocycle_of q Γ K S a) (cocycle_of q Γ K S c))
        (mul q Γ K S a c).1
        (classes.cochain-near A a c) v;
    assoc = classes.assoc A (inverses Γ);
    one_left = classes.one-left A;
    one_right = classes.one-right A (inverses Γ);
    add_left = λ d a b c. classes.add-left A c.0 d a b c.1;
    add_right = λ a d b c. classes.add-right A d a.0 a.1 b c;
    commutes = classes.commutes A (inverses Γ);
    odd_square =
        λ ne a e. classes.odd-square A (inverses Γ) (odd-prime q F ne) a.0 (odd-by-remainder a.0 e) a.1;
  }

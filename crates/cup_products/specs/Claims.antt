-- What holds of cup products, and of products of classes by lifts.
use Rattle.std.specs.Prelude.{◌≡◌, ◌≢◌, ℕ, ◌+◌, ◌*◌, ◌%◌, ◌↔◌}
use Rattle.group_modules.specs.Field.{residue}
use Rattle.group_modules.specs.Tables.{Group, monoid}
use Rattle.radical_layers.specs.Coordinates.{Coordinates}
use Rattle.resolution_stages.specs.Definitions.{StageRows}
use Rattle.chain_maps.specs.Lifts.{Class}
use Rattle.bar_complex.specs.Cochains.{cup, turned, Cochain, IsNormalisedCocycle, AreCohomologous}
use Rattle.cup_products.specs.Classes.{GradedClass, mul, one, turn, add, cocycle_of}

module _ {n : ℕ} (q : ℕ) (Γ : Group n) where
  pub record CupClaims : Type 0 where
    -- the cup product of two cocycles is a cocycle
    pub closed : (d e : ℕ) (u v : Cochain q (monoid Γ)) → IsNormalisedCocycle q (monoid Γ) d u
        → IsNormalisedCocycle q (monoid Γ) e v
        → IsNormalisedCocycle q (monoid Γ) (d + e) (cup q d u v)
    -- cohomologous cochains have cohomologous cup products with a cocycle, on either side
    pub left : (d e : ℕ) (u u' v : Cochain q (monoid Γ)) → IsNormalisedCocycle q (monoid Γ) e v
        → AreCohomologous q (monoid Γ) d u u'
        → AreCohomologous q (monoid Γ) (d + e) (cup q d u v) (cup q d u' v)
    pub right : (d e : ℕ) (u v v' : Cochain q (monoid Γ)) → IsNormalisedCocycle q (monoid Γ) d u
        → AreCohomologous q (monoid Γ) e v v'
        → AreCohomologous q (monoid Γ) (d + e) (cup q d u v) (cup q d u v')
    -- cup products of cocycles are graded commutative up to coboundaries
    pub commutes : (d e : ℕ) (u v : Cochain q (monoid Γ)) → IsNormalisedCocycle q (monoid Γ) d u
        → IsNormalisedCocycle q (monoid Γ) e v
        → AreCohomologous q (monoid Γ) (d + e) (cup q d u v) (λ xs. turned q (d * e) (cup q e v u xs))

module _ {n : ℕ} (q : ℕ) (Γ : Group n) (K : Coordinates q Γ) (S : StageRows) where
  pub record ProductClaims : Type 0 where
    -- the product is the one class whose cocycle differs by a coboundary from the cup product
    pub product : (a c : GradedClass q Γ K S) (v : Class q Γ K S (mul q Γ K S a c).0)
        → AreCohomologous q (monoid Γ) (mul q Γ K S a c).0 (cocycle_of q Γ K S ((mul q Γ K S a c).0, v))
        (cup q a.0 (cocycle_of q Γ K S a) (cocycle_of q Γ K S c)) ↔ (v ≡ (mul q Γ K S a c).1)
    pub assoc : (a b c : GradedClass q Γ K S)
        → mul q Γ K S (mul q Γ K S a b) c ≡ mul q Γ K S a (mul q Γ K S b c)
    pub one_left : (a : GradedClass q Γ K S) → mul q Γ K S (one q Γ K S) a ≡ a
    pub one_right : (a : GradedClass q Γ K S) → mul q Γ K S a (one q Γ K S) ≡ a
    pub add_left : (d : ℕ) (a b : Class q Γ K S d) (c : GradedClass q Γ K S)
        → (mul q Γ K S (d, add q Γ K S d a b) c).1
        ≡ add q Γ K S (mul q Γ K S (d, a) c).0 (mul q Γ K S (d, a) c).1 (mul q Γ K S (d, b) c).1
    pub add_right : (a : GradedClass q Γ K S) (d : ℕ) (b c : Class q Γ K S d)
        → (mul q Γ K S a (d, add q Γ K S d b c)).1
        ≡ add q Γ K S (mul q Γ K S a (d, b)).0 (mul q Γ K S a (d, b)).1 (mul q Γ K S a (d, c)).1
    -- the sign is that of the product of the degrees
    pub commutes : (a c : GradedClass q Γ K S) → mul q Γ K S a c ≡ turn q Γ K S (a.0 * c.0) (mul q Γ K S c a)
    -- where p is not 2, the square of a class of odd degree is 0
    pub odd_square : q ≢ 1 → (a : GradedClass q Γ K S) → a.0 % 2 ≡ 1
        → (mul q Γ K S a a).1 ≡ (λ i. residue q 0)

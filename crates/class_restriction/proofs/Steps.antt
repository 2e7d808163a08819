-- Calculations with cocycles up to coboundaries.
use Rattle.std.specs.Prelude.{ℕ}
use Rattle.group_modules.specs.Module.{Monoid}
use Rattle.cup_products.proofs.GradedCocycles.{Cocycle, AreAlike}
use Rattle.cup_products.proofs.Reverse.{Inverse}
use Rattle.cup_products.proofs.Cocycles.{alike-sym, alike-trans, mul, mul-left, mul-right}

-- steps of a calculation
pub chain : {q : ℕ} {G : Monoid} {u v w : Cocycle q G} → AreAlike u v → AreAlike v w → AreAlike u w
chain {q} {G} {u} {v} {w} h k = alike-trans q G u v w h k

pub back : {q : ℕ} {G : Monoid} {u v : Cocycle q G} → AreAlike u v → AreAlike v u
back {q} {G} {u} {v} h = alike-sym q G u v h

pub left : {q : ℕ} {G : Monoid} {u v : Cocycle q G} → AreAlike u v → (w : Cocycle q G)
    → AreAlike (mul q G u w) (mul q G v w)
left {q} {G} {u} {v} h w = mul-left q G u v w h

pub right : {q : ℕ} {G : Monoid} (I : Inverse G) (u : Cocycle q G) {v w : Cocycle q G} → AreAlike v w
    → AreAlike (mul q G u v) (mul q G u w)
right {q} {G} I u {v} {w} h = mul-right q G I u v w h

-- Cocycles up to coboundaries: a graded commutative product with a unit.
use Rattle.std.specs.Prelude.{◌≡◌, ℕ, zero, suc, refl, List, [], ◌∷◌, take, drop, ◌+◌, ◌*◌}
use Rattle.std.proofs.Common.{sym, ◌∙◌, ap, ap₂, subst, arith}
use Rattle.std.proofs.lemmas.List.{drop-take}
use Rattle.std.proofs.Math.Seq.{drop-nil}
use Rattle.group_modules.specs.Module.{Monoid, Module, Term, times, lin}
use Rattle.group_modules.proofs.Laws.{map-zero, map-times, neg-add, lin-neg}
use Rattle.group_modules.specs.Field.{Below, residue, minus}
use Rattle.linear_algebra.proofs.Residues.{times-residue, times-one, residue-self}
use Rattle.bar_complex.specs.Tuples.{Tuple, entries}
use Rattle.bar_complex.specs.Boundary.{boundary}
use Rattle.chain_maps.specs.Lifts.{ahead}
use Rattle.cup_products.proofs.Reverse.{Inverse}
use Rattle.bar_complex.specs.Cochains.{turned, cup, IsNormalised, IsCocycle, AreCohomologous}
use Rattle.cup_products.proofs.GradedCocycles.{Cocycle, AreAlike}
use Rattle.cup_products.proofs.Reversal.{reversed}
use Rattle.bar_complex.proofs.Cohomologous.{K, mulK, mulK-comm, mulK-add-left, near-eq, near-refl, near-sym}
use Rattle.bar_complex.proofs.Cohomologous.{near-trans, near-turned, near-normal, near-cocycle}
use Rattle.cup_products.proofs.CupCoboundaries.{cup-normal, cup-cocycle, near-left, near-reversed}
use Rattle.cup_products.proofs.CupCoboundaries.{near-cup-reversed}

pub take-take : {X : Type 0} (j e : ℕ) (xs : List X) → take j (take (j + e) xs) ≡ take j xs
take-take zero e xs = refl
take-take (suc j) e [] =
    ap (λ n. take (suc j) (take n [])) (let f : suc j + e ≡ suc (j + e) = omega arith in f)
take-take (suc j) e (x ∷ xs) =
    ap (λ n. take (suc j) (take n (x ∷ xs))) (let f : suc j + e ≡ suc (j + e) = omega arith in f)
    ∙ ap (λ ys. x ∷ ys) (take-take j e xs)

pub drop-drop : {X : Type 0} (j e : ℕ) (xs : List X) → drop e (drop j xs) ≡ drop (j + e) xs
drop-drop zero e xs = ap (λ n. drop n xs) (let f : e ≡ 0 + e = omega arith in f)
drop-drop (suc j) e [] = drop-nil e ∙ sym (drop-nil (suc j + e))
drop-drop (suc j) e (x ∷ xs) =
    drop-drop j e xs ∙ ap (λ n. drop n (x ∷ xs)) (let f : suc (j + e) ≡ suc j + e = omega arith in f)

pub ahead-is : (e j : ℕ) → ahead e j ≡ j + e
ahead-is e zero = (let f : e ≡ 0 + e = omega arith in f)
ahead-is e (suc j) = ap suc (ahead-is e j) ∙ (let f : suc (j + e) ≡ suc j + e = omega arith in f)

module _ (q : ℕ) (G : Monoid) where
  pub alike-refl : (u : Cocycle q G) → AreAlike u u
  alike-refl u = record { same = refl; near = near-refl q G u.deg u.at }

  pub alike-sym : (u v : Cocycle q G) → AreAlike u v → AreAlike v u
  alike-sym u v h =
      record {
        same = sym h.same;
        near = subst (λ d. AreCohomologous q G d v.at u.at) h.same (near-sym q G u.deg u.at v.at h.near);
      }

  pub alike-trans : (u v w : Cocycle q G) → AreAlike u v → AreAlike v w → AreAlike u w
  alike-trans u v w h k = record {
    same = h.same ∙ k.same;
    near = near-trans q G u.deg u.at v.at w.at h.near
        (subst (λ d. AreCohomologous q G d v.at w.at) (sym h.same) k.near);
  }

  -- cocycles of one degree with the same values
  pub alike-eq : (u v : Cocycle q G) → u.deg ≡ v.deg
      → ((t : Tuple G.elem u.deg) → u.at (entries u.deg t) ≡ v.at (entries u.deg t)) → AreAlike u v
  alike-eq u v s e = record { same = s; near = near-eq q G u.deg u.at v.at e }

  pub minus-lin : {X : Type 0} (n : ℕ) (f : X → Below (suc q)) (ts : List (Term G X))
      → lin (K q G) (λ x. turned q n (f x)) ts ≡ turned q n (lin (K q G) f ts)
  minus-lin zero f ts = refl
  minus-lin (suc n) f ts = lin-neg (K q G) (λ x. turned q n (f x)) ts ∙ ap (minus q) (minus-lin n f ts)

  pub turned-zero : (n : ℕ) → turned q n (residue q 0) ≡ residue q 0
  turned-zero zero = refl
  turned-zero (suc n) = ap (minus q) (turned-zero n) ∙ map-zero (K q G) (K q G) (minus q) (neg-add (K q G))

  abbrev pub turn : ℕ → Cocycle q G → Cocycle q G
  turn n u = record {
    deg = u.deg;
    at = λ xs. turned q n (u.at xs);
    normal = λ t z. ap (turned q n) (u.normal t z) ∙ turned-zero n;
    cocycle = λ t. minus-lin n (λ s. u.at (entries u.deg s)) (boundary q G u.deg t)
        ∙ ap (turned q n) (u.cocycle t) ∙ turned-zero n;
  }

  pub turn-cong : (n : ℕ) (u v : Cocycle q G) → AreAlike u v → AreAlike (turn n u) (turn n v)
  turn-cong n u v h = record { same = h.same; near = near-turned q G n u.deg u.at v.at h.near }

  -- the cup product
  abbrev pub mul : Cocycle q G → Cocycle q G → Cocycle q G
  mul u v = record {
    deg = u.deg + v.deg;
    at = cup q u.deg u.at v.at;
    normal = subst (λ d. IsNormalised q G d (cup q u.deg u.at v.at)) (ahead-is v.deg u.deg)
        (cup-normal q G u.deg v.deg u.at v.at v.normal v.cocycle u.normal);
    cocycle = subst (λ d. IsCocycle q G d (cup q u.deg u.at v.at)) (ahead-is v.deg u.deg)
        (cup-cocycle q G u.deg v.deg u.at v.at v.normal v.cocycle u.normal u.cocycle);
  }

  pub mul-left : (u u' v : Cocycle q G) → AreAlike u u' → AreAlike (mul u v) (mul u' v)
  mul-left u u' v h = record {
    same = ap (λ n. n + v.deg) h.same;
    near =
        subst (λ d. AreCohomologous q G d (cup q u.deg u.at v.at) (cup q u'.deg u'.at v.at))
        (ahead-is v.deg u.deg)
        (subst (λ j. AreCohomologous q G (ahead v.deg u.deg) (cup q u.deg u.at v.at)
        (cup q j u'.at v.at)) h.same
        (near-left q G u.deg v.deg u.at v.at v.normal v.cocycle u'.at h.near));
  }

  pub mulK-assoc : (a b c : Below (suc q)) → mulK q G (mulK q G a b) c ≡ mulK q G a (mulK q G b c)
  mulK-assoc a b c =
      ap (λ x. mulK q G x c) (sym (times-residue q a.0 b))
      ∙ map-times (K q G) (K q G) (λ x. mulK q G x c) (mulK-add-left q G c) a.0 b
      ∙ times-residue q a.0 (mulK q G b c)

  pub mul-assoc : (u v w : Cocycle q G) → AreAlike (mul (mul u v) w) (mul u (mul v w))
  mul-assoc u v w =
      alike-eq (mul (mul u v) w) (mul u (mul v w)) (omega arith)
      (λ t. values (entries (u.deg + v.deg + w.deg) t))
    where
      values : (xs : List G.elem)
          → cup q (u.deg + v.deg) (cup q u.deg u.at v.at) w.at xs
          ≡ cup q u.deg u.at (cup q v.deg v.at w.at) xs
      values xs =
          ap₂ (λ a b. mulK q G (mulK q G a b) (w.at (drop (u.deg + v.deg) xs)))
          (ap u.at (take-take u.deg v.deg xs)) (ap v.at (drop-take u.deg v.deg xs))
          ∙ mulK-assoc (u.at (take u.deg xs)) (v.at (take v.deg (drop u.deg xs)))
          (w.at (drop (u.deg + v.deg) xs))
          ∙ ap (λ ys. mulK q G (u.at (take u.deg xs))
          (mulK q G (v.at (take v.deg (drop u.deg xs))) (w.at ys))) (sym (drop-drop u.deg v.deg xs))

  abbrev pub one : Cocycle q G
  one = record {
    deg = 0;
    at = λ xs. residue q 1;
    normal = λ t n. absurd n;
    cocycle = λ t.
        let N : Module (suc q) G = K q G in
        ap₂ N.add (N.add-zero (residue q 1)) (N.add-zero (times N.add N.zero q (residue q 1)))
        ∙ N.times-p (residue q 1);
  }

  mulK-one : (a : Below (suc q)) → mulK q G (residue q 1) a ≡ a
  mulK-one a =
      mulK-comm q G (residue q 1) a ∙ sym (times-residue q a.0 (residue q 1)) ∙ times-one q a.0
      ∙ residue-self q a

  take-all : (d : ℕ) (t : Tuple G.elem d) → take d (entries d t) ≡ entries d t
  take-all zero t = refl
  take-all (suc d) t = ap (λ xs. t.0 ∷ xs) (take-all d t.1)

  pub one-mul : (u : Cocycle q G) → AreAlike (mul one u) u
  one-mul u = alike-eq (mul one u) u (omega arith) (λ t. mulK-one (u.at (entries (0 + u.deg) t)))

  pub mul-one : (u : Cocycle q G) → AreAlike (mul u one) u
  mul-one u =
      alike-eq (mul u one) u (omega arith)
      (λ t. mulK-comm q G (u.at (take u.deg (entries (u.deg + 0) t))) (residue q 1)
      ∙ mulK-one (u.at (take u.deg (entries (u.deg + 0) t)))
      ∙ ap u.at (subst (λ k. take k (entries (u.deg + 0) t) ≡ entries (u.deg + 0) t)
      (let f : u.deg + 0 ≡ u.deg = omega arith in f) (take-all (u.deg + 0) t)))

  module _ (I : Inverse G) where
    -- the reversal
    abbrev pub opposite : Cocycle q G → Cocycle q G
    opposite u = record {
      deg = u.deg;
      at = reversed q G I u.deg u.at;
      normal = near-normal q G u.deg (reversed q G I u.deg u.at) u.at
          (near-reversed q G I u.deg u.at u.normal u.cocycle) u.normal;
      cocycle = near-cocycle q G u.deg (reversed q G I u.deg u.at) u.at
          (near-reversed q G I u.deg u.at u.normal u.cocycle) u.cocycle;
    }

    pub opposite-alike : (u : Cocycle q G) → AreAlike (opposite u) u
    opposite-alike u = record { same = refl; near = near-reversed q G I u.deg u.at u.normal u.cocycle }

    pub opposite-mul : (u v : Cocycle q G)
        → AreAlike (turn (u.deg * v.deg) (mul (opposite v) (opposite u))) (opposite (mul u v))
    opposite-mul u v = record {
      same = omega arith;
      near =
          subst (λ d. AreCohomologous q G d
          (λ xs. turned q (u.deg * v.deg)
          (cup q v.deg (reversed q G I v.deg v.at) (reversed q G I u.deg u.at) xs))
          (reversed q G I (u.deg + v.deg) (cup q u.deg u.at v.at)))
          (ahead-is u.deg v.deg) (near-cup-reversed q G I u.deg v.deg u.at v.at);
    }

    -- u v = sign of v' u', for the reversals
    across : (u v : Cocycle q G) → AreAlike (mul u v) (turn (u.deg * v.deg) (mul v (opposite u)))
    across u v =
        let s : ℕ = u.deg * v.deg in
        alike-trans (mul u v) (opposite (mul u v)) (turn s (mul v (opposite u)))
        (alike-sym (opposite (mul u v)) (mul u v) (opposite-alike (mul u v)))
        (alike-trans (opposite (mul u v)) (turn s (mul (opposite v) (opposite u)))
        (turn s (mul v (opposite u)))
        (alike-sym (turn s (mul (opposite v) (opposite u))) (opposite (mul u v)) (opposite-mul u v))
        (turn-cong s (mul (opposite v) (opposite u)) (mul v (opposite u))
        (mul-left (opposite v) v (opposite u) (opposite-alike v))))

    pub mul-right : (u v v' : Cocycle q G) → AreAlike v v' → AreAlike (mul u v) (mul u v')
    mul-right u v v' h =
        alike-trans (mul u v) (turn (u.deg * v.deg) (mul v (opposite u))) (mul u v') (across u v)
        (alike-trans (turn (u.deg * v.deg) (mul v (opposite u)))
        (turn (u.deg * v'.deg) (mul v' (opposite u))) (mul u v')
        (subst (λ d. AreAlike (turn (u.deg * v.deg) (mul v (opposite u)))
        (turn (u.deg * d) (mul v' (opposite u)))) h.same
        (turn-cong (u.deg * v.deg) (mul v (opposite u)) (mul v' (opposite u)) (mul-left v v' (opposite u) h)))
        (alike-sym (mul u v') (turn (u.deg * v'.deg) (mul v' (opposite u))) (across u v')))

    -- the cup product in the other order
    pub mul-comm : (u v : Cocycle q G) → AreAlike (mul u v) (turn (u.deg * v.deg) (mul v u))
    mul-comm u v =
        alike-trans (mul u v) (turn (u.deg * v.deg) (mul v (opposite u))) (turn (u.deg * v.deg) (mul v u))
        (across u v)
        (turn-cong (u.deg * v.deg) (mul v (opposite u)) (mul v u)
        (mul-right v (opposite u) u (opposite-alike u)))

-- Signs: changes of sign by recursion, and by the parity of their number.
use Rattle.std.specs.Prelude.{◌≡◌, ◌≢◌, ℕ, zero, suc, refl, ◌+◌, ◌*◌, ◌%◌, Bool, true, false, cond, eqb, not}
use Rattle.std.specs.Prelude.{◌&&◌}
use Rattle.std.proofs.Common.{sym, ◌∙◌, ap, arith}
use Rattle.std.proofs.Math.Nat.{add-mod_left}
use Rattle.group_modules.specs.Module.{Monoid}
use Rattle.group_modules.proofs.Laws.{neg-neg}
use Rattle.group_modules.specs.Field.{Below, Fp, residue}
use Rattle.linear_algebra.proofs.Residues.{residue-self}
use Rattle.bar_complex.specs.Cochains.{turned}
use Rattle.graded_polynomials.specs.Monomials.{is_exterior, sign}
use Rattle.graded_polynomials.proofs.Terms.{eqb-true, false≢true}

pub turned-sign : (q : ℕ) (G : Monoid) (n : ℕ) (x : Below (suc q)) → turned q n x ≡ residue q (sign q n * x.0)
turned-sign q G zero x = sym (ap (residue q) (let e : 1 * x.0 ≡ x.0 = omega arith in e) ∙ residue-self q x)
turned-sign q G (suc zero) x = refl
turned-sign q G (suc (suc n)) x =
    neg-neg (Fp q G) (turned q n x) ∙ turned-sign q G n x
    ∙ ap (λ m. residue q (cond (eqb m 0) 1 q * x.0))
    (sym (add-mod_left 2 n) ∙ ap (λ m. m % 2) (let e : 2 + n ≡ suc (suc n) = omega arith in e))

pub both : (b c : Bool) → (b && c) ≡ true → (b ≡ true) × (c ≡ true)
both true c e = (refl, e)
both false c e = false≢true e

not-two : (b : Bool) → not b ≡ true → b ≡ true → ⊥
not-two true e f = false≢true e
not-two false e f = false≢true f

-- where squares of degree d vanish, p is not 2 and d is odd
pub exterior : (q d : ℕ) → is_exterior q d ≡ true → (q ≢ 1) × (d % 2 ≡ 1)
exterior q d e =
    let h : (not (eqb q 1) ≡ true) × (eqb (d % 2) 1 ≡ true) = both (not (eqb q 1)) (eqb (d % 2) 1) e in
    (λ k. not-two (eqb q 1) h.0 (ap (λ m. eqb m 1) k), eqb-true (d % 2) 1 h.1)

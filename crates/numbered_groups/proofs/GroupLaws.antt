-- Laws of inverses in a group on the numbers below n.
use Rattle.std.specs.Prelude.{◌≡◌, ℕ}
use Rattle.std.proofs.Common.{sym, ◌∙◌, ap}
use Rattle.linear_algebra.specs.Residues.{Below}
use Rattle.numbered_groups.specs.Groups.{Group}

module _ {n : ℕ} (q : ℕ) (Γ : Group n) where
  pub inv-inv-mul : (g h : Below n) → Γ.mul (Γ.inv g) h ≡ Γ.one → h ≡ g
  inv-inv-mul g h e =
      sym (Γ.one-mul h) ∙ ap (λ k. Γ.mul k h) (sym (Γ.mul-inv g)) ∙ Γ.mul-assoc g (Γ.inv g) h ∙ ap (Γ.mul g) e
      ∙ Γ.mul-one g

  pub inv-one : Γ.inv Γ.one ≡ Γ.one
  inv-one = sym (Γ.mul-one (Γ.inv Γ.one)) ∙ Γ.inv-mul Γ.one

  pub inv-unique : (g h : Below n) → Γ.mul g h ≡ Γ.one → h ≡ Γ.inv g
  inv-unique g h e =
      sym (Γ.one-mul h) ∙ ap (λ k. Γ.mul k h) (sym (Γ.inv-mul g)) ∙ Γ.mul-assoc (Γ.inv g) g h
      ∙ ap (Γ.mul (Γ.inv g)) e
      ∙ Γ.mul-one (Γ.inv g)

  pub inv-of-mul : (g h : Below n) → Γ.inv (Γ.mul g h) ≡ Γ.mul (Γ.inv h) (Γ.inv g)
  inv-of-mul g h =
      sym
      (inv-unique (Γ.mul g h) (Γ.mul (Γ.inv h) (Γ.inv g))
      (Γ.mul-assoc g h (Γ.mul (Γ.inv h) (Γ.inv g))
      ∙ ap (Γ.mul g) (sym (Γ.mul-assoc h (Γ.inv h) (Γ.inv g)) ∙ ap (λ k. Γ.mul k (Γ.inv g)) (Γ.mul-inv h)
      ∙ Γ.one-mul (Γ.inv g))
      ∙ Γ.mul-inv g))

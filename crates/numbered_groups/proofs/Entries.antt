-- Tables with an entry modulo p = q + 1 for each block and each element of a group are a module on which the
-- group acts.
use Rattle.std.specs.Prelude.{◌≡◌, ℕ, zero, suc, refl}
use Rattle.std.proofs.Common.{◌∙◌, ap}
use mathlib.Core.Path.{fun_ext}
use mathlib.Core.HLevel.{→_set}
use Rattle.linear_algebra.specs.Residues.{Below, residue, plus, minus, times}
use Rattle.linear_algebra.proofs.Residues.{below-set, plus-assoc, plus-comm, plus-zero, plus-minus, times-p}
use Rattle.numbered_groups.specs.Groups.{Group}
use Rattle.numbered_groups.proofs.GroupLaws.{inv-one, inv-of-mul}

module _ {n : ℕ} (q : ℕ) (Γ : Group n) where
  pub times-at : (b k : ℕ) (v : Below b → Below n → Below (suc q)) (i : Below b) (g : Below n)
      → times (λ (v w : Below b → Below n → Below (suc q)) i g. plus q (v i g) (w i g))
      (λ i g. residue q 0) k v i g ≡ times (plus q) (residue q 0) k (v i g)
  times-at b zero v i g = refl
  times-at b (suc k) v i g = ap (plus q (v i g)) (times-at b k v i g)

  module _ (b : ℕ) where
    abbrev Entries : Type 0
    Entries = Below b → Below n → Below (suc q)

    abbrev add : Entries → Entries → Entries
    add v w i g = plus q (v i g) (w i g)

    abbrev none : Entries
    none i g = residue q 0

    abbrev move : Below n → Entries → Entries
    move h v i g = v i (Γ.mul (Γ.inv h) g)

    pub entries-set : IsSet Entries
    entries-set = →_set (→_set (below-set (suc q)))

    pub entries-assoc : (u v w : Entries) → add (add u v) w ≡ add u (add v w)
    entries-assoc u v w = fun_ext (λ i. fun_ext (λ g. plus-assoc q (u i g) (v i g) (w i g)))

    pub entries-comm : (u v : Entries) → add u v ≡ add v u
    entries-comm u v = fun_ext (λ i. fun_ext (λ g. plus-comm q (u i g) (v i g)))

    pub entries-zero : (u : Entries) → add u none ≡ u
    entries-zero u = fun_ext (λ i. fun_ext (λ g. plus-zero q (u i g)))

    pub entries-neg : (u : Entries) → add u (λ i g. minus q (u i g)) ≡ none
    entries-neg u = fun_ext (λ i. fun_ext (λ g. plus-minus q (u i g)))

    pub entries-p : (u : Entries) → times add none (suc q) u ≡ none
    entries-p u = fun_ext (λ i. fun_ext (λ g. times-at b (suc q) u i g ∙ times-p q (u i g)))

    pub move-one : (v : Entries) → move Γ.one v ≡ v
    move-one v = fun_ext (λ i. fun_ext (λ g. ap (v i) (ap (λ k. Γ.mul k g) (inv-one q Γ) ∙ Γ.one-mul g)))

    pub move-mul : (g h : Below n) (v : Entries) → move (Γ.mul g h) v ≡ move g (move h v)
    move-mul g h v =
        fun_ext (λ i. fun_ext (λ k. ap (v i) (ap (λ x. Γ.mul x k) (inv-of-mul q Γ g h)
        ∙ Γ.mul-assoc (Γ.inv h) (Γ.inv g) k)))

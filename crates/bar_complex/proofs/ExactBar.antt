-- The bar complex with its contraction.
use Rattle.std.specs.Prelude.{◌≡◌, ℕ, suc, refl, ◌+◌}
use Rattle.std.proofs.Common.{sym, ◌∙◌, ap}
use Rattle.group_modules.specs.Module.{Monoid, Module, sub, times}
use Rattle.group_modules.proofs.Laws.{sub-self, sub-zero, times-sum, times-mod}
use Rattle.bar_complex.proofs.FreeModules.{term, nil, plus, sum, additive-ext, move}
use Rattle.bar_complex.proofs.Contraction.{Bar, cons, bd, D, D-linear, D-cons, D-cons-zero, collapse}
use Rattle.group_modules.specs.Field.{Below, Fp, residue}
use Rattle.bar_complex.proofs.Complexes.{Exact}

module _ (q : ℕ) (G : Monoid) where
  -- the sum of the coefficients
  abbrev pub augment : (Bar (suc q) G 0).of → Below (suc q)
  augment = sum (Fp q G) (λ g t. residue q 1) (λ g t z. absurd z)

  pub augment-move : (g : G.elem) (a : (Bar (suc q) G 0).of) → augment (move G g a) ≡ augment a
  augment-move g =
      additive-ext (Fp q G) (λ a. augment (move G g a)) augment (λ a b. refl) (λ a b. refl) (λ k t. refl)

  pub augment-D : (a : (Bar (suc q) G 1).of) → augment (D (suc q) G 0 a) ≡ residue q 0
  augment-D =
      additive-ext (Fp q G) (λ a. augment (D (suc q) G 0 a)) (λ a. residue q 0) (λ a b. refl)
      (λ a b. sym ((Fp q G).add-zero (residue q 0)))
      (λ g t. augment-move g (bd (suc q) G 0 t) ∙ sub-self (Fp q G) (residue q 1))

  pub collapse-count : (a : (Bar (suc q) G 0).of)
      → collapse (suc q) G a ≡ times plus nil (augment a).0 (term G.one tt)
  collapse-count =
      let M : Module (suc q) G = Bar (suc q) G 0 in
      additive-ext M (collapse (suc q) G) (λ a. times plus nil (augment a).0 (term G.one tt)) (λ a b. refl)
      (λ a b.
      times-mod M ((augment a).0 + (augment b).0) (term G.one tt)
      ∙ times-sum M (augment a).0 (augment b).0 (term G.one tt))
      (λ g t. sym (times-mod M 1 (term G.one tt) ∙ M.add-zero (term G.one tt)))

  abbrev pub bar-exact : Exact q G
  bar-exact = record {
    at = Bar (suc q) G;
    boundary = D (suc q) G;
    linear = D-linear (suc q) G;
    augment = augment;
    augment-linear = record { on-add = λ a b. refl; on-act = augment-move };
    augment-boundary = augment-D;
    lift = cons (suc q) G;
    lift-nil = λ d. refl;
    lift-zero = λ v e.
        D-cons-zero (suc q) G v
        ∙ ap (sub (Bar (suc q) G 0) v)
        (collapse-count v ∙ ap (λ n. times plus nil n (term G.one tt)) (ap (λ (b : Below (suc q)). b.0) e)
        ∙ times-mod (Bar (suc q) G 0) 0 (term G.one tt))
        ∙ sub-zero (Bar (suc q) G 0) v;
    lift-suc = λ d v e.
        D-cons (suc q) G d v ∙ ap (λ w. sub (Bar (suc q) G (suc d)) v (cons (suc q) G d w)) e
        ∙ sub-zero (Bar (suc q) G (suc d)) v;
  }

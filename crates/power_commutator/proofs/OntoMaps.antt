-- A map of the numbers below n onto themselves is one to one.
use Rattle.std.proofs.Common.{◌≡◌, ℕ, sym, ◌∙◌, ap, ◌<◌}
use Rattle.group_table.proofs.Pigeonhole.{Into, OneToOne, preimage}

-- s chooses a preimage under f of each number below n
module _ (n : ℕ) (f s : ℕ → ℕ) (s-into : Into s n n) (f-s : (a : ℕ) → a < n
    → f (s a) ≡ a) (f-into : Into f n n) where
  s-one : OneToOne s n
  s-one i j p q e = sym (f-s i p) ∙ ap f e ∙ f-s j q

  chosen : (x : ℕ) → x < n → s (f x) ≡ x
  chosen x p =
      let i = preimage n s s-into s-one x p in
      ap (λ t. s (f t)) (sym i.2) ∙ ap s (f-s i.0 i.1) ∙ i.2

  pub onto-one : OneToOne f n
  onto-one i j p q e = sym (chosen i p) ∙ ap s e ∙ chosen j q

-- Rows that are a basis modulo the span of all (g - 1) v generate, are fewest, and have a kernel whose blocks
-- have sum 0.
use Rattle.std.specs.Prelude.{◌≡◌, ℕ, suc, refl, List, [], ◌∷◌, ◌^◌, ◌+◌, ◌≤◌, ◌<◌}
use Rattle.std.proofs.Common.{sym, ◌∙◌, ap, ap₂}
use mathlib.Core.Path.{subst, fun_ext}
use Rattle.group_modules.specs.Module.{Monoid, Module, sub, times, lin, IsLinear}
use Rattle.group_modules.proofs.Laws.{sub-zero, sub-add, sub-self, sub-back, sub-eq, neg-unique, neg-neg}
use Rattle.group_modules.proofs.Laws.{neg-add, times-add, times-neg, times-mod, times-sum, map-zero}
use Rattle.group_modules.specs.Field.{Below, residue, Fp, plus, minus}
use Rattle.group_modules.specs.Tables.{Group, monoid, Table, terms, unit, part, block-sum}
use Rattle.group_modules.proofs.TermLaws.{lin-terms}
use Rattle.group_modules.proofs.MapLaws.{terms-linear, terms-unit, total-times}
use Rattle.group_modules.specs.Sums.{total, below}
use Rattle.group_modules.proofs.SumLaws.{total-add}
use Rattle.augmentation_ideal.specs.Primes.{IsPrime}
use Rattle.augmentation_ideal.specs.Radical.{Moved, none, both, moved, IsSubmodule}
use Rattle.augmentation_ideal.specs.Generators.{combine, IsBasisModuloMoved, Generate}
use Rattle.augmentation_ideal.proofs.Finite.{Finite}
use Rattle.augmentation_ideal.proofs.Nakayama.{moved-times, moved-neg, times-in, nakayama}
use Rattle.augmentation_ideal.proofs.Pigeonhole.{dimension-le}

module _ {q : ℕ} {G : Monoid} (M : Module (suc q) G) (K : M.of → Type 0) where
  -- x and y differ by a member of the span of all (g - 1) v with v in K
  abbrev pub Close : M.of → M.of → Type 0
  Close x y = Moved M K (sub M x y)

  pub close-zero : (x : M.of) → Close x M.zero → Moved M K x
  close-zero x h = subst (Moved M K) (sub-zero M x) h

  pub close-add : (a b c d : M.of) → Close a b → Close c d → Close (M.add a c) (M.add b d)
  close-add a b c d h k = subst (Moved M K) (sym (sub-add M a c b d)) (both h k)

  pub close-refl : (x : M.of) → Close x x
  close-refl x = subst (Moved M K) (sym (sub-self M x)) none

  pub close-sym : (x y : M.of) → Close x y → Close y x
  close-sym x y h = subst (Moved M K) (neg-add M x (M.neg y) ∙ ap (M.add (M.neg x)) (neg-neg M y)
      ∙ M.add-comm (M.neg x) y) (moved-neg M K _ h)

  pub close-trans : (x y z : M.of) → Close x y → Close y z → Close x z
  close-trans x y z h k = subst (Moved M K) (sym (M.add-assoc (sub M x y) y (M.neg z))
      ∙ ap (λ w. M.add w (M.neg z)) (sub-back M x y)) (both h k)

  pub close-times : (c : ℕ) (x y : M.of) → Close x y → Close (times M.add M.zero c x) (times M.add M.zero c y)
  close-times c x y h = subst (Moved M K) (times-add M c x (M.neg y)
      ∙ ap (M.add (times M.add M.zero c x)) (times-neg M c y)) (moved-times M K c _ h)

  pub close-total : {A : Type 0} (xs : List A) (f g : A → M.of) → ((x : A) → Close (f x) (g x))
      → Close (total M xs f) (total M xs g)
  close-total [] f g h = close-refl M.zero
  close-total (x ∷ xs) f g h = close-add (f x) (g x) (total M xs f) (total M xs g) (h x)
      (close-total xs f g h)

module _ {n : ℕ} (q : ℕ) (Γ : Group n) (M : Module (suc q) (monoid Γ)) (K : M.of → Type 0) where
  -- the value at u is the combination by the sums of u's blocks, up to the span of all (g - 1) v
  pub split : (b : ℕ) (r : Below b → M.of) → ((i : Below b) → K (r i)) → (u : (Table q Γ b).of)
      → Close M K (lin M r (terms q Γ b u)) (combine M b r (block-sum q Γ b u))
  split b r k u =
      subst (λ x. Close M K x (combine M b r (block-sum q Γ b u))) (sym (lin-terms q Γ M b r u (below b)))
      (close-total M K (below b) (λ i. total M (below n) (part q Γ M b r u i))
      (λ i. times M.add M.zero (block-sum q Γ b u i).0 (r i))
      (λ i. subst (Close M K (total M (below n) (part q Γ M b r u i)))
      (total-times q Γ M (below n) (u i) (r i))
      (close-total M K (below n) (part q Γ M b r u i) (λ g. times M.add M.zero (u i g).0 (r i))
      (λ g. close-times M K (u i g).0 (M.act g (r i)) (r i) (moved g (r i) (k i))))))

  module _ (m : ℕ) (row : Below m → M.of) (B : IsBasisModuloMoved M K m row) where
    -- the blocks of a member of the kernel have sum 0
    pub kernel-minimal : (u : (Table q Γ m).of) → lin M row (terms q Γ m u) ≡ M.zero → (i : Below m)
        → block-sum q Γ m u i ≡ residue q 0
    kernel-minimal u e = B.independent (block-sum q Γ m u)
        (close-zero M K _ (close-sym M K M.zero _
        (subst (λ x. Close M K x (combine M m row (block-sum q Γ m u))) e (split m row B.members u))))

    combine-minus : (c d : Below m → Below (suc q))
        → combine M m row (λ i. plus q (c i) (minus q (d i))) ≡ sub M (combine M m row c) (combine M m row d)
    combine-minus c d =
        ap (total M (below m)) (fun_ext (λ i. times-mod M ((c i).0 + (minus q (d i)).0) (row i)
        ∙ times-sum M (c i).0 (minus q (d i)).0 (row i)))
        ∙ total-add M (below m) (λ i. times M.add M.zero (c i).0 (row i))
        (λ i. times M.add M.zero (minus q (d i)).0 (row i))
        ∙ ap (M.add (combine M m row c))
        (neg-unique M (combine M m row d) (combine M m row (λ i. minus q (d i)))
        (sym (total-add M (below m) (λ i. times M.add M.zero (d i).0 (row i))
        (λ i. times M.add M.zero (minus q (d i)).0 (row i)))
        ∙ ap (total M (below m)) (fun_ext (λ i. sym (times-sum M (d i).0 (minus q (d i)).0 (row i))
        ∙ sym (times-mod M ((d i).0 + (minus q (d i)).0) (row i))
        ∙ ap (λ (a : Below (suc q)). times M.add M.zero a.0 (row i)) ((Fp q (monoid Γ)).add-neg (d i))
        ∙ times-mod M 0 (row i)))
        ∙ zeros (below m)))
      where
        zeros : {A : Type 0} (xs : List A) → total M xs (λ i. M.zero) ≡ M.zero
        zeros [] = refl
        zeros (x ∷ xs) = ap (M.add M.zero) (zeros xs) ∙ M.add-zero M.zero

    -- coefficients of close combinations are equal
    pub same-coefficients : (c d : Below m → Below (suc q))
        → Close M K (combine M m row c) (combine M m row d) → c ≡ d
    same-coefficients c d h = fun_ext (λ i. sub-eq-field (c i) (d i)
        (B.independent (λ i. plus q (c i) (minus q (d i))) (subst (Moved M K) (sym (combine-minus c d)) h) i))
      where
        sub-eq-field : (a b : Below (suc q)) → plus q a (minus q b) ≡ residue q 0 → a ≡ b
        sub-eq-field a b e = sub-eq (Fp q (monoid Γ)) a b e

    combine-in : IsSubmodule M K → (c : Below m → Below (suc q)) → K (combine M m row c)
    combine-in U c = in-list (below m)
      where
        in-list : (xs : List (Below m)) → K (total M xs (λ i. times M.add M.zero (c i).0 (row i)))
        in-list [] = U.zero-in
        in-list (x ∷ xs) = U.add-in _ _ (times-in M K U (c x).0 (row x) (B.members x)) (in-list xs)

    -- no fewer rows generate
    pub fewest : 1 < suc q → IsSubmodule M K → (l : ℕ) (s : Below l → M.of) → ((i : Below l) → K (s i))
        → Generate q Γ M K l s → m ≤ l
    fewest h U l s k f = dimension-le (suc q) m l h coefficients (λ c d e. same-coefficients c d
        (close-trans M K (combine M m row c) (combine M l s (coefficients c)) (combine M m row d) (near c)
        (close-sym M K (combine M m row d) (combine M l s (coefficients c))
        (subst (λ a. Close M K (combine M m row d) (combine M l s a)) (sym e) (near d)))))
      where
        coefficients : (Below m → Below (suc q)) → Below l → Below (suc q)
        coefficients c = block-sum q Γ l (f (combine M m row c) (combine-in U c)).0

        near : (c : Below m → Below (suc q)) → Close M K (combine M m row c) (combine M l s (coefficients c))
        near c = let r : (u : (Table q Γ l).of) × (lin M s (terms q Γ l u) ≡ combine M m row c) =
            f (combine M m row c) (combine-in U c) in
            subst (λ x. Close M K x (combine M l s (coefficients c))) r.1 (split l s k r.0)

    -- the values of the map that takes basis element i to row i are a submodule
    abbrev pub Image : M.of → Type 0
    Image v = (u : (Table q Γ m).of) × (lin M row (terms q Γ m u) ≡ v)

    image-linear : IsLinear (Table q Γ m) M (λ u. lin M row (terms q Γ m u))
    image-linear = terms-linear q Γ m M row

    pub image-submodule : IsSubmodule M Image
    image-submodule = record {
      zero-in = (
        (Table q Γ m).zero,
        map-zero (Table q Γ m) M
            (λ u. lin M row (terms q Γ m u)) image-linear.on-add,
      );
      add-in = λ x y a b. ((Table q Γ m).add a.0 b.0, image-linear.on-add a.0 b.0 ∙ ap₂ M.add a.1 b.1);
      act-in = λ g x a. ((Table q Γ m).act g a.0, image-linear.on-act g a.0 ∙ ap (M.act g) a.1);
    }

    combine-image : (c : Below m → Below (suc q)) → Image (combine M m row c)
    combine-image c = in-list (below m)
      where
        in-list : (xs : List (Below m)) → Image (total M xs (λ i. times M.add M.zero (c i).0 (row i)))
        in-list [] = image-submodule.zero-in
        in-list (x ∷ xs) = image-submodule.add-in _ _
            (times-in M Image image-submodule (c x).0 (row x) (unit q Γ m x, terms-unit q Γ m M row x))
            (in-list xs)

    -- the rows generate
    pub generate : (e : ℕ) → IsPrime (suc q) → n ≡ suc q ^ e → Finite M.of → Generate q Γ M K m row
    generate e W size F = nakayama q e Γ W size M F K Image image-submodule
        (λ v k. let r : (c : Below m → Below (suc q))
        × Moved M K (sub M v (combine M m row c)) = B.spanning v k in (
          combine M m row r.0,
          sub M v (combine M m row r.0),
          combine-image r.0,
          r.1,
          sym (M.add-comm (combine M m row r.0) _ ∙ sub-back M v (combine M m row r.0)),
        ))

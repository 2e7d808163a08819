-- The linear extension at a table is the sum over its terms.
use Rattle.std.specs.Prelude.{◌≡◌, ℕ, suc, refl, List, [], ◌∷◌, ◌≢◌, ◌⊎◌, Bool, true, false, eqb, ◌&&◌, ◌+◌}
use Rattle.std.proofs.Common.{sym, ◌∙◌, ap, ap₂, inl, inr, eq-eqb}
use mathlib.Core.Path.{fun_ext}
use Rattle.std.proofs.lemmas.Bool.Decides.{eqb_tells}
use Rattle.group_modules.specs.Module.{Module, times, IsAdditive, Term, lin}
use Rattle.linear_algebra.specs.Residues.{Below}
use Rattle.group_modules.specs.Sums.{below, total}
use Rattle.group_modules.specs.Tables.{Group, monoid}
use Rattle.group_modules.specs.Tables as tables
use Rattle.group_modules.proofs.Laws.{times-mod, times-sum}
use Rattle.linear_algebra.proofs.Residues.{below-path}
use Rattle.group_modules.proofs.SumLaws.{total-add, total-zero, total-only, lin-append}
use Rattle.numbered_groups.proofs.GroupLaws.{inv-inv-mul}

module _ {n : ℕ} (q : ℕ) (Γ : Group n) where
  abbrev Table : ℕ → Module (suc q) (monoid Γ)
  Table b = tables.Table q Γ b

  abbrev table-add : (b : ℕ) → (v w : (Table b).of) → (Table b).of
  table-add b v w = tables.table-add q Γ b v w

  abbrev mark : Bool → Below (suc q)
  mark t = tables.mark q Γ t

  abbrev unit : (b : ℕ) → Below b → (Table b).of
  unit b i = tables.unit q Γ b i

  abbrev block-terms : (b : ℕ) → (Table b).of → Below b → List (Below n) → List (Term (monoid Γ) (Below b))
  block-terms b v i gs = tables.block-terms q Γ b v i gs

  abbrev terms-of : (b : ℕ) → (Table b).of → List (Below b) → List (Term (monoid Γ) (Below b))
  terms-of b v is = tables.terms-of q Γ b v is

  abbrev terms : (b : ℕ) → (Table b).of → List (Term (monoid Γ) (Below b))
  terms b v = tables.terms q Γ b v

  module _ (M : Module (suc q) (monoid Γ)) (b : ℕ) (u : Below b → M.of) where
    abbrev part : (Table b).of → Below b → Below n → M.of
    part v i g = tables.part q Γ M b u v i g

    block-terms-sum : (v : (Table b).of) (i : Below b) (gs : List (Below n))
        → lin M u (block-terms b v i gs) ≡ total M gs (part v i)
    block-terms-sum v i [] = refl
    block-terms-sum v i (g ∷ gs) = ap (M.add (part v i g)) (block-terms-sum v i gs)

    -- the linear extension at v is the sum of all `v(i,g) g u(i)`
    pub lin-terms : (v : (Table b).of) (is : List (Below b))
        → lin M u (terms-of b v is) ≡ total M is (λ i. total M (below n) (part v i))
    lin-terms v [] = refl
    lin-terms v (i ∷ is) =
        lin-append M u (block-terms b v i (below n)) (terms-of b v is)
        ∙ ap₂ M.add (block-terms-sum v i (below n)) (lin-terms v is)

    part-add : (v w : (Table b).of) (i : Below b) (g : Below n)
        → part (table-add b v w) i g ≡ M.add (part v i g) (part w i g)
    part-add v w i g = times-mod M ((v i g).0 + (w i g).0) (M.act g (u i))
        ∙ times-sum M (v i g).0 (w i g).0 (M.act g (u i))

    pub terms-add : IsAdditive (Table b) M (λ v. lin M u (terms b v))
    terms-add v w =
        lin-terms (table-add b v w) (below b)
        ∙ ap (total M (below b))
        (fun_ext (λ i.
        ap (total M (below n)) (fun_ext (part-add v w i)) ∙ total-add M (below n) (part v i) (part w i)))
        ∙ total-add M (below b) (λ i. total M (below n) (part v i)) (λ i. total M (below n) (part w i))
        ∙ sym (ap₂ M.add (lin-terms v (below b)) (lin-terms w (below b)))

    -- at `g unit(i)` it is g u(i)
    pub terms-at-unit : (g : Below n) (i : Below b)
        → lin M u (terms b ((Table b).act g (unit b i))) ≡ M.act g (u i)
    terms-at-unit g i =
        let v : (Table b).of = (Table b).act g (unit b i) in
        lin-terms v (below b)
        ∙ total-only M b (λ j. total M (below n) (part v j)) i
        (λ j e. total-zero M (below n) (part v j) (λ h. off j h e (eqb_tells j.0 i.0)))
        ∙ total-only M n (part v i) g (λ h e. off-elem h e (eqb_tells (Γ.mul (Γ.inv g) h).0 Γ.one.0))
        ∙ ap (λ c. times M.add M.zero (mark c).0 (M.act g (u i)))
        (ap₂ ◌&&◌ (eq-eqb i.0 i.0 refl) (eq-eqb (Γ.mul (Γ.inv g) g).0 Γ.one.0
        (ap (λ (k : Below n). k.0) (Γ.inv-mul g))))
        ∙ times-mod M 1 (M.act g (u i)) ∙ M.add-zero (M.act g (u i))
      where
        off : (j : Below b) (h : Below n) → j.0 ≢ i.0
            → ((eqb j.0 i.0 ≡ true) × (j.0 ≡ i.0)) ⊎ ((eqb j.0 i.0 ≡ false) × (j.0 ≢ i.0))
            → part ((Table b).act g (unit b i)) j h ≡ M.zero
        off j h e (inl k) = absurd (e k.1)
        off j h e (inr k) =
            ap (λ c. times M.add M.zero (mark (c && eqb (Γ.mul (Γ.inv g) h).0 Γ.one.0)).0 (M.act h (u j))) k.0
            ∙ times-mod M 0 (M.act h (u j))

        off-elem : (h : Below n) → h.0 ≢ g.0
            → ((eqb (Γ.mul (Γ.inv g) h).0 Γ.one.0 ≡ true) × ((Γ.mul (Γ.inv g) h).0 ≡ Γ.one.0))
            ⊎ ((eqb (Γ.mul (Γ.inv g) h).0 Γ.one.0 ≡ false) × ((Γ.mul (Γ.inv g) h).0 ≢ Γ.one.0))
            → part ((Table b).act g (unit b i)) i h ≡ M.zero
        off-elem h e (inl k) =
            absurd (e (ap (λ (k : Below n). k.0)
            (inv-inv-mul q Γ g h (below-path (Γ.mul (Γ.inv g) h) Γ.one k.1))))
        off-elem h e (inr k) =
            ap (λ c. times M.add M.zero (mark c).0 (M.act h (u i))) (ap₂ ◌&&◌ (eq-eqb i.0 i.0 refl) k.0)
            ∙ times-mod M 0 (M.act h (u i))

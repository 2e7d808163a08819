-- The coefficients of a multiple of the element 1.
use Rattle.std.proofs.Common.{◌≡◌, ◌≢◌, ℕ, zero, suc, ◌<◌, ◌≤◌, ◌⊎◌, List, length, set, true, false, eqb}
use Rattle.std.proofs.Common.{◌&&◌, inl, inr, arith, ap, ap₂, sym, ◌∙◌, refl, eq-eqb, get_or-set_same}
use Rattle.std.proofs.Common.{get_or-set_other}
use Rattle.std.proofs.lemmas.Bool.Decides.{eqb_tells}
use Rattle.std.proofs.lemmas.List.{length-set}
use Rattle.std.proofs.Math.Nat.{mod-eq_of_lt, zero-mod}
use mathlib.Core.Path.{subst}
use Rattle.group_table.specs.Tables.{order}
use Rattle.group_modules.specs.Module.{times}
use Rattle.group_modules.specs.Field.{Below, Fp, residue, plus}
use Rattle.linear_algebra.proofs.Residues.{times-one}
use Rattle.group_modules.proofs.Laws.{times-zero}
use Rattle.group_modules.specs.Tables.{Group, monoid, mark, unit}
use Rattle.numbered_groups.proofs.Entries.{times-at}
use Rattle.linear_algebra.specs.Rows.{entry, IsRow}
use Rattle.p_groups.specs.PGroups.{PGroup, largest_residue, group}
use Rattle.p_groups.proofs.Fields.{residues}
use Rattle.group_algebra.specs.Coordinates.{AreCoefficients}
use Rattle.chain_lift.specs.RowMaps.{multiple_of_one}

-- the row with c at its first place
first-set : (xs ys : List ℕ) (c : ℕ) → ys ≡ set xs 0 c → 0 < length xs → entry ys 0 ≡ c
first-set xs ys c e l = ap (λ z. entry z 0) e ∙ get_or-set_same xs 0 c 0 l

pub others-stay : (xs ys : List ℕ) (c : ℕ) → ys ≡ set xs 0 c → ((k : ℕ) → 1 ≤ k → entry xs k ≡ 0) → (k : ℕ)
    → 1 ≤ k → entry ys k ≡ 0
others-stay xs ys c e z k l = ap (λ z. entry z k) e
    ∙ get_or-set_other xs 0 k c 0 (λ d. absurd (omega (arith, d, l))) ∙ z k l

module _ (G : PGroup) where
  abbrev q : ℕ
  q = largest_residue G

  abbrev Γ : Group (order G.table)
  Γ = group G

  pub multiple-coefficients : (a : List ℕ) (c : ℕ) → IsRow G.table.p (order G.table) a → entry a 0 ≡ c
      → ((k : ℕ) → 1 ≤ k → entry a k ≡ 0) → c < G.table.p
      → AreCoefficients G a (multiple_of_one G c)
  multiple-coefficients a c r first others l = record { is_row = r; each = λ g. go g (eqb_tells g.0 0) }
    where
      value : (g : Below (order G.table)) → (multiple_of_one G c (residue 0 0) g).0
          ≡ (times (plus q) (residue q 0) c (mark q Γ (eqb (residue 0 0).0 (residue 0 0).0 && eqb g.0 0))).0
      value g = ap (λ (x : Below (suc q)). x.0) (times-at q Γ 1 c (unit q Γ 1 (residue 0 0)) (residue 0 0) g)

      same : eqb (residue 0 0).0 (residue 0 0).0 ≡ true
      same = eq-eqb (residue 0 0).0 (residue 0 0).0 refl

      go : (g : Below (order G.table)) → ((eqb g.0 0 ≡ true) × (g.0 ≡ 0)) ⊎ ((eqb g.0 0 ≡ false) × (g.0 ≢ 0))
          → entry a g.0 ≡ (multiple_of_one G c (residue 0 0) g).0
      go g (inl k) = ap (entry a) k.1 ∙ first
          ∙ sym (value g ∙ ap (λ (x : Below (suc q)). x.0)
          (ap (λ t. times (plus q) (residue q 0) c (mark q Γ t)) (ap₂ ◌&&◌ same k.0) ∙ times-one q c)
          ∙ mod-eq_of_lt (subst (λ p. c < p) (sym (residues G)) l))
      go g (inr k) = others g.0 (let d : g.0 ≢ 0 = k.1 in omega (arith, d))
          ∙ sym (value g ∙ ap (λ (x : Below (suc q)). x.0)
          (ap (λ t. times (plus q) (residue q 0) c (mark q Γ t)) (ap₂ ◌&&◌ same k.0)
          ∙ times-zero (Fp q (monoid Γ)) c)
          ∙ zero-mod (suc q))

  -- those of the row that had zeros after its first place, once c is there
  pub coefficients-of : (xs ys a : List ℕ) (c : ℕ) → length xs ≡ order G.table
      → ((k : ℕ) → 1 ≤ k → entry xs k ≡ 0) → ys ≡ set xs 0 c → a ≡ ys → c < G.table.p
      → AreCoefficients G a (multiple_of_one G c)
  coefficients-of xs ys a c n z e f l =
      subst (λ x. AreCoefficients G x (multiple_of_one G c)) (sym f)
      (multiple-coefficients ys c r first (others-stay xs ys c e z) l)
    where
      first : entry ys 0 ≡ c
      first = first-set xs ys c e (subst (λ k. 0 < k) (sym n) G.law.law.some)

      below : (k : ℕ) → entry ys k < G.table.p
      below zero = subst (λ x. x < G.table.p) (sym first) l
      below (suc k) = subst (λ x. x < G.table.p) (sym (others-stay xs ys c e z (suc k) (omega arith)))
          (omega (arith, l))

      r : IsRow G.table.p (order G.table) ys
      r = record {
        length_is = ap (λ (x : List ℕ). length x) e ∙ length-set xs 0 c
            ∙ n;
        below = λ k m. below k;
      }

-- The steps of `value`, as the calls make them.
use Rattle.std.proofs.Common.{◌≡◌, ◌∙◌, ℕ, zero, suc, ◌<◌, ◌^◌, List, [], ◌∷◌, length, All, Bool, true, false}
use Rattle.std.proofs.Common.{cond, leb, refl, ap, sym, subst, arith}
use Rattle.std.proofs.lemmas.Bool.Decides.{nat_tests}
use Rattle.std.specs.List.{find}
use Rattle.std.specs.declared.option.Option.{Option}
use Rattle.std.specs.declared.option.Option.TheVariants.{None, Some}
use Rattle.std.specs.declared.result.Result.TheVariants.{Ok, Err}
use Rattle.coho_io.specs.Content.{Content}
use Rattle.group_table.specs.Tables.{GroupTable, order_is}
use Rattle.min_res.specs.Values.{ResolutionValue}
use Rattle.p_groups.specs.PGroups.{order_of}
use Rattle.pc_group.specs.GroupOf.{IsGroupOf}
use Rattle.power_commutator.specs.Presentations.{Presentation}
use Rattle.coho_steps.specs.declared.stop.Stop.{Stop}
use Rattle.ring_answers.specs.Evaluating.{HasClass, IsClassRefusal, IsValue}
use Rattle.coho_steps.specs.Groups.{ForGroupOf}
use Rattle.ring_answers.specs.Answers.{FitElements, UnlessElement}
use Rattle.coho_steps.specs.Loading.{order}
use Rattle.coho_steps.specs.Refusals.{element_refused}
use Rattle.stage_answers.specs.Resolving.{IsResolutionTo}
use Rattle.coho_steps.specs.Stops.{IsRefused}
use Rattle.group_table.specs.Tables as table
use Rattle.coho_steps.specs.declared.stop.Stop.TheVariants as stop

-- the elements

pub same_order : (P : Presentation) (G : GroupTable) → IsGroupOf P G → table.order G ≡ order P
same_order P G is = order_is G ∙ ap (λ p. p ^ G.n) is.prime-is ∙ ap (λ n. P.prime ^ n) is.rank-is

module _ (n : ℕ) where
  passes : (b : Bool) (e : ℕ) (rest : Option ℕ) → cond b (Some e) rest ≡ None → (b ≡ false) × (rest ≡ None)
  passes true e rest h = absurd (cc)
  passes false e rest h = (refl, h)

  below : (e : ℕ) → leb n e ≡ false → e < n
  below e h = grind (arith, nat_tests)

  more_below : (e : ℕ) (es : List ℕ) → e < n → All (λ e. e < n) es → All (λ e. e < n) (e ∷ es)
  more_below e es less rest zero d h = less
  more_below e es less rest (suc k) d h = rest k d (omega arith)

  pub all_below : (es : List ℕ) → find (leb n) es ≡ None → All (λ e. e < n) es
  all_below [] h = λ k d less. absurd (omega arith)
  all_below (e ∷ es) h =
      let p = passes (leb n e) e (find (leb n) es) h in
      more_below e es (below e p.0) (all_below es p.1)

module _ (P : Presentation) (es : List ℕ) (n : ℕ) (same : n ≡ order P) (files : Content) where
  pub element_refused_is : (e : ℕ) → Some e ≡ find (leb n) es
      → FitElements P es files (Err (element_refused e n)) files
  element_refused_is e found =
      subst (λ m. UnlessElement m (find (leb m) es) files (Err (element_refused e n)) files) same
      (subst (λ x. UnlessElement n x files (Err (element_refused e n)) files) found (refl, refl))

  pub elements_fit : None ≡ find (leb n) es → FitElements P es files (Ok tt) files
  elements_fit found =
      subst (λ m. UnlessElement m (find (leb m) es) files (Ok tt) files) same
      (subst (λ x. UnlessElement n x files (Ok tt) files) found (refl, refl))

-- the class and its value, for the group of the presentation

module _ (P : Presentation) (d : ℕ) (r : ResolutionValue) (R : IsResolutionTo P d r) (k : ℕ)
    (es : List ℕ) where
  pub below_order : All (λ e. e < order P) es → All (λ e. e < order_of r.group) es
  below_order below = subst (λ n. All (λ e. e < n) es)
      (sym (same_order P r.group.table R.is_table.group)) below

  pub has_class : HasClass r.group (length es) k → ForGroupOf P (λ G. HasClass G (length es) k)
  has_class has = record { group = r.group; is_table = R.is_table; holds = has }

  pub has_value : (v : ℕ) → IsValue r.group k es v → ForGroupOf P (λ G. IsValue G k es v)
  has_value v is = record { group = r.group; is_table = R.is_table; holds = is }

  pub class_refused : (s : Stop) → IsRefused (IsClassRefusal r.group (length es) k) s
      → IsRefused (λ refusal. ForGroupOf P (λ G. IsClassRefusal G (length es) k refusal)) s
  class_refused (stop.Refused why) h = record { group = r.group; is_table = R.is_table; holds = h }
  class_refused (stop.Read path) h = h
  class_refused stop.Write h = h
  class_refused (stop.Save path) h = h
  class_refused stop.Memory h = h

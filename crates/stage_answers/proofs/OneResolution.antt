-- A group has one list of stages to a degree, or one first stage that does not fit.
use Rattle.std.proofs.Common.{◌≡◌, ◌∙◌, ◌⊎◌, inl, inr, ℕ, suc, ◌<◌, List, ap, refl, sym, arith}
use Rattle.p_groups.specs.PGroups.{PGroup}
use Rattle.coho_steps.specs.Refusals.{stage_refused}
use Rattle.stage_answers.specs.Stages.{Summary, stages_below, AreStagesTo, IsStageRefusal}
use Rattle.stage_walk.specs.Dimensions.{dimension, Fit, IsFirstAbove}
use Rattle.coho_steps.specs.Steps.{Refusal}
use Rattle.coho_steps.proofs.Proper.{IsDecided}
use Rattle.stage_answers.proofs.StagesExist.{fit_or_first}

module _ (G : PGroup) (n : ℕ) where
  fit_or_refused : (q : Refusal) → Fit G n → IsStageRefusal G n q → ⊥
  fit_or_refused q fit a =
      let first = a.2 in
      let fits = fit a.0 first.from first.to in
      let is = first.is in
      let above = first.above in
      omega arith

  not_less : (d X c Y : ℕ) → IsFirstAbove G n d X → IsFirstAbove G n c Y → d < c → ⊥
  not_less d X c Y a b less =
      let fits = b.first d a.from less in
      let is = a.is in
      let above = a.above in
      omega arith

  same_degree : (d X c Y : ℕ) → IsFirstAbove G n d X → IsFirstAbove G n c Y → d ≡ c
  same_degree d X c Y a b =
      let left = not_less d X c Y a b in
      let right = not_less c Y d X b a in
      grind (arith, left, right)

  one_refused : (q r : Refusal) → IsStageRefusal G n q → IsStageRefusal G n r → q ≡ r
  one_refused q r a b =
      let first = a.2 in
      let other = b.2 in
      let same = same_degree a.0 a.1 b.0 b.1 first other in
      let dimensions = first.is ∙ ap (dimension G) same ∙ sym other.is in
      a.3 ∙ ap (λ d. stage_refused d a.1) same ∙ ap (stage_refused b.0) dimensions ∙ sym b.3

  refused : ((d : ℕ) × IsFirstAbove G n d (dimension G d)) → (q : Refusal) × IsStageRefusal G n q
  refused one = (stage_refused one.0 (dimension G one.0), (one.0, dimension G one.0, one.1, refl))

  some_fit : ((x : Unit {0}) × Fit G n) ⊎ ((q : Refusal) × IsStageRefusal G n q)
  some_fit = elim (fit_or_first G n) [ inl fit ↦ inl (tt, fit) | inr one ↦ inr (refused one) ]

  some_stages : ((stages : List Summary) × AreStagesTo G n stages) ⊎ ((q : Refusal) × IsStageRefusal G n q)
  some_stages = elim (fit_or_first G n) [
    | inl fit ↦ inl (
      stages_below G (suc n),
      record { fit = fit; are = refl },
    )
    | inr one ↦ inr (refused one)
  ]

pub stages_decided : (n : ℕ) → IsDecided ⊥ (λ G (stages : List Summary). AreStagesTo G n stages)
    (λ G refusal. IsStageRefusal G n refusal)
stages_decided n = record {
  one_value = λ G xs ys a b. a.are ∙ sym b.are;
  one_refusal = λ G q r a b. one_refused G n q r a b;
  not_both = λ G xs q a b. fit_or_refused G n q a.fit b;
  some = λ G. some_stages G n;
  keeps = λ G q a e. let is = a.3 in let no = sym (ap (λ (q : Refusal). q.status) is) ∙ e in cc;
}

pub fit_decided : (n : ℕ)
    → IsDecided ⊥ (λ G (x : Unit {0}). Fit G n) (λ G refusal. IsStageRefusal G n refusal)
fit_decided n = record {
  one_value = λ G x y a b. refl;
  one_refusal = λ G q r a b. one_refused G n q r a b;
  not_both = λ G x q a b. fit_or_refused G n q a b;
  some = λ G. some_fit G n;
  keeps = λ G q a e. let is = a.3 in let no = sym (ap (λ (q : Refusal). q.status) is) ∙ e in cc;
}

-- The report on the ring of a presentation's group, from its resolution; and that there is one, or one
-- refusal.
use Rattle.std.proofs.Common.{◌≡◌, ◌∙◌, ◌⊎◌, inl, inr, ℕ, ap, refl, sym}
use Rattle.limits.specs.declared.TheConstants.{GREATEST_DIMENSION}
use Rattle.p_groups.specs.PGroups.{PGroup}
use Rattle.power_commutator.specs.Presentations.{Presentation}
use Rattle.min_res.specs.Values.{ResolutionValue}
use Rattle.coho_report.specs.Values.{ReportValue}
use Rattle.coho_report.specs.Limits.{AreSmall, IsFirstLargeSubgroup}
use Rattle.coho_report.specs.Reports.{IsReport}
use Rattle.coho_report.specs.Refusals.{IsRefusal}
use Rattle.coho_report.specs.declared.fault.ReportFault.{ReportFault}
use Rattle.coho_report.proofs.OneReport.{one_report}
use Rattle.coho_report.proofs.FirstLarge.{none_large, one_subgroup}
use Rattle.coho_report.proofs.ReportExists.{report_exists}
use Rattle.coho_report.proofs.ReportSubgroups.{small_or_first_subgroup}
use Rattle.coho_steps.specs.Groups.{ForGroupOf}
use Rattle.coho_steps.specs.Refusals.{subgroup_refused}
use Rattle.stage_answers.specs.Resolving.{IsResolutionTo}
use Rattle.ring_answers.specs.Ringing.{IsReportTo, IsReportRefusal, stop_of}
use Rattle.stage_walk.specs.Dimensions.{Fit}
use Rattle.coho_steps.specs.Steps.{Refusal}
use Rattle.coho_steps.specs.Stops.{IsRefused}
use Rattle.coho_steps.proofs.Proper.{IsDecided}
use Rattle.coho_report.specs.declared.fault.ReportFault.TheVariants as fault
use Rattle.coho_steps.specs.declared.status.Status.TheVariants as status

module _ (P : Presentation) (n : ℕ) (r : ResolutionValue) (R : IsResolutionTo P n r) where
  pub fit_of : ForGroupOf P (λ G. Fit G n)
  fit_of = record { group = r.group; is_table = R.is_table; holds = R.fit }

  pub report_of : (report : ReportValue) → AreSmall r.group n GREATEST_DIMENSION → IsReport r.group n report
      → ForGroupOf P (λ G. IsReportTo G n report)
  report_of report small is = record {
    group = r.group;
    is_table = R.is_table;
    holds = record { small = small; is = is };
  }

  pub report_stop : (e : ReportFault) → IsRefusal r.group n GREATEST_DIMENSION e
      → IsRefused (λ refusal. ForGroupOf P (λ G. IsReportRefusal G n refusal)) (stop_of e)
  report_stop (fault.TooLarge i d X) first =
      record { group = r.group; is_table = R.is_table; holds = (i, d, X, first, refl) }
  report_stop fault.Memory first = tt

module _ (G : PGroup) (n : ℕ) where
  one_refused : (q r : Refusal) → IsReportRefusal G n q → IsReportRefusal G n r → q ≡ r
  one_refused q r s t =
      let same = one_subgroup G n GREATEST_DIMENSION s.0 s.1 s.2 t.0 t.1 t.2 s.3 t.3 in
      s.4 ∙ ap (λ i. subgroup_refused i s.1 s.2) same.0 ∙ ap (λ d. subgroup_refused t.0 d s.2) same.1
      ∙ ap (subgroup_refused t.0 t.1) same.2 ∙ sym t.4

  some_report : ((r : ReportValue) × IsReportTo G n r) ⊎ ((q : Refusal) × IsReportRefusal G n q)
  some_report = go (small_or_first_subgroup G n GREATEST_DIMENSION) (report_exists G n)
    where
      go : AreSmall G n GREATEST_DIMENSION
          ⊎ ((i : ℕ) × (d : ℕ) × (X : ℕ) × IsFirstLargeSubgroup G n GREATEST_DIMENSION i d X)
          → (r : ReportValue) × IsReport G n r
          → ((r : ReportValue) × IsReportTo G n r) ⊎ ((q : Refusal) × IsReportRefusal G n q)
      go (inl small) r = inl (r.0, record { small = small; is = r.1 })
      go (inr first) r = inr (
        subgroup_refused first.0 first.1 first.2,
        (first.0, first.1, first.2, first.3, refl),
      )

  not_both : (r : ReportValue) (q : Refusal) → IsReportTo G n r → IsReportRefusal G n q → ⊥
  not_both r q a s = none_large G n GREATEST_DIMENSION s.0 s.1 s.2 a.small s.3

  not_words : (q : Refusal) → IsReportRefusal G n q → q.status ≡ status.Usage → ⊥
  not_words q a e = let no = sym (ap (λ (q : Refusal). q.status) a.4) ∙ e in cc

pub report_decided : (n : ℕ) → IsDecided ⊥ (λ G (report : ReportValue). IsReportTo G n report)
    (λ G refusal. IsReportRefusal G n refusal)
report_decided n = record {
  one_value = λ G r s a b. one_report G n r s a.is b.is;
  one_refusal = λ G q r a b. one_refused G n q r a b;
  not_both = λ G r q a b. not_both G n r q a b;
  some = λ G. some_report G n;
  keeps = λ G q a e. not_words G n q a e;
}

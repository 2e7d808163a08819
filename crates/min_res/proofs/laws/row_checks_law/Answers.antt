use Rattle.min_res.proofs.NextParts.{passes-all, all-passes, passed, passes}
use Rattle.min_res.proofs.laws.row_checks_law.Goals as goal

pub returns : goal.returns
returns c = record {
  same = λ G d Q. (passes-all G d Q, all-passes G d Q);
  next = λ G d Q F. (
    λ h. passed G d Q F (passes-all G d Q h),
    λ e. all-passes G d Q (passes G d Q F e),
  );
}

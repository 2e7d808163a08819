use Rattle.linear_algebra.proofs.Laws as laws
use Rattle.linear_algebra.proofs.kernel_by_count.Goals as goal

pub returns : goal.returns
returns c p rows kernel chosen images F K C count same inside free maps independent u r h =
    laws.kernel_by_count rows kernel chosen images F K C count same inside free maps independent u r h

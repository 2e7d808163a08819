-- The names of the kinds of faults.
use Rattle.std.specs.Prelude.{ℕ, List, codes}
use Rattle.pc_text.specs.declared.fault.Kind.{Kind}
use Rattle.pc_text.specs.declared.fault.Kind.TheVariants as kind

abbrev pub kind_name : Kind → List ℕ
kind_name kind.BadHeader = codes "BadHeader"
kind_name kind.BadPrime = codes "BadPrime"
kind_name kind.BadCount = codes "BadCount"
kind_name kind.BadLine = codes "BadLine"
kind_name kind.BadGenerator = codes "BadGenerator"
kind_name kind.BadPower = codes "BadPower"
kind_name kind.BadOrder = codes "BadOrder"
kind_name kind.BadWord = codes "BadWord"
kind_name kind.Repeated = codes "Repeated"

use Rattle.graded_algebra.specs.Vectors.{vectors}
use Rattle.graded_algebra.proofs.SpansUnique.{span-generators-unique}
use Rattle.graded_algebra.proofs.one_list_of_span_generators.Goals as goal

pub returns : goal.returns
returns c q n mul basis gs hs g h = span-generators-unique q (vectors q mul) basis n gs hs g h

use Rattle.graded_polynomials.specs.Texts.{polynomial_text}
use Rattle.polynomial_texts.specs.Readings.{reads}
use Rattle.polynomial_texts.proofs.Answers.{one-answer}
use Rattle.polynomial_texts.proofs.Written.{text-reads-back}
use Rattle.polynomial_texts.proofs.text_reads_back.Goals as goal

pub returns-clause-answer : goal.returns-clause-answer
returns-clause-answer c = text-reads-back

pub returns-clause-only : goal.returns-clause-only
returns-clause-only c q ds f a l g n low high p A =
    one-answer q ds (polynomial_text ds f.terms) l g a (reads f) A (text-reads-back q ds f g n low high p)

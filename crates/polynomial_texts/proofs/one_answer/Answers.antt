use Rattle.polynomial_texts.proofs.Answers.{one-answer}
use Rattle.polynomial_texts.proofs.one_answer.Goals as goal

pub returns : goal.returns
returns c q ds text a b l g A B = one-answer q ds text l g a b A B

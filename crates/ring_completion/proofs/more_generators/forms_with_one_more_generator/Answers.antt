use Rattle.ring_completion.proofs.Results.{form-and-last}
use Rattle.ring_completion.proofs.more_generators.forms_with_one_more_generator.Goals as goal

pub returns : goal.returns
returns c q n i e G gs g rs ms s u field p R d C I M l h =
    form-and-last q n field G gs p rs R g ms i e s u d C I M l h

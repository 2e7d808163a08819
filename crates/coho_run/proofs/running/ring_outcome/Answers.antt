use Rattle.coho_run.proofs.RingAnswers.{of_words}
use Rattle.coho_run.proofs.running.ring_outcome.Goals as goal

pub returns : goal.returns
returns c = λ words files left lines comes path n stages asked.
    of_words path n stages files lines words left comes asked

use Rattle.fp_rows.proofs.PlaceLemmas.{place_flipped, place_not_flipped}
use Rattle.fp_rows.proofs.words.flip.Goals as goal

pub returns-clause-here : goal.returns-clause-here
returns-clause-here c = place_flipped c.args.words.now c.args.i c.requires

pub returns-clause-others : goal.returns-clause-others
returns-clause-others c = λ j n. place_not_flipped c.args.words.now c.args.i j c.requires n

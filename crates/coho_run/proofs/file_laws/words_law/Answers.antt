use Rattle.coho_words.proofs.FromWords.{without_from}
use Rattle.coho_run.proofs.file_laws.words_law.Goals as goal

pub returns : goal.returns
returns c = without_from

use Rattle.presentation_rows.proofs.Existence.{Presented, presented}
use Rattle.presentation_rows.proofs.presentations_exist.Goals as goal

pub returns : goal.returns
returns c q n ranks mul F H =
    let P : Presented q ranks mul H n = presented q ranks mul H F n in
    (P.generators, P.relations, P.generators_are, P.relations_are)

use Rattle.coho_report.proofs.ImageDegrees.{image-degree}
use Rattle.coho_report.proofs.witnesses.image_of_another_degree.Goals as goal

pub returns : goal.returns
returns c G n r i j v d f first t last at named line is other R =
    other (image-degree G n r i j v d f first t last at named line is R)

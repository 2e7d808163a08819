use Rattle.linear_algebra.proofs.Fields.{field_of_prime}
use Rattle.linear_algebra.proofs.four_fields.Goals as goal

pub returns : goal.returns
returns c p h = field_of_prime p h

use Rattle.ring_completion.proofs.Results.{separates-left, product-of-form}
use Rattle.ring_completion.proofs.products_of_forms.Goals as goal

pub returns : goal.returns
returns c q n G gs rs ms values kernel f u w field p R C V K t x D =
    product-of-form q n field G gs p rs R ms values kernel C.some (separates-left q n field G gs p rs R ms C)
    V K f u w t x D

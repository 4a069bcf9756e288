-- `arith::round::rounded_product` meets its contract. By the threshold's two cases.
use Rattle.arith.specs.Round.{product_of}
use Rattle.arith.proofs.round.rounded_product.Goals as goal

pub returns-in-NineEighths : goal.returns-in-NineEighths
unfolding product_of
returns-in-NineEighths c = rw c.in-NineEighths.is c.rounded.ensures

pub returns-in-FiveFourths : goal.returns-in-FiveFourths
unfolding product_of
returns-in-FiveFourths c = rw c.in-FiveFourths.is c.rounded-in-FiveFourths.ensures

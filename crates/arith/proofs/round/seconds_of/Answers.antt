-- `arith::round::seconds_of` meets its contract. What `float_of` ensures, in the order of the operations.
use Rattle.arith.specs.Round.{seconds_of}
use Rattle.arith.proofs.round.seconds_of.Goals as goal

pub returns : goal.returns
unfolding seconds_of
returns c = cc

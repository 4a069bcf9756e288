-- `arith::exports::skavvilet_cube_root` meets its contract. What `cube_root` ensures is the value of `root_of`.
use lib.Ieee.{of_bits}
use Rattle.arith.proofs.Answer.{root_is}
use Rattle.arith.proofs.exports.skavvilet_cube_root.Goals as goal

pub returns : goal.returns
unfolding of_bits
returns c = rw (← root_is c.cube_root.ensures) c.unwrap_or.ensures

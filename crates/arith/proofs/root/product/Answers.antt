-- `arith::root::product` meets its contract. The products of the halves are small, and together they are a * b.
use Rattle.std.proofs.Common.{arith}
use Rattle.arith.proofs.root.Limbs.{small, whole}
use Rattle.arith.proofs.root.product.Goals as goal

pub returns : goal.returns
returns c = omega (arith, small c.args.a c.args.b c.requires.0 c.requires.1, whole c.args.a c.args.b)

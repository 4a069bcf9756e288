-- `held::hold` meets its contract, with room and without.
use Rattle.trace.proofs.Holding.{hold-room, hold-full}
use Rattle.trace.proofs.held.hold.Goals as goal

pub returns-then-n : goal.returns-then-n
returns-then-n c = hold-room c.args.held.now c.args.n c.args.range c.if-n.true

pub returns : goal.returns
returns c = hold-full c.args.held.now c.args.n c.args.range c.min.result c.if-n.false c.min.ensures

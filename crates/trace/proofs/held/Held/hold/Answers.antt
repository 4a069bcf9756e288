-- `held::Held::hold` meets its contract, with room and without.
use Rattle.trace.proofs.Holding.{held_stays, held_more}
use Rattle.trace.proofs.held.Held.hold.Goals as goal

pub invariant_of-self : goal.invariant_of-self
invariant_of-self c =
    let e = c.hold-self-inside.ensures in
    rw (e.0, e.1) (held_stays c.self.invariant.0 c.self.invariant.1 c.args.range)

pub returns : goal.returns
returns c =
    let e = c.hold-self-inside.ensures in
    rw (← c.self.view_is, e.0, e.1) (held_more c.self.invariant.0 c.self.invariant.1 c.args.range)

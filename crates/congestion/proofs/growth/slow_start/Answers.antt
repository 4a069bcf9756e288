-- `congestion::growth::slow_start` meets its contract: the definition goes on from `by_datagram` with what it is given, and so does the code.
use Rattle.std.proofs.Common.{rules}
use Rattle.model.specs.Cubic.{slow_start}
use Rattle.congestion.proofs.growth.slow_start.Goals as goal

pub returns-in_err-stepped : goal.returns-in_err-stepped
unfolding slow_start
returns-in_err-stepped c = rw (← c.add_up.ensures, c.in_ok-sum.was, ← c.by_datagram.ensures, c.in_err-stepped.was) (search rules)

pub returns : goal.returns
unfolding slow_start
returns c = rw (← c.add_up.ensures, c.in_ok-sum.was, ← c.by_datagram.ensures, c.in_ok-stepped.was, ← c.grown.ensures)

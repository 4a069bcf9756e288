-- `congestion::growth::step_towards` meets its contract: the definition goes on from `by_datagram` with what it is given, and so does the code.
use Rattle.std.proofs.Common.{rules}
use Rattle.congestion.proofs.growth.step_towards.Goals as goal

pub returns-in_err-stepped : goal.returns-in_err-stepped
returns-in_err-stepped c =
    rw (← c.aimed_at.ensures, c.in_ok-aim.was, ← c.saturating_sub.ensures, ← c.add_up.ensures, c.in_ok-sum.was, ← c.by_datagram.ensures, c.in_err-stepped.was) (search rules)

pub returns : goal.returns
returns c =
    rw (← c.aimed_at.ensures, c.in_ok-aim.was, ← c.saturating_sub.ensures, ← c.add_up.ensures, c.in_ok-sum.was, ← c.by_datagram.ensures, c.in_ok-stepped.was, ← c.grown.ensures)

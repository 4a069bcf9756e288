-- `rtt::rtt_later` meets its contract: min + delay is no less than the delay.
use native.Mathlib.Omega.{arith}
use mathlib.Core.Path.{sym, ◌∙◌}
use Rattle.arith.proofs.Laws.{spans-is}
use Rattle.estimate.proofs.rtt.rtt_later.Goals as goal

pub adjusted_rtt-a-requires : goal.adjusted_rtt-a-requires
adjusted_rtt-a-requires c = omega (arith, (spans-is _ _ (sym c.add_spans.ensures ∙ c.in_ok-edge.was)).0)

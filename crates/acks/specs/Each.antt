-- CUBIC over one record that a range holds, for a private step. Definitions only.
use Rattle.std.specs.Prelude.{Bool, cond, Result, Ok}
use Rattle.arith.specs.declared.time.Moment.{Moment}
use Rattle.arith.specs.declared.time.Span.{Span}
use Rattle.model.specs.Cubic.{packet_acked}
use Rattle.model.specs.Sent.{standing}
use Rattle.model.specs.declared.Congestion.{Congestion}
use Rattle.model.specs.declared.Sent.{Sent}
use Rattle.arith.specs.declared.refusal.Refusal.{Refusal}

unfoldable pub ack_one : Moment → Bool → Span → Sent → Congestion → Result Congestion Refusal
unfolding packet_acked
ack_one now limited min_rtt r g = cond (standing r) (packet_acked now r.time_sent r.size limited min_rtt g) (Ok g)

-- What an event tells the congestion controller, move by move. The controller after an event is these moves' doing and nothing else's. 01 'CUBIC (001)'. Definitions only.
use Rattle.std.specs.Prelude.{ℕ, Bool, true, false, List, [], ◌∷◌, Result, Ok, Option, Some, None}
use Rattle.arith.specs.declared.time.Moment.{Moment}
use Rattle.arith.specs.declared.time.Span.{Span}
use Rattle.arith.specs.Refusals.{then}
use Rattle.model.specs.Cubic.{rollback, congestion_event, count_lost, packet_acked, resized}
use Rattle.model.specs.declared.Congestion.{Congestion}
use Rattle.model.specs.declared.Sent.{Sent}
use Rattle.arith.specs.declared.refusal.Refusal.{Refusal}

pub data Move : Type 0 where
  -- a spurious record in flight
  forgive : Move
  -- a loss at a moment, decided by a packet that was sent at another
  lose : Moment → Moment → Move
  -- so many lost packets, counted after that
  count : ℕ → Move
  -- an acked packet at a moment: when it was sent, its size, whether the application limits the sender, the smallest round trip
  ack : Moment → Moment → ℕ → Bool → Span → Move
  -- a size change, from one datagram size to another
  resize : ℕ → ℕ → Move

unfoldable pub moved : Move → Congestion → Result Congestion Refusal
moved forgive g = Ok (rollback g)
moved (lose now sent) g = congestion_event now sent g
moved (count n) g = count_lost n g
moved (ack now sent size limited min_rtt) g = packet_acked now sent size limited min_rtt g
moved (resize old new) g = resized old new g

-- one move after another
unfoldable pub control : List Move → Congestion → Result Congestion Refusal
unfolding moved
control [] g = Ok g
control (m ∷ ms) g = then (moved m g) λ h. control ms h

-- step 3: a spurious record in flight: rollback
abbrev pub forgive_by : Bool → List Move
forgive_by true = forgive ∷ []
forgive_by false = []

-- the last non-probe lost in flight decides the congestion event
abbrev pub lose_by : Moment → Option Moment → List Move
lose_by now None = []
lose_by now (Some sent) = lose now sent ∷ []

-- CUBIC per acked packet in order
unfoldable pub ack_each : Moment → Bool → Span → List Sent → List Move
ack_each now limited min_rtt [] = []
ack_each now limited min_rtt (r ∷ l) = ack now r.time_sent r.size limited min_rtt ∷ ack_each now limited min_rtt l

-- The events of the trace as values, and any list of them from a connection on. 01 'The sender's part', 'Replay and the host'. Definitions only.
-- 0 is accepted
pub use Rattle.arith.specs.Refusals.{refusal_of}
use Rattle.std.specs.Prelude.{ℕ, Bool, List, [], ◌∷◌, Result, Ok, Err, Option}
use Rattle.arith.specs.declared.time.Moment.{Moment}
use Rattle.model.specs.Connection.{Connection}
use Rattle.model.specs.Events.{Step, on_packet_sent, on_ack_received, on_loss_detection_timeout, on_space_discarded, on_size_change, next_acked_frame, next_lost_frame, ping_sent}
use Rattle.model.specs.declared.HandshakeStatus.{HandshakeStatus}
use Rattle.model.specs.declared.OnAckReceivedOutcome.{OnAckReceivedOutcome}
use Rattle.model.specs.declared.OnLossDetectionTimeoutOutcome.{OnLossDetectionTimeoutOutcome}
use Rattle.model.specs.declared.Packet.{Packet}
use Rattle.arith.specs.declared.refusal.Refusal.{Refusal}

-- the trace's kinds but ranges, which an ack brings along as words
pub data Event : Type 0 where
  -- now, space
  sent : Moment → ℕ → Packet → HandshakeStatus → Event
  -- now, space, ranges, delay in microseconds, status, app-limited, skipped number
  acked : Moment → ℕ → List ℕ → ℕ → HandshakeStatus → Bool → Option ℕ → Event
  timeout : Moment → HandshakeStatus → Event
  discarded : Moment → ℕ → HandshakeStatus → Event
  size_change : ℕ → Event
  take_acked : ℕ → Event
  take_lost : ℕ → Event
  ping : ℕ → Event

pub data Answer : Type 0 where
  done : Answer
  of_ack : OnAckReceivedOutcome → Answer
  of_timeout : OnLossDetectionTimeoutOutcome → Answer
  handle : ℕ → Answer

abbrev pub answering : {A : Type 0} → (A → Answer) → Result (Step A) Refusal → Result (Step Answer) Refusal
answering f (Ok s) = Ok (record { state = s.state; answer = f s.answer; moves = s.moves })
answering f (Err n) = Err n

unfoldable pub step : Event → Connection → Result (Step Answer) Refusal
step (sent now n p status) c = answering (λ a. done) (on_packet_sent now n p status c)
step (acked now n words delay status limited skipped) c = answering of_ack (on_ack_received now n words delay status limited skipped c)
step (timeout now status) c = answering of_timeout (on_loss_detection_timeout now status c)
step (discarded now n status) c = answering (λ a. done) (on_space_discarded now n status c)
step (size_change size) c = answering (λ a. done) (on_size_change size c)
step (take_acked n) c = answering handle (next_acked_frame n c)
step (take_lost n) c = answering handle (next_lost_frame n c)
step (ping n) c = answering (λ a. done) (ping_sent n c)

-- a refusal returns only its number; state stays
abbrev pub state_by : Connection → Result (Step Answer) Refusal → Connection
state_by c (Ok s) = s.state
state_by c (Err n) = c

unfoldable pub after : Event → Connection → Connection
after e c = state_by c (step e c)

unfoldable pub run : List Event → Connection → Connection
run [] c = c
run (e ∷ l) c = run l (after e c)

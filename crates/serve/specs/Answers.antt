-- An event's answer in plain numbers, and the values beside it. 01 'The stage numbers': a refusal returns only its number. Definitions only.
use Rattle.std.specs.Prelude.{ℕ, Result, Ok, Err}
use Rattle.arith.specs.Refusals.{number_of}
use Rattle.model.specs.declared.OnAckReceivedOutcome.{OnAckReceivedOutcome}
use Rattle.model.specs.declared.OnLossDetectionTimeoutOutcome.{OnLossDetectionTimeoutOutcome}
use Rattle.connection.specs.declared.State.{State}
use Rattle.plain.specs.Values.{values_of}
use Rattle.plain.specs.declared.Values.{Values}
use Rattle.serve.specs.declared.AckAnswer.{AckAnswer}
use Rattle.serve.specs.declared.Done.{Done}
use Rattle.serve.specs.declared.TakeAnswer.{TakeAnswer}
use Rattle.serve.specs.declared.TimeoutAnswer.{TimeoutAnswer}
use Rattle.arith.specs.declared.refusal.Refusal.{Refusal}

-- ---- the answers

abbrev pub ack_said : Result OnAckReceivedOutcome Refusal → AckAnswer
ack_said (Ok o) =
    record { refusal = 0; lost_packets = o.lost_packets; lost_bytes = o.lost_bytes; acked_bytes = o.acked_bytes; spurious_losses = o.spurious_losses }
ack_said (Err k) = record { refusal = number_of k; lost_packets = 0; lost_bytes = 0; acked_bytes = 0; spurious_losses = 0 }

abbrev pub timeout_said : Result OnLossDetectionTimeoutOutcome Refusal → TimeoutAnswer
timeout_said (Ok o) = record { refusal = 0; lost_packets = o.lost_packets; lost_bytes = o.lost_bytes }
timeout_said (Err k) = record { refusal = number_of k; lost_packets = 0; lost_bytes = 0 }

-- taking from an empty queue yields handle 0
abbrev pub take_said : Result ℕ Refusal → TakeAnswer
take_said (Ok h) = record { refusal = 0; handle = h }
take_said (Err k) = record { refusal = number_of k; handle = 0 }

-- ---- the values beside them

-- those of the state after the event, or those before it
abbrev pub kept_by : {A : Type 0} → Result A Refusal → Values → State → Values
kept_by (Ok a) v s = values_of s
kept_by (Err k) v s = v

abbrev pub done_by : {A B : Type 0} → (Result A Refusal → B) → Result A Refusal → Values → State → Done B
done_by says o v s = record { answer = says o; values = kept_by o v s }

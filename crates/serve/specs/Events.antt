-- Each event on a record, by plain numbers: the definition's step, and where the connection after it lies. 01 'Replay and the host'. Definitions only.
use Rattle.std.specs.Prelude.{List, [], ℕ, Result, Ok}
use Rattle.arith.specs.Time.{moment}
use Rattle.model.specs.Connection.{Connection, fresh}
use Rattle.model.specs.Events.{Step, on_packet_sent, on_ack_received, on_loss_detection_timeout, on_space_discarded, on_size_change, next_acked_frame, next_lost_frame, ping_sent}
use Rattle.arith.specs.Refusals.{then}
use Rattle.model.specs.Run.{refusal_of}
use Rattle.model.specs.Trace.{odd, status_of, skipped_of}
use Rattle.model.specs.declared.OnAckReceivedOutcome.{OnAckReceivedOutcome}
use Rattle.model.specs.declared.OnLossDetectionTimeoutOutcome.{OnLossDetectionTimeoutOutcome}
use Rattle.connection.specs.Answers.{sent_words, shared_by}
use Rattle.connection.specs.Steps.{space_state_fresh}
use Rattle.connection.specs.View.{state_by}
use Rattle.connection.specs.declared.State.{State}
use Rattle.model.specs.Coded.{settings_of}
use Rattle.model.specs.Trace.{packet_of}
use Rattle.plain.specs.Values.{state_of, values_of}
use Rattle.timeout.specs.Claim.{timeout_at, timeout_words}
use Rattle.tracker.specs.Event.{ack_words}
use Rattle.serve.specs.Answers.{ack_said, timeout_said, take_said}
use Rattle.serve.specs.Record.{record_of, stands_for, asked, Served}
use Rattle.serve.specs.declared.AckAnswer.{AckAnswer}
use Rattle.serve.specs.declared.Connection.{Connection as Record}
use Rattle.serve.specs.declared.TakeAnswer.{TakeAnswer}
use Rattle.serve.specs.declared.TimeoutAnswer.{TimeoutAnswer}
use Rattle.arith.specs.declared.refusal.Refusal.{Refusal}

-- where an event in a space that stores no words leaves the connection; and one that leaves the spaces as they are
unfoldable pub space_lay : Record → ℕ → Connection → Record
space_lay c space x = record_of c.words (values_of (state_by (state_of c.values) space 0 x))

unfoldable pub shared_lay : Record → Connection → Record
shared_lay c x = record_of c.words (values_of (shared_by (state_of c.values) x))

-- ---- begun: any record may be, and its words stay

abbrev pub begun : Connection → Result (Step ℕ) Refusal
begun x = Ok (record { state = x; answer = 0; moves = [] })

unfoldable pub begin_step : ℕ → ℕ → ℕ → ℕ → Result (Step ℕ) Refusal
begin_step size packets rtt delay = then (fresh (settings_of size packets rtt delay)) begun

abbrev pub begin_state : Connection → State
begin_state x = record { initial = space_state_fresh; handshake = space_state_fresh; application = space_state_fresh; shared = x.shared }

unfoldable pub begin_lay : Record → Connection → Record
begin_lay c x = record_of c.words (values_of (begin_state x))

abbrev pub BeginServed : Record → ℕ → ℕ → ℕ → ℕ → ℕ → Record → Type 0
BeginServed c size packets rtt delay r c' = Served (begin_step size packets rtt delay) refusal_of (begin_lay c) c r c'

-- ---- sent

unfoldable pub sent_step : Record → ℕ → ℕ → ℕ → ℕ → ℕ → ℕ → ℕ → Result (Step ℕ) Refusal
sent_step c time space number size flags handle status =
    asked c (on_packet_sent (moment time) space (packet_of number size flags handle) (status_of status) (stands_for c))

unfoldable pub sent_lay : Record → ℕ → ℕ → ℕ → ℕ → ℕ → ℕ → Connection → Record
sent_lay c time space number size flags handle x =
    let s = state_of c.values in
    record_of (sent_words c.words (moment time) space (packet_of number size flags handle) s) (values_of (state_by s space 1 x))

abbrev pub SentServed : Record → ℕ → ℕ → ℕ → ℕ → ℕ → ℕ → ℕ → ℕ → Record → Type 0
SentServed c time space number size flags handle status r c' =
    Served (sent_step c time space number size flags handle status) refusal_of (sent_lay c time space number size flags handle) c r c'

-- ---- an acknowledgement; its delay in microseconds, its ranges as start and end in turn

unfoldable pub ack_step : Record → ℕ → ℕ → List ℕ → ℕ → ℕ → ℕ → ℕ → Result (Step OnAckReceivedOutcome) Refusal
ack_step c time space ranges delay status limited skipped =
    asked c (on_ack_received (moment time) space ranges delay (status_of status) (odd limited) (skipped_of skipped) (stands_for c))

unfoldable pub ack_lay : Record → ℕ → Connection → Record
ack_lay c space x =
    let s = state_of c.values in
    record_of (ack_words c.words s space x) (values_of (state_by s space 0 x))

abbrev pub AckServed : Record → ℕ → ℕ → List ℕ → ℕ → ℕ → ℕ → ℕ → AckAnswer → Record → Type 0
AckServed c time space ranges delay status limited skipped r c' =
    Served (ack_step c time space ranges delay status limited skipped) ack_said (ack_lay c space) c r c'

-- ---- a timeout

unfoldable pub timeout_step : Record → ℕ → ℕ → Result (Step OnLossDetectionTimeoutOutcome) Refusal
timeout_step c time status = asked c (on_loss_detection_timeout (moment time) (status_of status) (stands_for c))

unfoldable pub timeout_lay : Record → ℕ → ℕ → Connection → Record
timeout_lay c time status x =
    let s = state_of c.values in
    record_of (timeout_words c.words (moment time) (status_of status) s x) (values_of (state_by s (timeout_at (moment time) (status_of status) s) 0 x))

abbrev pub TimeoutServed : Record → ℕ → ℕ → TimeoutAnswer → Record → Type 0
TimeoutServed c time status r c' = Served (timeout_step c time status) timeout_said (timeout_lay c time status) c r c'

-- ---- a discard, a size change

unfoldable pub discard_step : Record → ℕ → ℕ → ℕ → Result (Step ℕ) Refusal
discard_step c time space status = asked c (on_space_discarded (moment time) space (status_of status) (stands_for c))

abbrev pub DiscardServed : Record → ℕ → ℕ → ℕ → ℕ → Record → Type 0
DiscardServed c time space status r c' = Served (discard_step c time space status) refusal_of (space_lay c space) c r c'

unfoldable pub size_step : Record → ℕ → Result (Step ℕ) Refusal
size_step c size = asked c (on_size_change size (stands_for c))

abbrev pub SizeServed : Record → ℕ → ℕ → Record → Type 0
SizeServed c size r c' = Served (size_step c size) refusal_of (shared_lay c) c r c'

-- ---- handles taken, and a ping

unfoldable pub take_acked_step : Record → ℕ → Result (Step ℕ) Refusal
take_acked_step c space = asked c (next_acked_frame space (stands_for c))

abbrev pub TakeAckedServed : Record → ℕ → TakeAnswer → Record → Type 0
TakeAckedServed c space r c' = Served (take_acked_step c space) take_said (space_lay c space) c r c'

unfoldable pub take_lost_step : Record → ℕ → Result (Step ℕ) Refusal
take_lost_step c space = asked c (next_lost_frame space (stands_for c))

abbrev pub TakeLostServed : Record → ℕ → TakeAnswer → Record → Type 0
TakeLostServed c space r c' = Served (take_lost_step c space) take_said (space_lay c space) c r c'

unfoldable pub ping_step : Record → ℕ → Result (Step ℕ) Refusal
ping_step c space = asked c (ping_sent space (stands_for c))

abbrev pub PingServed : Record → ℕ → ℕ → Record → Type 0
PingServed c space r c' = Served (ping_step c space) refusal_of (space_lay c space) c r c'

-- Where a timeout leaves what it changes, told from the connection after it. Definitions only.
use Rattle.std.specs.Prelude.{ℕ, ◌+◌, ◌-◌, ◌%◌, List, length, drop, Result, Ok, Err, Option, Some, None}
use Rattle.arith.specs.declared.time.Moment.{Moment}
use Rattle.model.specs.Numbers.{capacity}
use Rattle.model.specs.Timer.{loss_time_and_space, probe_space}
use Rattle.model.specs.Connection.{Connection, space_at}
use Rattle.model.specs.declared.HandshakeStatus.{HandshakeStatus}
use Rattle.model.specs.declared.TimeAndSpace.{TimeAndSpace}
use Rattle.records.specs.View.{store_handles}
use Rattle.marks.specs.Store.{store_marks}
use Rattle.connection.specs.View.{count, space_state_at}
use Rattle.connection.specs.Steps.{facts_state}
use Rattle.connection.specs.declared.State.{State}
use Rattle.arith.specs.declared.refusal.Refusal.{Refusal}

-- a refusal leaves nothing anywhere, so that its space does not count
abbrev pub space_by : Result ℕ Refusal → ℕ
space_by (Ok n) = n
space_by (Err k) = 0

-- the space that gets probes
unfoldable pub probe_at : Moment → HandshakeStatus → State → ℕ
probe_at now status s = space_by (probe_space (facts_state now status s))

-- the handles that joined the PTO queue of space n stand behind those that it held; all else is as it was
unfoldable pub probe_words : List ℕ → ℕ → State → Connection → List ℕ
probe_words m n s c = store_handles m n 2 (count (space_state_at n s).lost_pto) (drop (count (space_state_at n s).lost_pto) (space_at n c).lost_frames_pto)

-- the records of space n that stay lie where they lay, with their marks; the handles that joined the queue of those lost stand behind those that it held
unfoldable pub loss_words : List ℕ → ℕ → State → Connection → List ℕ
loss_words m n s c =
    store_handles
    (store_marks m n ((space_state_at n s).head % capacity + (count (space_state_at n s).len - length (space_at n c).records)) (space_at n c).records) n 1
    (count (space_state_at n s).lost_ack) (drop (count (space_state_at n s).lost_ack) (space_at n c).lost_frames_ack)

-- ---- a timeout, by whether a loss time stands

abbrev pub earliest_of : State → TimeAndSpace
earliest_of s = loss_time_and_space s.initial.epoch s.handshake.epoch s.application.epoch

abbrev pub space_of_timeout : Option Moment → ℕ → ℕ → ℕ
space_of_timeout (Some t) lost probed = lost
space_of_timeout None lost probed = probed

-- the space that the timeout is about
unfoldable pub timeout_at : Moment → HandshakeStatus → State → ℕ
timeout_at now status s = space_of_timeout (earliest_of s).time (earliest_of s).space (probe_at now status s)

abbrev pub words_of_timeout : Option Moment → List ℕ → ℕ → State → Connection → List ℕ
words_of_timeout (Some t) m n s = loss_words m n s
words_of_timeout None m n s = probe_words m n s

unfoldable pub timeout_words : List ℕ → Moment → HandshakeStatus → State → Connection → List ℕ
timeout_words m now status s = words_of_timeout (earliest_of s).time m (timeout_at now status s) s

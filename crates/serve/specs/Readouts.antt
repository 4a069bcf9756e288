-- What is read of a record beside its fields. 01 'Timer and PTO (000)'. Definitions only.
use Rattle.std.specs.Prelude.{ℕ, Bool, Result, Ok, Err}
use Rattle.arith.specs.declared.time.Span.{Span}
use Rattle.connection.specs.Readouts.{cwnd_available_of, pto_read_of, should_elicit_ack_of, has_lost_frames_of}
use Rattle.model.specs.Connection.{Connection}
use Rattle.plain.specs.Values.{of_bool}
use Rattle.serve.specs.declared.readouts.OfSpaces.{OfSpaces}
use Rattle.serve.specs.declared.readouts.Readouts.{Readouts as Numbers}
use Rattle.arith.specs.declared.refusal.Refusal.{Refusal}

-- one number for each space, 1 for yes
abbrev pub of_spaces : (ℕ → Connection → Bool) → Connection → OfSpaces
of_spaces f c = record { initial = of_bool (f 0 c); handshake = of_bool (f 1 c); application = of_bool (f 2 c) }

-- the PTO in nanoseconds, with 0 beside it; or 0, and 1 for too large
abbrev pub span_or : Result Span Refusal → ℕ
span_or (Ok s) = s.0
span_or (Err k) = 0

abbrev pub is_refused : {A : Type 0} → Result A Refusal → ℕ
is_refused (Ok a) = 0
is_refused (Err k) = 1

unfoldable pub readouts_of : Connection → Numbers
readouts_of c =
    record {
      cwnd_available = cwnd_available_of c;
      pto_is_too_large = is_refused (pto_read_of c);
      pto = span_or (pto_read_of c);
      should_elicit_ack = of_spaces should_elicit_ack_of c;
      has_lost_frames = of_spaces has_lost_frames_of c;
    }

-- What a replay puts out, and what is still to come. 01 'Replay and the host'. Definitions only.
use Rattle.std.specs.Prelude.{ℕ, ◌≤◌, ◌<◌, Bool, true, false, List, [], ◌∷◌, ◌++◌, ◌≡◌, length}
use Rattle.model.specs.Connection.{Connection}
use Rattle.model.specs.Run.{refusal_of}
use Rattle.model.specs.Trace.{Line, shows, bad_at, end, printed}
use Rattle.connection.specs.View.{connection_of}
use Rattle.trace.specs.Behind.{Behind}
use Rattle.trace.specs.Reading.{replay_at}
use Rattle.play.specs.Answers.{answered_says}
use Rattle.playback.specs.declared.Met.{Met}
use Rattle.playback.specs.declared.Met.TheVariants as met
use Rattle.playback.specs.declared.Replay.{Replay}

-- ---- the line of a turn

-- an event's line, told from the connection after it
abbrev pub shown_of : ℕ → ℕ → Connection → Line
shown_of kind refusal c = shows kind refusal c.shared.congestion.congestion_window c.shared.bytes_in_flight c.shared.loss_timer

-- the line of what was met at an offset, told from the events accepted and the connection after it; a range has none
abbrev pub line_met : Met → ℕ → ℕ → Connection → List Line
line_met met.End at n c = end n ∷ []
line_met met.Bad at n c = bad_at at ∷ []
line_met met.Held at n c = []
line_met (met.Event kind a) at n c = shown_of kind (refusal_of (answered_says a)) c ∷ []

-- told from the replay after it
abbrev pub lines_of : Met → ℕ → Replay → List Line
lines_of x at r = line_met x at r.accepted (connection_of r.words r.state)

-- whether it is the last one
abbrev pub is_last : Met → Bool
is_last met.End = true
is_last met.Bad = true
is_last met.Held = false
is_last (met.Event kind a) = false

-- the turn's line is put behind what a text of N bytes has
pub record Tells (N : ℕ) (x : Met) (at : ℕ) (r : Replay) (out out' : List ℕ) (last : Bool) : Type 0 where
  pub put : Behind N out (printed (lines_of x at r)) out'
  pub ended : last ≡ is_last x

-- ---- what is still to come

-- the lines from where a replay stands on
unfoldable pub lines_from : List ℕ → Replay → List Line
lines_from bytes r = replay_at bytes r.at (connection_of r.words r.state) r.held r.accepted

-- nothing comes after the last one
abbrev pub unless_ended : {A : Type 0} → Bool → List A → List A
unless_ended true l = []
unless_ended false l = l

-- no more events were accepted than bytes were passed
pub record Sound (r : Replay) : Type 0 where
  pub few : r.accepted ≤ r.at

-- the replay is sound, and further on in its trace unless it has ended
pub record GoesOn (bytes : List ℕ) (r r' : Replay) (ended : Bool) : Type 0 where
  pub sound : Sound r'
  pub further : ended ≡ false → r.at < r'.at
  pub within : ended ≡ false → r'.at ≤ length bytes

-- The bytes put out and those still to come are what was put out and what was to come, and the replay is further on.
pub record Shows (bytes : List ℕ) (out out' : List ℕ) (r r' : Replay) (ended : Bool) : Type 0 where
  pub shown : out' ++ unless_ended ended (printed (lines_from bytes r')) ≡ out ++ printed (lines_from bytes r)
  pub goes_on : GoesOn bytes r r' ended

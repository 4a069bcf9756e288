-- What inspect prints of a trace, and what a turn of it puts out. 01 'Replay and the host': replay's turns and endings; an event's line says more.
-- Definitions only.
use Rattle.std.specs.Prelude.{ℕ, zero, suc, Bool, List, [], ◌∷◌, ◌++◌, ◌≡◌, length}
use Rattle.model.specs.Connection.{Connection}
use Rattle.model.specs.Run.{step, state_by}
use Rattle.model.specs.Trace.{bad_at, end, printed, count_by}
use Rattle.connection.specs.View.{connection_of, answer_of}
use Rattle.trace.specs.Reading.{found_at, kind_at, next_at, held_with, kept_by}
use Rattle.trace.specs.Says.{event_says}
use Rattle.trace.specs.declared.Found.{Found}
use Rattle.trace.specs.declared.Found.TheVariants as found
use Rattle.field.specs.Inspect.{inspected}
use Rattle.playback.specs.Printed.{unless_ended, GoesOn}
use Rattle.playback.specs.declared.Replay.{Replay}

-- ---- what is printed from an offset on

-- by what is found there: the last line, or the event's line and what follows
unfoldable pub goes_on : Found → ℕ → ℕ → Connection → List ℕ → ℕ → (Connection → List ℕ → ℕ → List ℕ) → List ℕ
goes_on found.End at kind c held n go = printed (end n ∷ [])
goes_on found.Bad at kind c held n go = printed (bad_at at ∷ [])
goes_on (found.Range x) at kind c held n go = go c (held_with held x) n
goes_on (found.Event e) at kind c held n go =
    let d = step (event_says e held) c in
    inspected kind (answer_of d) (state_by c d) ++ go (state_by c d) (kept_by e held) (count_by d n)

-- in so many turns
unfoldable pub inspect_from : ℕ → List ℕ → ℕ → Connection → List ℕ → ℕ → List ℕ
inspect_from zero bytes at c held n = []
inspect_from (suc k) bytes at c held n = goes_on (found_at bytes at) at (kind_at bytes at) c held n (λ d h a. inspect_from k bytes (next_at bytes at) d h a)

-- a trace has fewer turns than this
unfoldable pub inspect_at : List ℕ → ℕ → Connection → List ℕ → ℕ → List ℕ
inspect_at bytes at c held n = inspect_from (suc (length bytes)) bytes at c held n

-- from where a replay stands on
unfoldable pub to_come : List ℕ → Replay → List ℕ
to_come bytes r = inspect_at bytes r.at (connection_of r.words r.state) r.held r.accepted

-- ---- a turn

-- the bytes put out and those still to come are what was to come, and the replay is further on
pub record Inspects (bytes out : List ℕ) (r r' : Replay) (ended : Bool) : Type 0 where
  pub shown : out ++ unless_ended ended (to_come bytes r') ≡ to_come bytes r
  pub goes_on : GoesOn bytes r r' ended

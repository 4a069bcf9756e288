-- What a turn of a replay claims, by what is found where the replay stands. 01 'Replay and the host'. Definitions only.
use Rattle.std.specs.Prelude.{ℕ, ◌+◌, min, cond, ◌≡◌, Result, Ok}
use Rattle.model.specs.Run.{Answer, step}
use Rattle.connection.specs.View.{connection_of, Does}
use Rattle.trace.specs.Reading.{held_with, kept_by}
use Rattle.trace.specs.Says.{event_says}
use Rattle.trace.specs.declared.Event.{Event}
use Rattle.trace.specs.declared.Found.{Found}
use Rattle.trace.specs.declared.Found.TheVariants as found
use Rattle.trace.specs.declared.Range.{Range}
use Rattle.play.specs.Answers.{answered_says, is_accepted}
use Rattle.play.specs.Places.{place_of, words_of}
use Rattle.play.specs.declared.Told.{Told}
use Rattle.playback.specs.declared.Met.{Met}
use Rattle.playback.specs.declared.Met.TheVariants as met
use Rattle.playback.specs.declared.Replay.{Replay}
use Rattle.arith.specs.declared.refusal.Refusal.{Refusal}

-- an accepted event counts, up to 2^64-1
abbrev pub count_with : Result Answer Refusal → ℕ → ℕ
count_with o n = cond (is_accepted o) (min (n + 1) 18446744073709551615) n

-- nothing is done
pub record Stays (what x : Met) (r r' : Replay) : Type 0 where
  pub met : x ≡ what
  pub replay : r' ≡ r

-- a range is held, and the replay goes on behind it
abbrev pub holding : Range → ℕ → Replay → Replay
holding g next r = record { at = next; held = held_with r.held g; accepted = r.accepted; state = r.state; words = r.words }

pub record Holds (g : Range) (next : ℕ) (x : Met) (r r' : Replay) : Type 0 where
  pub met : x ≡ met.Held
  pub replay : r' ≡ holding g next r

-- an event is played with the ranges held, and the replay goes on behind it
pub record Plays (e : Event) (next : ℕ) (a : Result Told Refusal) (r r' : Replay) : Type 0 where
  pub did : Does (step (event_says e r.held) (connection_of r.words r.state)) (answered_says a) r.words r'.words r.state r'.state
      (place_of e r.state) (words_of e r.words r.state)
  pub at : r'.at ≡ next
  pub held : r'.held ≡ kept_by e r.held
  pub accepted : r'.accepted ≡ count_with (answered_says a) r.accepted

-- the answer to an event that was met
abbrev pub answer_in : Met → Result Told Refusal
answer_in met.End = Ok Told.Done
answer_in met.Bad = Ok Told.Done
answer_in met.Held = Ok Told.Done
answer_in (met.Event kind a) = a

pub record Answers (e : Event) (kind next : ℕ) (x : Met) (r r' : Replay) : Type 0 where
  pub met : x ≡ met.Event kind (answer_in x)
  pub plays : Plays e next (answer_in x) r r'

abbrev pub Turns : Found → ℕ → ℕ → Met → Replay → Replay → Type 0
Turns found.End kind next x r r' = Stays met.End x r r'
Turns found.Bad kind next x r r' = Stays met.Bad x r r'
Turns (found.Range g) kind next x r r' = Holds g next x r r'
Turns (found.Event e) kind next x r r' = Answers e kind next x r r'

-- What a turn on lent words claims, what is told of it into a lent buffer, and what is then still to come. 01 'Replay and the host'. Definitions only.
use Rattle.std.specs.Prelude.{ℕ, ◌%◌, ◌≤◌, ◌<◌, true, false, List, ◌++◌, ◌≡◌, length, take}
use Rattle.model.specs.Run.{step}
use Rattle.model.specs.Trace.{printed}
use Rattle.connection.specs.View.{connection_of, Does}
use Rattle.connection.specs.declared.State.{State}
use Rattle.trace.specs.Held.{held_words, firsts, count_with, words_with}
use Rattle.trace.specs.Put.{Put}
use Rattle.trace.specs.Says.{event_says}
use Rattle.trace.specs.declared.Event.{Event}
use Rattle.trace.specs.declared.Event.TheVariants as event
use Rattle.trace.specs.declared.Found.{Found}
use Rattle.trace.specs.declared.Found.TheVariants as found
use Rattle.trace.specs.declared.Range.{Range}
use Rattle.play.specs.Answers.{answered_says}
use Rattle.play.specs.Places.{place_of, words_of}
use Rattle.playback.specs.Turns as turns
use Rattle.playback.specs.Turns.{answer_in}
use Rattle.playback.specs.Printed.{line_met, is_last, lines_from, unless_ended}
use Rattle.playback.specs.declared.Met.{Met}
use Rattle.playback.specs.declared.Met.TheVariants as met
use Rattle.playback.specs.declared.Replay.{Replay}
use Rattle.playback.specs.declared.lent.Progress.{Progress}
use Rattle.playback.specs.declared.lent.Standing.{Standing}
use Rattle.playback.specs.declared.lent.Turned.{Turned}

-- at the trace's first byte, with no ranges held and no event accepted
abbrev pub standing_first : State → Standing
standing_first s = record { at = 0; held = 0; accepted = 0; state = s }

-- ---- a turn

-- how many words are held after an event
abbrev pub words_after : Event → ℕ → ℕ
words_after (event.Sent e) held = held
words_after (event.Ack e) held = 0
words_after (event.Timeout e) held = held
words_after (event.Discard e) held = held
words_after (event.Size n) held = held
words_after (event.TakeAcked n) held = held
words_after (event.TakeLost n) held = held
words_after (event.Ping n) held = held

-- nothing is done
pub record StaysLent (what : Met) (r : Standing) (t : Turned) (ranges ranges' m m' : List ℕ) : Type 0 where
  pub turned : t ≡ record { met = what; replay = r }
  pub held : ranges' ≡ ranges
  pub memory : m' ≡ m

-- a range is held, and the replay goes on behind it
pub record HoldsLent (x : Range) (next : ℕ) (r : Standing) (t : Turned) (ranges ranges' : List ℕ) : Type 0 where
  pub turned : t ≡ record { met = met.Held; replay = record { at = next; held = count_with r.held; accepted = r.accepted; state = r.state } }
  pub held : ranges' ≡ words_with ranges r.held x

-- an event is played with the ranges held, and the replay goes on behind it
pub record AnswersLent (e : Event) (kind next : ℕ) (r : Standing) (t : Turned) (ranges m m' : List ℕ) : Type 0 where
  pub did : Does (step (event_says e (firsts r.held ranges)) (connection_of m r.state)) (answered_says (answer_in t.met)) m m' r.state t.replay.state
      (place_of e r.state) (words_of e m r.state)
  pub met : t.met ≡ met.Event kind (answer_in t.met)
  pub at : t.replay.at ≡ next
  pub held : t.replay.held ≡ words_after e r.held
  pub accepted : t.replay.accepted ≡ turns.count_with (answered_says (answer_in t.met)) r.accepted

abbrev pub TurnsLent : Found → ℕ → ℕ → Standing → Turned → List ℕ → List ℕ → List ℕ → List ℕ → Type 0
TurnsLent found.End kind next r t ranges ranges' m m' = StaysLent met.End r t ranges ranges' m m'
TurnsLent found.Bad kind next r t ranges ranges' m m' = StaysLent met.Bad r t ranges ranges' m m'
TurnsLent (found.Range x) kind next r t ranges ranges' m m' = HoldsLent x next r t ranges ranges' × (m' ≡ m)
TurnsLent (found.Event e) kind next r t ranges ranges' m m' = AnswersLent e kind next r t ranges m m' × (ranges' ≡ ranges)

-- ---- what is told

-- the turn's line is put behind the bytes that are filled
pub record TellsLent (t : Turned) (at filled : ℕ) (p : Progress) (out out' : List ℕ) : Type 0 where
  pub put : (m : List ℕ) → Put out filled (printed (line_met t.met at t.replay.accepted (connection_of m t.replay.state))) out' p.filled
  pub ended : p.ended ≡ is_last t.met
  pub replay : p.replay ≡ t.replay

-- ---- what is still to come

-- the replay that lent words stand for
abbrev pub replay_in : List ℕ → List ℕ → Standing → Replay
replay_in ranges m r = record { at = r.at; held = firsts r.held ranges; accepted = r.accepted; state = r.state; words = m }

-- ranges are held in pairs of words, and no more events were accepted than bytes were passed
pub record SoundLent (ranges : List ℕ) (r : Standing) : Type 0 where
  pub words : length ranges ≡ held_words
  pub pairs : r.held % 2 ≡ 0
  pub few : r.accepted ≤ r.at

-- The bytes put out and those still to come are what was put out and what was to come, and the replay is further on.
pub record ShowsLent (bytes ranges ranges' m m' out out' : List ℕ) (filled : ℕ) (r : Standing) (p : Progress) : Type 0 where
  pub shown : take p.filled out' ++ unless_ended p.ended (printed (lines_from bytes (replay_in ranges' m' p.replay)))
      ≡ take filled out ++ printed (lines_from bytes (replay_in ranges m r))
  pub sound : SoundLent ranges' p.replay
  pub size : length out' ≡ length out
  pub inside : p.filled ≤ length out
  pub further : p.ended ≡ false → r.at < p.replay.at
  pub within : p.ended ≡ false → p.replay.at ≤ length bytes

-- the bytes written from where a replay stands on: each buffer is filled from where the one before left it, and the last one has the last line
pub data WritesLent (bytes : List ℕ) : List ℕ → List ℕ → Standing → List ℕ → Type 0 where
  last_lent : {ranges ranges' m m' out out' : List ℕ} {r : Standing} {p : Progress} → ShowsLent bytes ranges ranges' m m' out out' 0 r p → p.ended ≡ true →
      WritesLent bytes ranges m r (take p.filled out')
  more_lent : {ranges ranges' m m' out out' written : List ℕ} {r : Standing} {p : Progress} → ShowsLent bytes ranges ranges' m m' out out' 0 r p → p.ended ≡ false →
      WritesLent bytes ranges' m' p.replay written →
      WritesLent bytes ranges m r (take p.filled out' ++ written)

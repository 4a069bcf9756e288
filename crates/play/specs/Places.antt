-- What playing an event claims, and where the event leaves what it changes, as each event's own contract says. Definitions only.
use Rattle.std.specs.Prelude.{ℕ, List}
use Rattle.model.specs.Connection.{Connection}
use Rattle.model.specs.Run.{step}
use Rattle.connection.specs.View.{connection_of, state_by, Does}
use Rattle.connection.specs.Answers.{sent_words, shared_by}
use Rattle.connection.specs.declared.State.{State}
use Rattle.timeout.specs.Claim.{timeout_at, timeout_words}
use Rattle.tracker.specs.Event.{ack_words}
use Rattle.trace.specs.Says.{event_says}
use Rattle.trace.specs.declared.Event.{Event}
use Rattle.play.specs.Answers.{answered_says}
use Rattle.play.specs.declared.Told.{Told}
use Rattle.connection.specs.declared.Answer.{Answer}

-- the state
abbrev pub place_of : Event → State → Connection → State
place_of (Event.Sent e) s c = state_by s e.space 1 c
place_of (Event.Ack e) s c = state_by s e.space 0 c
place_of (Event.Timeout e) s c = state_by s (timeout_at e.time e.status s) 0 c
place_of (Event.Discard e) s c = state_by s e.space 0 c
place_of (Event.Size size) s c = shared_by s c
place_of (Event.TakeAcked n) s c = state_by s n 0 c
place_of (Event.TakeLost n) s c = state_by s n 0 c
place_of (Event.Ping n) s c = state_by s n 0 c

-- the words; events that store nothing leave them as they were
abbrev pub words_of : Event → List ℕ → State → Connection → List ℕ
words_of (Event.Sent e) m s c = sent_words m e.time e.space e.packet s
words_of (Event.Ack e) m s c = ack_words m s e.space c
words_of (Event.Timeout e) m s c = timeout_words m e.time e.status s c
words_of (Event.Discard e) m s c = m
words_of (Event.Size size) m s c = m
words_of (Event.TakeAcked n) m s c = m
words_of (Event.TakeLost n) m s c = m
words_of (Event.Ping n) m s c = m

-- what `play` claims, of an event with the ranges held
abbrev pub PlaysOne : Event → List ℕ → List ℕ → List ℕ → State → Answer Told → Type 0
PlaysOne e held m m' s r =
    Does (step (event_says e held) (connection_of m s)) (answered_says r.outcome) m m' s r.state (place_of e s) (words_of e m s)

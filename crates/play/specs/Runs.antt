-- Events played one after another, and what is seen after each of them. 01 'Strength of wording': a replay that does all at the first event falls to the
-- state claimed after each. Definitions only.
use Rattle.std.specs.Prelude.{ℕ, List, [], ◌∷◌, Result}
use Rattle.model.specs.Connection.{Connection}
use Rattle.model.specs.Run.{Answer, step, after}
use Rattle.model.specs.Run as run
use Rattle.connection.specs.View.{connection_of, answer_of, Does}
use Rattle.connection.specs.declared.State.{State}
use Rattle.arith.specs.declared.refusal.Refusal.{Refusal}

-- an event's answer, and the connection after it
pub record Seen : Type 0 where
  pub answer : Result Answer Refusal
  pub connection : Connection

-- by the definitions
unfoldable pub seen_of : List run.Event → Connection → List Seen
unfolding step after
seen_of [] c = []
seen_of (e ∷ l) c = record { answer = answer_of (step e c); connection = after e c } ∷ seen_of l (after e c)

-- by events that each do what `play` claims, from the words and the state that the event before left
pub data Plays : List ℕ → State → List run.Event → List Seen → List ℕ → State → Type 0 where
  none : {m : List ℕ} {s : State} → Plays m s [] [] m s
  next : {m m₁ m₂ : List ℕ} {s s₁ s₂ : State} {e : run.Event} {l : List run.Event} {seen : List Seen} {o : Result Answer Refusal}
      {place : Connection → State} {words : Connection → List ℕ} →
      Does (step e (connection_of m s)) o m m₁ s s₁ place words →
      Plays m₁ s₁ l seen m₂ s₂ →
      Plays m s (e ∷ l) (record { answer = o; connection = connection_of m₁ s₁ } ∷ seen) m₂ s₂

-- What an event's claim says to whoever reads the connection after it. Assumes nothing.
use mathlib.Core.Path.{◌≡◌, refl, ap, ◌∙◌}
use mathlib.Core.Bool.{cond}
use mathlib.Core.List.{List}
use Prim.Native.Nat.{ℕ, ◌+◌}
use Rattle.model.specs.Connection.{Connection}
use Rattle.model.specs.Events.{Step}
use Rattle.model.specs.Run.{Answer, refusal_of, state_by}
use Rattle.model.specs.Trace.{count_by}
use Rattle.connection.specs.View.{connection_of, answer_of, Does}
use Rattle.connection.specs.declared.State.{State}
use Rattle.play.specs.Answers.{is_accepted}
use Rattle.std.specs.Prelude.{Result, Ok, Err}
use Rattle.arith.specs.declared.refusal.Refusal.{Refusal}

refusal-answer : (d : Result (Step Answer) Refusal) → refusal_of (answer_of d) ≡ refusal_of d
refusal-answer (Ok x) = refl
refusal-answer (Err k) = refl

count-answer : (d : Result (Step Answer) Refusal) (n : ℕ) → cond (is_accepted (answer_of d)) (n + 1) n ≡ count_by d n
count-answer (Ok x) n = refl
count-answer (Err k) n = refl

module _ {m m' : List ℕ} {s s' : State} {place : Connection → State} {words : Connection → List ℕ} where
  -- the connection after it: the definition's, or the one before where it refuses
  pub state-after : (d : Result (Step Answer) Refusal) {o : Result Answer Refusal} → Does d o m m' s s' place words → connection_of m' s' ≡ state_by (connection_of m s) d
  state-after (Ok x) h = h.leaves.stands
  state-after (Err k) h = rw (h.leaves.memory, h.leaves.state)

  -- the number that a replay prints
  pub refusal-after : (d : Result (Step Answer) Refusal) {o : Result Answer Refusal} → Does d o m m' s s' place words → refusal_of o ≡ refusal_of d
  refusal-after d h = ap refusal_of h.answer ∙ refusal-answer d

  -- whether it counts
  pub count-after : (d : Result (Step Answer) Refusal) {o : Result Answer Refusal} → Does d o m m' s s' place words → (n : ℕ) → cond (is_accepted o) (n + 1) n ≡ count_by d n
  count-after d h n = rw h.answer (count-answer d n)

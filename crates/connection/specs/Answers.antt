-- What each case of an answer says, in model's terms, and what a send leaves in the words. Definitions only.
use Rattle.std.specs.Prelude.{ℕ, ◌+◌, ◌%◌, ◌≡◌, List, Result, Ok, Err}
use Rattle.arith.specs.declared.time.Moment.{Moment}
use Rattle.arith.specs.Refusals.{then}
use Rattle.model.specs.Numbers.{capacity}
use Rattle.model.specs.Connection.{Connection, fresh}
use Rattle.model.specs.declared.Packet.{Packet}
use Rattle.arith.specs.declared.refusal.Refusal.{Refusal}
use Rattle.model.specs.declared.Settings.{Settings}
use Rattle.records.specs.View.{store_record}
use Rattle.connection.specs.View.{count, connection_of, space_state_at}
use Rattle.connection.specs.Steps.{with_shared_state, fresh_state}
use Rattle.connection.specs.declared.Answer.{Answer}
use Rattle.connection.specs.declared.State.{State}

-- accepted is 01's 0
abbrev pub outcome_says : {U : Type 0} → Result U Refusal → Result ℕ Refusal
outcome_says (Ok u) = Ok 0
outcome_says (Err k) = Err k

-- a refusal, and the state as it was
abbrev pub refused_by : {A : Type 0} → Refusal → State → Answer A
refused_by k s = record { outcome = Err k; state = s }

-- a state that an event comes to, or its refusal
abbrev pub settled_by : State → Result State Refusal → Answer Unit
settled_by s (Ok t) = record { outcome = Ok tt; state = t }
settled_by s (Err k) = refused_by k s

-- the words with a new record behind those of its space
unfoldable pub sent_words : List ℕ → Moment → ℕ → Packet → State → List ℕ
sent_words m now n p s = store_record m n ((space_state_at n s).head % capacity + count (space_state_at n s).len) now p

-- a size change leaves the spaces as they are
abbrev pub shared_by : State → Connection → State
shared_by s c = with_shared_state c.shared s

-- ---- a fresh connection

-- the state is this one, and stands for model's fresh connection whatever the words
pub record Begins (s : Settings) (r : Result State Refusal) : Type 0 where
  pub state : r ≡ fresh_state s
  pub stands : (m : List ℕ) → then r (λ t. Ok (connection_of m t)) ≡ fresh s

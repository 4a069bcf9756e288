-- The record that a host holds, the connection that it stands for, and what an event leaves in it. 01 'Replay and the host'. Definitions only.
use Rattle.std.specs.Prelude.{◌≡◌, List, ℕ, Result, Ok, Err}
use Rattle.model.specs.Connection.{Connection}
use Rattle.model.specs.Events.{Step}
use Rattle.arith.specs.Refusals.{must}
use Rattle.arith.specs.declared.refusal.Refusal.TheVariants.{Domain}
use Rattle.connection.specs.View.{connection_of, answer_of}
use Rattle.plain.specs.Values.{state_of, is_sealed}
use Rattle.plain.specs.declared.Values.{Values}
use Rattle.serve.specs.declared.Connection.{Connection as Record}
use Rattle.arith.specs.declared.refusal.Refusal.{Refusal}

abbrev pub record_of : List ℕ → Values → Record
record_of m v = record { words = m; values = v }

-- model's connection, lists and all
unfoldable pub stands_for : Record → Connection
stands_for c = connection_of c.words (state_of c.values)

-- a record that was never begun is a setting outside its range: refusal 2
unfoldable pub asked : {A : Type 0} → Record → Result (Step A) Refusal → Result (Step A) Refusal
asked c d = must (is_sealed c.values) Domain d

-- What an event on a record claims. `d` is the definition's step from the connection that the record stands for, `says` its answer in plain numbers,
-- and `lay` the record in which the definition's new connection is to lie. A refusal leaves the record as it is.
abbrev pub left_by : {A : Type 0} → Result (Step A) Refusal → (Connection → Record) → Record → Record
left_by (Ok x) lay c = lay x.state
left_by (Err k) lay c = c

abbrev pub connection_by : {A : Type 0} → Result (Step A) Refusal → Connection → Connection
connection_by (Ok x) c = x.state
connection_by (Err k) c = c

pub record Served {A B : Type 0} (d : Result (Step A) Refusal) (says : Result A Refusal → B) (lay : Connection → Record) (c : Record) (r : B) (c' : Record) : Type 0 where
  pub answer : r ≡ says (answer_of d)
  pub left : c' ≡ left_by d lay c
  pub stands : stands_for c' ≡ connection_by d (stands_for c)

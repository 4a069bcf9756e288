-- Bytes in flight and the spaces' in-flight counts, by the records. 01 'The sender's part', 'Replay and the host'. Definitions only.
use Rattle.std.specs.Prelude.{ℕ, ◌+◌, ◌≤◌, ◌≡◌, cond, ◌&&◌, List, [], ◌∷◌, Ok}
use Rattle.arith.specs.Whole.{limit}
use Rattle.model.specs.Connection.{Connection, Space, outstanding}
use Rattle.model.specs.Run.{Event, run}
use Rattle.model.specs.Sent.{standing}
use Rattle.model.specs.declared.Sent.{Sent}
use Rattle.audit.specs.Total.{total_of, all_records}

-- how many are in flight and neither acked nor lost
unfoldable pub count_out : List Sent → ℕ
count_out [] = 0
count_out (r ∷ l) = cond (r.in_flight && standing r) (1 + count_out l) (count_out l)

-- a space's count is its records'
abbrev pub Counted : Space → Type 0
Counted s = s.epoch.in_flight_count ≡ count_out s.records

-- the bytes are those of all spaces' records, and so is each space's count
pub record Agrees (c : Connection) : Type 0 where
  pub bytes : c.shared.bytes_in_flight ≡ outstanding c.initial.records + (outstanding c.handshake.records + outstanding c.application.records)
  pub small : c.shared.bytes_in_flight ≤ limit
  pub initial : Counted c.initial
  pub handshake : Counted c.handshake
  pub application : Counted c.application

-- after any calls from a fresh connection, refused ones included: bytes in flight is the audit's total of all records, and each space's count its records' own
pub record InFlight (c : Connection) (calls : List Event) : Type 0 where
  pub audit : total_of (all_records (run calls c)) ≡ Ok (run calls c).shared.bytes_in_flight
  pub agrees : Agrees (run calls c)

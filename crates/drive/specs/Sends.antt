-- The host's loop over the packets that it sends. 01 'Replay and the host'. Definitions only.
use Rattle.std.specs.Prelude.{true, List, [], ◌∷◌, ◌≡◌, ℕ, suc}
use Rattle.arith.specs.Time.{moment}
use Rattle.model.specs.Run.{Event, sent, run}
use Rattle.model.specs.Trace.{status_of}
use Rattle.model.specs.Trace.{packet_of}
use Rattle.plain.specs.Values.{is_sealed}
use Rattle.serve.specs.Events.{sent_step, sent_lay}
use Rattle.serve.specs.Record.{stands_for, left_by}
use Rattle.serve.specs.declared.Connection.{Connection as Record}

-- packets of these sizes, numbered from i on, in Application at one moment: eliciting, in flight and with data, the number as the handle; the handshake completed
unfoldable pub sends : ℕ → ℕ → List ℕ → List Event
sends time i [] = []
sends time i (size ∷ l) = sent (moment time) 2 (packet_of i size 7 i) (status_of 7) ∷ sends time (suc i) l

-- the record after one of them, and after all
unfoldable pub send_one : Record → ℕ → ℕ → ℕ → Record
send_one c time i size = left_by (sent_step c time 2 i size 7 i 7) (sent_lay c time 2 i size 7 i) c

unfoldable pub send_from : Record → ℕ → ℕ → List ℕ → Record
send_from c time i [] = c
send_from c time i (size ∷ l) = send_from (send_one c time i size) time (suc i) l

-- the loop leaves that record; and if it was begun, it stands for the connection after model's run of these events
pub record SentAll (c : Record) (time : ℕ) (l : List ℕ) (c' : Record) : Type 0 where
  pub left : c' ≡ send_from c time 0 l
  pub stands : is_sealed c.values ≡ true → stands_for c' ≡ run (sends time 0 l) (stands_for c)

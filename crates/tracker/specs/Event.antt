-- What the acknowledgement event answers, and what it leaves in the words. Definitions only.
use Rattle.std.specs.Prelude.{ℕ, ◌+◌, ◌-◌, List, length, drop}
use Rattle.model.specs.Connection.{Connection, space_at}
use Rattle.marks.specs.Store.{store_marks}
use Rattle.records.specs.View.{store_handles}
use Rattle.connection.specs.View.{normal_of, space_state_at}
use Rattle.connection.specs.declared.State.{State}

-- the words after it: the marks of the records that are left, and the new handles behind those that were queued; nothing else is stored
unfoldable pub ack_words : List ℕ → State → ℕ → Connection → List ℕ
ack_words m s n c =
    let q = normal_of (space_state_at n s) in
    let new = space_at n c in
    store_handles
    (store_handles (store_marks m n (q.head + (q.len - length new.records)) new.records) n 0 q.acked (drop q.acked new.acked_frames))
    n 1 q.lost_ack (drop q.lost_ack new.lost_frames_ack)

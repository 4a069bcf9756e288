-- What a connection's words and values stand for: model's connection, lists and all. Definitions only.
use Rattle.std.specs.Prelude.{ℕ, ◌+◌, ◌-◌, ◌%◌, min, cond, ◌≡◌, List, eqb, length, Result, Ok, Err}
use Rattle.model.specs.Numbers.{capacity}
use Rattle.model.specs.Connection.{Space, Connection, space_at}
use Rattle.model.specs.Events.{Step}
use Rattle.model.specs.declared.Shared.{Shared}
use Rattle.records.specs.View.{records_of, queue_of}
use Rattle.connection.specs.declared.SpaceState.{SpaceState}
use Rattle.connection.specs.declared.State.{State}
use Rattle.arith.specs.declared.refusal.Refusal.{Refusal}

-- ---- what stands there

-- a count that no run reaches is read as a full ring or queue
abbrev pub count : ℕ → ℕ
count n = min n capacity

unfoldable pub space_of : List ℕ → ℕ → SpaceState → Space
space_of m n s =
    record {
      records = records_of m n s.head (count s.len);
      acked_frames = queue_of m n 0 (count s.acked);
      lost_frames_ack = queue_of m n 1 (count s.lost_ack);
      lost_frames_pto = queue_of m n 2 (count s.lost_pto);
      epoch = s.epoch;
    }

unfoldable pub connection_of : List ℕ → State → Connection
unfolding space_of
connection_of m s =
    record { initial = space_of m 0 s.initial; handshake = space_of m 1 s.handshake; application = space_of m 2 s.application; shared = s.shared }

-- the same space, with its counts in their ranges
unfoldable pub normal_of : SpaceState → SpaceState
normal_of s =
    record {
      head = s.head % capacity;
      len = count s.len;
      acked = count s.acked;
      lost_ack = count s.lost_ack;
      lost_pto = count s.lost_pto;
      epoch = s.epoch;
    }

unfoldable pub space_state_at : ℕ → State → SpaceState
space_state_at n s = cond (eqb n 0) s.initial (cond (eqb n 1) s.handshake s.application)

unfoldable pub with_space_state : ℕ → SpaceState → Shared → State → State
with_space_state n p shared s =
    cond (eqb n 0) (record { initial = p; handshake = s.handshake; application = s.application; shared = shared })
    (cond (eqb n 1) (record { initial = s.initial; handshake = p; application = s.application; shared = shared })
    (record { initial = s.initial; handshake = s.handshake; application = p; shared = shared }))

-- ---- what an event leaves there

-- where a space lies after an event that stored so many new records in it: what left went from the front
unfoldable pub placed_by : SpaceState → ℕ → Space → SpaceState
placed_by old stored new =
    record {
      head = (old.head + (count old.len + stored - length new.records)) % capacity;
      len = length new.records;
      acked = length new.acked_frames;
      lost_ack = length new.lost_frames_ack;
      lost_pto = length new.lost_frames_pto;
      epoch = new.epoch;
    }

-- an event in space n leaves the other spaces as they are
unfoldable pub state_by : State → ℕ → ℕ → Connection → State
unfolding placed_by space_state_at with_space_state
state_by s n stored c = with_space_state n (placed_by (space_state_at n s) stored (space_at n c)) c.shared s

-- the answer of an event, without the connection
abbrev pub answer_of : {A : Type 0} → Result (Step A) Refusal → Result A Refusal
answer_of (Ok x) = Ok x.answer
answer_of (Err n) = Err n

-- What a public operation claims. `d` is the definition's step from the connection that words m and state s stand for, `o` the answer given;
-- `place` and `words` say where the definition's new connection is to lie. A refusal changes no state and no lent memory.
pub record Accepts (new : Connection) (m' : List ℕ) (s' : State) (place : Connection → State) (words : Connection → List ℕ) : Type 0 where
  pub stands : connection_of m' s' ≡ new
  pub placed : s' ≡ place new
  pub stored : m' ≡ words new

pub record Refuses (m m' : List ℕ) (s s' : State) : Type 0 where
  pub state : s' ≡ s
  pub memory : m' ≡ m

abbrev pub Leaves : {A : Type 0} → Result (Step A) Refusal → List ℕ → List ℕ → State → State → (Connection → State) → (Connection → List ℕ) → Type 0
Leaves (Ok x) m m' s s' place words = Accepts x.state m' s' place words
Leaves (Err n) m m' s s' place words = Refuses m m' s s'

pub record Does {A : Type 0} (d : Result (Step A) Refusal) (o : Result A Refusal) (m m' : List ℕ) (s s' : State) (place : Connection → State) (words : Connection → List ℕ) : Type 0 where
  pub answer : o ≡ answer_of d
  pub leaves : Leaves d m m' s s' place words

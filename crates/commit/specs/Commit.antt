-- What an event leaves in memory that has decided which records are acked, which are lost, and which places are drained. Definitions only.
-- 01 'Acknowledgement (000)' 1 and 2, 'Lost or not'. Places count from the front: place i is slot head + i.
use Rattle.std.specs.Prelude.{ℕ, ◌+◌, ◌-◌, min, max, ◌≡◌, Bool, List, length, take}
use Rattle.arith.specs.Whole.{limit}
use Rattle.arith.specs.Time.{moment}
use Rattle.arith.specs.declared.time.Moment.{Moment}
use Rattle.model.specs.Numbers.{capacity}
use Rattle.records.specs.View.{ring}
use Rattle.marks.specs.Marks.{flagged, held_at, acked_at, settled_at, newly_of, standing_of, handles_of}
use Rattle.marks.specs.Store.{store_marks}
use Rattle.records.specs.View.{store_handles}
use Rattle.commit.specs.declared.Queues.{Queues}

-- the handles of the newly acked among the first k records
abbrev pub newly_handles : List ℕ → ℕ → ℕ → List Bool → ℕ → List ℕ
newly_handles m n head fs k = handles_of (newly_of (ring (flagged fs) 0 k) (ring (held_at m n head) 0 k))

-- the handles of those that a detection loses, which begins at place `from` and stops at place `stop`
abbrev pub gone_handles : List ℕ → ℕ → ℕ → List Bool → ℕ → ℕ → List ℕ
gone_handles m n head fs from stop = handles_of (standing_of (ring (acked_at m n head fs) from (stop - from)))

-- the marks of the k records, but for those before place `keep`
abbrev pub settled_marks : List ℕ → ℕ → ℕ → ℕ → List Bool → ℕ → ℕ → Moment → List ℕ
settled_marks m n head k fs stop keep time = store_marks m n (head + keep) (ring (settled_at m n head fs stop time) keep (k - keep))

-- the memory: marks, the handles of the acked in queue 0 from place `acked` on, those of the lost in queue 1 from place `lost` on
unfoldable pub committed : List ℕ → ℕ → ℕ → ℕ → List Bool → ℕ → ℕ → ℕ → Moment → ℕ → ℕ → List ℕ
committed m n head k fs from stop keep time acked lost =
    store_handles (store_handles (settled_marks m n head k fs stop keep time) n 0 acked (newly_handles m n head fs k)) n 1 lost (gone_handles m n head fs from stop)

-- how many handles the queues hold then
unfoldable pub queues_after : List ℕ → ℕ → ℕ → ℕ → List Bool → ℕ → ℕ → ℕ → ℕ → Queues
queues_after m n head k fs from stop acked lost =
    record { acked = acked + length (newly_handles m n head fs k); lost = lost + length (gone_handles m n head fs from stop) }

-- what `commit` leaves of a memory m, for any numbers: at most 256 records and handles count, a detection stops with the records,
-- no flag counts past the places where records are acked or lost, and no moment is past the stage's limit
pub record Committed (m : List ℕ) (n head len : ℕ) (fs : List Bool) (last from stop keep : ℕ) (time : Moment) (acked lost : ℕ) (after : List ℕ) (q : Queues) : Type 0 where
  pub memory :
      after ≡ committed m n head (min len capacity) (take (max last stop) fs) from (min stop (min len capacity)) keep (moment (min time.0 limit)) (min acked capacity) (min lost capacity)
  pub queues :
      q ≡ queues_after m n head (min len capacity) (take (max last stop) fs) from (min stop (min len capacity)) (min acked capacity) (min lost capacity)

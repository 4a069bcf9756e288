-- The places of a space that step 1 looks over, counted from the front, with their flags and their records. Definitions only.
use Rattle.std.specs.Prelude.{ℕ, min, Bool, List}
use Rattle.marks.specs.Marks.{flagged, held_at}
use Rattle.model.specs.Numbers.{capacity}
use Rattle.model.specs.declared.Sent.{Sent}
use Rattle.records.specs.View.{ring}

-- at most 256 of len records, and none after the last one that a range holds
abbrev pub places_of : ℕ → ℕ → ℕ
places_of len last = min (min len capacity) last

-- for each of the first k places, whether it is flagged
abbrev pub flags_to : List Bool → ℕ → List Bool
flags_to fs k = ring (flagged fs) 0 k

-- and its record
abbrev pub held_to : List ℕ → ℕ → ℕ → ℕ → List Sent
held_to m n head k = ring (held_at m n head) 0 k

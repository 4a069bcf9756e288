-- What an event that has decided stores: marks of records. Definitions only.
use Rattle.std.specs.Prelude.{ℕ, ◌+◌, ◌*◌, Bool, List, [], ◌∷◌, set, Option, Some, None}
use Rattle.model.specs.declared.Sent.{Sent}
use Rattle.records.specs.View.{at, bit}
use Rattle.arith.specs.declared.time.Moment.{Moment}

-- the mark that says what became of a record
abbrev pub mark_by : Bool → Option Moment → ℕ
mark_by acked None = bit acked
mark_by acked (Some t) = 2 * (t.0 + 1) + bit acked

-- the marks of records, stored from slot k of space n on
unfoldable pub store_marks : List ℕ → ℕ → ℕ → List Sent → List ℕ
store_marks m n k [] = m
store_marks m n k (r ∷ l) = store_marks (set m (at n k 5) (mark_by r.acked r.time_lost)) n (k + 1) l

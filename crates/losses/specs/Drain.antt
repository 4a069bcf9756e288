-- How far records drain, as a place. 01 'Acknowledgement (000)' 2. Definitions only.
use Rattle.std.specs.Prelude.{ℕ, ◌-◌, Bool, length}
use Rattle.arith.specs.declared.time.Moment.{Moment}
use Rattle.arith.specs.declared.time.Span.{Span}
use Rattle.model.specs.Sent.{may_leave_by, drained}
use Rattle.model.specs.declared.Sent.{Sent}
use Rattle.records.specs.View.{acked_by, lost_by, ring}
use Rattle.marks.specs.Marks.{lost_mark}

-- whether a record with this mark may leave, once those that stood are lost where b says so
abbrev pub leaves_by : ℕ → Bool → Moment → Span → Bool
leaves_by mark b now smoothed = may_leave_by (lost_by (lost_mark b now mark)) (acked_by (lost_mark b now mark)) now smoothed

-- of the places from a to k, with f the record at each: the place from which on records are left, k if none is
unfoldable pub drained_to : Moment → Span → (ℕ → Sent) → ℕ → ℕ → ℕ
drained_to now smoothed f a k = k - length (drained now smoothed (ring f a (k - a)))

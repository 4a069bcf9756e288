-- Moments and spans: numbers of two distinct kinds. 01 'The stage numbers'. Definitions only.
use Rattle.std.specs.Prelude.{ℕ, ◌+◌, ◌-◌, min, max, Bool, nat_le, Result, Ok, Err}
use Rattle.arith.specs.Whole.{sum_of, times_of}
use Rattle.arith.specs.declared.time.Moment.{Moment}
use Rattle.arith.specs.declared.time.Span.{Span}
use Rattle.arith.specs.declared.refusal.Refusal.{Refusal}

-- so many whole nanoseconds, of length and of the clock. 01 'The stage numbers'
abbrev pub span : ℕ → Span
span n = record { 0 = n }

abbrev pub moment : ℕ → Moment
moment n = record { 0 = n }

-- a number of nanoseconds read as either kind; past 2^53-1 it is neither. 01 'The stage numbers', refusal 7
abbrev pub as_span : Result ℕ Refusal → Result Span Refusal
as_span (Ok n) = Ok (span n)
as_span (Err why) = Err why

abbrev pub as_moment : Result ℕ Refusal → Result Moment Refusal
as_moment (Ok n) = Ok (moment n)
as_moment (Err why) = Err why

-- a span and a span are a span; a span after a moment is a moment. 01 'The stage numbers'
unfoldable pub span_sum_of : Span → Span → Result Span Refusal
span_sum_of a b = as_span (sum_of a.0 b.0)

unfoldable pub scaled_of : ℕ → Span → Result Span Refusal
scaled_of k s = as_span (times_of k s.0)

unfoldable pub later_of : Moment → Span → Result Moment Refusal
later_of m s = as_moment (sum_of m.0 s.0)

-- from the second moment to the first, 0 where that is before it: 000's saturating_duration_since
abbrev pub since_of : Moment → Moment → Span
since_of m earlier = span (m.0 - earlier.0)

-- max(latest, smoothed), max(4·rttvar, granularity). 01 'Lost or not', 'Timer and PTO (000)'
abbrev pub longer_of : Span → Span → Span
longer_of a b = span (max a.0 b.0)

-- the smallest sample, the delay capped. 01 'RTT (002)'
abbrev pub shorter_of : Span → Span → Span
shorter_of a b = span (min a.0 b.0)

-- m <= now - s, said without a difference: where now < s it fails. 01 'Lost or not', 'Acknowledgement (000)' 2
abbrev pub passed_by : Moment → Span → Moment → Bool
passed_by m s now = nat_le (m.0 + s.0) now.0

-- the nanoseconds, 0 where they are refused
abbrev pub span_value : Result Span Refusal → ℕ
span_value (Ok s) = s.0
span_value (Err why) = 0

abbrev pub moment_value : Result Moment Refusal → ℕ
moment_value (Ok m) = m.0
moment_value (Err why) = 0

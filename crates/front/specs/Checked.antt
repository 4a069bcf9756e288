-- What an acknowledgement's numbers are tested for, in 01's order. Definitions only.
use Rattle.std.specs.Prelude.{ℕ, ◌&&◌, not, List, Result, Ok, Option}
use Rattle.arith.specs.Whole.{times_of}
use Rattle.arith.specs.Time.{span}
use Rattle.arith.specs.declared.time.Moment.{Moment}
use Rattle.arith.specs.declared.time.Span.{Span}
use Rattle.arith.specs.Refusals.{must, then}
use Rattle.model.specs.Numbers.{on_clock, is_space}
use Rattle.model.specs.Ranges.{are_ranges, hold_skipped, is_skipped}
use Rattle.arith.specs.declared.refusal.Refusal.TheVariants.{Clock, Domain, Ranges, Skipped}
use Rattle.arith.specs.declared.refusal.Refusal.{Refusal}

-- 01's table, in its order; the delay in nanoseconds
unfoldable pub checked_ack : Moment → Moment → ℕ → List ℕ → ℕ → Option ℕ → Result Span Refusal
checked_ack clock now n words delay skipped =
    must (on_clock clock now) Clock
    (must (is_space n && is_skipped skipped) Domain
    (must (are_ranges words) Ranges
    (must (not (hold_skipped words skipped)) Skipped
    (then (times_of 1000 delay) λ ns. Ok (span ns)))))

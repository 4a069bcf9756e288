-- Step 1's sums as words hold them: a distance is at most 2^64-1. It is larger only where the largest is 2^64-1, which no ack reaches. Definitions only.
use Rattle.std.specs.Prelude.{ℕ, min, ◌<◌, ◌≡◌, false, Result, Ok, Err, Option, Some, None}
use Rattle.marks.specs.declared.Tally.{Tally}
use Rattle.model.specs.Numbers.{capacity}
use Rattle.arith.specs.declared.refusal.Refusal.{Refusal}

abbrev pub fit_number : Option ℕ → Option ℕ
fit_number None = None
fit_number (Some d) = Some (min d 18446744073709551615)

abbrev pub fit : Tally → Tally
fit t = record t { distance = fit_number t.distance }

abbrev pub fitted : Result Tally Refusal → Result Tally Refusal
fitted (Ok t) = Ok (fit t)
fitted (Err n) = Err n

-- before the first record: handles in the acked queue, and the space's in-flight count
abbrev pub fresh : ℕ → ℕ → Tally
fresh queued in_flight =
    record {
      queued = queued;
      newly = 0;
      last = 0;
      eliciting = false;
      acked_bytes = 0;
      in_flight = in_flight;
      spurious = 0;
      distance = None;
      spurious_in_flight = false;
    }

-- ---- for the private steps

-- the counts may be raised by one, and the distance is one that a word holds
pub record Room (t : Tally) : Type 0 where
  pub newly : t.newly < capacity
  pub spurious : t.spurious < capacity
  pub distance : fit_number t.distance ≡ t.distance

-- A loss detection over places. 01 'Lost or not'. Definitions only.
use Rattle.std.specs.Prelude.{ℕ, ◌-◌, Result, None}
use Rattle.model.specs.declared.Judge.{Judge}
use Rattle.model.specs.declared.Sent.{Sent}
use Rattle.records.specs.View.{ring}
use Rattle.marks.specs.Survey.{lost_tally, seek}
use Rattle.marks.specs.declared.Stop.{Stop}
use Rattle.arith.specs.declared.refusal.Refusal.{Refusal}

-- of the places from a to k, with f the record at each, from a fresh tally
abbrev pub seek_from : Judge → (ℕ → Sent) → ℕ → ℕ → ℕ → ℕ → Result Stop Refusal
seek_from j f a k queued in_flight = seek j a (ring f a (k - a)) (lost_tally queued 0 0 0 in_flight None)

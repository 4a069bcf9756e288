-- The two sums of a later sample, each by itself. They serve this crate's own functions; `later_by` in proofs/Laws.antt ties them to the model's `rtt_later`. Definitions only.
use Rattle.std.specs.Prelude.{ℕ, ◌/◌, Result}
use Rattle.arith.specs.Whole.{sum_of, times_of, gap_of}
use Rattle.model.specs.declared.Rtt.{Rtt}
use Rattle.arith.specs.declared.refusal.Refusal.{Refusal}
use Rattle.arith.specs.Refusals.{then}

-- (3·rttvar)/4 + |smoothed - adjusted|/4. 01 'RTT (002)'
unfoldable pub rttvar_sum : Rtt → ℕ → Result ℕ Refusal
rttvar_sum r a = then (times_of 3 r.rttvar.0) λ v. sum_of (v / 4) (gap_of r.smoothed_rtt.0 a / 4)

-- (7·smoothed)/8 + adjusted/8. 01 'RTT (002)'
unfoldable pub smoothed_sum : Rtt → ℕ → Result ℕ Refusal
smoothed_sum r a = then (times_of 7 r.smoothed_rtt.0) λ s. sum_of (s / 8) (a / 8)

-- Laws of the definitions that the proofs here rest on. Assumes nothing.
use Prim.Native.Nat.{ℕ, ◌+◌, ◌-◌, ◌*◌, ◌%◌, ◌^◌, ◌≤◌, ◌<◌, min}
use mathlib.Core.Path.{◌≡◌, refl}
use mathlib.Core.Bool.{true, false}
use native.Mathlib.Nat.{add_comm}
use native.Mathlib.Omega.{arith}
use lib.Dec.{leb}
use lib.Pow.{pow_mono}
use Rattle.arith.specs.Time.{span, span_sum_of, longer_of, shorter_of}
use Rattle.arith.specs.declared.time.Span.{Span}
use Rattle.arith.proofs.Laws.{moved, not_yet}
use Rattle.arith.specs.Refusals.{then}
use Rattle.model.specs.Rtt.{rtt_later, adjusted}
use Rattle.model.specs.Timer.{sooner}
use Rattle.model.specs.declared.Rtt.{Rtt}
use Rattle.estimate.specs.Sums.{rttvar_sum, smoothed_sum}
use Rattle.std.specs.Prelude.{Result, Ok, Err, Option, Some, None}
use Rattle.arith.specs.declared.time.Moment.{Moment}
use Rattle.arith.specs.declared.refusal.Refusal.{Refusal}

-- ---- a later sample, by its two sums
pub then-then : {A : Type 0} (s : Result ℕ Refusal) (f : ℕ → Result ℕ Refusal) (k : ℕ → Result A Refusal) → then s (λ n. then (f n) k) ≡ then (then s f) k
then-then (Ok n) f k = refl
then-then (Err why) f k = refl

pub later_by : (r : Rtt) (l delay : Span) → rtt_later r l delay ≡
    then (span_sum_of (shorter_of r.min_rtt l) delay) λ edge.
    then (rttvar_sum r (adjusted l delay edge)) λ v.
    then (smoothed_sum r (adjusted l delay edge)) λ s.
    Ok
    (record {
      latest_rtt = l;
      min_rtt = shorter_of r.min_rtt l;
      max_rtt = longer_of r.max_rtt l;
      smoothed_rtt = span s;
      rttvar = span v;
      has_first_rtt_sample = true;
      max_ack_delay = r.max_ack_delay;
    })
unfolding rtt_later rttvar_sum smoothed_sum
later_by r l delay = simp then-then

-- ---- lost by number
pub overtakes : (number threshold largest : ℕ) → number ≤ largest → leb threshold (largest - number) ≡ leb (number + threshold) largest
overtakes number threshold largest h = rw (add_comm number threshold) (moved threshold number largest h)

pub not-overtakes : (number threshold largest : ℕ) → largest < number → false ≡ leb (number + threshold) largest
not-overtakes number threshold largest h = rw (add_comm number threshold, not_yet threshold number largest h)

-- ---- which time wins
pub none-sooner : (a : Option Moment) → sooner a None ≡ false
unfolding sooner
none-sooner None = refl
none-sooner (Some m) = refl

-- ---- the backoff
pub backed-small : (n : ℕ) → n < 32 → 1 * 2 ^ n % 2 ^ 64 ≡ min (2 ^ n) 4294967295
backed-small n h = let q : n ≤ 31 = omega arith in let p : 2 ^ n ≤ 2 ^ 31 = pow_mono q in omega arith

pub backed-large : (n : ℕ) → 32 ≤ n → 4294967295 ≡ min (2 ^ n) 4294967295
backed-large n h = let p : 2 ^ 32 ≤ 2 ^ n = pow_mono h in omega arith

-- ---- nothing left
pub none_left : (window taken : ℕ) → window < taken → 0 ≡ window - taken
none_left window taken h = omega arith

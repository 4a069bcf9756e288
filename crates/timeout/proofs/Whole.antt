-- A timeout is the one with a loss time, or the one without, by whether a loss time stands. Assumes nothing.
use mathlib.Core.Path.{◌≡◌, refl}
use mathlib.Core.Bool.{Bool, true, false, ◌&&◌}
use mathlib.Core.List.{List}
use Prim.Native.Nat.{ℕ, ◌≤◌}
use native.Mathlib.Omega.{arith}
use borrow.Author.Tests.{leb-true}
use lib.Dec.{leb}
use Rattle.arith.specs.Whole.{limit}
use Rattle.arith.specs.declared.time.Moment.{Moment}
use Rattle.model.specs.Numbers.{on_clock}
use Rattle.model.specs.Events.{timeout_loss, timeout_probe, timeout_by, on_loss_detection_timeout}
use Rattle.model.specs.declared.HandshakeStatus.{HandshakeStatus}
use Rattle.model.specs.declared.OnLossDetectionTimeoutOutcome.{OnLossDetectionTimeoutOutcome}
use Rattle.arith.specs.declared.refusal.Refusal.TheVariants.{Clock}
use Rattle.connection.specs.View.{space_of, connection_of, state_by, Does}
use Rattle.connection.specs.declared.State.{State}
use Rattle.connection.proofs.Placed.{does-refused}
use Rattle.timeout.specs.Claim.{earliest_of, timeout_at, timeout_words, probe_at, probe_words, loss_words}
use Rattle.std.specs.Prelude.{Result, Err, Some, None}
use Rattle.arith.specs.declared.refusal.Refusal.{Refusal}

-- a moment that refusal 1 spares is not past the stage's limit
pub clock-limit : (clock now : Moment) → on_clock clock now ≡ true → now.0 ≤ limit
unfolding on_clock
clock-limit clock now e = leb-true now.0 limit (second (leb clock.0 now.0) (leb now.0 limit) e)
  where
    second : (a b : Bool) → (a && b) ≡ true → b ≡ true
    second true b e = e
    second false b e = let z : ◌≡◌ {A = ℕ} 0 1 = cc in absurd (let w : ⊥ = omega arith in w)

module _ (m : List ℕ) (now : Moment) (status : HandshakeStatus) (s : State) where
  pub late : on_clock s.shared.clock now ≡ false →
      Does (on_loss_detection_timeout now status (connection_of m s)) (Err Clock) m m s s (state_by s (timeout_at now status s) 0) (timeout_words m now status s)
  unfolding on_loss_detection_timeout connection_of
  late e = does-refused m s (state_by s (timeout_at now status s) 0) (timeout_words m now status s) _ Clock (rw e refl)

  module _ (timely : on_clock s.shared.clock now ≡ true) {o : Result OnLossDetectionTimeoutOutcome Refusal} {m' : List ℕ} {s' : State} where
    pub as-loss : {t : Moment} → (earliest_of s).time ≡ Some t →
        Does (timeout_loss now (earliest_of s).space status (connection_of m s)) o m m' s s' (state_by s (earliest_of s).space 0) (loss_words m (earliest_of s).space s) →
        Does (on_loss_detection_timeout now status (connection_of m s)) o m m' s s' (state_by s (timeout_at now status s) 0) (timeout_words m now status s)
    unfolding on_loss_detection_timeout timeout_by timeout_at timeout_words connection_of space_of
    as-loss e d = rw (timely, e) d

    pub as-probe : (earliest_of s).time ≡ None →
        Does (timeout_probe now status (connection_of m s)) o m m' s s' (state_by s (probe_at now status s) 0) (probe_words m (probe_at now status s) s) →
        Does (on_loss_detection_timeout now status (connection_of m s)) o m m' s s' (state_by s (timeout_at now status s) 0) (timeout_words m now status s)
    unfolding on_loss_detection_timeout timeout_by timeout_at timeout_words connection_of space_of
    as-probe e d = rw (timely, e) d

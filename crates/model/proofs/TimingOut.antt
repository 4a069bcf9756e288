-- An accepted timeout's law. Assumes nothing.
use mathlib.Core.Path.{◌≡◌, refl, ap, sym, subst}
use Prim.Native.Nat.{ℕ, ◌+◌, ◌<◌, min}
use native.Mathlib.Nat.{sub-zero}
use lib.Dec.{leb}
use Rattle.arith.specs.declared.time.Moment.{Moment}
use Rattle.model.specs.Numbers.{on_clock}
use Rattle.model.specs.Timer.{loss_time_and_space, probe_space}
use Rattle.model.specs.Control.{control}
use Rattle.model.specs.Connection.{Space, Connection, space_at, with_space, with_shared, with_timer, facts_of, timed}
use Rattle.model.specs.Events.{Step, detect_lost_packets, timeout_outcome, shared_timeout, timeout_loss, probe_queue, space_probed, timeout_probe, timeout_by, on_loss_detection_timeout}
use Rattle.model.specs.Strength.{TimesOutLoss, TimesOutProbe, TimesOutBy, TimesOut}
use Rattle.model.specs.declared.HandshakeStatus.{HandshakeStatus}
use Rattle.model.specs.declared.OnLossDetectionTimeoutOutcome.{OnLossDetectionTimeoutOutcome}
use Rattle.arith.specs.declared.refusal.Refusal.TheVariants.{Clock}
use Rattle.model.specs.declared.Shared.{Shared}
use Rattle.model.specs.declared.TimeAndSpace.{TimeAndSpace}
use Rattle.model.proofs.Peel.{All, all-is, all_then, all-must, all-cond, no_value}
use Rattle.model.proofs.Spaces.{earliest-small, probe-small}
use Rattle.model.proofs.Remains.{with-here, with-else, ended}
use Rattle.model.proofs.Detecting.{found, detected}
use Rattle.std.specs.Prelude.{Option, Some, None}

module _ (now : Moment) (c : Connection) where
  abbrev earliest : TimeAndSpace
  earliest = loss_time_and_space c.initial.epoch c.handshake.epoch c.application.epoch

  -- a timeout's law, of what it does by a loss time and a space
  abbrev Out : Option Moment → ℕ → Step OnLossDetectionTimeoutOutcome → Type 0
  Out t n x = (x.state.shared.clock ≡ now) × TimesOutBy t n now c x.answer x.state

  out-loss : (t : Moment) (n : ℕ) → n < 3 → (status : HandshakeStatus) → All (Out (Some t) n) (timeout_loss now n status c)
  unfolding timeout_loss
  out-loss t n small status =
      all_then (Out (Some t) n) (detect_lost_packets now c.shared.rtt c.shared.reordering c.shared.bytes_in_flight (space_at n c)) _ λ d x.
      all_then (Out (Some t) n) (control d.moves c.shared.congestion) _ λ g y.
      all_then (Out (Some t) n) (timed now status (with_shared (shared_timeout now c.shared.pto_count d.bytes g c.shared) (with_space n d.space c))) _ λ e z.
      all-is (Out (Some t) n) _
      (let w = ended now status (shared_timeout now c.shared.pto_count d.bytes g c.shared) (with_space n d.space c) e z in
      let y = with_timer w.0 (shared_timeout now c.shared.pto_count d.bytes g c.shared) in
      let f = found now c.shared.rtt c.shared.reordering c.shared.bytes_in_flight (space_at n c) d x in
      subst (λ (k : Connection). (k.shared.clock ≡ now) × TimesOutLoss now n c (timeout_outcome d.packets d.lost_bytes) k) (sym w.1) (
        refl,
        record {
          lost = detected now n c.shared.rtt c.shared.reordering (space_at n c) 0 c refl d f y d.space refl refl (sym (sub-zero _)) refl refl refl;
          stays = refl;
          elsewhere = with-else n d.space y c small;
        },
      ))

  out-probe : (n : ℕ) (status : HandshakeStatus) → All (Out None n) (timeout_probe now status c)
  unfolding timeout_probe
  out-probe n status =
      all_then (Out None n) (probe_space (facts_of now status c)) _ λ k x.
      all-cond (Out None n) (leb (c.shared.pto_count + 1) 4294967295) _ _
      (λ le.
      all_then (Out None n) (probe_queue probes (space_at k c)) _ λ q y.
      all_then (Out None n) (timed now status (with_shared shared (with_space k (space_probed probes q (space_at k c)) c))) _ λ e z.
      all-is (Out None n) _
      (let w = ended now status shared (with_space k (space_probed probes q (space_at k c)) c) e z in
      let here = with-here k (space_probed probes q (space_at k c)) (with_timer w.0 shared) c in
      subst (λ (d : Connection). (d.shared.clock ≡ now) × TimesOutProbe c (timeout_outcome 0 0) d) (sym w.1) (
        refl,
        record {
          answer = refl;
          one_more = refl;
          space = k;
          probes = ap (λ (s : Space). s.epoch.loss_probes) here;
          records = ap (λ (s : Space). s.records) here;
          bytes = refl;
          elsewhere = with-else k (space_probed probes q (space_at k c)) (with_timer w.0 shared) c (probe-small (facts_of now status c) k x);
        },
      )))
      (λ le a e. no_value e)
    where
      probes : ℕ
      probes = min (c.shared.pto_count + 1) 2

      shared : Shared
      shared = shared_timeout now (c.shared.pto_count + 1) c.shared.bytes_in_flight c.shared.congestion c.shared

  out-by : (status : HandshakeStatus) (t : Option Moment) (n : ℕ) → n < 3 → All (Out t n) (timeout_by t n now status c)
  unfolding timeout_by
  out-by status (Some t) n small = out-loss t n small status
  out-by status None n small = out-probe n status

  pub times_out : (status : HandshakeStatus) → All (λ x. TimesOut now c x.answer x.state) (on_loss_detection_timeout now status c)
  unfolding on_loss_detection_timeout
  times_out status =
      all-must P (on_clock c.shared.clock now) Clock _ λ x e.
      let h = out-by status earliest.time earliest.space (earliest-small c.initial.epoch c.handshake.epoch c.application.epoch) x e in
      record { clock = h.0; by = h.1 }
    where
      P : Step OnLossDetectionTimeoutOutcome → Type 0
      P x = TimesOut now c x.answer x.state

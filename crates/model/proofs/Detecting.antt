-- What a loss detection leaves of a space, and what it answers, by the records that its rule names. Assumes nothing.
use mathlib.Core.Path.{◌≡◌, refl, ap, ◌∙◌}
use mathlib.Core.List.{List, [], ◌∷◌, ◌++◌}
use Prim.Native.Nat.{ℕ, ◌-◌}
use native.Mathlib.Nat.{zero-add}
use Rattle.arith.specs.declared.time.Moment.{Moment}
use Rattle.arith.specs.declared.time.Span.{Span}
use Rattle.model.specs.Numbers.{or_zero}
use Rattle.model.specs.Sent.{drained}
use Rattle.model.specs.Loss.{Lost, Detected, loss_delay, detect}
use Rattle.model.specs.Control.{lose_by, count}
use Rattle.model.specs.Connection.{Space, Connection, space_at, with_space, with_shared}
use Rattle.model.specs.Events.{Detection, epoch_detected, detect_lost_packets}
use Rattle.model.specs.Strength.{Detects}
use Rattle.model.specs.declared.Judge.{Judge}
use Rattle.model.specs.declared.Reordering.{Reordering}
use Rattle.model.specs.declared.Rtt.{Rtt}
use Rattle.model.specs.declared.Sent.{Sent}
use Rattle.model.specs.declared.Shared.{Shared}
use Rattle.model.proofs.Peel.{All, all-is, all_then}
use Rattle.model.proofs.Counts.{Finds, finds}
use Rattle.model.proofs.Remains.{with-here}
use Rattle.std.specs.Prelude.{Ok, None}

-- ---- a loss detection
module _ (now : Moment) (rtt : Rtt) (o : Reordering) (bytes : ℕ) (s : Space) where
  abbrev pub judge_by : Span → Judge
  judge_by delay = record { now = now; delay = delay; threshold = o.pkt_thresh; largest = or_zero s.epoch.largest_acked_packet }

  abbrev pub start : Lost
  start = record { queue = s.lost_frames_ack; packets = 0; bytes = 0; probe_bytes = 0; in_flight = s.epoch.in_flight_count; last = None }

  abbrev pub detection_of : Detected → Detection
  detection_of d =
      record {
        space = record {
          records = drained now rtt.smoothed_rtt d.records;
          acked_frames = s.acked_frames;
          lost_frames_ack = d.lost.queue;
          lost_frames_pto = s.lost_frames_pto;
          epoch = epoch_detected d.lost.in_flight d.loss_time s.epoch;
        };
        bytes = bytes - d.lost.bytes - d.lost.probe_bytes;
        packets = d.lost.packets;
        lost_bytes = d.lost.bytes;
        moves = lose_by now d.lost.last ++ (count d.lost.packets ∷ []);
      }

  pub record Found (x : Detection) : Type 0 where
    pub delay : Span
    pub rule : loss_delay rtt o.time_thresh ≡ Ok delay
    pub seen : Detected
    pub finds : Finds (judge_by delay) s.records start seen
    pub is : x ≡ detection_of seen

  pub found : All Found (detect_lost_packets now rtt o bytes s)
  unfolding detect_lost_packets
  found =
      all_then Found (loss_delay rtt o.time_thresh) _ λ delay e.
      all_then Found (detect (judge_by delay) s.records start) _ λ d f.
      all-is Found (detection_of d) (record { delay = delay; rule = e; seen = d; finds = finds (judge_by delay) s.records start d f; is = refl })

-- what a space says of a detection that left it so
pub detected : (now : Moment) (n : ℕ) (rtt : Rtt) (o : Reordering) (s : Space) (acked_bytes : ℕ) (c : Connection) → s.lost_frames_ack ≡ (space_at n c).lost_frames_ack →
    (x : Detection) → (f : Found now rtt o c.shared.bytes_in_flight s x) → (y : Shared) (t : Space) →
    y.rtt ≡ rtt → y.reordering ≡ o → y.bytes_in_flight ≡ x.bytes - acked_bytes →
    t.lost_frames_ack ≡ x.space.lost_frames_ack → t.records ≡ x.space.records → t.epoch ≡ x.space.epoch →
    Detects now n s.records acked_bytes c (with_shared y (with_space n t c)) x.packets x.lost_bytes
detected now n rtt o s acked_bytes c same x f y t er eo eb eq el ee =
    let here = with-here n t y c in
    let l = f.finds.loses in
    let i = f.is in
    record {
      judge = judge_by now rtt o c.shared.bytes_in_flight s f.delay;
      moment = refl;
      delay = rw (er, eo) f.rule;
      threshold = rw eo refl;
      largest = rw (here, ee, i) refl;
      packets = rw i (l.packets ∙ zero-add _);
      bytes = rw i (l.bytes ∙ zero-add _);
      queue = rw (here, eq, i, ← same) l.queue;
      records = rw (here, el, er, i) (ap (λ (k : List Sent). drained now rtt.smoothed_rtt k) f.finds.records);
      in_flight = eb ∙ rw i (ap (λ (k : ℕ). c.shared.bytes_in_flight - f.seen.lost.bytes - k - acked_bytes) (l.probe_bytes ∙ zero-add _));
    }

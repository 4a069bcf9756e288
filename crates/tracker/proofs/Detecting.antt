-- A loss detection over places is model's over the records that stand there. Assumes nothing.
use mathlib.Core.Path.{◌≡◌, refl, subst}
use mathlib.Core.List.{List, [], ◌∷◌, ◌++◌}
use Prim.Native.Nat.{ℕ, ◌+◌, ◌-◌, ◌≤◌}
use native.Mathlib.Omega.{arith}
use lib.ListN.{length}
use Rattle.arith.specs.declared.time.Moment.{Moment}
use Rattle.arith.specs.declared.time.Span.{Span}
use Rattle.arith.specs.Refusals.{then}
use Rattle.model.specs.Numbers.{or_zero, capacity}
use Rattle.model.specs.Sent.{drained}
use Rattle.model.specs.Loss.{Lost, loss_delay}
use Rattle.model.specs.Loss as loss
use Rattle.model.specs.Control.{lose_by, count}
use Rattle.model.specs.Connection.{Space}
use Rattle.model.specs.Events.{Detection, epoch_detected, detect_lost_packets}
use Rattle.model.specs.declared.Epoch.{Epoch}
use Rattle.model.specs.declared.Judge.{Judge}
use Rattle.model.specs.declared.Reordering.{Reordering}
use Rattle.model.specs.declared.Rtt.{Rtt}
use Rattle.model.specs.declared.Sent.{Sent}
use Rattle.records.specs.View.{ring, queue_of}
use Rattle.records.proofs.Rings.{ring-take}
use Rattle.records.proofs.Laws.{length-queue}
use Rattle.marks.specs.declared.Stop.{Stop}
use Rattle.marks.proofs.SplitLoss.{finish_lost, split-loss}
use Rattle.marks.proofs.Lost.{lost-ring, drained-twice}
use Rattle.losses.specs.Drain.{drained_to}
use Rattle.losses.specs.Seek.{seek_from}
use Rattle.losses.proofs.Laws.{drained-to, seek-from, seek-to, seek-handles, seek-room}
use Rattle.commit.specs.Commit.{gone_handles}
use Rattle.connection.specs.declared.SpaceState.{SpaceState}
use Rattle.tracker.proofs.Chains.{then-then}
use Rattle.tracker.specs.declared.Losses.{Losses}
use Rattle.tracker.specs.Plan.{acked_place, settled_place, plan_losses}
use Rattle.std.specs.Prelude.{Bool, Result, Ok, Err, Option, None}
use Rattle.arith.specs.declared.refusal.Refusal.{Refusal}

module _ (m : List ℕ) (n : ℕ) (q : SpaceState) (fs : List Bool) (now : Moment) (from : ℕ) (le : from ≤ q.len) (a p : List ℕ) (e : Epoch) where
  abbrev queue : List ℕ
  queue = queue_of m n 1 q.lost_ack

  -- the space as step 2 leaves it
  abbrev pub before : Space
  before = record { records = ring (acked_place m n q fs) from (q.len - from); acked_frames = a; lost_frames_ack = queue; lost_frames_pto = p; epoch = e }

  -- and as the detection does
  abbrev pub after : Losses → Space
  after l =
      record {
        records = ring (settled_place m n q fs l.stop now) l.keep (q.len - l.keep);
        acked_frames = a;
        lost_frames_ack = queue ++ gone_handles m n q.head fs from l.stop;
        lost_frames_pto = p;
        epoch = epoch_detected l.tally.in_flight l.loss_time e;
      }

  abbrev pub detection : ℕ → Losses → Detection
  detection bytes l =
      record {
        space = after l;
        bytes = bytes - l.tally.bytes - l.tally.probe_bytes;
        packets = l.tally.packets;
        lost_bytes = l.tally.bytes;
        moves = lose_by now l.tally.last ++ (count l.tally.packets ∷ []);
      }

  module _ (rtt : Rtt) (o : Reordering) (bytes : ℕ) where
    abbrev judge : Span → Judge
    judge d = record { now = now; delay = d; threshold = o.pkt_thresh; largest = or_zero e.largest_acked_packet }

    abbrev fresh : Lost
    fresh = record { queue = queue; packets = 0; bytes = 0; probe_bytes = 0; in_flight = e.in_flight_count; last = None }

    abbrev records : List Sent
    records = ring (acked_place m n q fs) from (q.len - from)

    abbrev found : Stop → Losses
    found f =
        record {
          tally = f.tally;
          stop = f.place;
          loss_time = f.loss_time;
          keep = drained_to now rtt.smoothed_rtt (settled_place m n q fs f.place now) from q.len;
        }

    abbrev told : loss.Detected → Detection
    told d =
        record {
          space = record {
            records = drained now rtt.smoothed_rtt d.records;
            acked_frames = a;
            lost_frames_ack = d.lost.queue;
            lost_frames_pto = p;
            epoch = epoch_detected d.lost.in_flight d.loss_time e;
          };
          bytes = bytes - d.lost.bytes - d.lost.probe_bytes;
          packets = d.lost.packets;
          lost_bytes = d.lost.bytes;
          moves = lose_by now d.lost.last ++ (count d.lost.packets ∷ []);
        }

    stopped : (d : Span) (x : Result Stop Refusal) → seek_from (judge d) (acked_place m n q fs) from q.len q.lost_ack e.in_flight_count ≡ x →
        then (finish_lost x from now records queue) (λ y. Ok (told y)) ≡ then (then x (λ f. Ok (found f))) (λ l. Ok (detection bytes l))
    unfolding finish_lost
    stopped d (Ok f) s =
        let ge : from ≤ f.place = seek-from (judge d) (acked_place m n q fs) from q.len q.lost_ack e.in_flight_count f s le in
        let to : f.place ≤ q.len = seek-to (judge d) (acked_place m n q fs) from q.len q.lost_ack e.in_flight_count f s le in
        let short : f.place - from ≤ q.len - from = omega arith in
        rw (
          lost-ring m n q.head fs f.place now from (q.len - from) ge,
          (drained-to now rtt.smoothed_rtt (settled_place m n q fs f.place now) q.len from le).left,
          ring-take (acked_place m n q fs) from (f.place - from) (q.len - from) short,
        ) refl
    stopped d (Err k) s = refl

    pub losses-view :
        detect_lost_packets now rtt o bytes before
        ≡ then (plan_losses m n q fs now rtt o e.largest_acked_packet e.in_flight_count from) (λ l. Ok (detection bytes l))
    unfolding detect_lost_packets plan_losses
    losses-view =
        then-then (λ l. Ok (detection bytes l)) (loss_delay rtt o.time_thresh) _ _ λ d x.
        rw (split-loss (judge d) from records fresh, length-queue m n 1 q.lost_ack)
        (stopped d (seek_from (judge d) (acked_place m n q fs) from q.len q.lost_ack e.in_flight_count) refl)

-- what is learnt of a detection that ends
pub record Ends (m : List ℕ) (n : ℕ) (q : SpaceState) (fs : List Bool) (now : Moment) (smoothed : Span) (from : ℕ) (l : Losses) : Type 0 where
  pub handles : l.tally.queued ≡ q.lost_ack + length (gone_handles m n q.head fs from l.stop)
  pub room : q.lost_ack ≤ capacity → l.tally.queued ≤ capacity
  pub from-stop : from ≤ l.stop
  pub stop-len : l.stop ≤ q.len
  pub from-keep : from ≤ l.keep
  pub keep-len : l.keep ≤ q.len
  -- draining again changes nothing
  pub still : drained now smoothed (ring (settled_place m n q fs l.stop now) l.keep (q.len - l.keep)) ≡ ring (settled_place m n q fs l.stop now) l.keep (q.len - l.keep)

module _ (m : List ℕ) (n : ℕ) (q : SpaceState) (fs : List Bool) (now : Moment) (rtt : Rtt) (o : Reordering) (largest : Option ℕ) (in_flight from : ℕ) (le : from ≤ q.len) where
  abbrev judging : Span → Judge
  judging d = record { now = now; delay = d; threshold = o.pkt_thresh; largest = or_zero largest }

  ends_at : (d : Span) (f : Stop) → seek_from (judging d) (acked_place m n q fs) from q.len q.lost_ack in_flight ≡ Ok f →
      Ends m n q fs now rtt.smoothed_rtt from
      (record {
        tally = f.tally;
        stop = f.place;
        loss_time = f.loss_time;
        keep = drained_to now rtt.smoothed_rtt (settled_place m n q fs f.place now) from q.len;
      })
  ends_at d f e =
      let dr = drained-to now rtt.smoothed_rtt (settled_place m n q fs f.place now) q.len from le in
      record {
        handles = seek-handles (judging d) (acked_place m n q fs) from q.len q.lost_ack in_flight f e le;
        room = seek-room (judging d) (acked_place m n q fs) from q.len q.lost_ack in_flight f e le;
        from-stop = seek-from (judging d) (acked_place m n q fs) from q.len q.lost_ack in_flight f e le;
        stop-len = seek-to (judging d) (acked_place m n q fs) from q.len q.lost_ack in_flight f e le;
        from-keep = dr.from;
        keep-len = dr.to;
        still = rw (← dr.left) (drained-twice now rtt.smoothed_rtt _);
      }

  pub ends : (l : Losses) → plan_losses m n q fs now rtt o largest in_flight from ≡ Ok l → Ends m n q fs now rtt.smoothed_rtt from l
  unfolding plan_losses
  ends l = go (loss_delay rtt o.time_thresh)
    where
      stops : (d : Span) (x : Result Stop Refusal) → seek_from (judging d) (acked_place m n q fs) from q.len q.lost_ack in_flight ≡ x →
          then x
          (λ f.
          Ok
          (record {
            tally = f.tally;
            stop = f.place;
            loss_time = f.loss_time;
            keep = drained_to now rtt.smoothed_rtt (settled_place m n q fs f.place now) from q.len;
          }))
          ≡ Ok l →
          Ends m n q fs now rtt.smoothed_rtt from l
      stops d (Ok f) e y = let z : ◌≡◌ {A = Losses} (record { tally = f.tally; stop = f.place; loss_time = f.loss_time; keep = drained_to now rtt.smoothed_rtt (settled_place m n q fs f.place now) from q.len }) l = cc in
          subst (Ends m n q fs now rtt.smoothed_rtt from) z (ends_at d f e)
      stops d (Err k) e y = absurd (let z : ◌≡◌ {A = ℕ} 0 1 = cc in let w : ⊥ = omega arith in w)

      go : (x : Result Span Refusal) →
          then x
          (λ d.
          then (seek_from (judging d) (acked_place m n q fs) from q.len q.lost_ack in_flight)
          (λ f.
          Ok
          (record {
            tally = f.tally;
            stop = f.place;
            loss_time = f.loss_time;
            keep = drained_to now rtt.smoothed_rtt (settled_place m n q fs f.place now) from q.len;
          })))
          ≡ Ok l →
          Ends m n q fs now rtt.smoothed_rtt from l
      go (Ok d) y = stops d (seek_from (judging d) (acked_place m n q fs) from q.len q.lost_ack in_flight) refl y
      go (Err k) y = absurd (let z : ◌≡◌ {A = ℕ} 0 1 = cc in let w : ⊥ = omega arith in w)

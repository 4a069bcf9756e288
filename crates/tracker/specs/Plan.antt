-- What an acknowledgement decides, told from the words as they are. Definitions that serve the proofs: proofs/Acks.antt shows that carrying such a plan out is
-- model's acknowledgement on what the words and the state stand for.
use Rattle.std.specs.Prelude.{ℕ, ◌+◌, ◌-◌, ◌%◌, Bool, false, cond, ◌&&◌, List, [], ◌∷◌, ◌++◌, eqb, Result, Ok, Err, Option, Some, None}
use Rattle.arith.specs.Time.{since_of}
use Rattle.arith.specs.declared.time.Moment.{Moment}
use Rattle.arith.specs.declared.time.Span.{Span}
use Rattle.arith.specs.Refusals.{then}
use Rattle.model.specs.Numbers.{or_zero, capacity}
use Rattle.model.specs.Rtt.{rtt_update}
use Rattle.model.specs.Ranges.{largest_for}
use Rattle.model.specs.Ack.{reordered}
use Rattle.model.specs.Loss.{loss_delay}
use Rattle.model.specs.Timer.{timer_of}
use Rattle.model.specs.Control.{Move, control, forgive_by, lose_by, ack_each, count}
use Rattle.model.specs.Connection.{Connection, with_timer}
use Rattle.model.specs.Events.{Step, epoch_acked, epoch_detected, stored_largest, shared_acked, outcome}
use Rattle.model.specs.declared.Congestion.{Congestion}
use Rattle.model.specs.declared.Epoch.{Epoch}
use Rattle.model.specs.declared.HandshakeStatus.{HandshakeStatus}
use Rattle.model.specs.declared.Reordering.{Reordering}
use Rattle.model.specs.declared.Rtt.{Rtt}
use Rattle.model.specs.declared.Sent.{Sent}
use Rattle.model.specs.declared.Shared.{Shared}
use Rattle.records.specs.View.{ring}
use Rattle.marks.specs.Marks.{flagged, held_at, acked_at, settled_at, newly_of}
use Rattle.marks.specs.Survey.{survey}
use Rattle.acks.specs.Fitted.{fitted}
use Rattle.losses.specs.Drain.{drained_to}
use Rattle.losses.specs.Seek.{seek_from}
use Rattle.marks.specs.declared.Tally.{Tally}
use Rattle.marks.specs.declared.Stop.{Stop}
use Rattle.connection.specs.View.{with_space_state}
use Rattle.connection.specs.Steps.{facts_state}
use Rattle.connection.specs.declared.SpaceState.{SpaceState}
use Rattle.connection.specs.declared.State.{State}
use Rattle.tracker.specs.declared.Losses.{Losses}
use Rattle.tracker.specs.declared.Plan.{Plan}
use Rattle.arith.specs.declared.refusal.Refusal.{Refusal}

abbrev pub start_tally : SpaceState → Tally
start_tally q =
    record {
      queued = q.acked;
      newly = 0;
      last = 0;
      eliciting = false;
      acked_bytes = 0;
      in_flight = q.epoch.in_flight_count;
      spurious = 0;
      distance = None;
      spurious_in_flight = false;
    }

-- the space's state once the records before place `keep` have left
abbrev pub kept_space : SpaceState → ℕ → ℕ → ℕ → Epoch → SpaceState
kept_space q keep acked lost_ack epoch =
    record { head = (q.head + keep) % capacity; len = q.len - keep; acked = acked; lost_ack = lost_ack; lost_pto = q.lost_pto; epoch = epoch }

-- model's `sampled`, with whether a newly acked packet is eliciting
unfoldable pub sampled_by : Moment → Span → HandshakeStatus → Option ℕ → Sent → Bool → Rtt → Result Rtt Refusal
sampled_by now delay status old last eliciting rtt =
    cond (eqb last.number (stored_largest old last) && eliciting) (rtt_update rtt (since_of now last.time_sent) delay status.completed) (Ok rtt)

-- what is shared, where nothing is newly acked
abbrev pub shared_nothing : Moment → Reordering → Congestion → Shared → Shared
shared_nothing now o g s =
    record {
      clock = now;
      loss_timer = s.loss_timer;
      pto_count = s.pto_count;
      rtt = s.rtt;
      reordering = o;
      bytes_in_flight = s.bytes_in_flight;
      max_datagram_size = s.max_datagram_size;
      outstanding_non_ack_eliciting = s.outstanding_non_ack_eliciting;
      congestion = g;
    }

-- step 4
unfoldable pub plan_nothing : SpaceState → Moment → Tally → Reordering → ℕ → Shared → Result Plan Refusal
plan_nothing q now t o from s =
    then (control (forgive_by t.spurious_in_flight) s.congestion) λ g.
    Ok
    (record {
      space = kept_space q from t.queued q.lost_ack (epoch_acked t.in_flight q.epoch.largest_acked_packet q.epoch);
      shared = shared_nothing now o g s;
      outcome = outcome 0 0 0 0;
      from = from;
      stop = from;
      keep = from;
    })

abbrev pub space_planned : SpaceState → Tally → Option ℕ → Losses → SpaceState
space_planned q t largest l =
    kept_space q l.keep t.queued l.tally.queued
    (epoch_detected l.tally.in_flight l.loss_time (epoch_acked t.in_flight largest q.epoch))

-- step 6: the timer comes last
unfoldable pub plan_timed : ℕ → SpaceState → Moment → HandshakeStatus → Rtt → Reordering → Tally → Option ℕ → Losses → ℕ → Congestion → State → Result Plan Refusal
plan_timed n q now status rtt o t largest l from g s =
    let space = space_planned q t largest l in
    let shared = shared_acked now rtt o (s.shared.bytes_in_flight - l.tally.bytes - l.tally.probe_bytes - t.acked_bytes) g s.shared in
    then (timer_of (facts_state now status (with_space_state n space shared s))) λ time.
    Ok
    (record {
      space = space;
      shared = with_timer time shared;
      outcome = outcome l.tally.packets l.tally.bytes t.acked_bytes t.spurious;
      from = from;
      stop = l.stop;
      keep = l.keep;
    })

-- ---- space n with state q, its counts in their ranges; the records in the ranges are flagged by fs
module _ (m : List ℕ) (n : ℕ) (q : SpaceState) (fs : List Bool) where
  abbrev pub flags : List Bool
  flags = ring (flagged fs) 0 q.len

  abbrev pub held : List Sent
  held = ring (held_at m n q.head) 0 q.len

  -- the record at a place after step 1, and after a detection that stops at `stop`
  abbrev pub acked_place : ℕ → Sent
  acked_place = acked_at m n q.head fs

  abbrev pub settled_place : ℕ → Moment → ℕ → Sent
  settled_place stop now = settled_at m n q.head fs stop now

  -- the first record left by step 2
  abbrev pub first_left : Moment → Span → ℕ
  first_left now smoothed = drained_to now smoothed acked_place 0 q.len

  -- where a detection from place `from` on that stopped leaves the space
  abbrev pub ends_of : Moment → Rtt → ℕ → Stop → Losses
  ends_of now rtt from f =
      record {
        tally = f.tally;
        stop = f.place;
        loss_time = f.loss_time;
        keep = drained_to now rtt.smoothed_rtt (settled_place f.place now) from q.len;
      }

  -- losses among the records from place `from` on
  unfoldable pub plan_losses : Moment → Rtt → Reordering → Option ℕ → ℕ → ℕ → Result Losses Refusal
  plan_losses now rtt o largest in_flight from =
      then (loss_delay rtt o.time_thresh) λ delay.
      then
      (seek_from (record { now = now; delay = delay; threshold = o.pkt_thresh; largest = or_zero largest }) acked_place from q.len q.lost_ack in_flight) λ f.
      Ok (ends_of now rtt from f)

  -- what the controller is told in step 6
  abbrev pub moves_of : Moment → Bool → Span → Tally → Losses → List Move
  moves_of now limited min_rtt t l =
      forgive_by t.spurious_in_flight
      ++ ((lose_by now l.tally.last ++ (count l.tally.packets ∷ [])) ++ ack_each now limited min_rtt (newly_of flags held))

  -- what is left of step 6 once the losses are known
  abbrev pub plan_moved : Moment → HandshakeStatus → Bool → Rtt → Reordering → Tally → Option ℕ → Losses → ℕ → State → Result Plan Refusal
  plan_moved now status limited rtt o t largest l from s =
      then (control (moves_of now limited rtt.min_rtt t l) s.shared.congestion) λ g.
      plan_timed n q now status rtt o t largest l from g s

  -- steps 5 and 6; `last` is the largest newly acked
  unfoldable pub plan_some : Moment → Span → HandshakeStatus → Bool → Tally → Sent → Reordering → ℕ → State → Result Plan Refusal
  plan_some now delay status limited t last o from s =
      let old = q.epoch.largest_acked_packet in
      let largest = Some (stored_largest old last) in
      then (sampled_by now delay status old last t.eliciting s.shared.rtt) λ rtt.
      then (plan_losses now rtt o largest t.in_flight from) λ l.
      plan_moved now status limited rtt o t largest l from s

  -- steps 2 to 6, once step 1 is known
  abbrev pub plan_met : Moment → Span → HandshakeStatus → Bool → State → Tally → Result Plan Refusal
  plan_met now delay status limited s t =
      then (reordered t.distance t.spurious s.shared.reordering) λ o.
      let from = first_left now s.shared.rtt.smoothed_rtt in
      cond (eqb t.newly 0) (plan_nothing q now t o from s.shared) (plan_some now delay status limited t (held_at m n q.head t.last) o from s)

  -- steps 1 to 6
  unfoldable pub plan_ack : Moment → List ℕ → Span → HandshakeStatus → Bool → State → Result Plan Refusal
  plan_ack now words delay status limited s =
      then (fitted (survey (largest_for q.epoch.largest_acked_packet words) 0 flags held (start_tally q)))
      (plan_met now delay status limited s)

-- an event's step as an outsider sees it: without what the controller was told
pub record Shown (A : Type 0) : Type 0 where
  pub state : Connection
  pub answer : A

abbrev pub shown : {A : Type 0} → Result (Step A) Refusal → Result (Shown A) Refusal
shown (Ok x) = Ok (record { state = x.state; answer = x.answer })
shown (Err n) = Err n

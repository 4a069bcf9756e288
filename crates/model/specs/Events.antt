-- Each event: from a connection to a refusal, or to the connection after it with its answer. 01, all sections; the refusals in the table's order. Definitions only.
use Rattle.std.specs.Prelude.{ℕ, ◌+◌, ◌-◌, max, min, Bool, true, false, cond, ◌&&◌, ◌||◌, not, List, [], ◌∷◌, ◌++◌, leb, ltb, eqb, length, Result, Ok, Err, Option, Some, None}
use Rattle.arith.specs.Whole.{within, sum_of, times_of}
use Rattle.arith.specs.Time.{span, since_of}
use Rattle.arith.specs.declared.time.Moment.{Moment}
use Rattle.arith.specs.declared.time.Span.{Span}
use Rattle.arith.specs.Refusals.{then, must}
use Rattle.model.specs.Numbers.{on_clock, is_space, is_number, is_size, is_datagram_size, capacity, or_zero}
use Rattle.model.specs.Rtt.{rtt_update}
use Rattle.model.specs.Ranges.{are_ranges, hold_skipped, is_skipped, largest_for}
use Rattle.model.specs.Sent.{sent_now, drained, newest, rest, covered}
use Rattle.model.specs.Ack.{Met, meet_all, reordered}
use Rattle.model.specs.Loss.{loss_delay, detect}
use Rattle.model.specs.Timer.{loss_time_and_space, probe_space, probe_handles}
use Rattle.model.specs.Control.{Move, control, forgive_by, lose_by, ack_each, count, resize}
use Rattle.model.specs.Connection.{Space, Connection, space_at, with_space, with_shared, facts_of, timed, outstanding}
use Rattle.model.specs.declared.Congestion.{Congestion}
use Rattle.model.specs.declared.Epoch.{Epoch}
use Rattle.model.specs.declared.HandshakeStatus.{HandshakeStatus}
use Rattle.model.specs.declared.OnAckReceivedOutcome.{OnAckReceivedOutcome}
use Rattle.model.specs.declared.OnLossDetectionTimeoutOutcome.{OnLossDetectionTimeoutOutcome}
use Rattle.model.specs.declared.Packet.{Packet}
use Rattle.arith.specs.declared.refusal.Refusal.TheVariants.{Clock, Domain, Stale, Ranges, Skipped, Full, TooLarge}
use Rattle.model.specs.declared.Reordering.{Reordering}
use Rattle.model.specs.declared.Rtt.{Rtt}
use Rattle.model.specs.declared.Sent.{Sent}
use Rattle.model.specs.declared.Shared.{Shared}
use Rattle.arith.specs.declared.refusal.Refusal.{Refusal}

-- an accepted event: the connection after it, its answer, and what the controller was told
pub record Step (A : Type 0) : Type 0 where
  pub state : Connection
  pub answer : A
  pub moves : List Move

-- ---- sent. 01 'Timer and PTO (000)': send goes as 000 shows

-- refusal 3: a number not above the last sent in that space, even after a discard
unfoldable pub is_newer : Option ℕ → ℕ → Bool
is_newer None n = true
is_newer (Some last) n = ltb last n

-- refusal 2: space, size or number outside its range; a PMTUD probe not in flight
unfoldable pub is_packet : ℕ → Packet → Bool
is_packet n p = is_space n && (is_size p.size && (is_number p.number && (not p.is_pmtud_probe || p.in_flight)))

-- the run of non-eliciting packets; refusal 7: its count
abbrev pub run_after : Bool → ℕ → (ℕ → Result (Step ℕ) Refusal) → Result (Step ℕ) Refusal
run_after true run k = k 0
run_after false run k = then (sum_of run 1) k

abbrev pub epoch_sent : Moment → Packet → ℕ → Epoch → Epoch
epoch_sent now p in_flight e =
    record {
      time_of_last_ack_eliciting_packet = cond (p.in_flight && p.ack_eliciting) (Some now) e.time_of_last_ack_eliciting_packet;
      largest_acked_packet = e.largest_acked_packet;
      loss_time = e.loss_time;
      loss_probes = e.loss_probes;
      in_flight_count = in_flight;
      largest_sent_packet = Some p.number;
    }

abbrev pub space_sent : Moment → Packet → ℕ → Space → Space
space_sent now p in_flight s =
    record {
      records = s.records ++ (sent_now now p ∷ []);
      acked_frames = s.acked_frames;
      lost_frames_ack = s.lost_frames_ack;
      lost_frames_pto = s.lost_frames_pto;
      epoch = epoch_sent now p in_flight s.epoch;
    }

abbrev pub shared_sent : Moment → ℕ → ℕ → Shared → Shared
shared_sent now run bytes s =
    record {
      clock = now;
      loss_timer = s.loss_timer;
      pto_count = s.pto_count;
      rtt = s.rtt;
      reordering = s.reordering;
      bytes_in_flight = bytes;
      max_datagram_size = s.max_datagram_size;
      outstanding_non_ack_eliciting = run;
      congestion = s.congestion;
    }

-- in flight: the space's count, the bytes and the timer
unfoldable pub sent_in_flight : Moment → ℕ → Packet → HandshakeStatus → ℕ → Connection → Result (Step ℕ) Refusal
sent_in_flight now n p status run c =
    then (sum_of (space_at n c).epoch.in_flight_count 1) λ in_flight.
    then (sum_of c.shared.bytes_in_flight p.size) λ bytes.
    then (timed now status (with_shared (shared_sent now run bytes c.shared) (with_space n (space_sent now p in_flight (space_at n c)) c))) λ d.
    Ok (record { state = d; answer = 0; moves = [] })

unfoldable pub sent_aside : Moment → ℕ → Packet → ℕ → Connection → Result (Step ℕ) Refusal
sent_aside now n p run c =
    Ok
    (record {
      state = with_shared (shared_sent now run c.shared.bytes_in_flight c.shared)
          (with_space n (space_sent now p (space_at n c).epoch.in_flight_count (space_at n c)) c);
      answer = 0;
      moves = [];
    })

-- refusal 6: 256 records stand in the space when one is sent
unfoldable pub on_packet_sent : Moment → ℕ → Packet → HandshakeStatus → Connection → Result (Step ℕ) Refusal
on_packet_sent now n p status c =
    must (on_clock c.shared.clock now) Clock
    (must (is_packet n p) Domain
    (must (is_newer (space_at n c).epoch.largest_sent_packet p.number) Stale
    (must (ltb (length (space_at n c).records) capacity) Full
    (run_after p.ack_eliciting c.shared.outstanding_non_ack_eliciting λ run.
    cond p.in_flight (sent_in_flight now n p status run c) (sent_aside now n p run c)))))

-- ---- loss detection in a space. 01 'Lost or not'

pub record Detection : Type 0 where
  pub space : Space
  -- bytes in flight after it
  pub bytes : ℕ
  pub packets : ℕ
  pub lost_bytes : ℕ
  pub moves : List Move

abbrev pub epoch_detected : ℕ → Option Moment → Epoch → Epoch
epoch_detected in_flight loss_time e =
    record {
      time_of_last_ack_eliciting_packet = e.time_of_last_ack_eliciting_packet;
      largest_acked_packet = e.largest_acked_packet;
      loss_time = loss_time;
      loss_probes = e.loss_probes;
      in_flight_count = in_flight;
      largest_sent_packet = e.largest_sent_packet;
    }

-- up to the stored largest; the congestion event, then the lost count; after detection the space is drained
unfoldable pub detect_lost_packets : Moment → Rtt → Reordering → ℕ → Space → Result Detection Refusal
detect_lost_packets now rtt o bytes s =
    then (loss_delay rtt o.time_thresh) λ delay.
    then
    (detect (record { now = now; delay = delay; threshold = o.pkt_thresh; largest = or_zero s.epoch.largest_acked_packet }) s.records
    (record { queue = s.lost_frames_ack; packets = 0; bytes = 0; probe_bytes = 0; in_flight = s.epoch.in_flight_count; last = None })) λ d.
    Ok
    (record {
      space = record {
        records = drained now rtt.smoothed_rtt d.records;
        acked_frames = s.acked_frames;
        lost_frames_ack = d.lost.queue;
        lost_frames_pto = s.lost_frames_pto;
        epoch = epoch_detected d.lost.in_flight d.loss_time s.epoch;
      };
      bytes = bytes - d.lost.bytes - d.lost.probe_bytes;
      packets = d.lost.packets;
      lost_bytes = d.lost.bytes;
      moves = lose_by now d.lost.last ++ (count d.lost.packets ∷ []);
    })

-- ---- acknowledgement. 01 'Acknowledgement (000)'

-- some newly acked packet is eliciting
unfoldable pub any_eliciting : List Sent → Bool
any_eliciting [] = false
any_eliciting (r ∷ l) = r.ack_eliciting || any_eliciting l

-- 5. stored largest = max(old or 0, largest newly acked)
abbrev pub stored_largest : Option ℕ → Sent → ℕ
stored_largest old last = max (or_zero old) last.number

-- 5. RTT sample only if that one is newly acked and some newly acked packet is eliciting
unfoldable pub sampled : Moment → Span → HandshakeStatus → Option ℕ → Sent → List Sent → Rtt → Result Rtt Refusal
sampled now delay status old last newly rtt =
    cond (eqb last.number (stored_largest old last) && any_eliciting newly)
    (rtt_update rtt (since_of now last.time_sent) delay status.completed)
    (Ok rtt)

abbrev pub epoch_acked : ℕ → Option ℕ → Epoch → Epoch
epoch_acked in_flight largest e =
    record {
      time_of_last_ack_eliciting_packet = e.time_of_last_ack_eliciting_packet;
      largest_acked_packet = largest;
      loss_time = e.loss_time;
      loss_probes = e.loss_probes;
      in_flight_count = in_flight;
      largest_sent_packet = e.largest_sent_packet;
    }

-- the space after steps 1 and 2
abbrev pub space_acked : List Sent → Met → Option ℕ → Space → Space
space_acked records m largest s =
    record {
      records = records;
      acked_frames = m.queue;
      lost_frames_ack = s.lost_frames_ack;
      lost_frames_pto = s.lost_frames_pto;
      epoch = epoch_acked m.in_flight largest s.epoch;
    }

abbrev pub outcome : ℕ → ℕ → ℕ → ℕ → OnAckReceivedOutcome
outcome lost_packets lost_bytes acked_bytes spurious =
    record { lost_packets = lost_packets; lost_bytes = lost_bytes; acked_bytes = acked_bytes; spurious_losses = spurious }

-- 4. nothing newly acked: four zeros, even after spurious losses; timer and PTO count stay
unfoldable pub acked_nothing : Moment → ℕ → List Sent → Met → Reordering → Connection → Result (Step OnAckReceivedOutcome) Refusal
acked_nothing now n records m o c =
    let moves = forgive_by m.spurious_in_flight in
    then (control moves c.shared.congestion) λ g.
    Ok
    (record {
      state = with_shared
          (record {
            clock = now;
            loss_timer = c.shared.loss_timer;
            pto_count = c.shared.pto_count;
            rtt = c.shared.rtt;
            reordering = o;
            bytes_in_flight = c.shared.bytes_in_flight;
            max_datagram_size = c.shared.max_datagram_size;
            outstanding_non_ack_eliciting = c.shared.outstanding_non_ack_eliciting;
            congestion = g;
          })
          (with_space n (space_acked records m (space_at n c).epoch.largest_acked_packet (space_at n c)) c);
      answer = outcome 0 0 0 0;
      moves = moves;
    })

abbrev pub shared_acked : Moment → Rtt → Reordering → ℕ → Congestion → Shared → Shared
shared_acked now rtt o bytes g s =
    record {
      clock = now;
      loss_timer = s.loss_timer;
      pto_count = 0;
      rtt = rtt;
      reordering = o;
      bytes_in_flight = bytes;
      max_datagram_size = s.max_datagram_size;
      outstanding_non_ack_eliciting = s.outstanding_non_ack_eliciting;
      congestion = g;
    }

abbrev pub drained_again : Moment → Rtt → Space → Space
drained_again now rtt s =
    record {
      records = drained now rtt.smoothed_rtt s.records;
      acked_frames = s.acked_frames;
      lost_frames_ack = s.lost_frames_ack;
      lost_frames_pto = s.lost_frames_pto;
      epoch = s.epoch;
    }

-- 6. detect losses, then CUBIC per acked packet in order, subtract acked bytes, PTO count 0, timer, drain; `last` is the largest newly acked
unfoldable pub acked_some : Moment → ℕ → Span → HandshakeStatus → Bool → List Sent → Met → Sent → Reordering → Connection → Result (Step OnAckReceivedOutcome) Refusal
acked_some now n delay status limited records m last o c =
    let old = (space_at n c).epoch.largest_acked_packet in
    then (sampled now delay status old last m.newly c.shared.rtt) λ rtt.
    then (detect_lost_packets now rtt o c.shared.bytes_in_flight (space_acked records m (Some (stored_largest old last)) (space_at n c))) λ d.
    let moves = forgive_by m.spurious_in_flight ++ (d.moves ++ ack_each now limited rtt.min_rtt m.newly) in
    then (control moves c.shared.congestion) λ g.
    then (timed now status (with_shared (shared_acked now rtt o (d.bytes - m.acked_bytes) g c.shared) (with_space n d.space c))) λ e.
    Ok
    (record {
      state = with_space n (drained_again now rtt (space_at n e)) e;
      answer = outcome d.packets d.lost_bytes m.acked_bytes m.spurious;
      moves = moves;
    })

-- by the newly acked, the largest of which is the last
unfoldable pub acked_by : List Sent → Moment → ℕ → Span → HandshakeStatus → Bool → List Sent → Met → Reordering → Connection → Result (Step OnAckReceivedOutcome) Refusal
acked_by [] now n delay status limited records m o c = acked_nothing now n records m o c
acked_by (r ∷ []) now n delay status limited records m o c = acked_some now n delay status limited records m r o c
acked_by (r ∷ (s ∷ l)) now n delay status limited records m o c = acked_by (s ∷ l) now n delay status limited records m o c

-- 1. the records in the ranges; 2. drain; 3. any spurious
unfoldable pub acknowledge : Moment → ℕ → List ℕ → Span → HandshakeStatus → Bool → Connection → Result (Step OnAckReceivedOutcome) Refusal
acknowledge now n words delay status limited c =
    let s = space_at n c in
    then
    (meet_all (largest_for s.epoch.largest_acked_packet words) (covered words s.records) s.records
    (record {
      queue = s.acked_frames;
      newly = [];
      acked_bytes = 0;
      in_flight = s.epoch.in_flight_count;
      spurious = 0;
      distance = None;
      spurious_in_flight = false;
    })) λ a.
    then (reordered a.met.distance a.met.spurious c.shared.reordering) λ o.
    acked_by a.met.newly now n delay status limited (drained now c.shared.rtt.smoothed_rtt a.records) a.met o c

-- the ack's delay is in microseconds: refusal 7 always, uncapped
unfoldable pub on_ack_received : Moment → ℕ → List ℕ → ℕ → HandshakeStatus → Bool → Option ℕ → Connection → Result (Step OnAckReceivedOutcome) Refusal
on_ack_received now n words delay status limited skipped c =
    must (on_clock c.shared.clock now) Clock
    (must (is_space n && is_skipped skipped) Domain
    (must (are_ranges words) Ranges
    (must (not (hold_skipped words skipped)) Skipped
    (then (times_of 1000 delay) λ ns. acknowledge now n words (span ns) status limited c))))

-- ---- timeout. 01 'Timer and PTO (000)'

abbrev pub timeout_outcome : ℕ → ℕ → OnLossDetectionTimeoutOutcome
timeout_outcome packets bytes = record { lost_packets = packets; lost_bytes = bytes }

abbrev pub shared_timeout : Moment → ℕ → ℕ → Congestion → Shared → Shared
shared_timeout now pto_count bytes g s =
    record {
      clock = now;
      loss_timer = s.loss_timer;
      pto_count = pto_count;
      rtt = s.rtt;
      reordering = s.reordering;
      bytes_in_flight = bytes;
      max_datagram_size = s.max_datagram_size;
      outstanding_non_ack_eliciting = s.outstanding_non_ack_eliciting;
      congestion = g;
    }

-- a timeout with a loss time detects losses in its space, then sets the timer
unfoldable pub timeout_loss : Moment → ℕ → HandshakeStatus → Connection → Result (Step OnLossDetectionTimeoutOutcome) Refusal
timeout_loss now n status c =
    then (detect_lost_packets now c.shared.rtt c.shared.reordering c.shared.bytes_in_flight (space_at n c)) λ d.
    then (control d.moves c.shared.congestion) λ g.
    then (timed now status (with_shared (shared_timeout now c.shared.pto_count d.bytes g c.shared) (with_space n d.space c))) λ e.
    Ok (record { state = e; answer = timeout_outcome d.packets d.lost_bytes; moves = d.moves })

-- refusal 7: the PTO count passes 2^32-1
abbrev pub reach_count : ℕ → (ℕ → Result (Step OnLossDetectionTimeoutOutcome) Refusal) → Result (Step OnLossDetectionTimeoutOutcome) Refusal
reach_count n k = cond (leb n 4294967295) (k n) (Err TooLarge)

-- if its PTO queue is empty, it queues handles of that many oldest data packets
unfoldable pub probe_queue : ℕ → Space → Result (List ℕ) Refusal
probe_queue probes s = by s.lost_frames_pto
  where
    by : List ℕ → Result (List ℕ) Refusal
    by [] = probe_handles probes s.records []
    by (h ∷ q) = Ok (h ∷ q)

abbrev pub space_probed : ℕ → List ℕ → Space → Space
space_probed probes q s =
    record {
      records = s.records;
      acked_frames = s.acked_frames;
      lost_frames_ack = s.lost_frames_ack;
      lost_frames_pto = q;
      epoch = record {
        time_of_last_ack_eliciting_packet = s.epoch.time_of_last_ack_eliciting_packet;
        largest_acked_packet = s.epoch.largest_acked_packet;
        loss_time = s.epoch.loss_time;
        loss_probes = probes;
        in_flight_count = s.epoch.in_flight_count;
        largest_sent_packet = s.epoch.largest_sent_packet;
      };
    }

-- one without raises the PTO count and grants min(count, 2) probes to the chosen space, then sets the timer
unfoldable pub timeout_probe : Moment → HandshakeStatus → Connection → Result (Step OnLossDetectionTimeoutOutcome) Refusal
timeout_probe now status c =
    then (probe_space (facts_of now status c)) λ n.
    reach_count (c.shared.pto_count + 1) λ pto_count.
    let probes = min pto_count 2 in
    then (probe_queue probes (space_at n c)) λ q.
    then
    (timed now status
    (with_shared (shared_timeout now pto_count c.shared.bytes_in_flight c.shared.congestion c.shared)
    (with_space n (space_probed probes q (space_at n c)) c))) λ e.
    Ok (record { state = e; answer = timeout_outcome 0 0; moves = [] })

unfoldable pub timeout_by : Option Moment → ℕ → Moment → HandshakeStatus → Connection → Result (Step OnLossDetectionTimeoutOutcome) Refusal
timeout_by (Some t) n now status c = timeout_loss now n status c
timeout_by None n now status c = timeout_probe now status c

unfoldable pub on_loss_detection_timeout : Moment → HandshakeStatus → Connection → Result (Step OnLossDetectionTimeoutOutcome) Refusal
on_loss_detection_timeout now status c =
    must (on_clock c.shared.clock now) Clock
    (let earliest = loss_time_and_space c.initial.epoch c.handshake.epoch c.application.epoch in
    timeout_by earliest.time earliest.space now status c)

-- ---- discard. 01 'Timer and PTO (000)': discard goes as 000 shows; largest acked, PTO count and the run stay

abbrev pub space_discarded : Space → Space
space_discarded s =
    record {
      records = [];
      acked_frames = [];
      lost_frames_ack = [];
      lost_frames_pto = [];
      epoch = record {
        time_of_last_ack_eliciting_packet = None;
        largest_acked_packet = s.epoch.largest_acked_packet;
        loss_time = None;
        loss_probes = 0;
        in_flight_count = 0;
        largest_sent_packet = s.epoch.largest_sent_packet;
      };
    }

unfoldable pub on_space_discarded : Moment → ℕ → HandshakeStatus → Connection → Result (Step ℕ) Refusal
on_space_discarded now n status c =
    must (on_clock c.shared.clock now) Clock
    (must (is_space n) Domain
    (then (within (outstanding (space_at n c).records)) λ bytes.
    then
    (timed now status
    (with_shared (shared_timeout now c.shared.pto_count (c.shared.bytes_in_flight - bytes) c.shared.congestion c.shared)
    (with_space n (space_discarded (space_at n c)) c))) λ e.
    Ok (record { state = e; answer = 0; moves = [] })))

-- ---- size change

unfoldable pub on_size_change : ℕ → Connection → Result (Step ℕ) Refusal
on_size_change size c =
    must (is_datagram_size size) Domain
    (let moves = resize c.shared.max_datagram_size size ∷ [] in
    then (control moves c.shared.congestion) λ g.
    Ok
    (record {
      state = with_shared
          (record {
            clock = c.shared.clock;
            loss_timer = c.shared.loss_timer;
            pto_count = c.shared.pto_count;
            rtt = c.shared.rtt;
            reordering = c.shared.reordering;
            bytes_in_flight = c.shared.bytes_in_flight;
            max_datagram_size = size;
            outstanding_non_ack_eliciting = c.shared.outstanding_non_ack_eliciting;
            congestion = g;
          })
          c;
      answer = 0;
      moves = moves;
    }))

-- ---- taking handles, and a ping

abbrev pub with_queues : List ℕ → List ℕ → List ℕ → Space → Space
with_queues acked ack pto s = record { records = s.records; acked_frames = acked; lost_frames_ack = ack; lost_frames_pto = pto; epoch = s.epoch }

-- last in first out; taking from an empty queue yields handle 0
unfoldable pub next_acked_frame : ℕ → Connection → Result (Step ℕ) Refusal
next_acked_frame n c =
    must (is_space n) Domain
    (let s = space_at n c in
    Ok (record { state = with_space n (with_queues (rest s.acked_frames) s.lost_frames_ack s.lost_frames_pto s) c; answer = newest s.acked_frames; moves = [] }))

-- ACK losses before PTO ones
unfoldable pub taken_lost : List ℕ → ℕ → Space → Connection → Step ℕ
taken_lost [] n s c =
    record { state = with_space n (with_queues s.acked_frames [] (rest s.lost_frames_pto) s) c; answer = newest s.lost_frames_pto; moves = [] }
taken_lost (h ∷ q) n s c =
    record { state = with_space n (with_queues s.acked_frames (rest (h ∷ q)) s.lost_frames_pto s) c; answer = newest (h ∷ q); moves = [] }

unfoldable pub next_lost_frame : ℕ → Connection → Result (Step ℕ) Refusal
next_lost_frame n c = must (is_space n) Domain (Ok (taken_lost (space_at n c).lost_frames_ack n (space_at n c) c))

-- a ping takes one probe, not below 0
unfoldable pub ping_sent : ℕ → Connection → Result (Step ℕ) Refusal
ping_sent n c =
    must (is_space n) Domain
    (let s = space_at n c in
    Ok (record { state = with_space n (space_probed (s.epoch.loss_probes - 1) s.lost_frames_pto s) c; answer = 0; moves = [] }))

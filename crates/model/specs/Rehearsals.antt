-- 01 'Rehearsals': every row marked P, as rows of a single table under one claim about the definitions. Times in nanoseconds.
use Rattle.std.specs.Prelude.{ℕ, ◌+◌, ◌*◌, Bool, true, false, cond, ◌&&◌, not, List, [], ◌∷◌, ◌++◌, replicate, T, eqb, Result, Ok, Err, Option, Some, None, Float}
use Rattle.model.specs.Trace.{replay, printed}
use Rattle.std.specs.Float.{binary64}
use Rattle.std.specs.Float.Ieee.{to_bits, of_bits, add, sub, mul, div, of_int, to_unsigned, lt, le, eq}
use Rattle.arith.specs.Whole.{within, sum_of, times_of}
use Rattle.arith.specs.Time.{span, moment, span_sum_of, scaled_of, later_of}
use Rattle.arith.specs.Round.{float_of, nearest, product_of, seconds_of}
use Rattle.arith.specs.RootOf.{root_of}
use Rattle.arith.specs.declared.round.TimeThreshold.TheVariants.{NineEighths}
use Rattle.arith.specs.declared.time.Span.{Span}
use Rattle.arith.specs.Refusals.{then}
use Rattle.model.specs.Numbers.{on_clock, is_size, are_settings}
use Rattle.model.specs.Rtt.{rtt_fresh, rtt_update}
use Rattle.model.specs.Sent.{sent_now, covered, drained}
use Rattle.model.specs.Loss.{loss_delay, is_lost, detect}
use Rattle.model.specs.Timer.{pto_of, loss_time_and_space, timer_of}
use Rattle.model.specs.Cubic.{congestion_fresh, congestion_event, count_lost, rollback, packet_acked}
use Rattle.model.specs.Control.{Move, forgive, lose, count, ack, moved, control, ack_each}
use Rattle.model.specs.Connection.{Connection, fresh, space_fresh, epoch_fresh, shared_fresh, timed, facts_of, space_at, with_space}
use Rattle.model.specs.Ack.{meet_all, reordered}
use Rattle.model.specs.Events.{on_packet_sent, sent_in_flight, on_ack_received, acknowledge, acked_by, acked_some, sampled, any_eliciting, detect_lost_packets, is_packet, is_newer}
use Rattle.model.specs.Ranges.{are_ranges, largest_for, last_end}
use Rattle.model.specs.Run.{Event, sent, acked, step, after, run}
use Rattle.model.specs.declared.Congestion.{Congestion}
use Rattle.model.specs.declared.Epoch.{Epoch}
use Rattle.model.specs.declared.HandshakeStatus.{HandshakeStatus}
use Rattle.model.specs.declared.Packet.{Packet}
use Rattle.model.specs.declared.Rtt.{Rtt}
use Rattle.model.specs.declared.Settings.{Settings}
use Rattle.arith.specs.declared.time.Moment.{Moment}
use Rattle.arith.specs.declared.refusal.Refusal.{Refusal}

-- a sample: the round trip, the ack's delay, and whether the handshake is completed
pub record Sample : Type 0 where
  pub rtt : ℕ
  pub delay : ℕ
  pub completed : Bool

pub data Row : Type 0 where
  -- after these samples: smoothed, rttvar and PTO
  estimates : List Sample → ℕ → ℕ → ℕ → Row
  -- after these samples: the loss delay
  delay : List Sample → ℕ → Row
  -- number, largest, sent, now, delay: lost or not
  verdict : ℕ → ℕ → ℕ → ℕ → ℕ → Bool → Row
  -- after these moves: window and w_max
  windows : List Move → ℕ → ℕ → Row
  -- the loss times of the three spaces, and the one that goes before PTO
  earliest : Option Moment → Option Moment → Option Moment → Option Moment → Row
  -- a root's argument, and the root
  root : ℕ → ℕ → Row
  -- a trace's bytes, and the text that its replay on a fresh connection prints
  prints : List ℕ → List ℕ → Row
  -- after these events on a fresh connection: window, bytes in flight and timer
  shows : List Event → ℕ → ℕ → Option Moment → Row

-- the values that cases and replay use
unfoldable pub settings : Settings
settings = record { max_datagram_size = 1200; initial_window_packets = 10; initial_rtt = span 333000000; max_ack_delay = span 25000000 }

unfoldable pub estimate : Rtt → List Sample → Result Rtt Refusal
unfolding rtt_update within sum_of times_of span_sum_of
estimate r [] = Ok r
estimate r (s ∷ l) = then (rtt_update r (span s.rtt) (span s.delay) s.completed) λ q. estimate q l

abbrev pub is_span : ℕ → Result Span Refusal → Bool
is_span n (Ok s) = eqb s.0 n
is_span n (Err k) = false

abbrev pub with_rtt : Result Rtt Refusal → (Rtt → Bool) → Bool
with_rtt (Ok r) k = k r
with_rtt (Err n) k = false

unfoldable pub packet : ℕ → Packet
packet n = record { number = n; size = 1200; ack_eliciting = true; in_flight = true; has_data = true; is_pmtud_probe = false; handle = 0 }

abbrev pub same_bool : Bool → Bool → Bool
same_bool true b = b
same_bool false b = not b

abbrev pub is_time : Option Moment → Option Moment → Bool
is_time None None = true
is_time None (Some n) = false
is_time (Some m) None = false
is_time (Some m) (Some n) = eqb m.0 n.0

abbrev pub is_window : ℕ → ℕ → Result Congestion Refusal → Bool
is_window window w_max (Ok g) = eqb g.congestion_window window && eqb (to_bits binary64 g.cubic.w_max) (to_bits binary64 (float_of w_max))
is_window window w_max (Err n) = false

abbrev pub is_root : ℕ → Result Float Refusal → Bool
is_root n (Ok r) = eqb (to_bits binary64 r) (to_bits binary64 (float_of n))
is_root n (Err k) = false

-- the window, the bytes in flight and the timer, as a line of the replay has them
abbrev pub shown : ℕ → ℕ → Option Moment → Connection → Bool
shown window bytes timer c =
    eqb c.shared.congestion.congestion_window window && (eqb c.shared.bytes_in_flight bytes && is_time timer c.shared.loss_timer)

unfoldable pub shows_from : Result Connection Refusal → List Event → ℕ → ℕ → Option Moment → Bool
unfolding run
shows_from (Ok c) l window bytes timer = shown window bytes timer (run l c)
shows_from (Err n) l window bytes timer = false

abbrev pub epoch_with : Option Moment → Epoch
epoch_with t =
    record {
      time_of_last_ack_eliciting_packet = None;
      largest_acked_packet = None;
      loss_time = t;
      loss_probes = 0;
      in_flight_count = 0;
      largest_sent_packet = None;
    }

-- ---- the whole output: the trace's bytes, and the text that a replay prints

-- sent (0 ns, space 2, number 0, 1,200, flags 7, status 7), range 0 to 1, ack (100 ms, space 2, delay 0, status 7, not limited, none skipped)
unfoldable pub whole_trace : List ℕ
whole_trace =
    1 ∷ (replicate 8 0 ++ (2 ∷ (replicate 8 0 ++ (4 ∷ 176 ∷ 7 ∷ (replicate 8 0 ++ (7 ∷ []))))))
    ++ (2 ∷ (replicate 15 0 ++ (1 ∷ [])))
    ++ (3 ∷ (0 ∷ 0 ∷ 0 ∷ 0 ∷ 5 ∷ 245 ∷ 225 ∷ 0 ∷ 2 ∷ (replicate 8 0 ++ (7 ∷ 0 ∷ replicate 8 255))))

-- 1 0 12000 1200 1024000000
-- 3 0 13200 0 -
-- end 2
unfoldable pub whole_output : List ℕ
whole_output =
    49 ∷ 32 ∷ 48 ∷ 32 ∷ 49 ∷ 50 ∷ 48 ∷ 48 ∷ 48 ∷ 32 ∷ 49 ∷ 50 ∷ 48 ∷ 48 ∷ 32 ∷ 49 ∷ 48 ∷ 50 ∷ 52 ∷ 48 ∷ 48 ∷ 48 ∷ 48 ∷ 48 ∷ 48 ∷ 10
    ∷ 51 ∷ 32 ∷ 48 ∷ 32 ∷ 49 ∷ 51 ∷ 50 ∷ 48 ∷ 48 ∷ 32 ∷ 48 ∷ 32 ∷ 45 ∷ 10
    ∷ 101 ∷ 110 ∷ 100 ∷ 32 ∷ 50 ∷ 10 ∷ []

abbrev pub same_text : List ℕ → List ℕ → Bool
same_text [] [] = true
same_text [] (b ∷ l) = false
same_text (a ∷ k) [] = false
same_text (a ∷ k) (b ∷ l) = eqb a b && same_text k l

unfoldable pub prints_from : Result Connection Refusal → List ℕ → List ℕ → Bool
unfolding replay printed
prints_from (Ok c) bytes out = same_text (printed (replay bytes c)) out
prints_from (Err n) bytes out = false

unfoldable pub right : Row → Bool
unfolding settings estimate rtt_fresh pto_of within sum_of times_of span_sum_of scaled_of later_of nearest product_of loss_delay is_lost sent_now packet control moved congestion_fresh congestion_event count_lost rollback packet_acked loss_time_and_space root_of to_bits of_bits add sub mul div of_int to_unsigned lt le eq seconds_of shows_from prints_from fresh space_fresh epoch_fresh shared_fresh run after step on_packet_sent sent_in_flight on_ack_received acknowledge acked_by acked_some sampled any_eliciting detect_lost_packets timed facts_of timer_of space_at with_space on_clock is_packet is_newer is_size are_ranges are_settings largest_for last_end covered meet_all reordered drained detect ack_each
right (estimates l smoothed rttvar pto) =
    with_rtt (estimate (rtt_fresh settings) l) λ r. eqb r.smoothed_rtt.0 smoothed && (eqb r.rttvar.0 rttvar && is_span pto (pto_of r))
right (delay l d) = with_rtt (estimate (rtt_fresh settings) l) λ r. is_span d (loss_delay r NineEighths)
right (verdict number largest at now d b) =
    same_bool b (is_lost (record { now = moment now; delay = span d; threshold = 3; largest = largest }) (sent_now (moment at) (packet number)))
right (windows ms window w_max) = is_window window w_max (control ms (congestion_fresh settings))
right (earliest a b c t) = is_time t (loss_time_and_space (epoch_with a) (epoch_with b) (epoch_with c)).time
right (root x r) = is_root r (root_of (float_of x))
right (shows l window bytes timer) = shows_from (fresh settings) l window bytes timer
right (prints bytes out) = prints_from (fresh settings) bytes out

-- the place of the first wrong row, from i on, or 0 where all are right
unfoldable pub wrong : ℕ → List Row → ℕ
unfolding right
wrong i [] = 0
wrong i (r ∷ l) = cond (right r) (wrong (i + 1) l) i

abbrev pub ms : ℕ → ℕ
ms n = n * 1000000

abbrev pub sample : ℕ → ℕ → Bool → Sample
sample l d c = record { rtt = l; delay = d; completed = c }

-- losses that begin a period, each of one packet sent after the period before it
abbrev pub first_loss : List Move
first_loss = lose (moment 100) (moment 50) ∷ count 1 ∷ []

abbrev pub then-more : List Move → List Move → List Move
then-more [] k = k
then-more (m ∷ l) k = m ∷ then-more l k

abbrev pub second_loss : ℕ → List Move
second_loss n = then-more first_loss (lose (moment 300) (moment 200) ∷ count n ∷ [])

-- an ack, outside recovery, of a packet sent at a moment
abbrev pub ack_of : ℕ → List Move
ack_of at = ack (moment (at + 100)) (moment at) 1200 false (span 100) ∷ []

-- the whole-output rehearsal's status 7, packet and acknowledgement
abbrev pub status : HandshakeStatus
status = record { has_handshake_keys = true; peer_verified_address = true; completed = true }

unfoldable pub sending : Event
unfolding packet
sending = sent (moment 0) 2 (packet 0) status

unfoldable pub acking : Event
acking = acked (moment (ms 100)) 2 (0 ∷ 1 ∷ []) 0 status false None

unfoldable pub table : List Row
unfolding sending acking whole_trace whole_output
table =
    -- RTT 100 ms first: rttvar 50
    estimates (sample (ms 100) 0 false ∷ []) (ms 100) (ms 50) (ms 300)
    -- then 120 with delay 10, completed: rttvar 40, smoothed 101.25, PTO 261.25
    ∷ estimates (sample (ms 100) 0 false ∷ sample (ms 120) (ms 10) true ∷ []) 101250000 (ms 40) 261250000
    -- delay after first sample 100 ms: 112.5 ms; no sample: 374.625
    ∷ delay (sample (ms 100) 0 false ∷ []) 112500000
    ∷ delay [] 374625000
    -- number 2, largest 5: lost; largest 4: not by number
    ∷ verdict 2 5 1000 1000 (ms 1) true
    ∷ verdict 2 4 1000 1000 (ms 1) false
    -- sent at now - delay: lost; 1 ns later: not
    ∷ verdict 2 2 1000 1001000 (ms 1) true
    ∷ verdict 2 2 1001 1001000 (ms 1) false
    -- window 12,000, first loss: 8,400; one packet lost, but no rollback: threshold was 2^64-1
    ∷ windows first_loss 8400 12000
    ∷ windows (then-more first_loss (forgive ∷ [])) 8400 12000
    ∷ windows (then-more first_loss (ack_of 200)) 8400 12000
    -- then another loss: 5,880; one new lost: rollback gives 8,400, w_max 12,000
    ∷ windows (second_loss 1) 5880 7140
    ∷ windows (then-more (second_loss 1) (ack_of 400)) 8400 12000
    -- two new lost: none
    ∷ windows (then-more (second_loss 2) (ack_of 400)) 5880 7140
    -- Initial loss time set, Application unset: none
    ∷ earliest (Some (moment 5)) None None None
    -- root of 8 is 2, of 0 is 0
    ∷ root 8 2
    ∷ root 0 0
    -- the whole output's lines: sent at 0, then acked at 100 ms
    ∷ shows (sending ∷ []) 12000 1200 (Some (moment 1024000000))
    ∷ shows (sending ∷ acking ∷ []) 13200 0 None
    -- and its text, from the trace's bytes
    ∷ prints whole_trace whole_output
    ∷ []

pub rehearsed : T (eqb (wrong 1 table) 0)
unfolding wrong table
rehearsed = tt

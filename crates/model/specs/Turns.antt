-- 01 'Strength of wording': two runs from a fresh connection with 01's settings, which the checker computes: every kind of event is accepted, and the window moves both ways.
use Rattle.std.specs.Prelude.{Bool, true, false, cond, ◌&&◌, List, [], ◌∷◌, ℕ, ◌+◌, T, eqb, Result, Ok, Err, None}
use Rattle.std.specs.Float.Ieee.{add, sub, mul, div, of_int, of_bits, to_unsigned, lt, le, eq}
use Rattle.arith.specs.Whole.{within, sum_of, times_of}
use Rattle.arith.specs.Time.{moment, span_sum_of, scaled_of, later_of}
use Rattle.arith.specs.Round.{nearest, product_of, seconds_of}
use Rattle.arith.specs.RootOf.{root_of}
use Rattle.model.specs.Numbers.{on_clock, is_size, is_datagram_size, are_settings}
use Rattle.model.specs.Rtt.{rtt_fresh, rtt_update}
use Rattle.model.specs.Ranges.{are_ranges, largest_for, last_end}
use Rattle.model.specs.Sent.{sent_now, drained, newest, rest, covered}
use Rattle.model.specs.Ack.{meet_all, reordered}
use Rattle.model.specs.Loss.{loss_delay, is_lost, detect}
use Rattle.model.specs.Timer.{loss_time_and_space, timer_of, probe_space, probe_handles}
use Rattle.model.specs.Cubic.{rollback, congestion_event, count_lost, packet_acked, congestion_fresh, resized}
use Rattle.model.specs.Control.{moved, control, ack_each}
use Rattle.model.specs.Connection.{Connection, space_at, with_space, facts_of, timed, outstanding, epoch_fresh, space_fresh, shared_fresh, fresh}
use Rattle.model.specs.Events.{Step, is_newer, is_packet, sent_in_flight, on_packet_sent, detect_lost_packets, any_eliciting, sampled, outcome, acked_some, acked_by, acknowledge, on_ack_received, timeout_outcome, timeout_loss, probe_queue, timeout_probe, timeout_by, on_loss_detection_timeout, on_space_discarded, on_size_change, next_acked_frame, taken_lost, next_lost_frame, ping_sent}
use Rattle.model.specs.Run.{Event, sent, acked, timeout, discarded, size_change, take_acked, take_lost, ping, Answer, done, of_ack, of_timeout, handle, step, after}
use Rattle.model.specs.Rehearsals.{settings, status, ms, same_text}
use Rattle.model.specs.declared.Packet.{Packet}
use Rattle.arith.specs.declared.refusal.Refusal.{Refusal}

-- an event that is accepted, its answer, and window and bytes in flight after it
pub record Turn : Type 0 where
  pub event : Event
  pub answer : Answer
  pub window : ℕ
  pub in_flight : ℕ

abbrev pub turn : Event → Answer → ℕ → ℕ → Turn
turn e a window in_flight = record { event = e; answer = a; window = window; in_flight = in_flight }

-- an answer as numbers, its kind first
abbrev pub numbers_of : Answer → List ℕ
numbers_of done = 0 ∷ []
numbers_of (of_ack o) = 1 ∷ o.lost_packets ∷ o.lost_bytes ∷ o.acked_bytes ∷ o.spurious_losses ∷ []
numbers_of (of_timeout o) = 2 ∷ o.lost_packets ∷ o.lost_bytes ∷ []
numbers_of (handle h) = 3 ∷ h ∷ []

abbrev pub is_turn : Turn → Result (Step Answer) Refusal → Bool
is_turn t (Ok x) =
    same_text (numbers_of t.answer) (numbers_of x.answer)
    && (eqb x.state.shared.congestion.congestion_window t.window && eqb x.state.shared.bytes_in_flight t.in_flight)
is_turn t (Err n) = false

-- the place of the first wrong turn, from i on, or 0 where all are right
unfoldable pub wrong_turn : ℕ → List Turn → Connection → ℕ
unfolding step after on_packet_sent sent_in_flight on_ack_received acknowledge acked_by acked_some sampled any_eliciting detect_lost_packets on_loss_detection_timeout timeout_by timeout_loss timeout_probe probe_queue on_space_discarded on_size_change next_acked_frame next_lost_frame taken_lost ping_sent is_packet is_newer space_at with_space facts_of timed outstanding sent_now drained newest rest covered meet_all reordered loss_delay is_lost detect loss_time_and_space timer_of probe_space probe_handles rtt_update are_ranges largest_for last_end on_clock is_size is_datagram_size control moved ack_each congestion_event count_lost rollback packet_acked resized root_of within sum_of times_of span_sum_of scaled_of later_of nearest product_of seconds_of of_bits add sub mul div of_int to_unsigned lt le eq
wrong_turn i [] c = 0
wrong_turn i (t ∷ l) c = cond (is_turn t (step t.event c)) (wrong_turn (i + 1) l (after t.event c)) i

abbrev pub wrong_from : Result Connection Refusal → List Turn → ℕ
wrong_from (Ok c) l = wrong_turn 1 l c
wrong_from (Err n) l = 1

-- a data packet of 1,200 bytes, in flight, whose handle is one more than its number
abbrev pub payload : ℕ → Packet
payload n = record { number = n; size = 1200; ack_eliciting = true; in_flight = true; has_data = true; is_pmtud_probe = false; handle = n + 1 }

abbrev pub send_at : ℕ → ℕ → Event
send_at at n = sent (moment at) 2 (payload n) status

abbrev pub ack_at : ℕ → ℕ → ℕ → Event
ack_at at start end = acked (moment at) 2 (start ∷ end ∷ []) 0 status false None

-- in slow start an ack raises the window
unfoldable pub upwards : List Turn
upwards = turn (send_at 0 0) done 12000 1200 ∷ turn (ack_at (ms 100) 0 1) (of_ack (outcome 0 0 1200 0)) 13200 0 ∷ []

-- a loss lowers it, and every kind of event has its turn
unfoldable pub every_kind : List Turn
every_kind =
    turn (send_at 0 0) done 12000 1200
    ∷ turn (send_at 0 1) done 12000 2400
    ∷ turn (send_at 0 2) done 12000 3600
    ∷ turn (send_at 0 3) done 12000 4800
    -- number 0 is overtaken by 3
    ∷ turn (ack_at (ms 100) 3 4) (of_ack (outcome 1 1200 1200 0)) 8400 2400
    ∷ turn (take_acked 2) (handle 4) 8400 2400
    ∷ turn (take_lost 2) (handle 1) 8400 2400
    -- it was spurious, and 1 is acked too
    ∷ turn (ack_at (ms 101) 0 2) (of_ack (outcome 0 0 1200 1)) 8400 1200
    -- 2 is lost by time, then nothing is in flight and Handshake has a probe to send
    ∷ turn (timeout (moment (ms 130)) status) (of_timeout (timeout_outcome 1 1200)) 8400 0
    ∷ turn (timeout (moment (ms 500)) status) (of_timeout (timeout_outcome 0 0)) 8400 0
    ∷ turn (ping 1) done 8400 0
    ∷ turn (size_change 1400) done 8400 0
    ∷ turn (discarded (moment (ms 500)) 1 status) done 8400 0
    ∷ []

pub computed : T (eqb (wrong_from (fresh settings) upwards) 0 && eqb (wrong_from (fresh settings) every_kind) 0)
unfolding wrong_turn upwards every_kind settings fresh are_settings space_fresh epoch_fresh shared_fresh rtt_fresh congestion_fresh
computed = tt

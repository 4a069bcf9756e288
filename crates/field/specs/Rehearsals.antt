-- The lines of inspect for the events of 01's whole-output rehearsal, computed over the definitions.
use Rattle.std.specs.Prelude.{ℕ, Bool, ◌&&◌, List, [], ◌∷◌, ◌++◌, T, Result, Ok, Err}
use Rattle.std.specs.Float.{binary64}
use Rattle.std.specs.Float.Ieee.{to_bits, of_bits, add, sub, mul, div, of_int, to_unsigned, lt, le, eq}
use Rattle.arith.specs.Whole.{within, sum_of, times_of}
use Rattle.arith.specs.Time.{span_sum_of, scaled_of, later_of}
use Rattle.arith.specs.Round.{nearest, product_of, seconds_of}
use Rattle.model.specs.Numbers.{on_clock, is_size, are_settings}
use Rattle.model.specs.Rtt.{rtt_fresh, rtt_update}
use Rattle.model.specs.Sent.{sent_now, covered, drained}
use Rattle.model.specs.Loss.{loss_delay, is_lost, detect}
use Rattle.model.specs.Timer.{pto_of, loss_time_and_space, timer_of, elicits, available}
use Rattle.model.specs.Cubic.{congestion_fresh, count_lost, packet_acked}
use Rattle.model.specs.Control.{control, moved, ack_each}
use Rattle.model.specs.Connection.{Connection, fresh, space_fresh, epoch_fresh, shared_fresh, timed, facts_of, space_at, with_space}
use Rattle.model.specs.Ack.{meet_all, reordered}
use Rattle.model.specs.Events.{on_packet_sent, sent_in_flight, on_ack_received, acknowledge, acked_by, acked_some, sampled, any_eliciting, detect_lost_packets, is_packet, is_newer}
use Rattle.model.specs.Ranges.{are_ranges, largest_for, last_end}
use Rattle.model.specs.Run.{Event, step, after, run, state_by}
use Rattle.model.specs.Trace.{text, digits}
use Rattle.model.specs.Rehearsals.{settings, packet, sending, acking, same_text}
use Rattle.model.specs.declared.Cubic.{Cubic}
use Rattle.connection.specs.View.{answer_of}
use Rattle.field.specs.Words.{codes, apart, hex}
use Rattle.field.specs.Inspect.{ack_words, timeout_words, told_words, rtt_words, cubic_words, congestion_words, reordering_words, count_words, shared_words, time_words, frame_words, last_words, space_words, spaces_words, available_in, fields_text, inspected}
use Rattle.arith.specs.declared.refusal.Refusal.{Refusal}

-- the line of an event of a kind, after these events on a fresh connection
unfoldable pub line_after : Result Connection Refusal → List Event → ℕ → Event → List ℕ
line_after (Ok c) l kind e = inspected kind (answer_of (step e (run l c))) (state_by (run l c) (step e (run l c)))
line_after (Err n) l kind e = []

unfoldable pub lines : Bool
unfolding line_after inspected fields_text told_words ack_words timeout_words shared_words rtt_words congestion_words cubic_words reordering_words count_words spaces_words space_words time_words frame_words last_words available_in hex text digits elicits available settings packet sending acking rtt_fresh pto_of within sum_of times_of span_sum_of scaled_of later_of nearest product_of loss_delay is_lost sent_now control moved congestion_fresh packet_acked loss_time_and_space to_bits of_bits add sub mul div of_int to_unsigned lt le eq seconds_of fresh space_fresh epoch_fresh shared_fresh run after step on_packet_sent sent_in_flight on_ack_received acknowledge acked_by acked_some sampled any_eliciting detect_lost_packets timed facts_of timer_of space_at with_space on_clock is_packet is_newer is_size are_ranges are_settings largest_for last_end covered meet_all reordered drained detect ack_each rtt_update count_lost
lines =
    same_text (line_after (fresh settings) [] 1 sending)
    (codes "1 0 12000 1200 1024000000"
    ++ codes " latest=0 smoothed=333000000 rttvar=166500000 min=- max=-"
    ++ codes " ssthresh=18446744073709551615 w_max=0000000000000000 k=0000000000000000 w_est=0000000000000000 alpha=0000000000000000 cwnd_inc=0"
    ++ codes " bytes_acked_sl=0 recovery_start=- lost_count=0 lost_spurious_count=0 pkt_thresh=3 time_thresh=9/8 pto_count=0 outstanding_non_ack_eliciting=0 cwnd_available=10800"
    ++ codes " 0.loss_time=- 0.loss_probes=0 0.in_flight_count=0 0.sent_packets=0 0.acked_frames=0 0.lost_frames_ack=0 0.lost_frames_pto=0 0.largest_acked=- 0.last_ack_eliciting=- 0.should_elicit_ack=0"
    ++ codes " 1.loss_time=- 1.loss_probes=0 1.in_flight_count=0 1.sent_packets=0 1.acked_frames=0 1.lost_frames_ack=0 1.lost_frames_pto=0 1.largest_acked=- 1.last_ack_eliciting=- 1.should_elicit_ack=0"
    ++ codes " 2.loss_time=- 2.loss_probes=0 2.in_flight_count=1 2.sent_packets=1 2.acked_frames=0 2.lost_frames_ack=0 2.lost_frames_pto=0 2.largest_acked=- 2.last_ack_eliciting=0 2.should_elicit_ack=0\n")
    && same_text (line_after (fresh settings) (sending ∷ []) 3 acking)
    (codes "3 0 13200 0 - lost_packets=0 lost_bytes=0 acked_bytes=1200 spurious=0"
    ++ codes " latest=100000000 smoothed=100000000 rttvar=50000000 min=100000000 max=100000000"
    ++ codes " ssthresh=18446744073709551615 w_max=0000000000000000 k=0000000000000000 w_est=0000000000000000 alpha=0000000000000000 cwnd_inc=0"
    ++ codes " bytes_acked_sl=0 recovery_start=- lost_count=0 lost_spurious_count=0 pkt_thresh=3 time_thresh=9/8 pto_count=0 outstanding_non_ack_eliciting=0 cwnd_available=13200"
    ++ codes " 0.loss_time=- 0.loss_probes=0 0.in_flight_count=0 0.sent_packets=0 0.acked_frames=0 0.lost_frames_ack=0 0.lost_frames_pto=0 0.largest_acked=- 0.last_ack_eliciting=- 0.should_elicit_ack=0"
    ++ codes " 1.loss_time=- 1.loss_probes=0 1.in_flight_count=0 1.sent_packets=0 1.acked_frames=0 1.lost_frames_ack=0 1.lost_frames_pto=0 1.largest_acked=- 1.last_ack_eliciting=- 1.should_elicit_ack=0"
    ++ codes " 2.loss_time=- 2.loss_probes=0 2.in_flight_count=0 2.sent_packets=0 2.acked_frames=0 2.lost_frames_ack=0 2.lost_frames_pto=0 2.largest_acked=0 2.last_ack_eliciting=0 2.should_elicit_ack=0\n")

pub rehearsed : T lines
unfolding lines
rehearsed = tt

-- floats by their bits: 12,000, 1.5, -0.25 and 9/17
abbrev pub cubic : Cubic
cubic =
    record {
      w_max = of_bits binary64 0x40c7_7000_0000_0000;
      k = of_bits binary64 0x3ff8_0000_0000_0000;
      w_est = of_bits binary64 0xbfd0_0000_0000_0000;
      alpha_aimd = of_bits binary64 0x3fe0_f0f0_f0f0_f0f1;
      cwnd_inc = 1200;
    }

unfoldable pub floats : Bool
unfolding cubic_words hex digits to_bits of_bits
floats = same_text (cubic_words apart cubic) (codes " w_max=40c7700000000000 k=3ff8000000000000 w_est=bfd0000000000000 alpha=3fe0f0f0f0f0f0f1 cwnd_inc=1200")

pub rehearsed-floats : T floats
unfolding floats
rehearsed-floats = tt

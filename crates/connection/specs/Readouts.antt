-- What a connection lets be read of it. 01 'Timer and PTO (000)', 'RTT (002)', 'CUBIC (001)'; 000's read-outs. Definitions only.
use Rattle.std.specs.Prelude.{ℕ, Bool, cond, ◌||◌, ltb, length, Result, Option, Some, None}
use Rattle.arith.specs.declared.time.Span.{Span}
use Rattle.model.specs.Timer.{pto_of, elicits, available}
use Rattle.model.specs.Connection.{Connection, space_at}
use Rattle.model.specs.declared.Epoch.{Epoch}
use Rattle.model.specs.declared.Rtt.{Rtt}
use Rattle.arith.specs.declared.time.Moment.{Moment}
use Rattle.arith.specs.declared.refusal.Refusal.{Refusal}

-- ---- the window

abbrev pub cwnd_of : Connection → ℕ
cwnd_of c = c.shared.congestion.congestion_window

abbrev pub ssthresh_of : Connection → ℕ
ssthresh_of c = c.shared.congestion.ssthresh

abbrev pub bytes_in_flight_of : Connection → ℕ
bytes_in_flight_of c = c.shared.bytes_in_flight

-- while any space has probes, 2^64-1
unfoldable pub cwnd_available_of : Connection → ℕ
cwnd_available_of c =
    available c.initial.epoch.loss_probes c.handshake.epoch.loss_probes c.application.epoch.loss_probes (cwnd_of c) (bytes_in_flight_of c)

abbrev pub max_datagram_size_of : Connection → ℕ
max_datagram_size_of c = c.shared.max_datagram_size

-- ---- round trips

-- min and max are none before a sample (DECISIONS R1)
abbrev pub sampled_by : Rtt → Span → Option Span
sampled_by r x = cond r.has_first_rtt_sample (Some x) None

abbrev pub rtt_of : Connection → Span
rtt_of c = c.shared.rtt.smoothed_rtt

abbrev pub latest_rtt_of : Connection → Span
latest_rtt_of c = c.shared.rtt.latest_rtt

abbrev pub rttvar_of : Connection → Span
rttvar_of c = c.shared.rtt.rttvar

abbrev pub min_rtt_of : Connection → Option Span
min_rtt_of c = sampled_by c.shared.rtt c.shared.rtt.min_rtt

abbrev pub max_rtt_of : Connection → Option Span
max_rtt_of c = sampled_by c.shared.rtt c.shared.rtt.max_rtt

-- past 2^53-1 it is too large, like the sums inside events (DECISIONS R12)
abbrev pub pto_read_of : Connection → Result Span Refusal
pto_read_of c = pto_of c.shared.rtt

-- ---- losses and the timer

abbrev pub loss_detection_timer_of : Connection → Option Moment
loss_detection_timer_of c = c.shared.loss_timer

abbrev pub pto_count_of : Connection → ℕ
pto_count_of c = c.shared.pto_count

abbrev pub lost_count_of : Connection → ℕ
lost_count_of c = c.shared.congestion.lost_count

abbrev pub lost_spurious_count_of : Connection → ℕ
lost_spurious_count_of c = c.shared.reordering.lost_spurious_count

abbrev pub pkt_thresh_of : Connection → ℕ
pkt_thresh_of c = c.shared.reordering.pkt_thresh

-- ---- a space

abbrev pub epoch_of : ℕ → Connection → Epoch
epoch_of n c = (space_at n c).epoch

abbrev pub loss_probes_of : ℕ → Connection → ℕ
loss_probes_of n c = (epoch_of n c).loss_probes

abbrev pub in_flight_count_of : ℕ → Connection → ℕ
in_flight_count_of n c = (epoch_of n c).in_flight_count

abbrev pub largest_acked_of : ℕ → Connection → Option ℕ
largest_acked_of n c = (epoch_of n c).largest_acked_packet

abbrev pub should_elicit_ack_of : ℕ → Connection → Bool
should_elicit_ack_of n c = elicits (epoch_of n c).loss_probes c.shared.outstanding_non_ack_eliciting

abbrev pub has_lost_frames_of : ℕ → Connection → Bool
has_lost_frames_of n c = ltb 0 (length (space_at n c).lost_frames_ack) || ltb 0 (length (space_at n c).lost_frames_pto)

-- A state that was written as plain numbers is read back as it was. Assumes nothing.
use mathlib.Core.Path.{◌≡◌, refl}
use mathlib.Core.Bool.{Bool, true, false}
use Rattle.arith.specs.declared.round.TimeThreshold.{TimeThreshold}
use Rattle.arith.specs.declared.round.TimeThreshold.TheVariants.{NineEighths, FiveFourths}
use Rattle.model.specs.declared.Congestion.{Congestion}
use Rattle.model.specs.declared.PriorState.{PriorState}
use Rattle.model.specs.declared.Rtt.{Rtt}
use Rattle.connection.specs.declared.SpaceState.{SpaceState}
use Rattle.connection.specs.declared.State.{State}
use Rattle.plain.specs.Values.{to_bool, to_time, to_number, to_threshold, to_epoch, to_space, to_rtt, to_cubic, to_prior, to_congestion, to_shared, state_of, of_bool, of_time, of_number, of_threshold, of_space, of_rtt, of_cubic, of_prior, of_congestion, values_of}
use Rattle.std.specs.Prelude.{Option, Some, None, ℕ}
use Rattle.arith.specs.declared.time.Moment.{Moment}

bool-back : (b : Bool) → to_bool (of_bool b) ≡ b
bool-back true = refl
bool-back false = refl

time-back : (t : Option Moment) → to_time (of_time t) ≡ t
unfolding to_time of_time
time-back None = refl
time-back (Some m) = refl

number-back : (n : Option ℕ) → to_number (of_number n) ≡ n
unfolding to_number of_number
number-back None = refl
number-back (Some x) = refl

threshold-back : (t : TimeThreshold) → to_threshold (of_threshold t) ≡ t
unfolding to_threshold of_threshold
threshold-back NineEighths = refl
threshold-back FiveFourths = refl

space-back : (s : SpaceState) → to_space (of_space s) ≡ s
unfolding to_space to_epoch of_space
space-back s =
    let e = s.epoch in
    λ i. record {
      head = s.head;
      len = s.len;
      acked = s.acked;
      lost_ack = s.lost_ack;
      lost_pto = s.lost_pto;
      epoch = record {
        time_of_last_ack_eliciting_packet = time-back e.time_of_last_ack_eliciting_packet i;
        largest_acked_packet = number-back e.largest_acked_packet i;
        loss_time = time-back e.loss_time i;
        loss_probes = e.loss_probes;
        in_flight_count = e.in_flight_count;
        largest_sent_packet = number-back e.largest_sent_packet i;
      };
    }

rtt-back : (r : Rtt) → to_rtt (of_rtt r) ≡ r
unfolding to_rtt of_rtt
rtt-back r =
    λ i. record {
      latest_rtt = r.latest_rtt;
      min_rtt = r.min_rtt;
      max_rtt = r.max_rtt;
      smoothed_rtt = r.smoothed_rtt;
      rttvar = r.rttvar;
      has_first_rtt_sample = bool-back r.has_first_rtt_sample i;
      max_ack_delay = r.max_ack_delay;
    }

prior-back : (p : PriorState) → to_prior (of_prior p) ≡ p
unfolding to_prior of_prior
prior-back p =
    λ i. record {
      congestion_window = p.congestion_window;
      ssthresh = p.ssthresh;
      w_max = p.w_max;
      k = p.k;
      epoch_start = time-back p.epoch_start i;
      lost_count = p.lost_count;
    }

congestion-back : (g : Congestion) → to_congestion (of_congestion g) ≡ g
unfolding to_congestion of_congestion to_cubic of_cubic
congestion-back g =
    λ i. record {
      congestion_window = g.congestion_window;
      ssthresh = g.ssthresh;
      bytes_acked_sl = g.bytes_acked_sl;
      congestion_recovery_start_time = time-back g.congestion_recovery_start_time i;
      lost_count = g.lost_count;
      cubic = g.cubic;
      prior = prior-back g.prior i;
      max_datagram_size = g.max_datagram_size;
      initial_window_packets = g.initial_window_packets;
    }

shared_back : (s : State) → to_shared (values_of s) ≡ s.shared
unfolding to_shared values_of
shared_back s =
    let h = s.shared in
    λ i. record {
      clock = h.clock;
      loss_timer = time-back h.loss_timer i;
      pto_count = h.pto_count;
      rtt = rtt-back h.rtt i;
      reordering = record {
        pkt_thresh = h.reordering.pkt_thresh;
        time_thresh = threshold-back h.reordering.time_thresh i;
        lost_spurious_count = h.reordering.lost_spurious_count;
      };
      bytes_in_flight = h.bytes_in_flight;
      max_datagram_size = h.max_datagram_size;
      outstanding_non_ack_eliciting = h.outstanding_non_ack_eliciting;
      congestion = congestion-back h.congestion i;
    }

pub state-back : (s : State) → state_of (values_of s) ≡ s
unfolding state_of values_of
state-back s =
    λ i. record {
      initial = space-back s.initial i;
      handshake = space-back s.handshake i;
      application = space-back s.application i;
      shared = shared_back s i;
    }

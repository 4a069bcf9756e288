-- What the plain numbers of a connection's values stand for, and how a state is written as such numbers. 01 'Replay and the host'. Definitions only.
use Rattle.std.specs.Prelude.{ℕ, Bool, cond, not, eqb, Option, Some, None}
use Rattle.arith.specs.Time.{moment, span}
use Rattle.arith.specs.declared.round.TimeThreshold.{TimeThreshold}
use Rattle.arith.specs.declared.round.TimeThreshold.TheVariants.{NineEighths, FiveFourths}
use Rattle.model.specs.declared.Congestion.{Congestion}
use Rattle.model.specs.declared.Cubic.{Cubic}
use Rattle.model.specs.declared.Epoch.{Epoch}
use Rattle.model.specs.declared.PriorState.{PriorState}
use Rattle.model.specs.declared.Rtt.{Rtt}
use Rattle.model.specs.declared.Shared.{Shared}
use Rattle.connection.specs.declared.SpaceState.{SpaceState}
use Rattle.connection.specs.declared.State.{State}
use Rattle.plain.specs.declared.CongestionValues.{CongestionValues}
use Rattle.plain.specs.declared.CubicValues.{CubicValues}
use Rattle.plain.specs.declared.NumberValue.{NumberValue}
use Rattle.plain.specs.declared.PriorValues.{PriorValues}
use Rattle.plain.specs.declared.RttValues.{RttValues}
use Rattle.plain.specs.declared.SpaceValues.{SpaceValues}
use Rattle.plain.specs.declared.TimeValue.{TimeValue}
use Rattle.plain.specs.declared.Values.{Values}
use Rattle.arith.specs.declared.time.Moment.{Moment}

-- ---- what the numbers stand for

-- 0 is no; anything else is yes
abbrev pub to_bool : ℕ → Bool
to_bool n = not (eqb n 0)

unfoldable pub to_time : TimeValue → Option Moment
to_time t = cond (to_bool t.set) (Some (moment t.ns)) None

unfoldable pub to_number : NumberValue → Option ℕ
to_number n = cond (to_bool n.set) (Some n.number) None

-- 0: 9/8, else 5/4
unfoldable pub to_threshold : ℕ → TimeThreshold
to_threshold n = cond (to_bool n) FiveFourths NineEighths

unfoldable pub to_epoch : SpaceValues → Epoch
to_epoch p =
    record {
      time_of_last_ack_eliciting_packet = to_time p.time_of_last_ack_eliciting_packet;
      largest_acked_packet = to_number p.largest_acked_packet;
      loss_time = to_time p.loss_time;
      loss_probes = p.loss_probes;
      in_flight_count = p.in_flight_count;
      largest_sent_packet = to_number p.largest_sent_packet;
    }

unfoldable pub to_space : SpaceValues → SpaceState
to_space p =
    record { head = p.head; len = p.len; acked = p.acked; lost_ack = p.lost_ack; lost_pto = p.lost_pto; epoch = to_epoch p }

unfoldable pub to_rtt : RttValues → Rtt
to_rtt r =
    record {
      latest_rtt = span r.latest_rtt;
      min_rtt = span r.min_rtt;
      max_rtt = span r.max_rtt;
      smoothed_rtt = span r.smoothed_rtt;
      rttvar = span r.rttvar;
      has_first_rtt_sample = to_bool r.has_first_rtt_sample;
      max_ack_delay = span r.max_ack_delay;
    }

unfoldable pub to_cubic : CubicValues → Cubic
to_cubic c = record { k = c.k; w_max = c.w_max; w_est = c.w_est; alpha_aimd = c.alpha_aimd; cwnd_inc = c.cwnd_inc }

unfoldable pub to_prior : PriorValues → PriorState
to_prior p =
    record {
      congestion_window = p.congestion_window;
      ssthresh = p.ssthresh;
      w_max = p.w_max;
      k = p.k;
      epoch_start = to_time p.epoch_start;
      lost_count = p.lost_count;
    }

unfoldable pub to_congestion : CongestionValues → Congestion
to_congestion g =
    record {
      congestion_window = g.congestion_window;
      ssthresh = g.ssthresh;
      bytes_acked_sl = g.bytes_acked_sl;
      congestion_recovery_start_time = to_time g.congestion_recovery_start_time;
      lost_count = g.lost_count;
      cubic = to_cubic g.cubic;
      prior = to_prior g.prior;
      max_datagram_size = g.max_datagram_size;
      initial_window_packets = g.initial_window_packets;
    }

unfoldable pub to_shared : Values → Shared
to_shared v =
    record {
      clock = moment v.clock;
      loss_timer = to_time v.loss_timer;
      pto_count = v.pto_count;
      rtt = to_rtt v.rtt;
      reordering = record { pkt_thresh = v.pkt_thresh; time_thresh = to_threshold v.time_thresh; lost_spurious_count = v.lost_spurious_count };
      bytes_in_flight = v.bytes_in_flight;
      max_datagram_size = v.max_datagram_size;
      outstanding_non_ack_eliciting = v.outstanding_non_ack_eliciting;
      congestion = to_congestion v.congestion;
    }

unfoldable pub state_of : Values → State
state_of v =
    record { initial = to_space v.initial; handshake = to_space v.handshake; application = to_space v.application; shared = to_shared v }

-- ---- how a state is written

-- the mark of values that were begun: the bytes SKAVVILE
abbrev pub sealing : ℕ
sealing = 6001962767471955013

unfoldable pub is_sealed : Values → Bool
is_sealed v = eqb v.seal sealing

abbrev pub of_bool : Bool → ℕ
of_bool b = cond b 1 0

-- what is unset is written as zeros
unfoldable pub of_time : Option Moment → TimeValue
of_time None = record { set = 0; ns = 0 }
of_time (Some t) = record { set = 1; ns = t.0 }

unfoldable pub of_number : Option ℕ → NumberValue
of_number None = record { set = 0; number = 0 }
of_number (Some n) = record { set = 1; number = n }

unfoldable pub of_threshold : TimeThreshold → ℕ
of_threshold NineEighths = 0
of_threshold FiveFourths = 1

unfoldable pub of_space : SpaceState → SpaceValues
of_space s =
    record {
      head = s.head;
      len = s.len;
      acked = s.acked;
      lost_ack = s.lost_ack;
      lost_pto = s.lost_pto;
      time_of_last_ack_eliciting_packet = of_time s.epoch.time_of_last_ack_eliciting_packet;
      largest_acked_packet = of_number s.epoch.largest_acked_packet;
      loss_time = of_time s.epoch.loss_time;
      loss_probes = s.epoch.loss_probes;
      in_flight_count = s.epoch.in_flight_count;
      largest_sent_packet = of_number s.epoch.largest_sent_packet;
    }

unfoldable pub of_rtt : Rtt → RttValues
of_rtt r =
    record {
      latest_rtt = r.latest_rtt.0;
      min_rtt = r.min_rtt.0;
      max_rtt = r.max_rtt.0;
      smoothed_rtt = r.smoothed_rtt.0;
      rttvar = r.rttvar.0;
      has_first_rtt_sample = of_bool r.has_first_rtt_sample;
      max_ack_delay = r.max_ack_delay.0;
    }

unfoldable pub of_cubic : Cubic → CubicValues
of_cubic c = record { k = c.k; w_max = c.w_max; w_est = c.w_est; alpha_aimd = c.alpha_aimd; cwnd_inc = c.cwnd_inc }

unfoldable pub of_prior : PriorState → PriorValues
of_prior p =
    record {
      congestion_window = p.congestion_window;
      ssthresh = p.ssthresh;
      w_max = p.w_max;
      k = p.k;
      epoch_start = of_time p.epoch_start;
      lost_count = p.lost_count;
    }

unfoldable pub of_congestion : Congestion → CongestionValues
of_congestion g =
    record {
      congestion_window = g.congestion_window;
      ssthresh = g.ssthresh;
      bytes_acked_sl = g.bytes_acked_sl;
      congestion_recovery_start_time = of_time g.congestion_recovery_start_time;
      lost_count = g.lost_count;
      cubic = of_cubic g.cubic;
      prior = of_prior g.prior;
      max_datagram_size = g.max_datagram_size;
      initial_window_packets = g.initial_window_packets;
    }

unfoldable pub values_of : State → Values
values_of s =
    record {
      seal = sealing;
      initial = of_space s.initial;
      handshake = of_space s.handshake;
      application = of_space s.application;
      clock = s.shared.clock.0;
      loss_timer = of_time s.shared.loss_timer;
      pto_count = s.shared.pto_count;
      rtt = of_rtt s.shared.rtt;
      pkt_thresh = s.shared.reordering.pkt_thresh;
      time_thresh = of_threshold s.shared.reordering.time_thresh;
      lost_spurious_count = s.shared.reordering.lost_spurious_count;
      bytes_in_flight = s.shared.bytes_in_flight;
      max_datagram_size = s.shared.max_datagram_size;
      outstanding_non_ack_eliciting = s.shared.outstanding_non_ack_eliciting;
      congestion = of_congestion s.shared.congestion;
    }

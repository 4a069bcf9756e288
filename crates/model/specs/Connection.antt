-- A connection: three spaces and what they share. 01 'The sender's part'. Definitions only.
use Rattle.std.specs.Prelude.{ℕ, ◌+◌, cond, ◌&&◌, List, [], ◌∷◌, eqb, Result, Ok, Option, None}
use Rattle.arith.specs.Time.{moment}
use Rattle.arith.specs.declared.round.TimeThreshold.TheVariants.{NineEighths}
use Rattle.arith.specs.declared.time.Moment.{Moment}
use Rattle.arith.specs.Refusals.{then, must}
use Rattle.model.specs.Numbers.{are_settings}
use Rattle.model.specs.Rtt.{rtt_fresh}
use Rattle.model.specs.Sent.{standing}
use Rattle.model.specs.Timer.{timer_of}
use Rattle.model.specs.Cubic.{congestion_fresh}
use Rattle.model.specs.declared.Epoch.{Epoch}
use Rattle.model.specs.declared.HandshakeStatus.{HandshakeStatus}
use Rattle.arith.specs.declared.refusal.Refusal.TheVariants.{Domain}
use Rattle.model.specs.declared.Sent.{Sent}
use Rattle.model.specs.declared.Settings.{Settings}
use Rattle.model.specs.declared.Shared.{Shared}
use Rattle.model.specs.declared.TimerFacts.{TimerFacts}
use Rattle.arith.specs.declared.refusal.Refusal.{Refusal}

pub record Space : Type 0 where
  -- oldest first
  pub records : List Sent
  -- queues of handles, newest last: of acked packets, of packets lost by an ACK, of packets sent again on a PTO
  pub acked_frames : List ℕ
  pub lost_frames_ack : List ℕ
  pub lost_frames_pto : List ℕ
  pub epoch : Epoch

pub record Connection : Type 0 where
  pub initial : Space
  pub handshake : Space
  pub application : Space
  pub shared : Shared

-- spaces: 0 Initial, 1 Handshake, 2 Application
unfoldable pub space_at : ℕ → Connection → Space
space_at n c = cond (eqb n 0) c.initial (cond (eqb n 1) c.handshake c.application)

unfoldable pub with_space : ℕ → Space → Connection → Connection
with_space n s c =
    cond (eqb n 0) (record { initial = s; handshake = c.handshake; application = c.application; shared = c.shared })
    (cond (eqb n 1) (record { initial = c.initial; handshake = s; application = c.application; shared = c.shared })
    (record { initial = c.initial; handshake = c.handshake; application = s; shared = c.shared }))

abbrev pub with_shared : Shared → Connection → Connection
with_shared s c = record { initial = c.initial; handshake = c.handshake; application = c.application; shared = s }

-- the timer goes by these
unfoldable pub facts_of : Moment → HandshakeStatus → Connection → TimerFacts
facts_of now status c =
    record {
      now = now;
      status = status;
      rtt = c.shared.rtt;
      pto_count = c.shared.pto_count;
      bytes_in_flight = c.shared.bytes_in_flight;
      initial = c.initial.epoch;
      handshake = c.handshake.epoch;
      application = c.application.epoch;
    }

abbrev pub with_timer : Option Moment → Shared → Shared
with_timer t s =
    record {
      clock = s.clock;
      loss_timer = t;
      pto_count = s.pto_count;
      rtt = s.rtt;
      reordering = s.reordering;
      bytes_in_flight = s.bytes_in_flight;
      max_datagram_size = s.max_datagram_size;
      outstanding_non_ack_eliciting = s.outstanding_non_ack_eliciting;
      congestion = s.congestion;
    }

-- sets the timer
unfoldable pub timed : Moment → HandshakeStatus → Connection → Result Connection Refusal
timed now status c = then (timer_of (facts_of now status c)) λ t. Ok (with_shared (with_timer t c.shared) c)

-- sizes of those in flight and neither acked nor lost
unfoldable pub outstanding : List Sent → ℕ
outstanding [] = 0
outstanding (r ∷ l) = cond (r.in_flight && standing r) (r.size + outstanding l) (outstanding l)

-- ---- a fresh connection

unfoldable pub epoch_fresh : Epoch
epoch_fresh =
    record {
      time_of_last_ack_eliciting_packet = None;
      largest_acked_packet = None;
      loss_time = None;
      loss_probes = 0;
      in_flight_count = 0;
      largest_sent_packet = None;
    }

unfoldable pub space_fresh : Space
space_fresh = record { records = []; acked_frames = []; lost_frames_ack = []; lost_frames_pto = []; epoch = epoch_fresh }

-- packet threshold 3, time threshold 9/8
unfoldable pub shared_fresh : Settings → Shared
shared_fresh s =
    record {
      clock = moment 0;
      loss_timer = None;
      pto_count = 0;
      rtt = rtt_fresh s;
      reordering = record { pkt_thresh = 3; time_thresh = NineEighths; lost_spurious_count = 0 };
      bytes_in_flight = 0;
      max_datagram_size = s.max_datagram_size;
      outstanding_non_ack_eliciting = 0;
      congestion = congestion_fresh s;
    }

-- refusal 2: a setting outside its range
unfoldable pub fresh : Settings → Result Connection Refusal
fresh s = must (are_settings s) Domain (Ok (record { initial = space_fresh; handshake = space_fresh; application = space_fresh; shared = shared_fresh s }))

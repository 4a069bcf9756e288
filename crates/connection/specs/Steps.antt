-- Events over a state alone, for those that need nothing of the words but their counts. Definitions that serve the proofs: proofs/Steps.antt shows each to be
-- model's event on what the words and the state stand for.
use Rattle.std.specs.Prelude.{ℕ, ◌+◌, ◌-◌, ◌%◌, Bool, true, false, cond, ltb, Result, Ok, Option, None}
use Rattle.arith.specs.Whole.{sum_of}
use Rattle.arith.specs.declared.time.Moment.{Moment}
use Rattle.arith.specs.Refusals.{then, must}
use Rattle.model.specs.Numbers.{on_clock, is_space, are_settings, capacity}
use Rattle.model.specs.Timer.{timer_of}
use Rattle.model.specs.Connection.{with_timer, epoch_fresh, shared_fresh}
use Rattle.model.specs.Events.{is_packet, is_newer, epoch_sent, shared_sent, shared_timeout}
use Rattle.model.specs.declared.Congestion.{Congestion}
use Rattle.model.specs.declared.HandshakeStatus.{HandshakeStatus}
use Rattle.model.specs.declared.Packet.{Packet}
use Rattle.arith.specs.declared.refusal.Refusal.TheVariants.{Clock, Domain, Stale, Full}
use Rattle.model.specs.declared.Settings.{Settings}
use Rattle.model.specs.declared.Shared.{Shared}
use Rattle.model.specs.declared.TimerFacts.{TimerFacts}
use Rattle.connection.specs.View.{count, normal_of, space_state_at, with_space_state}
use Rattle.connection.specs.declared.SpaceState.{SpaceState}
use Rattle.connection.specs.declared.State.{State}
use Rattle.arith.specs.declared.refusal.Refusal.{Refusal}

-- ---- the timer

unfoldable pub facts_state : Moment → HandshakeStatus → State → TimerFacts
facts_state now status s =
    record {
      now = now;
      status = status;
      rtt = s.shared.rtt;
      pto_count = s.shared.pto_count;
      bytes_in_flight = s.shared.bytes_in_flight;
      initial = s.initial.epoch;
      handshake = s.handshake.epoch;
      application = s.application.epoch;
    }

unfoldable pub armed : Option Moment → State → State
armed t s = record { initial = s.initial; handshake = s.handshake; application = s.application; shared = with_timer t s.shared }

unfoldable pub timed_state : Moment → HandshakeStatus → State → Result State Refusal
timed_state now status s = then (timer_of (facts_state now status s)) λ t. Ok (armed t s)

-- ---- sent

unfoldable pub sent_space : Moment → Packet → ℕ → SpaceState → SpaceState
sent_space now p in_flight s =
    record {
      head = s.head;
      len = s.len + 1;
      acked = s.acked;
      lost_ack = s.lost_ack;
      lost_pto = s.lost_pto;
      epoch = epoch_sent now p in_flight s.epoch;
    }

abbrev pub run_state : Bool → ℕ → (ℕ → Result State Refusal) → Result State Refusal
run_state true run k = k 0
run_state false run k = then (sum_of run 1) k

-- the run after a packet
unfoldable pub run_of : Bool → ℕ → Result ℕ Refusal
run_of eliciting run = cond eliciting (Ok 0) (sum_of run 1)

unfoldable pub sent_both : Moment → ℕ → Packet → HandshakeStatus → ℕ → State → Result State Refusal
sent_both now n p status run s =
    let q = normal_of (space_state_at n s) in
    cond p.in_flight
    (then (sum_of q.epoch.in_flight_count 1) λ in_flight.
    then (sum_of s.shared.bytes_in_flight p.size) λ bytes.
    timed_state now status (with_space_state n (sent_space now p in_flight q) (shared_sent now run bytes s.shared) s))
    (Ok (with_space_state n (sent_space now p q.epoch.in_flight_count q) (shared_sent now run s.shared.bytes_in_flight s.shared) s))

unfoldable pub send_state : Moment → ℕ → Packet → HandshakeStatus → State → Result State Refusal
send_state now n p status s =
    must (on_clock s.shared.clock now) Clock
    (must (is_packet n p) Domain
    (must (is_newer (space_state_at n s).epoch.largest_sent_packet p.number) Stale
    (must (ltb (count (space_state_at n s).len) capacity) Full
    (run_state p.ack_eliciting s.shared.outstanding_non_ack_eliciting λ run. sent_both now n p status run s))))

-- ---- discard, given the bytes that are still out

unfoldable pub empty_space : SpaceState → SpaceState
empty_space s =
    record {
      head = (s.head + count s.len) % capacity;
      len = 0;
      acked = 0;
      lost_ack = 0;
      lost_pto = 0;
      epoch = record {
        time_of_last_ack_eliciting_packet = None;
        largest_acked_packet = s.epoch.largest_acked_packet;
        loss_time = None;
        loss_probes = 0;
        in_flight_count = 0;
        largest_sent_packet = s.epoch.largest_sent_packet;
      };
    }

unfoldable pub discard_state : Moment → ℕ → HandshakeStatus → ℕ → State → Result State Refusal
discard_state now n status bytes s =
    timed_state now status
    (with_space_state n (empty_space (space_state_at n s))
    (shared_timeout now s.shared.pto_count (s.shared.bytes_in_flight - bytes) s.shared.congestion s.shared) s)

unfoldable pub discard_by : Moment → ℕ → HandshakeStatus → Result ℕ Refusal → State → Result State Refusal
discard_by now n status bytes s =
    must (on_clock s.shared.clock now) Clock (must (is_space n) Domain (then bytes λ b. discard_state now n status b s))

-- ---- takes and pings

unfoldable pub with_counts : ℕ → ℕ → ℕ → SpaceState → SpaceState
with_counts acked lost_ack lost_pto s =
    record { head = s.head; len = s.len; acked = acked; lost_ack = lost_ack; lost_pto = lost_pto; epoch = s.epoch }

unfoldable pub probed_space : ℕ → ℕ → SpaceState → SpaceState
probed_space probes lost_pto s =
    record {
      head = s.head;
      len = s.len;
      acked = s.acked;
      lost_ack = s.lost_ack;
      lost_pto = lost_pto;
      epoch = record {
        time_of_last_ack_eliciting_packet = s.epoch.time_of_last_ack_eliciting_packet;
        largest_acked_packet = s.epoch.largest_acked_packet;
        loss_time = s.epoch.loss_time;
        loss_probes = probes;
        in_flight_count = s.epoch.in_flight_count;
        largest_sent_packet = s.epoch.largest_sent_packet;
      };
    }

-- ---- a size change

abbrev pub with_shared_state : Shared → State → State
with_shared_state shared s = record { initial = s.initial; handshake = s.handshake; application = s.application; shared = shared }

unfoldable pub shared_sized : ℕ → Congestion → Shared → Shared
shared_sized size g s =
    record {
      clock = s.clock;
      loss_timer = s.loss_timer;
      pto_count = s.pto_count;
      rtt = s.rtt;
      reordering = s.reordering;
      bytes_in_flight = s.bytes_in_flight;
      max_datagram_size = size;
      outstanding_non_ack_eliciting = s.outstanding_non_ack_eliciting;
      congestion = g;
    }

-- ---- a fresh connection

unfoldable pub space_state_fresh : SpaceState
space_state_fresh = record { head = 0; len = 0; acked = 0; lost_ack = 0; lost_pto = 0; epoch = epoch_fresh }

unfoldable pub fresh_state : Settings → Result State Refusal
fresh_state s =
    must (are_settings s) Domain
    (Ok (record { initial = space_state_fresh; handshake = space_state_fresh; application = space_state_fresh; shared = shared_fresh s }))

-- A space put back into a connection, and what a detection and an acknowledgement leave of a space. Assumes nothing.
use Prim.Native.Nat.{ℕ, ◌+◌, ◌-◌, ◌≤◌}
use mathlib.Core.Path.{◌≡◌, ◌∙◌}
use mathlib.Core.Bool.{Bool, true, false, cond}
use mathlib.Core.List.{List}
use native.Mathlib.Omega.{arith}
use lib.Dec.{eqb}
use Rattle.arith.specs.Whole.{limit}
use Rattle.arith.specs.declared.time.Moment.{Moment}
use Rattle.arith.specs.declared.time.Span.{Span}
use Rattle.model.specs.Ack.{Met}
use Rattle.model.specs.Connection.{Space, Connection, outstanding, space_at, with_space, with_shared}
use Rattle.model.specs.Events.{Detection, detect_lost_packets, space_acked, drained_again}
use Rattle.model.specs.Loss.{loss_delay, detect}
use Rattle.model.specs.Numbers.{or_zero}
use Rattle.model.specs.Sent.{drained}
use Rattle.model.specs.declared.Reordering.{Reordering}
use Rattle.model.specs.declared.Rtt.{Rtt}
use Rattle.model.specs.declared.Sent.{Sent}
use Rattle.model.specs.declared.Shared.{Shared}
use Rattle.model.proofs.Peel.{All, all-is, all_then}
use Rattle.flight.specs.Flight.{Counted, Agrees}
use Rattle.flight.proofs.Records.{less-drained}
use Rattle.flight.proofs.Gathered.{Taken, detect-all}
use Rattle.std.specs.Prelude.{Option, None}

module _ (n : ℕ) (c : Connection) (a : Agrees c) where
  -- a space has no more out than all
  pub share : outstanding (space_at n c).records ≤ c.shared.bytes_in_flight
  unfolding space_at
  share = go (eqb n 0) (eqb n 1)
    where
      go : (x y : Bool) → outstanding (cond x c.initial (cond y c.handshake c.application)).records ≤ c.shared.bytes_in_flight
      go true y = omega (arith, a.bytes)
      go false true = omega (arith, a.bytes)
      go false false = omega (arith, a.bytes)

  pub counted : Counted (space_at n c)
  unfolding space_at
  counted = go (eqb n 0) (eqb n 1)
    where
      go : (x y : Bool) → Counted (cond x c.initial (cond y c.handshake c.application))
      go true y = a.initial
      go false true = a.handshake
      go false false = a.application

  module _ (t : Space) (k : Counted t) where
    -- a space put back, with what is shared: the bytes moved as the space's did
    pub put : (sh : Shared) → sh.bytes_in_flight ≤ limit → sh.bytes_in_flight + outstanding (space_at n c).records ≡ c.shared.bytes_in_flight + outstanding t.records →
        Agrees (with_shared sh (with_space n t c))
    unfolding space_at with_space
    put sh small moved = go (eqb n 0) (eqb n 1) moved
      where
        go : (x y : Bool) →
            sh.bytes_in_flight + outstanding (cond x c.initial (cond y c.handshake c.application)).records ≡ c.shared.bytes_in_flight + outstanding t.records →
            Agrees
            (with_shared sh
            (cond x (record { initial = t; handshake = c.handshake; application = c.application; shared = c.shared })
            (cond y (record { initial = c.initial; handshake = t; application = c.application; shared = c.shared })
            (record { initial = c.initial; handshake = c.handshake; application = t; shared = c.shared }))))
        go true y e = record { bytes = omega (arith, e, a.bytes); small = small; initial = k; handshake = a.handshake; application = a.application }
        go false true e = record { bytes = omega (arith, e, a.bytes); small = small; initial = a.initial; handshake = k; application = a.application }
        go false false e = record { bytes = omega (arith, e, a.bytes); small = small; initial = a.initial; handshake = a.handshake; application = k }

    -- a space put back with as much out
    pub put_same : outstanding (space_at n c).records ≡ outstanding t.records → Agrees (with_space n t c)
    unfolding space_at with_space
    put_same same = go (eqb n 0) (eqb n 1) same
      where
        go : (x y : Bool) → outstanding (cond x c.initial (cond y c.handshake c.application)).records ≡ outstanding t.records →
            Agrees
            (cond x (record { initial = t; handshake = c.handshake; application = c.application; shared = c.shared })
            (cond y (record { initial = c.initial; handshake = t; application = c.application; shared = c.shared })
            (record { initial = c.initial; handshake = c.handshake; application = t; shared = c.shared })))
        go true y e = record { bytes = omega (arith, e, a.bytes); small = a.small; initial = k; handshake = a.handshake; application = a.application }
        go false true e = record { bytes = omega (arith, e, a.bytes); small = a.small; initial = a.initial; handshake = k; application = a.application }
        go false false e = record { bytes = omega (arith, e, a.bytes); small = a.small; initial = a.initial; handshake = a.handshake; application = k }

-- only what is shared, with the same bytes
pub shared_same : (c : Connection) → Agrees c → (sh : Shared) → sh.bytes_in_flight ≡ c.shared.bytes_in_flight → Agrees (with_shared sh c)
shared_same c a sh e =
    record { bytes = e ∙ a.bytes; small = rw e a.small; initial = a.initial; handshake = a.handshake; application = a.application }

-- ---- a space with so many bytes less out

pub record Shrunk (s t : Space) (b : ℕ) : Type 0 where
  pub bytes : outstanding s.records ≡ outstanding t.records + b
  pub counted : Counted s → Counted t

-- a detection
pub record Detects (before : ℕ) (s : Space) (d : Detection) : Type 0 where
  pub b : ℕ
  pub left : d.bytes ≡ before - b
  pub shrunk : Shrunk s d.space b

pub detects : (now : Moment) (rtt : Rtt) (o : Reordering) (before : ℕ) (s : Space) → All (Detects before s) (detect_lost_packets now rtt o before s)
unfolding detect_lost_packets
detects now rtt o before s =
    all_then (Detects before s) (loss_delay rtt o.time_thresh) _ λ delay e.
    all_then (Detects before s)
    (detect (record { now = now; delay = delay; threshold = o.pkt_thresh; largest = or_zero s.epoch.largest_acked_packet }) s.records
    (record { queue = s.lost_frames_ack; packets = 0; bytes = 0; probe_bytes = 0; in_flight = s.epoch.in_flight_count; last = None }))
    _ λ d f.
    let g = detect-all (record { now = now; delay = delay; threshold = o.pkt_thresh; largest = or_zero s.epoch.largest_acked_packet }) s.records
    (record { queue = s.lost_frames_ack; packets = 0; bytes = 0; probe_bytes = 0; in_flight = s.epoch.in_flight_count; last = None }) d f in
    let x = less-drained now rtt.smoothed_rtt d.records in
    all-is (Detects before s) _
    (record {
      b = g.b + g.p;
      left = omega (arith, g.bytes, g.probes);
      shrunk = record { bytes = omega (arith, g.less.bytes, x.bytes); counted = λ k. omega (arith, k, g.in_flight, g.less.count, x.count) };
    })

-- an acknowledgement's first two steps
pub acked-space : (now : Moment) (smoothed : Span) (s : Space) (l : List Sent) (m t : Met) (largest : Option ℕ) → m.acked_bytes ≡ 0 → m.in_flight ≡ s.epoch.in_flight_count →
    Taken s.records l m t → Shrunk s (space_acked (drained now smoothed l) t largest s) t.acked_bytes
acked-space now smoothed s l m t largest e f x =
    let y = less-drained now smoothed l in
    record {
      bytes = omega (arith, e, x.bytes, x.less.bytes, y.bytes);
      counted = λ k. omega (arith, f, k, x.in_flight, x.less.count, y.count);
    }

pub drained-space : (now : Moment) (rtt : Rtt) (s : Space) → Shrunk s (drained_again now rtt s) 0
drained-space now rtt s =
    let y = less-drained now rtt.smoothed_rtt s.records in
    record { bytes = omega (arith, y.bytes); counted = λ k. omega (arith, k, y.count) }

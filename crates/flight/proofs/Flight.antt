-- Bytes in flight and the spaces' counts agree with the records, after any calls from a fresh connection. Assumes nothing.
use Prim.Native.Nat.{ℕ, ◌+◌, ◌-◌, min}
use mathlib.Core.Path.{◌≡◌, refl, ap, sym, ◌∙◌}
use mathlib.Core.Bool.{Bool, true, false, cond, ◌&&◌, not}
use mathlib.Core.List.{List, [], ◌∷◌, ◌++◌}
use native.Mathlib.Omega.{arith}
use lib.Dec.{ltb, leb}
use lib.ListN.{length}
use Rattle.arith.specs.Whole.{within, sum_of, times_of}
use Rattle.arith.specs.Time.{span}
use Rattle.arith.specs.declared.time.Moment.{Moment}
use Rattle.arith.specs.declared.time.Span.{Span}
use Rattle.arith.proofs.Laws.{within-fine, fine-is, sum_is}
use Rattle.model.specs.Ack.{Met, meet_all, reordered}
use Rattle.model.specs.Connection.{Space, Connection, outstanding, space_at, with_space, with_shared, with_timer, facts_of, timed, fresh, space_fresh, shared_fresh, epoch_fresh}
use Rattle.model.specs.Control.{Move, resize, control, forgive_by, ack_each}
use Rattle.model.specs.Events.{Step, run_after, is_packet, is_newer, space_sent, shared_sent, sent_in_flight, sent_aside, on_packet_sent, detect_lost_packets, stored_largest, sampled, space_acked, outcome, acked_nothing, shared_acked, drained_again, acked_some, acked_by, acknowledge, on_ack_received, timeout_outcome, shared_timeout, timeout_loss, probe_queue, space_probed, timeout_probe, timeout_by, on_loss_detection_timeout, space_discarded, on_space_discarded, on_size_change, next_acked_frame, taken_lost, next_lost_frame, ping_sent}
use Rattle.arith.specs.Refusals.{then}
use Rattle.model.specs.Numbers.{on_clock, is_space, is_datagram_size, capacity, are_settings}
use Rattle.model.specs.Ranges.{are_ranges, hold_skipped, is_skipped, largest_for}
use Rattle.model.specs.Run.{Event, sent, acked, timeout, discarded, size_change, take_acked, take_lost, ping, Answer, done, of_ack, of_timeout, handle, answering, step, state_by, after, run}
use Rattle.model.specs.Sent.{sent_now, covered, drained}
use Rattle.model.specs.Timer.{timer_of, loss_time_and_space, probe_space}
use Rattle.model.specs.declared.HandshakeStatus.{HandshakeStatus}
use Rattle.model.specs.declared.Packet.{Packet}
use Rattle.arith.specs.declared.refusal.Refusal.TheVariants.{Clock, Domain, Stale, Ranges, Skipped, Full}
use Rattle.model.specs.declared.Reordering.{Reordering}
use Rattle.model.specs.declared.Sent.{Sent}
use Rattle.model.specs.declared.Settings.{Settings}
use Rattle.model.specs.declared.TimeAndSpace.{TimeAndSpace}
use Rattle.model.proofs.Peel.{All, all-is, all_then, all-cond, all-reach, all-must, no_value}
use Rattle.audit.specs.Total.{total_of, all_records}
use Rattle.audit.proofs.Audited.{of_parts}
use Rattle.flight.specs.Flight.{count_out, Counted, Agrees, InFlight}
use Rattle.flight.proofs.Records.{counted-parts, out-bytes, out-count, gone-bytes, gone-count, aside, both}
use Rattle.flight.proofs.Gathered.{Taken, meet-all}
use Rattle.flight.proofs.Spaces.{share, counted, put, put_same, shared_same, Shrunk, detects, acked-space, drained-space}
use Rattle.std.specs.Prelude.{Result, Ok, Err, Option, Some, None}
use Rattle.arith.specs.declared.refusal.Refusal.{Refusal}

-- what an event leaves agrees
abbrev After : {A : Type 0} → Step A → Type 0
After x = Agrees x.state

through : {A : Type 0} (f : A → Answer) (r : Result (Step A) Refusal) → All After r → All After (answering f r)
through f (Ok x) h = all-is After _ (h x refl)
through f (Err n) h = λ y e. no_value e

timed-agrees : (now : Moment) (status : HandshakeStatus) (c : Connection) → Agrees c → All Agrees (timed now status c)
unfolding timed
timed-agrees now status c a =
    all_then Agrees (timer_of (facts_of now status c)) (λ t. Ok (with_shared (with_timer t c.shared) c)) λ t e. all-is Agrees _ (shared_same c a (with_timer t c.shared) refl)

-- an event that ends in the timer, and perhaps in something that leaves what agrees
ends : {A : Type 0} (now : Moment) (status : HandshakeStatus) (d : Connection) (x : A) (ms : List Move) (f : Connection → Connection) → ((e : Connection) → Agrees e → Agrees (f e)) → Agrees d →
    All After (then (timed now status d) λ e. Ok (record { state = f e; answer = x; moves = ms }))
ends now status d x ms f keeps a =
    all_then After (timed now status d) (λ e. Ok (record { state = f e; answer = x; moves = ms })) λ e q.
    all-is After (record { state = f e; answer = x; moves = ms }) (keeps e (timed-agrees now status d a e q))

module _ (c : Connection) (a : Agrees c) where
  -- ---- sent

  module _ (now : Moment) (n : ℕ) (p : Packet) where
    record-bytes : (in_flight : ℕ) → outstanding (space_sent now p in_flight (space_at n c)).records ≡ outstanding (space_at n c).records + outstanding (sent_now now p ∷ [])
    record-bytes in_flight = of_parts (space_at n c).records (sent_now now p ∷ [])

    record-count : (in_flight : ℕ) → count_out (space_sent now p in_flight (space_at n c)).records ≡ count_out (space_at n c).records + count_out (sent_now now p ∷ [])
    record-count in_flight = counted-parts (space_at n c).records (sent_now now p ∷ [])

    sent-flying : (status : HandshakeStatus) (run : ℕ) → p.in_flight ≡ true → All After (sent_in_flight now n p status run c)
    unfolding sent_in_flight sent_now
    sent-flying status run flies =
        all_then After (sum_of (space_at n c).epoch.in_flight_count 1) _ λ in_flight e.
        all_then After (sum_of c.shared.bytes_in_flight p.size) _ λ bytes f.
        let out = both (sent_now now p) flies refl in
        ends now status (with_shared (shared_sent now run bytes c.shared) (with_space n (space_sent now p in_flight (space_at n c)) c)) 0 [] (λ e. e) (λ e b. b)
        (put n c a (space_sent now p in_flight (space_at n c))
        (omega (arith, (sum_is (space_at n c).epoch.in_flight_count 1 e).0, counted n c a, record-count in_flight, out-count (sent_now now p) out))
        (shared_sent now run bytes c.shared) (sum_is c.shared.bytes_in_flight p.size f).1
        (omega (arith, (sum_is c.shared.bytes_in_flight p.size f).0, record-bytes in_flight, out-bytes (sent_now now p) out)))

    sent-aside : (run : ℕ) → p.in_flight ≡ false → All After (sent_aside now n p run c)
    unfolding sent_aside sent_now
    sent-aside run lies =
        let out = aside (sent_now now p) lies in
        all-is After _
        (put n c a (space_sent now p (space_at n c).epoch.in_flight_count (space_at n c))
        (omega (arith, counted n c a, record-count (space_at n c).epoch.in_flight_count, gone-count (sent_now now p) out))
        (shared_sent now run c.shared.bytes_in_flight c.shared) a.small
        (omega (arith, record-bytes (space_at n c).epoch.in_flight_count, gone-bytes (sent_now now p) out)))

    sent-agrees : (status : HandshakeStatus) → All After (on_packet_sent now n p status c)
    unfolding on_packet_sent
    sent-agrees status =
        all-must After (on_clock c.shared.clock now) Clock _
        (all-must After (is_packet n p) Domain _
        (all-must After (is_newer (space_at n c).epoch.largest_sent_packet p.number) Stale _
        (all-must After (ltb (length (space_at n c).records) capacity) Full _ (running p.ack_eliciting))))
      where
        either : (run : ℕ) → All After (cond p.in_flight (sent_in_flight now n p status run c) (sent_aside now n p run c))
        either run =
            all-cond After p.in_flight (sent_in_flight now n p status run c) (sent_aside now n p run c) (λ e. sent-flying status run e) (λ e. sent-aside run e)

        running : (b : Bool) → All After (run_after b c.shared.outstanding_non_ack_eliciting (λ run. cond p.in_flight (sent_in_flight now n p status run c) (sent_aside now n p run c)))
        running true = either 0
        running false = all-reach After (sum_of c.shared.outstanding_non_ack_eliciting 1) _ either

  -- ---- acknowledgement

  module _ (now : Moment) (n : ℕ) where
    -- nothing newly acked: as much is out as before
    nothing-agrees : (l : List Sent) (m : Met) (o : Reordering) → Shrunk (space_at n c) (space_acked l m (space_at n c).epoch.largest_acked_packet (space_at n c)) 0 →
        All After (acked_nothing now n l m o c)
    unfolding acked_nothing
    nothing-agrees l m o x =
        all_then After (control (forgive_by m.spurious_in_flight) c.shared.congestion) _ λ g e.
        all-is After _
        (put n c a (space_acked l m (space_at n c).epoch.largest_acked_packet (space_at n c)) (x.counted (counted n c a)) _ a.small (omega (arith, x.bytes)))

    some-agrees : (delay : Span) (status : HandshakeStatus) (limited : Bool) (l : List Sent) (m : Met) (last : Sent) (o : Reordering) →
        ((largest : Option ℕ) → Shrunk (space_at n c) (space_acked l m largest (space_at n c)) m.acked_bytes) → All After (acked_some now n delay status limited l m last o c)
    unfolding acked_some
    some-agrees delay status limited l m last o shrunk =
        all_then After (sampled now delay status old last m.newly c.shared.rtt) _ λ rtt x.
        all_then After (detect_lost_packets now rtt o c.shared.bytes_in_flight (space_acked l m (Some (stored_largest old last)) (space_at n c))) _ λ d y.
        all_then After (control (forgive_by m.spurious_in_flight ++ (d.moves ++ ack_each now limited rtt.min_rtt m.newly)) c.shared.congestion) _ λ h z.
        let s = shrunk (Some (stored_largest old last)) in
        let t = detects now rtt o c.shared.bytes_in_flight (space_acked l m (Some (stored_largest old last)) (space_at n c)) d y in
        ends now status (with_shared (shared_acked now rtt o (d.bytes - m.acked_bytes) h c.shared) (with_space n d.space c))
        (outcome d.packets d.lost_bytes m.acked_bytes m.spurious) _ (λ e. with_space n (drained_again now rtt (space_at n e)) e)
        (λ e b. let w = drained-space now rtt (space_at n e) in put_same n e b (drained_again now rtt (space_at n e)) (w.counted (counted n e b)) (omega (arith, w.bytes)))
        (put n c a d.space (t.shrunk.counted (s.counted (counted n c a))) (shared_acked now rtt o (d.bytes - m.acked_bytes) h c.shared)
        (omega (arith, a.small, t.left))
        (omega (arith, t.left, t.shrunk.bytes, s.bytes, share n c a)))
      where
        old : Option ℕ
        old = (space_at n c).epoch.largest_acked_packet

    by_agrees : (r : Sent) (ns : List Sent) (delay : Span) (status : HandshakeStatus) (limited : Bool) (l : List Sent) (m : Met) (o : Reordering) →
        ((largest : Option ℕ) → Shrunk (space_at n c) (space_acked l m largest (space_at n c)) m.acked_bytes) → All After (acked_by (r ∷ ns) now n delay status limited l m o c)
    unfolding acked_by
    by_agrees r [] delay status limited l m o x = some-agrees delay status limited l m r o x
    by_agrees r (q ∷ ns) delay status limited l m o x = by_agrees q ns delay status limited l m o x

    abbrev begun : Met
    begun =
        record {
          queue = (space_at n c).acked_frames;
          newly = [];
          acked_bytes = 0;
          in_flight = (space_at n c).epoch.in_flight_count;
          spurious = 0;
          distance = None;
          spurious_in_flight = false;
        }

    either-agrees : (l : List Sent) (m : Met) (smoothed : Span) → Taken (space_at n c).records l begun m → (ns : List Sent) → m.newly ≡ ns →
        (delay : Span) (status : HandshakeStatus) (limited : Bool) (o : Reordering) → All After (acked_by ns now n delay status limited (drained now smoothed l) m o c)
    unfolding acked_by
    either-agrees l m smoothed x [] e delay status limited o =
        let s = acked-space now smoothed (space_at n c) l begun m (space_at n c).epoch.largest_acked_packet refl refl x in
        let none : x.more ≡ [] = sym x.newly ∙ e in
        nothing-agrees (drained now smoothed l) m o (record { bytes = omega (arith, s.bytes, x.bytes, (x.none none).0); counted = s.counted })
    either-agrees l m smoothed x (r ∷ ns) e delay status limited o =
        by_agrees r ns delay status limited (drained now smoothed l) m o (λ largest. acked-space now smoothed (space_at n c) l begun m largest refl refl x)

    ack-agrees : (words : List ℕ) (delay : ℕ) (status : HandshakeStatus) (limited : Bool) (skipped : Option ℕ) → All After (on_ack_received now n words delay status limited skipped c)
    unfolding on_ack_received acknowledge
    ack-agrees words delay status limited skipped =
        all-must After (on_clock c.shared.clock now) Clock _
        (all-must After (is_space n && is_skipped skipped) Domain _
        (all-must After (are_ranges words) Ranges _
        (all-must After (not (hold_skipped words skipped)) Skipped _
        (all-reach After (times_of 1000 delay) _ λ ns.
        all_then After (meet_all (largest_for (space_at n c).epoch.largest_acked_packet words) (covered words (space_at n c).records) (space_at n c).records begun) _ λ m x.
        all_then After (reordered m.met.distance m.met.spurious c.shared.reordering) _ λ o y.
        either-agrees m.records m.met c.shared.rtt.smoothed_rtt
        (meet-all (largest_for (space_at n c).epoch.largest_acked_packet words) (covered words (space_at n c).records) (space_at n c).records begun m x)
        m.met.newly refl (span ns) status limited o))))

  -- ---- timeout

  -- a space put back with its records and its count
  quiet : (n : ℕ) (t : Space) → t.records ≡ (space_at n c).records → t.epoch.in_flight_count ≡ (space_at n c).epoch.in_flight_count → Counted t
  quiet n t e f = f ∙ counted n c a ∙ ap count_out (sym e)

  timeout-agrees : (now : Moment) (status : HandshakeStatus) → All After (on_loss_detection_timeout now status c)
  unfolding on_loss_detection_timeout timeout_by timeout_loss timeout_probe
  timeout-agrees now status = all-must After (on_clock c.shared.clock now) Clock _ (by earliest.time)
    where
      earliest : TimeAndSpace
      earliest = loss_time_and_space c.initial.epoch c.handshake.epoch c.application.epoch

      by : (t : Option Moment) → All After (timeout_by t earliest.space now status c)
      by (Some t) =
          all_then After (detect_lost_packets now c.shared.rtt c.shared.reordering c.shared.bytes_in_flight (space_at earliest.space c)) _ λ d y.
          all_then After (control d.moves c.shared.congestion) _ λ h z.
          let t = detects now c.shared.rtt c.shared.reordering c.shared.bytes_in_flight (space_at earliest.space c) d y in
          ends now status (with_shared (shared_timeout now c.shared.pto_count d.bytes h c.shared) (with_space earliest.space d.space c))
          (timeout_outcome d.packets d.lost_bytes) _ (λ e. e) (λ e b. b)
          (put earliest.space c a d.space (t.shrunk.counted (counted earliest.space c a)) (shared_timeout now c.shared.pto_count d.bytes h c.shared)
          (omega (arith, a.small, t.left))
          (omega (arith, t.left, t.shrunk.bytes, share earliest.space c a)))
      by None =
          all_then After (probe_space (facts_of now status c)) _ λ n x.
          all-cond After (leb (c.shared.pto_count + 1) 4294967295) _ _
          (λ e.
          all_then After (probe_queue (min (c.shared.pto_count + 1) 2) (space_at n c)) _ λ q y.
          ends now status
          (with_shared (shared_timeout now (c.shared.pto_count + 1) c.shared.bytes_in_flight c.shared.congestion c.shared)
          (with_space n (space_probed (min (c.shared.pto_count + 1) 2) q (space_at n c)) c))
          (timeout_outcome 0 0) [] (λ e. e) (λ e b. b)
          (put n c a (space_probed (min (c.shared.pto_count + 1) 2) q (space_at n c)) (quiet n (space_probed (min (c.shared.pto_count + 1) 2) q (space_at n c)) refl refl) _ a.small refl))
          (λ e x p. no_value p)

  -- ---- the other events

  discard-agrees : (now : Moment) (n : ℕ) (status : HandshakeStatus) → All After (on_space_discarded now n status c)
  unfolding on_space_discarded outstanding count_out
  discard-agrees now n status =
      all-must After (on_clock c.shared.clock now) Clock _
      (all-must After (is_space n) Domain _
      (all_then After (within (outstanding (space_at n c).records)) _ λ bytes e.
      ends now status
      (with_shared (shared_timeout now c.shared.pto_count (c.shared.bytes_in_flight - bytes) c.shared.congestion c.shared) (with_space n (space_discarded (space_at n c)) c))
      0 [] (λ e. e) (λ e b. b)
      (put n c a (space_discarded (space_at n c)) refl (shared_timeout now c.shared.pto_count (c.shared.bytes_in_flight - bytes) c.shared.congestion c.shared)
      (omega (arith, a.small))
      (omega (arith, fine-is (outstanding (space_at n c).records) e, share n c a)))))

  size-agrees : (size : ℕ) → All After (on_size_change size c)
  unfolding on_size_change
  size-agrees size =
      all-must After (is_datagram_size size) Domain _
      (all_then After (control (resize c.shared.max_datagram_size size ∷ []) c.shared.congestion) _ λ h e. all-is After _ (shared_same c a _ refl))

  still : {A : Type 0} (n : ℕ) (t : Space) (x : A) → t.records ≡ (space_at n c).records → t.epoch.in_flight_count ≡ (space_at n c).epoch.in_flight_count →
      All After (Ok (record { state = with_space n t c; answer = x; moves = [] }))
  still n t x e f = all-is After _ (put_same n c a t (quiet n t e f) (ap outstanding (sym e)))

  taken : (l : List ℕ) (n : ℕ) → All After (Ok (taken_lost l n (space_at n c) c))
  unfolding taken_lost
  taken [] n = still n _ _ refl refl
  taken (h ∷ q) n = still n _ _ refl refl

  pub agrees-step : (e : Event) → All After (step e c)
  unfolding step next_acked_frame next_lost_frame ping_sent
  agrees-step (sent now n p status) = through (λ x. done) _ (sent-agrees now n p status)
  agrees-step (acked now n words delay status limited skipped) = through of_ack _ (ack-agrees now n words delay status limited skipped)
  agrees-step (timeout now status) = through of_timeout _ (timeout-agrees now status)
  agrees-step (discarded now n status) = through (λ x. done) _ (discard-agrees now n status)
  agrees-step (size_change size) = through (λ x. done) _ (size-agrees size)
  agrees-step (take_acked n) = through handle _ (all-must After (is_space n) Domain _ (still n _ _ refl refl))
  agrees-step (take_lost n) = through handle _ (all-must After (is_space n) Domain _ (taken (space_at n c).lost_frames_ack n))
  agrees-step (ping n) = through (λ x. done) _ (all-must After (is_space n) Domain _ (still n _ _ refl refl))

-- a refused call changes nothing
agrees_after : (e : Event) (c : Connection) → Agrees c → Agrees (after e c)
unfolding after
agrees_after e c a = go (step e c) (agrees-step c a e)
  where
    go : (r : Result (Step Answer) Refusal) → All After r → Agrees (state_by c r)
    go (Ok x) h = h x refl
    go (Err n) h = a

pub agrees-run : (calls : List Event) (c : Connection) → Agrees c → Agrees (run calls c)
unfolding run
agrees-run [] c a = a
agrees-run (e ∷ l) c a = agrees-run l (after e c) (agrees_after e c a)

agrees-fresh : (s : Settings) → All Agrees (fresh s)
unfolding fresh space_fresh shared_fresh epoch_fresh outstanding count_out
agrees-fresh s = all-must Agrees (are_settings s) Domain _ (all-is Agrees _ (record { bytes = refl; small = omega arith; initial = refl; handshake = refl; application = refl }))

-- what agrees is what an audit of all records answers
audit-agrees : (c : Connection) → Agrees c → total_of (all_records c) ≡ Ok c.shared.bytes_in_flight
unfolding total_of all_records
audit-agrees c a =
    ap within (of_parts c.initial.records _ ∙ ap (λ (k : ℕ). outstanding c.initial.records + k) (of_parts c.handshake.records _) ∙ sym a.bytes)
    ∙ within-fine c.shared.bytes_in_flight a.small

pub in-flight : (s : Settings) (c : Connection) → fresh s ≡ Ok c → (calls : List Event) → InFlight c calls
in-flight s c e calls =
    let a = agrees-run calls c (agrees-fresh s c e) in
    record { audit = audit-agrees (run calls c) a; agrees = a }

-- The stored counts, at every event: the controller is told what the answer says was lost, and the spurious count rises by the spurious losses. Assumes nothing.
use mathlib.Core.Path.{◌≡◌, refl, ap, sym, ◌∙◌}
use mathlib.Core.Bool.{Bool, true, false, cond, ◌&&◌, not}
use mathlib.Core.List.{List, [], ◌∷◌, ◌++◌}
use Prim.Native.Nat.{ℕ, ◌+◌, ◌-◌, min}
use native.Mathlib.Nat.{add-zero, zero-add}
use lib.Dec.{leb, ltb}
use lib.ListN.{length}
use Rattle.arith.specs.Whole.{within, sum_of, times_of}
use Rattle.arith.specs.Time.{span}
use Rattle.arith.specs.declared.time.Moment.{Moment}
use Rattle.arith.specs.declared.time.Span.{Span}
use Rattle.arith.specs.Refusals.{then}
use Rattle.model.specs.Numbers.{on_clock, is_space, is_datagram_size, capacity}
use Rattle.model.specs.Sent.{drained, newest, rest}
use Rattle.model.specs.Ranges.{are_ranges, hold_skipped, is_skipped, largest_for}
use Rattle.model.specs.Ack.{Met, meet_all, reordered_by, reordered}
use Rattle.model.specs.Timer.{loss_time_and_space, probe_space}
use Rattle.model.specs.Control.{resize, control, forgive_by, ack_each}
use Rattle.model.specs.Connection.{Space, Connection, space_at, with_space, with_shared, facts_of, timed, outstanding}
use Rattle.model.specs.Events.{Step, is_packet, is_newer, run_after, space_sent, shared_sent, sent_in_flight, sent_aside, on_packet_sent, Detection, detect_lost_packets, stored_largest, sampled, space_acked, acked_nothing, shared_acked, drained_again, acked_some, acked_by, acknowledge, on_ack_received, timeout_outcome, shared_timeout, timeout_loss, probe_queue, space_probed, timeout_probe, timeout_by, on_loss_detection_timeout, space_discarded, on_space_discarded, on_size_change, with_queues, next_acked_frame, taken_lost, next_lost_frame, ping_sent}
use Rattle.model.specs.Run.{Event, sent, acked, timeout, discarded, size_change, take_acked, take_lost, ping, Answer, done, of_ack, of_timeout, handle, answering, step}
use Rattle.model.specs.Strength.{places, forgiven, lost_by, spurious_by}
use Rattle.model.specs.declared.HandshakeStatus.{HandshakeStatus}
use Rattle.model.specs.declared.OnAckReceivedOutcome.{OnAckReceivedOutcome}
use Rattle.model.specs.declared.OnLossDetectionTimeoutOutcome.{OnLossDetectionTimeoutOutcome}
use Rattle.model.specs.declared.Packet.{Packet}
use Rattle.arith.specs.declared.refusal.Refusal.TheVariants.{Clock, Domain, Stale, Ranges, Skipped, Full}
use Rattle.model.specs.declared.Reordering.{Reordering}
use Rattle.model.specs.declared.Rtt.{Rtt}
use Rattle.model.specs.declared.Sent.{Sent}
use Rattle.model.specs.declared.Shared.{Shared}
use Rattle.model.specs.declared.TimeAndSpace.{TimeAndSpace}
use Rattle.model.proofs.Peel.{All, all-is, all_then, all-must, all-cond, all-reach, no_value}
use Rattle.model.proofs.Counts.{sum_is, meets}
use Rattle.model.proofs.Events.{with-shared}
use Rattle.model.proofs.Told.{told, told-append, told-forgive, told-lost, told-acks}
use Rattle.model.proofs.Remains.{ended}
use Rattle.model.proofs.Detecting.{Found, found}
use Rattle.std.specs.Prelude.{Result, Ok, Err, Option, Some, None}
use Rattle.arith.specs.declared.refusal.Refusal.{Refusal}

-- ---- the stored counts
module _ (c : Connection) where
  abbrev spurious_of : Connection → ℕ
  spurious_of d = d.shared.reordering.lost_spurious_count

  -- the controller is told what the answer says was lost, and the spurious count is so much more
  abbrev Counted : {A : Type 0} → (A → ℕ) → ℕ → Step A → Type 0
  Counted f k x = (told x.moves ≡ f x.answer) × (spurious_of x.state ≡ spurious_of c + k)

  answered : {A : Type 0} (f : A → Answer) (k : ℕ) (r : Result (Step A) Refusal) → All (Counted (λ a. lost_by (f a)) k) r → All (Counted lost_by k) (answering f r)
  answered f k (Ok x) h = all-is (Counted lost_by k) (record { state = x.state; answer = f x.answer; moves = x.moves }) (h x refl)
  answered f k (Err n) h = λ y e. no_value e

  -- an event that tells nothing
  counts-still : {A : Type 0} (f : A → ℕ) (d : Connection) (a : A) → spurious_of d ≡ spurious_of c → f a ≡ 0 → Counted f 0 (record { state = d; answer = a; moves = [] })
  unfolding told
  counts-still f d a e z = (sym z, e ∙ sym (add-zero _))

  counts-timed : {A : Type 0} (f : A → ℕ) (now : Moment) (status : HandshakeStatus) (x : Shared) (w : Connection) (a : A) →
      x.reordering ≡ c.shared.reordering → f a ≡ 0 → All (Counted f 0) (then (timed now status (with_shared x w)) λ d. Ok (record { state = d; answer = a; moves = [] }))
  counts-timed f now status x w a e z =
      all_then (Counted f 0) (timed now status (with_shared x w)) (λ d. Ok (record { state = d; answer = a; moves = [] })) λ d y.
      all-is (Counted f 0) _
      (counts-still f d a (ap (λ (k : Connection). spurious_of k) (ended now status x w d y).1 ∙ ap (λ (o : Reordering). o.lost_spurious_count) e) z)

  counts-put : {A : Type 0} (f : A → ℕ) (n : ℕ) (s : Space) (a : A) → f a ≡ 0 → All (Counted f 0) (Ok (record { state = with_space n s c; answer = a; moves = [] }))
  counts-put f n s a z = all-is (Counted f 0) _ (counts-still f (with_space n s c) a (ap (λ (x : Shared). x.reordering.lost_spurious_count) (with-shared n s c)) z)

  abbrev none : ℕ → ℕ
  none a = 0

  counts-sent : (now : Moment) (n : ℕ) (p : Packet) (status : HandshakeStatus) → All (Counted none 0) (on_packet_sent now n p status c)
  unfolding on_packet_sent sent_in_flight sent_aside told
  counts-sent now n p status =
      all-must P (on_clock c.shared.clock now) Clock _
      (all-must P (is_packet n p) Domain _
      (all-must P (is_newer (space_at n c).epoch.largest_sent_packet p.number) Stale _
      (all-must P (ltb (length (space_at n c).records) capacity) Full _ (running p.ack_eliciting))))
    where
      P : Step ℕ → Type 0
      P = Counted none 0

      way : (run : ℕ) → All P (cond p.in_flight (sent_in_flight now n p status run c) (sent_aside now n p run c))
      way run =
          all-cond P p.in_flight (sent_in_flight now n p status run c) (sent_aside now n p run c)
          (λ e.
          all-reach P (sum_of (space_at n c).epoch.in_flight_count 1) _ λ in_flight.
          all-reach P (sum_of c.shared.bytes_in_flight p.size) _ λ bytes.
          counts-timed none now status (shared_sent now run bytes c.shared) (with_space n (space_sent now p in_flight (space_at n c)) c) 0 refl refl)
          (λ e. all-is P _ (refl, sym (add-zero _)))

      running : (b : Bool) → All P (run_after b c.shared.outstanding_non_ack_eliciting (λ run. cond p.in_flight (sent_in_flight now n p status run c) (sent_aside now n p run c)))
      running true = way 0
      running false = all-reach P (sum_of c.shared.outstanding_non_ack_eliciting 1) _ way

  -- a detection tells the packets that it counts
  told-found : (now : Moment) (rtt : Rtt) (o : Reordering) (bytes : ℕ) (s : Space) (d : Detection) → Found now rtt o bytes s d → told d.moves ≡ d.packets
  told-found now rtt o bytes s d f =
      ap (λ (x : Detection). told x.moves) f.is ∙ told-lost now f.seen.lost.last f.seen.lost.packets ∙ ap (λ (x : Detection). x.packets) (sym f.is)

  module _ (now : Moment) (n : ℕ) (k : ℕ) (m : Met) (o : Reordering) (more : o.lost_spurious_count ≡ spurious_of c + k) where
    abbrev Acks : Step OnAckReceivedOutcome → Type 0
    Acks = Counted (λ a. a.lost_packets) k

    counts-nothing : (l : List Sent) → All Acks (acked_nothing now n l m o c)
    unfolding acked_nothing
    counts-nothing l =
        all_then Acks (control (forgive_by m.spurious_in_flight) c.shared.congestion) _ λ h e. all-is Acks _ (told-forgive m.spurious_in_flight, more)

    counts_some : (delay : Span) (status : HandshakeStatus) (limited : Bool) (l : List Sent) (last : Sent) → All Acks (acked_some now n delay status limited l m last o c)
    unfolding acked_some
    counts_some delay status limited l last =
        all_then Acks (sampled now delay status old last m.newly c.shared.rtt) _ λ rtt x.
        all_then Acks (detect_lost_packets now rtt o c.shared.bytes_in_flight s) _ λ d y.
        all_then Acks (control (forgive_by m.spurious_in_flight ++ (d.moves ++ ack_each now limited rtt.min_rtt m.newly)) c.shared.congestion) _ λ h z.
        all_then Acks (timed now status (with_shared (shared_acked now rtt o (d.bytes - m.acked_bytes) h c.shared) (with_space n d.space c))) _ λ e w.
        all-is Acks _ (
          told-append (forgive_by m.spurious_in_flight) (d.moves ++ ack_each now limited rtt.min_rtt m.newly)
              ∙ rw (told-forgive m.spurious_in_flight, told-append d.moves (ack_each now limited rtt.min_rtt m.newly), told-acks now limited rtt.min_rtt m.newly)
              (zero-add _ ∙ add-zero _ ∙ told-found now rtt o c.shared.bytes_in_flight s d (found now rtt o c.shared.bytes_in_flight s d y)),
          ap (λ (x : Shared). x.reordering.lost_spurious_count) (with-shared n (drained_again now rtt (space_at n e)) e)
              ∙ ap (λ (x : Connection). spurious_of x) (ended now status (shared_acked now rtt o (d.bytes - m.acked_bytes) h c.shared) (with_space n d.space c) e w).1
              ∙ more,
        )
      where
        old : Option ℕ
        old = (space_at n c).epoch.largest_acked_packet

        s : Space
        s = space_acked l m (Some (stored_largest old last)) (space_at n c)

    counts-by : (ns : List Sent) (delay : Span) (status : HandshakeStatus) (limited : Bool) (l : List Sent) → All Acks (acked_by ns now n delay status limited l m o c)
    unfolding acked_by
    counts-by [] delay status limited l = counts-nothing l
    counts-by (r ∷ []) delay status limited l = counts_some delay status limited l r
    counts-by (r ∷ (q ∷ ns)) delay status limited l = counts-by (q ∷ ns) delay status limited l

  counts-reordered : (distance : Option ℕ) (spurious : ℕ) → All (λ o. o.lost_spurious_count ≡ spurious_of c + spurious) (reordered distance spurious c.shared.reordering)
  unfolding reordered reordered_by
  counts-reordered distance spurious =
      all_then P (sum_of (spurious_of c) spurious) _ λ total e. all-is P _ (by distance total (sum_is (spurious_of c) spurious total e))
    where
      P : Reordering → Type 0
      P o = o.lost_spurious_count ≡ spurious_of c + spurious

      by : (d : Option ℕ) (total : ℕ) → total ≡ spurious_of c + spurious → P (reordered_by d total c.shared.reordering)
      by None total e = e
      by (Some d) total e = e

  counts-ack : (now : Moment) (n : ℕ) (words : List ℕ) (delay : ℕ) (status : HandshakeStatus) (limited : Bool) (skipped : Option ℕ) →
      All (Counted (λ a. a.lost_packets) (length (forgiven n words c))) (on_ack_received now n words delay status limited skipped c)
  unfolding on_ack_received acknowledge
  counts-ack now n words delay status limited skipped =
      all-must P (on_clock c.shared.clock now) Clock _
      (all-must P (is_space n && is_skipped skipped) Domain _
      (all-must P (are_ranges words) Ranges _
      (all-must P (not (hold_skipped words skipped)) Skipped _
      (all-reach P (times_of 1000 delay) _ λ ns.
      all_then P (meet_all largest (places n words c) (space_at n c).records start) _ λ a e.
      all_then P (reordered a.met.distance a.met.spurious c.shared.reordering) _ λ o f.
      let g : a.met.spurious ≡ length (forgiven n words c) = (meets largest (places n words c) (space_at n c).records start a e).gathers.spurious ∙ zero-add _ in
      counts-by now n (length (forgiven n words c)) a.met o (counts-reordered a.met.distance a.met.spurious o f ∙ ap (λ (x : ℕ). spurious_of c + x) g) a.met.newly (span ns) status limited
      (drained now c.shared.rtt.smoothed_rtt a.records)))))
    where
      P : Step OnAckReceivedOutcome → Type 0
      P = Counted (λ a. a.lost_packets) (length (forgiven n words c))

      largest : ℕ
      largest = largest_for (space_at n c).epoch.largest_acked_packet words

      start : Met
      start =
          record {
            queue = (space_at n c).acked_frames;
            newly = [];
            acked_bytes = 0;
            in_flight = (space_at n c).epoch.in_flight_count;
            spurious = 0;
            distance = None;
            spurious_in_flight = false;
          }

  counts-timeout : (now : Moment) (status : HandshakeStatus) → All (Counted (λ a. a.lost_packets) 0) (on_loss_detection_timeout now status c)
  unfolding on_loss_detection_timeout timeout_by timeout_loss timeout_probe
  counts-timeout now status = all-must P (on_clock c.shared.clock now) Clock _ (by earliest.time earliest.space)
    where
      P : Step OnLossDetectionTimeoutOutcome → Type 0
      P = Counted (λ a. a.lost_packets) 0

      earliest : TimeAndSpace
      earliest = loss_time_and_space c.initial.epoch c.handshake.epoch c.application.epoch

      by : (t : Option Moment) (n : ℕ) → All P (timeout_by t n now status c)
      by (Some t) n =
          all_then P (detect_lost_packets now c.shared.rtt c.shared.reordering c.shared.bytes_in_flight (space_at n c)) _ λ d x.
          all_then P (control d.moves c.shared.congestion) _ λ g y.
          all_then P (timed now status (with_shared (shared_timeout now c.shared.pto_count d.bytes g c.shared) (with_space n d.space c))) _ λ e z.
          all-is P _ (
            told-found now c.shared.rtt c.shared.reordering c.shared.bytes_in_flight (space_at n c) d
                (found now c.shared.rtt c.shared.reordering c.shared.bytes_in_flight (space_at n c) d x),
            ap (λ (k : Connection). spurious_of k) (ended now status (shared_timeout now c.shared.pto_count d.bytes g c.shared) (with_space n d.space c) e z).1 ∙ sym (add-zero _),
          )
      by None n =
          all_then P (probe_space (facts_of now status c)) _ λ k x.
          all-cond P (leb (c.shared.pto_count + 1) 4294967295) _ _
          (λ e.
          all_then P (probe_queue (min (c.shared.pto_count + 1) 2) (space_at k c)) _ λ q y.
          counts-timed (λ a. a.lost_packets) now status
          (shared_timeout now (c.shared.pto_count + 1) c.shared.bytes_in_flight c.shared.congestion c.shared)
          (with_space k (space_probed (min (c.shared.pto_count + 1) 2) q (space_at k c)) c) (timeout_outcome 0 0) refl refl)
          (λ e a p. no_value p)

  counts-discard : (now : Moment) (n : ℕ) (status : HandshakeStatus) → All (Counted none 0) (on_space_discarded now n status c)
  unfolding on_space_discarded
  counts-discard now n status =
      all-must (Counted none 0) (on_clock c.shared.clock now) Clock _
      (all-must (Counted none 0) (is_space n) Domain _
      (all-reach (Counted none 0) (within (outstanding (space_at n c).records)) _ λ bytes.
      counts-timed none now status (shared_timeout now c.shared.pto_count (c.shared.bytes_in_flight - bytes) c.shared.congestion c.shared)
      (with_space n (space_discarded (space_at n c)) c) 0 refl refl))

  counts-size : (size : ℕ) → All (Counted none 0) (on_size_change size c)
  unfolding on_size_change told
  counts-size size =
      all-must (Counted none 0) (is_datagram_size size) Domain _
      (all_then (Counted none 0) (control (resize c.shared.max_datagram_size size ∷ []) c.shared.congestion) _ λ h e.
      all-is (Counted none 0) _ (refl, sym (add-zero _)))

  counts-taken : (q : List ℕ) (n : ℕ) (s : Space) → All (Counted none 0) (Ok (taken_lost q n s c))
  unfolding taken_lost
  counts-taken [] n s = counts-put none n (with_queues s.acked_frames [] (rest s.lost_frames_pto) s) (newest s.lost_frames_pto) refl
  counts-taken (h ∷ q) n s = counts-put none n (with_queues s.acked_frames (rest (h ∷ q)) s.lost_frames_pto s) (newest (h ∷ q)) refl

  pub counted : (e : Event) → All (Counted lost_by (spurious_by e c)) (step e c)
  unfolding step next_acked_frame next_lost_frame ping_sent
  counted (sent now n p status) = answered (λ a. done) 0 _ (counts-sent now n p status)
  counted (acked now n words delay status limited skipped) = answered of_ack (length (forgiven n words c)) _ (counts-ack now n words delay status limited skipped)
  counted (timeout now status) = answered of_timeout 0 _ (counts-timeout now status)
  counted (discarded now n status) = answered (λ a. done) 0 _ (counts-discard now n status)
  counted (size_change size) = answered (λ a. done) 0 _ (counts-size size)
  counted (take_acked n) =
      answered handle 0 _
      (all-must (Counted none 0) (is_space n) Domain _
      (counts-put none n (with_queues (rest (space_at n c).acked_frames) (space_at n c).lost_frames_ack (space_at n c).lost_frames_pto (space_at n c)) (newest (space_at n c).acked_frames) refl))
  counted (take_lost n) = answered handle 0 _ (all-must (Counted none 0) (is_space n) Domain _ (counts-taken (space_at n c).lost_frames_ack n (space_at n c)))
  counted (ping n) =
      answered (λ a. done) 0 _
      (all-must (Counted none 0) (is_space n) Domain _ (counts-put none n _ 0 refl))

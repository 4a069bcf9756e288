-- The controller after an event is the doing of the event's moves. Assumes nothing.
use mathlib.Core.Path.{◌≡◌, refl, ap, sym, ◌∙◌}
use mathlib.Core.Bool.{Bool, true, false, cond, ◌&&◌, not}
use mathlib.Core.List.{List, [], ◌∷◌, ◌++◌}
use Prim.Native.Nat.{ℕ, ◌+◌, ◌-◌, min}
use lib.Dec.{eqb, ltb, leb}
use lib.ListN.{length}
use Rattle.arith.specs.Whole.{within, sum_of, times_of}
use Rattle.arith.specs.Time.{span}
use Rattle.arith.specs.declared.time.Moment.{Moment}
use Rattle.arith.specs.declared.time.Span.{Span}
use Rattle.arith.specs.Refusals.{then}
use Rattle.model.specs.Numbers.{on_clock, is_space, is_datagram_size, capacity}
use Rattle.model.specs.Control.{Move, resize, moved, control, forgive_by, ack_each}
use Rattle.model.specs.Connection.{outstanding, Space, Connection, space_at, with_space, with_shared, with_timer, facts_of, timed}
use Rattle.model.specs.Timer.{timer_of}
use Rattle.model.specs.Timer.{loss_time_and_space, probe_space}
use Rattle.model.specs.Ack.{Met, meet_all, reordered}
use Rattle.model.specs.Ranges.{are_ranges, hold_skipped, is_skipped, largest_for}
use Rattle.model.specs.Sent.{covered, drained}
use Rattle.model.specs.Events.{Step, run_after, is_packet, is_newer, sent_in_flight, sent_aside, on_packet_sent, detect_lost_packets, stored_largest, sampled, space_acked, outcome, acked_nothing, shared_acked, drained_again, acked_some, acked_by, acknowledge, on_ack_received, timeout_outcome, shared_timeout, timeout_loss, probe_queue, timeout_probe, timeout_by, on_loss_detection_timeout, on_space_discarded, on_size_change, next_acked_frame, taken_lost, next_lost_frame, ping_sent}
use Rattle.model.specs.Run.{Event, sent, acked, timeout, discarded, size_change, take_acked, take_lost, ping, Answer, done, of_ack, of_timeout, handle, answering, step}
use Rattle.model.specs.declared.Congestion.{Congestion}
use Rattle.model.specs.declared.HandshakeStatus.{HandshakeStatus}
use Rattle.model.specs.declared.Packet.{Packet}
use Rattle.arith.specs.declared.refusal.Refusal.TheVariants.{Clock, Domain, Stale, Ranges, Skipped, Full}
use Rattle.model.specs.declared.Reordering.{Reordering}
use Rattle.model.specs.declared.Sent.{Sent}
use Rattle.model.specs.declared.Shared.{Shared}
use Rattle.model.specs.declared.TimeAndSpace.{TimeAndSpace}
use Rattle.model.proofs.Peel.{All, all-is, all_then, all-cond, all-reach, all-must, no_value}
use Rattle.std.specs.Prelude.{Result, Ok, Err, Option, Some, None}
use Rattle.arith.specs.declared.refusal.Refusal.{Refusal}

pub control-append : (ms ns : List Move) (g : Congestion) → control (ms ++ ns) g ≡ then (control ms g) (λ h. control ns h)
unfolding control
control-append [] ns g = refl
control-append (m ∷ ms) ns g = go (λ h. control-append ms ns h) (moved m g)
  where
    go : ((h : Congestion) → control (ms ++ ns) h ≡ then (control ms h) (λ k. control ns k)) → (x : Result Congestion Refusal) →
        then x (λ h. control (ms ++ ns) h) ≡ then (then x (λ h. control ms h)) (λ h. control ns h)
    go ih (Ok h) = ih h
    go ih (Err n) = refl

-- putting a space back leaves what is shared
pub with-shared : (n : ℕ) (s : Space) (c : Connection) → (with_space n s c).shared ≡ c.shared
unfolding with_space
with-shared n s c = go (eqb n 0) (eqb n 1)
  where
    go : (a b : Bool) →
        (cond {A = Connection} a (record { initial = s; handshake = c.handshake; application = c.application; shared = c.shared })
        (cond b (record { initial = c.initial; handshake = s; application = c.application; shared = c.shared })
        (record { initial = c.initial; handshake = c.handshake; application = s; shared = c.shared }))).shared
        ≡ c.shared
    go true b = refl
    go false true = refl
    go false false = refl

-- the timer leaves the controller
pub timed-keeps : (now : Moment) (status : HandshakeStatus) (c : Connection) → All (λ d. d.shared.congestion ≡ c.shared.congestion) (timed now status c)
unfolding timed
timed-keeps now status c = all_then (λ d. d.shared.congestion ≡ c.shared.congestion) (timer_of (facts_of now status c)) (λ t. Ok (with_shared (with_timer t c.shared) c)) λ t e. all-is (λ d. d.shared.congestion ≡ c.shared.congestion) _ refl

-- what an event's step says of the controller
abbrev Controls : {A : Type 0} → Connection → Step A → Type 0
Controls c x = control x.moves c.shared.congestion ≡ Ok x.state.shared.congestion

abbrev Sound : {A : Type 0} → Connection → Result (Step A) Refusal → Type 0
Sound c r = All (Controls c) r

-- naming an answer otherwise changes nothing
through : {A : Type 0} (c : Connection) (f : A → Answer) (r : Result (Step A) Refusal) → Sound c r → Sound c (answering f r)
through c f (Ok x) h = λ y e. let z : ◌≡◌ {A = Step Answer} (record { state = x.state; answer = f x.answer; moves = x.moves }) y = cc in rw (← z) (h x refl)
through c f (Err n) h = λ y e. no_value e

module _ (c : Connection) where
  abbrev g : Congestion
  g = c.shared.congestion

  -- an event without moves that ends in the timer, from a connection with the same controller
  timed-sound : {A : Type 0} (now : Moment) (status : HandshakeStatus) (d : Connection) (a : A) → d.shared.congestion ≡ g →
      Sound c (then (timed now status d) λ e. Ok (record { state = e; answer = a; moves = [] }))
  unfolding control
  timed-sound now status d a p =
      all_then (Controls c) (timed now status d) (λ e. Ok (record { state = e; answer = a; moves = [] })) λ e q.
      all-is (Controls c) (record { state = e; answer = a; moves = [] }) (ap Ok (sym (timed-keeps now status d e q ∙ p)))

  -- an event whose moves were made, and that ends in the timer
  moves-timed : {A : Type 0} (ms : List Move) (h : Congestion) → control ms g ≡ Ok h →
      (now : Moment) (status : HandshakeStatus) (d : Connection) (a : A) (f : Connection → Connection) → ((e : Connection) → (f e).shared ≡ e.shared) → d.shared.congestion ≡ h →
      Sound c (then (timed now status d) λ e. Ok (record { state = f e; answer = a; moves = ms }))
  moves-timed ms h made now status d a f same p =
      all_then (Controls c) (timed now status d) (λ e. Ok (record { state = f e; answer = a; moves = ms })) λ e q.
      all-is (Controls c) (record { state = f e; answer = a; moves = ms })
      (made ∙ ap Ok (sym (ap (λ (x : Shared). x.congestion) (same e) ∙ timed-keeps now status d e q ∙ p)))

  sent-sound : (now : Moment) (n : ℕ) (p : Packet) (status : HandshakeStatus) → Sound c (on_packet_sent now n p status c)
  unfolding on_packet_sent sent_in_flight sent_aside control
  sent-sound now n p status =
      all-must (Controls c) (on_clock c.shared.clock now) Clock _
      (all-must (Controls c) (is_packet n p) Domain _
      (all-must (Controls c) (is_newer (space_at n c).epoch.largest_sent_packet p.number) Stale _
      (all-must (Controls c) (ltb (length (space_at n c).records) capacity) Full _ (running p.ack_eliciting))))
    where
      either : (run : ℕ) → Sound c (cond p.in_flight (sent_in_flight now n p status run c) (sent_aside now n p run c))
      either run =
          all-cond (Controls c) p.in_flight (sent_in_flight now n p status run c) (sent_aside now n p run c)
          (λ e.
          all-reach (Controls c) (sum_of (space_at n c).epoch.in_flight_count 1) _ λ in_flight.
          all-reach (Controls c) (sum_of c.shared.bytes_in_flight p.size) _ λ bytes.
          timed-sound now status _ 0 refl)
          (λ e. all-is (Controls c) _ refl)

      running : (b : Bool) → Sound c (run_after b c.shared.outstanding_non_ack_eliciting (λ run. cond p.in_flight (sent_in_flight now n p status run c) (sent_aside now n p run c)))
      running true = either 0
      running false = all-reach (Controls c) (sum_of c.shared.outstanding_non_ack_eliciting 1) _ either

  nothing-sound : (now : Moment) (n : ℕ) (l : List Sent) (m : Met) (o : Reordering) → Sound c (acked_nothing now n l m o c)
  unfolding acked_nothing
  nothing-sound now n l m o =
      all_then (Controls c) (control (forgive_by m.spurious_in_flight) g) _ λ h e. all-is (Controls c) _ e

  some-sound : (now : Moment) (n : ℕ) (delay : Span) (status : HandshakeStatus) (limited : Bool) (l : List Sent) (m : Met) (last : Sent) (o : Reordering) →
      Sound c (acked_some now n delay status limited l m last o c)
  unfolding acked_some
  some-sound now n delay status limited l m last o =
      all_then (Controls c) (sampled now delay status old last m.newly c.shared.rtt) _ λ rtt x.
      all_then (Controls c)
      (detect_lost_packets now rtt o c.shared.bytes_in_flight (space_acked l m (Some (stored_largest old last)) (space_at n c))) _ λ d y.
      all_then (Controls c) (control (forgive_by m.spurious_in_flight ++ (d.moves ++ ack_each now limited rtt.min_rtt m.newly)) g) _ λ h z.
      moves-timed (forgive_by m.spurious_in_flight ++ (d.moves ++ ack_each now limited rtt.min_rtt m.newly)) h z now status
      (with_shared (shared_acked now rtt o (d.bytes - m.acked_bytes) h c.shared) (with_space n d.space c))
      (outcome d.packets d.lost_bytes m.acked_bytes m.spurious) (λ e. with_space n (drained_again now rtt (space_at n e)) e)
      (λ e. with-shared n (drained_again now rtt (space_at n e)) e) refl
    where
      old : Option ℕ
      old = (space_at n c).epoch.largest_acked_packet

  by-sound : (ns : List Sent) (now : Moment) (n : ℕ) (delay : Span) (status : HandshakeStatus) (limited : Bool) (l : List Sent) (m : Met) (o : Reordering) →
      Sound c (acked_by ns now n delay status limited l m o c)
  unfolding acked_by
  by-sound [] now n delay status limited l m o = nothing-sound now n l m o
  by-sound (r ∷ []) now n delay status limited l m o = some-sound now n delay status limited l m r o
  by-sound (r ∷ (q ∷ ns)) now n delay status limited l m o = by-sound (q ∷ ns) now n delay status limited l m o

  ack-sound : (now : Moment) (n : ℕ) (words : List ℕ) (delay : ℕ) (status : HandshakeStatus) (limited : Bool) (skipped : Option ℕ) →
      Sound c (on_ack_received now n words delay status limited skipped c)
  unfolding on_ack_received acknowledge
  ack-sound now n words delay status limited skipped =
      all-must (Controls c) (on_clock c.shared.clock now) Clock _
      (all-must (Controls c) (is_space n && is_skipped skipped) Domain _
      (all-must (Controls c) (are_ranges words) Ranges _
      (all-must (Controls c) (not (hold_skipped words skipped)) Skipped _
      (all-reach (Controls c) (times_of 1000 delay) _ λ ns.
      all_then (Controls c)
      (meet_all (largest_for (space_at n c).epoch.largest_acked_packet words) (covered words (space_at n c).records) (space_at n c).records
      (record {
        queue = (space_at n c).acked_frames;
        newly = [];
        acked_bytes = 0;
        in_flight = (space_at n c).epoch.in_flight_count;
        spurious = 0;
        distance = None;
        spurious_in_flight = false;
      }))
      _ λ a x.
      all_then (Controls c) (reordered a.met.distance a.met.spurious c.shared.reordering) _ λ o y.
      by-sound a.met.newly now n (span ns) status limited (drained now c.shared.rtt.smoothed_rtt a.records) a.met o))))

  timeout-sound : (now : Moment) (status : HandshakeStatus) → Sound c (on_loss_detection_timeout now status c)
  unfolding on_loss_detection_timeout timeout_by timeout_loss timeout_probe
  timeout-sound now status =
      all-must (Controls c) (on_clock c.shared.clock now) Clock _ (by earliest.time)
    where
      earliest : TimeAndSpace
      earliest = loss_time_and_space c.initial.epoch c.handshake.epoch c.application.epoch

      by : (t : Option Moment) → Sound c (timeout_by t earliest.space now status c)
      by (Some t) =
          all_then (Controls c) (detect_lost_packets now c.shared.rtt c.shared.reordering c.shared.bytes_in_flight (space_at earliest.space c)) _ λ d y.
          all_then (Controls c) (control d.moves g) _ λ h z.
          moves-timed d.moves h z now status
          (with_shared (shared_timeout now c.shared.pto_count d.bytes h c.shared) (with_space earliest.space d.space c))
          (timeout_outcome d.packets d.lost_bytes) (λ e. e) (λ e. refl) refl
      by None =
          all_then (Controls c) (probe_space (facts_of now status c)) _ λ n x.
          all-cond (Controls c) (leb (c.shared.pto_count + 1) 4294967295) _ _
          (λ e.
          all_then (Controls c) (probe_queue (min (c.shared.pto_count + 1) 2) (space_at n c)) _ λ q y.
          timed-sound now status _ (timeout_outcome 0 0) refl)
          (λ e x p. no_value p)

  discard-sound : (now : Moment) (n : ℕ) (status : HandshakeStatus) → Sound c (on_space_discarded now n status c)
  unfolding on_space_discarded
  discard-sound now n status =
      all-must (Controls c) (on_clock c.shared.clock now) Clock _
      (all-must (Controls c) (is_space n) Domain _
      (all-reach (Controls c) (within (outstanding (space_at n c).records)) _ λ bytes. timed-sound now status _ 0 refl))

  size-sound : (size : ℕ) → Sound c (on_size_change size c)
  unfolding on_size_change
  size-sound size =
      all-must (Controls c) (is_datagram_size size) Domain _
      (all_then (Controls c) (control (resize c.shared.max_datagram_size size ∷ []) g) _ λ h e. all-is (Controls c) _ e)

  -- events that leave the controller: takes and pings
  still-sound : {A : Type 0} (n : ℕ) (s : Space) (a : A) → Sound c (Ok (record { state = with_space n s c; answer = a; moves = [] }))
  unfolding control
  still-sound n s a =
      all-is (Controls c) (record { state = with_space n s c; answer = a; moves = [] }) (ap (λ (x : Shared). Ok x.congestion) (sym (with-shared n s c)))

  taken-sound : (l : List ℕ) (n : ℕ) (s : Space) → Sound c (Ok (taken_lost l n s c))
  unfolding taken_lost
  taken-sound [] n s = still-sound n _ _
  taken-sound (h ∷ q) n s = still-sound n _ _

  -- every event
  pub sound : (e : Event) → Sound c (step e c)
  unfolding step next_acked_frame next_lost_frame ping_sent
  sound (sent now n p status) = through c (λ a. done) _ (sent-sound now n p status)
  sound (acked now n words delay status limited skipped) = through c of_ack _ (ack-sound now n words delay status limited skipped)
  sound (timeout now status) = through c of_timeout _ (timeout-sound now status)
  sound (discarded now n status) = through c (λ a. done) _ (discard-sound now n status)
  sound (size_change size) = through c (λ a. done) _ (size-sound size)
  sound (take_acked n) = through c handle _ (all-must (Controls c) (is_space n) Domain _ (still-sound n _ _))
  sound (take_lost n) = through c handle _ (all-must (Controls c) (is_space n) Domain _ (taken-sound (space_at n c).lost_frames_ack n (space_at n c)))
  sound (ping n) = through c (λ a. done) _ (all-must (Controls c) (is_space n) Domain _ (still-sound n _ _))

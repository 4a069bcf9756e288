-- 01 'Strength of wording', proved: each event's law, from what its rules do to lists of records. Assumes nothing.
use mathlib.Core.Path.{◌≡◌, refl, ap, sym, ◌∙◌, subst}
use mathlib.Core.Bool.{Bool, true, false, cond, ◌&&◌}
use mathlib.Core.List.{List, [], ◌∷◌, ◌++◌}
use mathlib.Core.Logic.{inl, inr}
use Prim.Native.Nat.{ℕ, ◌+◌, ◌-◌, ◌*◌, ◌^◌, ◌≤◌, ◌<◌}
use native.Mathlib.Nat.{add-zero}
use native.Mathlib.Omega.{arith}
use lib.Dec.{leb, ltb, eqb}
use lib.ListN.{length}
use borrow.Author.Tests.{ltb-true}
use Rattle.arith.specs.Whole.{limit, within, sum_of}
use Rattle.arith.specs.declared.time.Moment.{Moment}
use Rattle.arith.specs.Refusals.{then}
use Rattle.model.specs.Numbers.{on_clock, is_space, is_datagram_size, capacity}
use Rattle.model.specs.Sent.{standing, newest, rest}
use Rattle.model.specs.Cubic.{in_recovery, congestion_event, resized}
use Rattle.model.specs.Control.{resize, control, moved}
use Rattle.model.specs.Connection.{Space, Connection, space_at, with_space, with_shared, with_timer, timed, outstanding}
use Rattle.model.specs.Events.{Step, is_packet, is_newer, run_after, space_sent, shared_sent, sent_in_flight, sent_aside, on_packet_sent, shared_timeout, space_probed, space_discarded, on_space_discarded, on_size_change, with_queues, next_acked_frame, taken_lost, next_lost_frame, ping_sent}
use Rattle.model.specs.Run.{refusal_of}
use Rattle.model.specs.Strength.{those, sizes, Sends, Discards, Resizes, Takes, TakesAcked, TakesLostBy, TakesLost, Pings, given, Strength}
use Rattle.model.specs.declared.Congestion.{Congestion}
use Rattle.model.specs.declared.HandshakeStatus.{HandshakeStatus}
use Rattle.model.specs.declared.Packet.{Packet}
use Rattle.arith.specs.declared.refusal.Refusal.TheVariants.{Clock, Domain, Stale, Full}
use Rattle.model.specs.declared.Sent.{Sent}
use Rattle.model.specs.declared.Shared.{Shared}
use Rattle.model.proofs.Peel.{All, all-is, all_then, all-must, all-cond, all-reach}
use Rattle.model.proofs.Counts.{sum_is}
use Rattle.model.proofs.Events.{sound}
use Rattle.model.proofs.Told.{resizes, rises-told, raised, opens-reduced}
use Rattle.model.proofs.Beta.{beta-less}
use Rattle.model.proofs.Sending.{send-number, send-accepted, space-number}
use Rattle.model.proofs.Remains.{with-here, with-else, ended, all_tested}
use Rattle.model.proofs.Acking.{acknowledges}
use Rattle.model.proofs.TimingOut.{times_out}
use Rattle.model.proofs.Counted.{counted}
use Rattle.std.specs.Prelude.{Ok, Err}
use Rattle.arith.specs.declared.refusal.Refusal.TheVariants.{TooLarge}

first : (a b : Bool) → (a && b) ≡ true → a ≡ true
first true b e = refl
first false b e = e

-- ---- send
module _ (now : Moment) (n : ℕ) (p : Packet) (c : Connection) where
  abbrev Sending : Step ℕ → Type 0
  Sending x = Sends now n p c x.state

  sent-done : n < 3 → (in_flight : ℕ) (x : Shared) → x.clock ≡ now → x.bytes_in_flight ≡ c.shared.bytes_in_flight + cond p.in_flight p.size 0 →
      Sends now n p c (with_shared x (with_space n (space_sent now p in_flight (space_at n c)) c))
  sent-done small in_flight x clock bytes =
      let here = with-here n (space_sent now p in_flight (space_at n c)) x c in
      record {
        appended = ap (λ (s : Space). s.records) here;
        clock = clock;
        largest = ap (λ (s : Space). s.epoch.largest_sent_packet) here;
        bytes = bytes;
        elsewhere = with-else n (space_sent now p in_flight (space_at n c)) x c small;
      }

  sent-flying : n < 3 → p.in_flight ≡ true → (status : HandshakeStatus) (run : ℕ) → All Sending (sent_in_flight now n p status run c)
  unfolding sent_in_flight
  sent-flying small f status run =
      all-reach Sending (sum_of (space_at n c).epoch.in_flight_count 1) _ λ in_flight.
      all_then Sending (sum_of c.shared.bytes_in_flight p.size) _ λ bytes s.
      all_then Sending
      (timed now status (with_shared (shared_sent now run bytes c.shared) (with_space n (space_sent now p in_flight (space_at n c)) c))) _ λ d e.
      all-is Sending _
      (let w = ended now status (shared_sent now run bytes c.shared) (with_space n (space_sent now p in_flight (space_at n c)) c) d e in
      subst (λ (x : Connection). Sends now n p c x) (sym w.1)
      (sent-done small in_flight (with_timer w.0 (shared_sent now run bytes c.shared)) refl (sum_is _ _ bytes s ∙ rw f refl)))

  sent-aside : n < 3 → p.in_flight ≡ false → (run : ℕ) → All Sending (sent_aside now n p run c)
  unfolding sent_aside
  sent-aside small f run =
      all-is Sending _ (sent-done small (space_at n c).epoch.in_flight_count (shared_sent now run c.shared.bytes_in_flight c.shared) refl (rw f (sym (add-zero _))))

  sends : (status : HandshakeStatus) → All Sending (on_packet_sent now n p status c)
  unfolding on_packet_sent is_packet
  sends status =
      all-must Sending (on_clock c.shared.clock now) Clock _
      (all_tested Sending (is_packet n p) Domain _ λ ok.
      all-must Sending (is_newer (space_at n c).epoch.largest_sent_packet p.number) Stale _
      (all-must Sending (ltb (length (space_at n c).records) capacity) Full _ (running (ltb-true n 3 (first (is_space n) _ ok)) p.ack_eliciting)))
    where
      way : n < 3 → (run : ℕ) → All Sending (cond p.in_flight (sent_in_flight now n p status run c) (sent_aside now n p run c))
      way small run =
          all-cond Sending p.in_flight (sent_in_flight now n p status run c) (sent_aside now n p run c) (λ e. sent-flying small e status run) (λ e. sent-aside small e run)

      running : n < 3 → (b : Bool) → All Sending (run_after b c.shared.outstanding_non_ack_eliciting (λ run. cond p.in_flight (sent_in_flight now n p status run c) (sent_aside now n p run c)))
      running small true = way small 0
      running small false = all-reach Sending (sum_of c.shared.outstanding_non_ack_eliciting 1) _ (way small)

-- ---- discard
within-is : (a n : ℕ) → within a ≡ Ok n → n ≡ a
unfolding within
within-is a n = go (leb a limit)
  where
    go : (t : Bool) → cond t (Ok a) (Err TooLarge) ≡ Ok n → n ≡ a
    go true e = cc
    go false e = absurd (let z : ◌≡◌ {A = ℕ} 0 1 = cc in let w : ⊥ = omega arith in w)

outstanding-is : (l : List Sent) → outstanding l ≡ sizes (those (λ r. r.in_flight && standing r) l)
unfolding outstanding those sizes
outstanding-is [] = refl
outstanding-is (r ∷ l) = go (r.in_flight && standing r) (outstanding-is l)
  where
    go : (b : Bool) → outstanding l ≡ sizes (those (λ r. r.in_flight && standing r) l) →
        cond b (r.size + outstanding l) (outstanding l) ≡ sizes (cond b (r ∷ those (λ r. r.in_flight && standing r) l) (those (λ r. r.in_flight && standing r) l))
    go true e = ap (λ (x : ℕ). r.size + x) e
    go false e = e

discards : (now : Moment) (n : ℕ) (status : HandshakeStatus) (c : Connection) → All (λ x. Discards now n c x.state) (on_space_discarded now n status c)
unfolding on_space_discarded
discards now n status c =
    all-must P (on_clock c.shared.clock now) Clock _
    (all_tested P (is_space n) Domain _ λ ok.
    all_then P (within (outstanding (space_at n c).records)) _ λ bytes f.
    all_then P (timed now status (with_shared (shared bytes) (with_space n (space_discarded (space_at n c)) c))) _ λ d e.
    all-is P _
    (let w = ended now status (shared bytes) (with_space n (space_discarded (space_at n c)) c) d e in
    let here = with-here n (space_discarded (space_at n c)) (with_timer w.0 (shared bytes)) c in
    subst (λ (k : Connection). Discards now n c k) (sym w.1)
    (record {
      clock = refl;
      records = ap (λ (s : Space). s.records) here;
      acked_frames = ap (λ (s : Space). s.acked_frames) here;
      lost_frames_ack = ap (λ (s : Space). s.lost_frames_ack) here;
      lost_frames_pto = ap (λ (s : Space). s.lost_frames_pto) here;
      bytes = ap (λ (k : ℕ). c.shared.bytes_in_flight - k) (within-is _ bytes f ∙ outstanding-is (space_at n c).records);
      elsewhere = with-else n (space_discarded (space_at n c)) (with_timer w.0 (shared bytes)) c (ltb-true n 3 ok);
    })))
  where
    P : Step ℕ → Type 0
    P x = Discards now n c x.state

    shared : ℕ → Shared
    shared bytes = shared_timeout now c.shared.pto_count (c.shared.bytes_in_flight - bytes) c.shared.congestion c.shared

-- ---- size change
resized-by : (size : ℕ) (c : Connection) → All (λ x. Resizes size c x.state) (on_size_change size c)
unfolding on_size_change control space_at
resized-by size c =
    all-must P (is_datagram_size size) Domain _
    (all_then P (control (resize c.shared.max_datagram_size size ∷ []) g) _ λ h e.
    all-is P _ (record { size = refl; window = one h e; everywhere = λ k. refl }))
  where
    P : Step ℕ → Type 0
    P x = Resizes size c x.state

    g : Congestion
    g = c.shared.congestion

    Q : Congestion → Type 0
    Q h =
        h.congestion_window
        ≡ cond (eqb g.congestion_window (c.shared.max_datagram_size * g.initial_window_packets)) (size * g.initial_window_packets) g.congestion_window

    one : (h : Congestion) → then (moved (resize c.shared.max_datagram_size size) g) (λ h. Ok h) ≡ Ok h → Q h
    one = all_then Q (resized c.shared.max_datagram_size size g) (λ h. Ok h) λ k x. all-is Q k (resizes g c.shared.max_datagram_size size k x).1

-- ---- takes and pings

-- a space put back leaves what is shared
put_is : (n : ℕ) (s : Space) (c : Connection) → with_shared c.shared (with_space n s c) ≡ with_space n s c
unfolding with_space
put_is n s c = go (eqb n 0) (eqb n 1)
  where
    put : Bool → Bool → Connection
    put a b =
        cond a (record { initial = s; handshake = c.handshake; application = c.application; shared = c.shared })
        (cond b (record { initial = c.initial; handshake = s; application = c.application; shared = c.shared })
        (record { initial = c.initial; handshake = c.handshake; application = s; shared = c.shared }))

    go : (a b : Bool) → with_shared c.shared (put a b) ≡ put a b
    go true b = refl
    go false true = refl
    go false false = refl

newest-last : (h : ℕ) (q : List ℕ) → h ∷ q ≡ rest (h ∷ q) ++ (newest (h ∷ q) ∷ [])
unfolding newest rest
newest-last h [] = refl
newest-last h (g ∷ q) = ap (λ (x : List ℕ). h ∷ x) (newest-last g q)

takes : (q : List ℕ) → Takes q (newest q) (rest q)
unfolding newest rest
takes [] = inl (refl, refl, refl)
takes (h ∷ q) = inr (newest-last h q)

takes_acked : (n : ℕ) (c : Connection) → All (λ x. TakesAcked n c x.answer x.state) (next_acked_frame n c)
unfolding next_acked_frame
takes_acked n c =
    all_tested P (is_space n) Domain _ λ ok.
    all-is P _
    (subst (λ (d : Connection). TakesAcked n c (newest (space_at n c).acked_frames) d) (put_is n t c)
    (record {
      taken = rw here (takes (space_at n c).acked_frames);
      rest = rw here refl;
      shared = refl;
      elsewhere = with-else n t c.shared c (ltb-true n 3 ok);
    }))
  where
    P : Step ℕ → Type 0
    P x = TakesAcked n c x.answer x.state

    t : Space
    t = with_queues (rest (space_at n c).acked_frames) (space_at n c).lost_frames_ack (space_at n c).lost_frames_pto (space_at n c)

    here : space_at n (with_shared c.shared (with_space n t c)) ≡ t
    here = with-here n t c.shared c

module _ (n : ℕ) (c : Connection) (small : n < 3) where
  taken-lost : (h : ℕ) (ack pto : List ℕ) → TakesLostBy (space_at n c).lost_frames_ack (space_at n c) h (with_queues (space_at n c).acked_frames ack pto (space_at n c)) →
      TakesLost n c h (with_space n (with_queues (space_at n c).acked_frames ack pto (space_at n c)) c)
  taken-lost h ack pto by =
      let t = with_queues (space_at n c).acked_frames ack pto (space_at n c) in
      let here = with-here n t c.shared c in
      subst (λ (d : Connection). TakesLost n c h d) (put_is n t c)
      (record { taken = rw here by; rest = rw here refl; shared = refl; elsewhere = with-else n t c.shared c small })

  abbrev leaving : List ℕ → List ℕ → Space
  leaving ack pto = with_queues (space_at n c).acked_frames ack pto (space_at n c)

  taken-by : (q : List ℕ) → q ≡ (space_at n c).lost_frames_ack → TakesLost n c (taken_lost q n (space_at n c) c).answer (taken_lost q n (space_at n c) c).state
  unfolding taken_lost
  taken-by [] e =
      let left = rest (space_at n c).lost_frames_pto in
      let h = newest (space_at n c).lost_frames_pto in
      taken-lost h [] left (subst (λ (k : List ℕ). TakesLostBy k (space_at n c) h (leaving [] left)) e (takes (space_at n c).lost_frames_pto, refl))
  taken-by (g ∷ q) e =
      let left = rest (g ∷ q) in
      let h = newest (g ∷ q) in
      taken-lost h left (space_at n c).lost_frames_pto
      (subst (λ (k : List ℕ). TakesLostBy k (space_at n c) h (leaving left (space_at n c).lost_frames_pto)) e
      (subst (λ (k : List ℕ). Takes k h left) e (takes (g ∷ q)), refl))

takes_lost : (n : ℕ) (c : Connection) → All (λ x. TakesLost n c x.answer x.state) (next_lost_frame n c)
unfolding next_lost_frame
takes_lost n c = all_tested P (is_space n) Domain _ λ ok. all-is P _ (taken-by n c (ltb-true n 3 ok) (space_at n c).lost_frames_ack refl)
  where
    P : Step ℕ → Type 0
    P x = TakesLost n c x.answer x.state

pings : (n : ℕ) (c : Connection) → All (λ x. Pings n c x.state) (ping_sent n c)
unfolding ping_sent
pings n c =
    all_tested P (is_space n) Domain _ λ ok.
    all-is P _
    (subst (λ (d : Connection). Pings n c d) (put_is n t c)
    (record { probes = rw here refl; rest = rw here refl; shared = refl; elsewhere = with-else n t c.shared c (ltb-true n 3 ok) }))
  where
    P : Step ℕ → Type 0
    P x = Pings n c x.state

    t : Space
    t = space_probed ((space_at n c).epoch.loss_probes - 1) (space_at n c).lost_frames_pto (space_at n c)

    here : space_at n (with_shared c.shared (with_space n t c)) ≡ t
    here = with-here n t c.shared c

-- ---- the laws
taken-number : (n : ℕ) (c : Connection) → refusal_of (next_acked_frame n c) ≡ given (leb 3 n) 2 0
unfolding next_acked_frame
taken-number n c = space-number n _

lost-number : (n : ℕ) (c : Connection) → refusal_of (next_lost_frame n c) ≡ given (leb 3 n) 2 0
unfolding next_lost_frame
lost-number n c = space-number n _

ping-number : (n : ℕ) (c : Connection) → refusal_of (ping_sent n c) ≡ given (leb 3 n) 2 0
unfolding ping_sent
ping-number n c = space-number n _

lowered : (now at : Moment) (g h : Congestion) → in_recovery g.congestion_recovery_start_time at ≡ false → congestion_event now at g ≡ Ok h →
    g.max_datagram_size * 2 < g.congestion_window → g.congestion_window ≤ 2 ^ 30 → h.congestion_window < g.congestion_window
lowered now at g h out e more most =
    let is = (opens-reduced g now at out h e).1 in
    omega (arith, is, beta-less g.congestion_window (omega arith) most)

pub strong : Strength
strong =
    record {
      send_refused = send-number;
      send_accepted = send-accepted;
      take_acked_refused = taken-number;
      take_lost_refused = lost-number;
      ping_refused = ping-number;
      sends = λ now n p status c. sends now n p c status;
      acknowledges = acknowledges;
      times_out = λ now status c. times_out now c status;
      discards = discards;
      resizes = resized-by;
      takes_acked = takes_acked;
      takes_lost = takes_lost;
      pings = pings;
      lost = λ e c x p. rises-told x.moves c.shared.congestion _ (sound c e x p) ∙ ap (λ (k : ℕ). c.shared.congestion.lost_count + k) (counted c e x p).0;
      spurious = λ e c x p. (counted c e x p).1;
      raises = raised;
      reduces = λ now at g h out e. (opens-reduced g now at out h e).1;
      lowers = lowered;
    }

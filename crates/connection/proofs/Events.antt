-- What each event of this crate claims, from what its function decided. Assumes nothing.
use mathlib.Core.Path.{◌≡◌, refl, ap, sym, ◌∙◌}
use mathlib.Core.Bool.{Bool, true, false, ◌&&◌}
use mathlib.Core.List.{List, [], ◌∷◌}
use Prim.Native.Nat.{ℕ, ◌+◌, ◌-◌, ◌*◌, ◌<◌, ◌≤◌, ◌%◌}
use native.Mathlib.Nat.{le_trans, mul-le-mul_left, mul-le-mul_right}
use native.Mathlib.Omega.{arith}
use borrow.Author.Tests.{ltb-true, lt-ltb, le-ltb, leb-true}
use lib.Dec.{leb, ltb}
use lib.ListN.{length}
use Rattle.arith.specs.Whole.{within, sum_of}
use Rattle.arith.specs.declared.time.Moment.{Moment}
use Rattle.arith.specs.Refusals.{then, must}
use Rattle.model.specs.Numbers.{on_clock, is_space, is_datagram_size, are_settings, capacity}
use Rattle.model.specs.Sent.{newest, rest}
use Rattle.model.specs.Control.{resize, moved, control}
use Rattle.model.specs.Cubic.{resized}
use Rattle.model.specs.Connection.{Space, Connection, with_space, with_shared, outstanding, space_fresh, fresh}
use Rattle.model.specs.Events.{Step, is_packet, is_newer, shared_sent, on_packet_sent, space_discarded, shared_timeout, on_space_discarded, on_size_change}
use Rattle.model.specs.Events.{with_queues, space_probed, next_acked_frame, taken_lost, next_lost_frame, ping_sent}
use Rattle.model.specs.declared.Congestion.{Congestion}
use Rattle.model.specs.declared.HandshakeStatus.{HandshakeStatus}
use Rattle.model.specs.declared.Packet.{Packet}
use Rattle.arith.specs.declared.refusal.Refusal.{Refusal}
use Rattle.arith.specs.declared.refusal.Refusal.TheVariants.{Clock, Domain, Stale, Full}
use Rattle.model.specs.declared.Settings.{Settings}
use Rattle.model.specs.declared.Shared.{Shared}
use Rattle.records.specs.View.{all_words, ring, records_of, queue_of}
use Rattle.records.proofs.Laws.{records-mod, length-queue, rest-queue}
use Rattle.connection.specs.View.{count, space_of, connection_of, normal_of, space_state_at, with_space_state, state_by, Does}
use Rattle.connection.specs.Steps.{timed_state, sent_space, run_state, run_of, sent_both, send_state, empty_space, discard_state, discard_by, with_counts, probed_space, with_shared_state, shared_sized, space_state_fresh, fresh_state}
use Rattle.connection.specs.Answers.{sent_words, shared_by, outcome_says, settled_by, Begins}
use Rattle.connection.specs.declared.Answer.{Answer}
use Rattle.connection.specs.declared.SpaceState.{SpaceState}
use Rattle.connection.specs.declared.State.{State}
use Rattle.connection.proofs.Results.{must-then, reach-then}
use Rattle.connection.proofs.Views.{space-view, state-view}
use Rattle.connection.proofs.Steps.{packet-space, timed-step, sent_step, send-view}
use Rattle.connection.proofs.Placed.{Fits, Each, Placed, placed-view, whole-view, one_each, must-each, then-each, cond-each, timed-placed, does-refused, does-accepted}
use Rattle.std.specs.Prelude.{Result, Ok, Err}

-- ---- sent

run-of : (b : Bool) (run : ℕ) (k : ℕ → Result State Refusal) → run_state b run k ≡ then (run_of b run) k
unfolding run_of
run-of true run k = refl
run-of false run k = refl

pub send_by : (now : Moment) (n : ℕ) (p : Packet) (status : HandshakeStatus) (s : State) → send_state now n p status s ≡
    must (on_clock s.shared.clock now) Clock
    (must (is_packet n p) Domain
    (must (is_newer (space_state_at n s).epoch.largest_sent_packet p.number) Stale
    (must (ltb (count (space_state_at n s).len) capacity) Full
    (then (run_of p.ack_eliciting s.shared.outstanding_non_ack_eliciting) λ run. sent_both now n p status run s))))
unfolding send_state
send_by now n p status s =
    ap (λ (r : Result State Refusal).
    must (on_clock s.shared.clock now) Clock
    (must (is_packet n p) Domain
    (must (is_newer (space_state_at n s).epoch.largest_sent_packet p.number) Stale (must (ltb (count (space_state_at n s).len) capacity) Full r))))
    (run-of p.ack_eliciting s.shared.outstanding_non_ack_eliciting (λ run. sent_both now n p status run s))

module _ (now : Moment) (n : ℕ) (p : Packet) (status : HandshakeStatus) (run : ℕ) (s : State) where
  -- the state with the packet counted
  abbrev counted : ℕ → ℕ → State
  counted in_flight bytes = with_space_state n (sent_space now p in_flight (normal_of (space_state_at n s))) (shared_sent now run bytes s.shared) s

  pub both-aside : p.in_flight ≡ false →
      sent_both now n p status run s ≡ Ok (counted (space_state_at n s).epoch.in_flight_count s.shared.bytes_in_flight)
  unfolding sent_both normal_of
  both-aside e = rw e refl

  pub both-flying : p.in_flight ≡ true →
      sent_both now n p status run s
      ≡ then (sum_of (space_state_at n s).epoch.in_flight_count 1) λ in_flight.
      then (sum_of s.shared.bytes_in_flight p.size) λ bytes. timed_state now status (counted in_flight bytes)
  unfolding sent_both normal_of
  both-flying e = rw e refl

sent-fits : (now : Moment) (p : Packet) (in_flight : ℕ) (q : SpaceState) → count q.len < capacity → Fits q 1 (sent_space now p in_flight (normal_of q))
unfolding sent_space normal_of
sent-fits now p in_flight q room = record { head = omega arith; len = omega arith; acked = omega arith; lost_ack = omega arith; lost_pto = omega arith }

module _ (m : List ℕ) (now : Moment) (n : ℕ) (p : Packet) (status : HandshakeStatus) (s : State) where
  both-placed : n < 3 → count (space_state_at n s).len < capacity → (run : ℕ) → Each (Placed m s n 1) (sent_both now n p status run s)
  unfolding sent_both
  both-placed nn room run =
      cond-each (Placed m s n 1) p.in_flight _ _
      (then-each (Placed m s n 1) (sum_of _ 1) _ λ in_flight.
      then-each (Placed m s n 1) (sum_of _ p.size) _ λ bytes.
      timed-placed m s 1 now status _ _ n nn (sent-fits now p in_flight (space_state_at n s) room))
      (one_each (Placed m s n 1) _ (placed-view m s 1 _ _ n nn (sent-fits now p _ (space_state_at n s) room)))

  run-placed : (b : Bool) (run : ℕ) (k : ℕ → Result State Refusal) → ((x : ℕ) → Each (Placed m s n 1) (k x)) → Each (Placed m s n 1) (run_state b run k)
  run-placed true run k h = h 0
  run-placed false run k h = then-each (Placed m s n 1) (sum_of run 1) k h

  send-placed : Each (Placed m s n 1) (send_state now n p status s)
  unfolding send_state
  send-placed =
      must-each (Placed m s n 1) (on_clock s.shared.clock now) Clock _ λ a.
      must-each (Placed m s n 1) (is_packet n p) Domain _ λ b.
      must-each (Placed m s n 1) (is_newer _ _) Stale _ λ c.
      must-each (Placed m s n 1) (ltb (count (space_state_at n s).len) capacity) Full _ λ d.
      run-placed p.ack_eliciting _ _ (both-placed (packet-space n p b) (ltb-true _ _ d))

module _ (m : List ℕ) (full : length m ≡ all_words) (now : Moment) (n : ℕ) (p : Packet) (status : HandshakeStatus) (s : State) where
  pub sent-does : {m' : List ℕ} {t : State} → send_state now n p status s ≡ Ok t → m' ≡ sent_words m now n p s →
      Does (on_packet_sent now n p status (connection_of m s)) (Ok 0) m m' s t (state_by s n 1) (λ _. sent_words m now n p s)
  unfolding sent_words
  sent-does {m'} {t} e w =
      does-accepted m s (state_by s n 1) (λ _. sent_words m now n p s) _ m' t 0 []
      (send-view m full now n p status s ∙ rw (e, ← w) refl) (send-placed m' now n p status s t e) w

  pub sent-refused : {k : Refusal} → send_state now n p status s ≡ Err k →
      Does (on_packet_sent now n p status (connection_of m s)) (Err k) m m s s (state_by s n 1) (λ _. sent_words m now n p s)
  sent-refused {k} e = does-refused m s (state_by s n 1) (λ _. sent_words m now n p s) _ k (send-view m full now n p status s ∙ rw e refl)

-- ---- takes and pings

twice : (n : ℕ) → count (count n) ≡ count n
twice n = omega arith

twice-less : (n : ℕ) → count (count n - 1) ≡ count n - 1
twice-less n = omega arith

less-fits : (n : ℕ) → count n - 1 ≤ capacity
less-fits n = omega arith

taken_none : (l : List ℕ) (n : ℕ) (s : Space) (c : Connection) → length l ≤ 0 →
    taken_lost l n s c ≡ record { state = with_space n (with_queues s.acked_frames l (rest s.lost_frames_pto) s) c; answer = newest s.lost_frames_pto; moves = [] }
unfolding taken_lost
taken_none [] n s c z = refl
taken_none (h ∷ l) n s c z = absurd (let w : ⊥ = omega arith in w)

taken-some : (l : List ℕ) (n : ℕ) (s : Space) (c : Connection) → 0 < length l →
    taken_lost l n s c ≡ record { state = with_space n (with_queues s.acked_frames (rest l) s.lost_frames_pto s) c; answer = newest l; moves = [] }
unfolding taken_lost
taken-some [] n s c z = absurd (let w : ⊥ = omega arith in w)
taken-some (h ∷ l) n s c z = refl

-- no such space
module _ (m : List ℕ) (n : ℕ) (s : State) (past : 3 ≤ n) where
  pub acked-refused : Does (next_acked_frame n (connection_of m s)) (Err Domain) m m s s (state_by s n 0) (λ _. m)
  unfolding next_acked_frame
  acked-refused = does-refused m s (state_by s n 0) (λ _. m) _ Domain (rw (le-ltb n 3 past) refl)

  pub lost-refused : Does (next_lost_frame n (connection_of m s)) (Err Domain) m m s s (state_by s n 0) (λ _. m)
  unfolding next_lost_frame
  lost-refused = does-refused m s (state_by s n 0) (λ _. m) _ Domain (rw (le-ltb n 3 past) refl)

  pub ping-refused : Does (ping_sent n (connection_of m s)) (Err Domain) m m s s (state_by s n 0) (λ _. m)
  unfolding ping_sent
  ping-refused = does-refused m s (state_by s n 0) (λ _. m) _ Domain (rw (le-ltb n 3 past) refl)

module _ (m : List ℕ) (n : ℕ) (s : State) (nn : n < 3) where
  abbrev old : SpaceState
  old = space_state_at n s

  -- the state whose space has these counts
  abbrev counts : ℕ → ℕ → ℕ → SpaceState
  counts acked ack pto = with_counts acked ack pto (normal_of old)

  counts-fit : (acked ack pto : ℕ) → acked ≤ capacity → ack ≤ capacity → pto ≤ capacity → Fits old 0 (counts acked ack pto)
  unfolding with_counts normal_of
  counts-fit acked ack pto a b c = record { head = omega arith; len = omega arith; acked = a; lost_ack = b; lost_pto = c }

  counts-view : (acked ack pto : ℕ) → space_of m n (counts acked ack pto) ≡ with_queues (queue_of m n 0 (count acked)) (queue_of m n 1 (count ack)) (queue_of m n 2 (count pto)) (space_of m n old)
  unfolding with_counts normal_of space_of
  counts-view acked ack pto = rw (twice old.len, records-mod m n old.head (count old.len)) refl

  counts_whole : (acked ack pto : ℕ) →
      with_space n (with_queues (queue_of m n 0 (count acked)) (queue_of m n 1 (count ack)) (queue_of m n 2 (count pto)) (space_of m n old)) (connection_of m s)
      ≡ connection_of m (with_space_state n (counts acked ack pto) s.shared s)
  counts_whole acked ack pto = whole-view m s (counts acked ack pto) _ n nn (counts-view acked ack pto)

  module _ (acked ack pto : ℕ) (a : acked ≤ capacity) (b : ack ≤ capacity) (c : pto ≤ capacity) where
    take-does : {t : State} (d : Result (Step ℕ) Refusal) (h : ℕ) → t ≡ with_space_state n (counts acked ack pto) s.shared s →
        d ≡ Ok (record { state = with_space n (with_queues (queue_of m n 0 (count acked)) (queue_of m n 1 (count ack)) (queue_of m n 2 (count pto)) (space_of m n old)) (connection_of m s); answer = h; moves = [] }) →
        Does d (Ok h) m m s t (state_by s n 0) (λ _. m)
    take-does {t} d h e g =
        rw e
        (does-accepted m s (state_by s n 0) (λ _. m) d m (with_space_state n (counts acked ack pto) s.shared s) h []
        (g ∙ ap (λ (x : Connection). Ok (record { state = x; answer = h; moves = [] })) (counts_whole acked ack pto))
        (placed-view m s 0 (counts acked ack pto) s.shared n nn (counts-fit acked ack pto a b c)) refl)

  pub acked-does : {t : State} {h : ℕ} → h ≡ newest (queue_of m n 0 (count old.acked)) →
      t ≡ with_space_state n (counts (count old.acked - 1) (count old.lost_ack) (count old.lost_pto)) s.shared s →
      Does (next_acked_frame n (connection_of m s)) (Ok h) m m s t (state_by s n 0) (λ _. m)
  unfolding next_acked_frame space_of
  acked-does {t} {h} e g =
      take-does (count old.acked - 1) (count old.lost_ack) (count old.lost_pto) (less-fits old.acked) (omega arith) (omega arith) _ h g
      (rw (lt-ltb n 3 nn, space-view m s n nn, rest-queue m n 0 (count old.acked), ← e, twice-less old.acked, twice old.lost_ack, twice old.lost_pto) refl)

  pub lost-ack-does : {t : State} {h : ℕ} → 0 < count old.lost_ack → h ≡ newest (queue_of m n 1 (count old.lost_ack)) →
      t ≡ with_space_state n (counts (count old.acked) (count old.lost_ack - 1) (count old.lost_pto)) s.shared s →
      Does (next_lost_frame n (connection_of m s)) (Ok h) m m s t (state_by s n 0) (λ _. m)
  unfolding next_lost_frame space_of
  lost-ack-does {t} {h} some e g =
      take-does (count old.acked) (count old.lost_ack - 1) (count old.lost_pto) (omega arith) (less-fits old.lost_ack) (omega arith) _ h g
      (rw (
        lt-ltb n 3 nn,
        space-view m s n nn,
        taken-some (queue_of m n 1 (count old.lost_ack)) n (space_of m n old) (connection_of m s) (rw (length-queue m n 1 (count old.lost_ack)) some),
        rest-queue m n 1 (count old.lost_ack),
        ← e,
        twice-less old.lost_ack,
        twice old.acked,
        twice old.lost_pto,
      ) refl)

  pub lost-pto-does : {t : State} {h : ℕ} → count old.lost_ack ≤ 0 → h ≡ newest (queue_of m n 2 (count old.lost_pto)) →
      t ≡ with_space_state n (counts (count old.acked) (count old.lost_ack) (count old.lost_pto - 1)) s.shared s →
      Does (next_lost_frame n (connection_of m s)) (Ok h) m m s t (state_by s n 0) (λ _. m)
  unfolding next_lost_frame space_of
  lost-pto-does {t} {h} none e g =
      take-does (count old.acked) (count old.lost_ack) (count old.lost_pto - 1) (omega arith) (omega arith) (less-fits old.lost_pto) _ h g
      (rw (
        lt-ltb n 3 nn,
        space-view m s n nn,
        taken_none (queue_of m n 1 (count old.lost_ack)) n (space_of m n old) (connection_of m s) (rw (length-queue m n 1 (count old.lost_ack)) none),
        rest-queue m n 2 (count old.lost_pto),
        ← e,
        twice old.lost_ack,
        twice old.acked,
        twice-less old.lost_pto,
      ) refl)

  -- a ping
  abbrev probed : SpaceState
  probed = probed_space (old.epoch.loss_probes - 1) (count old.lost_pto) (normal_of old)

  ping-fits : Fits old 0 probed
  unfolding probed_space normal_of
  ping-fits = record { head = omega arith; len = omega arith; acked = omega arith; lost_ack = omega arith; lost_pto = omega arith }

  ping-view : space_of m n probed ≡ space_probed (old.epoch.loss_probes - 1) (queue_of m n 2 (count old.lost_pto)) (space_of m n old)
  unfolding probed_space normal_of space_of
  ping-view = rw (twice old.len, records-mod m n old.head (count old.len), twice old.acked, twice old.lost_ack, twice old.lost_pto) refl

  pub ping-does : {t : State} → t ≡ with_space_state n probed s.shared s → Does (ping_sent n (connection_of m s)) (Ok 0) m m s t (state_by s n 0) (λ _. m)
  unfolding ping_sent space_of
  ping-does {t} e =
      rw e
      (does-accepted m s (state_by s n 0) (λ _. m) _ m (with_space_state n probed s.shared s) 0 []
      (rw (lt-ltb n 3 nn, space-view m s n nn)
      (ap (λ (x : Connection). Ok (record { state = x; answer = 0; moves = [] })) (whole-view m s probed _ n nn ping-view)))
      (placed-view m s 0 probed s.shared n nn ping-fits) refl)

-- ---- discard

pub head-mod : (head len : ℕ) → (head % 256 + len) % 256 ≡ (head + len) % 256
head-mod head len = omega arith

module _ (m : List ℕ) (now : Moment) (n : ℕ) (status : HandshakeStatus) (s : State) where
  abbrev gone : SpaceState
  gone = empty_space (space_state_at n s)

  abbrev out : Result ℕ Refusal
  out = within (outstanding (records_of m n ((space_state_at n s).head % capacity) (count (space_state_at n s).len)))

  abbrev left : ℕ → Shared
  left bytes = shared_timeout now s.shared.pto_count (s.shared.bytes_in_flight - bytes) s.shared.congestion s.shared

  gone-fits : Fits (space_state_at n s) 0 gone
  unfolding empty_space
  gone-fits = record { head = omega arith; len = omega arith; acked = omega arith; lost_ack = omega arith; lost_pto = omega arith }

  gone-view : space_of m n gone ≡ space_discarded (space_of m n (space_state_at n s))
  unfolding empty_space space_of ring queue_of
  gone-view = refl

  gone_whole : n < 3 → (shared : Shared) →
      with_shared shared (with_space n (space_discarded (space_of m n (space_state_at n s))) (connection_of m s)) ≡ connection_of m (with_space_state n gone shared s)
  gone_whole nn shared = sym (state-view m s m gone shared n nn (λ k l off x. refl) ∙ rw gone-view refl)

  discard-view : on_space_discarded now n status (connection_of m s) ≡ then (discard_by now n status out s) (sent_step m)
  unfolding on_space_discarded discard_by discard_state connection_of space_of
  discard-view =
      must-then (sent_step m) (on_clock s.shared.clock now) Clock _ _ λ a.
      must-then (sent_step m) (is_space n) Domain _ _ λ b.
      let nn : n < 3 = ltb-true n 3 b in
      rw (space-view m s n nn, records-mod m n (space_state_at n s).head (count (space_state_at n s).len))
      (reach-then (sent_step m) (within (outstanding (records_of m n (space_state_at n s).head (count (space_state_at n s).len)))) _ _ λ bytes e.
      timed-step m now status _ _ (gone_whole nn (left bytes)))

  discard-placed : Each (Placed m s n 0) (discard_by now n status out s)
  unfolding discard_by discard_state
  discard-placed =
      must-each (Placed m s n 0) (on_clock s.shared.clock now) Clock _ λ a.
      must-each (Placed m s n 0) (is_space n) Domain _ λ b.
      then-each (Placed m s n 0) out _ λ bytes.
      timed-placed m s 0 now status gone _ n (ltb-true n 3 b) gone-fits

  pub discard-does : {t : State} → discard_by now n status out s ≡ Ok t →
      Does (on_space_discarded now n status (connection_of m s)) (Ok 0) m m s t (state_by s n 0) (λ _. m)
  discard-does {t} e = does-accepted m s (state_by s n 0) (λ _. m) _ m t 0 [] (discard-view ∙ rw e refl) (discard-placed t e) refl

  pub discard-refused : {k : Refusal} → discard_by now n status out s ≡ Err k →
      Does (on_space_discarded now n status (connection_of m s)) (Err k) m m s s (state_by s n 0) (λ _. m)
  discard-refused {k} e = does-refused m s (state_by s n 0) (λ _. m) _ k (discard-view ∙ rw e refl)

  -- whatever was decided
  discard-settled : (d : Result State Refusal) → discard_by now n status out s ≡ d →
      Does (on_space_discarded now n status (connection_of m s)) (outcome_says (settled_by s d).outcome) m m s (settled_by s d).state (state_by s n 0) (λ _. m)
  discard-settled (Ok t) e = discard-does e
  discard-settled (Err k) e = discard-refused e

  pub discard_says : {d : Result State Refusal} {a : Answer Unit} → d ≡ discard_by now n status out s → a ≡ settled_by s d →
      Does (on_space_discarded now n status (connection_of m s)) (outcome_says a.outcome) m m s a.state (state_by s n 0) (λ _. m)
  discard_says {d} e f = rw f (discard-settled d (sym e))

-- ---- a size change

module _ (size : ℕ) (s : State) (m : List ℕ) where
  pub size-refused : is_datagram_size size ≡ false → Does (on_size_change size (connection_of m s)) (Err Domain) m m s s (shared_by s) (λ _. m)
  unfolding on_size_change
  size-refused e = does-refused m s (shared_by s) (λ _. m) _ Domain (rw e refl)

  module _ (fits : is_datagram_size size ≡ true) where
    pub resize-refused : {k : Refusal} → resized s.shared.max_datagram_size size s.shared.congestion ≡ Err k →
        Does (on_size_change size (connection_of m s)) (Err k) m m s s (shared_by s) (λ _. m)
    unfolding on_size_change control moved connection_of
    resize-refused {k} e = does-refused m s (shared_by s) (λ _. m) _ k (rw (fits, e) refl)

    pub resize-does : {g : Congestion} {t : State} → resized s.shared.max_datagram_size size s.shared.congestion ≡ Ok g →
        t ≡ with_shared_state (shared_sized size g s.shared) s →
        Does (on_size_change size (connection_of m s)) (Ok 0) m m s t (shared_by s) (λ _. m)
    unfolding on_size_change control moved connection_of shared_sized
    resize-does {g} {t} e w =
        rw w
        (does-accepted m s (shared_by s) (λ _. m) _ m (with_shared_state (shared_sized size g s.shared) s) 0 (resize s.shared.max_datagram_size size ∷ [])
        (rw (fits, e) refl) refl refl)

-- ---- a fresh connection

pub fresh-view : (s : Settings) (m : List ℕ) → then (fresh_state s) (λ t. Ok (connection_of m t)) ≡ fresh s
unfolding fresh_state space_state_fresh fresh connection_of space_fresh ring queue_of
fresh-view s m = sym (must-then (λ t. Ok (connection_of m t)) (are_settings s) Domain _ _ (λ e. refl))

pub begins : (s : Settings) (r : Result State Refusal) → r ≡ fresh_state s → Begins s r
begins s r e = record { state = e; stands = λ m. rw e (fresh-view s m) }

both : (a b : Bool) → (a && b) ≡ true → (a ≡ true) × (b ≡ true)
both true b e = (refl, e)
both false b e = let z : ◌≡◌ {A = ℕ} 0 1 = cc in absurd (let w : ⊥ = omega arith in w)

-- the initial window of settings in their ranges is small
pub settings_fit : (s : Settings) → are_settings s ≡ true → s.max_datagram_size * s.initial_window_packets ≤ 6552700
unfolding are_settings is_datagram_size
settings_fit s e =
    let a = both _ _ (both _ _ (both _ (leb s.max_ack_delay.0 16383000000) e).0).0 in
    let size : s.max_datagram_size ≤ 65527 = leb-true _ _ (both (leb 1200 s.max_datagram_size) _ a.0).1 in
    let packets : s.initial_window_packets ≤ 100 = leb-true _ _ (both (leb 2 s.initial_window_packets) _ a.1).1 in
    le_trans (mul-le-mul_right s.initial_window_packets size) (mul-le-mul_left 65527 packets)

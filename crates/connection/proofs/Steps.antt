-- Events over a state are model's events on what the words and the state stand for. Assumes nothing.
use mathlib.Core.Path.{◌≡◌, refl, ap, sym, ◌∙◌}
use mathlib.Core.Bool.{Bool, true, false, cond, ◌&&◌}
use mathlib.Core.List.{List, []}
use mathlib.Core.Logic.{◌≢◌}
use Prim.Native.Nat.{ℕ, ◌+◌, ◌<◌, ◌%◌}
use native.Mathlib.Omega.{arith}
use lib.Dec.{ltb}
use lib.ListN.{length}
use borrow.Author.Tests.{ltb-true}
use Rattle.arith.specs.Whole.{sum_of}
use Rattle.arith.specs.declared.time.Moment.{Moment}
use Rattle.arith.specs.Refusals.{then}
use Rattle.model.specs.Numbers.{on_clock, capacity}
use Rattle.model.specs.Timer.{timer_of}
use Rattle.model.specs.Connection.{Connection, with_space, with_shared, with_timer, facts_of, timed}
use Rattle.model.specs.Events.{Step, is_packet, is_newer, run_after, space_sent, shared_sent, sent_in_flight, sent_aside, on_packet_sent}
use Rattle.model.specs.declared.HandshakeStatus.{HandshakeStatus}
use Rattle.model.specs.declared.Packet.{Packet}
use Rattle.arith.specs.declared.refusal.Refusal.TheVariants.{Clock, Domain, Stale, Full}
use Rattle.model.specs.declared.Shared.{Shared}
use Rattle.records.specs.View.{all_words, store_record}
use Rattle.records.proofs.Laws.{records-mod, records-push, length-records, store-record-space, store-record-queue}
use Rattle.connection.specs.View.{count, space_of, connection_of, normal_of, space_state_at, with_space_state}
use Rattle.connection.specs.Steps.{facts_state, armed, timed_state, sent_space, run_state, sent_both, send_state}
use Rattle.connection.specs.declared.SpaceState.{SpaceState}
use Rattle.connection.specs.declared.State.{State}
use Rattle.connection.proofs.Results.{must-then, reach-then, cond-then}
use Rattle.connection.proofs.Views.{space-view, state-view}
use Rattle.std.specs.Prelude.{Result, Ok, Err, Option}
use Rattle.arith.specs.declared.refusal.Refusal.{Refusal}

count-twice : (n : ℕ) → count (count n) ≡ count n
count-twice n = omega arith

-- counts in their ranges stand for the same space
pub normal-view : (m : List ℕ) (n : ℕ) (s : SpaceState) → space_of m n (normal_of s) ≡ space_of m n s
unfolding space_of normal_of
normal-view m n s =
    rw (records-mod m n s.head (count (count s.len)), count-twice s.len, count-twice s.acked, count-twice s.lost_ack, count-twice s.lost_pto) refl

-- the timer
pub timed-view : (m : List ℕ) (now : Moment) (status : HandshakeStatus) (s : State) →
    timed now status (connection_of m s) ≡ then (timed_state now status s) (λ t. Ok (connection_of m t))
unfolding timed timed_state facts_of facts_state connection_of armed
timed-view m now status s = go (timer_of (facts_state now status s))
  where
    go : (x : Result (Option Moment) Refusal) →
        then x (λ t. Ok (with_shared (with_timer t s.shared) (connection_of m s)))
        ≡ then (then x (λ t. Ok (armed t s))) (λ t. Ok (connection_of m t))
    go (Ok t) = refl
    go (Err n) = refl

-- an event without moves that ends in the timer
module _ (m : List ℕ) (now : Moment) (status : HandshakeStatus) where
  abbrev pub done_step : Connection → Result (Step ℕ) Refusal
  done_step c = Ok (record { state = c; answer = 0; moves = [] })

  pub timed-step : (c : Connection) (s : State) → c ≡ connection_of m s →
      then (timed now status c) done_step ≡ then (timed_state now status s) (λ t. done_step (connection_of m t))
  timed-step c s e = rw (e, timed-view m now status s) (go (timed_state now status s))
    where
      go : (x : Result State Refusal) → then (then x (λ t. Ok (connection_of m t))) done_step ≡ then x (λ t. done_step (connection_of m t))
      go (Ok t) = refl
      go (Err n) = refl

-- ---- sent

-- a packet that is in its ranges names a space
pub packet-space : (n : ℕ) (p : Packet) → is_packet n p ≡ true → n < 3
unfolding is_packet
packet-space n p e = ltb-true n 3 (first (ltb n 3) _ e)
  where
    first : (a b : Bool) → (a && b) ≡ true → a ≡ true
    first true b e = refl
    first false b e = e

-- the accepted state with the words that the event leaves
abbrev pub sent_step : List ℕ → State → Result (Step ℕ) Refusal
sent_step m s = Ok (record { state = connection_of m s; answer = 0; moves = [] })

module _ (m : List ℕ) (full : length m ≡ all_words) (now : Moment) (n : ℕ) (p : Packet) (status : HandshakeStatus) (s : State) where
  abbrev q : SpaceState
  q = space_state_at n s

  -- the words with the new record behind the others
  abbrev m' : List ℕ
  m' = store_record m n (q.head % capacity + count q.len) now p

  -- the space with the new record
  space-sent : count q.len < capacity → (in_flight : ℕ) → space_of m' n (sent_space now p in_flight (normal_of q)) ≡ space_sent now p in_flight (space_of m n q)
  unfolding space_of sent_space normal_of
  space-sent room in_flight =
      let c : count (count q.len + 1) ≡ count q.len + 1 = omega arith in
      rw (
        c,
        records-push m n (q.head % capacity) (count q.len) now p full room,
        records-mod m n q.head (count q.len),
        count-twice q.acked,
        count-twice q.lost_ack,
        count-twice q.lost_pto,
        store-record-queue m n (q.head % capacity + count q.len) now p n 0 (count q.acked),
        store-record-queue m n (q.head % capacity + count q.len) now p n 1 (count q.lost_ack),
        store-record-queue m n (q.head % capacity + count q.len) now p n 2 (count q.lost_pto),
      ) refl

  -- the other spaces stay
  others : n < 3 → (k : ℕ) → k < 3 → k ≢ n → (x : SpaceState) → space_of m' k x ≡ space_of m k x
  unfolding space_of
  others nn k kk off x =
      let apart : k % 3 ≢ n % 3 = λ e. off (omega arith) in
      rw (
        store-record-space m n (q.head % capacity + count q.len) now p k x.head (count x.len) apart,
        store-record-queue m n (q.head % capacity + count q.len) now p k 0 (count x.acked),
        store-record-queue m n (q.head % capacity + count q.len) now p k 1 (count x.lost_ack),
        store-record-queue m n (q.head % capacity + count q.len) now p k 2 (count x.lost_pto),
      ) refl

  -- the connection with the new record
  whole_sent : n < 3 → count q.len < capacity → (in_flight : ℕ) (shared : Shared) →
      with_shared shared (with_space n (space_sent now p in_flight (space_of m n q)) (connection_of m s))
      ≡ connection_of m' (with_space_state n (sent_space now p in_flight (normal_of q)) shared s)
  whole_sent nn room in_flight shared =
      sym (state-view m s m' (sent_space now p in_flight (normal_of q)) shared n nn (others nn)
      ∙ rw (space-sent room in_flight) refl)

  -- by whether the packet is in flight
  sent-flying : n < 3 → count q.len < capacity → (run : ℕ) →
      sent_in_flight now n p status run (connection_of m s)
      ≡ then
      (then (sum_of q.epoch.in_flight_count 1) λ in_flight.
      then (sum_of s.shared.bytes_in_flight p.size) λ bytes.
      timed_state now status (with_space_state n (sent_space now p in_flight (normal_of q)) (shared_sent now run bytes s.shared) s))
      (sent_step m')
  unfolding sent_in_flight connection_of
  sent-flying nn room run =
      rw (space-view m s n nn)
      (reach-then (sent_step m') (sum_of q.epoch.in_flight_count 1) _ _ λ in_flight e.
      reach-then (sent_step m') (sum_of s.shared.bytes_in_flight p.size) _ _ λ bytes g.
      timed-step m' now status _ _ (whole_sent nn room in_flight (shared_sent now run bytes s.shared)))

  sent-still : n < 3 → count q.len < capacity → (run : ℕ) →
      sent_aside now n p run (connection_of m s)
      ≡ sent_step m' (with_space_state n (sent_space now p q.epoch.in_flight_count (normal_of q)) (shared_sent now run s.shared.bytes_in_flight s.shared) s)
  unfolding sent_aside connection_of
  sent-still nn room run =
      rw (space-view m s n nn)
      (ap (λ (c : Connection). done_step m now status c)
      (whole_sent nn room q.epoch.in_flight_count (shared_sent now run s.shared.bytes_in_flight s.shared)))

  sent-run : n < 3 → count q.len < capacity → (b : Bool) (run : ℕ) →
      run_after b run (λ x. cond p.in_flight (sent_in_flight now n p status x (connection_of m s)) (sent_aside now n p x (connection_of m s)))
      ≡ then (run_state b run (λ x. sent_both now n p status x s)) (sent_step m')
  unfolding sent_both normal_of
  sent-run nn room true run = cond-then (sent_step m') p.in_flight _ _ _ _ (sent-flying nn room 0) (sent-still nn room 0)
  sent-run nn room false run =
      reach-then (sent_step m') (sum_of run 1) _ _ λ x e. cond-then (sent_step m') p.in_flight _ _ _ _ (sent-flying nn room x) (sent-still nn room x)

  -- sent: model's event is the state's, with the new record behind the others
  pub send-view : on_packet_sent now n p status (connection_of m s) ≡ then (send_state now n p status s) (sent_step m')
  unfolding on_packet_sent send_state connection_of space_of
  send-view =
      must-then (sent_step m') (on_clock s.shared.clock now) Clock _ _ λ a.
      must-then (sent_step m') (is_packet n p) Domain _ _ λ b.
      let nn : n < 3 = packet-space n p b in
      rw (space-view m s n nn, length-records m n q.head (count q.len))
      (must-then (sent_step m') (is_newer q.epoch.largest_sent_packet p.number) Stale _ _ λ c.
      must-then (sent_step m') (ltb (count q.len) capacity) Full _ _ λ d.
      sent-run nn (ltb-true _ _ d) p.ack_eliciting s.shared.outstanding_non_ack_eliciting)

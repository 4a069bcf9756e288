-- A send is refused exactly where a line of 01's table applies, with the first line's number. Assumes nothing.
use mathlib.Core.Path.{◌≡◌, refl, ap, ap₂, sym, ◌∙◌}
use mathlib.Core.Bool.{Bool, true, false, cond, ◌&&◌, ◌||◌, not}
use mathlib.Core.List.{[]}
use Prim.Native.Nat.{ℕ, suc, ◌+◌, ◌*◌, ◌^◌}
use native.Mathlib.Omega.{arith}
use lib.Dec.{leb, ltb, eqb, leb-suc-suc}
use lib.ListN.{length}
use borrow.Author.Tests.{leb-true, leb-false, lt-ltb, le-ltb}
use Rattle.arith.specs.Whole.{limit, within, sum_of, times_of}
use Rattle.arith.specs.Time.{span, moment, as_span, as_moment, scaled_of, span_sum_of, later_of, longer_of}
use Rattle.arith.specs.declared.time.Moment.{Moment}
use Rattle.arith.specs.declared.time.Span.{Span}
use Rattle.arith.specs.Refusals.{then, must, number_of}
use Rattle.model.specs.Numbers.{granularity, on_clock, is_space, is_number, is_size, capacity}
use Rattle.model.specs.Timer.{of, better, pto_of, backoff, pto_backed, pto_application, pto_from, try_epoch, try_application, search, idle_space, pto_time_and_space, pto_timer, timer_by, timer_of, loss_time_and_space}
use Rattle.model.specs.Connection.{Connection, space_at, with_shared, with_timer, facts_of, timed}
use Rattle.model.specs.Events.{Step, is_newer, is_packet, run_after, sent_in_flight, sent_aside, on_packet_sent}
use Rattle.model.specs.Run.{refusal_of}
use Rattle.model.specs.Strength.{given, outside, stale, run_of, sending, is_refused, overflows, send_number}
use Rattle.model.specs.declared.Epoch.{Epoch}
use Rattle.model.specs.declared.HandshakeStatus.{HandshakeStatus}
use Rattle.model.specs.declared.Packet.{Packet}
use Rattle.arith.specs.declared.refusal.Refusal.{Refusal}
use Rattle.arith.specs.declared.refusal.Refusal.TheVariants.{Clock, Domain, Stale, Ranges, Skipped, Full, TooLarge}
use Rattle.model.specs.declared.TimeAndSpace.{TimeAndSpace}
use Rattle.model.specs.declared.TimerFacts.{TimerFacts}
use Rattle.std.specs.Prelude.{Result, Ok, Err, Option, Some, None}

-- ---- a rule that refuses with 7 alone
abbrev Seven : {A : Type 0} → Result A Refusal → Type 0
Seven r = (k : Refusal) → r ≡ Err k → k ≡ TooLarge

seven_is : {A : Type 0} (a : A) → Seven (Ok a)
seven_is a k e = absurd (let z : ◌≡◌ {A = ℕ} 0 1 = cc in let w : ⊥ = omega arith in w)

seven-then : {A B : Type 0} (x : Result A Refusal) (f : A → Result B Refusal) → Seven x → ((a : A) → Seven (f a)) → Seven (then x f)
seven-then (Ok a) f h g = g a
seven-then (Err n) f h g = λ k e. let z : n ≡ k = cc in sym z ∙ h n refl

seven-cond : {A : Type 0} (b : Bool) (r q : Result A Refusal) → Seven r → Seven q → Seven (cond b r q)
seven-cond true r q h g = h
seven-cond false r q h g = g

-- a sum or a product is refused with 7 alone, as a number, a span and a moment
seven-within : (n : ℕ) → Seven (within n)
unfolding within
seven-within n = seven-cond (leb n limit) (Ok n) (Err TooLarge) (seven_is n) (λ k e. cc)

seven-as-span : (o : Result ℕ Refusal) → Seven o → Seven (as_span o)
seven-as-span (Ok n) h = seven_is (span n)
seven-as-span (Err why) h = λ k e. h k cc

seven-as-moment : (o : Result ℕ Refusal) → Seven o → Seven (as_moment o)
seven-as-moment (Ok n) h = seven_is (moment n)
seven-as-moment (Err why) h = λ k e. h k cc

seven-scaled : (n : ℕ) (s : Span) → Seven (scaled_of n s)
unfolding scaled_of times_of
seven-scaled n s = seven-as-span _ (seven-within (n * s.0))

seven-spans : (a b : Span) → Seven (span_sum_of a b)
unfolding span_sum_of sum_of
seven-spans a b = seven-as-span _ (seven-within (a.0 + b.0))

seven-later : (m : Moment) (s : Span) → Seven (later_of m s)
unfolding later_of sum_of
seven-later m s = seven-as-moment _ (seven-within (m.0 + s.0))

-- ---- so does the timer
seven-pto : (f : TimerFacts) → Seven (pto_backed f)
unfolding pto_backed pto_of
seven-pto f =
    seven-then (pto_of f.rtt) (λ p. then (scaled_of (backoff f.pto_count) p) Ok)
    (seven-then (scaled_of 4 f.rtt.rttvar) (λ v. then (span_sum_of f.rtt.smoothed_rtt (longer_of v granularity)) Ok) (seven-scaled 4 f.rtt.rttvar) λ v.
    seven-then (span_sum_of f.rtt.smoothed_rtt (longer_of v granularity)) Ok (seven-spans f.rtt.smoothed_rtt (longer_of v granularity)) seven_is)
    (λ p. seven-then (scaled_of (backoff f.pto_count) p) Ok (seven-scaled (backoff f.pto_count) p) seven_is)

seven-epoch : (e : Epoch) (n : ℕ) (d : Span) (best : TimeAndSpace) → Seven (try_epoch e n d best)
unfolding try_epoch
seven-epoch e n d best =
    seven-cond (eqb e.in_flight_count 0) (Ok best) (then (pto_from e.time_of_last_ack_eliciting_packet d) λ t. Ok (better best t n)) (seven_is best)
    (seven-then (pto_from e.time_of_last_ack_eliciting_packet d) (λ t. Ok (better best t n)) (from e.time_of_last_ack_eliciting_packet) λ t. seven_is (better best t n))
  where
    from : (t : Option Moment) → Seven (pto_from t d)
    from None = seven_is None
    from (Some t) = seven-then (later_of t d) (λ m. Ok (Some m)) (seven-later t d) λ m. seven_is (Some m)

seven-search : (f : TimerFacts) (d : Span) → Seven (search f d)
unfolding search try_application pto_application
seven-search f d =
    seven-then (try_epoch f.initial 0 d (of None 0)) (λ a. then (try_epoch f.handshake 1 d a) λ b. try_application f d b) (seven-epoch f.initial 0 d (of None 0)) λ a.
    seven-then (try_epoch f.handshake 1 d a) (λ b. try_application f d b) (seven-epoch f.handshake 1 d a) λ b.
    seven-cond (eqb f.application.in_flight_count 0 || not f.status.completed) (Ok b) (then (pto_application f d) λ longer. try_epoch f.application 2 longer b)
    (seven_is b)
    (seven-then (pto_application f d) (λ longer. try_epoch f.application 2 longer b)
    (seven-then (scaled_of (backoff f.pto_count) f.rtt.max_ack_delay) (λ extra. then (span_sum_of d extra) Ok) (seven-scaled (backoff f.pto_count) f.rtt.max_ack_delay) λ extra.
    seven-then (span_sum_of d extra) Ok (seven-spans d extra) seven_is)
    λ longer. seven-epoch f.application 2 longer b)

seven-timer : (f : TimerFacts) → Seven (timer_of f)
unfolding timer_of pto_timer pto_time_and_space
seven-timer f = by (loss_time_and_space f.initial f.handshake f.application).time
  where
    by : (t : Option Moment) → Seven (timer_by t f)
    by (Some m) = seven_is (Some m)
    by None =
        seven-cond (eqb f.bytes_in_flight 0 && f.status.peer_verified_address) (Ok None) (then (pto_time_and_space f) λ c. Ok c.time) (seven_is None)
        (seven-then (pto_time_and_space f) (λ c. Ok c.time)
        (seven-then (pto_backed f) _ (seven-pto f) λ d.
        seven-cond (eqb f.bytes_in_flight 0) (then (later_of f.now d) λ m. Ok (of (Some m) (idle_space f.status))) (search f d)
        (seven-then (later_of f.now d) (λ m. Ok (of (Some m) (idle_space f.status))) (seven-later f.now d) λ m. seven_is (of (Some m) (idle_space f.status)))
        (seven-search f d))
        λ c. seven_is c.time)

-- ---- tests turned round
not-leb : (a b : ℕ) → not (leb a b) ≡ ltb b a
not-leb a b = go (leb a b) refl
  where
    go : (t : Bool) → leb a b ≡ t → not t ≡ ltb b a
    go true e = sym (le-ltb b a (leb-true a b e))
    go false e = sym (lt-ltb b a (leb-false a b e))

not-ltb : (a b : ℕ) → not (ltb a b) ≡ leb b a
not-ltb a b = not-leb (suc a) b ∙ leb-suc-suc b a

not-and : (a b : Bool) → not (a && b) ≡ not a || not b
not-and true b = refl
not-and false b = refl

not-or : (a b : Bool) → not (a || b) ≡ not a && not b
not-or true b = refl
not-or false b = refl

not-not : (a : Bool) → not (not a) ≡ a
not-not true = refl
not-not false = refl

-- ---- the first line that applies
must-number : {A : Type 0} (b : Bool) (k : Refusal) (r : Result A Refusal) (x : Bool) (y : ℕ) → not b ≡ x → refusal_of r ≡ y → refusal_of (must b k r) ≡ given x (number_of k) y
must-number true k r x y e f = f ∙ ap (λ (t : Bool). given t (number_of k) y) e
must-number false k r x y e f = ap (λ (t : Bool). given t (number_of k) y) e

reach-number : {A : Type 0} (n : ℕ) (f : ℕ → Result A Refusal) (y : ℕ) → refusal_of (f n) ≡ y → refusal_of (then (within n) f) ≡ given (ltb limit n) 7 y
unfolding within
reach-number n f y e = go (leb n limit) refl
  where
    go : (t : Bool) → leb n limit ≡ t → refusal_of (then (cond t (Ok n) (Err TooLarge)) f) ≡ given (ltb limit n) 7 y
    go true p = e ∙ ap (λ (t : Bool). given t 7 y) (ap not (sym p) ∙ not-leb n limit)
    go false p = ap (λ (t : Bool). given t 7 y) (ap not (sym p) ∙ not-leb n limit)

either : (a b : Bool) (n y : ℕ) → given a n (given b n y) ≡ given (a || b) n y
either true b n y = refl
either false b n y = refl

-- an event that ends in the timer
timed-number : {A : Type 0} (now : Moment) (status : HandshakeStatus) (c : Connection) (f : Connection → A) →
    refusal_of (then (timed now status c) (λ d. Ok (f d))) ≡ given (is_refused (timer_of (facts_of now status c))) 7 0
unfolding timed
timed-number now status c f = go (timer_of (facts_of now status c)) (seven-timer (facts_of now status c))
  where
    go : (x : Result (Option Moment) Refusal) → Seven x → refusal_of (then (then x (λ t. Ok (with_shared (with_timer t c.shared) c))) (λ d. Ok (f d))) ≡ given (is_refused x) 7 0
    go (Ok t) h = refl
    go (Err k) h = ap number_of (h k refl)

-- ---- 01's lines for a send
off-clock : (clock now : Moment) → not (on_clock clock now) ≡ (ltb now.0 clock.0 || ltb limit now.0)
unfolding on_clock
off-clock clock now = not-and (leb clock.0 now.0) (leb now.0 limit) ∙ ap₂ ◌||◌ (not-leb clock.0 now.0) (not-leb now.0 limit)

off-packet : (n : ℕ) (p : Packet) → not (is_packet n p) ≡ outside n p
unfolding is_packet is_size
off-packet n p =
    not-and (is_space n) _
    ∙ ap₂ ◌||◌ (not-ltb n 3)
    (not-and (is_size p.size) _
    ∙ ap₂ ◌||◌ (not-and (leb 1 p.size) (leb p.size 65527) ∙ ap₂ ◌||◌ (not-leb 1 p.size) (not-leb p.size 65527))
    (not-and (is_number p.number) _
    ∙ ap₂ ◌||◌ (not-ltb p.number (2 ^ 62)) (not-or (not p.is_pmtud_probe) p.in_flight ∙ ap (λ (t : Bool). t && not p.in_flight) (not-not p.is_pmtud_probe))))

off-newer : (last : Option ℕ) (n : ℕ) → not (is_newer last n) ≡ stale last n
unfolding is_newer
off-newer None n = refl
off-newer (Some last) n = not-ltb last n

module _ (now : Moment) (n : ℕ) (p : Packet) (status : HandshakeStatus) (c : Connection) where
  abbrev bytes : Bool
  bytes =
      ltb limit ((space_at n c).epoch.in_flight_count + 1)
      || (ltb limit (c.shared.bytes_in_flight + p.size) || is_refused (timer_of (facts_of now status (sending now n p c))))

  -- in flight or aside, with the run that it should have
  flight-number : refusal_of (sent_in_flight now n p status (run_of p c) c) ≡ given bytes 7 0
  unfolding sent_in_flight sum_of
  flight-number =
      reach-number ((space_at n c).epoch.in_flight_count + 1) _ _
      (reach-number (c.shared.bytes_in_flight + p.size) _ _ (timed-number now status (sending now n p c) (λ d. record { state = d; answer = 0; moves = [] })))
      ∙ ap (λ (x : ℕ). given (ltb limit ((space_at n c).epoch.in_flight_count + 1)) 7 x)
      (either (ltb limit (c.shared.bytes_in_flight + p.size)) (is_refused (timer_of (facts_of now status (sending now n p c)))) 7 0)
      ∙ either (ltb limit ((space_at n c).epoch.in_flight_count + 1)) _ 7 0

  way-number : refusal_of (cond p.in_flight (sent_in_flight now n p status (run_of p c) c) (sent_aside now n p (run_of p c) c)) ≡ given (p.in_flight && bytes) 7 0
  unfolding sent_aside
  way-number = go p.in_flight
    where
      go : (b : Bool) → refusal_of (cond b (sent_in_flight now n p status (run_of p c) c) (sent_aside now n p (run_of p c) c)) ≡ given (b && bytes) 7 0
      go true = flight-number
      go false = refl

  run-number : refusal_of (run_after p.ack_eliciting c.shared.outstanding_non_ack_eliciting λ run. cond p.in_flight (sent_in_flight now n p status run c) (sent_aside now n p run c))
      ≡ given (overflows now n p status c) 7 0
  unfolding sum_of
  run-number = go p.ack_eliciting refl
    where
      on : ℕ → Result (Step ℕ) Refusal
      on run = cond p.in_flight (sent_in_flight now n p status run c) (sent_aside now n p run c)

      go : (b : Bool) → p.ack_eliciting ≡ b → refusal_of (run_after b c.shared.outstanding_non_ack_eliciting on) ≡ given (overflows now n p status c) 7 0
      go true e =
          let r : run_of p c ≡ 0 = ap (λ (t : Bool). cond t 0 (c.shared.outstanding_non_ack_eliciting + 1)) e in
          ap (λ (x : ℕ). refusal_of (on x)) (sym r) ∙ way-number ∙ ap (λ (x : ℕ). given (ltb limit x || (p.in_flight && bytes)) 7 0) (sym r)
      go false e =
          let r : run_of p c ≡ c.shared.outstanding_non_ack_eliciting + 1 = ap (λ (t : Bool). cond t 0 (c.shared.outstanding_non_ack_eliciting + 1)) e in
          reach-number (c.shared.outstanding_non_ack_eliciting + 1) on (given (p.in_flight && bytes) 7 0) (ap (λ (x : ℕ). refusal_of (on x)) (sym r) ∙ way-number)
          ∙ either (ltb limit (c.shared.outstanding_non_ack_eliciting + 1)) (p.in_flight && bytes) 7 0
          ∙ ap (λ (x : ℕ). given (ltb limit x || (p.in_flight && bytes)) 7 0) (sym r)

  pub send-number : refusal_of (on_packet_sent now n p status c) ≡ send_number now n p status c
  unfolding on_packet_sent send_number
  send-number =
      must-number (on_clock c.shared.clock now) Clock _ _ _ (off-clock c.shared.clock now)
      (must-number (is_packet n p) Domain _ _ _ (off-packet n p)
      (must-number (is_newer (space_at n c).epoch.largest_sent_packet p.number) Stale _ _ _ (off-newer (space_at n c).epoch.largest_sent_packet p.number)
      (must-number (ltb (length (space_at n c).records) capacity) Full _ _ _ (not-ltb (length (space_at n c).records) capacity) run-number)))

-- 0 is accepted
numbered : (k : Refusal) → number_of k ≡ 0 → ⊥
numbered Clock e = omega arith
numbered Domain e = omega arith
numbered Stale e = omega arith
numbered Ranges e = omega arith
numbered Skipped e = omega arith
numbered Full e = omega arith
numbered TooLarge e = omega arith

pub send-accepted : (now : Moment) (n : ℕ) (p : Packet) (status : HandshakeStatus) (c : Connection) → send_number now n p status c ≡ 0 →
    (x : Step ℕ) × (on_packet_sent now n p status c ≡ Ok x)
send-accepted now n p status c e = go (on_packet_sent now n p status c) refl (send-number now n p status c ∙ e)
  where
    go : (r : Result (Step ℕ) Refusal) → on_packet_sent now n p status c ≡ r → refusal_of r ≡ 0 → (x : Step ℕ) × (on_packet_sent now n p status c ≡ Ok x)
    go (Ok x) f z = (x, f)
    go (Err k) f z = absurd (numbered k z)

-- the events that are refused outside the three spaces alone
pub space-number : {A : Type 0} (n : ℕ) (a : A) → refusal_of (must (is_space n) Domain (Ok a)) ≡ given (leb 3 n) 2 0
space-number n a = must-number (is_space n) Domain (Ok a) (leb 3 n) 0 (not-ltb n 3) refl

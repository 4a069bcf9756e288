-- 01 'Timer and PTO (000)'; RFC 9002 section 6.2. Definitions only.
use Rattle.std.specs.Prelude.{ℕ, ◌-◌, ◌^◌, min, Bool, true, false, cond, ◌&&◌, ◌||◌, not, List, [], ◌∷◌, ltb, leb, eqb, Result, Ok, Option, Some, None}
use Rattle.arith.specs.Time.{span_sum_of, scaled_of, later_of, longer_of}
use Rattle.arith.specs.declared.time.Span.{Span}
use Rattle.arith.specs.Refusals.{then}
use Rattle.model.specs.Numbers.{granularity, is_unset}
use Rattle.model.specs.Sent.{standing, queued}
use Rattle.model.specs.declared.Epoch.{Epoch}
use Rattle.model.specs.declared.HandshakeStatus.{HandshakeStatus}
use Rattle.model.specs.declared.Rtt.{Rtt}
use Rattle.model.specs.declared.Sent.{Sent}
use Rattle.model.specs.declared.TimeAndSpace.{TimeAndSpace}
use Rattle.model.specs.declared.TimerFacts.{TimerFacts}
use Rattle.arith.specs.declared.time.Moment.{Moment}
use Rattle.arith.specs.declared.refusal.Refusal.{Refusal}

-- ---- which time wins

-- an unset time counts as smaller than any set one (DIFFERENCES)
unfoldable pub sooner : Option Moment → Option Moment → Bool
sooner None None = false
sooner None (Some n) = true
sooner (Some m) None = false
sooner (Some m) (Some n) = ltb m.0 n.0

abbrev pub of : Option Moment → ℕ → TimeAndSpace
of t n = record { time = t; space = n }

-- a later space's time wins if none stands yet or its time is smaller
unfoldable pub better : TimeAndSpace → Option Moment → ℕ → TimeAndSpace
unfolding sooner
better best t n = cond (is_unset best.time || sooner t best.time) (of t n) best

-- the loss time that goes before PTO, and its space
unfoldable pub loss_time_and_space : Epoch → Epoch → Epoch → TimeAndSpace
unfolding better
loss_time_and_space initial handshake application =
    better (better (of initial.loss_time 0) handshake.loss_time 1) application.loss_time 2

-- ---- PTO

-- PTO = smoothed + max(4·rttvar, granularity). RFC 9002 section 6.2.1
unfoldable pub pto_of : Rtt → Result Span Refusal
pto_of r = then (scaled_of 4 r.rttvar) λ v. then (span_sum_of r.smoothed_rtt (longer_of v granularity)) Ok

-- the lesser of 2^count and 2^32-1 (DIFFERENCES)
unfoldable pub backoff : ℕ → ℕ
backoff count = min (2 ^ count) 4294967295

-- PTO, times the backoff
unfoldable pub pto_backed : TimerFacts → Result Span Refusal
unfolding pto_of backoff
pto_backed f = then (pto_of f.rtt) λ p. then (scaled_of (backoff f.pto_count) p) Ok

-- Application adds max ack delay, multiplied alike
unfoldable pub pto_application : TimerFacts → Span → Result Span Refusal
unfolding backoff
pto_application f pto =
    then (scaled_of (backoff f.pto_count) f.rtt.max_ack_delay) λ extra. then (span_sum_of pto extra) Ok

-- a space's time: from its last eliciting in-flight send
unfoldable pub pto_from : Option Moment → Span → Result (Option Moment) Refusal
pto_from None d = Ok None
pto_from (Some t) d = then (later_of t d) λ m. Ok (Some m)

-- a space that has packets in flight is tried
unfoldable pub try_epoch : Epoch → ℕ → Span → TimeAndSpace → Result TimeAndSpace Refusal
unfolding pto_from better
try_epoch e n d best =
    cond (eqb e.in_flight_count 0) (Ok best)
    (then (pto_from e.time_of_last_ack_eliciting_packet d) λ t. Ok (better best t n))

-- Application only once completed; otherwise the search ends there
unfoldable pub try_application : TimerFacts → Span → TimeAndSpace → Result TimeAndSpace Refusal
unfolding pto_application try_epoch
try_application f d best =
    cond (eqb f.application.in_flight_count 0 || not f.status.completed) (Ok best)
    (then (pto_application f d) λ longer. try_epoch f.application 2 longer best)

-- spaces with packets in flight are tried in order 0, 1, 2; if no space was tried, the space is 0
unfoldable pub search : TimerFacts → Span → Result TimeAndSpace Refusal
unfolding try_epoch try_application
search f d =
    then (try_epoch f.initial 0 d (of None 0)) λ a.
    then (try_epoch f.handshake 1 d a) λ b.
    try_application f d b

-- nothing in flight: Handshake if keys are held, else Initial
abbrev pub idle_space : HandshakeStatus → ℕ
idle_space s = cond s.has_handshake_keys 1 0

-- nothing in flight: now + PTO
unfoldable pub pto_time_and_space : TimerFacts → Result TimeAndSpace Refusal
unfolding pto_backed search
pto_time_and_space f =
    then (pto_backed f) λ d.
    cond (eqb f.bytes_in_flight 0)
    (then (later_of f.now d) λ m. Ok (of (Some m) (idle_space f.status)))
    (search f d)

-- ---- the timer

-- nothing in flight and peer verified: no timer; else PTO
unfoldable pub pto_timer : TimerFacts → Result (Option Moment) Refusal
unfolding pto_time_and_space
pto_timer f =
    cond (eqb f.bytes_in_flight 0 && f.status.peer_verified_address) (Ok None)
    (then (pto_time_and_space f) λ c. Ok c.time)

-- a loss time goes before PTO
unfoldable pub timer_by : Option Moment → TimerFacts → Result (Option Moment) Refusal
unfolding pto_timer
timer_by (Some m) f = Ok (Some m)
timer_by None f = pto_timer f

unfoldable pub timer_of : TimerFacts → Result (Option Moment) Refusal
unfolding loss_time_and_space timer_by
timer_of f = timer_by (loss_time_and_space f.initial f.handshake f.application).time f

-- ---- a timeout without a loss time

-- its space: the PTO search's, or with nothing in flight Handshake if keys are held, else Initial
unfoldable pub probe_space : TimerFacts → Result ℕ Refusal
unfolding pto_time_and_space
probe_space f = cond (eqb f.bytes_in_flight 0) (Ok (idle_space f.status)) (then (pto_time_and_space f) λ c. Ok c.space)

-- by whether the record is one of them; `go` goes on with the records after it
unfoldable pub probe_by : Bool → ℕ → ℕ → List ℕ → (ℕ → List ℕ → Result (List ℕ) Refusal) → Result (List ℕ) Refusal
probe_by true n handle q go = queued handle q λ p. go (n - 1) p
probe_by false n handle q go = go n q

-- handles of that many oldest data packets neither acked nor lost; a handle 0 counts but adds none
unfoldable pub probe_handles : ℕ → List Sent → List ℕ → Result (List ℕ) Refusal
unfolding probe_by
probe_handles n [] q = Ok q
probe_handles n (r ∷ l) q = probe_by (ltb 0 n && (r.has_data && standing r)) n r.handle q (λ m p. probe_handles m l p)

-- ---- read-outs

-- an ack is to be elicited if the space has probes or 24 non-eliciting packets in a row were sent
unfoldable pub elicits : ℕ → ℕ → Bool
elicits probes run = ltb 0 probes || leb 24 run

-- while any space has probes, cwnd_available is 2^64-1; `snd_cnt` is left out (DIFFERENCES)
unfoldable pub available : ℕ → ℕ → ℕ → ℕ → ℕ → ℕ
available p0 p1 p2 window in_flight =
    cond (ltb 0 p0 || (ltb 0 p1 || ltb 0 p2)) 18446744073709551615 (window - in_flight)

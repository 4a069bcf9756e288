-- 01 'RTT (002)'; RFC 9002 section 5. Definitions only.
use Rattle.std.specs.Prelude.{ℕ, ◌-◌, ◌/◌, Bool, true, false, cond, leb, Result, Ok}
use Rattle.arith.specs.Whole.{sum_of, times_of, gap_of}
use Rattle.arith.specs.Time.{span, span_sum_of, longer_of, shorter_of}
use Rattle.arith.specs.declared.time.Span.{Span}
use Rattle.arith.specs.Refusals.{then}
use Rattle.model.specs.declared.Rtt.{Rtt}
use Rattle.model.specs.declared.Settings.{Settings}
use Rattle.arith.specs.declared.refusal.Refusal.{Refusal}

-- before a sample: latest 0, smoothed the initial RTT, rttvar half of it; min is the initial RTT, as 002 shows (DECISIONS, 'min before a sample')
unfoldable pub rtt_fresh : Settings → Rtt
rtt_fresh s =
    record {
      latest_rtt = span 0;
      min_rtt = s.initial_rtt;
      max_rtt = s.initial_rtt;
      smoothed_rtt = s.initial_rtt;
      rttvar = span (s.initial_rtt.0 / 2);
      has_first_rtt_sample = false;
      max_ack_delay = s.max_ack_delay;
    }

-- first sample L: smoothed = min = max = L, rttvar = L/2. RFC 9002 section 5.3
unfoldable pub rtt_first : Rtt → Span → Rtt
rtt_first r l =
    record {
      latest_rtt = l;
      min_rtt = l;
      max_rtt = l;
      smoothed_rtt = l;
      rttvar = span (l.0 / 2);
      has_first_rtt_sample = true;
      max_ack_delay = r.max_ack_delay;
    }

-- delay capped by max ack delay once completed
abbrev pub capped : Rtt → Span → Bool → Span
capped r delay completed = cond completed (shorter_of delay r.max_ack_delay) delay

-- adjusted = L - delay if L >= min + delay, else L; `edge` is min + delay
abbrev pub adjusted : Span → Span → Span → ℕ
adjusted l delay edge = cond (leb edge.0 l.0) (l.0 - delay.0) l.0

-- rttvar = (3·rttvar)/4 + |smoothed - adjusted|/4 with the old smoothed; each division rounds down
abbrev pub rttvar_next : Rtt → ℕ → (ℕ → Result Rtt Refusal) → Result Rtt Refusal
rttvar_next r a k = then (times_of 3 r.rttvar.0) λ v. then (sum_of (v / 4) (gap_of r.smoothed_rtt.0 a / 4)) k

-- smoothed = (7·smoothed)/8 + adjusted/8
abbrev pub smoothed_next : Rtt → ℕ → (ℕ → Result Rtt Refusal) → Result Rtt Refusal
smoothed_next r a k = then (times_of 7 r.smoothed_rtt.0) λ s. then (sum_of (s / 8) (a / 8)) k

-- a later sample: min is the smallest, max the largest. RFC 9002 sections 5.2 and 5.3
unfoldable pub rtt_later : Rtt → Span → Span → Result Rtt Refusal
rtt_later r l delay =
    let least = shorter_of r.min_rtt l in
    then (span_sum_of least delay) λ edge.
    let a = adjusted l delay edge in
    rttvar_next r a λ v.
    smoothed_next r a λ s.
    Ok
    (record {
      latest_rtt = l;
      min_rtt = least;
      max_rtt = longer_of r.max_rtt l;
      smoothed_rtt = span s;
      rttvar = span v;
      has_first_rtt_sample = true;
      max_ack_delay = r.max_ack_delay;
    })

-- the estimates after a sample L with an ack delay
unfoldable pub rtt_update : Rtt → Span → Span → Bool → Result Rtt Refusal
unfolding rtt_first rtt_later
rtt_update r l delay completed = cond r.has_first_rtt_sample (rtt_later r l (capped r delay completed)) (Ok (rtt_first r l))

-- 01 'Lost or not'; RFC 9002 section 6.1. Definitions only.
use Rattle.std.specs.Prelude.{ℕ, ◌+◌, ◌-◌, Bool, true, false, cond, ◌||◌, List, [], ◌∷◌, leb, ltb, Result, Ok, Option, Some, None}
use Rattle.arith.specs.Whole.{sum_of}
use Rattle.arith.specs.Time.{longer_of, later_of, passed_by}
use Rattle.arith.specs.Round.{product_of}
use Rattle.arith.specs.declared.round.TimeThreshold.{TimeThreshold}
use Rattle.arith.specs.declared.time.Span.{Span}
use Rattle.arith.specs.Refusals.{then}
use Rattle.model.specs.Numbers.{granularity}
use Rattle.model.specs.Sent.{marked, standing, queued}
use Rattle.model.specs.declared.Rtt.{Rtt}
use Rattle.model.specs.declared.Sent.{Sent}
use Rattle.model.specs.declared.Judge.{Judge}
use Rattle.arith.specs.declared.time.Moment.{Moment}
use Rattle.arith.specs.declared.refusal.Refusal.{Refusal}

-- delay = max(latest, smoothed) × threshold, to the nearest nanosecond, halves up, at least granularity; refusal 7 reads the rounded delay
unfoldable pub loss_delay : Rtt → TimeThreshold → Result Span Refusal
loss_delay r t = then (product_of (longer_of r.latest_rtt r.smoothed_rtt) t) λ d. Ok (longer_of d granularity)

-- sent <= now - delay; if now < delay this fails. RFC 9002 section 6.1.2
abbrev pub too_old : Judge → Sent → Bool
too_old j r = passed_by r.time_sent j.delay j.now

-- largest >= number + packet threshold. RFC 9002 section 6.1.1
abbrev pub overtaken : Judge → Sent → Bool
overtaken j r = leb (r.number + j.threshold) j.largest

-- of a record up to the stored largest, neither acked nor lost
unfoldable pub is_lost : Judge → Sent → Bool
is_lost j r = too_old j r || overtaken j r

-- what is gathered over the lost
pub record Lost : Type 0 where
  -- handles of packets lost by an ACK
  pub queue : List ℕ
  pub packets : ℕ
  pub bytes : ℕ
  pub probe_bytes : ℕ
  -- the space's in-flight count
  pub in_flight : ℕ
  -- when the last non-probe lost in flight was sent
  pub last : Option Moment

pub record Detected : Type 0 where
  pub records : List Sent
  pub lost : Lost
  pub loss_time : Option Moment

-- a PMTUD probe counts in neither lost packets nor lost bytes; in flight, it leaves the in-flight count and its bytes come off
abbrev pub lose_probe : Sent → Lost → List ℕ → Result Lost Refusal
lose_probe r s q =
    cond r.in_flight
    (then (sum_of s.probe_bytes r.size) λ n.
    Ok (record { queue = q; packets = s.packets; bytes = s.bytes; probe_bytes = n; in_flight = s.in_flight - 1; last = s.last }))
    (Ok (record { queue = q; packets = s.packets; bytes = s.bytes; probe_bytes = s.probe_bytes; in_flight = s.in_flight; last = s.last }))

abbrev pub lose_packet : Sent → Lost → List ℕ → Result Lost Refusal
lose_packet r s q =
    cond r.in_flight
    (then (sum_of s.bytes r.size) λ n.
    Ok (record { queue = q; packets = s.packets + 1; bytes = n; probe_bytes = s.probe_bytes; in_flight = s.in_flight - 1; last = Some r.time_sent }))
    (Ok (record { queue = q; packets = s.packets + 1; bytes = s.bytes; probe_bytes = s.probe_bytes; in_flight = s.in_flight; last = s.last }))

-- a lost record queues its handle unless 0
unfoldable pub lose : Sent → Lost → Result Lost Refusal
lose r s = queued r.handle s.queue λ q. cond r.is_pmtud_probe (lose_probe r s q) (lose_packet r s q)

unfoldable pub keep_detected : Sent → Detected → Detected
keep_detected r d = record { records = r ∷ d.records; lost = d.lost; loss_time = d.loss_time }

-- the scan stops at the first survivor, whose sent + delay is the space's loss time
abbrev pub survive : Judge → Sent → List Sent → Lost → Result Detected Refusal
survive j r l s = then (later_of r.time_sent j.delay) λ t. Ok (record { records = r ∷ l; lost = s; loss_time = Some t })

-- by whether the record is above the largest, standing, and lost; `go` goes on with the records after it
unfoldable pub detect_by : Bool → Bool → Bool → Judge → Sent → List Sent → Lost → (Lost → Result Detected Refusal) → Result Detected Refusal
unfolding keep_detected lose marked
detect_by true b v j r l s go = Ok (record { records = r ∷ l; lost = s; loss_time = None })
detect_by false false v j r l s go = then (go s) λ d. Ok (keep_detected r d)
detect_by false true false j r l s go = survive j r l s
detect_by false true true j r l s go =
    then (lose r s) λ t.
    then (go t) λ d.
    Ok (keep_detected (marked r false (Some j.now)) d)

-- records, oldest first: the scan ends above the stored largest and passes over those that are acked or lost
unfoldable pub detect : Judge → List Sent → Lost → Result Detected Refusal
unfolding is_lost detect_by
detect j [] s = Ok (record { records = []; lost = s; loss_time = None })
detect j (r ∷ l) s = detect_by (ltb j.largest r.number) (standing r) (is_lost j r) j r l s (detect j l)

-- Step 1 of an acknowledgement and a loss detection, over a list of records, as sums alone: no mark is set and no handle stored. Definitions only.
-- proofs/Split.antt shows that these sums, with the marks and handles of Marks.antt, are model's `meet_all` and `detect`.
use Rattle.std.specs.Prelude.{ℕ, ◌+◌, ◌-◌, Bool, true, false, cond, ◌||◌, List, [], ◌∷◌, eqb, ltb, Result, Ok, Err, Option, Some, None}
use Rattle.arith.specs.Whole.{sum_of}
use Rattle.arith.specs.Time.{later_of}
use Rattle.arith.specs.Refusals.{then}
use Rattle.model.specs.Numbers.{capacity}
use Rattle.model.specs.Sent.{standing}
use Rattle.model.specs.Ack.{distance_by}
use Rattle.model.specs.Loss.{is_lost}
use Rattle.model.specs.declared.Judge.{Judge}
use Rattle.arith.specs.declared.refusal.Refusal.TheVariants.{Full}
use Rattle.model.specs.declared.Sent.{Sent}
use Rattle.marks.specs.declared.Tally.{Tally}
use Rattle.marks.specs.declared.LostTally.{LostTally}
use Rattle.marks.specs.declared.Stop.{Stop}
use Rattle.arith.specs.declared.time.Moment.{Moment}
use Rattle.arith.specs.declared.refusal.Refusal.{Refusal}

-- how many handles a queue of `count` holds with one more: a handle 0 is not queued; refusal 6: the queue would pass 256 handles
unfoldable pub queued_of : ℕ → ℕ → Result ℕ Refusal
queued_of handle count = cond (eqb handle 0) (Ok count) (cond (ltb count capacity) (Ok (count + 1)) (Err Full))

-- ---- step 1

abbrev pub weigh_lost : ℕ → Sent → Tally → Tally
weigh_lost largest r t =
    record t {
      spurious = t.spurious + 1;
      distance = distance_by t.distance largest r.number;
      spurious_in_flight = t.spurious_in_flight || r.in_flight;
    }

-- a newly acked record at place i, with q handles in the queue
abbrev pub newly_weighed : ℕ → Sent → ℕ → Tally → Tally
newly_weighed i r q t = record t { queued = q; newly = t.newly + 1; last = i; eliciting = t.eliciting || r.ack_eliciting }

abbrev pub bytes_weighed : Sent → Tally → Result Tally Refusal
bytes_weighed r t =
    cond r.in_flight (then (sum_of t.acked_bytes r.size) λ n. Ok (record t { acked_bytes = n; in_flight = t.in_flight - 1 })) (Ok t)

abbrev pub weigh_standing : ℕ → Sent → Tally → Result Tally Refusal
weigh_standing i r t = then (queued_of r.handle t.queued) λ q. bytes_weighed r (newly_weighed i r q t)

-- the record at place i, which a range holds: by whether it is acked, and its lost time
unfoldable pub weigh_by : Bool → Option Moment → ℕ → ℕ → Sent → Tally → Result Tally Refusal
weigh_by true lost largest i r t = Ok t
weigh_by false (Some m) largest i r t = Ok (weigh_lost largest r t)
weigh_by false None largest i r t = weigh_standing i r t

unfoldable pub weighed : Bool → ℕ → ℕ → Sent → Tally → Result Tally Refusal
unfolding weigh_by
weighed true largest i r t = weigh_by r.acked r.time_lost largest i r t
weighed false largest i r t = Ok t

-- the records from place i on, each with whether a range holds it
unfoldable pub survey : ℕ → ℕ → List Bool → List Sent → Tally → Result Tally Refusal
unfolding weighed
survey largest i [] l t = Ok t
survey largest i (b ∷ bs) [] t = Ok t
survey largest i (b ∷ bs) (r ∷ l) t = then (weighed b largest i r t) λ u. survey largest (i + 1) bs l u

-- ---- loss detection

abbrev pub lost_tally : ℕ → ℕ → ℕ → ℕ → ℕ → Option Moment → LostTally
lost_tally queued packets bytes probe_bytes in_flight last =
    record { queued = queued; packets = packets; bytes = bytes; probe_bytes = probe_bytes; in_flight = in_flight; last = last }

abbrev pub weigh_probe : Sent → LostTally → Result LostTally Refusal
weigh_probe r t =
    cond r.in_flight (then (sum_of t.probe_bytes r.size) λ n. Ok (record t { probe_bytes = n; in_flight = t.in_flight - 1 })) (Ok t)

abbrev pub weigh_packet : Sent → LostTally → Result LostTally Refusal
weigh_packet r t =
    cond r.in_flight
    (then (sum_of t.bytes r.size) λ n. Ok (record t { packets = t.packets + 1; bytes = n; in_flight = t.in_flight - 1; last = Some r.time_sent }))
    (Ok (record t { packets = t.packets + 1 }))

abbrev pub weigh_kind : Sent → LostTally → Result LostTally Refusal
weigh_kind r t = cond r.is_pmtud_probe (weigh_probe r t) (weigh_packet r t)

-- a lost record
unfoldable pub loss_weighed : Sent → LostTally → Result LostTally Refusal
unfolding queued_of
loss_weighed r t = then (queued_of r.handle t.queued) λ q. weigh_kind r (record t { queued = q })

abbrev pub stop : LostTally → ℕ → Option Moment → Result Stop Refusal
stop t i time = Ok (record { tally = t; place = i; loss_time = time })

-- the first survivor, at place i
abbrev pub survives : Judge → ℕ → Sent → LostTally → Result Stop Refusal
survives j i r t = then (later_of r.time_sent j.delay) λ m. stop t i (Some m)

-- by whether the record at place i is above the largest, standing, and lost; `go` goes on with the records after it
unfoldable pub seek_by : Bool → Bool → Bool → Judge → ℕ → Sent → LostTally → (LostTally → Result Stop Refusal) → Result Stop Refusal
unfolding loss_weighed
seek_by true b v j i r t go = stop t i None
seek_by false false v j i r t go = go t
seek_by false true false j i r t go = survives j i r t
seek_by false true true j i r t go = then (loss_weighed r t) go

-- the records from place i on
unfoldable pub seek : Judge → ℕ → List Sent → LostTally → Result Stop Refusal
unfolding seek_by is_lost
seek j i [] t = stop t i None
seek j i (r ∷ l) t = seek_by (ltb j.largest r.number) (standing r) (is_lost j r) j i r t (seek j (i + 1) l)

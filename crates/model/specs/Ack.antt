-- 01 'Acknowledgement (000)' 1 and 3: what becomes of the records in the ranges, and the reordering that is borne from then on. Definitions only.
use Rattle.std.specs.Prelude.{ℕ, ◌+◌, ◌-◌, min, max, Bool, true, false, cond, ◌||◌, List, [], ◌∷◌, ◌++◌, Result, Ok, Option, Some, None}
use Rattle.arith.specs.Whole.{sum_of}
use Rattle.arith.specs.declared.round.TimeThreshold.TheVariants.{FiveFourths}
use Rattle.arith.specs.Refusals.{then}
use Rattle.model.specs.Sent.{marked, queued}
use Rattle.model.specs.declared.Reordering.{Reordering}
use Rattle.model.specs.declared.Sent.{Sent}
use Rattle.arith.specs.declared.time.Moment.{Moment}
use Rattle.arith.specs.declared.refusal.Refusal.{Refusal}

-- what is gathered over the records in the ranges
pub record Met : Type 0 where
  -- handles of acked packets
  pub queue : List ℕ
  -- the newly acked, in order
  pub newly : List Sent
  pub acked_bytes : ℕ
  -- the space's in-flight count
  pub in_flight : ℕ
  pub spurious : ℕ
  -- set by the first spurious one
  pub distance : Option ℕ
  pub spurious_in_flight : Bool

pub record Acked : Type 0 where
  pub records : List Sent
  pub met : Met

-- the first spurious record sets distance = largest - number + 1
abbrev pub distance_by : Option ℕ → ℕ → ℕ → Option ℕ
distance_by (Some d) largest number = Some d
distance_by None largest number = Some (largest - number + 1)

-- lost: mark acked, count spurious
abbrev pub meet_lost : ℕ → Sent → Met → Met
meet_lost largest r m =
    record {
      queue = m.queue;
      newly = m.newly;
      acked_bytes = m.acked_bytes;
      in_flight = m.in_flight;
      spurious = m.spurious + 1;
      distance = distance_by m.distance largest r.number;
      spurious_in_flight = m.spurious_in_flight || r.in_flight;
    }

abbrev pub newly_met : Sent → Met → List ℕ → ℕ → ℕ → Met
newly_met r m queue bytes in_flight =
    record {
      queue = queue;
      newly = m.newly ++ (r ∷ []);
      acked_bytes = bytes;
      in_flight = in_flight;
      spurious = m.spurious;
      distance = m.distance;
      spurious_in_flight = m.spurious_in_flight;
    }

-- else: mark acked, queue its handle unless 0, and if in flight add its size to acked bytes and take it from the in-flight count
abbrev pub meet_standing : Sent → Met → Result Met Refusal
meet_standing r m =
    queued r.handle m.queue λ q.
    cond r.in_flight (then (sum_of m.acked_bytes r.size) λ n. Ok (newly_met r m q n (m.in_flight - 1)))
    (Ok (newly_met r m q m.acked_bytes m.in_flight))

-- a record in the ranges; already acked: skip
unfoldable pub meet_by : Bool → Option Moment → ℕ → Sent → Met → Result Met Refusal
meet_by true lost largest r m = Ok m
meet_by false (Some t) largest r m = Ok (meet_lost largest r m)
meet_by false None largest r m = meet_standing r m

unfoldable pub keep_acked : Sent → Acked → Acked
keep_acked r a = record { records = r ∷ a.records; met = a.met }

-- all records, oldest first, each with whether a range holds it
unfoldable pub meet_all : ℕ → List Bool → List Sent → Met → Result Acked Refusal
unfolding meet_by keep_acked marked
meet_all largest [] l m = Ok (record { records = l; met = m })
meet_all largest (b ∷ bs) [] m = Ok (record { records = []; met = m })
meet_all largest (false ∷ bs) (r ∷ l) m = then (meet_all largest bs l m) λ a. Ok (keep_acked r a)
meet_all largest (true ∷ bs) (r ∷ l) m =
    then (meet_by r.acked r.time_lost largest r m) λ n.
    then (meet_all largest bs l n) λ a.
    Ok (keep_acked (marked r true r.time_lost) a)

-- any spurious: packet threshold = max(old, min(distance, 20)), time threshold 5/4
unfoldable pub reordered_by : Option ℕ → ℕ → Reordering → Reordering
reordered_by None count o = record { pkt_thresh = o.pkt_thresh; time_thresh = o.time_thresh; lost_spurious_count = count }
reordered_by (Some d) count o = record { pkt_thresh = max o.pkt_thresh (min d 20); time_thresh = FiveFourths; lost_spurious_count = count }

-- refusal 7: the spurious count
unfoldable pub reordered : Option ℕ → ℕ → Reordering → Result Reordering Refusal
unfolding reordered_by
reordered distance spurious o = then (sum_of o.lost_spurious_count spurious) λ n. Ok (reordered_by distance n o)

-- The records of a space, oldest first, and its queues. 01 'Acknowledgement (000)' 1 and 2. Definitions only.
use Rattle.std.specs.Prelude.{ℕ, zero, suc, ◌+◌, ◌-◌, ◌/◌, Bool, true, false, cond, ◌&&◌, not, List, [], ◌∷◌, ◌++◌, ltb, eqb, length, drop, replicate, Result, Err, Option, Some, None}
use Rattle.arith.specs.Time.{passed_by}
use Rattle.arith.specs.declared.time.Moment.{Moment}
use Rattle.arith.specs.declared.time.Span.{Span}
use Rattle.model.specs.Numbers.{capacity, is_unset}
use Rattle.model.specs.declared.Packet.{Packet}
use Rattle.arith.specs.declared.refusal.Refusal.TheVariants.{Full}
use Rattle.model.specs.declared.Sent.{Sent}
use Rattle.arith.specs.declared.refusal.Refusal.{Refusal}

-- ---- one record

-- a packet as it is sent now
unfoldable pub sent_now : Moment → Packet → Sent
sent_now now p =
    record {
      number = p.number;
      time_sent = now;
      size = p.size;
      ack_eliciting = p.ack_eliciting;
      in_flight = p.in_flight;
      has_data = p.has_data;
      is_pmtud_probe = p.is_pmtud_probe;
      handle = p.handle;
      acked = false;
      time_lost = None;
    }

-- the record with its mark changed: acked, or lost at a moment
unfoldable pub marked : Sent → Bool → Option Moment → Sent
marked r acked lost =
    record {
      number = r.number;
      time_sent = r.time_sent;
      size = r.size;
      ack_eliciting = r.ack_eliciting;
      in_flight = r.in_flight;
      has_data = r.has_data;
      is_pmtud_probe = r.is_pmtud_probe;
      handle = r.handle;
      acked = acked;
      time_lost = lost;
    }

-- neither acked nor lost
abbrev pub standing : Sent → Bool
standing r = not r.acked && is_unset r.time_lost

-- ---- draining

-- acked or lost; but one whose lost time is > now - smoothed stays, even if acked later; if now < smoothed, nothing lost is drained
abbrev pub may_leave_by : Option Moment → Bool → Moment → Span → Bool
may_leave_by None acked now smoothed = acked
may_leave_by (Some lost) acked now smoothed = passed_by lost smoothed now

abbrev pub may_leave : Moment → Span → Sent → Bool
may_leave now smoothed r = may_leave_by r.time_lost r.acked now smoothed

-- drain from the front
unfoldable pub drained : Moment → Span → List Sent → List Sent
drained now smoothed [] = []
drained now smoothed (r ∷ l) = cond (may_leave now smoothed r) (drained now smoothed l) (r ∷ l)

-- ---- queues of handles, last in first out: the newest stands last

-- a handle is queued unless it is 0; refusal 6: a queue would pass 256 handles
abbrev pub queued : {A : Type 0} → ℕ → List ℕ → (List ℕ → Result A Refusal) → Result A Refusal
queued handle q k = cond (eqb handle 0) (k q) (cond (ltb (length q) capacity) (k (q ++ (handle ∷ []))) (Err Full))

-- what is taken, 0 from an empty queue, and what is left
unfoldable pub newest : List ℕ → ℕ
newest [] = 0
newest (h ∷ []) = h
newest (h ∷ (g ∷ l)) = newest (g ∷ l)

unfoldable pub rest : List ℕ → List ℕ
rest [] = []
rest (h ∷ []) = []
rest (h ∷ (g ∷ l)) = h ∷ rest (g ∷ l)

-- ---- which records the ranges hold. 01: the place where a range begins is found by halving

unfoldable pub number_at : List Sent → ℕ → ℕ
number_at [] i = 0
number_at (r ∷ l) zero = r.number
number_at (r ∷ l) (suc i) = number_at l i

-- the first of `width` places from `lo` on whose number is not below x, by halving; the first argument bounds how often
unfoldable pub halved : ℕ → (ℕ → ℕ) → ℕ → ℕ → ℕ → ℕ
halved zero number x lo width = lo
halved (suc k) number x lo width =
    let past = ltb 0 width && ltb (number (lo + width / 2)) x in
    halved k number x (cond past (lo + width / 2 + 1) lo) (cond past (width - width / 2 - 1) (width / 2))

unfoldable pub place_of : ℕ → List Sent → ℕ
unfolding halved number_at
place_of x l = halved (length l) (number_at l) x 0 (length l)

-- how many records from the front on have numbers below x
unfoldable pub count_below : ℕ → List Sent → ℕ
count_below x [] = 0
count_below x (r ∷ l) = cond (ltb r.number x) (suc (count_below x l)) 0

-- for each record, whether a range holds it: each range begins at its place among the records left and goes on below its end
unfoldable pub covered : List ℕ → List Sent → List Bool
unfolding place_of count_below
covered [] l = replicate (length l) false
covered (start ∷ []) l = replicate (length l) false
covered (start ∷ (end ∷ more)) l =
    let before = place_of start l in
    let held = count_below end (drop before l) in
    replicate before false ++ (replicate held true ++ covered more (drop (before + held) l))

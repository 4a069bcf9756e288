-- Model's folds over records, split: the survey has the sums and the refusal, the marks and the handles need neither. Assumes nothing.
use mathlib.Core.Path.{◌≡◌, refl, ap, ◌∙◌}
use mathlib.Core.Bool.{Bool, true, false, cond, ◌||◌, ◌&&◌, not}
use mathlib.Core.List.{List, [], ◌∷◌, ◌++◌, append-nil, append_assoc}
use Prim.Native.Nat.{ℕ, ◌+◌, ◌-◌}
use lib.Dec.{eqb, ltb}
use lib.ListN.{length, length-append}
use Rattle.arith.specs.Whole.{sum_of}
use Rattle.arith.specs.Refusals.{then}
use Rattle.model.specs.Numbers.{capacity, is_unset}
use Rattle.model.specs.Sent.{marked}
use Rattle.model.specs.Ack.{Met, Acked, meet_lost, newly_met, meet_by, keep_acked, meet_all}
use Rattle.arith.specs.declared.refusal.Refusal.TheVariants.{Full}
use Rattle.model.specs.declared.Sent.{Sent}
use Rattle.marks.specs.Marks.{newly_of, acked_all, handles_of}
use Rattle.marks.specs.Survey.{weigh_by, weighed, queued_of, bytes_weighed, newly_weighed, survey}
use Rattle.marks.specs.declared.Tally.{Tally}
use Rattle.std.specs.Prelude.{Result, Ok, Err, Option, Some, None}
use Rattle.arith.specs.declared.time.Moment.{Moment}
use Rattle.arith.specs.declared.refusal.Refusal.{Refusal}

-- ---- step 1 of an acknowledgement

-- the sums of what was gathered; the survey's own fields beside them
abbrev pub short_of : Met → ℕ → ℕ → Bool → Tally
short_of m newly last eliciting =
    record {
      queued = length m.queue;
      newly = newly;
      last = last;
      eliciting = eliciting;
      acked_bytes = m.acked_bytes;
      in_flight = m.in_flight;
      spurious = m.spurious;
      distance = m.distance;
      spurious_in_flight = m.spurious_in_flight;
    }

abbrev pub met_by : Tally → List ℕ → List Sent → Met
met_by t q ns =
    record {
      queue = q;
      newly = ns;
      acked_bytes = t.acked_bytes;
      in_flight = t.in_flight;
      spurious = t.spurious;
      distance = t.distance;
      spurious_in_flight = t.spurious_in_flight;
    }

unfoldable pub finish : Result Tally Refusal → List Sent → List ℕ → List Sent → Result Acked Refusal
finish (Ok t) l q ns = Ok (record { records = l; met = met_by t q ns })
finish (Err n) l q ns = Err n

keep-finish : (r : Sent) (x : Result Tally Refusal) (l : List Sent) (q : List ℕ) (ns : List Sent) → then (finish x l q ns) (λ a. Ok (keep_acked r a)) ≡ finish x (r ∷ l) q ns
unfolding finish keep_acked
keep-finish r (Ok t) l q ns = refl
keep-finish r (Err n) l q ns = refl

-- the records after the first one are split already
module _ (K : Met → Result Acked Refusal) (Z : Tally → Result Tally Refusal) (l : List Sent) (ns : List Sent)
    (ih : (m : Met) (n k : ℕ) (e : Bool) → K m ≡ finish (Z (short_of m n k e)) l (m.queue ++ handles_of ns) (m.newly ++ ns)) where
  abbrev hs : List ℕ
  hs = handles_of ns

  kept : (r : Sent) (m : Met) (n k : ℕ) (e : Bool) → then (K m) (λ a. Ok (keep_acked r a)) ≡ finish (Z (short_of m n k e)) (r ∷ l) (m.queue ++ hs) (m.newly ++ ns)
  kept r m n k e = ap (λ (x : Result Acked Refusal). then x (λ a. Ok (keep_acked r a))) (ih m n k e) ∙ keep-finish r (Z (short_of m n k e)) l (m.queue ++ hs) (m.newly ++ ns)

  module _ (r : Sent) (r' : Sent) (i : ℕ) (m : Met) (n k : ℕ) (e : Bool) where
    abbrev t : Tally
    t = short_of m n k e

    abbrev keeping : Met → Result Acked Refusal
    keeping u = then (K u) (λ a. Ok (keep_acked r' a))

    one_more : (q : List ℕ) (bytes in_flight : ℕ) →
        keeping (newly_met r m q bytes in_flight)
        ≡ finish (Z (short_of (newly_met r m q bytes in_flight) (n + 1) i (e || r.ack_eliciting))) (r' ∷ l) (q ++ hs) (m.newly ++ (r ∷ ns))
    one_more q bytes in_flight =
        rw (← append_assoc m.newly (r ∷ []) ns) (kept r' (newly_met r m q bytes in_flight) (n + 1) i (e || r.ack_eliciting))

    by_bytes : (q : List ℕ) (b : Bool) (s : Result ℕ Refusal) →
        then (cond b (then s λ x. Ok (newly_met r m q x (m.in_flight - 1))) (Ok (newly_met r m q m.acked_bytes m.in_flight))) keeping
        ≡ finish
        (then
        (cond b (then s λ x. Ok (record (newly_weighed i r (length q) t) { acked_bytes = x; in_flight = m.in_flight - 1 }))
        (Ok
        (record {
          queued = length q;
          newly = n + 1;
          last = i;
          eliciting = e || r.ack_eliciting;
          acked_bytes = m.acked_bytes;
          in_flight = m.in_flight;
          spurious = m.spurious;
          distance = m.distance;
          spurious_in_flight = m.spurious_in_flight;
        })))
        Z)
        (r' ∷ l) (q ++ hs) (m.newly ++ (r ∷ ns))
    unfolding finish
    by_bytes q true (Ok x) = one_more q x (m.in_flight - 1)
    by_bytes q true (Err why) = refl
    by_bytes q false s = one_more q m.acked_bytes m.in_flight

    by-handle : (z room : Bool) →
        then
        (cond z
        (cond r.in_flight (then (sum_of m.acked_bytes r.size) λ x. Ok (newly_met r m m.queue x (m.in_flight - 1)))
        (Ok (newly_met r m m.queue m.acked_bytes m.in_flight)))
        (cond room
        (cond r.in_flight (then (sum_of m.acked_bytes r.size) λ x. Ok (newly_met r m (m.queue ++ (r.handle ∷ [])) x (m.in_flight - 1)))
        (Ok (newly_met r m (m.queue ++ (r.handle ∷ [])) m.acked_bytes m.in_flight)))
        (Err Full)))
        keeping
        ≡ finish
        (then (then (cond z (Ok (length m.queue)) (cond room (Ok (length m.queue + 1)) (Err Full))) (λ q. bytes_weighed r (newly_weighed i r q t))) Z)
        (r' ∷ l) (m.queue ++ cond z hs (r.handle ∷ hs)) (m.newly ++ (r ∷ ns))
    unfolding finish
    by-handle true room = by_bytes m.queue r.in_flight (sum_of m.acked_bytes r.size)
    by-handle false true =
        let len : length (m.queue ++ (r.handle ∷ [])) ≡ length m.queue + 1 = length-append m.queue (r.handle ∷ []) in
        rw (← len, ← append_assoc m.queue (r.handle ∷ []) hs) (by_bytes (m.queue ++ (r.handle ∷ [])) r.in_flight (sum_of m.acked_bytes r.size))
    by-handle false false = refl

    -- a record that a range holds, by whether it is acked, and its lost time
    by-fate : (largest : ℕ) (a : Bool) (lost : Option Moment) →
        then (meet_by a lost largest r m) keeping
        ≡ finish (then (weigh_by a lost largest i r t) Z) (r' ∷ l) (m.queue ++ handles_of (cond (not a && is_unset lost) (r ∷ ns) ns))
        (m.newly ++ cond (not a && is_unset lost) (r ∷ ns) ns)
    unfolding meet_by weigh_by queued_of handles_of
    by-fate largest true lost = kept r' m n k e
    by-fate largest false (Some x) = kept r' (meet_lost largest r m) n k e
    by-fate largest false None = by-handle (eqb r.handle 0) (ltb (length m.queue) capacity)

-- step 1 is its survey, its marks and its handles
pub split : (largest i : ℕ) (bs : List Bool) (l : List Sent) (m : Met) (n k : ℕ) (e : Bool) →
    meet_all largest bs l m
    ≡ finish (survey largest i bs l (short_of m n k e)) (acked_all bs l) (m.queue ++ handles_of (newly_of bs l)) (m.newly ++ newly_of bs l)
unfolding meet_all survey acked_all newly_of handles_of finish weighed
split largest i [] l m n k e = rw (append-nil m.queue, append-nil m.newly) refl
split largest i (b ∷ bs) [] m n k e = rw (append-nil m.queue, append-nil m.newly) refl
split largest i (false ∷ bs) (r ∷ l) m n k e =
    kept (meet_all largest bs l) (survey largest (i + 1) bs l) (acked_all bs l) (newly_of bs l) (split largest (i + 1) bs l) r m n k e
split largest i (true ∷ bs) (r ∷ l) m n k e =
    by-fate (meet_all largest bs l) (survey largest (i + 1) bs l) (acked_all bs l) (newly_of bs l) (split largest (i + 1) bs l)
    r (marked r true r.time_lost) i m n k e largest r.acked r.time_lost

-- CUBIC over the newly acked, record by record. Assumes nothing.
use mathlib.Core.Path.{◌≡◌, refl, ap, sym, ◌∙◌}
use mathlib.Core.Bool.{Bool, true, false, cond}
use mathlib.Core.List.{List, ◌∷◌}
use Prim.Native.Nat.{ℕ, ◌+◌, ◌-◌, ◌%◌, ◌≤◌, ◌<◌}
use native.Mathlib.Omega.{arith}
use borrow.Author.Tests.{eq-eqb, ne_eqb}
use lib.Dec.{eqb}
use lib.ListN.{get_or}
use Rattle.arith.specs.declared.time.Moment.{Moment}
use Rattle.arith.specs.declared.time.Span.{Span}
use Rattle.marks.specs.Marks.{held_at, is_newly, newly_of}
use Rattle.marks.proofs.Rings.{newly-first, held-rounds}
use Rattle.model.specs.Control.{moved, control, ack_each}
use Rattle.model.specs.Cubic.{packet_acked}
use Rattle.arith.specs.Refusals.{then}
use Rattle.model.specs.Numbers.{capacity}
use Rattle.model.specs.Sent.{standing}
use Rattle.model.specs.declared.Congestion.{Congestion}
use Rattle.arith.specs.declared.refusal.Refusal.{Refusal}
use Rattle.model.specs.declared.Sent.{Sent}
use Rattle.records.specs.View.{at, record_at, ring}
use Rattle.records.proofs.Laws.{record-by, standing-mark}
use Rattle.records.proofs.Rings.{ring-end}
use Rattle.acks.specs.Each.{ack_one}
use Rattle.std.specs.Prelude.{Result, Ok, Err}

-- the newly acked among c places from place i on
module _ (time : Moment) (limited : Bool) (min_rtt : Span) (f : ℕ → Bool) (g : ℕ → Sent) where
  abbrev pub each : ℕ → ℕ → Congestion → Result Congestion Refusal
  each i c h = control (ack_each time limited min_rtt (newly_of (ring f i c) (ring g i c))) h

  each-by : (w : Bool) (r : Sent) (l : List Sent) (h : Congestion) →
      control (ack_each time limited min_rtt (cond w (r ∷ l) l)) h
      ≡ then (cond w (packet_acked time r.time_sent r.size limited min_rtt h) (Ok h)) (λ k. control (ack_each time limited min_rtt l) k)
  unfolding control moved ack_each
  each-by true r l h = refl
  each-by false r l h = refl

  -- a turn of the loop
  module _ {i stop : ℕ} (h : Congestion) {x : Result Congestion Refusal} (inv : each i (stop - i) h ≡ x) where
    turn : i < stop → then (cond (is_newly (f i) (g i)) (packet_acked time (g i).time_sent (g i).size limited min_rtt h) (Ok h)) (λ k. each (i + 1) (stop - (i + 1)) k) ≡ x
    turn lt =
        let e : stop - i - 1 ≡ stop - (i + 1) = omega arith in
        sym (rw (newly-first f g i (stop - i) (omega arith), e) (each-by (is_newly (f i) (g i)) (g i) (newly_of (ring f (i + 1) (stop - (i + 1))) (ring g (i + 1) (stop - (i + 1)))) h)) ∙ inv

    one-turn : i < stop → f i ≡ true → then (ack_one time limited min_rtt (g i) h) (λ k. each (i + 1) (stop - (i + 1)) k) ≡ x
    unfolding ack_one
    one-turn lt on = rw on at (turn lt)

    pub each_on : i < stop → f i ≡ true → {k : Congestion} → Ok k ≡ ack_one time limited min_rtt (g i) h → each (i + 1) (stop - (i + 1)) k ≡ x
    each_on lt on e = rw (← e) at (one-turn lt on)

    pub each_ends : i < stop → f i ≡ true → {why : Refusal} → Err why ≡ ack_one time limited min_rtt (g i) h → Err why ≡ x
    each_ends lt on e = rw (← e) at (one-turn lt on)

    pub each_off : i < stop → f i ≡ false → each (i + 1) (stop - (i + 1)) h ≡ x
    each_off lt off = rw off at (turn lt)

    pub each_end : stop ≤ i → Ok h ≡ x
    unfolding newly_of ack_each control
    each_end le = rw (ring-end f i (stop - i) (omega arith)) at inv

  pub each_start : (stop : ℕ) (h : Congestion) → each 0 (stop - 0) h ≡ each 0 stop h
  each_start stop h = let e : stop - 0 ≡ stop = omega arith in ap (λ (c : ℕ). each 0 c h) e

-- places taken round, and as many as there are
pub each-round : (time : Moment) (limited : Bool) (min_rtt : Span) (f : ℕ → Bool) (m : List ℕ) (n head stop s : ℕ) (h : Congestion) → stop ≡ s →
    each time limited min_rtt f (held_at m n (head % capacity)) 0 stop h ≡ each time limited min_rtt f (held_at m n head) 0 s h
each-round time limited min_rtt f m n head stop s h e = rw (e, held-rounds m n head 0 s) refl

-- ---- one record, by its mark
module _ (time : Moment) (limited : Bool) (min_rtt : Span) (m : List ℕ) (n k : ℕ) (g : Congestion) {v : ℕ} (e : v ≡ get_or m (at n k 5) 0) where
  stands : standing (record_at m n k) ≡ eqb v 0
  stands = rw (record-by m n k, e) (standing-mark m n k (get_or m (at n k 5) 0))

  pub one_marked : (v ≡ 0 → ⊥) → Ok g ≡ ack_one time limited min_rtt (record_at m n k) g
  unfolding ack_one
  one_marked p = rw (stands, ne_eqb v 0 p) refl

  pub one_stands : v ≡ 0 → {r : Sent} (x : Result Congestion Refusal) → r ≡ record_at m n k → x ≡ packet_acked time r.time_sent r.size limited min_rtt g →
      x ≡ ack_one time limited min_rtt (record_at m n k) g
  unfolding ack_one
  one_stands p x a b = rw (stands, eq-eqb v 0 p) (rw a at b)

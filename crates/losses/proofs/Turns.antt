-- Draining and seeking, a place at a time: a turn of each loop. Assumes nothing.
use mathlib.Core.Path.{◌≡◌, refl, ap, sym, ◌∙◌}
use mathlib.Core.Bool.{Bool, true, false}
use mathlib.Core.List.{List, []}
use Prim.Native.Nat.{ℕ, ◌+◌, ◌-◌, ◌%◌, ◌≤◌, ◌<◌}
use native.Mathlib.Nat.{mod-add-mod}
use native.Mathlib.Omega.{arith}
use borrow.Author.Tests.{ne_eqb, lt-ltb, le-ltb}
use lib.Dec.{ltb}
use lib.ListN.{length, get_or}
use Rattle.arith.specs.declared.time.Moment.{Moment}
use Rattle.arith.specs.declared.time.Span.{Span}
use Rattle.arith.specs.Refusals.{then}
use Rattle.arith.specs.Time.{passed_by}
use Rattle.model.specs.Numbers.{capacity}
use Rattle.model.specs.Sent.{marked, may_leave_by, may_leave, drained, standing}
use Rattle.model.specs.Loss.{is_lost}
use Rattle.model.specs.declared.Judge.{Judge}
use Rattle.model.specs.declared.Sent.{Sent}
use Rattle.records.specs.View.{at, acked_by, lost_by, record_by, record_at, ring}
use Rattle.records.proofs.Laws.{lost-mark, record-acked}
use Rattle.records.proofs.Rings.{ring-end, ring-step, length-ring}
use Rattle.marks.specs.Marks.{mark_of, lost_mark, mark_acked, mark_settled, acked_at, settled_at}
use Rattle.marks.specs.Survey.{loss_weighed, stop, survives, seek_by, seek}
use Rattle.marks.specs.declared.LostTally.{LostTally}
use Rattle.marks.specs.declared.Stop.{Stop}
use Rattle.marks.proofs.Lost.{weighed-lost}
use Rattle.marks.proofs.Rings.{held-round}
use Rattle.losses.specs.Drain.{leaves_by, drained_to}
use Rattle.std.specs.Prelude.{Result, Ok, Err, Option, None}
use Rattle.arith.specs.declared.refusal.Refusal.{Refusal}

-- ---- the head may be taken round the ring
module _ (m : List ℕ) (n head : ℕ) (fs : List Bool) where
  pub acked-round : (i : ℕ) → acked_at m n (head % capacity) fs i ≡ acked_at m n head fs i
  unfolding record_by mark_acked
  acked-round i = rw (mod-add-mod head capacity i)

  pub settled-round : (stop : ℕ) (now : Moment) (i : ℕ) → settled_at m n (head % capacity) fs stop now i ≡ settled_at m n head fs stop now i
  unfolding record_by mark_settled mark_acked
  settled-round stop now i = rw (mod-add-mod head capacity i)

-- ---- whether a record may leave, by its mark
module _ (mark : ℕ) (now : Moment) (smoothed : Span) where
  pub leaves-lost-now : mark ≡ 0 → passed_by now smoothed now ≡ leaves_by mark true now smoothed
  leaves-lost-now e = rw (e, (lost-mark now.0).1)

  pub leaves-standing : mark ≡ 0 → false ≡ leaves_by mark false now smoothed
  leaves-standing e = rw e

  pub leaves-marked : (b : Bool) (time : Option Moment) → (mark ≡ 0 → ⊥) → lost_by mark ≡ time → may_leave_by time (acked_by mark) now smoothed ≡ leaves_by mark b now smoothed
  leaves-marked b time some e =
      ap (λ (t : Option Moment). may_leave_by t (acked_by mark) now smoothed) (sym e) ∙ ap (λ (k : ℕ). may_leave_by (lost_by k) (acked_by k) now smoothed) (sym (kept b))
    where
      kept : (b : Bool) → lost_mark b now mark ≡ mark
      kept true = rw (ne_eqb mark 0 some)
      kept false = refl

-- ---- draining the places up to k, one at a time
module _ (now : Moment) (smoothed : Span) (f : ℕ → Sent) (k : ℕ) where
  pub drained-on : (i : ℕ) → i < k → may_leave now smoothed (f i) ≡ true → drained now smoothed (ring f i (k - i)) ≡ drained now smoothed (ring f (i + 1) (k - (i + 1)))
  unfolding drained
  drained-on i lt e = let d : k - i - 1 ≡ k - (i + 1) = omega arith in rw (ring-step f i (k - i) (omega arith), e, d) refl

  pub drained-stop : (i : ℕ) → i < k → may_leave now smoothed (f i) ≡ false → drained now smoothed (ring f i (k - i)) ≡ ring f i (k - i)
  unfolding drained
  drained-stop i lt e = rw (ring-step f i (k - i) (omega arith), e) refl

  pub drained-none : (i : ℕ) → k ≤ i → drained now smoothed (ring f i (k - i)) ≡ []
  unfolding drained
  drained-none i le = ap (drained now smoothed) (ring-end f i (k - i) (omega arith))

  module _ (a i : ℕ) (inv : drained_to now smoothed f i k ≡ drained_to now smoothed f a k) where
    pub drain_on : i < k → may_leave now smoothed (f i) ≡ true → drained_to now smoothed f (i + 1) k ≡ drained_to now smoothed f a k
    unfolding drained_to
    drain_on lt e = ap (λ (l : List Sent). k - length l) (sym (drained-on i lt e)) ∙ inv

    pub drain_stop : i < k → may_leave now smoothed (f i) ≡ false → i ≡ drained_to now smoothed f a k
    unfolding drained_to
    drain_stop lt e =
        let n : length (drained now smoothed (ring f i (k - i))) ≡ k - i = ap length (drained-stop i lt e) ∙ length-ring f i (k - i) in
        omega (arith, inv)

    pub drain_end : k ≤ i → i ≤ k → i ≡ drained_to now smoothed f a k
    unfolding drained_to
    drain_end le ge = let n : length (drained now smoothed (ring f i (k - i))) ≡ 0 = ap length (drained-none i le) in omega (arith, inv)

-- ---- a record that was read, as step 1 leaves it
module _ (m : List ℕ) (n head : ℕ) (fs : List Bool) (i : ℕ) {r : Sent} (e : r ≡ record_at m n (head + i)) where
  pub flag-acked : get_or fs i false ≡ true → marked r true r.time_lost ≡ acked_at m n head fs i
  unfolding mark_acked record_at
  flag-acked flag = rw (e, flag) (sym (record-acked m n (head + i) (mark_of m n head i)))

  pub flag-none : get_or fs i false ≡ false → r ≡ acked_at m n head fs i
  unfolding mark_acked record_at
  flag-none flag = rw (e, flag) refl

-- ---- what was read round the ring is what stands there
module _ (m : List ℕ) (n head i : ℕ) where
  pub mark_round : get_or m (at n (head % capacity + i) 5) 0 ≡ mark_of m n head i
  mark_round = rw (mod-add-mod head capacity i)

  module _ (fs : List Bool) {r : Sent} (e : r ≡ record_at m n (head % capacity + i)) where
    pub read_acked : get_or fs i false ≡ true → marked r true r.time_lost ≡ acked_at m n head fs i
    read_acked flag = flag-acked m n head fs i (e ∙ held-round m n head i) flag

    pub read_other : get_or fs i false ≡ false → r ≡ acked_at m n head fs i
    read_other flag = flag-none m n head fs i (e ∙ held-round m n head i) flag

pub leaves-round : (m : List ℕ) (n head : ℕ) (fs : List Bool) (i stop : ℕ) (now : Moment) (smoothed : Span) {b c : Bool} →
    b ≡ may_leave now smoothed (settled_at m n (head % capacity) fs stop now i) → b ≡ c → may_leave now smoothed (settled_at m n head fs stop now i) ≡ c
leaves-round m n head fs i stop now smoothed p q = ap (λ (r : Sent). may_leave now smoothed r) (sym (settled-round m n head fs stop now i)) ∙ sym p ∙ q

-- ---- a loss detection among the places up to k, one at a time: r is the record at place i
module _ (j : Judge) (f : ℕ → Sent) (k i : ℕ) (t : LostTally) {d : Result Stop Refusal} (inv : seek j i (ring f i (k - i)) t ≡ d) where
  seek-turn : i < k → seek_by (ltb j.largest (f i).number) (standing (f i)) (is_lost j (f i)) j i (f i) t (seek j (i + 1) (ring f (i + 1) (k - (i + 1)))) ≡ d
  unfolding seek
  seek-turn lt =
      let e : k - i - 1 ≡ k - (i + 1) = omega arith in
      rw (ring-step f i (k - i) (omega arith), e) at inv

  pub seek_past : k ≤ i → stop t i None ≡ d
  unfolding seek
  seek_past le = ap (λ (l : List Sent). seek j i l t) (sym (ring-end f i (k - i) (omega arith))) ∙ inv

  module _ {r : Sent} (e : r ≡ f i) (lt : i < k) where
    pub seek_above : j.largest < r.number → stop t i None ≡ d
    unfolding seek_by
    seek_above p = rw (← e, lt-ltb _ _ p) at seek-turn lt

    module _ (p : r.number ≤ j.largest) where
      pub seek_passed : standing r ≡ false → seek j (i + 1) (ring f (i + 1) (k - (i + 1))) t ≡ d
      unfolding seek_by
      seek_passed q = rw (← e, le-ltb _ _ p, q) at seek-turn lt

      module _ (q : standing r ≡ true) where
        pub seek_survived : is_lost j r ≡ false → survives j i r t ≡ d
        unfolding seek_by
        seek_survived v = rw (← e, le-ltb _ _ p, q, v) at seek-turn lt

        lost : is_lost j r ≡ true → then (loss_weighed r t) (seek j (i + 1) (ring f (i + 1) (k - (i + 1)))) ≡ d
        unfolding seek_by
        lost v = rw (← e, le-ltb _ _ p, q, v) at seek-turn lt

        pub seek_refused : (x : Refusal) → is_lost j r ≡ true → loss_weighed r t ≡ Err x → Err x ≡ d
        seek_refused x v w = rw w at lost v

        pub seek_lost : {u : LostTally} → is_lost j r ≡ true → loss_weighed r t ≡ Ok u → seek j (i + 1) (ring f (i + 1) (k - (i + 1))) u ≡ d
        seek_lost v w = rw w at lost v

pub lost_packets : (r : Sent) (t u : LostTally) → loss_weighed r t ≡ Ok u → u.packets ≤ t.packets + 1
lost_packets r t u e = (weighed-lost r t u e).packets

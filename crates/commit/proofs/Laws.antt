-- What a committed event is read as: records, queues, and all that it leaves alone. For callers. Assumes nothing.
use mathlib.Core.Path.{◌≡◌, refl, sym, ap, ◌∙◌}
use mathlib.Core.Bool.{Bool, false}
use mathlib.Core.List.{List, ◌++◌}
use mathlib.Core.Logic.{◌≢◌, ⊎_elim}
use Prim.Native.Nat.{ℕ, zero, suc, ◌+◌, ◌-◌, ◌*◌, ◌%◌, ◌≤◌, ◌<◌, min, max}
use native.Mathlib.Nat.{add-zero, eq-zero-or-pos}
use native.Mathlib.Omega.{arith}
use lib.Dec.{ltb}
use lib.ListN.{length, get_or, set, take, length-set}
use lib.Seq.{get_or-set_same, get_or-take}
use Rattle.arith.specs.Whole.{limit}
use Rattle.arith.specs.Time.{moment}
use Rattle.arith.specs.declared.time.Moment.{Moment}
use Rattle.model.specs.Numbers.{capacity}
use Rattle.model.specs.declared.Sent.{Sent}
use Rattle.records.specs.View.{all_words, at, slot, record_by, record_at, ring, records_of, queue_of}
use Rattle.records.proofs.Laws.{at_in, at_slots, at-spaces, at-queue, records-ext, queue-ext}
use Rattle.records.proofs.Handles.{length-handles, handles-records, handles-queue, handles-space, queue-handles}
use Rattle.records.proofs.Rings.{apart, ring-ext, length-ring}
use Rattle.marks.specs.Marks.{flagged, acked_mark, lost_mark, mark_of, mark_acked, mark_settled, held_at, acked_at, settled_at, newly_of, standing_of, handles_of}
use Rattle.marks.specs.Store.{mark_by, store_marks}
use Rattle.records.specs.View.{store_handles}
use Rattle.commit.specs.Commit.{newly_handles, gone_handles, settled_marks, committed, queues_after, Committed}
use Rattle.commit.specs.declared.Queues.{Queues}
use Rattle.commit.proofs.Storing.{mark-record, marks-other, length-marks}
use Rattle.commit.proofs.Turns.{flag-past}

-- ---- marks and handles, stored

-- f from a on is g from b on
pub ring-move : {A : Type 0} (f g : ℕ → A) (a b c : ℕ) → ((i : ℕ) → i < c → f (a + i) ≡ g (b + i)) → ring f a c ≡ ring g b c
unfolding ring
ring-move f g a b zero p = refl
ring-move f g a b (suc c) p =
    let x : f a ≡ g b = rw (add-zero, add-zero) at (p 0 (omega arith)) in
    let y : ring f (a + 1) c ≡ ring g (b + 1) c =
    ring-move f g (a + 1) (b + 1) c
    (λ i lt. let e : a + 1 + i ≡ a + suc i = omega arith in let d : b + 1 + i ≡ b + suc i = omega arith in rw (e, d) (p (suc i) (omega arith))) in
    cc

-- the mark of the record at place i of those stored
marks-at : (f : ℕ → Sent) (m : List ℕ) (n h a c i : ℕ) → i < c → c ≤ capacity → length m ≡ all_words →
    get_or (store_marks m n h (ring f a c)) (at n (h + i) 5) 0 ≡ mark_by (f (a + i)).acked (f (a + i)).time_lost
unfolding store_marks ring
marks-at f m n h a zero i lt fits full = absurd (let z : ⊥ = omega arith in z)
marks-at f m n h a (suc c) zero lt fits full =
    let v = mark_by (f a).acked (f a).time_lost in
    let l : at n h 5 < length m = rw full (at_in n h 5 (omega arith)) in
    rw (add-zero, add-zero)
    (marks-other (set m (at n h 5) v) n (h + 1) (ring f (a + 1) c) (at n h 5)
    (λ p lp. let q : p < c = rw (length-ring f (a + 1) c) at lp in
    let e : h + 1 + p ≡ h + (1 + p) = omega arith in
    rw e (at_slots n (h + (1 + p)) h 5 5 (apart capacity h (1 + p) (omega arith) (omega arith)) (omega arith) (omega arith)))
    ∙ get_or-set_same m (at n h 5) v 0 l)
marks-at f m n h a (suc c) (suc i) lt fits full =
    let e : h + 1 + i ≡ h + suc i = omega arith in
    let d : a + 1 + i ≡ a + suc i = omega arith in
    rw (← e, ← d) (marks-at f (set m (at n h 5) (mark_by (f a).acked (f a).time_lost)) n (h + 1) (a + 1) c i (omega arith) (omega arith) (length-set m (at n h 5) (mark_by (f a).acked (f a).time_lost) ∙ full))

-- a record with the same words but its mark
record-as : (m m' : List ℕ) (n k w : ℕ) → ((j : ℕ) → j < 5 → get_or m' (at n k j) 0 ≡ get_or m (at n k j) 0) → get_or m' (at n k 5) 0 ≡ w → record_at m' n k ≡ record_by m n k w
unfolding record_at record_by
record-as m m' n k w p e =
    let x0 = p 0 (omega arith) in
    let x1 = p 1 (omega arith) in
    let x2 = p 2 (omega arith) in
    let x3 = p 3 (omega arith) in
    let x4 = p 4 (omega arith) in
    rw (x0, x1, x2, x3, x4, e)

-- no other word is a mark
at_mark : (n k k' j : ℕ) → j < 5 → at n k j ≢ at n k' 5
at_mark n k k' j lt e = let z : 6 * (k % capacity) + j ≡ 6 * (k' % capacity) + 5 = omega arith in omega arith

-- records with marks of their own are read back so
pub marks-records : (m : List ℕ) (n head a c : ℕ) (g : ℕ → ℕ) → length m ≡ all_words → c ≤ capacity →
    records_of (store_marks m n (head + a) (ring (λ p. record_by m n (head + p) (g p)) a c)) n (head + a) c ≡ ring (λ p. record_by m n (head + p) (g p)) a c
marks-records m n head a c g full fits =
    let f : ℕ → Sent = λ p. record_by m n (head + p) (g p) in
    let m' = store_marks m n (head + a) (ring (λ p. record_by m n (head + p) (g p)) a c) in
    ring-move (record_at m' n) (λ p. record_by m n (head + p) (g p)) (head + a) a c
    (λ i lt. let e : head + a + i ≡ head + (a + i) = omega arith in
    record-as m m' n (head + a + i) (g (a + i))
    (λ j lj. marks-other m n (head + a) (ring (λ p. record_by m n (head + p) (g p)) a c) (at n (head + a + i) j) (λ p lp. at_mark n (head + a + i) (head + a + p) j lj))
    (marks-at (λ p. record_by m n (head + p) (g p)) m n (head + a) a c i lt fits full ∙ mark-record m n (head + (a + i)) (g (a + i)))
    ∙ ap (λ (k : ℕ). record_by m n k (g (a + i))) e)

module _ (m : List ℕ) (n : ℕ) where
  -- the records of another space stay, and so do all queues
  pub marks-space : (k : ℕ) (l : List Sent) (n' head len : ℕ) → n' % 3 ≢ n % 3 → records_of (store_marks m n k l) n' head len ≡ records_of m n' head len
  marks-space k l n' head len off =
      records-ext m (store_marks m n k l) n' head len (λ k' j lt. marks-other m n k l (at n' k' j) (λ p lp. at-spaces n n' (k + p) k' 5 j off (omega arith) lt))

  pub marks-queue : (k : ℕ) (l : List Sent) (n' w len : ℕ) → queue_of (store_marks m n k l) n' w len ≡ queue_of m n' w len
  marks-queue k l n' w len =
      queue-ext m (store_marks m n k l) n' w len (λ i lt. marks-other m n k l (slot n' w i) (λ p lp. at-queue n n' (k + p) w i 5 (omega arith)))

-- ---- a committed event
module _ (m : List ℕ) (n head k : ℕ) (fs : List Bool) (from stop keep : ℕ) (time : Moment) (acked lost : ℕ) where
  abbrev after : List ℕ
  after = committed m n head k fs from stop keep time acked lost

  abbrev newly : List ℕ
  newly = newly_handles m n head fs k

  abbrev gone : List ℕ
  gone = gone_handles m n head fs from stop

  abbrev marks : List ℕ
  marks = settled_marks m n head k fs stop keep time

  abbrev marked : List ℕ
  marked = store_handles marks n 0 acked newly

  pub committed-length : length after ≡ length m
  unfolding committed
  committed-length =
      length-handles marked n 1 lost gone ∙ length-handles marks n 0 acked newly ∙ length-marks m n (head + keep) (ring (settled_at m n head fs stop time) keep (k - keep))

  -- the records from place keep on, as they are to be
  pub committed-records : length m ≡ all_words → k ≤ capacity → records_of after n (head + keep) (k - keep) ≡ ring (settled_at m n head fs stop time) keep (k - keep)
  unfolding committed
  committed-records full fits =
      handles-records marked n 1 lost gone n (head + keep) (k - keep) ∙ handles-records marks n 0 acked newly n (head + keep) (k - keep)
      ∙ marks-records m n head keep (k - keep) (mark_settled m n head fs stop time) full (omega arith)

  -- the queues of the acked and the lost, with the handles that are new
  pub committed-acked : length m ≡ all_words → acked + length newly ≤ capacity → queue_of after n 0 (acked + length newly) ≡ queue_of m n 0 acked ++ newly
  unfolding committed
  committed-acked full room =
      handles-queue marked n 1 lost gone n 0 (acked + length newly) (λ e. omega arith)
      ∙ queue-handles marks n 0 acked newly (length-marks m n (head + keep) (ring (settled_at m n head fs stop time) keep (k - keep)) ∙ full) room
      ∙ ap (λ (l : List ℕ). l ++ newly) (marks-queue m n (head + keep) (ring (settled_at m n head fs stop time) keep (k - keep)) n 0 acked)

  pub committed-lost : length m ≡ all_words → lost + length gone ≤ capacity → queue_of after n 1 (lost + length gone) ≡ queue_of m n 1 lost ++ gone
  unfolding committed
  committed-lost full room =
      queue-handles marked n 1 lost gone
      (length-handles marks n 0 acked newly ∙ length-marks m n (head + keep) (ring (settled_at m n head fs stop time) keep (k - keep)) ∙ full) room
      ∙ ap (λ (l : List ℕ). l ++ gone)
      (handles-queue marks n 0 acked newly n 1 lost (λ e. omega arith) ∙ marks-queue m n (head + keep) (ring (settled_at m n head fs stop time) keep (k - keep)) n 1 lost)

  -- the queue of what is sent again stays
  pub committed-again : (n' len : ℕ) → queue_of after n' 2 len ≡ queue_of m n' 2 len
  unfolding committed
  committed-again n' len =
      handles-queue marked n 1 lost gone n' 2 len (λ e. omega arith) ∙ handles-queue marks n 0 acked newly n' 2 len (λ e. omega arith)
      ∙ marks-queue m n (head + keep) (ring (settled_at m n head fs stop time) keep (k - keep)) n' 2 len

  -- another space stays
  pub committed-space : (n' h len : ℕ) → n' % 3 ≢ n % 3 → records_of after n' h len ≡ records_of m n' h len
  unfolding committed
  committed-space n' h len off =
      handles-records marked n 1 lost gone n' h len ∙ handles-records marks n 0 acked newly n' h len
      ∙ marks-space m n (head + keep) (ring (settled_at m n head fs stop time) keep (k - keep)) n' h len off

  pub committed-space-queue : (n' w len : ℕ) → n' % 3 ≢ n % 3 → queue_of after n' w len ≡ queue_of m n' w len
  unfolding committed
  committed-space-queue n' w len off =
      handles-space marked n 1 lost gone n' w len off ∙ handles-space marks n 0 acked newly n' w len off
      ∙ marks-queue m n (head + keep) (ring (settled_at m n head fs stop time) keep (k - keep)) n' w len

-- ---- the claim of `commit` for what callers hand in: no flag from place last on, a detection that stops within the records, a moment and queues as they may be
module _ (m : List ℕ) (n head len : ℕ) (fs : List Bool) (last from stop keep : ℕ) (time : Moment) (acked lost : ℕ)
    (flags : (i : ℕ) → last ≤ i → i < min len capacity → flagged fs i ≡ false) (inside : stop ≤ min len capacity)
    (timely : time.0 ≤ limit) (room : acked ≤ capacity) (space : lost ≤ capacity) where
  abbrev k : ℕ
  k = min len capacity

  abbrev gs : List Bool
  gs = take (max last stop) fs

  flag_same : (i : ℕ) → i < k → flagged gs i ≡ flagged fs i
  flag_same i lt = ⊎_elim
      (λ z. let le : max last stop ≤ i = omega arith in flag-past (max last stop) i fs le ∙ sym (flags i (omega arith) lt))
      (λ p. let l : i < max last stop = omega arith in get_or-take (max last stop) fs i false l)
      (eq-zero-or-pos (max last stop - i))

  acked-same : (i : ℕ) → i < k → mark_acked m n head gs i ≡ mark_acked m n head fs i
  unfolding mark_acked
  acked-same i lt = ap (λ (b : Bool). acked_mark b (mark_of m n head i)) (flag_same i lt)

  settled_same : (i : ℕ) → i < k → mark_settled m n head gs stop time i ≡ mark_settled m n head fs stop time i
  unfolding mark_settled
  settled_same i lt = ap (λ (w : ℕ). lost_mark (ltb i stop) time w) (acked-same i lt)

  newly-same : newly_handles m n head gs k ≡ newly_handles m n head fs k
  newly-same = ap (λ (l : List Bool). handles_of (newly_of l (ring (held_at m n head) 0 k))) (ring-ext (flagged gs) (flagged fs) 0 k (λ i lt. flag_same (0 + i) (omega arith)))

  gone_same : gone_handles m n head gs from stop ≡ gone_handles m n head fs from stop
  gone_same = ap (λ (l : List Sent). handles_of (standing_of l))
      (ring-ext (acked_at m n head gs) (acked_at m n head fs) from (stop - from) (λ i lt. ap (record_by m n (head + (from + i))) (acked-same (from + i) (omega arith))))

  marks-same : settled_marks m n head k gs stop keep time ≡ settled_marks m n head k fs stop keep time
  marks-same = ap (store_marks m n (head + keep))
      (ring-ext (settled_at m n head gs stop time) (settled_at m n head fs stop time) keep (k - keep) (λ i lt. ap (record_by m n (head + (keep + i))) (settled_same (keep + i) (omega arith))))

  module _ (after : List ℕ) (q : Queues) (done : Committed m n head len fs last from stop keep time acked lost after q) where
    pub commit-memory : after ≡ committed m n head (min len capacity) fs from stop keep time acked lost
    unfolding committed
    commit-memory =
        let a : min stop k ≡ stop = omega arith in
        let b : min time.0 limit ≡ time.0 = omega arith in
        let c : min acked capacity ≡ acked = omega arith in
        let d : min lost capacity ≡ lost = omega arith in
        done.memory
        ∙ ap (λ (x : ℕ). committed m n head k gs from x keep (moment (min time.0 limit)) (min acked capacity) (min lost capacity)) a
        ∙ ap (λ (x : ℕ). committed m n head k gs from stop keep (moment x) (min acked capacity) (min lost capacity)) b
        ∙ ap (λ (x : ℕ). committed m n head k gs from stop keep time x (min lost capacity)) c
        ∙ ap (λ (x : ℕ). committed m n head k gs from stop keep time acked x) d
        ∙ ap (λ (l : List ℕ). store_handles (store_handles l n 0 acked (newly_handles m n head gs k)) n 1 lost (gone_handles m n head gs from stop)) marks-same
        ∙ ap (λ (l : List ℕ). store_handles (store_handles (settled_marks m n head k fs stop keep time) n 0 acked l) n 1 lost (gone_handles m n head gs from stop)) newly-same
        ∙ ap (λ (l : List ℕ). store_handles (store_handles (settled_marks m n head k fs stop keep time) n 0 acked (newly_handles m n head fs k)) n 1 lost l) gone_same

    pub commit-queues : q ≡ queues_after m n head (min len capacity) fs from stop acked lost
    unfolding queues_after
    commit-queues =
        let a : min stop k ≡ stop = omega arith in
        let c : min acked capacity ≡ acked = omega arith in
        let d : min lost capacity ≡ lost = omega arith in
        done.queues
        ∙ ap (λ (x : ℕ). queues_after m n head k gs from x (min acked capacity) (min lost capacity)) a
        ∙ ap (λ (x : ℕ). queues_after m n head k gs from stop x (min lost capacity)) c
        ∙ ap (λ (x : ℕ). queues_after m n head k gs from stop acked x) d
        ∙ ap (λ (l : List ℕ). record { acked = acked + length l; lost = lost + length (gone_handles m n head gs from stop) }) newly-same
        ∙ ap (λ (l : List ℕ). record { acked = acked + length (newly_handles m n head fs k); lost = lost + length l }) gone_same

-- What a store does to the records and the queues that a memory is read as, and what the marks say. For callers. Assumes nothing.
use mathlib.Core.Path.{◌≡◌, refl, sym, ap, ◌∙◌}
use mathlib.Core.Bool.{Bool, true, false, cond, ◌&&◌, not}
use mathlib.Core.List.{List, [], ◌∷◌, ◌++◌}
use mathlib.Core.Logic.{◌≢◌, ⊎_elim}
use Prim.Native.Nat.{ℕ, zero, suc, ◌+◌, ◌-◌, ◌*◌, ◌/◌, ◌%◌, ◌≤◌, ◌<◌}
use native.Mathlib.Nat.{mod-mod, eq-zero-or-pos}
use native.Mathlib.Numerals.{add-one}
use native.Mathlib.Omega.{arith}
use borrow.Author.Tests.{ne_eqb}
use lib.Dec.{eqb}
use lib.ListN.{length, get_or, set, drop, length-set, length-append}
use lib.Seq.{get_or-set_same, get_or-set_other, set_at, set-set}
use Rattle.arith.specs.Time.{moment}
use Rattle.arith.specs.declared.time.Moment.{Moment}
use Rattle.model.specs.Numbers.{capacity, is_unset}
use Rattle.model.specs.Sent.{sent_now, marked, standing, newest, rest}
use Rattle.model.specs.declared.Packet.{Packet}
use Rattle.model.specs.declared.Sent.{Sent}
use Rattle.records.specs.View.{all_words, at, slot, bit, flags_of, acked_by, lost_by, record_by, record_at, records_of, queue_of, store_record, store_mark, store_handle}
use Rattle.records.proofs.Rings.{places-apart, ring-ext, ring-mod, ring-step, ring-snoc, ring-around, ring-drop, length-ring}
use Rattle.std.specs.Prelude.{Option, Some, None}

-- ---- where words lie

-- a record's words lie in the memory, and so do the queues'
pub at_in : (n k j : ℕ) → j < 6 → at n k j < all_words
at_in n k j lt = omega arith

pub slot-in : (n w i : ℕ) → slot n w i < all_words
slot-in n w i = omega arith

-- two slots have no word in common, nor have two spaces, nor a record and a queue
pub at_slots : (n k k' i j : ℕ) → k' % capacity ≢ k % capacity → i < 6 → j < 6 → at n k' j ≢ at n k i
at_slots n k k' i j p l r e = p (omega arith)

pub at_words : (n k i j : ℕ) → j ≢ i → at n k j ≢ at n k i
at_words n k i j p e = p (omega arith)

pub at-spaces : (n n' k k' i j : ℕ) → n' % 3 ≢ n % 3 → i < 6 → j < 6 → at n' k' j ≢ at n k i
at-spaces n n' k k' i j p l r e = p (omega arith)

pub at-queue : (n n' k w i j : ℕ) → j < 6 → slot n' w i ≢ at n k j
at-queue n n' k w i j l e = let z : n' % 3 ≡ n % 3 = omega arith in omega arith

pub queue-at : (n n' k w i j : ℕ) → j < 6 → at n k j ≢ slot n' w i
queue-at n n' k w i j l e = at-queue n n' k w i j l (sym e)

-- two places of a queue, two queues, two spaces
pub slot-places : (n w i j : ℕ) → i < capacity → j < capacity → j ≢ i → slot n w j ≢ slot n w i
slot-places n w i j l r p e = p (omega arith)

pub slot-queues : (n n' w w' i j : ℕ) → w' % 3 ≢ w % 3 → slot n' w' j ≢ slot n w i
slot-queues n n' w w' i j p e = p (omega arith)

pub slot-spaces : (n n' w w' i j : ℕ) → n' % 3 ≢ n % 3 → slot n' w' j ≢ slot n w i
slot-spaces n n' w w' i j p e = p (omega arith)

-- ---- the length stays
module _ (m : List ℕ) (n : ℕ) where
  pub length-store-record : (k : ℕ) (time : Moment) (p : Packet) → length (store_record m n k time p) ≡ length m
  unfolding store_record
  length-store-record k time p = simp length-set

  pub length-store-mark : (k mark : ℕ) → length (store_mark m n k mark) ≡ length m
  length-store-mark k mark = length-set m (at n k 5) mark

  pub length-store-handle : (w i handle : ℕ) → length (store_handle m n w i handle) ≡ length m
  length-store-handle w i handle = length-set m (slot n w i) handle

-- ---- one record

-- the same words, the same record
pub record-ext : (m m' : List ℕ) (n k : ℕ) → ((j : ℕ) → j < 6 → get_or m' (at n k j) 0 ≡ get_or m (at n k j) 0) → record_at m' n k ≡ record_at m n k
unfolding record_at record_by
record-ext m m' n k p =
    let a = p 0 (omega arith) in
    let b = p 1 (omega arith) in
    let c = p 2 (omega arith) in
    let d = p 3 (omega arith) in
    let e = p 4 (omega arith) in
    let f = p 5 (omega arith) in
    rw (a, b, c, d, e, f)

-- a slot may be taken round the ring
pub record-mod : (m : List ℕ) (n k : ℕ) → record_at m n (k % capacity) ≡ record_at m n k
unfolding record_at record_by
record-mod m n k = simp mod-mod

pub record-number : (m : List ℕ) (n k : ℕ) → (record_at m n k).number ≡ get_or m (at n k 0) 0
unfolding record_at record_by
record-number m n k = refl

pub record-handle : (m : List ℕ) (n k : ℕ) → (record_at m n k).handle ≡ get_or m (at n k 4) 0
unfolding record_at record_by
record-handle m n k = refl

-- a record is what its mark makes of its other words
pub record-by : (m : List ℕ) (n k : ℕ) → record_at m n k ≡ record_by m n k (get_or m (at n k 5) 0)
unfolding record_at record_by
record-by m n k = refl

-- ---- flags

bit-least : (b : Bool) → bit b ≤ 1
bit-least true = omega arith
bit-least false = omega arith

flag-1 : (b : Bool) (x y z : ℕ) → eqb ((bit b + 2 * x + 4 * y + 8 * z) % 2) 1 ≡ b
flag-1 true x y z = let e : (1 + 2 * x + 4 * y + 8 * z) % 2 ≡ 1 = omega arith in rw e
flag-1 false x y z = let e : (0 + 2 * x + 4 * y + 8 * z) % 2 ≡ 0 = omega arith in rw e

flag-2 : (b : Bool) (x y z : ℕ) → x ≤ 1 → eqb ((x + 2 * bit b + 4 * y + 8 * z) / 2 % 2) 1 ≡ b
flag-2 true x y z l = let e : (x + 2 * 1 + 4 * y + 8 * z) / 2 % 2 ≡ 1 = omega arith in rw e
flag-2 false x y z l = let e : (x + 2 * 0 + 4 * y + 8 * z) / 2 % 2 ≡ 0 = omega arith in rw e

flag-4 : (b : Bool) (x y z : ℕ) → x ≤ 1 → y ≤ 1 → eqb ((x + 2 * y + 4 * bit b + 8 * z) / 4 % 2) 1 ≡ b
flag-4 true x y z l k = let e : (x + 2 * y + 4 * 1 + 8 * z) / 4 % 2 ≡ 1 = omega arith in rw e
flag-4 false x y z l k = let e : (x + 2 * y + 4 * 0 + 8 * z) / 4 % 2 ≡ 0 = omega arith in rw e

flag-8 : (b : Bool) (x y z : ℕ) → x ≤ 1 → y ≤ 1 → z ≤ 1 → eqb ((x + 2 * y + 4 * z + 8 * bit b) / 8 % 2) 1 ≡ b
flag-8 true x y z l k h = let e : (x + 2 * y + 4 * z + 8 * 1) / 8 % 2 ≡ 1 = omega arith in rw e
flag-8 false x y z l k h = let e : (x + 2 * y + 4 * z + 8 * 0) / 8 % 2 ≡ 0 = omega arith in rw e

-- ---- a packet is stored
module _ (m : List ℕ) (n k : ℕ) (time : Moment) (p : Packet) where
  abbrev m1 : List ℕ
  m1 = set m (at n k 0) p.number

  abbrev m2 : List ℕ
  m2 = set m1 (at n k 1) time.0

  abbrev m3 : List ℕ
  m3 = set m2 (at n k 2) p.size

  abbrev m4 : List ℕ
  m4 = set m3 (at n k 3) (flags_of p)

  abbrev m5 : List ℕ
  m5 = set m4 (at n k 4) p.handle

  abbrev m6 : List ℕ
  m6 = set m5 (at n k 5) 0

  pub store_other : (i : ℕ) → ((j : ℕ) → j < 6 → i ≢ at n k j) → get_or (store_record m n k time p) i 0 ≡ get_or m i 0
  unfolding store_record
  store_other i off =
      get_or-set_other m5 (at n k 5) i 0 0 (off 5 (omega arith))
      ∙ get_or-set_other m4 (at n k 4) i p.handle 0 (off 4 (omega arith))
      ∙ get_or-set_other m3 (at n k 3) i (flags_of p) 0 (off 3 (omega arith))
      ∙ get_or-set_other m2 (at n k 2) i p.size 0 (off 2 (omega arith))
      ∙ get_or-set_other m1 (at n k 1) i time.0 0 (off 1 (omega arith))
      ∙ get_or-set_other m (at n k 0) i p.number 0 (off 0 (omega arith))

  module _ (full : length m ≡ all_words) where
    inside : (l : List ℕ) (j : ℕ) → length l ≡ length m → j < 6 → at n k j < length l
    inside l j e lt = rw (e, full) (at_in n k j lt)

    past : (l : List ℕ) (j i v : ℕ) → j < i → get_or (set l (at n k i) v) (at n k j) 0 ≡ get_or l (at n k j) 0
    past l j i v lt = get_or-set_other l (at n k i) (at n k j) v 0 (at_words n k i j (λ e. omega arith))

    word-0 : get_or m6 (at n k 0) 0 ≡ p.number
    word-0 =
        past m5 0 5 0 (omega arith) ∙ past m4 0 4 p.handle (omega arith) ∙ past m3 0 3 (flags_of p) (omega arith) ∙ past m2 0 2 p.size (omega arith)
        ∙ past m1 0 1 time.0 (omega arith) ∙ get_or-set_same m (at n k 0) p.number 0 (inside m 0 refl (omega arith))

    word-1 : get_or m6 (at n k 1) 0 ≡ time.0
    word-1 =
        past m5 1 5 0 (omega arith) ∙ past m4 1 4 p.handle (omega arith) ∙ past m3 1 3 (flags_of p) (omega arith) ∙ past m2 1 2 p.size (omega arith)
        ∙ get_or-set_same m1 (at n k 1) time.0 0 (inside m1 1 (simp length-set) (omega arith))

    word-2 : get_or m6 (at n k 2) 0 ≡ p.size
    word-2 =
        past m5 2 5 0 (omega arith) ∙ past m4 2 4 p.handle (omega arith) ∙ past m3 2 3 (flags_of p) (omega arith)
        ∙ get_or-set_same m2 (at n k 2) p.size 0 (inside m2 2 (simp length-set) (omega arith))

    word-3 : get_or m6 (at n k 3) 0 ≡ flags_of p
    word-3 =
        past m5 3 5 0 (omega arith) ∙ past m4 3 4 p.handle (omega arith)
        ∙ get_or-set_same m3 (at n k 3) (flags_of p) 0 (inside m3 3 (simp length-set) (omega arith))

    word-4 : get_or m6 (at n k 4) 0 ≡ p.handle
    word-4 = past m5 4 5 0 (omega arith) ∙ get_or-set_same m4 (at n k 4) p.handle 0 (inside m4 4 (simp length-set) (omega arith))

    word-5 : get_or m6 (at n k 5) 0 ≡ 0
    word-5 = get_or-set_same m5 (at n k 5) 0 0 (inside m5 5 (simp length-set) (omega arith))

    -- it is read back as it was sent
    pub store-record : record_at (store_record m n k time p) n k ≡ sent_now time p
    unfolding record_at record_by store_record sent_now
    store-record =
        let a = bit-least p.ack_eliciting in
        let b = bit-least p.in_flight in
        let c = bit-least p.has_data in
        rw (
          word-0,
          word-1,
          word-2,
          word-3,
          word-4,
          word-5,
          flag-1 p.ack_eliciting _ _ _,
          flag-2 p.in_flight _ _ _ a,
          flag-4 p.has_data _ _ _ a b,
          flag-8 p.is_pmtud_probe _ _ _ a b c,
        )

-- ---- the records of a space

module _ (m : List ℕ) (n : ℕ) where
  -- dropping from the front
  pub records-first : (head len : ℕ) → 0 < len → records_of m n head len ≡ record_at m n head ∷ records_of m n (head + 1) (len - 1)
  records-first head len pos = ring-step (record_at m n) head len pos

  pub records-mod : (head len : ℕ) → records_of m n (head % capacity) len ≡ records_of m n head len
  records-mod head len = ring-mod (record_at m n) capacity (record-mod m n) head len

  pub records-drop : (head a len : ℕ) → a ≤ len → drop a (records_of m n head len) ≡ records_of m n (head + a) (len - a)
  records-drop head a len le = ring-drop (record_at m n) head a len le

  pub length-records : (head len : ℕ) → length (records_of m n head len) ≡ len
  length-records head len = length-ring (record_at m n) head len

-- the same words, the same records
pub records-ext : (m m' : List ℕ) (n head len : ℕ) → ((k j : ℕ) → j < 6 → get_or m' (at n k j) 0 ≡ get_or m (at n k j) 0) → records_of m' n head len ≡ records_of m n head len
records-ext m m' n head len p = ring-ext (record_at m' n) (record_at m n) head len (λ i lt. record-ext m m' n (head + i) (p (head + i)))

-- the same handles, the same queue
pub queue-ext : (m m' : List ℕ) (n w len : ℕ) → ((i : ℕ) → i < len → get_or m' (slot n w i) 0 ≡ get_or m (slot n w i) 0) → queue_of m' n w len ≡ queue_of m n w len
unfolding queue_of
queue-ext m m' n w zero p = refl
queue-ext m m' n w (suc len) p =
    rw (queue-ext m m' n w len (λ i lt. p i (omega arith)), p len (omega arith))

-- a push
module _ (m : List ℕ) (n k : ℕ) (time : Moment) (p : Packet) where
  pub store-record-slot : (k' : ℕ) → k' % capacity ≢ k % capacity → record_at (store_record m n k time p) n k' ≡ record_at m n k'
  store-record-slot k' off = record-ext m (store_record m n k time p) n k' (λ j lt. store_other m n k time p (at n k' j) (λ i l. at_slots n k k' i j off l lt))

  -- the records of another space stay
  pub store-record-space : (n' head len : ℕ) → n' % 3 ≢ n % 3 → records_of (store_record m n k time p) n' head len ≡ records_of m n' head len
  store-record-space n' head len off =
      records-ext m (store_record m n k time p) n' head len (λ k' j lt. store_other m n k time p (at n' k' j) (λ i l. at-spaces n n' k k' i j off l lt))

  -- and so do all queues
  pub store-record-queue : (n' w len : ℕ) → queue_of (store_record m n k time p) n' w len ≡ queue_of m n' w len
  store-record-queue n' w len =
      queue-ext m (store_record m n k time p) n' w len (λ i lt. store_other m n k time p (slot n' w i) (λ j l. at-queue n n' k w i j l))

pub records-push : (m : List ℕ) (n head len : ℕ) (time : Moment) (p : Packet) → length m ≡ all_words → len < capacity →
    records_of (store_record m n (head + len) time p) n head (len + 1) ≡ records_of m n head len ++ (sent_now time p ∷ [])
records-push m n head len time p full room =
    let m' = store_record m n (head + len) time p in
    let a : records_of m' n head len ≡ records_of m n head len =
    ring-ext (record_at m' n) (record_at m n) head len (λ i lt. store-record-slot m n (head + len) time p (head + i) (places-apart capacity head i len lt room)) in
    ring-snoc (record_at m' n) head len ∙ rw (a, store-record m n (head + len) time p full)

-- ---- marks
module _ (m : List ℕ) (n k mark : ℕ) where
  pub mark-other : (i : ℕ) → i ≢ at n k 5 → get_or (store_mark m n k mark) i 0 ≡ get_or m i 0
  mark-other i off = get_or-set_other m (at n k 5) i mark 0 off

  pub mark-slot : (k' : ℕ) → k' % capacity ≢ k % capacity → record_at (store_mark m n k mark) n k' ≡ record_at m n k'
  mark-slot k' off = record-ext m (store_mark m n k mark) n k' (λ j lt. mark-other (at n k' j) (at_slots n k k' 5 j off (omega arith) lt))

  -- the marked record has its other words as they were
  pub mark-record : length m ≡ all_words → record_at (store_mark m n k mark) n k ≡ record_by m n k mark
  unfolding record_at record_by
  mark-record full =
      let l : at n k 5 < length m = rw full (at_in n k 5 (omega arith)) in
      let e : (j : ℕ) → j < 5 → get_or (set m (at n k 5) mark) (at n k j) 0 ≡ get_or m (at n k j) 0 = λ j lt. mark-other (at n k j) (at_words n k 5 j (λ e. omega arith)) in
      rw (get_or-set_same m (at n k 5) mark 0 l, e 0 (omega arith), e 1 (omega arith), e 2 (omega arith), e 3 (omega arith), e 4 (omega arith))

  -- the records of another space stay, and so do all queues
  pub mark-space : (n' head len : ℕ) → n' % 3 ≢ n % 3 → records_of (store_mark m n k mark) n' head len ≡ records_of m n' head len
  mark-space n' head len off =
      records-ext m (store_mark m n k mark) n' head len (λ k' j lt. mark-other (at n' k' j) (at-spaces n n' k k' 5 j off (omega arith) lt))

  pub mark-queue : (n' w len : ℕ) → queue_of (store_mark m n k mark) n' w len ≡ queue_of m n' w len
  mark-queue n' w len = queue-ext m (store_mark m n k mark) n' w len (λ i lt. mark-other (slot n' w i) (at-queue n n' k w i 5 (omega arith)))

  -- the last mark stands
  pub mark-twice : (mark' : ℕ) → store_mark (store_mark m n k mark) n k mark' ≡ store_mark m n k mark'
  mark-twice mark' = set-set m (at n k 5) mark mark'

-- a mark on the record at place i changes that one alone
module _ (m : List ℕ) (n head i len mark : ℕ) (full : length m ≡ all_words) (lt : i < len) (fits : len ≤ capacity) where
  pub records-mark-around :
      records_of (store_mark m n (head + i) mark) n head len
      ≡ records_of m n head i ++ (record_by m n (head + i) mark ∷ records_of m n (head + i + 1) (len - (i + 1)))
  records-mark-around =
      let m' = store_mark m n (head + i) mark in
      let a : records_of m' n head i ≡ records_of m n head i =
      ring-ext (record_at m' n) (record_at m n) head i (λ j l. mark-slot m n (head + i) mark (head + j) (places-apart capacity head j i l (omega arith))) in
      let b : records_of m' n (head + i + 1) (len - (i + 1)) ≡ records_of m n (head + i + 1) (len - (i + 1)) =
      ring-ext (record_at m' n) (record_at m n) (head + i + 1) (len - (i + 1))
      (λ j l. let e : head + i + 1 + j ≡ head + (i + 1 + j) = omega arith in
      mark-slot m n (head + i) mark (head + i + 1 + j) (rw e (λ q. places-apart capacity head i (i + 1 + j) (omega arith) (omega arith) (sym q)))) in
      ring-around (record_at m' n) head i len lt ∙ rw (a, b, mark-record m n (head + i) mark full)

  pub records-mark : records_of (store_mark m n (head + i) mark) n head len ≡ set (records_of m n head len) i (record_by m n (head + i) mark)
  records-mark =
      records-mark-around
      ∙ sym (ap (λ (l : List Sent). set l i (record_by m n (head + i) mark)) (ring-around (record_at m n) head i len lt)
      ∙ set_at (records_of m n head i) (record_at m n (head + i)) (records_of m n (head + i + 1) (len - (i + 1))) (record_by m n (head + i) mark) i (length-ring (record_at m n) head i))

-- what a mark says
pub acked-mark : (mark : ℕ) → (acked_by (mark / 2 * 2 + 1) ≡ true) × (lost_by (mark / 2 * 2 + 1) ≡ lost_by mark)
acked-mark mark =
    let a : (mark / 2 * 2 + 1) % 2 ≡ 1 = omega arith in
    let b : (mark / 2 * 2 + 1) / 2 ≡ mark / 2 = omega arith in
    (rw a, rw b)

pub lost-mark : (t : ℕ) → (acked_by (2 * (t + 1)) ≡ false) × (lost_by (2 * (t + 1)) ≡ Some (moment t))
lost-mark t =
    let a : 2 * (t + 1) % 2 ≡ 0 = omega arith in
    let b : 2 * (t + 1) / 2 ≡ t + 1 = omega arith in
    let c : eqb (t + 1) 0 ≡ false = ne_eqb (t + 1) 0 (λ e. omega arith) in
    let d : t + 1 - 1 ≡ t = omega arith in
    (rw a, rw (b, c, d))

-- acked from now on: lost or not as before
pub record-acked : (m : List ℕ) (n k mark : ℕ) → record_by m n k (mark / 2 * 2 + 1) ≡ marked (record_by m n k mark) true (record_by m n k mark).time_lost
unfolding record_by marked
record-acked m n k mark = rw ((acked-mark mark).0, (acked-mark mark).1)

-- lost at t; a mark before it does not show
pub record-lost : (m : List ℕ) (n k mark t : ℕ) → record_by m n k (2 * (t + 1)) ≡ marked (record_by m n k mark) false (Some (moment t))
unfolding record_by marked
record-lost m n k mark t = rw ((lost-mark t).0, (lost-mark t).1)

-- a record stands where its mark is 0
pub standing-mark : (m : List ℕ) (n k mark : ℕ) → standing (record_by m n k mark) ≡ eqb mark 0
unfolding record_by
standing-mark m n k mark = ⊎_elim (λ e. rw e refl) (λ pos. rw (ne_eqb mark 0 (λ e. omega arith)) (⊎_elim (lost pos) acked (eq-zero-or-pos (mark % 2)))) (eq-zero-or-pos mark)
  where
    acked : 0 < mark % 2 → (not (acked_by mark) && is_unset (lost_by mark)) ≡ false
    acked odd = let e : mark % 2 ≡ 1 = omega arith in rw e refl

    lost : 0 < mark → mark % 2 ≡ 0 → (not (acked_by mark) && is_unset (lost_by mark)) ≡ false
    lost pos even = rw (even, ne_eqb (mark / 2) 0 (λ e. omega arith)) refl

same_bit : (x y : ℕ) → x < 2 → y < 2 → eqb x 1 ≡ eqb y 1 → x ≡ y
same_bit x y l k p = ⊎_elim
    (λ a. ⊎_elim (λ b. omega arith) (λ b. let e : y ≡ 1 = omega arith in clash (sym (ap (λ (k : ℕ). eqb k 1) a) ∙ p ∙ ap (λ (k : ℕ). eqb k 1) e)) (eq-zero-or-pos y))
    (λ a. ⊎_elim (λ b. let e : x ≡ 1 = omega arith in clash (sym (ap (λ (k : ℕ). eqb k 1) b) ∙ sym p ∙ ap (λ (k : ℕ). eqb k 1) e)) (λ b. omega arith) (eq-zero-or-pos y))
    (eq-zero-or-pos x)
  where
    clash : false ≡ true → x ≡ y
    clash e = absurd (let z : ◌≡◌ {A = ℕ} 0 1 = cc in let w : ⊥ = omega arith in w)

same-lost : (x y : ℕ) → ◌≡◌ {A = Option Moment} (cond (eqb x 0) None (Some (moment (x - 1)))) (cond (eqb y 0) None (Some (moment (y - 1)))) → x ≡ y
same-lost x y p = ⊎_elim
    (λ a. ⊎_elim (λ b. omega arith) (λ b. clash (rw (a, ne_eqb y 0 (λ e. omega arith)) at p)) (eq-zero-or-pos y))
    (λ a. ⊎_elim
    (λ b. clash (sym (rw (b, ne_eqb x 0 (λ e. omega arith)) at p)))
    (λ b. same (rw (ne_eqb x 0 (λ e. omega arith), ne_eqb y 0 (λ e. omega arith)) at p) a b)
    (eq-zero-or-pos y))
    (eq-zero-or-pos x)
  where
    clash : {t : Moment} → None ≡ Some t → x ≡ y
    clash e = absurd (let z : ◌≡◌ {A = ℕ} 0 1 = cc in let w : ⊥ = omega arith in w)

    same : Some (moment (x - 1)) ≡ Some (moment (y - 1)) → 0 < x → 0 < y → x ≡ y
    same e a b = let z : moment (x - 1) ≡ moment (y - 1) = cc in let d : x - 1 ≡ y - 1 = ap (λ (t : Moment). t.0) z in omega arith

-- two marks that say the same are the same
pub one-mark : (a b : ℕ) → acked_by a ≡ acked_by b → lost_by a ≡ lost_by b → a ≡ b
one-mark a b p q = let d = same_bit (a % 2) (b % 2) (omega arith) (omega arith) p in let e = same-lost (a / 2) (b / 2) q in omega arith

-- ---- queues

module _ (m : List ℕ) (n w i handle : ℕ) where
  pub handle-other : (j : ℕ) → j ≢ slot n w i → get_or (store_handle m n w i handle) j 0 ≡ get_or m j 0
  handle-other j off = get_or-set_other m (slot n w i) j handle 0 off

  -- all records stay, and so do the other queues, of this space and of the others
  pub handle-records : (n' head len : ℕ) → records_of (store_handle m n w i handle) n' head len ≡ records_of m n' head len
  handle-records n' head len = records-ext m (store_handle m n w i handle) n' head len (λ k j lt. handle-other (at n' k j) (queue-at n' n k w i j lt))

  pub handle-queue : (n' w' len : ℕ) → w' % 3 ≢ w % 3 → queue_of (store_handle m n w i handle) n' w' len ≡ queue_of m n' w' len
  handle-queue n' w' len off = queue-ext m (store_handle m n w i handle) n' w' len (λ j lt. handle-other (slot n' w' j) (slot-queues n n' w w' i j off))

  pub handle-space : (n' w' len : ℕ) → n' % 3 ≢ n % 3 → queue_of (store_handle m n w i handle) n' w' len ≡ queue_of m n' w' len
  handle-space n' w' len off = queue-ext m (store_handle m n w i handle) n' w' len (λ j lt. handle-other (slot n' w' j) (slot-spaces n n' w w' i j off))

pub length-queue : (m : List ℕ) (n w len : ℕ) → length (queue_of m n w len) ≡ len
unfolding queue_of
length-queue m n w zero = refl
length-queue m n w (suc len) = rw (length-append, length-queue m n w len) (omega arith)

-- a handle is queued
pub queue-push : (m : List ℕ) (n w len handle : ℕ) → length m ≡ all_words → len < capacity →
    queue_of (store_handle m n w len handle) n w (len + 1) ≡ queue_of m n w len ++ (handle ∷ [])
unfolding queue_of
queue-push m n w len handle full room =
    let a : queue_of (store_handle m n w len handle) n w len ≡ queue_of m n w len =
    queue-ext m (store_handle m n w len handle) n w len
    (λ i lt. handle-other m n w len handle (slot n w i) (slot-places n w len i room (omega arith) (λ e. omega arith))) in
    let l : slot n w len < length m = rw full (slot-in n w len) in
    rw (add-one, a, get_or-set_same m (slot n w len) handle 0 l)

-- what is taken is the last, and the others are left
pub newest-last : (q : List ℕ) (h : ℕ) → newest (q ++ (h ∷ [])) ≡ h
unfolding newest
newest-last [] h = refl
newest-last (g ∷ []) h = refl
newest-last (g ∷ (f ∷ q)) h = newest-last (f ∷ q) h

pub rest-last : (q : List ℕ) (h : ℕ) → rest (q ++ (h ∷ [])) ≡ q
unfolding rest
rest-last [] h = refl
rest-last (g ∷ []) h = refl
rest-last (g ∷ (f ∷ q)) h = ap (λ (l : List ℕ). g ∷ l) (rest-last (f ∷ q) h)

module _ (m : List ℕ) (n w len : ℕ) where
  pub newest_none : len ≡ 0 → 0 ≡ newest (queue_of m n w len)
  unfolding newest queue_of
  newest_none z = ap (λ (k : ℕ). newest (queue_of m n w k)) (sym z)

  pub newest_some : {h : ℕ} → 0 < len → h ≡ get_or m (slot n w (len - 1)) 0 → h ≡ newest (queue_of m n w len)
  unfolding queue_of
  newest_some pos p =
      let e : len ≡ suc (len - 1) = omega arith in
      p ∙ sym (ap (λ (k : ℕ). newest (queue_of m n w k)) e ∙ newest-last (queue_of m n w (len - 1)) (get_or m (slot n w (len - 1)) 0))

  pub rest-queue : rest (queue_of m n w len) ≡ queue_of m n w (len - 1)
  unfolding rest queue_of
  rest-queue = ⊎_elim
      (λ z. ap (λ (k : ℕ). rest (queue_of m n w k)) z ∙ sym (let e : len - 1 ≡ zero = omega arith in ap (queue_of m n w) e))
      (λ pos.
      let e : len ≡ suc (len - 1) = omega arith in
      ap (λ (k : ℕ). rest (queue_of m n w k)) e ∙ rest-last (queue_of m n w (len - 1)) (get_or m (slot n w (len - 1)) 0))
      (eq-zero-or-pos len)

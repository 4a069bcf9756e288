-- The turns of `commit`: what the first i places leave in memory, and what one place more adds. Assumes nothing.
use mathlib.Core.Path.{◌≡◌, refl, sym, ap, ◌∙◌}
use mathlib.Core.Bool.{Bool, true, false, cond, ◌&&◌}
use mathlib.Core.List.{List, [], ◌∷◌, ◌++◌, append-nil}
use mathlib.Core.Logic.{◌≢◌, ⊎_elim}
use Prim.Native.Nat.{ℕ, zero, suc, ◌+◌, ◌-◌, ◌*◌, ◌/◌, ◌%◌, ◌≤◌, ◌<◌, min, max}
use native.Mathlib.Nat.{add-zero, add_assoc, mod-add-mod, eq-zero-or-pos}
use native.Mathlib.Omega.{arith}
use borrow.Author.Tests.{le-leb, lt-leb, lt-ltb, le-ltb}
use lib.Dec.{eqb, leb, ltb}
use lib.ListN.{length, get_or, set, take, length-append, length-take, get_or-eq_default}
use lib.Seq.{set-get_or, get_or-take}
use Rattle.arith.specs.Whole.{limit}
use Rattle.arith.specs.Time.{moment}
use Rattle.arith.specs.declared.time.Moment.{Moment}
use Rattle.model.specs.Numbers.{capacity}
use Rattle.model.specs.Sent.{standing}
use Rattle.model.specs.declared.Sent.{Sent}
use Rattle.records.specs.View.{space_words, at, record_by, ring}
use Rattle.records.proofs.Laws.{at_slots, queue-at, record-by, record-handle, standing-mark}
use Rattle.records.proofs.Rings.{places-apart, ring-snoc, length-ring}
use Rattle.marks.specs.Marks.{flagged, acked_mark, mark_acked, mark_settled, held_at, acked_at, settled_at, is_newly, newly_of, standing_of, handles_of}
use Rattle.marks.specs.Store.{mark_by, store_marks}
use Rattle.records.specs.View.{store_handles}
use Rattle.commit.specs.Commit.{newly_handles, gone_handles, settled_marks, committed, queues_after, Committed}
use Rattle.commit.specs.Turn.{entry, remark, stamped, is_new, is_gone, Turned}
use Rattle.records.specs.Probes.{StoredFrom}
use Rattle.commit.specs.declared.Queues.{Queues}
use Rattle.commit.proofs.Storing.{handles-append, handles-other, handles-set, handles-queues, mark-record, marks-append, marks-other}

-- ---- lists of records, one longer

kept_append : {A : Type 0} (b : Bool) (x : A) (l l' ys : List A) → l' ≡ l ++ ys → cond b (x ∷ l') l' ≡ cond b (x ∷ l) l ++ ys
kept_append true x l l' ys e = ap (λ (s : List _). x ∷ s) e
kept_append false x l l' ys e = e

skipped-append : {A : Type 0} (b : Bool) (x : A) (l l' ys : List A) → l' ≡ l ++ ys → cond b l' (x ∷ l') ≡ cond b l (x ∷ l) ++ ys
skipped-append true x l l' ys e = e
skipped-append false x l l' ys e = ap (λ (s : List _). x ∷ s) e

handles-of-append : (l l' : List Sent) → handles_of (l ++ l') ≡ handles_of l ++ handles_of l'
unfolding handles_of
handles-of-append [] l' = refl
handles-of-append (r ∷ l) l' = skipped-append (eqb r.handle 0) r.handle (handles_of l) (handles_of (l ++ l')) (handles_of l') (handles-of-append l l')

handles-one : (b : Bool) (r : Sent) → handles_of (cond b (r ∷ []) []) ≡ entry b r.handle
unfolding handles_of
handles-one true r = refl
handles-one false r = refl

newly-snoc : (bs : List Bool) (l : List Sent) (b : Bool) (r : Sent) → length bs ≡ length l →
    newly_of (bs ++ (b ∷ [])) (l ++ (r ∷ [])) ≡ newly_of bs l ++ cond (is_newly b r) (r ∷ []) []
unfolding newly_of
newly-snoc [] [] b r e = refl
newly-snoc [] (x ∷ l) b r e = absurd (let z : ⊥ = omega arith in z)
newly-snoc (a ∷ bs) [] b r e = absurd (let z : ⊥ = omega arith in z)
newly-snoc (a ∷ bs) (x ∷ l) b r e =
    kept_append (is_newly a x) x (newly_of bs l) (newly_of (bs ++ (b ∷ [])) (l ++ (r ∷ []))) (cond (is_newly b r) (r ∷ []) []) (newly-snoc bs l b r (omega arith))

standing-snoc : (l : List Sent) (r : Sent) → standing_of (l ++ (r ∷ [])) ≡ standing_of l ++ cond (standing r) (r ∷ []) []
unfolding standing_of
standing-snoc [] r = refl
standing-snoc (x ∷ l) r = kept_append (standing x) x (standing_of l) (standing_of (l ++ (r ∷ []))) (cond (standing r) (r ∷ []) []) (standing-snoc l r)

-- ---- one place more
module _ (m : List ℕ) (n head : ℕ) (fs : List Bool) (i : ℕ) where
  abbrev old_mark : ℕ
  old_mark = get_or m (at n (head + i) 5) 0

  abbrev old_handle : ℕ
  old_handle = get_or m (at n (head + i) 4) 0

  stands-held : standing (held_at m n head i) ≡ eqb old_mark 0
  stands-held = ap (λ (r : Sent). standing r) (record-by m n (head + i)) ∙ standing-mark m n (head + i) old_mark

  by-handle : (w : ℕ) → (record_by m n (head + i) w).handle ≡ old_handle
  unfolding record_by
  by-handle w = refl

  pub newly-step : newly_handles m n head fs (i + 1) ≡ newly_handles m n head fs i ++ entry (is_new (get_or fs i false) old_mark) old_handle
  newly-step =
      let bs = ring (flagged fs) 0 i in
      let l = ring (held_at m n head) 0 i in
      let r = held_at m n head i in
      let b = flagged fs i in
      let e : 0 + i ≡ i = omega arith in
      let x : ring (flagged fs) 0 (i + 1) ≡ bs ++ (b ∷ []) = ring-snoc (flagged fs) 0 i ∙ ap (λ (p : ℕ). bs ++ (flagged fs p ∷ [])) e in
      let y : ring (held_at m n head) 0 (i + 1) ≡ l ++ (r ∷ []) = ring-snoc (held_at m n head) 0 i ∙ ap (λ (p : ℕ). l ++ (held_at m n head p ∷ [])) e in
      let z : length bs ≡ length l = length-ring (flagged fs) 0 i ∙ sym (length-ring (held_at m n head) 0 i) in
      ap (λ (s : List Bool). handles_of (newly_of s (ring (held_at m n head) 0 (i + 1)))) x
      ∙ ap (λ (s : List Sent). handles_of (newly_of (bs ++ (b ∷ [])) s)) y
      ∙ ap handles_of (newly-snoc bs l b r z)
      ∙ handles-of-append (newly_of bs l) (cond (is_newly b r) (r ∷ []) [])
      ∙ ap (λ (s : List ℕ). handles_of (newly_of bs l) ++ s)
      (handles-one (is_newly b r) r ∙ ap (λ (t : Bool). entry (b && t) r.handle) stands-held ∙ ap (λ (h : ℕ). entry (b && eqb old_mark 0) h) (record-handle m n (head + i)))

  module _ (from stop : ℕ) where
    abbrev gone_to : ℕ → List ℕ
    gone_to c = handles_of (standing_of (ring (acked_at m n head fs) from c))

    abbrev gone_entry : List ℕ
    gone_entry = entry (is_gone i from stop (mark_acked m n head fs i)) old_handle

    gone-in : from ≤ i → i < stop → gone_to (min (i + 1) stop - from) ≡ gone_to (min i stop - from) ++ gone_entry
    gone-in le lt =
        let c = min i stop - from in
        let e : min (i + 1) stop - from ≡ c + 1 = omega arith in
        let d : from + c ≡ i = omega arith in
        let l = ring (acked_at m n head fs) from c in
        let r = acked_at m n head fs i in
        ap gone_to e
        ∙ ap (λ (s : List Sent). handles_of (standing_of s)) (ring-snoc (acked_at m n head fs) from c ∙ ap (λ (p : ℕ). l ++ (acked_at m n head fs p ∷ [])) d)
        ∙ ap handles_of (standing-snoc l r)
        ∙ handles-of-append (standing_of l) (cond (standing r) (r ∷ []) [])
        ∙ ap (λ (s : List ℕ). gone_to c ++ s)
        (handles-one (standing r) r ∙ ap (λ (t : Bool). entry t r.handle) (standing-mark m n (head + i) (mark_acked m n head fs i))
        ∙ ap (λ (h : ℕ). entry (eqb (mark_acked m n head fs i) 0) h) (by-handle (mark_acked m n head fs i))
        ∙ sym (rw (le-leb from i le, lt-ltb i stop lt)))

    gone-out : min (i + 1) stop - from ≡ min i stop - from → is_gone i from stop (mark_acked m n head fs i) ≡ false → gone_to (min (i + 1) stop - from) ≡ gone_to (min i stop - from) ++ gone_entry
    gone-out e f = ap gone_to e ∙ sym (ap (λ (t : Bool). gone_to (min i stop - from) ++ entry t old_handle) f ∙ append-nil (gone_to (min i stop - from)))

    pub gone-step : gone_handles m n head fs from (min (i + 1) stop) ≡ gone_handles m n head fs from (min i stop) ++ gone_entry
    gone-step = ⊎_elim
        (λ a. ⊎_elim
        (λ b. gone-out (omega arith) (rw (le-ltb i stop (omega arith), le-leb from i (omega arith))))
        (λ b. gone-in (omega arith) (omega arith))
        (eq-zero-or-pos (stop - i)))
        (λ a. gone-out (omega arith) (rw (lt-leb from i (omega arith))))
        (eq-zero-or-pos (from - i))

  module _ (stop keep : ℕ) (time : Moment) where
    abbrev marks_to : ℕ → List ℕ
    marks_to c = store_marks m n (head + keep) (ring (settled_at m n head fs stop time) keep c)

    mark-in : keep ≤ i → marks_to (i + 1 - keep) ≡ set (marks_to (i - keep)) (at n (head + i) 5) (mark_settled m n head fs stop time i)
    unfolding store_marks
    mark-in le =
        let c = i - keep in
        let e : i + 1 - keep ≡ c + 1 = omega arith in
        let d : keep + c ≡ i = omega arith in
        let f = settled_at m n head fs stop time in
        let l = ring (settled_at m n head fs stop time) keep c in
        let r = settled_at m n head fs stop time i in
        let k : head + keep + length l ≡ head + i = rw (length-ring (settled_at m n head fs stop time) keep c) (omega arith) in
        ap marks_to e
        ∙ ap (store_marks m n (head + keep)) (ring-snoc (settled_at m n head fs stop time) keep c ∙ ap (λ (p : ℕ). l ++ (settled_at m n head fs stop time p ∷ [])) d)
        ∙ marks-append m n (head + keep) l (r ∷ [])
        ∙ ap (λ (p : ℕ). set (marks_to c) (at n p 5) (mark_by r.acked r.time_lost)) k
        ∙ ap (set (marks_to c) (at n (head + i) 5)) (mark-record m n (head + i) (mark_settled m n head fs stop time i))

    pub marks-step : settled_marks m n head (i + 1) fs stop keep time ≡ remark (leb keep i) (settled_marks m n head i fs stop keep time) n (head + i) (mark_settled m n head fs stop time i)
    marks-step = ⊎_elim
        (λ a. mark-in (omega arith) ∙ sym (rw (le-leb keep i (omega arith))))
        (λ a. let e : i + 1 - keep ≡ i - keep = omega arith in ap marks_to e ∙ sym (rw (lt-leb keep i (omega arith))))
        (eq-zero-or-pos (keep - i))

    -- a word of the record at place i is as it was
    pub marks-word : (j : ℕ) → i < capacity → j < 6 → get_or (settled_marks m n head i fs stop keep time) (at n (head + i) j) 0 ≡ get_or m (at n (head + i) j) 0
    marks-word j lt lj = marks-other m n (head + keep) (ring (settled_at m n head fs stop time) keep (i - keep)) (at n (head + i) j)
        (λ p l. let q : p < i - keep = rw (length-ring (settled_at m n head fs stop time) keep (i - keep)) at l in
        let e : head + keep + p ≡ head + (keep + p) = omega arith in
        rw e (at_slots n (head + (keep + p)) (head + i) 5 j (λ z. places-apart capacity head (keep + p) i (omega arith) lt (sym z)) (omega arith) lj))

-- ---- a turn

remark-handles : (b : Bool) (m : List ℕ) (n w i : ℕ) (xs : List ℕ) (k v : ℕ) → remark b (store_handles m n w i xs) n k v ≡ store_handles (remark b m n k v) n w i xs
remark-handles true m n w i xs k v = sym (handles-set m n w i xs (at n k 5) v (λ p. queue-at n n k w p 5 (omega arith)))
remark-handles false m n w i xs k v = refl

turn-words : (m : List ℕ) (n k a l : ℕ) (xs ys x y : List ℕ) (b : Bool) (v : ℕ) →
    store_handles (store_handles (remark b (store_handles (store_handles m n 0 a xs) n 1 l ys) n k v) n 0 (a + length xs) x) n 1 (l + length ys) y
    ≡ store_handles (store_handles (remark b m n k v) n 0 a (xs ++ x)) n 1 l (ys ++ y)
turn-words m n k a l xs ys x y b v =
    let z = remark b m n k v in
    let c : remark b (store_handles (store_handles m n 0 a xs) n 1 l ys) n k v ≡ store_handles (store_handles z n 0 a xs) n 1 l ys =
    remark-handles b (store_handles m n 0 a xs) n 1 l ys k v ∙ ap (λ (s : List ℕ). store_handles s n 1 l ys) (remark-handles b m n 0 a xs k v) in
    let d : 0 % 3 ≢ 1 % 3 = λ e. omega arith in
    ap (λ (s : List ℕ). store_handles (store_handles s n 0 (a + length xs) x) n 1 (l + length ys) y) c
    ∙ ap (λ (s : List ℕ). store_handles s n 1 (l + length ys) y) (handles-queues (store_handles z n 0 a xs) n 1 l ys 0 (a + length xs) x d)
    ∙ ap (λ (s : List ℕ). store_handles (store_handles s n 1 l ys) n 1 (l + length ys) y) (sym (handles-append z n 0 a xs x))
    ∙ sym (handles-append (store_handles z n 0 a (xs ++ x)) n 1 l ys y)

-- what a turn stores, with the record's words named
told : (m after : List ℕ) (n k i : ℕ) (flag : Bool) (from stop keep stamp : ℕ) (q r : Queues) (mark handle : ℕ) → get_or m (at n k 5) 0 ≡ mark → get_or m (at n k 4) 0 ≡ handle →
    Turned m n k i flag from stop keep stamp q after r →
    (after
    ≡ store_handles
    (store_handles (remark (leb keep i) m n k (stamped (ltb i stop) stamp (acked_mark flag mark))) n 0 q.acked (entry (is_new flag mark) handle))
    n 1 q.lost (entry (is_gone i from stop (acked_mark flag mark)) handle))
    × ((r.acked ≡ q.acked + length (entry (is_new flag mark) handle)) × (r.lost ≡ q.lost + length (entry (is_gone i from stop (acked_mark flag mark)) handle)))
told m after n k i flag from stop keep stamp q r mark handle e d t = (rw (e, d) at t.memory, (rw (e, d) at t.acked, rw (e, d) at t.lost))

entry-short : (b : Bool) (h : ℕ) → length (entry b h) ≤ 1
entry-short true h = by (eqb h 0)
  where
    by : (z : Bool) → length (cond z [] (h ∷ [])) ≤ 1
    by true = omega arith
    by false = omega arith
entry-short false h = omega arith

-- a turn queues one handle at most
pub turn_acked : (m after : List ℕ) (n k i : ℕ) (flag : Bool) (from stop keep stamp : ℕ) (q r : Queues) → Turned m n k i flag from stop keep stamp q after r → r.acked ≤ q.acked + 1
turn_acked m after n k i flag from stop keep stamp q r t =
    omega (arith, t.acked, entry-short (is_new flag (get_or m (at n k 5) 0)) (get_or m (at n k 4) 0))

pub turn_lost : (m after : List ℕ) (n k i : ℕ) (flag : Bool) (from stop keep stamp : ℕ) (q r : Queues) → Turned m n k i flag from stop keep stamp q after r → r.lost ≤ q.lost + 1
turn_lost m after n k i flag from stop keep stamp q r t =
    omega (arith, t.lost, entry-short (is_gone i from stop (acked_mark flag (get_or m (at n k 5) 0))) (get_or m (at n k 4) 0))

queues : (q : Queues) (a l : ℕ) → q.acked ≡ a → q.lost ≡ l → q ≡ record { acked = a; lost = l }
queues q a l e d = ap (λ (x : ℕ). record { acked = x; lost = q.lost }) e ∙ ap (λ (x : ℕ). record { acked = a; lost = x }) d

-- ---- all turns
module _ (m : List ℕ) (n head : ℕ) (fs : List Bool) (from stop keep : ℕ) (time : Moment) (acked lost : ℕ) where
  abbrev newly : ℕ → List ℕ
  newly i = newly_handles m n head fs i

  abbrev gone : ℕ → List ℕ
  gone i = gone_handles m n head fs from (min i stop)

  abbrev marks : ℕ → List ℕ
  marks i = settled_marks m n head i fs stop keep time

  -- what the first i places leave
  abbrev pub state_at : ℕ → List ℕ
  state_at i = store_handles (store_handles (marks i) n 0 acked (newly i)) n 1 lost (gone i)

  pub record State (i : ℕ) (l : List ℕ) (q : Queues) : Type 0 where
    pub memory : l ≡ state_at i
    pub next_acked : q.acked ≡ acked + length (newly i)
    pub next_lost : q.lost ≡ lost + length (gone i)

  state-word : (i j : ℕ) → i < capacity → j < 6 → get_or (state_at i) (at n (head + i) j) 0 ≡ get_or m (at n (head + i) j) 0
  state-word i j lt lj =
      handles-other (store_handles (marks i) n 0 acked (newly i)) n 1 lost (gone i) (at n (head + i) j) (λ p. queue-at n n (head + i) 1 p j lj)
      ∙ handles-other (marks i) n 0 acked (newly i) (at n (head + i) j) (λ p. queue-at n n (head + i) 0 p j lj)
      ∙ marks-word m n head fs i stop keep time j lt lj

  pub state-turn : (i : ℕ) → i < capacity → (before after : List ℕ) (k : ℕ) (flag : Bool) (raw stamp : ℕ) (q r : Queues) →
      State i before q → k % capacity ≡ (head + i) % capacity → flag ≡ get_or fs i false → ltb i raw ≡ ltb i stop → stamp ≡ 2 * (time.0 + 1) →
      Turned before n k i flag from raw keep stamp q after r → State (i + 1) after r
  unfolding mark_settled mark_acked
  state-turn i lt before after k flag raw stamp q r s ek ef er es t =
      let o = old_mark m n head fs i in
      let h = old_handle m n head fs i in
      let h5 : get_or before (at n k 5) 0 ≡ o =
      ap (λ (l : List ℕ). get_or l (at n k 5) 0) s.memory ∙ ap (λ (p : ℕ). get_or (state_at i) (space_words * (n % 3) + (6 * p + 5)) 0) ek ∙ state-word i 5 lt (omega arith) in
      let h4 : get_or before (at n k 4) 0 ≡ h =
      ap (λ (l : List ℕ). get_or l (at n k 4) 0) s.memory ∙ ap (λ (p : ℕ). get_or (state_at i) (space_words * (n % 3) + (6 * p + 4)) 0) ek ∙ state-word i 4 lt (omega arith) in
      let u = told before after n k i flag from raw keep stamp q r o h h5 h4 t in
      let x = entry (is_new (get_or fs i false) o) h in
      let y = entry (is_gone i from stop (mark_acked m n head fs i)) h in
      let v = mark_settled m n head fs stop time i in
      let ex : entry (is_new flag o) h ≡ x = ap (λ (g : Bool). entry (is_new g o) h) ef in
      let ey : entry (is_gone i from raw (acked_mark flag o)) h ≡ y =
      ap (λ (g : Bool). entry (is_gone i from raw (acked_mark g o)) h) ef
      ∙ ap (λ (b : Bool). entry (leb from i && (b && eqb (mark_acked m n head fs i) 0)) h) er in
      let ev : stamped (ltb i raw) stamp (acked_mark flag o) ≡ v =
      ap (λ (g : Bool). stamped (ltb i raw) stamp (acked_mark g o)) ef
      ∙ ap (λ (b : Bool). stamped b stamp (mark_acked m n head fs i)) er
      ∙ ap (λ (p : ℕ). stamped (ltb i stop) p (mark_acked m n head fs i)) es in
      let em : remark (leb keep i) before n k (stamped (ltb i raw) stamp (acked_mark flag o)) ≡ remark (leb keep i) (state_at i) n (head + i) v =
      ap (remark (leb keep i) before n k) ev
      ∙ ap (λ (l : List ℕ). remark (leb keep i) l n k v) s.memory
      ∙ ap (λ (p : ℕ). cond (leb keep i) (set (state_at i) (space_words * (n % 3) + (6 * p + 5)) v) (state_at i)) ek in
      let a = newly-step m n head fs i in
      let b = gone-step m n head fs i from stop in
      let d = marks-step m n head fs i stop keep time in
      record {
        memory =
            u.0
            ∙ ap (λ (l : List ℕ). store_handles (store_handles l n 0 q.acked (entry (is_new flag o) h)) n 1 q.lost (entry (is_gone i from raw (acked_mark flag o)) h)) em
            ∙ ap (λ (l : List ℕ). store_handles (store_handles (remark (leb keep i) (state_at i) n (head + i) v) n 0 q.acked l) n 1 q.lost (entry (is_gone i from raw (acked_mark flag o)) h)) ex
            ∙ ap (λ (l : List ℕ). store_handles (store_handles (remark (leb keep i) (state_at i) n (head + i) v) n 0 q.acked x) n 1 q.lost l) ey
            ∙ ap (λ (p : ℕ). store_handles (store_handles (remark (leb keep i) (state_at i) n (head + i) v) n 0 p x) n 1 q.lost y) s.next_acked
            ∙ ap (λ (p : ℕ). store_handles (store_handles (remark (leb keep i) (state_at i) n (head + i) v) n 0 (acked + length (newly i)) x) n 1 p y) s.next_lost
            ∙ turn-words (marks i) n (head + i) acked lost (newly i) (gone i) x y (leb keep i) v
            ∙ ap (λ (l : List ℕ). store_handles (store_handles l n 0 acked (newly i ++ x)) n 1 lost (gone i ++ y)) (sym d)
            ∙ ap (λ (l : List ℕ). store_handles (store_handles (marks (i + 1)) n 0 acked l) n 1 lost (gone i ++ y)) (sym a)
            ∙ ap (λ (l : List ℕ). store_handles (store_handles (marks (i + 1)) n 0 acked (newly (i + 1))) n 1 lost l) (sym b);
        next_acked =
            u.1.0 ∙ ap (λ (l : List ℕ). q.acked + length l) ex ∙ ap (λ (p : ℕ). p + length x) s.next_acked ∙ add_assoc acked (length (newly i)) (length x)
            ∙ ap (λ (p : ℕ). acked + p) (sym (length-append (newly i) x)) ∙ ap (λ (l : List ℕ). acked + length l) (sym a);
        next_lost =
            u.1.1 ∙ ap (λ (l : List ℕ). q.lost + length l) ey ∙ ap (λ (p : ℕ). p + length y) s.next_lost ∙ add_assoc lost (length (gone i)) (length y)
            ∙ ap (λ (p : ℕ). lost + p) (sym (length-append (gone i) y)) ∙ ap (λ (l : List ℕ). lost + length l) (sym b);
      }

  -- before the first turn
  pub state-start : (q : Queues) → q.acked ≡ acked → q.lost ≡ lost → State 0 m q
  unfolding ring store_marks store_handles newly_of standing_of handles_of
  state-start q ea el =
      let a : 0 - keep ≡ zero = omega arith in
      let b : min 0 stop - from ≡ zero = omega arith in
      let x : marks 0 ≡ m = ap (λ (c : ℕ). store_marks m n (head + keep) (ring (settled_at m n head fs stop time) keep c)) a in
      let y : gone 0 ≡ [] = ap (λ (c : ℕ). handles_of (standing_of (ring (acked_at m n head fs) from c))) b in
      record {
        memory = sym (ap (λ (l : List ℕ). store_handles (marks 0) n 1 lost l) y ∙ x);
        next_acked = ea ∙ sym (add-zero acked);
        next_lost = el ∙ sym (ap (λ (l : List ℕ). lost + length l) y ∙ add-zero lost);
      }

  -- a place that is neither flagged nor passed over changes nothing
  newly-still : (i : ℕ) → flagged fs i ≡ false → newly (i + 1) ≡ newly i
  newly-still i f =
      newly-step m n head fs i ∙ ap (λ (t : Bool). newly i ++ entry (t && eqb (old_mark m n head fs i) 0) (old_handle m n head fs i)) f ∙ append-nil (newly i)

  stays : (b : Bool) (l : List ℕ) (k w : ℕ) → get_or l (at n k 5) 0 ≡ w → remark b l n k w ≡ l
  stays true l k w e = ap (set l (at n k 5)) (sym e) ∙ set-get_or l (at n k 5) 0
  stays false l k w e = refl

  marks-still : (i : ℕ) → flagged fs i ≡ false → stop ≤ i → i < capacity → marks (i + 1) ≡ marks i
  unfolding mark_settled mark_acked
  marks-still i f le lt =
      let o = old_mark m n head fs i in
      let v : mark_settled m n head fs stop time i ≡ o = rw (f, le-ltb i stop le) in
      marks-step m n head fs i stop keep time ∙ ap (remark (leb keep i) (marks i) n (head + i)) v ∙ stays (leb keep i) (marks i) (head + i) o (marks-word m n head fs i stop keep time 5 lt (omega arith))

  module _ (k : ℕ) (fits : k ≤ capacity) where
    newly-rest : (c d : ℕ) → c + d ≤ k → ((i : ℕ) → c ≤ i → i < k → flagged fs i ≡ false) → newly (c + d) ≡ newly c
    newly-rest c zero le off = ap newly (add-zero c)
    newly-rest c (suc d) le off =
        let e : c + suc d ≡ c + d + 1 = omega arith in
        ap newly e ∙ newly-still (c + d) (off (c + d) (omega arith) (omega arith)) ∙ newly-rest c d (omega arith) off

    marks-rest : (c d : ℕ) → c + d ≤ k → stop ≤ c → ((i : ℕ) → c ≤ i → i < k → flagged fs i ≡ false) → marks (c + d) ≡ marks c
    marks-rest c zero le st off = ap marks (add-zero c)
    marks-rest c (suc d) le st off =
        let e : c + suc d ≡ c + d + 1 = omega arith in
        ap marks e ∙ marks-still (c + d) (off (c + d) (omega arith) (omega arith)) (omega arith) (omega arith) ∙ marks-rest c d (omega arith) st off

    -- after the last turn
    pub state-end : (c : ℕ) (l : List ℕ) (q : Queues) → c ≤ k → stop ≤ c → ((i : ℕ) → c ≤ i → i < k → flagged fs i ≡ false) → State c l q →
        (l ≡ committed m n head k fs from stop keep time acked lost) × (q ≡ queues_after m n head k fs from stop acked lost)
    unfolding committed queues_after
    state-end c l q le st off s =
        let e : c + (k - c) ≡ k = omega arith in
        let x : newly c ≡ newly k = sym (newly-rest c (k - c) (omega arith) off) ∙ ap newly e in
        let y : marks c ≡ marks k = sym (marks-rest c (k - c) (omega arith) st off) ∙ ap marks e in
        let z : min c stop ≡ stop = omega arith in
        let ea : q.acked ≡ acked + length (newly k) = s.next_acked ∙ ap (λ (t : List ℕ). acked + length t) x in
        let el : q.lost ≡ lost + length (gone_handles m n head fs from stop) = s.next_lost ∙ ap (λ (p : ℕ). lost + length (gone_handles m n head fs from p)) z in (
          s.memory
              ∙ ap (λ (t : List ℕ). store_handles (store_handles t n 0 acked (newly c)) n 1 lost (gone c)) y
              ∙ ap (λ (t : List ℕ). store_handles (store_handles (marks k) n 0 acked t) n 1 lost (gone c)) x
              ∙ ap (λ (p : ℕ). store_handles (store_handles (marks k) n 0 acked (newly k)) n 1 lost (gone_handles m n head fs from p)) z,
          queues q (acked + length (newly k)) (lost + length (gone_handles m n head fs from stop)) ea el,
        )

-- ---- the turns of the code: what it is given may be any numbers

-- one turn's stores make the whole turn
pub turn_made : (m m₁ m₂ m₃ : List ℕ) (n k i : ℕ) (flag : Bool) (from stop keep stamp : ℕ) (q : Queues) (mark handle acked settled a l : ℕ) (new gone : Bool) →
    mark ≡ get_or m (at n k 5) 0 → handle ≡ get_or m (at n k 4) 0 → acked ≡ acked_mark flag mark → settled ≡ stamped (ltb i stop) stamp acked →
    new ≡ is_new flag mark → gone ≡ is_gone i from stop acked →
    m₁ ≡ remark (leb keep i) m n k settled → StoredFrom m₁ n 0 q.acked (entry new handle) a m₂ → StoredFrom m₂ n 1 q.lost (entry gone handle) l m₃ →
    Turned m n k i flag from stop keep stamp q m₃ (record { acked = a; lost = l })
turn_made m m₁ m₂ m₃ n k i flag from stop keep stamp q mark handle acked settled a l new gone em eh ea es en eg e₁ s t =
    record {
      memory = t.memory ∙ rw (s.memory, e₁, es, en, eg, ea, em, eh);
      acked = s.count ∙ rw (en, em, eh);
      lost = t.count ∙ rw (eg, ea, em, eh);
    }

below-min : (i a b : ℕ) → i < b → ltb i a ≡ ltb i (min a b)
below-min i a b lt = ⊎_elim
    (λ z. let x : a ≤ i = omega arith in let y : min a b ≤ i = omega arith in le-ltb i a x ∙ sym (le-ltb i (min a b) y))
    (λ p. let x : i < a = omega arith in let y : i < min a b = omega arith in lt-ltb i a x ∙ sym (lt-ltb i (min a b) y))
    (eq-zero-or-pos (a - i))

pub flag-past : (c i : ℕ) (fs : List Bool) → c ≤ i → flagged (take c fs) i ≡ false
flag-past c i fs le =
    let l : length (take c fs) ≤ i = omega (arith, length-take c fs) in
    get_or-eq_default (take c fs) false l

module _ (m : List ℕ) (n head len : ℕ) (fs : List Bool) (last from stop keep stamp acked lost : ℕ) where
  abbrev k : ℕ
  k = min len capacity

  -- after i turns, with a stamp that says the moment
  abbrev pub After : ℕ → List ℕ → Queues → Type 0
  After i l q = State m n head (take (max last stop) fs) from (min stop k) keep (moment (stamp / 2 - 1)) (min acked capacity) (min lost capacity) i l q

  pub after_start : (q : Queues) → q.acked ≡ min acked capacity → q.lost ≡ min lost capacity → After 0 m q
  after_start q ea el = state-start m n head (take (max last stop) fs) from (min stop k) keep (moment (stamp / 2 - 1)) (min acked capacity) (min lost capacity) q ea el

  pub after_turn : (t count i : ℕ) (before after : List ℕ) (q r : Queues) → stamp ≡ 2 * (t + 1) → count ≡ min (max last stop) k → i < count →
      After i before q → Turned before n (head % capacity + i) i (get_or fs i false) from stop keep stamp q after r → After (i + 1) after r
  after_turn t count i before after q r es ec lt s turn =
      let a : i < k = omega arith in
      let b : i < max last stop = omega arith in
      state-turn m n head (take (max last stop) fs) from (min stop k) keep (moment (stamp / 2 - 1)) (min acked capacity) (min lost capacity) i (omega arith) before after
      (head % capacity + i) (get_or fs i false) stop stamp q r s (mod-add-mod head capacity i) (sym (get_or-take (max last stop) fs i false b)) (below-min i stop k a) (omega arith) turn

  pub after_end : (time : Moment) (count i : ℕ) (l : List ℕ) (q : Queues) → stamp ≡ 2 * (min time.0 limit + 1) → count ≡ min (max last stop) k → i ≤ count → count ≤ i →
      After i l q → Committed m n head len fs last from stop keep time acked lost l q
  after_end time count i l q es ec le ge s =
      let e = state-end m n head (take (max last stop) fs) from (min stop k) keep (moment (stamp / 2 - 1)) (min acked capacity) (min lost capacity) k (omega arith) i l q
      (omega arith) (omega arith) (λ j a b. flag-past (max last stop) j fs (omega arith)) s in
      let t : stamp / 2 - 1 ≡ min time.0 limit = omega arith in
      record {
        memory = e.0 ∙ ap (λ (x : ℕ). committed m n head k (take (max last stop) fs) from (min stop k) keep (moment x) (min acked capacity) (min lost capacity)) t;
        queues = e.1;
      }

-- What storing marks and handles does to the words of a memory, and that the order of stores to different words is free. Assumes nothing.
use mathlib.Core.Path.{◌≡◌, refl, sym, ap, ◌∙◌}
use mathlib.Core.List.{List, [], ◌∷◌, ◌++◌}
use mathlib.Core.Logic.{◌≢◌, ⊎_elim}
use Prim.Native.Nat.{ℕ, zero, suc, ◌+◌, ◌/◌, ◌%◌, ◌<◌}
use native.Mathlib.Nat.{add-zero, eq-zero-or-pos}
use native.Mathlib.Omega.{arith}
use borrow.Author.Tests.{ne_eqb}
use lib.ListN.{length, get_or, set, length-set}
use lib.Seq.{get_or-set_other, set_comm, set-get_or}
use Rattle.model.specs.declared.Sent.{Sent}
use Rattle.records.specs.View.{at, slot, acked_by, lost_by, record_by, record_at, ring}
use Rattle.records.proofs.Laws.{slot-queues}
use Rattle.marks.specs.Store.{mark_by, store_marks}
use Rattle.records.specs.View.{store_handles}

-- ---- handles

pub handles-append : (m : List ℕ) (n w i : ℕ) (xs ys : List ℕ) → store_handles m n w i (xs ++ ys) ≡ store_handles (store_handles m n w i xs) n w (i + length xs) ys
unfolding store_handles
handles-append m n w i [] ys = rw add-zero
handles-append m n w i (x ∷ xs) ys =
    let e : i + 1 + length xs ≡ i + suc (length xs) = omega arith in
    rw (← e) (handles-append (set m (slot n w i) x) n w (i + 1) xs ys)

-- a word that is none of the queue's
pub handles-other : (m : List ℕ) (n w i : ℕ) (xs : List ℕ) (j : ℕ) → ((p : ℕ) → j ≢ slot n w p) → get_or (store_handles m n w i xs) j 0 ≡ get_or m j 0
unfolding store_handles
handles-other m n w i [] j off = refl
handles-other m n w i (x ∷ xs) j off = handles-other (set m (slot n w i) x) n w (i + 1) xs j off ∙ get_or-set_other m (slot n w i) j x 0 (off i)

pub handles-set : (m : List ℕ) (n w i : ℕ) (xs : List ℕ) (j v : ℕ) → ((p : ℕ) → j ≢ slot n w p) → store_handles (set m j v) n w i xs ≡ set (store_handles m n w i xs) j v
unfolding store_handles
handles-set m n w i [] j v off = refl
handles-set m n w i (x ∷ xs) j v off =
    ap (λ (l : List ℕ). store_handles l n w (i + 1) xs) (set_comm m j (slot n w i) v x (off i)) ∙ handles-set (set m (slot n w i) x) n w (i + 1) xs j v off

-- two queues
pub handles-queues : (m : List ℕ) (n w i : ℕ) (xs : List ℕ) (w' i' : ℕ) (ys : List ℕ) → w' % 3 ≢ w % 3 →
    store_handles (store_handles m n w i xs) n w' i' ys ≡ store_handles (store_handles m n w' i' ys) n w i xs
unfolding store_handles
handles-queues m n w i xs w' i' [] off = refl
handles-queues m n w i xs w' i' (y ∷ ys) off =
    ap (λ (l : List ℕ). store_handles l n w' (i' + 1) ys) (sym (handles-set m n w i xs (slot n w' i') y (λ p. slot-queues n n w w' p i' off)))
    ∙ handles-queues (set m (slot n w' i') y) n w i xs w' (i' + 1) ys off

-- ---- marks

-- a mark says what it is made from
pub mark-by : (w : ℕ) → mark_by (acked_by w) (lost_by w) ≡ w
mark-by w = ⊎_elim
    (λ z. rw z (⊎_elim (λ a. rw a (omega arith)) (λ a. let b : w % 2 ≡ 1 = omega arith in rw b (omega arith)) (eq-zero-or-pos (w % 2))))
    (λ p. rw (ne_eqb (w / 2) 0 (λ e. omega arith)) (⊎_elim (λ a. rw a (omega arith)) (λ a. let b : w % 2 ≡ 1 = omega arith in rw b (omega arith)) (eq-zero-or-pos (w % 2))))
    (eq-zero-or-pos (w / 2))

pub mark-record : (m : List ℕ) (n k w : ℕ) → mark_by (record_by m n k w).acked (record_by m n k w).time_lost ≡ w
unfolding record_by
mark-record m n k w = mark-by w

pub marks-append : (m : List ℕ) (n k : ℕ) (xs ys : List Sent) → store_marks m n k (xs ++ ys) ≡ store_marks (store_marks m n k xs) n (k + length xs) ys
unfolding store_marks
marks-append m n k [] ys = rw add-zero
marks-append m n k (x ∷ xs) ys =
    let e : k + 1 + length xs ≡ k + suc (length xs) = omega arith in
    rw (← e) (marks-append (set m (at n k 5) (mark_by x.acked x.time_lost)) n (k + 1) xs ys)

pub length-marks : (m : List ℕ) (n k : ℕ) (l : List Sent) → length (store_marks m n k l) ≡ length m
unfolding store_marks
length-marks m n k [] = refl
length-marks m n k (r ∷ l) =
    length-marks (set m (at n k 5) (mark_by r.acked r.time_lost)) n (k + 1) l ∙ length-set m (at n k 5) (mark_by r.acked r.time_lost)

-- a word that is none of their marks
pub marks-other : (m : List ℕ) (n k : ℕ) (l : List Sent) (j : ℕ) → ((p : ℕ) → p < length l → j ≢ at n (k + p) 5) → get_or (store_marks m n k l) j 0 ≡ get_or m j 0
unfolding store_marks
marks-other m n k [] j off = refl
marks-other m n k (r ∷ l) j off =
    marks-other (set m (at n k 5) (mark_by r.acked r.time_lost)) n (k + 1) l j
    (λ p lt. let e : k + 1 + p ≡ k + suc p = omega arith in rw e (off (suc p) (omega arith)))
    ∙ get_or-set_other m (at n k 5) j (mark_by r.acked r.time_lost) 0 (rw add-zero at (off 0 (omega arith)))

-- storing what stands changes nothing
pub marks-stand : (m : List ℕ) (n k c : ℕ) → store_marks m n k (ring (record_at m n) k c) ≡ m
unfolding store_marks ring record_at
marks-stand m n k zero = refl
marks-stand m n k (suc c) =
    let e : set m (at n k 5) (mark_by (record_at m n k).acked (record_at m n k).time_lost) ≡ m =
    ap (set m (at n k 5)) (mark-record m n k (get_or m (at n k 5) 0)) ∙ set-get_or m (at n k 5) 0 in
    ap (λ (l : List ℕ). store_marks l n (k + 1) (ring (record_at m n) (k + 1) c)) e ∙ marks-stand m n (k + 1) c

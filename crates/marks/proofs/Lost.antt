-- What a loss detection and a drain come to over the places of a space. For callers. Assumes nothing.
use mathlib.Core.Path.{◌≡◌, refl, ap, sym, ◌∙◌}
use mathlib.Core.Bool.{Bool, true, false, cond}
use mathlib.Core.List.{List, [], ◌∷◌}
use mathlib.Core.Logic.{⊎_elim}
use Prim.Native.Nat.{ℕ, zero, suc, ◌+◌, ◌-◌, ◌*◌, ◌≤◌, ◌<◌}
use Rattle.records.proofs.Halving.{lt-or-ge}
use native.Mathlib.Omega.{arith}
use borrow.Author.Tests.{lt-ltb, le-ltb, ltb-true}
use lib.Dec.{eqb, ltb}
use lib.ListN.{length, length-append, take}
use Rattle.arith.specs.Whole.{sum_of}
use Rattle.arith.specs.Time.{later_of}
use Rattle.arith.specs.Refusals.{then}
use Rattle.arith.specs.declared.time.Moment.{Moment}
use Rattle.arith.specs.declared.time.Span.{Span}
use Rattle.model.specs.Numbers.{capacity}
use Rattle.model.specs.Sent.{standing, marked, may_leave, drained}
use Rattle.model.specs.Loss.{is_lost}
use Rattle.model.specs.declared.Judge.{Judge}
use Rattle.arith.specs.declared.refusal.Refusal.TheVariants.{Full}
use Rattle.model.specs.declared.Sent.{Sent}
use Rattle.records.specs.View.{record_by, ring}
use Rattle.records.proofs.Laws.{record-lost, standing-mark}
use Rattle.records.proofs.Rings.{ring-ext}
use Rattle.marks.specs.Marks.{mark_acked, mark_settled, acked_at, settled_at, standing_of, lost_all, handles_of}
use Rattle.marks.specs.Survey.{queued_of, weigh_kind, loss_weighed, stop, seek_by, seek}
use Rattle.marks.specs.declared.LostTally.{LostTally}
use Rattle.marks.specs.declared.Stop.{Stop}
use Rattle.marks.proofs.SplitLoss.{handles-cons}
use Rattle.std.specs.Prelude.{Result, Ok, Err, Some}
use Rattle.arith.specs.declared.refusal.Refusal.{Refusal}

-- ---- draining

-- what is drained drains no further
pub drained-twice : (now : Moment) (smoothed : Span) (l : List Sent) → drained now smoothed (drained now smoothed l) ≡ drained now smoothed l
unfolding drained
drained-twice now smoothed [] = refl
drained-twice now smoothed (r ∷ l) = go (drained-twice now smoothed l) (may_leave now smoothed r) refl
  where
    go : drained now smoothed (drained now smoothed l) ≡ drained now smoothed l → (b : Bool) → may_leave now smoothed r ≡ b →
        drained now smoothed (cond b (drained now smoothed l) (r ∷ l)) ≡ cond b (drained now smoothed l) (r ∷ l)
    go ih true e = ih
    go ih false e = rw e refl

-- ---- marks after a detection that stops at place `stop`
module _ (m : List ℕ) (n head : ℕ) (fs : List Bool) (stop : ℕ) (now : Moment) where
  -- from there on nothing is lost
  pub settled-past : (i : ℕ) → stop ≤ i → settled_at m n head fs stop now i ≡ acked_at m n head fs i
  unfolding mark_settled
  settled-past i le = rw (le-ltb i stop le) refl

  -- before it, what stood is lost now
  pub settled_before : (i : ℕ) → i < stop →
      settled_at m n head fs stop now i ≡ cond (standing (acked_at m n head fs i)) (marked (acked_at m n head fs i) false (Some now)) (acked_at m n head fs i)
  unfolding mark_settled
  settled_before i lt = rw (lt-ltb i stop lt, standing-mark m n (head + i) (mark_acked m n head fs i)) (go (eqb (mark_acked m n head fs i) 0))
    where
      go : (b : Bool) →
          record_by m n (head + i) (cond b (2 * (now.0 + 1)) (mark_acked m n head fs i))
          ≡ cond b (marked (acked_at m n head fs i) false (Some now)) (acked_at m n head fs i)
      go true = record-lost m n (head + i) (mark_acked m n head fs i) now.0
      go false = refl

  pub settled-ring-past : (a c : ℕ) → stop ≤ a → ring (settled_at m n head fs stop now) a c ≡ ring (acked_at m n head fs) a c
  settled-ring-past a c le = ring-ext (settled_at m n head fs stop now) (acked_at m n head fs) a c (λ i lt. settled-past (a + i) (omega arith))

  -- the records after it are those before it, with the lost ones marked
  pub lost-ring : (a c : ℕ) → a ≤ stop → lost_all now (stop - a) (ring (acked_at m n head fs) a c) ≡ ring (settled_at m n head fs stop now) a c
  unfolding lost_all ring
  lost-ring a zero le = go (stop - a)
    where
      go : (k : ℕ) → lost_all now k [] ≡ []
      go zero = refl
      go (suc k) = refl
  lost-ring a (suc c) le =
      ⊎_elim
      (λ lt.
      let e : stop - a ≡ suc (stop - (a + 1)) = omega arith in
      let ih : lost_all now (stop - (a + 1)) (ring (acked_at m n head fs) (a + 1) c) ≡ ring (settled_at m n head fs stop now) (a + 1) c = lost-ring (a + 1) c (omega arith) in
      rw (e, settled_before a lt, ih) refl)
      (λ ge.
      let e : stop - a ≡ zero = omega arith in
      rw e (sym (settled-ring-past a (suc c) ge)))
      (lt-or-ge a stop)

-- a detection that stops at once loses nothing
pub settled-none : (m : List ℕ) (n head : ℕ) (fs : List Bool) (now : Moment) (a c : ℕ) → ring (settled_at m n head fs 0 now) a c ≡ ring (acked_at m n head fs) a c
settled-none m n head fs now a c = settled-ring-past m n head fs 0 now a c (omega arith)

-- ---- one handle

clash : {A B : Type 0} {b : B} {why : Refusal} → ◌≡◌ {A = Result B Refusal} (Err why) (Ok b) → A
clash e = absurd (let z : ◌≡◌ {A = ℕ} 0 1 = cc in let w : ⊥ = omega arith in w)

-- it is queued, unless 0, and the queue holds it
pub record Queues (r : Sent) (n q : ℕ) : Type 0 where
  pub handles : q ≡ n + length (handles_of (r ∷ []))
  pub room : n ≤ capacity → q ≤ capacity

pub queues : (r : Sent) (n q : ℕ) → queued_of r.handle n ≡ Ok q → Queues r n q
unfolding queued_of handles_of
queues r n q = go (eqb r.handle 0) (ltb n capacity) refl refl
  where
    go : (z room : Bool) → eqb r.handle 0 ≡ z → ltb n capacity ≡ room → ◌≡◌ {A = Result ℕ Refusal} (cond z (Ok n) (cond room (Ok (n + 1)) (Err Full))) (Ok q) → Queues r n q
    go true room y f e = let a : n ≡ q = cc in record { handles = rw y (omega arith); room = λ h. omega arith }
    go false true y f e = let a : n + 1 ≡ q = cc in record { handles = rw y (omega arith); room = λ h. omega (arith, ltb-true n capacity f) }
    go false false y f e = clash e

-- ---- one lost record

pub record Weighed (r : Sent) (t u : LostTally) : Type 0 where
  -- its handle is queued, unless 0, and the queue holds it
  pub handles : u.queued ≡ t.queued + length (handles_of (r ∷ []))
  pub room : t.queued ≤ capacity → u.queued ≤ capacity
  pub packets : u.packets ≤ t.packets + 1

record Kind (t u : LostTally) : Type 0 where
  handles : u.queued ≡ t.queued
  packets : u.packets ≤ t.packets + 1

kind-weighed : (r : Sent) (t u : LostTally) → weigh_kind r t ≡ Ok u → Kind t u
kind-weighed r t u = go r.is_pmtud_probe r.in_flight (sum_of t.probe_bytes r.size) (sum_of t.bytes r.size)
  where
    is : {v : LostTally} → v.queued ≡ t.queued → v.packets ≤ t.packets + 1 → ◌≡◌ {A = Result LostTally Refusal} (Ok v) (Ok u) → Kind t u
    is {v} q p e = let z : v ≡ u = cc in rw (← z) (record { handles = q; packets = p })

    go : (probe flight : Bool) (a b : Result ℕ Refusal) →
        cond probe
        (cond flight (then a λ n. Ok (record t { probe_bytes = n; in_flight = t.in_flight - 1 })) (Ok t))
        (cond flight (then b λ n. Ok (record t { packets = t.packets + 1; bytes = n; in_flight = t.in_flight - 1; last = Some r.time_sent }))
        (Ok (record t { packets = t.packets + 1 })))
        ≡ Ok u → Kind t u
    go true true (Ok x) b e = is refl (omega arith) e
    go true true (Err why) b e = clash e
    go true false a b e = is refl (omega arith) e
    go false true a (Ok x) e = is refl (omega arith) e
    go false true a (Err why) e = clash e
    go false false a b e = is refl (omega arith) e

pub weighed-lost : (r : Sent) (t u : LostTally) → loss_weighed r t ≡ Ok u → Weighed r t u
unfolding loss_weighed
weighed-lost r t u = go (queued_of r.handle t.queued) refl
  where
    go : (x : Result ℕ Refusal) → queued_of r.handle t.queued ≡ x → then x (λ q. weigh_kind r (record t { queued = q })) ≡ Ok u → Weighed r t u
    go (Ok q) p e =
        let k = queues r t.queued q p in
        let w = kind-weighed r (record t { queued = q }) u e in
        record { handles = w.handles ∙ k.handles; room = λ h. rw w.handles (k.room h); packets = w.packets }
    go (Err why) p e = clash e

-- ---- a detection of the records of a list from place i on, from the tally t
module _ (j : Judge) where
  pub record Sought (i : ℕ) (l : List Sent) (t : LostTally) (f : Stop) : Type 0 where
    -- it stops at a place of the list, or after it
    pub from : i ≤ f.place
    pub to : f.place ≤ i + length l
    -- the handles of those lost are queued, and the queue holds them
    pub handles : f.tally.queued ≡ t.queued + length (handles_of (standing_of (take (f.place - i) l)))
    pub room : t.queued ≤ capacity → f.tally.queued ≤ capacity

  module _ (i : ℕ) (r : Sent) (l : List Sent) (t : LostTally) (ih : (u : LostTally) (f : Stop) → seek j (i + 1) l u ≡ Ok f → Sought (i + 1) l u f) where
    -- the scan ends at the record
    ends : (f : Stop) → i ≡ f.place → t ≡ f.tally → Sought i (r ∷ l) t f
    unfolding standing_of handles_of
    ends f p q =
        let z : f.place - i ≡ zero = omega arith in
        let e : t.queued ≡ f.tally.queued = ap (λ (u : LostTally). u.queued) q in
        record { from = omega arith; to = omega arith; handles = rw z (omega arith); room = λ h. omega arith }

    -- it passes over the record, which does not stand
    passes : (f : Stop) → standing r ≡ false → seek j (i + 1) l t ≡ Ok f → Sought i (r ∷ l) t f
    unfolding standing_of handles_of
    passes f st e =
        let s = ih t f e in
        let z : f.place - i ≡ suc (f.place - (i + 1)) = omega (arith, s.from) in
        record { from = omega (arith, s.from); to = omega (arith, s.to); handles = rw (z, st) s.handles; room = s.room }

    -- the record is lost
    loses : (f : Stop) → standing r ≡ true → (w : Result LostTally Refusal) → loss_weighed r t ≡ w → then w (seek j (i + 1) l) ≡ Ok f → Sought i (r ∷ l) t f
    unfolding standing_of
    loses f st (Ok u) x e =
        let s = ih u f e in
        let z : f.place - i ≡ suc (f.place - (i + 1)) = omega (arith, s.from) in
        let w = weighed-lost r t u x in
        let n = length-append (handles_of (r ∷ [])) (handles_of (standing_of (take (f.place - (i + 1)) l))) in
        record {
          from = omega (arith, s.from);
          to = omega (arith, s.to);
          handles = rw (z, st, handles-cons r (standing_of (take (f.place - (i + 1)) l))) (omega (arith, n, w.handles, s.handles));
          room = λ h. s.room (w.room h);
        }
    loses f st (Err n) x e = absurd (let z : ◌≡◌ {A = ℕ} 0 1 = cc in let w : ⊥ = omega arith in w)

    survived : (f : Stop) (x : Result Moment Refusal) → then x (λ m. stop t i (Some m)) ≡ Ok f → Sought i (r ∷ l) t f
    survived f (Ok m) e = let a : i ≡ f.place = cc in let b : t ≡ f.tally = cc in ends f a b
    survived f (Err why) e = absurd (let z : ◌≡◌ {A = ℕ} 0 1 = cc in let w : ⊥ = omega arith in w)

    seen : (f : Stop) (a b v : Bool) → standing r ≡ b → seek_by a b v j i r t (seek j (i + 1) l) ≡ Ok f → Sought i (r ∷ l) t f
    unfolding seek_by
    seen f true b v st e = let x : i ≡ f.place = cc in let y : t ≡ f.tally = cc in ends f x y
    seen f false false v st e = passes f st e
    seen f false true false st e = survived f (later_of r.time_sent j.delay) e
    seen f false true true st e = loses f st (loss_weighed r t) refl e

  pub sought : (i : ℕ) (l : List Sent) (t : LostTally) (f : Stop) → seek j i l t ≡ Ok f → Sought i l t f
  unfolding seek standing_of handles_of
  sought i [] t f e =
      let x : i ≡ f.place = cc in
      let y : t ≡ f.tally = cc in
      let z : f.place - i ≡ zero = omega arith in
      let q : t.queued ≡ f.tally.queued = ap (λ (u : LostTally). u.queued) y in
      record { from = omega arith; to = omega arith; handles = rw z (omega arith); room = λ h. omega arith }
  sought i (r ∷ l) t f e = seen i r l t (sought (i + 1) l) f (ltb j.largest r.number) (standing r) (is_lost j r) refl e

-- Model's loss detection, split: `seek` has the sums and the refusal, the marks and the handles need neither. Assumes nothing.
use mathlib.Core.Path.{◌≡◌, refl, ap, ◌∙◌}
use mathlib.Core.Bool.{Bool, true, false, cond}
use mathlib.Core.List.{List, [], ◌∷◌, ◌++◌, append-nil, append_assoc}
use Prim.Native.Nat.{ℕ, suc, ◌+◌, ◌-◌, ◌≤◌}
use native.Mathlib.Omega.{arith}
use lib.Dec.{eqb, ltb}
use lib.ListN.{length, length-append, take}
use Rattle.arith.specs.Whole.{sum_of}
use Rattle.arith.specs.Time.{later_of}
use Rattle.arith.specs.declared.time.Moment.{Moment}
use Rattle.arith.specs.Refusals.{then}
use Rattle.model.specs.Numbers.{capacity}
use Rattle.model.specs.Sent.{standing, marked}
use Rattle.model.specs.Loss.{Lost, is_lost, lose_probe, lose_packet, lose, keep_detected, detect_by, detect}
use Rattle.model.specs.Loss as loss
use Rattle.model.specs.declared.Judge.{Judge}
use Rattle.arith.specs.declared.refusal.Refusal.TheVariants.{Full}
use Rattle.model.specs.declared.Sent.{Sent}
use Rattle.marks.specs.Marks.{standing_of, lost_all, handles_of}
use Rattle.marks.specs.Survey.{lost_tally, queued_of, weigh_kind, loss_weighed, stop, seek_by, seek}
use Rattle.marks.specs.declared.LostTally.{LostTally}
use Rattle.marks.specs.declared.Stop.{Stop}
use Rattle.std.specs.Prelude.{Result, Ok, Err, Some}
use Rattle.arith.specs.declared.refusal.Refusal.{Refusal}

abbrev pub short_lost : Lost → LostTally
short_lost s = lost_tally (length s.queue) s.packets s.bytes s.probe_bytes s.in_flight s.last

abbrev pub lost_of : LostTally → List ℕ → Lost
lost_of t q = record { queue = q; packets = t.packets; bytes = t.bytes; probe_bytes = t.probe_bytes; in_flight = t.in_flight; last = t.last }

-- the records from place i on, of which those before the stop are passed
unfoldable pub finish_lost : Result Stop Refusal → ℕ → Moment → List Sent → List ℕ → Result loss.Detected Refusal
finish_lost (Ok f) i now l q =
    Ok
    (record {
      records = lost_all now (f.place - i) l;
      lost = lost_of f.tally (q ++ handles_of (standing_of (take (f.place - i) l)));
      loss_time = f.loss_time;
    })
finish_lost (Err n) i now l q = Err n

-- what a list queues is what its first record queues, then the others
pub handles-cons : (r : Sent) (l : List Sent) → handles_of (r ∷ l) ≡ handles_of (r ∷ []) ++ handles_of l
unfolding handles_of
handles-cons r l = go (eqb r.handle 0)
  where
    go : (b : Bool) → cond b (handles_of l) (r.handle ∷ handles_of l) ≡ cond b [] (r.handle ∷ []) ++ handles_of l
    go true = refl
    go false = refl

self : (i : ℕ) → i - i ≡ 0
self i = omega arith

-- the scan does not stop before the place where it begins
module _ (j : Judge) where
  reaches-weighed : (w : Result LostTally Refusal) (Z : LostTally → Result Stop Refusal) (i : ℕ) → ((t : LostTally) (f : Stop) → Z t ≡ Ok f → i ≤ f.place) →
      (f : Stop) → then w Z ≡ Ok f → i ≤ f.place
  reaches-weighed (Ok t) Z i ih f e = ih t f e
  reaches-weighed (Err n) Z i ih f e = absurd (let z : ◌≡◌ {A = ℕ} 0 1 = cc in let w : ⊥ = omega arith in w)

  reaches-survivor : (s : Result Moment Refusal) (i : ℕ) (t : LostTally) (f : Stop) → then s (λ m. stop t i (Some m)) ≡ Ok f → i ≤ f.place
  reaches-survivor (Ok m) i t f e = let z : i ≡ f.place = cc in omega arith
  reaches-survivor (Err why) i t f e = absurd (let z : ◌≡◌ {A = ℕ} 0 1 = cc in let w : ⊥ = omega arith in w)

  pub reaches : (i : ℕ) (l : List Sent) (t : LostTally) (f : Stop) → seek j i l t ≡ Ok f → i ≤ f.place
  unfolding seek seek_by
  reaches i [] t f e = let z : i ≡ f.place = cc in omega arith
  reaches i (r ∷ l) t f e = go (λ u g q. reaches (i + 1) l u g q) (ltb j.largest r.number) (standing r) (is_lost j r) e
    where
      go : ((u : LostTally) (g : Stop) → seek j (i + 1) l u ≡ Ok g → i + 1 ≤ g.place) →
          (a b v : Bool) → seek_by a b v j i r t (seek j (i + 1) l) ≡ Ok f → i ≤ f.place
      go ih true b v e = let z : i ≡ f.place = cc in omega arith
      go ih false false v e = omega (arith, ih t f e)
      go ih false true false e = reaches-survivor (later_of r.time_sent j.delay) i t f e
      go ih false true true e = omega (arith, reaches-weighed (loss_weighed r t) (seek j (i + 1) l) (i + 1) ih f e)

-- the records after the first one, which is at place i, are split already
module _ (j : Judge) (K : Lost → Result loss.Detected Refusal) (Z : LostTally → Result Stop Refusal) (i : ℕ) (l : List Sent)
    (ih : (s : Lost) → K s ≡ finish_lost (Z (short_lost s)) (i + 1) j.now l s.queue)
    (far : (t : LostTally) (f : Stop) → Z t ≡ Ok f → i + 1 ≤ f.place) where
  -- the first record is passed: not standing, it stays; standing, it is lost
  passed-kept : (r : Sent) (q : List ℕ) (x : Result Stop Refusal) → standing r ≡ false → ((f : Stop) → x ≡ Ok f → i + 1 ≤ f.place) →
      then (finish_lost x (i + 1) j.now l q) (λ d. Ok (keep_detected r d)) ≡ finish_lost x i j.now (r ∷ l) q
  unfolding finish_lost keep_detected lost_all standing_of
  passed-kept r q (Ok f) st ge =
      let n : f.place - i ≡ suc (f.place - (i + 1)) = omega (arith, ge f refl) in
      rw (n, st) refl
  passed-kept r q (Err n) st ge = refl

  passed-lost : (r : Sent) (p q : List ℕ) (x : Result Stop Refusal) → p ≡ q ++ handles_of (r ∷ []) → standing r ≡ true → ((f : Stop) → x ≡ Ok f → i + 1 ≤ f.place) →
      then (finish_lost x (i + 1) j.now l p) (λ d. Ok (keep_detected (marked r false (Some j.now)) d))
      ≡ finish_lost x i j.now (r ∷ l) q
  unfolding finish_lost keep_detected lost_all standing_of
  passed-lost r p q (Ok f) e st ge =
      let n : f.place - i ≡ suc (f.place - (i + 1)) = omega (arith, ge f refl) in
      rw (
        e,
        n,
        st,
        append_assoc q (handles_of (r ∷ [])) (handles_of (standing_of (take (f.place - (i + 1)) l))),
        ← handles-cons r (standing_of (take (f.place - (i + 1)) l)),
      ) refl
  passed-lost r p q (Err n) e st ge = refl

  -- a standing record is lost, by its probe and in-flight flags
  module _ (r : Sent) (st : standing r ≡ true) (s : Lost) where
    abbrev losing : Lost → Result loss.Detected Refusal
    losing t = then (K t) (λ d. Ok (keep_detected (marked r false (Some j.now)) d))

    lost-on : (t : Lost) → t.queue ≡ s.queue ++ handles_of (r ∷ []) → losing t ≡ finish_lost (Z (short_lost t)) i j.now (r ∷ l) s.queue
    lost-on t e =
        ap (λ (x : Result loss.Detected Refusal). then x (λ d. Ok (keep_detected (marked r false (Some j.now)) d))) (ih t)
        ∙ passed-lost r t.queue s.queue (Z (short_lost t)) e st (far (short_lost t))

    by_kind : (hs : List ℕ) → hs ≡ s.queue ++ handles_of (r ∷ []) → (probe flight : Bool) (a b : Result ℕ Refusal) →
        then
        (cond probe
        (cond flight (then a λ n. Ok (record { queue = hs; packets = s.packets; bytes = s.bytes; probe_bytes = n; in_flight = s.in_flight - 1; last = s.last }))
        (Ok (record { queue = hs; packets = s.packets; bytes = s.bytes; probe_bytes = s.probe_bytes; in_flight = s.in_flight; last = s.last })))
        (cond flight
        (then b λ n. Ok (record { queue = hs; packets = s.packets + 1; bytes = n; probe_bytes = s.probe_bytes; in_flight = s.in_flight - 1; last = Some r.time_sent }))
        (Ok (record { queue = hs; packets = s.packets + 1; bytes = s.bytes; probe_bytes = s.probe_bytes; in_flight = s.in_flight; last = s.last }))))
        losing
        ≡ finish_lost
        (then
        (cond probe
        (cond flight (then a λ n. Ok (lost_tally (length hs) s.packets s.bytes n (s.in_flight - 1) s.last))
        (Ok (lost_tally (length hs) s.packets s.bytes s.probe_bytes s.in_flight s.last)))
        (cond flight (then b λ n. Ok (lost_tally (length hs) (s.packets + 1) n s.probe_bytes (s.in_flight - 1) (Some r.time_sent)))
        (Ok (lost_tally (length hs) (s.packets + 1) s.bytes s.probe_bytes s.in_flight s.last))))
        Z)
        i j.now (r ∷ l) s.queue
    unfolding finish_lost
    by_kind hs e true true (Ok n) b = lost-on _ e
    by_kind hs e true true (Err why) b = refl
    by_kind hs e true false a b = lost-on _ e
    by_kind hs e false true a (Ok n) = lost-on _ e
    by_kind hs e false true a (Err why) = refl
    by_kind hs e false false a b = lost-on _ e

    by-room : (z room : Bool) → eqb r.handle 0 ≡ z →
        then
        (cond z (cond r.is_pmtud_probe (lose_probe r s s.queue) (lose_packet r s s.queue))
        (cond room
        (cond r.is_pmtud_probe (lose_probe r s (s.queue ++ (r.handle ∷ []))) (lose_packet r s (s.queue ++ (r.handle ∷ []))))
        (Err Full)))
        losing
        ≡ finish_lost
        (then
        (then (cond z (Ok (length s.queue)) (cond room (Ok (length s.queue + 1)) (Err Full))) (λ q. weigh_kind r (record (short_lost s) { queued = q })))
        Z)
        i j.now (r ∷ l) s.queue
    unfolding finish_lost handles_of
    by-room true room e =
        by_kind s.queue (none e) r.is_pmtud_probe r.in_flight (sum_of s.probe_bytes r.size) (sum_of s.bytes r.size)
      where
        none : eqb r.handle 0 ≡ true → s.queue ≡ s.queue ++ handles_of (r ∷ [])
        none e = rw (e, append-nil) refl
    by-room false true e =
        let len : length (s.queue ++ (r.handle ∷ [])) ≡ length s.queue + 1 = length-append s.queue (r.handle ∷ []) in
        rw (← len)
        (by_kind (s.queue ++ (r.handle ∷ [])) (some e) r.is_pmtud_probe r.in_flight (sum_of s.probe_bytes r.size) (sum_of s.bytes r.size))
      where
        some : eqb r.handle 0 ≡ false → s.queue ++ (r.handle ∷ []) ≡ s.queue ++ handles_of (r ∷ [])
        some e = rw e refl
    by-room false false e = refl

  -- one record, by whether it is above the largest, standing, and lost
  by-record : (r : Sent) (s : Lost) (a b v : Bool) → standing r ≡ b →
      detect_by a b v j r l s K ≡ finish_lost (seek_by a b v j i r (short_lost s) Z) i j.now (r ∷ l) s.queue
  unfolding detect_by seek_by finish_lost lose loss_weighed queued_of lost_all standing_of handles_of
  by-record r s true b v st = rw (self i, append-nil) refl
  by-record r s false false v st =
      ap (λ (x : Result loss.Detected Refusal). then x (λ d. Ok (keep_detected r d))) (ih s)
      ∙ passed-kept r s.queue (Z (short_lost s)) st (far (short_lost s))
  by-record r s false true false st = go (later_of r.time_sent j.delay)
    where
      go : (x : Result Moment Refusal) →
          then x (λ t. Ok (record { records = r ∷ l; lost = s; loss_time = Some t }))
          ≡ finish_lost (then x (λ m. stop (short_lost s) i (Some m))) i j.now (r ∷ l) s.queue
      go (Ok m) = rw (self i, append-nil) refl
      go (Err why) = refl
  by-record r s false true true st = by-room r st s (eqb r.handle 0) (ltb (length s.queue) capacity) refl

-- a loss detection is its survey, its marks and its handles
pub split-loss : (j : Judge) (i : ℕ) (l : List Sent) (s : Lost) → detect j l s ≡ finish_lost (seek j i l (short_lost s)) i j.now l s.queue
unfolding detect seek finish_lost lost_all standing_of handles_of
split-loss j i [] s = rw (self i, append-nil) refl
split-loss j i (r ∷ l) s =
    by-record j (detect j l) (seek j (i + 1) l) i l (split-loss j (i + 1) l) (reaches j (i + 1) l) r s (ltb j.largest r.number) (standing r) (is_lost j r) refl

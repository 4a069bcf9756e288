-- Step 1's survey, record by record, with the sums as words hold them. Assumes nothing.
use mathlib.Core.Path.{◌≡◌, refl, ap, sym, ◌∙◌}
use mathlib.Core.Bool.{Bool, true, false, cond, ◌||◌, ◌&&◌, not}
use mathlib.Core.List.{List, [], ◌∷◌}
use mathlib.Core.Logic.{◌⊎◌, inl, inr}
use Prim.Native.Nat.{ℕ, ◌+◌, ◌-◌, ◌%◌, ◌≤◌, ◌<◌, min}
use native.Mathlib.Omega.{arith}
use lib.ListN.{length}
use Rattle.arith.specs.Whole.{sum_of}
use Rattle.arith.specs.Refusals.{then}
use Rattle.marks.specs.Marks.{held_at, is_newly, handles_of}
use Rattle.marks.specs.Survey.{queued_of, weigh_lost, newly_weighed, bytes_weighed, weigh_standing, weigh_by, weighed, survey}
use Rattle.marks.proofs.Rings.{held-rounds}
use Rattle.marks.proofs.Lost.{Queues, queues}
use Rattle.marks.specs.declared.Tally.{Tally}
use Rattle.model.specs.Numbers.{capacity, is_unset}
use Rattle.arith.specs.declared.refusal.Refusal.{Refusal}
use Rattle.model.specs.declared.Sent.{Sent}
use Rattle.records.specs.View.{ring}
use Rattle.records.proofs.Rings.{ring-step, ring-end}
use Rattle.acks.specs.Fitted.{fit_number, fit, fitted, fresh, Room}
use Rattle.std.specs.Prelude.{Result, Ok, Err, Option, Some, None}
use Rattle.arith.specs.declared.time.Moment.{Moment}

-- ---- what fits once fits

pub fit-number-twice : (d : Option ℕ) → fit_number (fit_number d) ≡ fit_number d
fit-number-twice None = refl
fit-number-twice (Some d) = let e : min (min d 18446744073709551615) 18446744073709551615 ≡ min d 18446744073709551615 = omega arith in rw e

-- ---- the first fitting does not show after the last

-- the records after the first one do not tell
module _ (Z : Tally → Result Tally Refusal) (ih : (t : Tally) → fitted (Z (fit t)) ≡ fitted (Z t)) where
  abbrev onward : Result Tally Refusal → Result Tally Refusal
  onward x = fitted (then x Z)

  same-lost : (largest : ℕ) (r : Sent) (t : Tally) (d : Option ℕ) → t.distance ≡ d → fitted (Z (weigh_lost largest r (fit t))) ≡ fitted (Z (weigh_lost largest r t))
  same-lost largest r t None e = rw e refl
  same-lost largest r t (Some d) e = rw e (ih _)

  same_bytes : (r : Sent) (t : Tally) (b : Bool) (s : Result ℕ Refusal) →
      onward (cond b (then s λ n. Ok (record (fit t) { acked_bytes = n; in_flight = t.in_flight - 1 })) (Ok (fit t)))
      ≡ onward (cond b (then s λ n. Ok (record t { acked_bytes = n; in_flight = t.in_flight - 1 })) (Ok t))
  same_bytes r t true (Ok n) = ih _
  same_bytes r t true (Err why) = refl
  same_bytes r t false s = ih _

  same-room : (i : ℕ) (r : Sent) (t : Tally) (x : Result ℕ Refusal) →
      onward (then x λ q. bytes_weighed r (newly_weighed i r q (fit t))) ≡ onward (then x λ q. bytes_weighed r (newly_weighed i r q t))
  same-room i r t (Ok q) = same_bytes r (newly_weighed i r q t) r.in_flight (sum_of t.acked_bytes r.size)
  same-room i r t (Err why) = refl

  same_by : (a : Bool) (lost : Option Moment) (largest i : ℕ) (r : Sent) (t : Tally) → onward (weigh_by a lost largest i r (fit t)) ≡ onward (weigh_by a lost largest i r t)
  unfolding weigh_by
  same_by true lost largest i r t = ih t
  same_by false (Some x) largest i r t = same-lost largest r t t.distance refl
  same_by false None largest i r t = same-room i r t (queued_of r.handle t.queued)

  same-one : (b : Bool) (largest i : ℕ) (r : Sent) (t : Tally) → onward (weighed b largest i r (fit t)) ≡ onward (weighed b largest i r t)
  unfolding weighed
  same-one true largest i r t = same_by r.acked r.time_lost largest i r t
  same-one false largest i r t = ih t

  fit-after : (x : Result Tally Refusal) → fitted (then x Z) ≡ then (fitted x) (λ u. fitted (Z u))
  fit-after (Ok t) = sym (ih t)
  fit-after (Err n) = refl

pub survey-fit : (largest i : ℕ) (bs : List Bool) (l : List Sent) (t : Tally) → fitted (survey largest i bs l (fit t)) ≡ fitted (survey largest i bs l t)
unfolding survey
survey-fit largest i [] l t = ap Ok (let e = fit-number-twice t.distance in rw e refl)
survey-fit largest i (b ∷ bs) [] t = ap Ok (let e = fit-number-twice t.distance in rw e refl)
survey-fit largest i (b ∷ bs) (r ∷ l) t = same-one (survey largest (i + 1) bs l) (survey-fit largest (i + 1) bs l) b largest i r t

-- one record, and the others
survey-first : (largest i : ℕ) (b : Bool) (bs : List Bool) (r : Sent) (l : List Sent) (t : Tally) →
    fitted (survey largest i (b ∷ bs) (r ∷ l) t) ≡ then (fitted (weighed b largest i r t)) (λ u. fitted (survey largest (i + 1) bs l u))
unfolding survey
survey-first largest i b bs r l t = fit-after (survey largest (i + 1) bs l) (survey-fit largest (i + 1) bs l) (weighed b largest i r t)

-- ---- a turn of the loop
module _ (f : ℕ → Bool) (g : ℕ → Sent) (largest i stop : ℕ) (t : Tally) {x : (Result Tally Refusal)}
    (inv : fitted (survey largest i (ring f i (stop - i)) (ring g i (stop - i)) t) ≡ x) where
  turn : i < stop → then (fitted (weighed (f i) largest i (g i) t)) (λ u. fitted (survey largest (i + 1) (ring f (i + 1) (stop - (i + 1))) (ring g (i + 1) (stop - (i + 1))) u)) ≡ x
  turn lt =
      let e : stop - i - 1 ≡ stop - (i + 1) = omega arith in
      sym (rw (ring-step f i (stop - i) (omega arith), ring-step g i (stop - i) (omega arith), e) (survey-first largest i (f i) _ (g i) _ t)) ∙ inv

  pub survey-on : i < stop → {u : Tally} → Ok u ≡ fitted (weighed (f i) largest i (g i) t) →
      fitted (survey largest (i + 1) (ring f (i + 1) (stop - (i + 1))) (ring g (i + 1) (stop - (i + 1))) u) ≡ x
  survey-on lt e = rw (← e) at (turn lt)

  pub survey-ends : i < stop → {n : Refusal} → Err n ≡ fitted (weighed (f i) largest i (g i) t) → Err n ≡ x
  survey-ends lt e = rw (← e) at (turn lt)

  pub survey-off : i < stop → f i ≡ false → fit_number t.distance ≡ t.distance →
      fitted (survey largest (i + 1) (ring f (i + 1) (stop - (i + 1))) (ring g (i + 1) (stop - (i + 1))) t) ≡ x
  unfolding weighed
  survey-off lt off short = rw (off, short) at (turn lt)

  pub survey-end : stop ≤ i → fit_number t.distance ≡ t.distance → Ok t ≡ x
  unfolding survey
  survey-end le short = rw (ring-end f i (stop - i) (omega arith), short) at inv

-- ---- what one record does to the sums

-- a newly acked record at place i
pub record Took (i : ℕ) (r : Sent) (t u : Tally) : Type 0 where
  pub queued : u.queued ≡ t.queued + length (handles_of (r ∷ []))
  pub room : t.queued ≤ capacity → u.queued ≤ capacity
  pub newly : u.newly ≡ t.newly + 1
  pub last : u.last ≡ i
  pub eliciting : u.eliciting ≡ (t.eliciting || r.ack_eliciting)

-- one that is not newly acked
pub record Kept (t u : Tally) : Type 0 where
  pub queued : u.queued ≡ t.queued
  pub newly : u.newly ≡ t.newly
  pub last : u.last ≡ t.last
  pub eliciting : u.eliciting ≡ t.eliciting

-- by whether it is newly acked
pub record One (largest i : ℕ) (r : Sent) (t : Tally) (w : Bool) (u : Tally) : Type 0 where
  pub counted : u.newly ≤ t.newly + 1
  pub spurious : u.spurious ≤ t.spurious + 1
  pub distance : (u.distance ≡ t.distance) ⊎ (u.distance ≡ Some (largest - r.number + 1))
  pub took : w ≡ true → Took i r t u
  pub kept : w ≡ false → Kept t u

never : {A : Type 0} → ◌≡◌ {A = Bool} true false → A
never e = absurd (let z : ◌≡◌ {A = ℕ} 0 1 = cc in let w : ⊥ = omega arith in w)

refused-fits : {A : Type 0} {u : Tally} {n : Refusal} → Ok u ≡ Err n → A
refused-fits e = absurd (let z : ◌≡◌ {A = ℕ} 0 1 = cc in let w : ⊥ = omega arith in w)

module _ (largest i : ℕ) (r : Sent) (t : Tally) where
  is : (w : Bool) {u v : Tally} → ◌≡◌ {A = Result Tally Refusal} (Ok u) (Ok v) → One largest i r t w v → One largest i r t w u
  is w {u} {v} e o = let z : u ≡ v = cc in rw z o

  one_kept : One largest i r t false t
  one_kept =
      record {
        counted = omega arith;
        spurious = omega arith;
        distance = inl refl;
        took = λ e. never (sym e);
        kept = λ e. record { queued = refl; newly = refl; last = refl; eliciting = refl };
      }

  one-lost : (d : Option ℕ) → t.distance ≡ d → One largest i r t false (weigh_lost largest r t)
  one-lost None e =
      record {
        counted = omega arith;
        spurious = omega arith;
        distance = inr (rw e refl);
        took = λ e. never (sym e);
        kept = λ e. record { queued = refl; newly = refl; last = refl; eliciting = refl };
      }
  one-lost (Some d) e =
      record {
        counted = omega arith;
        spurious = omega arith;
        distance = inl (rw e refl);
        took = λ e. never (sym e);
        kept = λ e. record { queued = refl; newly = refl; last = refl; eliciting = refl };
      }

  module _ (q : ℕ) (k : Queues r t.queued q) where
    one-took : (bytes in_flight : ℕ) → One largest i r t true (record (newly_weighed i r q t) { acked_bytes = bytes; in_flight = in_flight })
    one-took bytes in_flight =
        record {
          counted = omega arith;
          spurious = omega arith;
          distance = inl refl;
          took = λ e. record { queued = k.handles; room = k.room; newly = refl; last = refl; eliciting = refl };
          kept = λ e. never e;
        }

    one-bytes : (flight : Bool) (s : Result ℕ Refusal) {u : Tally} →
        Ok u ≡ cond flight (then s λ n. Ok (record (newly_weighed i r q t) { acked_bytes = n; in_flight = t.in_flight - 1 })) (Ok (newly_weighed i r q t)) →
        One largest i r t true u
    one-bytes true (Ok n) e = is true e (one-took n (t.in_flight - 1))
    one-bytes true (Err why) e = refused-fits e
    one-bytes false s e = is true e (one-took t.acked_bytes t.in_flight)

  one-room : (x : Result ℕ Refusal) → queued_of r.handle t.queued ≡ x → {u : Tally} →
      Ok u ≡ then x (λ q. bytes_weighed r (newly_weighed i r q t)) → One largest i r t true u
  one-room (Ok q) p e = one-bytes q (queues r t.queued q p) r.in_flight (sum_of t.acked_bytes r.size) e
  one-room (Err why) p e = refused-fits e

  one-by : (a : Bool) (lost : Option Moment) {u : Tally} → Ok u ≡ weigh_by a lost largest i r t → One largest i r t (not a && is_unset lost) u
  unfolding weigh_by
  one-by true lost e = is false e one_kept
  one-by false (Some x) e = is false e (one-lost t.distance refl)
  one-by false None e = one-room (queued_of r.handle t.queued) refl e

  pub one : (b : Bool) {u : Tally} → Ok u ≡ weighed b largest i r t → One largest i r t (is_newly b r) u
  unfolding weighed
  one true e = one-by r.acked r.time_lost e
  one false e = is false e one_kept

-- ---- as words hold them

-- the sums that a word's distance stands for
pub record Back (x : Result Tally Refusal) (u : Tally) : Type 0 where
  pub tally : Tally
  pub fits : Ok tally ≡ x
  pub short : u ≡ fit tally

pub back : (x : Result Tally Refusal) {u : Tally} → Ok u ≡ fitted x → Back x u
back (Ok v) {u} e = record { tally = v; fits = refl; short = let z : u ≡ fit v = cc in z }
back (Err n) e = refused-fits e

pub back-refused : (x : Result Tally Refusal) {n : Refusal} → Err n ≡ fitted x → Err n ≡ x
back-refused (Ok v) e = refused-fits (sym e)
back-refused (Err m) e = e

-- each count rises by one at most, and the distance is one that a word holds
pub record Grows (t u : Tally) : Type 0 where
  pub newly : u.newly ≤ t.newly + 1
  pub spurious : u.spurious ≤ t.spurious + 1
  pub distance : fit_number u.distance ≡ u.distance

pub grows : (b : Bool) (largest i : ℕ) (r : Sent) (t : Tally) {u : Tally} → Ok u ≡ fitted (weighed b largest i r t) → Grows t u
grows b largest i r t {u} e =
    let k = back (weighed b largest i r t) e in
    let o = one largest i r t b k.fits in
    rw k.short (record { newly = o.counted; spurious = o.spurious; distance = fit-number-twice k.tally.distance })

-- ---- the loop over the records

-- the first i places are done
pub record Meeting (f : ℕ → Bool) (g : ℕ → Sent) (largest stop : ℕ) (t₀ : Tally) (i : ℕ) (t : Tally) : Type 0 where
  pub within : i ≤ stop
  pub newly : t.newly ≤ i
  pub spurious : t.spurious ≤ i
  pub distance : fit_number t.distance ≡ t.distance
  pub same : fitted (survey largest i (ring f i (stop - i)) (ring g i (stop - i)) t) ≡ fitted (survey largest 0 (ring f 0 stop) (ring g 0 stop) t₀)

pub meeting_none : (f : ℕ → Bool) (g : ℕ → Sent) (largest stop queued in_flight : ℕ) → Meeting f g largest stop (fresh queued in_flight) 0 (fresh queued in_flight)
meeting_none f g largest stop queued in_flight =
    record {
      within = omega arith;
      newly = omega arith;
      spurious = omega arith;
      distance = refl;
      same = let e : stop - 0 ≡ stop = omega arith in rw e refl;
    }

module _ {f : ℕ → Bool} {g : ℕ → Sent} {largest stop : ℕ} {t₀ : Tally} {i : ℕ} {t : Tally} (m : Meeting f g largest stop t₀ i t) where
  pub meeting_room : i < stop → stop ≤ capacity → Room t
  meeting_room lt le = record { newly = omega (arith, m.newly); spurious = omega (arith, m.spurious); distance = m.distance }

  pub meeting_on : i < stop → f i ≡ true → {r : Sent} {u : Tally} → r ≡ g i → Ok u ≡ fitted (weighed true largest i r t) → Meeting f g largest stop t₀ (i + 1) u
  meeting_on lt on {r} {u} a b =
      let e : Ok u ≡ fitted (weighed true largest i (g i) t) = b ∙ rw a refl in
      let k = grows true largest i (g i) t e in
      record {
        within = omega arith;
        newly = omega (arith, m.newly, k.newly);
        spurious = omega (arith, m.spurious, k.spurious);
        distance = k.distance;
        same = survey-on f g largest i stop t m.same lt (rw on e);
      }

  pub meeting_off : i < stop → f i ≡ false → Meeting f g largest stop t₀ (i + 1) t
  meeting_off lt off =
      record {
        within = omega arith;
        newly = omega (arith, m.newly);
        spurious = omega (arith, m.spurious);
        distance = m.distance;
        same = survey-off f g largest i stop t m.same lt off m.distance;
      }

  pub meeting_ends : i < stop → f i ≡ true → {r : Sent} {x : Refusal} → r ≡ g i → Err x ≡ fitted (weighed true largest i r t) →
      Err x ≡ fitted (survey largest 0 (ring f 0 stop) (ring g 0 stop) t₀)
  meeting_ends lt on {r} {x} a b =
      let e : Err x ≡ fitted (weighed true largest i (g i) t) = b ∙ rw a refl in
      survey-ends f g largest i stop t m.same lt (rw on e)

  pub meeting_end : stop ≤ i → Ok t ≡ fitted (survey largest 0 (ring f 0 stop) (ring g 0 stop) t₀)
  meeting_end le = survey-end f g largest i stop t m.same le m.distance

-- places taken round, and as many as there are
pub meeting-round : (f : ℕ → Bool) (m : List ℕ) (n head largest stop s : ℕ) {t u : Tally} → stop ≡ s → t ≡ u →
    fitted (survey largest 0 (ring f 0 stop) (ring (held_at m n (head % capacity)) 0 stop) t) ≡ fitted (survey largest 0 (ring f 0 s) (ring (held_at m n head) 0 s) u)
meeting-round f m n head largest stop s a b = rw (a, b, held-rounds m n head 0 s) refl

-- ---- a distance as a word holds it

pub distance-one : (largest number : ℕ) → largest ≤ number → Some 1 ≡ fit_number (Some (largest - number + 1))
distance-one largest number le = let e : min (largest - number + 1) 18446744073709551615 ≡ 1 = omega arith in rw e

pub distance_most : (largest number : ℕ) → largest - number ≡ 18446744073709551615 → Some (largest - number) ≡ fit_number (Some (largest - number + 1))
distance_most largest number e = let f : min (largest - number + 1) 18446744073709551615 ≡ largest - number = omega arith in rw f

pub distance_is : (largest number : ℕ) → largest - number < 18446744073709551615 → Some (largest - number + 1) ≡ fit_number (Some (largest - number + 1))
distance_is largest number lt = let f : min (largest - number + 1) 18446744073709551615 ≡ largest - number + 1 = omega arith in rw f

-- ---- one record

-- what is not a first spurious record leaves the distance
pub bytes_fit : (r : Sent) (t : Tally) → fit_number t.distance ≡ t.distance → bytes_weighed r t ≡ fitted (bytes_weighed r t)
bytes_fit r t short = go r.in_flight (sum_of t.acked_bytes r.size)
  where
    go : (b : Bool) (s : Result ℕ Refusal) →
        cond b (then s λ n. Ok (record t { acked_bytes = n; in_flight = t.in_flight - 1 })) (Ok t)
        ≡ fitted (cond b (then s λ n. Ok (record t { acked_bytes = n; in_flight = t.in_flight - 1 })) (Ok t))
    go true (Ok n) = rw short refl
    go true (Err why) = refl
    go false s = rw short refl

pub standing-fit : (i : ℕ) (r : Sent) (t : Tally) → fit_number t.distance ≡ t.distance → weigh_standing i r t ≡ fitted (weigh_standing i r t)
standing-fit i r t short = go (queued_of r.handle t.queued)
  where
    go : (x : Result ℕ Refusal) → then x (λ q. bytes_weighed r (newly_weighed i r q t)) ≡ fitted (then x (λ q. bytes_weighed r (newly_weighed i r q t)))
    go (Ok q) = bytes_fit r (newly_weighed i r q t) short
    go (Err why) = refl

pub meets_standing : (largest i : ℕ) (r : Sent) (t : Tally) → fit_number t.distance ≡ t.distance → r.acked ≡ false → r.time_lost ≡ None →
    {x : (Result Tally Refusal)} → x ≡ weigh_standing i r t → x ≡ fitted (weighed true largest i r t)
unfolding weighed weigh_by
meets_standing largest i r t short p q e =
    e ∙ standing-fit i r t short
    ∙ ap fitted (sym (ap (λ (a : Bool). weigh_by a r.time_lost largest i r t) p ∙ ap (λ (x : Option Moment). weigh_by false x largest i r t) q))

-- A replay goes from offset to offset by what is found there: the model's replay, as a loop of `find`, an event, its line and `next`. Assumes nothing.
use mathlib.Core.Logic.{⊎_elim}
use mathlib.Core.Path.{◌≡◌, refl, ap, sym, ◌∙◌}
use mathlib.Core.Bool.{Bool, true, false, cond, ◌&&◌}
use mathlib.Core.List.{List, [], ◌∷◌}
use Prim.Native.Nat.{ℕ, zero, suc, ◌+◌, ◌-◌, ◌≤◌, ◌<◌}
use native.Mathlib.Nat.{eq-zero-or-pos}
use native.Mathlib.Omega.{arith}
use borrow.Author.Tests.{eqb-true}
use lib.Dec.{ltb, leb, eqb}
use lib.ListN.{length, take, drop, get_or, length-drop, drop_of_length-le}
use lib.Seq.{drop-drop}
use Rattle.arith.specs.Time.{moment}
use Rattle.model.specs.Connection.{Connection}
use Rattle.model.specs.Run as run
use Rattle.model.specs.Run.{step, state_by}
use Rattle.model.specs.Trace.{body_length, sent_of, ack_of, event_of, holding, field, status_of, Line, end, too_long, line_of, count_by, held_after, replayed, replay_by, replay_from, replay}
use Rattle.trace.specs.Says.{event_says}
use Rattle.trace.specs.Reading.{event_read, range_of, whole, found_by, found_at, kind_at, next_at, held_with, kept_by, goes_on, replay_at}
use Rattle.trace.specs.declared.Found.{Found}
use Rattle.trace.proofs.Standing.{opened, found-by, found-end, next-by}

-- ---- the event that was read is the model's, with the ranges held

module _ (held b : List ℕ) where
  abbrev picked : (t1 t3 t4 t5 t6 t7 t8 : Bool) (ranges : List ℕ) → run.Event
  picked t1 t3 t4 t5 t6 t7 t8 ranges =
      cond t1 (sent_of b)
      (cond t3 (ack_of ranges b)
      (cond t4 (run.timeout (moment (field b 0 8)) (status_of (field b 8 1)))
      (cond t5 (run.discarded (moment (field b 0 8)) (field b 8 1) (status_of (field b 9 1)))
      (cond t6 (run.size_change (field b 0 2))
      (cond t7 (run.take_acked (field b 0 1)) (cond t8 (run.take_lost (field b 0 1)) (run.ping (field b 0 1))))))))

  picked-says : (t1 t3 t4 t5 t6 t7 t8 : Bool) → event_says (event_read (picked t1 t3 t4 t5 t6 t7 t8 [])) held ≡ picked t1 t3 t4 t5 t6 t7 t8 held
  unfolding event_says event_read sent_of ack_of
  picked-says true t3 t4 t5 t6 t7 t8 = refl
  picked-says false true t4 t5 t6 t7 t8 = refl
  picked-says false false true t5 t6 t7 t8 = refl
  picked-says false false false true t6 t7 t8 = refl
  picked-says false false false false true t7 t8 = refl
  picked-says false false false false false true t8 = refl
  picked-says false false false false false false true = refl
  picked-says false false false false false false false = refl

  pub says-read : (kind : ℕ) → event_says (event_read (event_of kind [] b)) held ≡ event_of kind held b
  unfolding event_of
  says-read kind = picked-says (eqb kind 1) (eqb kind 3) (eqb kind 4) (eqb kind 5) (eqb kind 6) (eqb kind 7) (eqb kind 8)

  picked-keeps : (t1 t4 t5 t6 t7 t8 : Bool) → kept_by (event_read (picked t1 false t4 t5 t6 t7 t8 [])) held ≡ held
  unfolding kept_by event_read sent_of
  picked-keeps true t4 t5 t6 t7 t8 = refl
  picked-keeps false true t5 t6 t7 t8 = refl
  picked-keeps false false true t6 t7 t8 = refl
  picked-keeps false false false true t7 t8 = refl
  picked-keeps false false false false true t8 = refl
  picked-keeps false false false false false true = refl
  picked-keeps false false false false false false = refl

  keeps-by : (kind : ℕ) (t3 : Bool) → eqb kind 3 ≡ t3 → kept_by (event_read (event_of kind [] b)) held ≡ held_after kind held
  unfolding kept_by event_read event_of ack_of
  keeps-by kind true e = let k : kind ≡ 3 = eqb-true kind 3 e in rw k
  keeps-by kind false e = rw e (picked-keeps (eqb kind 1) (eqb kind 4) (eqb kind 5) (eqb kind 6) (eqb kind 7) (eqb kind 8))

  pub keeps-read : (kind : ℕ) → kept_by (event_read (event_of kind [] b)) held ≡ held_after kind held
  keeps-read kind = keeps-by kind (eqb kind 3) refl

  pub holds_read : held_with held (range_of b) ≡ holding held b
  unfolding held_with range_of holding
  holds_read = refl

-- ---- more fuel than bytes changes nothing

module _ (at kind : ℕ) (body : List ℕ) (c : Connection) (held : List ℕ) (n : ℕ) (go on : Connection → List ℕ → ℕ → List Line)
    (same : (d : Connection) (ranges : List ℕ) (m : ℕ) → go d ranges m ≡ on d ranges m) where
  by-same : (t range : Bool) → replay_by t range at kind body c held n go ≡ replay_by t range at kind body c held n on
  unfolding replay_by replayed
  by-same false range = refl
  by-same true true = same c (holding held body) n
  by-same true false =
      let r = step (event_of kind held body) c in
      ap (λ (l : List Line). line_of kind r (state_by c r) ∷ l) (same (state_by c r) (held_after kind held) (count_by r n))

fuel-none : (fuel at : ℕ) (c : Connection) (held : List ℕ) (n : ℕ) → replay_from fuel at [] c held n ≡ end n ∷ []
unfolding replay_from
fuel-none zero at c held n = refl
fuel-none (suc fuel) at c held n = refl

from_byte : (fuel at kind : ℕ) (more : List ℕ) (c : Connection) (held : List ℕ) (n : ℕ) →
    replay_from (suc fuel) at (kind ∷ more) c held n
    ≡ replay_by (whole kind more) (eqb kind 2) at kind (take (body_length kind) more) c held n
    (λ d ranges m. replay_from fuel (at + 1 + body_length kind) (drop (body_length kind) more) d ranges m)
unfolding replay_from whole
from_byte fuel at kind more c held n = refl

pub fuel-same : (f g at : ℕ) (l : List ℕ) (c : Connection) (held : List ℕ) (n : ℕ) → length l ≤ f → length l ≤ g → replay_from f at l c held n ≡ replay_from g at l c held n
unfolding replay_from
fuel-same zero g at [] c held n p q = sym (fuel-none g at c held n)
fuel-same zero g at (b ∷ l) c held n p q = absurd (let w : ⊥ = omega arith in w)
fuel-same (suc f) g at [] c held n p q = sym (fuel-none g at c held n)
fuel-same (suc f) zero at (b ∷ l) c held n p q = absurd (let w : ⊥ = omega arith in w)
fuel-same (suc f) (suc g) at (b ∷ l) c held n p q =
    by-same at b (take (body_length b) l) c held n
    (λ d ranges m. replay_from f (at + 1 + body_length b) (drop (body_length b) l) d ranges m)
    (λ d ranges m. replay_from g (at + 1 + body_length b) (drop (body_length b) l) d ranges m)
    (λ d ranges m. fuel-same f g (at + 1 + body_length b) (drop (body_length b) l) d ranges m (rw length-drop (omega arith)) (rw length-drop (omega arith)))
    (ltb 0 (body_length b) && leb (body_length b) (length l)) (eqb b 2)

-- ---- from an offset on

module _ (bytes : List ℕ) (at : ℕ) (c : Connection) (held : List ℕ) (n : ℕ) where
  -- from the next offset on
  abbrev on_from : ℕ → Connection → List ℕ → ℕ → List Line
  on_from fuel d ranges m = replay_from fuel (next_at bytes at) (drop (next_at bytes at) bytes) d ranges m

  module _ (lt : at < length bytes) (fuel g : ℕ) (fits : length bytes ≤ suc fuel + at) (more-fits : length bytes ≤ g) where
    abbrev kind : ℕ
    kind = get_or bytes at 0

    abbrev more : List ℕ
    more = drop (at + 1) bytes

    abbrev size : ℕ
    size = body_length kind

    same-on : whole kind more ≡ true → (d : Connection) (ranges : List ℕ) (m : ℕ) →
        replay_from fuel (at + 1 + size) (drop size more) d ranges m ≡ on_from g d ranges m
    same-on w d ranges m =
        let a : drop size more ≡ drop (at + 1 + size) bytes = drop-drop size (at + 1) bytes in
        rw (next-by bytes at lt w, a)
        (fuel-same fuel g (at + 1 + size) (drop (at + 1 + size) bytes) d ranges m (rw length-drop (omega arith)) (rw length-drop (omega arith)))

    by-found : (t range : Bool) → whole kind more ≡ t →
        replay_by t range at kind (take size more) c held n (λ d ranges m. replay_from fuel (at + 1 + size) (drop size more) d ranges m)
        ≡ goes_on (found_by t range kind (take size more)) at kind c held n (on_from g)
    unfolding replay_by replayed found_by goes_on
    by-found false range w = refl
    by-found true true w = rw (holds_read held (take size more)) (same-on w c (holding held (take size more)) n)
    by-found true false w =
        let r = step (event_of kind held (take size more)) c in
        rw (says-read held (take size more) kind, keeps-read held (take size more) kind)
        (ap (λ (l : List Line). line_of kind r (state_by c r) ∷ l) (same-on w (state_by c r) (held_after kind held) (count_by r n)))

    from_found : replay_from (suc fuel) at (drop at bytes) c held n ≡ goes_on (found_at bytes at) at kind c held n (on_from g)
    from_found =
        ap (λ (l : List ℕ). replay_from (suc fuel) at l c held n) (opened bytes at lt)
        ∙ (from_byte fuel at kind more c held n
        ∙ (by-found (whole kind more) (eqb kind 2) refl ∙ ap (λ (x : Found). goes_on x at kind c held n (on_from g)) (sym (found-by bytes at lt))))

  -- the lines from an offset on, by what is found there
  pub replay-on : replay_at bytes at c held n ≡ goes_on (found_at bytes at) at (kind_at bytes at) c held n (λ d ranges m. replay_at bytes (next_at bytes at) d ranges m)
  unfolding replay_at goes_on
  replay-on = ⊎_elim past inside (eq-zero-or-pos (length bytes - at))
    where
      past : length bytes - at ≡ 0 → replay_from (length bytes) at (drop at bytes) c held n ≡ goes_on (found_at bytes at) at (get_or bytes at 0) c held n (on_from (length bytes))
      past z =
          let le : length bytes ≤ at = omega arith in
          ap (λ (l : List ℕ). replay_from (length bytes) at l c held n) (drop_of_length-le bytes le)
          ∙ (fuel-none (length bytes) at c held n ∙ ap (λ (x : Found). goes_on x at (get_or bytes at 0) c held n (on_from (length bytes))) (found-end bytes at le))

      inside : 0 < length bytes - at → replay_from (length bytes) at (drop at bytes) c held n ≡ goes_on (found_at bytes at) at (get_or bytes at 0) c held n (on_from (length bytes))
      inside pos =
          let lt : at < length bytes = omega arith in
          let e : length bytes ≡ suc (length bytes - 1) = omega arith in
          ap (λ (f : ℕ). replay_from f at (drop at bytes) c held n) e
          ∙ from_found lt (length bytes - 1) (length bytes) (omega arith) (omega arith)

-- a trace over 65,536 bytes prints only `too long`; any other is replayed from offset 0 on, with nothing held
pub replay-whole : (bytes : List ℕ) (c : Connection) → replay bytes c ≡ cond (ltb 65536 (length bytes)) (too_long ∷ []) (replay_at bytes 0 c [] 0)
unfolding replay replay_at
replay-whole bytes c = refl

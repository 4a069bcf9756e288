-- What each move leaves of the controller. Assumes nothing.
use mathlib.Core.Path.{◌≡◌, refl, ap, sym, ◌∙◌, subst}
use mathlib.Core.Bool.{Bool, true, false, cond, ◌&&◌, not}
use Prim.Native.Nat.{ℕ, ◌+◌, ◌-◌, ◌*◌, ◌/◌, ◌≤◌, ◌<◌, ◌^◌, max}
use native.Mathlib.Omega.{arith}
use lib.Dec.{T, leb, ltb, eqb, eqb→eq}
use borrow.Author.Tests.{ltb-true}
use lib.Ieee.{Float, lt}
use Rattle.arith.specs.Whole.{limit, within, sum_of, times_of}
use Rattle.arith.specs.Time.{since_of, span_sum_of}
use Rattle.arith.specs.Round.{float_of, truncated_of, seconds_of}
use Rattle.arith.specs.declared.time.Moment.{Moment}
use Rattle.arith.specs.declared.time.Span.{Span}
use Rattle.arith.specs.Refusals.{then}
use Rattle.model.specs.Numbers.{reach_window, is_unset}
use Rattle.model.specs.Cubic.{alpha_aimd, times_beta, w_max_next, k_next, curve, in_recovery, checkpoint, rolls_back, rolled_back, rollback, reduce, congestion_event, count_lost, grown, by_datagram, slow_start, start_of, begun, target_of, estimated, aimed_at, avoidance, few_lost, grow, acked_outside, packet_acked, resized}
use Rattle.model.specs.Control.{Move, forgive, lose, count, ack, resize, moved}
use Rattle.model.specs.History.{opens, few, asks, succeeds, keeps_size}
use Rattle.model.specs.declared.Congestion.{Congestion}
use Rattle.model.specs.declared.Cubic.{Cubic}
use Rattle.model.proofs.Peel.{All, all-is, all_then, all-cond, all-reach, all-window, no_value}
use Rattle.std.specs.Prelude.{Result, Ok, Err, Option, Some}
use Rattle.arith.specs.declared.refusal.Refusal.{Refusal}
use Rattle.arith.specs.declared.refusal.Refusal.TheVariants.{TooLarge}

-- growth keeps the checkpoint and the threshold, lowers no window and lets none pass 2^30
pub record Grows (g h : Congestion) : Type 0 where
  pub prior : h.prior ≡ g.prior
  pub thresh : h.ssthresh ≡ g.ssthresh
  pub window : g.congestion_window ≤ h.congestion_window
  pub bound : g.congestion_window ≤ 2 ^ 30 → h.congestion_window ≤ 2 ^ 30

grows_same : (g : Congestion) → Grows g g
grows_same g = record { prior = refl; thresh = refl; window = omega arith; bound = λ x. x }

module _ (g : Congestion) where
  -- whole datagrams only move the window on
  grows-datagram : (size waiting : ℕ) (f : ℕ → ℕ → Result Congestion Refusal) →
      ((w left : ℕ) → g.congestion_window ≤ w → (g.congestion_window ≤ 2 ^ 30 → w ≤ 2 ^ 30) → All (Grows g) (f w left)) → All (Grows g) (by_datagram size g.congestion_window waiting f)
  grows-datagram size waiting f h =
      all-cond (Grows g) (leb size waiting) _ _
      (λ e. all-window (Grows g) (g.congestion_window + size) (λ w. f w (waiting - size)) (λ le. h (g.congestion_window + size) (waiting - size) (omega arith) (λ x. le)))
      (λ e. h g.congestion_window waiting (omega arith) (λ x. x))

  abbrev grown_by : Option Moment → Cubic → ℕ → ℕ → Result Congestion Refusal
  grown_by start q w left = Ok (grown g w left start q)

  grows-grown : (start : Option Moment) (q : Cubic) (w left : ℕ) → g.congestion_window ≤ w → (g.congestion_window ≤ 2 ^ 30 → w ≤ 2 ^ 30) → All (Grows g) (Ok (grown g w left start q))
  grows-grown start q w left le max = all-is (Grows g) (grown g w left start q) (record { prior = refl; thresh = refl; window = le; bound = max })

  grows-slow : (acked : ℕ) → All (Grows g) (slow_start acked g)
  unfolding slow_start
  grows-slow acked =
      all-reach (Grows g) (sum_of g.bytes_acked_sl acked)
      (λ waiting. by_datagram g.max_datagram_size g.congestion_window waiting (grown_by g.congestion_recovery_start_time g.cubic))
      λ waiting.
      grows-datagram g.max_datagram_size waiting (grown_by g.congestion_recovery_start_time g.cubic)
      (grows-grown g.congestion_recovery_start_time g.cubic)

  -- what the window aims at leaves the rest to what follows
  aimed-all : (q : Cubic) (window size : ℕ) (t : Span) (target : ℕ) (f : ℕ → Result Congestion Refusal) → ((n : ℕ) → All (Grows g) (f n)) → All (Grows g) (aimed_at q window size t target f)
  unfolding aimed_at
  aimed-all q window size t target f h = go (lt (curve (seconds_of t) q.k q.w_max (float_of size)) q.w_est)
    where
      go : (b : Bool) → All (Grows g) (cond b (f (max window (truncated_of q.w_est))) (then (times_of size (target - window)) λ step. then (sum_of window (step / window)) f))
      go true = h (max window (truncated_of q.w_est))
      go false =
          all-reach (Grows g) (times_of size (target - window)) (λ step. then (sum_of window (step / window)) f) λ step.
          all-reach (Grows g) (sum_of window (step / window)) f h

  grows-avoid : (now : Moment) (acked : ℕ) (min_rtt : Span) → All (Grows g) (avoidance now acked min_rtt g)
  unfolding avoidance
  grows-avoid now acked min_rtt =
      all-reach (Grows g) (span_sum_of t min_rtt) (λ later. then (estimated acked window size q) (λ e. on-estimate later e)) λ later.
      all_then (Grows g) (estimated acked window size q) (λ e. on-estimate later e) λ e x.
      aimed-all e window size t (target_of q window size later) (λ aim. on-aim e aim) λ aim.
      all-reach (Grows g) (sum_of e.cwnd_inc (aim - window)) (λ waiting. by_datagram size window waiting (ends_with e)) λ waiting.
      grows-datagram size waiting (ends_with e) (λ w left le max. all-is (Grows g) _ (record { prior = refl; thresh = refl; window = le; bound = max }))
    where
      window : ℕ
      window = g.congestion_window

      size : ℕ
      size = g.max_datagram_size

      t : Span
      t = since_of now (start_of g.congestion_recovery_start_time now)

      q : Cubic
      q = begun g.congestion_recovery_start_time window g.cubic

      ends_with : Cubic → ℕ → ℕ → Result Congestion Refusal
      ends_with e next left =
          Ok
          (grown g next g.bytes_acked_sl (Some (start_of g.congestion_recovery_start_time now))
          (record { k = e.k; w_max = e.w_max; w_est = e.w_est; alpha_aimd = e.alpha_aimd; cwnd_inc = left }))

      on-aim : Cubic → ℕ → Result Congestion Refusal
      on-aim e aim = then (sum_of e.cwnd_inc (aim - window)) (λ waiting. by_datagram size window waiting (ends_with e))

      on-estimate : Span → Cubic → Result Congestion Refusal
      on-estimate later e = aimed_at e window size t (target_of q window size later) (on-aim e)

  grows-grow : (now : Moment) (acked : ℕ) (min_rtt : Span) → All (Grows g) (grow now acked min_rtt g)
  unfolding grow
  grows-grow now acked min_rtt =
      all-cond (Grows g) (ltb g.congestion_window g.ssthresh) (slow_start acked g) (avoidance now acked min_rtt g) (λ e. grows-slow acked) (λ e. grows-avoid now acked min_rtt)

-- ---- the facts of one move that is made
pub record Made (g : Congestion) (m : Move) (h : Congestion) : Type 0 where
  -- a period's beginning takes the checkpoint; nothing else touches it
  pub opened : opens g m ≡ true → h.prior ≡ checkpoint g
  pub kept : opens g m ≡ false → h.prior ≡ g.prior
  -- a rollback that succeeds restores what the checkpoint has
  pub rolled : succeeds g m ≡ true → h ≡ rolled_back g
  -- only a period's beginning or a size change lowers the window
  pub window : opens g m ≡ false → keeps_size m ≡ true → g.congestion_window ≤ h.congestion_window
  -- beside a period's beginning and a rollback nothing touches the threshold, and no window passes 2^30
  pub thresh : opens g m ≡ false → succeeds g m ≡ false → h.ssthresh ≡ g.ssthresh
  pub bound : opens g m ≡ false → succeeds g m ≡ false → g.congestion_window ≤ 2 ^ 30 → h.congestion_window ≤ 2 ^ 30

clash : {A : Type 0} → true ≡ false → A
clash e = absurd (let z : ◌≡◌ {A = ℕ} 0 1 = cc in let w : ⊥ = omega arith in w)

clash' : {A : Type 0} → false ≡ true → A
clash' e = clash (sym e)

second : (a b : Bool) → (a && b) ≡ true → b ≡ true
second true b e = e
second false b e = clash' e

first : (a b : Bool) → (a && b) ≡ true → a ≡ true
first true b e = refl
first false b e = clash' e

times-is : (a b n : ℕ) → times_of a b ≡ Ok n → n ≡ a * b
unfolding times_of within
times-is a b n = go (leb (a * b) limit)
  where
    go : (t : Bool) → cond t (Ok (a * b)) (Err TooLarge) ≡ Ok n → n ≡ a * b
    go true e = cc
    go false e = absurd (let z : ◌≡◌ {A = ℕ} 0 1 = cc in let w : ⊥ = omega arith in w)

-- where rollbacks succeed, the window rises
pub rises : (g : Congestion) → rolls_back g ≡ true → g.congestion_window < g.prior.congestion_window
unfolding rolls_back
rises g e = ltb-true _ _ (second (not (ltb g.prior.congestion_window g.prior.ssthresh)) _ e)

module _ (g : Congestion) where
  made-forgive : Made g forgive (rollback g)
  unfolding opens rollback rolled_back asks keeps_size
  made-forgive = go (rolls_back g) refl
    where
      go : (b : Bool) → rolls_back g ≡ b → Made g forgive (cond b (rolled_back g) g)
      go true e = record { opened = λ p. clash' p; kept = λ p. refl; rolled = λ p. refl; window = λ p q. omega (arith, rises g e); thresh = λ p q. clash (sym e ∙ q); bound = λ p q. clash (sym e ∙ q) }
      go false e = record { opened = λ p. clash' p; kept = λ p. refl; rolled = λ p. clash' (sym e ∙ p); window = λ p q. omega arith; thresh = λ p q. refl; bound = λ p q x. x }

  -- a reduction has taken the checkpoint
  reduced : (now : Moment) (P : Congestion → Type 0) → ((h : Congestion) → h.prior ≡ checkpoint g → P h) → All P (reduce now g)
  unfolding reduce
  reduced now P f =
      all-reach P (times_of g.max_datagram_size 2) (λ least. reach_window (max (times_beta g.congestion_window) least) on-window) λ least.
      all-window P (max (times_beta g.congestion_window) least) on-window λ most.
      all_then P (k_next w_max (max (times_beta g.congestion_window) least) g.max_datagram_size) _ λ k e. all-is P _ (f _ refl)
    where
      w_max : Float
      w_max = w_max_next g.congestion_window g.cubic.w_max

      on-window : ℕ → Result Congestion Refusal
      on-window window =
          then (k_next w_max window g.max_datagram_size) λ k.
          Ok
          (record {
            congestion_window = window;
            ssthresh = window;
            bytes_acked_sl = g.bytes_acked_sl;
            congestion_recovery_start_time = Some now;
            lost_count = g.lost_count;
            cubic = record { k = k; w_max = w_max; w_est = float_of window; alpha_aimd = alpha_aimd; cwnd_inc = times_beta g.cubic.cwnd_inc };
            prior = checkpoint g;
            max_datagram_size = g.max_datagram_size;
            initial_window_packets = g.initial_window_packets;
          })

  made-lose : (now sent : Moment) → All (Made g (lose now sent)) (congestion_event now sent g)
  unfolding congestion_event opens asks
  made-lose now sent = go (in_recovery g.congestion_recovery_start_time sent) refl
    where
      begun-by : in_recovery g.congestion_recovery_start_time sent ≡ false → (h : Congestion) → h.prior ≡ checkpoint g → Made g (lose now sent) h
      begun-by e h p =
          let o : not (in_recovery g.congestion_recovery_start_time sent) ≡ true = ap not e in
          record { opened = λ x. p; kept = λ x. clash (sym o ∙ x); rolled = λ x. clash' x; window = λ x y. clash (sym o ∙ x); thresh = λ x y. clash (sym o ∙ x); bound = λ x y. clash (sym o ∙ x) }

      go : (b : Bool) → in_recovery g.congestion_recovery_start_time sent ≡ b → All (Made g (lose now sent)) (cond b (Ok g) (reduce now g))
      go true e =
          let o : not (in_recovery g.congestion_recovery_start_time sent) ≡ false = ap not e in
          all-is (Made g (lose now sent)) g (record { opened = λ x. clash (sym x ∙ o); kept = λ x. refl; rolled = λ x. clash' x; window = λ x y. omega arith; thresh = λ x y. refl; bound = λ x y z. z })
      go false e = reduced now (Made g (lose now sent)) (begun-by e)

  made-count : (n : ℕ) → All (Made g (count n)) (count_lost n g)
  unfolding count_lost opens asks
  made-count n =
      all-reach (Made g (count n)) (sum_of g.lost_count n) _ λ total.
      all-is (Made g (count n)) _ (record { opened = λ x. clash' x; kept = λ x. refl; rolled = λ x. clash' x; window = λ x y. omega arith; thresh = λ x y. refl; bound = λ x y z. z })

  -- growth, where no rollback succeeds
  module _ (now sent : Moment) (size : ℕ) (limited : Bool) (min_rtt : Span) where
    abbrev acking : Move
    acking = ack now sent size limited min_rtt

    grown-move : succeeds g acking ≡ false → (h : Congestion) → Grows g h → Made g acking h
    unfolding opens
    grown-move down h w = record { opened = λ x. clash' x; kept = λ x. w.prior; rolled = λ x. clash (sym x ∙ down); window = λ x y. w.window; thresh = λ x y. w.thresh; bound = λ x y. w.bound }

    same_move : succeeds g acking ≡ false → All (Made g acking) (Ok g)
    same_move down = all-is (Made g acking) g (grown-move down g (grows_same g))

    grow-move : succeeds g acking ≡ false → All (Made g acking) (grow now size min_rtt g)
    grow-move down h e = grown-move down h (grows-grow g now size min_rtt h e)

    made-outside : in_recovery g.congestion_recovery_start_time sent ≡ false → limited ≡ false → All (Made g acking) (acked_outside now size min_rtt g)
    unfolding acked_outside few_lost asks few opens
    made-outside out free = go (is_unset g.congestion_recovery_start_time) refl
      where
        on-few : Bool → Result Congestion Refusal
        on-few b = cond (b && rolls_back g) (Ok (rolled_back g)) (grow now size min_rtt g)

        done : is_unset g.congestion_recovery_start_time ≡ false → few g ≡ true → rolls_back g ≡ true → succeeds g acking ≡ true
        done set f r = rw (out, free, set, f, r) refl

        tested : is_unset g.congestion_recovery_start_time ≡ false → (b : Bool) → few g ≡ b → (c : Bool) → rolls_back g ≡ c →
            All (Made g acking) (cond (b && c) (Ok (rolled_back g)) (grow now size min_rtt g))
        tested set true f true r =
            all-is (Made g acking) (rolled_back g)
            (record {
              opened = λ x. clash' x;
              kept = λ x. refl;
              rolled = λ x. refl;
              window = λ x y. omega (arith, rises g r);
              thresh = λ x y. clash (sym (done set f r) ∙ y);
              bound = λ x y. clash (sym (done set f r) ∙ y);
            })
        tested set true f false r = grow-move (rw (out, free, set, f, r) refl)
        tested set false f c r = grow-move (rw (out, free, set, f) refl)

        go : (u : Bool) → is_unset g.congestion_recovery_start_time ≡ u →
            All (Made g acking) (cond u (grow now size min_rtt g) (then (times_of (g.congestion_window / g.max_datagram_size) 20) λ n. on-few (ltb (g.lost_count - g.prior.lost_count) (max (n / 100) 2))))
        go true u = grow-move (rw (out, free, u) refl)
        go false u =
            all_then (Made g acking) (times_of (g.congestion_window / g.max_datagram_size) 20)
            (λ n. on-few (ltb (g.lost_count - g.prior.lost_count) (max (n / 100) 2))) λ n e.
            rw (times-is (g.congestion_window / g.max_datagram_size) 20 n e) (tested u (few g) refl (rolls_back g) refl)

    made-ack : All (Made g acking) (packet_acked now sent size limited min_rtt g)
    unfolding packet_acked asks
    made-ack = go (in_recovery g.congestion_recovery_start_time sent) refl limited refl
      where
        go : (a : Bool) → in_recovery g.congestion_recovery_start_time sent ≡ a → (b : Bool) → limited ≡ b →
            All (Made g acking) (cond a (Ok g) (cond b (Ok g) (acked_outside now size min_rtt g)))
        go true e b f = same_move (rw e refl)
        go false e true f = same_move (rw (e, f) refl)
        go false e false f = made-outside e f

  made-resize : (old new : ℕ) → All (Made g (resize old new)) (resized old new g)
  unfolding resized opens asks keeps_size
  made-resize old new =
      all_then (Made g (resize old new)) (times_of old g.initial_window_packets) by_size λ before e.
      all-cond (Made g (resize old new)) (eqb g.congestion_window before) to-new (Ok g)
      (λ same.
      all_then (Made g (resize old new)) (times_of new g.initial_window_packets) (λ n. reach_window n on-window) λ n f.
      all-window (Made g (resize old new)) n on-window λ max.
      all-is (Made g (resize old new)) (grown g n g.bytes_acked_sl g.congestion_recovery_start_time g.cubic)
      (record {
        opened = λ x. clash' x;
        kept = λ x. refl;
        rolled = λ x. clash' x;
        window = λ x y. still before n (times-is old g.initial_window_packets before e) (times-is new g.initial_window_packets n f) (eqb→eq g.congestion_window before (subst T (sym same) tt)) (eqb→eq old new (subst T (sym y) tt));
        thresh = λ x y. refl;
        bound = λ x y z. max;
      }))
      (λ other.
      all-is (Made g (resize old new)) g
      (record { opened = λ x. clash' x; kept = λ x. refl; rolled = λ x. clash' x; window = λ x y. omega arith; thresh = λ x y. refl; bound = λ x y z. z }))
    where
      on-window : ℕ → Result Congestion Refusal
      on-window w = Ok (grown g w g.bytes_acked_sl g.congestion_recovery_start_time g.cubic)

      to-new : Result Congestion Refusal
      to-new = then (times_of new g.initial_window_packets) λ n. reach_window n on-window

      by_size : ℕ → Result Congestion Refusal
      by_size before = cond (eqb g.congestion_window before) to-new (Ok g)

      still : (before n : ℕ) → before ≡ old * g.initial_window_packets → n ≡ new * g.initial_window_packets → g.congestion_window ≡ before → old ≡ new →
          g.congestion_window ≤ n
      still before n a b c d = let z : g.congestion_window ≡ n = cc in omega arith

  -- every move that is made
  pub made : (m : Move) → All (Made g m) (moved m g)
  unfolding moved
  made forgive = all-is (Made g forgive) (rollback g) made-forgive
  made (lose now sent) = made-lose now sent
  made (count n) = made-count n
  made (ack now sent size limited min_rtt) = made-ack now sent size limited min_rtt
  made (resize old new) = made-resize old new

both : (a b : Bool) → (a && b) ≡ true → (a ≡ true) × (b ≡ true)
both true b e = (refl, e)
both false b e = clash' e

flip : (a : Bool) → not a ≡ true → a ≡ false
flip true e = clash' e
flip false e = refl

-- an ack whose rollback is asked for and turned down goes on as growth alone
module _ (g : Congestion) (now sent : Moment) (size : ℕ) (limited : Bool) (min_rtt : Span) (h : Congestion) where
  declined : (r : Bool) → r ≡ false → (x : Result ℕ Refusal) (t : ℕ → Bool) → then x (λ n. cond (t n && r) (Ok (rolled_back g)) (grow now size min_rtt g)) ≡ Ok h →
      grow now size min_rtt g ≡ Ok h
  declined true e x t w = clash e
  declined false e (Ok n) t w = none (t n) w
    where
      none : (b : Bool) → cond (b && false) (Ok (rolled_back g)) (grow now size min_rtt g) ≡ Ok h → grow now size min_rtt g ≡ Ok h
      none true w = w
      none false w = w
  declined false e (Err why) t w = no_value w

  pub turned_down : asks g (ack now sent size limited min_rtt) ≡ true → succeeds g (ack now sent size limited min_rtt) ≡ false →
      moved (ack now sent size limited min_rtt) g ≡ Ok h → grow now size min_rtt g ≡ Ok h
  unfolding moved packet_acked acked_outside few_lost asks
  turned_down q n w =
      let a = both (not (in_recovery g.congestion_recovery_start_time sent)) _ q in
      let b = both (not limited) _ a.1 in
      let d = both (not (is_unset g.congestion_recovery_start_time)) (few g) b.1 in
      let out = flip (in_recovery g.congestion_recovery_start_time sent) a.0 in
      let free = flip limited b.0 in
      let set = flip (is_unset g.congestion_recovery_start_time) d.0 in
      let no-roll : rolls_back g ≡ false = rw (out, free, set, d.1) at n in
      declined (rolls_back g) no-roll (times_of (g.congestion_window / g.max_datagram_size) 20)
      (λ n. ltb (g.lost_count - g.prior.lost_count) (max (n / 100) 2)) (rw (out, free, set) at w)

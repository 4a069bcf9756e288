-- The lost count rises by what the controller is told and by nothing else; the window goes up in slow start and down when a period begins. Assumes nothing.
use mathlib.Core.Path.{◌≡◌, refl, ap, sym, ◌∙◌}
use mathlib.Core.Bool.{Bool, true, false, cond, ◌&&◌}
use mathlib.Core.List.{List, [], ◌∷◌, ◌++◌}
use Prim.Native.Nat.{ℕ, ◌+◌, ◌-◌, ◌*◌, ◌/◌, ◌^◌, ◌≤◌, ◌<◌, max}
use native.Mathlib.Nat.{add-zero, zero-add, add_assoc}
use native.Mathlib.Omega.{arith}
use lib.Dec.{leb, ltb, eqb}
use lib.Ieee.{Float, lt}
use borrow.Author.Tests.{le-leb, lt-ltb}
use Rattle.arith.specs.Whole.{limit, within, sum_of, times_of}
use Rattle.arith.specs.Time.{since_of, span_sum_of}
use Rattle.arith.specs.Round.{float_of, truncated_of, seconds_of}
use Rattle.arith.specs.declared.time.Moment.{Moment}
use Rattle.arith.specs.declared.time.Span.{Span}
use Rattle.arith.specs.Refusals.{then}
use Rattle.model.specs.Numbers.{reach_window, is_unset}
use Rattle.model.specs.Cubic.{alpha_aimd, times_beta, w_max_next, k_next, curve, in_recovery, checkpoint, rolls_back, rolled_back, rollback, reduce, congestion_event, count_lost, grown, by_datagram, slow_start, start_of, begun, target_of, estimated, aimed_at, avoidance, few_lost, grow, acked_outside, packet_acked, resized}
use Rattle.model.specs.Control.{Move, forgive, lose, count, ack, resize, moved, control, forgive_by, lose_by, ack_each}
use Rattle.model.specs.declared.Congestion.{Congestion}
use Rattle.model.specs.declared.Cubic.{Cubic}
use Rattle.model.specs.declared.Sent.{Sent}
use Rattle.model.proofs.Peel.{All, all-is, all_then, all-cond, all-reach, all-window}
use Rattle.model.proofs.Counts.{sum_is}
use Rattle.std.specs.Prelude.{Result, Ok, Err, Option, Some, None}
use Rattle.arith.specs.declared.refusal.Refusal.{Refusal}
use Rattle.arith.specs.declared.refusal.Refusal.TheVariants.{TooLarge}

pub times-is : (a b n : ℕ) → times_of a b ≡ Ok n → n ≡ a * b
unfolding times_of within
times-is a b n = go (leb (a * b) limit)
  where
    go : (t : Bool) → cond t (Ok (a * b)) (Err TooLarge) ≡ Ok n → n ≡ a * b
    go true e = cc
    go false e = absurd (let z : ◌≡◌ {A = ℕ} 0 1 = cc in let w : ⊥ = omega arith in w)

-- ---- the lost count

-- what a move says was lost
unfoldable pub told_by : Move → ℕ
told_by forgive = 0
told_by (lose now sent) = 0
told_by (count n) = n
told_by (ack now sent size limited min_rtt) = 0
told_by (resize old new) = 0

unfoldable pub told : List Move → ℕ
unfolding told_by
told [] = 0
told (m ∷ ms) = told_by m + told ms

pub told-append : (a b : List Move) → told (a ++ b) ≡ told a + told b
unfolding told
told-append [] b = sym (zero-add _)
told-append (m ∷ a) b = ap (λ (x : ℕ). told_by m + x) (told-append a b) ∙ sym (add_assoc (told_by m) (told a) (told b))

pub told-forgive : (b : Bool) → told (forgive_by b) ≡ 0
unfolding told
told-forgive true = refl
told-forgive false = refl

-- a detection's moves: the congestion event, then the count
pub told-lost : (now : Moment) (t : Option Moment) (n : ℕ) → told (lose_by now t ++ (count n ∷ [])) ≡ n
unfolding told
told-lost now None n = add-zero n
told-lost now (Some t) n = zero-add (n + 0) ∙ add-zero n

pub told-acks : (now : Moment) (limited : Bool) (min_rtt : Span) (l : List Sent) → told (ack_each now limited min_rtt l) ≡ 0
unfolding told ack_each
told-acks now limited min_rtt [] = refl
told-acks now limited min_rtt (r ∷ l) = zero-add _ ∙ told-acks now limited min_rtt l

module _ (g : Congestion) where
  abbrev Same : Congestion → Type 0
  Same h = h.lost_count ≡ g.lost_count

  same-datagram : (size window waiting : ℕ) (f : ℕ → ℕ → Result Congestion Refusal) → ((w left : ℕ) → All Same (f w left)) → All Same (by_datagram size window waiting f)
  same-datagram size window waiting f h =
      all-cond Same (leb size waiting) (reach_window (window + size) λ w. f w (waiting - size)) (f window waiting)
      (λ e. all-window Same (window + size) (λ w. f w (waiting - size)) (λ le. h (window + size) (waiting - size)))
      (λ e. h window waiting)

  same-slow : (acked : ℕ) → All Same (slow_start acked g)
  unfolding slow_start
  same-slow acked =
      all-reach Same (sum_of g.bytes_acked_sl acked) _ λ waiting.
      same-datagram g.max_datagram_size g.congestion_window waiting (λ w left. Ok (grown g w left g.congestion_recovery_start_time g.cubic)) λ w left.
      all-is Same _ refl

  same-aimed : (q : Cubic) (window size : ℕ) (t : Span) (target : ℕ) (f : ℕ → Result Congestion Refusal) → ((n : ℕ) → All Same (f n)) → All Same (aimed_at q window size t target f)
  unfolding aimed_at
  same-aimed q window size t target f h =
      all-cond Same (lt (curve (seconds_of t) q.k q.w_max (float_of size)) q.w_est) (f (max window (truncated_of q.w_est)))
      (then (times_of size (target - window)) λ step. then (sum_of window (step / window)) f)
      (λ e. h (max window (truncated_of q.w_est)))
      (λ e. all-reach Same (times_of size (target - window)) _ λ step. all-reach Same (sum_of window (step / window)) f h)

  same-avoid : (now : Moment) (acked : ℕ) (min_rtt : Span) → All Same (avoidance now acked min_rtt g)
  unfolding avoidance
  same-avoid now acked min_rtt =
      all-reach Same (span_sum_of t min_rtt) _ λ later.
      all_then Same (estimated acked window size q) _ λ e x.
      same-aimed e window size t (target_of q window size later) _ λ aim.
      all-reach Same (sum_of e.cwnd_inc (aim - window)) (λ waiting. by_datagram size window waiting (ends_with e)) λ waiting.
      same-datagram size window waiting (ends_with e) λ w left. all-is Same _ refl
    where
      window : ℕ
      window = g.congestion_window

      size : ℕ
      size = g.max_datagram_size

      t : Span
      t = since_of now (start_of g.congestion_recovery_start_time now)

      q : Cubic
      q = begun g.congestion_recovery_start_time window g.cubic

      ends_with : Cubic → ℕ → ℕ → Result Congestion Refusal
      ends_with e next left =
          Ok
          (grown g next g.bytes_acked_sl (Some (start_of g.congestion_recovery_start_time now))
          (record { k = e.k; w_max = e.w_max; w_est = e.w_est; alpha_aimd = e.alpha_aimd; cwnd_inc = left }))

  same-grow : (now : Moment) (acked : ℕ) (min_rtt : Span) → All Same (grow now acked min_rtt g)
  unfolding grow
  same-grow now acked min_rtt =
      all-cond Same (ltb g.congestion_window g.ssthresh) (slow_start acked g) (avoidance now acked min_rtt g) (λ e. same-slow acked) (λ e. same-avoid now acked min_rtt)

  same-rolled : Same (rolled_back g)
  unfolding rolled_back
  same-rolled = refl

  same-ack : (now sent : Moment) (size : ℕ) (limited : Bool) (min_rtt : Span) → All Same (packet_acked now sent size limited min_rtt g)
  unfolding packet_acked acked_outside few_lost
  same-ack now sent size limited min_rtt =
      all-cond Same (in_recovery g.congestion_recovery_start_time sent) (Ok g) _ (λ e. all-is Same g refl) λ e.
      all-cond Same limited (Ok g) _ (λ f. all-is Same g refl) λ f.
      all-cond Same (is_unset g.congestion_recovery_start_time) (grow now size min_rtt g) _ (λ u. same-grow now size min_rtt) λ u.
      all-reach Same (times_of (g.congestion_window / g.max_datagram_size) 20) _ λ n.
      all-cond Same (ltb (g.lost_count - g.prior.lost_count) (max (n / 100) 2) && rolls_back g) (Ok (rolled_back g)) (grow now size min_rtt g)
      (λ r. all-is Same (rolled_back g) same-rolled) (λ r. same-grow now size min_rtt)

  same-rollback : Same (rollback g)
  unfolding rollback
  same-rollback = go (rolls_back g)
    where
      go : (b : Bool) → Same (cond b (rolled_back g) g)
      go true = same-rolled
      go false = refl

  -- a reduction: the count stays, the window is 0.7 of it, at least two datagrams
  abbrev Reduced : Congestion → Type 0
  Reduced h = Same h × (h.congestion_window ≡ max (times_beta g.congestion_window) (g.max_datagram_size * 2))

  reduces : (now : Moment) → All Reduced (reduce now g)
  unfolding reduce
  reduces now =
      all_then Reduced (times_of g.max_datagram_size 2) (λ least. reach_window (max (times_beta g.congestion_window) least) (λ w. on w)) λ least e.
      all-window Reduced (max (times_beta g.congestion_window) least) (λ w. on w) λ le.
      all_then Reduced (k_next w_max (max (times_beta g.congestion_window) least) g.max_datagram_size) _ λ k f.
      all-is Reduced _ (refl, ap (λ (x : ℕ). max (times_beta g.congestion_window) x) (times-is g.max_datagram_size 2 least e))
    where
      w_max : Float
      w_max = w_max_next g.congestion_window g.cubic.w_max

      on : ℕ → Result Congestion Refusal
      on window =
          then (k_next w_max window g.max_datagram_size) λ k.
          Ok
          (record {
            congestion_window = window;
            ssthresh = window;
            bytes_acked_sl = g.bytes_acked_sl;
            congestion_recovery_start_time = Some now;
            lost_count = g.lost_count;
            cubic = record { k = k; w_max = w_max; w_est = float_of window; alpha_aimd = alpha_aimd; cwnd_inc = times_beta g.cubic.cwnd_inc };
            prior = checkpoint g;
            max_datagram_size = g.max_datagram_size;
            initial_window_packets = g.initial_window_packets;
          })

  same-lose : (now sent : Moment) → All Same (congestion_event now sent g)
  unfolding congestion_event
  same-lose now sent =
      all-cond Same (in_recovery g.congestion_recovery_start_time sent) (Ok g) (reduce now g) (λ e. all-is Same g refl) (λ e h x. (reduces now h x).0)

  pub opens-reduced : (now sent : Moment) → in_recovery g.congestion_recovery_start_time sent ≡ false → All Reduced (congestion_event now sent g)
  unfolding congestion_event
  opens-reduced now sent e = rw e (reduces now)

  -- a size change: the count stays, and the window follows if it was still the first one
  abbrev Resized : ℕ → ℕ → Congestion → Type 0
  Resized old new h =
      Same h
      × (h.congestion_window ≡ cond (eqb g.congestion_window (old * g.initial_window_packets)) (new * g.initial_window_packets) g.congestion_window)

  pub resizes : (old new : ℕ) → All (Resized old new) (resized old new g)
  unfolding resized
  resizes old new =
      all_then (Resized old new) (times_of old g.initial_window_packets) _ λ before e.
      all-cond (Resized old new) (eqb g.congestion_window before) to-new (Ok g)
      (λ f.
      all_then (Resized old new) (times_of new g.initial_window_packets) (λ n. reach_window n on) λ n x.
      all-window (Resized old new) n on λ le.
      all-is (Resized old new) (grown g n g.bytes_acked_sl g.congestion_recovery_start_time g.cubic)
      (refl, times-is new g.initial_window_packets n x ∙ by before e true f))
      (λ f. all-is (Resized old new) g (refl, by before e false f))
    where
      on : ℕ → Result Congestion Refusal
      on w = Ok (grown g w g.bytes_acked_sl g.congestion_recovery_start_time g.cubic)

      to-new : Result Congestion Refusal
      to-new = then (times_of new g.initial_window_packets) λ n. reach_window n on

      by : (before : ℕ) → times_of old g.initial_window_packets ≡ Ok before → (b : Bool) → eqb g.congestion_window before ≡ b →
          cond b (new * g.initial_window_packets) g.congestion_window
          ≡ cond (eqb g.congestion_window (old * g.initial_window_packets)) (new * g.initial_window_packets) g.congestion_window
      by before e b f =
          ap (λ (x : Bool). cond x (new * g.initial_window_packets) g.congestion_window)
          (sym f ∙ ap (λ (x : ℕ). eqb g.congestion_window x) (times-is old g.initial_window_packets before e))

  abbrev Rises : ℕ → Congestion → Type 0
  Rises n h = h.lost_count ≡ g.lost_count + n

  rises-none : (r : Result Congestion Refusal) → All Same r → All (Rises 0) r
  rises-none r f h e = f h e ∙ sym (add-zero _)

  rises : (m : Move) → All (Rises (told_by m)) (moved m g)
  unfolding moved told_by count_lost
  rises forgive = all-is (Rises 0) (rollback g) (same-rollback ∙ sym (add-zero _))
  rises (lose now sent) = rises-none _ (same-lose now sent)
  rises (count n) = all_then (Rises n) (sum_of g.lost_count n) _ λ total e. all-is (Rises n) _ (sum_is g.lost_count n total e)
  rises (ack now sent size limited min_rtt) = rises-none _ (same-ack now sent size limited min_rtt)
  rises (resize old new) = rises-none _ (λ h e. (resizes old new h e).0)

-- over any moves
pub rises-told : (ms : List Move) (g : Congestion) → All (λ h. h.lost_count ≡ g.lost_count + told ms) (control ms g)
unfolding control told
rises-told [] g = all-is (λ (h : Congestion). h.lost_count ≡ g.lost_count + 0) g (sym (add-zero _))
rises-told (m ∷ ms) g =
    all_then (λ (h : Congestion). h.lost_count ≡ g.lost_count + (told_by m + told ms)) (moved m g) (λ h. control ms h) λ h e k f.
    rises-told ms h k f ∙ ap (λ (x : ℕ). x + told ms) (rises g m h e) ∙ add_assoc g.lost_count (told_by m) (told ms)

-- ---- slow start
pub raised : (now sent : Moment) (bytes : ℕ) (min_rtt : Span) (g : Congestion) → g.congestion_recovery_start_time ≡ None →
    g.congestion_window < g.ssthresh → g.max_datagram_size ≤ g.bytes_acked_sl + bytes →
    g.bytes_acked_sl + bytes ≤ limit → g.congestion_window + g.max_datagram_size ≤ 2 ^ 30 →
    (h : Congestion) × (packet_acked now sent bytes false min_rtt g ≡ Ok h) × (h.congestion_window ≡ g.congestion_window + g.max_datagram_size)
unfolding packet_acked in_recovery acked_outside grow slow_start sum_of within
raised now sent bytes min_rtt g u below whole fits room = (
  grown g (g.congestion_window + g.max_datagram_size) (g.bytes_acked_sl + bytes - g.max_datagram_size) g.congestion_recovery_start_time g.cubic,
  rw (u, lt-ltb _ _ below, le-leb _ _ fits, le-leb _ _ whole, le-leb _ _ room) refl,
  refl,
)

-- 01 'CUBIC (001)'; RFC 9438. 64-bit floats: each operation rounds once, in the order written. Definitions only.
use Rattle.std.specs.Prelude.{ℕ, ◌+◌, ◌-◌, ◌*◌, ◌/◌, max, Bool, false, cond, ◌&&◌, not, leb, ltb, eqb, Float, Result, Ok, Err, Option, Some, None}
use Rattle.std.specs.Float.{binary64}
use Rattle.std.specs.Float.Ieee.{add, sub, mul, div, of_bits, lt, le}
use Rattle.arith.specs.Whole.{sum_of, times_of, limit}
use Rattle.arith.specs.Time.{span_sum_of, since_of}
use Rattle.arith.specs.Round.{float_of, truncated_of, seconds_of}
use Rattle.arith.specs.Root.{nought}
use Rattle.arith.specs.RootOf.{root_of}
use Rattle.arith.specs.declared.time.Moment.{Moment}
use Rattle.arith.specs.declared.time.Span.{Span}
use Rattle.arith.specs.Refusals.{then}
use Rattle.model.specs.Numbers.{reach_window, is_unset}
use Rattle.model.specs.declared.Congestion.{Congestion}
use Rattle.model.specs.declared.Cubic.{Cubic}
use Rattle.model.specs.declared.PriorState.{PriorState}
use Rattle.arith.specs.declared.refusal.Refusal.TheVariants.{Domain, TooLarge}
use Rattle.model.specs.declared.Settings.{Settings}
use Rattle.arith.specs.declared.refusal.Refusal.{Refusal}

-- ---- constants of 001, by their bit patterns

-- beta 0.7, C 0.4. RFC 9438 sections 4.6 and 5
abbrev pub beta : Float
beta = of_bits binary64 0x3fe6_6666_6666_6666

abbrev pub c : Float
c = of_bits binary64 0x3fd9_9999_9999_999a

-- 1 + beta, 2, 1.5 and 1
abbrev pub one_plus_beta : Float
one_plus_beta = of_bits binary64 0x3ffb_3333_3333_3333

abbrev pub two : Float
two = of_bits binary64 0x4000_0000_0000_0000

abbrev pub one_and_a_half : Float
one_and_a_half = of_bits binary64 0x3ff8_0000_0000_0000

abbrev pub one : Float
one = of_bits binary64 0x3ff0_0000_0000_0000

-- alpha at the start of congestion avoidance: 3 × (1 - beta) / (1 + beta). RFC 9438 section 4.3
abbrev pub alpha_aimd : Float
alpha_aimd = of_bits binary64 0x3fe0_f0f0_f0f0_f0f2

-- ---- float operations, each rounded once, in this order

-- x = seconds - K; curve = (0.4 × (x × (x × x)) + w_max / size) × size. RFC 9438 section 4.2, figure 1
unfoldable pub curve : Float → Float → Float → Float → Float
curve seconds k w_max size =
    let x = sub binary64 seconds k in
    mul binary64 (add binary64 (mul binary64 c (mul binary64 x (mul binary64 x x))) (div binary64 w_max size)) size

-- w_est step = alpha × (acked / window) × size. RFC 9438 section 4.3, figure 4
unfoldable pub w_est_step : Float → Float → Float → Float → Float
w_est_step alpha acked window size = mul binary64 (mul binary64 alpha (div binary64 acked window)) size

-- K's argument = (w_max / size - window / size) / 0.4. RFC 9438 section 4.2, figure 2
unfoldable pub k_argument : Float → Float → Float → Float
k_argument w_max window size = div binary64 (sub binary64 (div binary64 w_max size) (div binary64 window size)) c

-- the whole part of 0.7 × n
unfoldable pub times_beta : ℕ → ℕ
times_beta n = truncated_of (mul binary64 (float_of n) beta)

-- the larger and the smaller of two floats; of a number and no number, the number
unfoldable pub larger : Float → Float → Float
larger a b = cond (le b a) a b

unfoldable pub smaller : Float → Float → Float
smaller a b = cond (le a b) a b

-- ---- recovery and rollback

-- in recovery means sent <= recovery start
unfoldable pub in_recovery : Option Moment → Moment → Bool
in_recovery None sent = false
in_recovery (Some start) sent = leb sent.0 start.0

-- what a loss keeps before it reduces, with the lost count at that moment
unfoldable pub checkpoint : Congestion → PriorState
checkpoint g =
    record {
      congestion_window = g.congestion_window;
      ssthresh = g.ssthresh;
      w_max = g.cubic.w_max;
      k = g.cubic.k;
      epoch_start = g.congestion_recovery_start_time;
      lost_count = g.lost_count;
    }

-- turned down if the checkpoint's window is below its threshold, or the present window is not below the checkpoint's
unfoldable pub rolls_back : Congestion → Bool
rolls_back g = not (ltb g.prior.congestion_window g.prior.ssthresh) && ltb g.congestion_window g.prior.congestion_window

-- not restored: w_est, alpha, cwnd_inc, slow-start bytes, lost count
unfoldable pub rolled_back : Congestion → Congestion
rolled_back g =
    record {
      congestion_window = g.prior.congestion_window;
      ssthresh = g.prior.ssthresh;
      bytes_acked_sl = g.bytes_acked_sl;
      congestion_recovery_start_time = g.prior.epoch_start;
      lost_count = g.lost_count;
      cubic = record {
        k = g.prior.k;
        w_max = g.prior.w_max;
        w_est = g.cubic.w_est;
        alpha_aimd = g.cubic.alpha_aimd;
        cwnd_inc = g.cubic.cwnd_inc;
      };
      prior = g.prior;
      max_datagram_size = g.max_datagram_size;
      initial_window_packets = g.initial_window_packets;
    }

-- one turned down changes nothing
unfoldable pub rollback : Congestion → Congestion
unfolding rolls_back rolled_back
rollback g = cond (rolls_back g) (rolled_back g) g

-- ---- a congestion event

-- fast convergence: a window below w_max gives w_max = window × (1 + beta) / 2, any other w_max = window. RFC 9438 section 4.7
unfoldable pub w_max_next : ℕ → Float → Float
w_max_next window w_max =
    cond (lt (float_of window) w_max) (div binary64 (mul binary64 (float_of window) one_plus_beta) two) (float_of window)

-- K, 0 where w_max is below the window; refusal 2 is the root's
unfoldable pub k_next : Float → ℕ → ℕ → Result Float Refusal
unfolding k_argument
k_next w_max window size =
    cond (lt w_max (float_of window)) (Ok nought) (root_of (k_argument w_max (float_of window) (float_of size)))

-- the window becomes 0.7 of it, at least two datagrams of the size set at the start. RFC 9438 section 4.6
unfoldable pub reduce : Moment → Congestion → Result Congestion Refusal
unfolding times_beta w_max_next k_next checkpoint
reduce now g =
    then (times_of g.max_datagram_size 2) λ least.
    reach_window (max (times_beta g.congestion_window) least) λ window.
    let w_max = w_max_next g.congestion_window g.cubic.w_max in
    then (k_next w_max window g.max_datagram_size) λ k.
    Ok
    (record {
      congestion_window = window;
      ssthresh = window;
      bytes_acked_sl = g.bytes_acked_sl;
      congestion_recovery_start_time = Some now;
      lost_count = g.lost_count;
      cubic = record { k = k; w_max = w_max; w_est = float_of window; alpha_aimd = alpha_aimd; cwnd_inc = times_beta g.cubic.cwnd_inc };
      prior = checkpoint g;
      max_datagram_size = g.max_datagram_size;
      initial_window_packets = g.initial_window_packets;
    })

-- a loss not in recovery checkpoints, then reduces; this alone begins a recovery period. `sent` is when the packet that decides was sent
unfoldable pub congestion_event : Moment → Moment → Congestion → Result Congestion Refusal
unfolding in_recovery reduce
congestion_event now sent g = cond (in_recovery g.congestion_recovery_start_time sent) (Ok g) (reduce now g)

-- lost count rises after that event
unfoldable pub count_lost : ℕ → Congestion → Result Congestion Refusal
count_lost n g =
    then (sum_of g.lost_count n) λ count.
    Ok
    (record {
      congestion_window = g.congestion_window;
      ssthresh = g.ssthresh;
      bytes_acked_sl = g.bytes_acked_sl;
      congestion_recovery_start_time = g.congestion_recovery_start_time;
      lost_count = count;
      cubic = g.cubic;
      prior = g.prior;
      max_datagram_size = g.max_datagram_size;
      initial_window_packets = g.initial_window_packets;
    })

-- ---- growth

abbrev pub grown : Congestion → ℕ → ℕ → Option Moment → Cubic → Congestion
grown g window slow_start_bytes start cubic =
    record {
      congestion_window = window;
      ssthresh = g.ssthresh;
      bytes_acked_sl = slow_start_bytes;
      congestion_recovery_start_time = start;
      lost_count = g.lost_count;
      cubic = cubic;
      prior = g.prior;
      max_datagram_size = g.max_datagram_size;
      initial_window_packets = g.initial_window_packets;
    }

-- a whole datagram of bytes that wait moves the window on by one: the window and what still waits
abbrev pub by_datagram : {A : Type 0} → ℕ → ℕ → ℕ → (ℕ → ℕ → Result A Refusal) → Result A Refusal
by_datagram size window waiting k =
    cond (leb size waiting) (reach_window (window + size) λ w. k w (waiting - size)) (k window waiting)

-- slow start: acked bytes wait for a whole datagram
unfoldable pub slow_start : ℕ → Congestion → Result Congestion Refusal
slow_start acked g =
    then (sum_of g.bytes_acked_sl acked) λ waiting.
    by_datagram g.max_datagram_size g.congestion_window waiting λ window left.
    Ok (grown g window left g.congestion_recovery_start_time g.cubic)

-- the start of CUBIC's clock; where none is set, it is now and the window is w_max
abbrev pub start_of : Option Moment → Moment → Moment
start_of None now = now
start_of (Some m) now = m

unfoldable pub begun : Option Moment → ℕ → Cubic → Cubic
begun (Some m) window q = q
begun None window q =
    record { k = nought; w_max = float_of window; w_est = float_of window; alpha_aimd = alpha_aimd; cwnd_inc = q.cwnd_inc }

-- target = curve(t + min RTT), clipped to [window, 1.5 × window]. RFC 9438 section 4.4
unfoldable pub target_of : Cubic → ℕ → ℕ → Span → ℕ
unfolding curve larger smaller
target_of q window size later =
    truncated_of
    (smaller (larger (curve (seconds_of later) q.k q.w_max (float_of size)) (float_of window)) (mul binary64 (float_of window) one_and_a_half))

-- w_est after its step, and alpha, 1 once w_est reached w_max; refusal 7: w_est
unfoldable pub estimated : ℕ → ℕ → ℕ → Cubic → Result Cubic Refusal
unfolding w_est_step
estimated acked window size q =
    let w = add binary64 q.w_est (w_est_step q.alpha_aimd (float_of acked) (float_of window) (float_of size)) in
    cond (lt (float_of limit) w) (Err TooLarge)
    (Ok
    (record { k = q.k; w_max = q.w_max; w_est = w; alpha_aimd = cond (le q.w_max w) one q.alpha_aimd; cwnd_inc = q.cwnd_inc }))

-- the window that CUBIC would have: w_est where the curve at t is below it, else a step towards the target
unfoldable pub aimed_at : Cubic → ℕ → ℕ → Span → ℕ → (ℕ → Result Congestion Refusal) → Result Congestion Refusal
unfolding curve
aimed_at q window size t target k =
    cond (lt (curve (seconds_of t) q.k q.w_max (float_of size)) q.w_est)
    (k (max window (truncated_of q.w_est)))
    (then (times_of size (target - window)) λ step. then (sum_of window (step / window)) k)

-- congestion avoidance; refusal 7: cwnd_inc, and t + min RTT
unfoldable pub avoidance : Moment → ℕ → Span → Congestion → Result Congestion Refusal
unfolding begun target_of estimated aimed_at
avoidance now acked min_rtt g =
    let window = g.congestion_window in
    let size = g.max_datagram_size in
    let start = start_of g.congestion_recovery_start_time now in
    let t = since_of now start in
    let q = begun g.congestion_recovery_start_time window g.cubic in
    then (span_sum_of t min_rtt) λ later.
    then (estimated acked window size q) λ e.
    aimed_at e window size t (target_of q window size later) λ aim.
    then (sum_of e.cwnd_inc (aim - window)) λ waiting.
    by_datagram size window waiting λ next left.
    Ok
    (grown g next g.bytes_acked_sl (Some start)
    (record { k = e.k; w_max = e.w_max; w_est = e.w_est; alpha_aimd = e.alpha_aimd; cwnd_inc = left }))

-- ---- an acked packet

-- new lost < max(window / size × 20 / 100, 2), strictly; new lost are those counted since the checkpoint
unfoldable pub few_lost : Congestion → (Bool → Result Congestion Refusal) → Result Congestion Refusal
few_lost g k =
    then (times_of (g.congestion_window / g.max_datagram_size) 20) λ n.
    k (ltb (g.lost_count - g.prior.lost_count) (max (n / 100) 2))

-- slow start below the threshold, else congestion avoidance
unfoldable pub grow : Moment → ℕ → Span → Congestion → Result Congestion Refusal
unfolding slow_start avoidance
grow now acked min_rtt g = cond (ltb g.congestion_window g.ssthresh) (slow_start acked g) (avoidance now acked min_rtt g)

-- on an ack outside recovery, not app-limited, start set: rollback if few were lost; success ends that packet's step
unfoldable pub acked_outside : Moment → ℕ → Span → Congestion → Result Congestion Refusal
unfolding few_lost grow rolls_back rolled_back
acked_outside now acked min_rtt g =
    cond (is_unset g.congestion_recovery_start_time) (grow now acked min_rtt g)
    (few_lost g λ few. cond (few && rolls_back g) (Ok (rolled_back g)) (grow now acked min_rtt g))

-- a packet in recovery, or while the application limits the sender, changes nothing
unfoldable pub packet_acked : Moment → Moment → ℕ → Bool → Span → Congestion → Result Congestion Refusal
unfolding in_recovery acked_outside
packet_acked now sent acked limited min_rtt g =
    cond (in_recovery g.congestion_recovery_start_time sent) (Ok g)
    (cond limited (Ok g) (acked_outside now acked min_rtt g))

-- ---- the start, and a size change

-- the threshold starts at 2^64-1, nothing is checkpointed
unfoldable pub congestion_fresh : Settings → Congestion
congestion_fresh s =
    record {
      congestion_window = s.max_datagram_size * s.initial_window_packets;
      ssthresh = 18446744073709551615;
      bytes_acked_sl = 0;
      congestion_recovery_start_time = None;
      lost_count = 0;
      cubic = record { k = nought; w_max = nought; w_est = nought; alpha_aimd = nought; cwnd_inc = 0 };
      prior = record { congestion_window = 0; ssthresh = 0; w_max = nought; k = nought; epoch_start = None; lost_count = 0 };
      max_datagram_size = s.max_datagram_size;
      initial_window_packets = s.initial_window_packets;
    }

-- a size change sets the window to new size × initial packets if it was old size × initial packets; CUBIC's size stays
unfoldable pub resized : ℕ → ℕ → Congestion → Result Congestion Refusal
resized old new g =
    then (times_of old g.initial_window_packets) λ before.
    cond (eqb g.congestion_window before)
    (then (times_of new g.initial_window_packets) λ n.
    reach_window n λ window. Ok (grown g window g.bytes_acked_sl g.congestion_recovery_start_time g.cubic))
    (Ok g)

-- 01 'The stage numbers': the ranges of numbers, and which refusal spares them. Definitions only.
use Rattle.std.specs.Prelude.{ℕ, ◌^◌, Bool, true, false, cond, ◌&&◌, leb, ltb, Result, Ok, Err, Option, Some, None}
use Rattle.arith.specs.Whole.{limit}
use Rattle.arith.specs.Time.{span}
use Rattle.arith.specs.declared.time.Moment.{Moment}
use Rattle.arith.specs.declared.time.Span.{Span}
use Rattle.arith.specs.declared.refusal.Refusal.{Refusal}
use Rattle.arith.specs.declared.refusal.Refusal.TheVariants.{Clock, Domain, Stale, Ranges, Skipped, Full, TooLarge}
use Rattle.model.specs.declared.Settings.{Settings}

-- ---- refusals

-- refusal 7: the window passes 2^30
abbrev pub reach_window : {A : Type 0} → ℕ → (ℕ → Result A Refusal) → Result A Refusal
reach_window w k = cond (leb w (2 ^ 30)) (k w) (Err TooLarge)

-- ---- the numbers

-- at most 256 records per space, 256 handles per queue
abbrev pub capacity : ℕ
capacity = 256

-- granularity 1 ms
abbrev pub granularity : Span
granularity = span 1000000

-- refusal 1: now below the last accepted now, or above 2^53-1
unfoldable pub on_clock : Moment → Moment → Bool
on_clock clock now = leb clock.0 now.0 && leb now.0 limit

-- refusal 2: the spaces are 0 Initial, 1 Handshake, 2 Application
abbrev pub is_space : ℕ → Bool
is_space s = ltb s 3

-- refusal 2: packet numbers are below 2^62
abbrev pub is_number : ℕ → Bool
is_number n = ltb n (2 ^ 62)

-- refusal 2: sizes 1 to 65,527
unfoldable pub is_size : ℕ → Bool
is_size n = leb 1 n && leb n 65527

-- refusal 2: datagram size 1,200 to 65,527
unfoldable pub is_datagram_size : ℕ → Bool
is_datagram_size n = leb 1200 n && leb n 65527

-- refusal 2: initial window 2 to 100 packets, initial RTT 1 ms to 10 s, max ack delay 0 to 16,383 ms
unfoldable pub are_settings : Settings → Bool
unfolding is_datagram_size
are_settings s =
    is_datagram_size s.max_datagram_size
    && (leb 2 s.initial_window_packets && leb s.initial_window_packets 100)
    && (leb 1000000 s.initial_rtt.0 && leb s.initial_rtt.0 10000000000)
    && leb s.max_ack_delay.0 16383000000

-- ---- what may be unset

-- a number, or 0 where none is stored
abbrev pub or_zero : Option ℕ → ℕ
or_zero None = 0
or_zero (Some n) = n

abbrev pub is_unset : Option Moment → Bool
is_unset None = true
is_unset (Some m) = false

-- The worked examples of 01, 'Rehearsals', that this crate answers, and edges beside them, as rows of one table under one claim.
use Rattle.std.specs.Prelude.{ℕ, ◌+◌, Bool, cond, ◌&&◌, T, List, [], ◌∷◌, ◌==◌}
use Rattle.std.specs.Float.{binary64}
use Rattle.std.specs.Float.Ieee.{to_bits, of_bits, eq, le, of_int, add, div, to_unsigned}
use Rattle.arith.specs.Whole.{within}
use Rattle.arith.specs.Refusals.{refusal_of}
use Rattle.arith.specs.Time.{span, span_value}
use Rattle.arith.specs.Round.{nearest, product_of, seconds_of, truncated_of}
use Rattle.arith.specs.Root.{root_value}
use Rattle.arith.specs.RootOf.{root_of}
use Rattle.arith.specs.declared.round.TimeThreshold.{TimeThreshold}
use Rattle.arith.specs.declared.round.TimeThreshold.TheVariants.{NineEighths, FiveFourths}

pub data Row : Type 0 where
  -- a span, the threshold, the refusal or 0, and the delay, all in nanoseconds
  delay : ℕ → TimeThreshold → ℕ → ℕ → Row
  -- an argument's pattern, the refusal or 0, and the root's pattern
  root : ℕ → ℕ → ℕ → Row
  -- nanoseconds, and the pattern of the seconds
  seconds : ℕ → ℕ → Row
  -- a float's pattern, and its whole part
  whole : ℕ → ℕ → Row

unfoldable pub right : Row → Bool
unfolding within nearest product_of seconds_of root_of of_bits to_bits eq le of_int add div to_unsigned
right (delay x t n r) = let d = product_of (span x) t in (refusal_of d == n) && span_value d == r
right (root a n r) = let o = root_of (of_bits binary64 a) in (refusal_of o == n) && to_bits binary64 (root_value o) == r
right (seconds x b) = to_bits binary64 (seconds_of (span x)) == b
right (whole a n) = truncated_of (of_bits binary64 a) == n

-- the place of the first wrong row, from i on, or 0 where all are right
unfoldable pub wrong : ℕ → List Row → ℕ
unfolding right
wrong i [] = 0
wrong i (r ∷ rs) = cond (right r) (wrong (i + 1) rs) i

unfoldable pub table : List Row
table =
    -- first sample 100 ms: 112.5 ms. No sample: 374.625
    delay 100000000 NineEighths 0 112500000
    ∷ delay 333000000 NineEighths 0 374625000
    -- a half goes up, less than a half down
    ∷ delay 4 NineEighths 0 5
    ∷ delay 3 NineEighths 0 3
    ∷ delay 2 FiveFourths 0 3
    ∷ delay 1 FiveFourths 0 1
    -- refusal 7 reads the rounded delay
    ∷ delay 8006399337547547 NineEighths 0 9007199254740990
    ∷ delay 8006399337547548 NineEighths 7 0
    -- the root of 8 is 2, of either 0 is +0
    ∷ root 4620693217682128896 0 4611686018427387904
    ∷ root 0 0 0
    ∷ root 0x8000_0000_0000_0000 0 0
    -- of 27 it is 3; of 2 the nearest float lies above it; of 7.5
    ∷ root 4628293042053316608 0 4613937818241073152
    ∷ root 4611686018427387904 0 4608352999143469706
    ∷ root 4620130267728707584 0 4611494317397633365
    -- 2^-60 and 2^40, and one float outside each
    ∷ root 4336966441157787648 0 4517110426252607488
    ∷ root 4336966441157787647 2 0
    ∷ root 4787326403894837248 0 4666899794299286154
    ∷ root 4787326403894837249 2 0
    -- -1, a NaN, an infinity
    ∷ root 0xbff0_0000_0000_0000 2 0
    ∷ root 0x7ff8_0000_0000_0000 2 0
    ∷ root 0x7ff0_0000_0000_0000 2 0
    ∷ seconds 1500000000 0x3ff8_0000_0000_0000
    ∷ whole 0x3fff_ffff_ffff_ffff 1
    ∷ whole 0xbff0_0000_0000_0000 0
    ∷ whole 0x43f0_0000_0000_0000 0xffff_ffff_ffff_ffff
    ∷ []

pub rehearsed : T (wrong 1 table == 0)
unfolding wrong table
rehearsed = tt

-- Rounding: of the loss delay, and between whole numbers and floats. 01 'Lost or not', 'CUBIC (001)'. Definitions only.
use Rattle.std.specs.Prelude.{ℕ, ◌+◌, ◌*◌, ◌/◌, ◌%◌, ◌<◌, ◌≤◌, Bool, true, false, pos, from_bits, Float, Result}
use Rattle.std.specs.Float.{binary64}
use Rattle.std.specs.Float.Ieee.{add, div, of_int, to_unsigned}
use Rattle.arith.specs.Whole.{within}
use Rattle.arith.specs.Time.{as_span}
use Rattle.arith.specs.declared.round.TimeThreshold.{TimeThreshold}
use Rattle.arith.specs.declared.round.TimeThreshold.TheVariants.{NineEighths, FiveFourths}
use Rattle.arith.specs.declared.time.Span.{Span}
use Rattle.arith.specs.declared.refusal.Refusal.{Refusal}

-- time threshold 9/8, after a spurious loss 5/4. 01 'The stage numbers', 'Acknowledgement (000)' 3
abbrev pub numerator_of : TimeThreshold → ℕ
numerator_of NineEighths = 9
numerator_of FiveFourths = 5

abbrev pub denominator_of : TimeThreshold → ℕ
denominator_of NineEighths = 8
denominator_of FiveFourths = 4

-- what the code's own part asks of a threshold: its two numbers are small, and it is at least 1
pub record Small (num den : ℕ) : Type 0 where
  pub top : num ≤ 9
  pub some : 0 < den
  pub bottom : den ≤ 8
  pub least : den ≤ num

-- 5/4 once any loss was spurious, 9/8 before. 01 'Acknowledgement (000)' 3
abbrev pub threshold_of : Bool → TimeThreshold
threshold_of false = NineEighths
threshold_of true = FiveFourths

-- x × num / den to the nearest nanosecond, halves up: the whole part of the product and a half. 01 'Lost or not'
unfoldable pub nearest : ℕ → ℕ → ℕ → ℕ
nearest num den x = (2 * (num * x) + den) / (2 * den)

-- a span × threshold; refusal 7 reads the rounded delay. 01 'Lost or not'
unfoldable pub product_of : Span → TimeThreshold → Result Span Refusal
product_of s t = as_span (within (nearest (numerator_of t) (denominator_of t) s.0))

-- the whole part, as the Rust's `as usize` has it: 0 for a NaN or below 0, 2^64-1 where it is past that. 01 'Order and changes of shape'
abbrev pub truncated_of : Float → ℕ
truncated_of x = to_unsigned 64 x

-- a whole number as a 64-bit float, rounded once. 01 'CUBIC (001)'
abbrev pub float_of : ℕ → Float
float_of n = of_int binary64 (pos n)

-- seconds = whole seconds + rest / 1e9, which is 0x41cd_cd65_0000_0000. 01 'CUBIC (001)'
unfoldable pub seconds_of : Span → Float
seconds_of s = add binary64 (float_of (s.0 / 1000000000)) (div binary64 (float_of (s.0 % 1000000000)) (from_bits binary64 0x41cd_cd65_0000_0000))

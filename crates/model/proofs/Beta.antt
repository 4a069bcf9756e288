-- 0.7 of a window, cut to a whole number, is less than the window. Assumes nothing.
use mathlib.Core.Path.{◌≡◌, refl, sym, subst}
use mathlib.Core.Bool.{true, false}
use Prim.Native.Nat.{ℕ, ◌*◌, ◌/◌, ◌^◌, ◌≤◌, ◌<◌}
use native.Mathlib.Nat.{lt_of_lt_of_le, mul_assoc, mul-one}
use native.Mathlib.Omega.{arith}
use lib.Dec.{T, lit<, lit≤}
use lib.Pow.{shl_lt}
use lib.Ieee.{Float, nan, inf, fin, binary64, round, mul, le, of_int, of_bits, to_unsigned}
use lib.Ieee.Exact.{HasValue, round_exact}
use lib.Ieee.Nearest.{div_mono}
use lib.Ieee.Order.{round_mono}
use lib.Ieee.Positive.{num, den, positive, own_value, den_pos, positive_of_value, values_of_le, between, mul_at}
use Rattle.arith.specs.Round.{float_of}
use Rattle.model.specs.Cubic.{beta, times_beta}

-- what a positive float is cut to
cut : (x : Float) → T (positive x) → to_unsigned 64 x ≤ num x / den x
unfolding to_unsigned
cut nan p = absurd p
cut (inf s) p = absurd p
cut (fin true m e) p = absurd p
cut (fin false m e) p = omega arith

module _ (n : ℕ) (some : 0 < n) (most : n ≤ 2 ^ 30) where
  -- small multiples of the window, whole, halved and quartered, are floats exactly
  whole : HasValue (float_of n) false n 1
  unfolding of_int
  whole = round_exact binary64 false n 1 n 1074 (lit< tt) (omega arith) (lt_of_lt_of_le (shl_lt 53 1074 (omega arith)) (lit≤ tt)) (sym (mul-one (n * 2 ^ 1074)))

  abbrev half_of : Float
  half_of = round binary64 false (n * 1) 2

  half : HasValue half_of false (n * 1) 2
  half = round_exact binary64 false (n * 1) 2 (n * 1) 1073 (lit< tt) (omega arith) (lt_of_lt_of_le (shl_lt 53 1073 (omega arith)) (lit≤ tt)) (sym (mul_assoc (n * 1) (2 ^ 1073) 2))

  abbrev quarters_of : Float
  quarters_of = round binary64 false (n * 3) 4

  quarters : HasValue quarters_of false (n * 3) 4
  quarters = round_exact binary64 false (n * 3) 4 (n * 3) 1072 (lit< tt) (omega arith) (lt_of_lt_of_le (shl_lt 53 1072 (omega arith)) (lit≤ tt)) (sym (mul_assoc (n * 3) (2 ^ 1072) 4))

  abbrev product : Float
  product = mul binary64 (float_of n) beta

  product_is : product ≡ round binary64 false (n * 3152519739159347) (1 * 4503599627370496)
  unfolding of_bits
  product_is = mul_at binary64 (float_of n) beta n 1 3152519739159347 4503599627370496 (positive_of_value (float_of n) n 1 whole some) tt (lit< tt) (lit< tt) whole (refl, refl)

  above_half : T (le half_of product)
  above_half = subst (λ (x : Float). T (le half_of x)) (sym product_is) (round_mono binary64 (n * 1) 2 (n * 3152519739159347) (1 * 4503599627370496) (lit< tt) (lit< tt) (omega arith))

  below-quarters : T (le product quarters_of)
  below-quarters = subst (λ (x : Float). T (le x quarters_of)) (sym product_is) (round_mono binary64 (n * 3152519739159347) (1 * 4503599627370496) (n * 3) 4 (lit< tt) (lit< tt) (omega arith))

  pub beta-less : times_beta n < n
  unfolding times_beta
  beta-less =
      let p : T (positive half_of) = positive_of_value half_of (n * 1) 2 half (omega arith) in
      let q : T (positive quarters_of) = positive_of_value quarters_of (n * 3) 4 quarters (omega arith) in
      let z : T (positive product) = between half_of product quarters_of p q above_half below-quarters in
      let v : num product * 4 ≤ n * 3 * den product = values_of_le product quarters_of (num product) (den product) (n * 3) 4 z q (own_value product z) quarters below-quarters in
      let d : num product / den product ≤ n * 3 / 4 = div_mono (num product) (den product) (n * 3) 4 (den_pos product) (lit< tt) v in
      omega (arith, cut product z)

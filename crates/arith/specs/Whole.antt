-- Whole numbers up to 2^53-1. 01 'The stage numbers'. Definitions only.
use Rattle.std.specs.Prelude.{ℕ, ◌+◌, ◌-◌, ◌*◌, min, max, cond, nat_le, Result, Ok, Err}
use Rattle.arith.specs.declared.refusal.Refusal.{Refusal}
use Rattle.arith.specs.declared.refusal.Refusal.TheVariants.{TooLarge}

-- 2^53-1. 01 'The stage numbers'
abbrev pub limit : ℕ
limit = 9007199254740991

-- n, or that it passes 2^53-1. 01 'The stage numbers', refusal 7
unfoldable pub within : ℕ → Result ℕ Refusal
within n = cond (nat_le n limit) (Ok n) (Err TooLarge)

-- 01 'The stage numbers': a sum that the rules reach
unfoldable pub sum_of : ℕ → ℕ → Result ℕ Refusal
sum_of a b = within (a + b)

-- 01 'The stage numbers': a whole-number product that the rules reach
unfoldable pub times_of : ℕ → ℕ → Result ℕ Refusal
times_of a b = within (a * b)

-- |a - b|. 01 'RTT (002)'
abbrev pub gap_of : ℕ → ℕ → ℕ
gap_of a b = max a b - min a b

-- the number, 0 where it is refused
abbrev pub sum_value : Result ℕ Refusal → ℕ
sum_value (Ok n) = n
sum_value (Err why) = 0

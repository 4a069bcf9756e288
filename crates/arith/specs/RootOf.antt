-- The cube root's answer as a function, to compute with in tables and in definitions above. That it is the answer of Root.antt is `root_is` of proofs/Answer.antt. Definitions only.
use Rattle.std.specs.Prelude.{ℕ, zero, suc, ◌+◌, ◌*◌, ◌/◌, ◌%◌, ◌^◌, cond, from_bits, nat_le, to_bits, Float, Result, Ok, Err}
use Rattle.std.specs.Float.{binary64}
use Rattle.std.specs.Float.Ieee.{le, eq}
use Rattle.arith.specs.Root.{nought, least, greatest}
use Rattle.arith.specs.declared.refusal.Refusal.{Refusal}
use Rattle.arith.specs.declared.refusal.Refusal.TheVariants.{Domain}

-- the largest whole number whose cube is at most n, a bit at a time, below q + 2^k
unfoldable pub whole_from : ℕ → ℕ → ℕ → ℕ
whole_from zero q n = q
whole_from (suc k) q n = whole_from k (cond (nat_le ((q + 2 ^ k) * (q + 2 ^ k) * (q + 2 ^ k)) n) (q + 2 ^ k) q) n

-- the root's pattern from the argument's, in the range: the digits are those of a whole root, the exponent is a third
unfoldable pub root_bits : ℕ → ℕ
unfolding whole_from
root_bits b =
    let e = b / 2 ^ 52 in
    (e / 3 + 681) * 2 ^ 52 + whole_from 52 (2 ^ 52) ((b % 2 ^ 52 + 2 ^ 52) * 2 ^ (e % 3) * 2 ^ 104)

-- 01 'CUBIC (001)', 'The stage numbers' refusal 2
unfoldable pub root_of : Float → Result Float Refusal
unfolding root_bits
root_of x =
    cond (eq x nought) (Ok nought) (cond (le least x) (cond (le x greatest) (Ok (from_bits binary64 (root_bits (to_bits binary64 x)))) (Err Domain)) (Err Domain))

-- `arith::root::cube_root` meets its contract. Each return is a case of the answer; the range bounds the argument's exponent, so that nothing wraps.
use Rattle.std.proofs.Common.{ℕ, ◌+◌, ◌/◌, ◌%◌, ◌<◌, ◌≤◌, T, sym, subst, arith}
use lib.Ieee.{binary64, of_bits, to_bits}
use Rattle.arith.proofs.root.Units.{shifted}
use Rattle.arith.proofs.root.Wrap.{Argument, argument, written-no-nan, is-largest}
use Rattle.arith.proofs.Answer.{rooted, zero-answer, root_answer, low-answer, high-answer}
use Rattle.arith.proofs.root.cube_root.Goals.{Then-x-3}
use Rattle.arith.proofs.root.cube_root.Goals as goal

pub returns-then-x : goal.returns-then-x
unfolding of_bits
returns-then-x c = rooted _ _ (subst T (sym c.well_formed.0.1) tt) (zero-answer _ c.if-x.true)

-- what the tests and the format say of the argument's pattern
seen : (c : Then-x-3) → Argument c.args.x (to_bits binary64 c.args.x)
unfolding of_bits
seen c = argument _ (subst T (sym c.well_formed.0.1) tt) (subst T (sym c.if-x-2.true) tt) (subst T (sym c.if-x-3.true) tt)

pub whole_root-q-requires : goal.whole_root-q-requires
whole_root-q-requires c =
    let b = to_bits binary64 c.args.x in let s = shifted (b % 4503599627370496 + 4503599627370496) (b / 4503599627370496) (omega arith) (omega arith) in (subst (λ (a : ℕ). 4503599627370496 ≤ a) (sym s.fits) s.least, subst (λ (a : ℕ). a < 36028797018963968) (sym s.fits) s.most)

pub overflow_add-result : goal.overflow_add-result
overflow_add-result c = omega (arith, (seen (goal.at.overflow_add-result c).Then-x-3).hi)

pub overflow_mul-result : goal.overflow_mul-result
overflow_mul-result c = omega (arith, (seen (goal.at.overflow_mul-result c).Then-x-3).hi)

pub overflow_add-result-then-x-3 : goal.overflow_add-result-then-x-3
overflow_add-result-then-x-3 c = omega (arith, (seen (goal.at.overflow_add-result-then-x-3 c).Then-x-3).hi)

pub float_from_bits-result : goal.float_from_bits-result
float_from_bits-result c =
    let h = (seen (goal.at.float_from_bits-result c).Then-x-3).hi in written-no-nan _ _ (omega arith) c.whole_root-q.ensures.1 c.whole_root-q.ensures.2

pub returns-then-x-3 : goal.returns-then-x-3
unfolding of_bits
returns-then-x-3 c =
    rooted _ _ (subst T (sym c.well_formed.0.1) tt) (root_answer _ _ c.if-x.false c.if-x-2.true c.if-x-3.true (is-largest _ _ _ (seen (goal.at.returns-then-x-3 c).Then-x-3) c.whole_root-q.ensures.0 c.whole_root-q.ensures.1 c.whole_root-q.ensures.2))

pub returns-else-x-3 : goal.returns-else-x-3
unfolding of_bits
returns-else-x-3 c =
    rooted _ _ (subst T (sym c.well_formed.0.1) tt) (high-answer _ c.if-x.false c.if-x-2.true c.if-x-3.false)

pub returns-else-x-2 : goal.returns-else-x-2
unfolding of_bits
returns-else-x-2 c = rooted _ _ (subst T (sym c.well_formed.0.1) tt) (low-answer _ c.if-x.false c.if-x-2.false)

-- `arith::round::truncated` meets its contract. The two tests are what the truncation asks; outside them the whole part is one of the two ends.
use Rattle.std.proofs.Common.{T, sym, subst}
use lib.Ieee.{of_bits, neg}
use Rattle.arith.proofs.Laws.{past_words, not-above}
use Rattle.arith.proofs.round.truncated.Goals as goal

pub truncating_f64_to_u64-requires : goal.truncating_f64_to_u64-requires
unfolding of_bits neg
truncating_f64_to_u64-requires c = record { lower_bound = subst T (sym c.if-x.true) tt; upper_bound = subst T (sym c.if-x-2.true) tt }

pub returns-then-x : goal.returns-then-x
unfolding of_bits neg
returns-then-x c = past_words _ c.if-x.true c.if-x-2.false

pub returns : goal.returns
unfolding of_bits neg
returns c = not-above _ c.if-x.false

-- `ranges::are_ranges` meets its contract. The invariant: the words left ascend if and only if all do.
use Rattle.records.proofs.Pairs.{ascending_on}
use Rattle.records.proofs.ranges.are_ranges.Goals as goal

pub loop-rest-preserved : goal.loop-rest-preserved
loop-rest-preserved c = ascending_on _ _ c.in-len2-up.len_at_least c.loop-rest.invariant c.if-start-least.false c.if-end-start.false c.if-end-gt-NUMBERS.false

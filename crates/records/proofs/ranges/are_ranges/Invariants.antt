-- `ranges::are_ranges` meets its contract. The invariant: the words left ascend if and only if all do.
use mathlib.Core.Path.{◌≡◌}
use lib.ListN.{length}
use Rattle.model.specs.Ranges.{ascending}
use Rattle.records.proofs.ranges.are_ranges.Given as goal

abbrev pub invariant-loop-rest : goal.invariant-loop-rest
invariant-loop-rest l = ascending l.least l.rest ≡ ascending 0 l.words

abbrev pub decreases-loop-rest : goal.decreases-loop-rest
decreases-loop-rest l = length l.rest

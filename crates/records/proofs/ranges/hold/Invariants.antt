-- `ranges::hold` meets its contract. The invariant: the words left hold x if and only if all do.
use mathlib.Core.Path.{◌≡◌}
use lib.ListN.{length}
use Rattle.model.specs.Ranges.{hold}
use Rattle.records.proofs.ranges.hold.Given as goal

abbrev pub invariant-loop-rest : goal.invariant-loop-rest
invariant-loop-rest l = hold l.rest l.x ≡ hold l.words l.x

abbrev pub decreases-loop-rest : goal.decreases-loop-rest
decreases-loop-rest l = length l.rest

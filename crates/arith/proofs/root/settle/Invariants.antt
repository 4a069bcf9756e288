-- `arith::root::settle` meets its contract. The invariant: the root lies from lo on and below hi. The measure is their distance.
use Rattle.std.proofs.Common.{◌-◌, ◌*◌, ◌<◌, ◌≤◌}
use Rattle.arith.proofs.root.settle.Given as goal

abbrev pub invariant-loop-hi : goal.invariant-loop-hi
invariant-loop-hi l = (l.from ≤ l.lo) × (l.lo < l.hi) × (l.hi ≤ l.to) × (l.lo * l.lo * l.lo ≤ l.a * 20282409603651670423947251286016) × (l.a * 20282409603651670423947251286016 < l.hi * l.hi * l.hi)

abbrev pub decreases-loop-hi : goal.decreases-loop-hi
decreases-loop-hi l = l.hi - l.lo

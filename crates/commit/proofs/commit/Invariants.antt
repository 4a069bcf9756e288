-- `commit::commit` meets its contract. The loop's invariant: memory and queues are what the first i places leave (`After`), and no place has queued more than one handle.
-- Assumes nothing.
use Prim.Native.Nat.{◌+◌, ◌≤◌}
use Rattle.model.specs.Numbers.{capacity}
use Rattle.commit.proofs.Turns.{After}
use Rattle.commit.proofs.commit.Given as goal

abbrev pub invariant-loop-i : goal.invariant-loop-i
invariant-loop-i g l = (After l.initial.m l.n l.head l.len (g.F.Flags.seen l.flags) l.last l.t.from l.t.stop l.t.keep l.stamp l.fn.q.acked l.fn.q.lost l.i l.m l.after) × ((l.after.acked ≤ capacity + l.i) × (l.after.lost ≤ capacity + l.i))

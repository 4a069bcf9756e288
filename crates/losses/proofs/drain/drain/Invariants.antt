-- `drain::drain` meets its contract. The loop's invariant: draining from place i on ends where draining from the start does.
use Prim.Native.Nat.{min}
use mathlib.Core.Path.{◌≡◌}
use Rattle.marks.specs.Marks.{settled_at}
use Rattle.losses.specs.Drain.{drained_to}
use Rattle.losses.proofs.drain.drain.Given as goal

abbrev pub invariant-loop-i : goal.invariant-loop-i
invariant-loop-i g l = let f = settled_at l.m l.n l.head (g.F.Flags.seen l.flags) l.stop l.time in
    drained_to l.time l.smoothed f l.i l.count ≡ drained_to l.time l.smoothed f (min l.from l.count) l.count

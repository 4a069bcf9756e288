-- `detect::seek` meets its contract. The loop's invariant: seeking from the place on with the tally comes to what seeking from the start does, and no more packets than places were lost.
use Prim.Native.Nat.{◌≤◌, ◌-◌, min}
use mathlib.Core.Path.{◌≡◌}
use Rattle.records.specs.View.{ring}
use Rattle.marks.specs.Marks.{acked_at}
use Rattle.marks.specs.Survey.{seek}
use Rattle.losses.specs.Seek.{seek_from}
use Rattle.losses.proofs.detect.seek.Given as goal

abbrev pub invariant-loop-place : goal.invariant-loop-place
invariant-loop-place g l = let f = acked_at l.m l.n l.head (g.F.Flags.seen l.flags) in
    record {
      packets : l.tally.packets ≤ l.place;
      sought : seek l.j l.place (ring f l.place (l.count - l.place)) l.tally ≡ seek_from l.j f (min l.from l.count) l.count l.queued l.in_flight;
    }

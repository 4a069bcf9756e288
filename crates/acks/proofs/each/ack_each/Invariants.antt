-- `acks::each::ack_each` meets its contract. Invariant: the moves of the places left, from the controller so far, are the moves of all.
use Rattle.acks.proofs.Turns.{each}
use Rattle.acks.specs.Places.{places_of}
use Rattle.marks.specs.Marks.{flagged, held_at}
use Prim.Native.Nat.{◌-◌}
use mathlib.Core.Path.{◌≡◌}
use Rattle.acks.proofs.each.ack_each.Given as goal

abbrev pub invariant-loop-i : goal.invariant-loop-i
invariant-loop-i g l = let e = each l.time l.limited l.min_rtt (flagged (g.F.Flags.seen l.flags)) (held_at l.m l.n l.head) in
    e l.i (places_of l.len l.last - l.i) l.after ≡ e 0 (places_of l.len l.last) l.initial.after

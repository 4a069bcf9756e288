-- `acks::meet::meet_all` meets its contract. Invariant: the survey of the places left, from the tally so far, is the survey of all.
use Rattle.acks.proofs.Fitting.{Meeting}
use Rattle.acks.specs.Fitted.{fresh}
use Rattle.acks.specs.Places.{places_of}
use Rattle.marks.specs.Marks.{flagged, held_at}
use Rattle.acks.proofs.meet.meet_all.Given as goal

abbrev pub invariant-loop-i : goal.invariant-loop-i
invariant-loop-i g l = Meeting (flagged (g.F.Flags.seen l.flags)) (held_at l.m l.n l.head) l.largest (places_of l.len l.last) (fresh l.queued l.in_flight) l.i l.t

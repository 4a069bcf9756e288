-- `fill` meets its contract: its turns go on from the first. The measure is what is left of the trace.
use mathlib.Core.List.{[]}
use lib.ListN.{length}
use Rattle.playback.specs.Printed.{Shows}
use Rattle.playback.proofs.Chunk.{left}
use Rattle.replay.proofs.fill.Given as goal

abbrev pub invariant-loop-ended : goal.invariant-loop-ended
invariant-loop-ended l = Shows l.bytes [] l.chunk l.fn.r l.r l.ended

abbrev pub decreases-loop-ended : goal.decreases-loop-ended
decreases-loop-ended l = left (length l.bytes) l.ended l.r.at

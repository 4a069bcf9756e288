-- What is written and what is still to come are what was to come.
use Rattle.std.proofs.Common.{length}
use Rattle.playback.proofs.Chunk.{left}
use Rattle.program.proofs.Printing.{Printing}
use Rattle.program.proofs.print_lines.Given as goal

abbrev pub invariant-loop-ended : goal.invariant-loop-ended
invariant-loop-ended g l = Printing g.P.Printer.to_come l.bytes (g.W.Write.contents l.initial.out) (g.W.Write.contents l.out) l.initial.r.replay l.r.replay l.ended

abbrev pub decreases-loop-ended : goal.decreases-loop-ended
decreases-loop-ended g l = left (length l.bytes) l.ended l.r.replay.at

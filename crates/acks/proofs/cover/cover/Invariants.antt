-- `acks::cover::cover` meets its contract. Invariant: the words passed are done, and the rest of the ranges goes on among the records left.
use Rattle.acks.proofs.Flags.{Found}
use Rattle.records.specs.View.{records_of}
use lib.ListN.{length}
use Rattle.acks.proofs.cover.cover.Given as goal

abbrev pub invariant-loop-rest : goal.invariant-loop-rest
invariant-loop-rest l = Found (records_of l.m l.n l.first l.count) l.words l.rest l.w l.flags

abbrev pub decreases-loop-rest : goal.decreases-loop-rest
decreases-loop-rest l = length l.rest

-- `acks::cover::walk` meets its contract. Invariant: the places passed are flagged, and what is left to count is counted from there.
use Rattle.acks.proofs.Flags.{Walking}
use Rattle.acks.proofs.cover.walk.Given as goal

abbrev pub invariant-loop-i : goal.invariant-loop-i
invariant-loop-i l = Walking l.m l.n l.first l.count l.end l.from l.initial.flags l.i l.flags

-- `put::put_word` meets its contract. The invariant: the bytes passed are written.
use Rattle.std.proofs.Common.{take}
use Rattle.trace.specs.Put.{Put}
use Rattle.trace.proofs.put.put_word.Given as goal

abbrev pub invariant-loop-b : goal.invariant-loop-b
invariant-loop-b l = Put l.initial.out l.at (take l.b-index l.word) l.out l.place

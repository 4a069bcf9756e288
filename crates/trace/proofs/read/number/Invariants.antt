-- `read::number` meets its contract. The invariant: n is the number of the bytes passed.
use Rattle.std.proofs.Common.{◌≡◌, ◌^◌, ◌<◌, take}
use Rattle.model.specs.Trace.{big_endian}
use Rattle.trace.proofs.read.number.Given as goal

abbrev pub invariant-loop-b : goal.invariant-loop-b
invariant-loop-b l = (l.n < 256 ^ l.b-index) × (l.n ≡ big_endian 0 (take l.b-index l.bytes))

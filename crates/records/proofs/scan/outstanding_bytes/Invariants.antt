-- `scan::outstanding_bytes` meets its contract. The invariant: the total and what is still out of the records from place i on are the whole.
use mathlib.Core.Path.{◌≡◌}
use Prim.Native.Nat.{◌+◌, ◌-◌, ◌≤◌}
use Rattle.arith.specs.Whole.{limit}
use Rattle.model.specs.Connection.{outstanding}
use Rattle.records.specs.View.{records_of}
use Rattle.records.proofs.scan.outstanding_bytes.Given as goal

abbrev pub invariant-loop-i : goal.invariant-loop-i
invariant-loop-i l = (l.total ≤ limit) × (l.total + outstanding (records_of l.m l.n (l.first + l.i) (l.count - l.i)) ≡ outstanding (records_of l.m l.n l.first l.count))

-- `audit` meets its contract. The invariant: the total so far and what is still out of the records left are the whole.
use Rattle.std.proofs.Common.{drop, ◌+◌, ◌≡◌, ◌≤◌}
use Rattle.arith.specs.Whole.{limit}
use Rattle.model.specs.Connection.{outstanding}
use Rattle.audit.proofs.audit.Given as goal

abbrev pub invariant-loop-r : goal.invariant-loop-r
invariant-loop-r l = (l.total ≤ limit) × (l.total + outstanding (drop l.r-index l.records) ≡ outstanding l.records)

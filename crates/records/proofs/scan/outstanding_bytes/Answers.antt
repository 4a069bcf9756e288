-- `scan::outstanding_bytes` meets its contract. The invariant: the total and what is still out of the records from place i on are the whole.
use Rattle.records.proofs.Bytes.{scan_end}
use Rattle.records.proofs.scan.outstanding_bytes.Goals as goal

pub returns : goal.returns
returns c = rw (← c.held-count.ensures) (scan_end _ _ _ _ _ _ _ c.loop-i.invariant.1 c.loop-i-test.false c.loop-i.invariant.0)

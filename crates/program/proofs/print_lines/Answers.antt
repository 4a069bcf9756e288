-- `print_lines` meets its contract: texts one after another, until the last.
use Rattle.program.proofs.Printing.{printing_none, printing_more}
use Rattle.program.proofs.print_lines.Goals as goal

pub loop-ended-init : goal.loop-ended-init
loop-ended-init g c = printing_none _ _

pub loop-ended-preserved : goal.loop-ended-preserved
loop-ended-preserved g c = printing_more _ c.loop-ended-test.true c.loop-ended.invariant c.in_ok-ended.ensures

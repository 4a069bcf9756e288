-- `loss::no_flags` meets its contract: no flag is set.
use Rattle.timeout.proofs.Losing.{unflagged}
use Rattle.timeout.proofs.loss.no_flags.Goals as goal

pub returns : goal.returns
returns c = unflagged

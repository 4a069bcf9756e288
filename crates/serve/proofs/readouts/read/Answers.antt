-- `readouts::read` meets its contract: by what is claimed of each.
use Rattle.serve.specs.Record.{stands_for}
use Rattle.serve.specs.Readouts.{readouts_of}
use Rattle.serve.proofs.Serve.{too-large-says, span-says}
use Rattle.serve.proofs.readouts.read.Goals as goal

pub returns : goal.returns
unfolding readouts_of stands_for
returns c =
    λ m. rw (c.cwnd_available.ensures m, c.from.ensures, c.is_err.ensures.value, c.unwrap_or.ensures, c.pto-pto.ensures m, c.elicits.ensures m, c.lost_waiting.ensures m, c.from-s.ensures, too-large-says, span-says)

-- `start::start_with` meets its contract: nothing is held.
use Rattle.playback.proofs.start.start_with.Goals as goal

pub returns : goal.returns
returns c = rw c.new.ensures

-- `events::play_timeout` meets its contract: the event's own claim, lifted.
use mathlib.Core.Path.{refl}
use Rattle.model.specs.Run as run
use Rattle.trace.specs.Says.{event_says}
use Rattle.play.proofs.Lifted.{lifts, timed-out-says}
use Rattle.play.proofs.events.play_timeout.Goals as goal

pub returns : goal.returns
unfolding run.step event_says
returns c =
    rw c.told.ensures (lifts run.of_timeout _ _ _ (timed-out-says c.on_loss_detection_timeout.result.outcome _ refl) c.on_loss_detection_timeout.ensures)

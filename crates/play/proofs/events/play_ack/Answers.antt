-- `events::play_ack` meets its contract: the event's own claim, lifted.
use mathlib.Core.Path.{refl}
use Rattle.model.specs.Run as run
use Rattle.trace.specs.Says.{event_says}
use Rattle.play.proofs.Lifted.{lifts, acked-says}
use Rattle.play.proofs.events.play_ack.Goals as goal

pub returns : goal.returns
unfolding run.step event_says
returns c =
    rw c.told.ensures (lifts run.of_ack _ _ _ (acked-says c.on_ack_received.result.outcome _ refl) c.on_ack_received.ensures)

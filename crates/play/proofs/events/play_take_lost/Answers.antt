-- `events::play_take_lost` meets its contract: the event's own claim, lifted.
use mathlib.Core.Path.{refl}
use Rattle.model.specs.Run as run
use Rattle.trace.specs.Says.{event_says}
use Rattle.play.proofs.Lifted.{lifts, taken-says}
use Rattle.play.proofs.events.play_take_lost.Goals as goal

pub returns : goal.returns
unfolding run.step event_says
returns c =
    rw c.told.ensures (lifts run.handle _ _ _ (taken-says c.next_lost_frame.result.outcome _ refl) c.next_lost_frame.ensures)

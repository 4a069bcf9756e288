-- `events::play_sent` meets its contract: the event's own claim, lifted.
use Prim.Native.Nat.{ℕ}
use mathlib.Core.Path.{refl}
use Rattle.model.specs.Run as run
use Rattle.trace.specs.Says.{event_says}
use Rattle.play.proofs.Lifted.{lifts, done-says}
use Rattle.play.proofs.events.play_sent.Goals as goal

pub returns : goal.returns
unfolding run.step event_says
returns c =
    rw c.told.ensures (lifts (λ (x : ℕ). run.done) _ _ _ (done-says c.on_packet_sent.result.outcome _ refl) c.on_packet_sent.ensures)

-- `control::forgiven` meets its contract: a rollback, if a spurious record was in flight.
use Rattle.model.specs.Control.{moved, control}
use mathlib.Core.Path.{refl}
use Rattle.tracker.proofs.control.forgiven.Goals as goal

pub returns-then-spurious_in_flight : goal.returns-then-spurious_in_flight
unfolding control moved
returns-then-spurious_in_flight c = rw (c.if-spurious_in_flight.true, c.rollback.ensures) refl

pub returns-else-spurious_in_flight : goal.returns-else-spurious_in_flight
unfolding control moved
returns-else-spurious_in_flight c = rw c.if-spurious_in_flight.false refl

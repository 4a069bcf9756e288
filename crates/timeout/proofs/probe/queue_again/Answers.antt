-- `probe::queue_again` meets its contract: a queue that holds handles stays, an empty one is filled.
use Rattle.timeout.proofs.Probing.{stays, filled}
use native.Mathlib.Omega.{arith}
use Rattle.timeout.proofs.probe.queue_again.Goals as goal

pub returns-then-q-ne0 : goal.returns-then-q-ne0
returns-then-q-ne0 c = stays _ _ _ _ (λ z. omega arith)

pub returns : goal.returns
returns c = filled _ _ _ _ (omega arith) c.probe_handles.ensures

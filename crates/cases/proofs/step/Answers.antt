-- `step` meets its contract: a turn that is told, by `step-shows`.
use native.Mathlib.Omega.{arith}
use Rattle.playback.proofs.Shown.{step-shows}
use Rattle.cases.proofs.step.Goals as goal

pub returns : goal.returns
returns c =
    step-shows _ _ _ _ (omega (arith, c.type_inv.bytes c.args.r.now.at)) (omega arith) c.requires c.turn-met.ensures _ _ _ _ (rw c.clear.ensures at c.tell.ensures) (omega arith)

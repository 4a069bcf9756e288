-- `loss::loss_timeout` meets its contract: what was decided, committed or refused, is the claim (proofs/Losing.antt).
use Rattle.timeout.proofs.Losing.{loss-does, loss-refused}
use mathlib.Core.Path.{sym, ◌∙◌}
use Rattle.timeout.proofs.loss.loss_timeout.Goals as goal

pub returns-in-Err : goal.returns-in-Err
returns-in-Err c =
    rw c.refused.ensures (loss-refused _ c.full.ensures.1 _ c.requires.1 _ _ c.no_flags-flags.ensures _ _ (sym c.plan_loss.ensures ∙ c.in-Err.is))

pub returns-in-Ok : goal.returns-in-Ok
returns-in-Ok c =
    loss-does _ c.full.ensures.1 _ c.requires.1 _ _ c.no_flags-flags.ensures _ _ (sym c.plan_loss.ensures ∙ c.in-Ok.is) c.requires.0 (rw (c.normal.ensures, c.space_at.ensures) at c.commit.ensures)

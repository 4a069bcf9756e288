-- `probe::probe_timeout` meets its contract: what was decided, stored or refused, is the claim (proofs/Probing.antt).
use Rattle.timeout.proofs.Probing.{probe-does, probe-refused}
use mathlib.Core.Path.{sym, ◌∙◌}
use Rattle.timeout.proofs.probe.probe_timeout.Goals as goal

pub returns-in-Err : goal.returns-in-Err
returns-in-Err c =
    rw c.refused.ensures (probe-refused _ c.full.ensures.1 _ _ _ (sym c.plan_probe.ensures ∙ c.in-Err.is))

pub returns-in-Ok : goal.returns-in-Ok
returns-in-Ok c =
    probe-does _ c.full.ensures.1 _ _ _ (sym c.plan_probe.ensures ∙ c.in-Ok.is) c.probe.ensures

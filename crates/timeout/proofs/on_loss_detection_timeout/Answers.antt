-- `on_loss_detection_timeout` meets its contract: refusal 1, then by whether a loss time stands (proofs/Whole.antt).
use Rattle.timeout.proofs.Whole.{late, clock-limit, as-loss, as-probe}
use Rattle.model.proofs.Spaces.{earliest-small}
use Rattle.model.specs.declared.TimeAndSpace.{TimeAndSpace}
use mathlib.Core.Path.{sym, ap, ◌∙◌}
use Rattle.timeout.proofs.on_loss_detection_timeout.Goals as goal

pub returns-then-not-on_clock : goal.returns-then-not-on_clock
returns-then-not-on_clock c = rw c.refused.ensures (late _ _ _ _ (sym c.on_clock.ensures ∙ c.if-not-on_clock.true))

pub loss_timeout-requires : goal.loss_timeout-requires
loss_timeout-requires c =
    (clock-limit _ _ (sym c.on_clock.ensures ∙ c.if-not-on_clock.false), rw c.loss_time_and_space-earliest.ensures (earliest-small _ _ _))

pub returns-in-Some : goal.returns-in-Some
returns-in-Some c =
    as-loss _ _ _ _ (sym c.on_clock.ensures ∙ c.if-not-on_clock.false) (ap (λ (x : TimeAndSpace). x.time) (sym c.loss_time_and_space-earliest.ensures) ∙ c.in-Some.is) (rw (← c.loss_time_and_space-earliest.ensures) c.loss_timeout.ensures)

pub returns-in-None : goal.returns-in-None
returns-in-None c =
    as-probe _ _ _ _ (sym c.on_clock.ensures ∙ c.if-not-on_clock.false) (ap (λ (x : TimeAndSpace). x.time) (sym c.loss_time_and_space-earliest.ensures) ∙ c.in-None.is) c.probe_timeout.ensures

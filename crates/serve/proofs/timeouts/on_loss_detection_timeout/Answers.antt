-- `timeouts::on_loss_detection_timeout` meets its contract: by what is claimed of the event on words and state.
use mathlib.Core.Path.{sym, ◌∙◌}
use Rattle.serve.specs.Answers.{timeout_said}
use Rattle.serve.specs.Record.{stands_for}
use Rattle.serve.specs.Events.{timeout_step, timeout_lay}
use Rattle.serve.proofs.Serve.{serves, unserved}
use Rattle.serve.proofs.timeouts.on_loss_detection_timeout.Goals as goal

pub returns-then-not-is_sealed : goal.returns-then-not-is_sealed
unfolding timeout_step
returns-then-not-is_sealed c = rw c.not_begun.ensures (unserved timeout_said _ _ _ (sym c.is_sealed.ensures ∙ c.if-not-is_sealed.true))

pub returns : goal.returns
unfolding timeout_step timeout_lay stands_for
returns c =
    rw c.done.ensures
    (serves timeout_said _ _ c.args.v _ _ _ _ _ (sym c.is_sealed.ensures ∙ c.if-not-is_sealed.false)
    (rw (c.from.ensures, c.into.ensures) at c.on_loss_detection_timeout.ensures))

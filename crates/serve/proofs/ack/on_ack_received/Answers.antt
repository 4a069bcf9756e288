-- `ack::on_ack_received` meets its contract: by what is claimed of the event on words and state.
use mathlib.Core.Path.{sym, ◌∙◌}
use Rattle.serve.specs.Answers.{ack_said}
use Rattle.serve.specs.Record.{stands_for}
use Rattle.serve.specs.Events.{ack_step, ack_lay}
use Rattle.serve.proofs.Serve.{serves, unserved}
use Rattle.serve.proofs.ack.on_ack_received.Goals as goal

pub returns-then-not-is_sealed : goal.returns-then-not-is_sealed
unfolding ack_step
returns-then-not-is_sealed c = rw c.not_begun.ensures (unserved ack_said _ _ _ (sym c.is_sealed.ensures ∙ c.if-not-is_sealed.true))

pub returns : goal.returns
unfolding ack_step ack_lay stands_for
returns c =
    rw c.done.ensures
    (serves ack_said _ _ c.args.v _ _ _ _ _ (sym c.is_sealed.ensures ∙ c.if-not-is_sealed.false)
    (rw (c.from.ensures, c.skipped_of.ensures, c.into.ensures, c.is_odd.ensures) at c.on_ack_received.ensures))

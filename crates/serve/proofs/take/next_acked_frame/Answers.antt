-- `take::next_acked_frame` meets its contract: by what is claimed of the event on words and state.
use mathlib.Core.Path.{sym, ◌∙◌}
use Rattle.serve.specs.Answers.{take_said}
use Rattle.serve.specs.Record.{stands_for}
use Rattle.serve.specs.Events.{take_acked_step, space_lay}
use Rattle.serve.proofs.Serve.{serves, unserved}
use Rattle.serve.proofs.take.next_acked_frame.Goals as goal

pub returns-then-not-is_sealed : goal.returns-then-not-is_sealed
unfolding take_acked_step
returns-then-not-is_sealed c = rw c.not_begun.ensures (unserved take_said _ _ _ (sym c.is_sealed.ensures ∙ c.if-not-is_sealed.true))

pub returns : goal.returns
unfolding take_acked_step space_lay stands_for
returns c =
    rw c.done.ensures
    (serves take_said _ _ c.args.v _ _ _ _ _ (sym c.is_sealed.ensures ∙ c.if-not-is_sealed.false)
    (rw c.from.ensures at c.next_acked_frame.ensures))

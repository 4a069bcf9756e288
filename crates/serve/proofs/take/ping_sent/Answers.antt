-- `take::ping_sent` meets its contract: by what is claimed of the event on words and state.
use mathlib.Core.Path.{sym, ◌∙◌}
use Rattle.model.specs.Run.{refusal_of}
use Rattle.serve.specs.Record.{stands_for}
use Rattle.serve.specs.Events.{ping_step, space_lay}
use Rattle.serve.proofs.Serve.{serves, unserved, number-says, kept-says}
use Rattle.serve.proofs.take.ping_sent.Goals as goal

pub returns-then-not-is_sealed : goal.returns-then-not-is_sealed
unfolding ping_step
returns-then-not-is_sealed c = rw c.not_begun.ensures (unserved refusal_of _ _ _ (sym c.is_sealed.ensures ∙ c.if-not-is_sealed.true))

pub returns : goal.returns
unfolding ping_step space_lay stands_for
returns c =
    rw (c.done.ensures, number-says, kept-says)
    (serves refusal_of _ _ c.args.v _ _ _ _ _ (sym c.is_sealed.ensures ∙ c.if-not-is_sealed.false)
    (rw c.from.ensures at (c.ping_sent.ensures c.args.m.now)))

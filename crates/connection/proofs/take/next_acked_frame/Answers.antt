-- `take::next_acked_frame` meets its contract: by `acked-does` and `acked-refused`.
use mathlib.Core.Path.{◌∙◌}
use Rattle.connection.proofs.Events.{acked-refused, acked-does}
use Rattle.connection.specs.View.{normal_of}
use Rattle.connection.proofs.take.next_acked_frame.Goals as goal

pub returns-then-n-ge3 : goal.returns-then-n-ge3
returns-then-n-ge3 c = rw c.refused.ensures (acked-refused c.args.m.now c.args.n c.args.s c.if-n-ge3.true)

pub returns : goal.returns
unfolding normal_of
returns c =
    acked-does c.args.m.now c.args.n c.args.s c.if-n-ge3.false (rw (c.from.ensures, c.normal.ensures, c.space_at.ensures) at c.newest_handle-handle.ensures) (c.with_counts.ensures ∙ rw (c.saturating_sub.ensures, c.normal.ensures, c.space_at.ensures))

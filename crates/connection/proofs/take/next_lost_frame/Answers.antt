-- `take::next_lost_frame` meets its contract: by whether a handle waits that an ACK lost.
use mathlib.Core.Path.{◌∙◌}
use native.Mathlib.Omega.{arith}
use Rattle.connection.proofs.Events.{lost-refused, lost-ack-does, lost-pto-does}
use Rattle.connection.specs.View.{normal_of}
use Rattle.connection.proofs.take.next_lost_frame.Goals as goal

pub returns-then-n-ge3 : goal.returns-then-n-ge3
returns-then-n-ge3 c = rw c.refused.ensures (lost-refused c.args.m.now c.args.n c.args.s c.if-n-ge3.true)

pub returns-then-p-eq0 : goal.returns-then-p-eq0
unfolding normal_of
returns-then-p-eq0 c =
    let none = rw (c.normal.ensures, c.space_at.ensures) at c.if-p-eq0.true in
    lost-pto-does c.args.m.now c.args.n c.args.s c.if-n-ge3.false (omega arith) (rw (c.from.ensures, c.normal.ensures, c.space_at.ensures) at c.newest_handle-handle.ensures) (c.with_counts.ensures ∙ rw (c.saturating_sub.ensures, c.normal.ensures, c.space_at.ensures))

pub returns : goal.returns
unfolding normal_of
returns c =
    let some = rw (c.normal.ensures, c.space_at.ensures) at c.if-p-eq0.false in
    lost-ack-does c.args.m.now c.args.n c.args.s c.if-n-ge3.false (omega arith) (rw (c.from-2.ensures, c.normal.ensures, c.space_at.ensures) at c.newest_handle-handle-2.ensures) (c.with_counts-2.ensures ∙ rw (c.saturating_sub-2.ensures, c.normal.ensures, c.space_at.ensures))

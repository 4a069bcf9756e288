-- `take::ping_sent` meets its contract: by `ping-does` and `ping-refused`, for all words.
use mathlib.Core.Path.{◌∙◌}
use Rattle.connection.proofs.Events.{ping-refused, ping-does}
use Rattle.connection.specs.View.{normal_of}
use Rattle.connection.proofs.take.ping_sent.Goals as goal

pub returns-then-n-ge3 : goal.returns-then-n-ge3
returns-then-n-ge3 c = λ m. rw c.refused.ensures (ping-refused m c.args.n c.args.s c.if-n-ge3.true)

pub returns : goal.returns
unfolding normal_of
returns c =
    λ m. ping-does m c.args.n c.args.s c.if-n-ge3.false (c.with_space.ensures ∙ rw (c.with_probes-q.ensures, c.saturating_sub.ensures, c.normal.ensures, c.space_at.ensures))

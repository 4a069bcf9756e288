-- `acks::cover::walk` meets its contract. Invariant: the places passed are flagged, and what is left to count is counted from there.
use Rattle.acks.proofs.Flags.{walking_on, walking_stop, walking_end}
use Rattle.acks.proofs.cover.walk.Goals as goal

pub returns-then-end-word_at : goal.returns-then-end-word_at
returns-then-end-word_at c =
    walking_stop c.loop-i.invariant c.loop-i-test.true (rw c.word_at.ensures at c.if-end-word_at.true)

pub loop-i-preserved : goal.loop-i-preserved
loop-i-preserved c =
    walking_on c.loop-i.invariant c.loop-i-test.true c.requires.2 (rw c.word_at.ensures at c.if-end-word_at.false)

pub returns : goal.returns
returns c = walking_end c.loop-i.invariant c.loop-i-test.false

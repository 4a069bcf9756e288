-- `space::put_last` meets its contract, word after word.
use Rattle.trace.proofs.Puts.{put_then}
use Rattle.field.specs.Inspect.{last_words}
use Rattle.field.proofs.Naming.{put_last}
use Rattle.field.proofs.space.put_last.Goals as goal

pub returns : goal.returns
unfolding last_words
returns c =
    put_then c.put_value_at-at.ensures (put_then c.put_value_at-at-2.ensures (put_last (rw c.should_elicit_ack.ensures at c.put_value_at.ensures)))

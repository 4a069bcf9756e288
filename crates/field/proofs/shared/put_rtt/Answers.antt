-- `shared::put_rtt` meets its contract, word after word.
use Rattle.trace.proofs.Puts.{put_then}
use Rattle.field.specs.Inspect.{rtt_words}
use Rattle.field.proofs.Naming.{put_last}
use Rattle.field.proofs.shared.put_rtt.Goals as goal

pub returns : goal.returns
unfolding rtt_words
returns c =
    let min = rw c.then_some.ensures at c.put_value_at-at-4.ensures in
    let max = rw c.then_some-2.ensures at c.put_value_at.ensures in
    put_then c.put_value_at-at.ensures (put_then c.put_value_at-at-2.ensures (put_then c.put_value_at-at-3.ensures (put_then min (put_last max))))

-- `words::put_value_at` meets its contract: what stands before, the name, `=` and the value.
use Rattle.trace.proofs.Puts.{put_then}
use Rattle.field.proofs.words.put_value_at.Goals as goal

pub returns : goal.returns
returns g c = put_then c.put_word-at.ensures (put_then c.put_word-at-2.ensures (put_then c.put_byte-at.ensures c.put.ensures))

-- `words::put_value` meets its contract: what stands before, the name, `=` and the value.
use Rattle.trace.proofs.Behinds.{behind_then}
use Rattle.field.proofs.words.put_value.Goals as goal

pub returns : goal.returns
returns g c = behind_then c.put_word.ensures (behind_then c.put_word-2.ensures (behind_then c.put_byte.ensures c.put.ensures))

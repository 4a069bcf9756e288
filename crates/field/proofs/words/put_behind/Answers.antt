-- `words::put_behind` meets its contract: what was written into the buffer is what is put.
use lib.ListN.{length-replicate}
use Rattle.trace.proofs.Behinds.{behind_room}
use Rattle.field.proofs.words.put_behind.Goals as goal

pub returns : goal.returns
returns g c = behind_room (length-replicate g.row.N 0) c.put-n.ensures c.put_word.ensures

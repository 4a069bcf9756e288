-- `put::put_word` meets its contract, a byte after another.
use Rattle.trace.proofs.Puts.{put_more}
use Rattle.trace.proofs.put.put_word.Goals as goal

pub loop-b-preserved : goal.loop-b-preserved
loop-b-preserved c = put_more c.args.word.now c.loop-b.b-index c.loop-b-test.true c.loop-b.invariant c.put_byte-place.ensures

-- `space::put_space` meets its contract: the counts are the lengths of the lists that the state stands for.
use Rattle.trace.proofs.Puts.{put_same, put_then}
use Rattle.field.specs.Inspect.{frame_words}
use Rattle.field.proofs.Naming.{put_last}
use Rattle.field.proofs.Spaces.{space-words}
use Rattle.field.proofs.space.put_space.Goals as goal

pub returns : goal.returns
returns c =
    λ m n.
    let args = c.args in
    put_same (space-words args.tag.now m n args.s args.run c.held-sent.ensures c.held-acked.ensures c.held-ack.ensures c.held-pto.ensures)
    (put_then c.put_times-at.ensures (put_then {a = frame_words args.tag.now c.held-sent.result c.held-acked.result c.held-ack.result c.held-pto.result} c.put_frames-at.ensures (put_last c.put_last.ensures)))

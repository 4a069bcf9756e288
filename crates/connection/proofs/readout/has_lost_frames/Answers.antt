-- `readout::has_lost_frames` meets its contract: the field that the definition names, for all words.
use borrow.Author.Tests.{lt-ltb, le-ltb}
use Rattle.connection.proofs.Views.{lost_view}
use Rattle.connection.proofs.readout.has_lost_frames.Goals as goal

pub returns-then-p-gt0 : goal.returns-then-p-gt0
returns-then-p-gt0 c = λ m. rw (lost_view m c.args.s c.args.n, ← c.space_at-p.ensures, lt-ltb _ _ c.if-p-gt0.true)

pub returns-else-p-gt0 : goal.returns-else-p-gt0
returns-else-p-gt0 c = λ m. rw (lost_view m c.args.s c.args.n, ← c.space_at-p.ensures, le-ltb _ _ c.if-p-gt0.false)

-- `line::put_spaces` meets its contract: the spaces in order, for all words.
use Rattle.trace.proofs.Puts.{put_then}
use Rattle.connection.specs.View.{connection_of}
use Rattle.field.specs.Inspect.{spaces_words}
use Rattle.field.proofs.Naming.{put_last}
use Rattle.field.proofs.line.put_spaces.Goals as goal

pub returns : goal.returns
unfolding connection_of spaces_words
returns c =
    λ m. put_then (c.put_space-at.ensures m 0) (put_then (c.put_space-at-2.ensures m 1) (put_last (c.put_space.ensures m 2)))

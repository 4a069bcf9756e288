-- `space::put_frames` meets its contract, word after word.
use Rattle.std.proofs.Common.{rules}
use Rattle.field.specs.Inspect.{frame_words}
use Rattle.field.proofs.Naming.{sentences}
use Rattle.field.proofs.space.put_frames.Goals as goal

pub returns : goal.returns
unfolding frame_words
returns c = search (rules, sentences)

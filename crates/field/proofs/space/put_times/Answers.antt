-- `space::put_times` meets its contract, word after word.
use Rattle.std.proofs.Common.{rules}
use Rattle.field.specs.Inspect.{time_words}
use Rattle.field.proofs.Naming.{sentences}
use Rattle.field.proofs.space.put_times.Goals as goal

pub returns : goal.returns
unfolding time_words
returns c = search (rules, sentences)

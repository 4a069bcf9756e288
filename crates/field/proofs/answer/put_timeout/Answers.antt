-- `answer::put_timeout` meets its contract, word after word.
use Rattle.std.proofs.Common.{rules}
use Rattle.field.specs.Inspect.{timeout_words}
use Rattle.field.proofs.Naming.{sentences}
use Rattle.field.proofs.answer.put_timeout.Goals as goal

pub returns : goal.returns
unfolding timeout_words
returns c = search (rules, sentences)

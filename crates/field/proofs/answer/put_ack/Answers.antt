-- `answer::put_ack` meets its contract, word after word.
use Rattle.std.proofs.Common.{rules}
use Rattle.field.specs.Inspect.{ack_words}
use Rattle.field.proofs.Naming.{sentences}
use Rattle.field.proofs.answer.put_ack.Goals as goal

pub returns : goal.returns
unfolding ack_words
returns c = search (rules, sentences)

-- `shared::put_shared` meets its contract, word after word.
use Rattle.std.proofs.Common.{rules}
use Rattle.field.specs.Inspect.{shared_words}
use Rattle.field.proofs.Naming.{sentences}
use Rattle.field.proofs.shared.put_shared.Goals as goal

pub returns : goal.returns
unfolding shared_words
returns c = search (rules, sentences)

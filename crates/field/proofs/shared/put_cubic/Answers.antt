-- `shared::put_cubic` meets its contract, word after word.
use Rattle.std.proofs.Common.{rules}
use Rattle.field.specs.Inspect.{cubic_words}
use Rattle.field.proofs.Naming.{sentences}
use Rattle.field.proofs.shared.put_cubic.Goals as goal

pub returns : goal.returns
unfolding cubic_words
returns c = search (rules, sentences)

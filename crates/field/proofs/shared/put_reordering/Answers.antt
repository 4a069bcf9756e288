-- `shared::put_reordering` meets its contract, word after word.
use Rattle.std.proofs.Common.{rules}
use Rattle.field.specs.Inspect.{reordering_words}
use Rattle.field.proofs.Naming.{sentences}
use Rattle.field.proofs.shared.put_reordering.Goals as goal

pub returns : goal.returns
unfolding reordering_words
returns c = search (rules, sentences)

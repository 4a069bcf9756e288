-- `shared::put_counts` meets its contract, word after word.
use Rattle.std.proofs.Common.{rules}
use Rattle.field.specs.Inspect.{count_words}
use Rattle.field.proofs.Naming.{sentences}
use Rattle.field.proofs.shared.put_counts.Goals as goal

pub returns : goal.returns
unfolding count_words
returns c = search (rules, sentences)

-- `shared::put_congestion` meets its contract, word after word.
use Rattle.std.proofs.Common.{rules}
use Rattle.field.specs.Inspect.{congestion_words}
use Rattle.field.proofs.Naming.{sentences}
use Rattle.field.proofs.shared.put_congestion.Goals as goal

pub returns : goal.returns
unfolding congestion_words
returns c = search (rules, sentences)

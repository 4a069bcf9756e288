-- `words::bits_of` meets its contract: only a NaN differs from itself.
use Rattle.field.proofs.Floats.{unequal-nan}
use Rattle.field.proofs.words.bits_of.Goals as goal

pub returns-else-x : goal.returns-else-x
returns-else-x c = unequal-nan c.args.x c.if-x.false

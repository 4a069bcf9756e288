-- `words::put_hex` meets its contract: the digits before the last, and the last. How many more falls.
use Rattle.field.proofs.words.+put_hex.Given as goal

abbrev pub decreases-put_hex : goal.decreases-put_hex
decreases-put_hex l = l.more

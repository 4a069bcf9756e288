-- `put::put_decimal` meets its contract: the digits before the last, and the last. The number falls.
use Rattle.trace.proofs.put.+put_decimal.Given as goal

abbrev pub decreases-put_decimal : goal.decreases-put_decimal
decreases-put_decimal l = l.n

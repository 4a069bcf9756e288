-- A field of one byte is that byte. Assumes nothing.
use Rattle.std.proofs.Common.{◌≡◌, ℕ, ◌<◌, length, List, take, drop, get_or, drop-cons, rules}
use Rattle.model.specs.Trace.{big_endian}

pub one_byte : (b : List ℕ) (k : ℕ) → k < length b → get_or b k 0 ≡ big_endian 0 (take 1 (drop k b))
unfolding big_endian
one_byte b k h = rw (drop-cons b k 0 h) (search rules)

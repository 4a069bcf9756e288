-- `put::put_field` meets its contract: digits, then a space.
use Rattle.trace.proofs.Puts.{put_then}
use Rattle.trace.proofs.put.put_field.Goals as goal

pub returns : goal.returns
returns c = put_then c.put_decimal-place.ensures c.put_byte.ensures

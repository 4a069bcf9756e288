-- `acks::cover::cover` meets its contract. Invariant: the words passed are done, and the rest of the ranges goes on among the records left.
use mathlib.Core.Path.{refl}
use native.Mathlib.Omega.{arith}
use Rattle.acks.proofs.Flags.{flags-zeros, found_none, found_next, found_past, covers}
use Rattle.acks.proofs.cover.cover.Goals as goal

pub loop-rest-init : goal.loop-rest-init
loop-rest-init c = found_none _ _ _ _ refl refl flags-zeros

pub loop-rest-preserved : goal.loop-rest-preserved
loop-rest-preserved c = found_next _ _ _ _ c.loop-rest.invariant c.in-len2-up.len_at_least c.cover_range-w.ensures

pub returns : goal.returns
returns c = covers _ _ _ _ _ _ _ _ _ c.loop-rest.invariant (omega arith) c.held-count.ensures _ refl refl

pub invariant_of-result : goal.invariant_of-result
invariant_of-result c = record { past = found_past _ _ _ _ _ c.loop-rest.invariant (omega arith) }

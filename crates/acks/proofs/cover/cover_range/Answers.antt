-- `acks::cover::cover_range` meets its contract: the search's place, then the walk from there.
use Rattle.acks.proofs.Flags.{ranged_none, ranged_some}
use Rattle.acks.proofs.cover.cover_range.Goals as goal

pub returns-then-to-from : goal.returns-then-to-from
returns-then-to-from c =
    ranged_none _ _ _ _ _ _ _ c.requires.1 c.requires.2 c.place_of.ensures _ _ _ _ _ c.walk-to.ensures c.if-to-from.true

pub returns-else-to-from : goal.returns-else-to-from
returns-else-to-from c =
    ranged_some _ _ _ _ _ _ _ c.requires.1 c.requires.2 c.place_of.ensures _ _ _ _ _ c.walk-to.ensures c.if-to-from.false

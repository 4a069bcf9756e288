-- `arith::round::rounded` meets its contract. The product fits a word where x is a time, and is no smaller than x.
use Rattle.arith.specs.Round.{nearest}
use Rattle.arith.proofs.Laws.{nearest-past, nearest-over, nearest-fine}
use Rattle.arith.proofs.round.rounded.Goals as goal

pub returns-then-x-gt-LIMIT : goal.returns-then-x-gt-LIMIT
returns-then-x-gt-LIMIT c = nearest-past _ _ _ c.requires c.if-x-gt-LIMIT.true

pub returns-then-ns-gt-LIMIT : goal.returns-then-ns-gt-LIMIT
unfolding nearest
returns-then-ns-gt-LIMIT c = nearest-over c.args.num c.args.den c.args.x c.if-ns-gt-LIMIT.true

pub returns : goal.returns
unfolding nearest
returns c = nearest-fine c.args.num c.args.den c.args.x c.if-ns-gt-LIMIT.false

-- `timer::backoff` meets its contract: below 32 the power fits, from 32 on the bound stands.
use Rattle.estimate.proofs.Laws.{backed-small, backed-large}
use Rattle.model.specs.Timer.{backoff}
use Rattle.estimate.proofs.timer.backoff.Goals as goal

pub returns : goal.returns
unfolding backoff
returns c = backed-large _ c.if-count-lt-MAX_BACKOFF_COUNT.false

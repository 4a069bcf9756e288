-- `fresh::fresh` meets its contract: by the test of the settings, which makes the initial window small.
use Rattle.connection.proofs.Events.{begins}
use Rattle.connection.specs.Steps.{fresh_state}
use Rattle.connection.proofs.fresh.fresh.Goals as goal

pub returns-then-not-are_settings : goal.returns-then-not-are_settings
unfolding fresh_state
returns-then-not-are_settings c = begins _ _ (rw (← c.are_settings.ensures, c.if-not-are_settings.true))

pub returns : goal.returns
unfolding fresh_state
returns c =
    begins _ _ (rw (← c.are_settings.ensures, c.if-not-are_settings.false, c.space_fresh-space.ensures, c.shared_fresh.ensures))

-- `play` meets its contract: each kind of event by its own function.
use Rattle.trace.specs.Says.{event_says}
use Rattle.play.proofs.play.Goals as goal

pub returns-in-Sent : goal.returns-in-Sent
unfolding event_says
returns-in-Sent c = rw c.in-Sent.is c.play_sent.ensures

pub returns-in-Timeout : goal.returns-in-Timeout
unfolding event_says
returns-in-Timeout c = rw c.in-Timeout.is c.play_timeout.ensures

pub returns-in-Discard : goal.returns-in-Discard
unfolding event_says
returns-in-Discard c = rw c.in-Discard.is c.play_discard.ensures

pub returns-in-Size : goal.returns-in-Size
unfolding event_says
returns-in-Size c = rw c.in-Size.is (c.play_size.ensures _)

pub returns-in-TakeAcked : goal.returns-in-TakeAcked
unfolding event_says
returns-in-TakeAcked c = rw c.in-TakeAcked.is c.play_take_acked.ensures

pub returns-in-TakeLost : goal.returns-in-TakeLost
unfolding event_says
returns-in-TakeLost c = rw c.in-TakeLost.is c.play_take_lost.ensures

pub returns-in-Ping : goal.returns-in-Ping
unfolding event_says
returns-in-Ping c = rw c.in-Ping.is (c.play_ping.ensures _)

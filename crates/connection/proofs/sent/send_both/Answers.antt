-- `sent::send_both` meets its contract: by whether the packet is in flight, then by the sums and the timer.
use borrow.Author.Tests.{not-true, not-false}
use Rattle.std.proofs.Common.{rules}
use Rattle.connection.proofs.Events.{both-aside, both-flying}
use Rattle.connection.specs.Steps.{timed_state}
use Rattle.connection.proofs.sent.send_both.Goals as goal

pub returns-then-not-p : goal.returns-then-not-p
returns-then-not-p c =
    rw (both-aside c.args.time c.args.n c.args.p c.args.status c.args.run c.args.s (not-true c.args.p.in_flight c.if-not-p.true), ← c.counted_aside.ensures)

pub returns-in_err-in_flight : goal.returns-in_err-in_flight
returns-in_err-in_flight c =
    rw (both-flying c.args.time c.args.n c.args.p c.args.status c.args.run c.args.s (not-false c.args.p.in_flight c.if-not-p.false), ← c.in_flight_after.ensures, c.in_err-in_flight.was) (search rules)

pub returns-in_err-bytes : goal.returns-in_err-bytes
returns-in_err-bytes c =
    rw (both-flying c.args.time c.args.n c.args.p c.args.status c.args.run c.args.s (not-false c.args.p.in_flight c.if-not-p.false), ← c.in_flight_after.ensures, c.in_ok-in_flight.was, ← c.bytes_after.ensures, c.in_err-bytes.was) (search rules)

pub returns-in_err-t : goal.returns-in_err-t
unfolding timed_state
returns-in_err-t c =
    rw (both-flying c.args.time c.args.n c.args.p c.args.status c.args.run c.args.s (not-false c.args.p.in_flight c.if-not-p.false), ← c.in_flight_after.ensures, c.in_ok-in_flight.was, ← c.bytes_after.ensures, c.in_ok-bytes.was, ← c.counted-after.ensures, ← c.timer.ensures, c.in_err-t.was) (search rules)

pub returns : goal.returns
unfolding timed_state
returns c =
    rw (both-flying c.args.time c.args.n c.args.p c.args.status c.args.run c.args.s (not-false c.args.p.in_flight c.if-not-p.false), ← c.in_flight_after.ensures, c.in_ok-in_flight.was, ← c.bytes_after.ensures, c.in_ok-bytes.was, ← c.counted-after.ensures, ← c.timer.ensures, c.in_ok-t.was, ← c.with_timer.ensures) (search rules)

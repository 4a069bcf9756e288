-- `sent::send` meets its contract: past the tests, the run of packets that elicit nothing, and what is left.
use Rattle.std.proofs.Common.{rules}
use Rattle.connection.proofs.Events.{send_by}
use Rattle.connection.proofs.sent.send.Goals as goal

pub returns-in_err-run : goal.returns-in_err-run
returns-in_err-run c =
    rw (send_by c.args.time c.args.n c.args.p c.args.status c.args.s, ← c.in_time.ensures, c.if-not-in_time.false, ← c.is_packet.ensures, c.if-not-is_packet.false, ← c.follows.ensures, c.if-not-follows.false, ← c.has_room.ensures, c.if-not-has_room.false, ← c.run_after.ensures, c.in_err-run.was) (search rules)

pub returns : goal.returns
returns c =
    rw (send_by c.args.time c.args.n c.args.p c.args.status c.args.s, ← c.in_time.ensures, c.if-not-in_time.false, ← c.is_packet.ensures, c.if-not-is_packet.false, ← c.follows.ensures, c.if-not-follows.false, ← c.has_room.ensures, c.if-not-has_room.false, ← c.run_after.ensures, c.in_ok-run.was) c.send_both.ensures

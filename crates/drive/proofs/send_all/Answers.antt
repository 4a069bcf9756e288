-- `send_all` meets its contract. The invariant: before turn i the record is that after the packets below i.
use Rattle.std.proofs.Common.{◌<◌, ◌≤◌, length, refl, arith}
use Rattle.drive.proofs.Sends.{first-turn, next-turn, last_turn}
use Rattle.drive.proofs.send_all.Goals as goal

pub loop-i-preserved : goal.loop-i-preserved
loop-i-preserved c = next-turn _ _ _ _ _ c.loop-i.invariant (omega arith) _ _ _ refl c.skavvilet_on_packet_sent.ensures

pub returns : goal.returns
returns c =
    let none : length c.args.sizes.now ≤ c.loop-i.i = omega arith in
    last_turn _ _ _ _ _ c.loop-i.invariant none

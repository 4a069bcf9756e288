-- `send_all` meets its contract. The invariant: before turn i the record is that after the packets below i.
use Rattle.drive.proofs.Sends.{Turn}
use Rattle.drive.proofs.send_all.Given as goal

abbrev pub invariant-loop-i : goal.invariant-loop-i
invariant-loop-i l = Turn l.initial.held l.time l.sizes l.i l.held

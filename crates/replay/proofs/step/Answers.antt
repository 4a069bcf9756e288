-- `step` meets its contract: a turn that is told, by `step-shows`.
use native.Mathlib.Omega.{arith}
use Rattle.playback.proofs.Shown.{step-shows}
use Rattle.replay.proofs.step.Goals as goal

pub returns-in_default : goal.returns-in_default
returns-in_default c =
    step-shows _ _ _ _ (omega (arith, c.type_inv.bytes c.args.r.now.at)) (omega arith) c.requires.0 c.turn-met.ensures _ _ _ _ c.tell.ensures c.requires.1

pub returns-in_default-answered : goal.returns-in_default-answered
returns-in_default-answered c =
    step-shows _ _ _ _ (omega (arith, c.type_inv.bytes c.args.r.now.at)) (omega arith) c.requires.0 c.turn-met.ensures _ _ _ _ (rw (← c.in-Event.is) at c.tell-in_default-answered.ensures) c.requires.1

pub returns : goal.returns
returns c =
    step-shows _ _ _ _ (omega (arith, c.type_inv.bytes c.args.r.now.at)) (omega arith) c.requires.0 c.turn-met.ensures 65536 _ _ _
    (record {
      put = rw (c.in-Event.is, c.in-Ok-Ack.is) (rw (c.as_bytes.ensures, c.event_line.ensures c.turn-met.new.self.words) at c.put_word.ensures);
      ended = rw c.in-Event.is;
    })
    c.requires.1

-- `step` meets its contract: a turn whose line is put, by `step-inspects`.
use native.Mathlib.Omega.{arith}
use Rattle.trace.proofs.Puts.{put_same}
use Rattle.inspect.proofs.Lines.{told-line, step-inspects}
use Rattle.inspect.proofs.step.Goals as goal

pub returns-in_default : goal.returns-in_default
returns-in_default c =
    let text = told-line _ _ _ _ (omega (arith, c.type_inv.bytes c.args.r.now.at)) (omega arith) c.requires c.turn-met.ensures c.in_default.not-Event
    (rw c.new-text.ensures at c.tell-ended.ensures.put) in
    step-inspects _ _ _ _ (omega (arith, c.type_inv.bytes c.args.r.now.at)) (omega arith) c.requires c.turn-met.ensures _ _ _ _
    (put_same text c.put_text.ensures)
    (omega arith)
    c.tell-ended.ensures.ended

pub returns : goal.returns
returns c =
    step-inspects _ _ _ _ (omega (arith, c.type_inv.bytes c.args.r.now.at)) (omega arith) c.requires c.turn-met.ensures c.args.line.now c.put_inspected.new.out c.put_inspected.result _
    (rw c.in-Event.is (c.put_inspected.ensures c.turn-met.new.self.words))
    (omega arith)
    (rw c.in-Event.is)

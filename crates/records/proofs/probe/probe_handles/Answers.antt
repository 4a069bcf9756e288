-- `probe::probe_handles` meets its contract. The invariant: the handles still to come, stored from the next free place on, give the same end.
use native.Mathlib.Omega.{arith}
use Rattle.records.proofs.Handles.{put_small, left_on, left_put}
use Rattle.records.proofs.probe.probe_handles.Goals.{then-awaits, else-awaits}
use Rattle.records.proofs.probe.probe_handles.Goals as goal

pub loop-i-preserved : goal.loop-i-preserved
loop-i-preserved c =
    let inv = c.loop-i.invariant in
    let lt = c.loop-i-test.true in
    elim c.if-awaits.branch [
      | then-awaits w ↦
          rw (w.m-is, w.left-is, w.stored-is) (
            omega (arith, put_small w.put-stored.ensures),
            left_put _ _ _ _ _ _ _ _ _ inv.1 lt c.if-left-eq0.false c.awaits.ensures w.if-awaits.true w.word_at-handle.ensures w.put-stored.ensures,
          )
      | else-awaits w ↦
          rw (w.m-is, w.left-is, w.stored-is) (omega arith, left_on _ _ _ _ _ _ _ _ _ inv.1 lt c.if-left-eq0.false c.awaits.ensures w.if-awaits.false)
    ]

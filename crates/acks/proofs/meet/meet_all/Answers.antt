-- `acks::meet::meet_all` meets its contract. Invariant: the survey of the places left, from the tally so far, is the survey of all.
use mathlib.Core.Path.{◌≡◌, sym, ◌∙◌}
use native.Mathlib.Omega.{arith}
use Rattle.std.specs.Prelude.{Err}
use Rattle.std.proofs.Common.{rules}
use Rattle.marks.proofs.Rings.{held-round}
use Rattle.acks.proofs.Fitting.{meeting_on, meeting_off, meeting_ends}
use Rattle.acks.proofs.meet.meet_all.Goals.{then-is_set+in_ok-t, else-is_set}
use Rattle.acks.proofs.meet.meet_all.Goals as goal

pub returns-in_err-t : goal.returns-in_err-t
returns-in_err-t g c =
    let refused : c.from_residual.result ≡ Err c.in_err-t.field-0.0 = search rules in
    refused ∙ meeting_ends c.loop-i.invariant (omega arith) (rw c.is_set.ensures at c.if-is_set.true) (c.record_at.ensures ∙ held-round _ _ _ _) (sym c.in_err-t.was ∙ c.meet.ensures)

pub loop-i-preserved : goal.loop-i-preserved
loop-i-preserved g c =
    elim c.if-is_set.branch [
      | then-is_set+in_ok-t w ↦ rw w.t-is (meeting_on c.loop-i.invariant (omega arith) (rw c.is_set.ensures at w.if-is_set.true) (w.record_at.ensures ∙ held-round _ _ _ _) (sym w.in_ok-t.was ∙ w.meet.ensures))
      | else-is_set w ↦ rw w.t-is (meeting_off c.loop-i.invariant (omega arith) (rw c.is_set.ensures at w.if-is_set.false))
    ]

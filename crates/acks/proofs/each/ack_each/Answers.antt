-- `acks::each::ack_each` meets its contract. Invariant: the moves of the places left, from the controller so far, are the moves of all.
use mathlib.Core.Path.{◌≡◌, sym, ◌∙◌}
use native.Mathlib.Omega.{arith}
use Rattle.std.specs.Prelude.{Err}
use Rattle.std.proofs.Common.{rules}
use Rattle.marks.proofs.Rings.{held-round}
use Rattle.acks.proofs.Turns.{each_on, each_off, each_ends}
use Rattle.acks.proofs.each.ack_each.Goals.{then-is_set+in_ok-after, else-is_set}
use Rattle.acks.proofs.each.ack_each.Goals as goal

pub returns-in_err-after : goal.returns-in_err-after
returns-in_err-after g c =
    let refused : c.from_residual.result ≡ Err c.in_err-after.field-0.0 = search rules in
    refused ∙ each_ends _ _ _ _ _ _ c.loop-i.invariant (omega arith) (rw c.is_set.ensures at c.if-is_set.true) (rw (held-round _ _ _ _) at (sym c.in_err-after.was ∙ c.ack_one.ensures))

pub loop-i-preserved : goal.loop-i-preserved
loop-i-preserved g c =
    elim c.if-is_set.branch [
      | then-is_set+in_ok-after w ↦ rw w.after-is (each_on _ _ _ _ _ _ c.loop-i.invariant (omega arith) (rw c.is_set.ensures at w.if-is_set.true) (rw (held-round _ _ _ _) at (sym w.in_ok-after.was ∙ w.ack_one.ensures)))
      | else-is_set w ↦ rw w.after-is (each_off _ _ _ _ _ _ c.loop-i.invariant (omega arith) (rw c.is_set.ensures at w.if-is_set.false))
    ]

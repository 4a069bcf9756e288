-- `decide::control_ack` meets its contract: the moves, one part after the other, by `control-append`.
use Rattle.tracker.proofs.Controls.{control-append}
use mathlib.Core.Path.{refl}
use Rattle.std.proofs.Common.{rules}
use Rattle.tracker.proofs.decide.control_ack.Goals as goal

pub returns : goal.returns
returns c =
    rw (control-append, c.forgiven.ensures, control-append, ← c.after_losses.ensures, c.in_ok-h.was, ← c.acked_each.ensures) refl

pub returns-in_err-h : goal.returns-in_err-h
returns-in_err-h c =
    rw (control-append, c.forgiven.ensures, control-append, ← c.after_losses.ensures, c.in_err-h.was) (search rules)

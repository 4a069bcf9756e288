-- `begin::begin` meets its contract: by what is claimed of a fresh connection.
use Rattle.serve.specs.Events.{begin_step, begin_lay}
use Rattle.serve.proofs.Serve.{begins, unbegun}
use Rattle.serve.proofs.begin.begin.Goals as goal

pub returns-in-Ok : goal.returns-in-Ok
unfolding begin_step begin_lay
returns-in-Ok c =
    rw c.from.ensures (begins _ _ _ _ _ c.in-Ok.is (rw c.settings_of.ensures at c.fresh.ensures))

pub returns-in-Err : goal.returns-in-Err
unfolding begin_step begin_lay
returns-in-Err c =
    rw (c.from-in-Err-2.ensures, c.from-in-Err.ensures) (unbegun _ _ _ _ _ c.in-Err.is (rw c.settings_of.ensures at c.fresh.ensures))

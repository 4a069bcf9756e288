-- `audit` meets its contract. The invariant: the total so far and what is still out of the records left are the whole.
use Rattle.std.proofs.Common.{rules, ◌≡◌, ◌∙◌}
use Rattle.std.specs.Prelude.{Err}
use Rattle.audit.proofs.Laws.{scan_over, scan_end}
use Rattle.audit.proofs.audit.Goals as goal

pub returns-in_err-total : goal.returns-in_err-total
returns-in_err-total c =
    let refused : c.from_residual.result ≡ Err c.in_err-total.field-0.0 = search rules in
    refused ∙ scan_over _ _ _ c.loop-r.invariant.1 _ c.loop-r-test.true c.weight.ensures c.add_up.ensures c.in_err-total.was

pub returns : goal.returns
returns c = scan_end _ _ _ c.loop-r.invariant.1 c.loop-r-test.false c.loop-r.invariant.0

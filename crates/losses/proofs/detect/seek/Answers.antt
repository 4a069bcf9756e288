-- `detect::seek` meets its contract where a lost record is refused.
use mathlib.Core.Path.{◌≡◌, sym, ◌∙◌}
use Rattle.std.specs.Prelude.{Err}
use Rattle.std.proofs.Common.{rules}
use Rattle.losses.proofs.Turns.{seek_refused}
use Rattle.losses.proofs.detect.seek.Goals as goal

pub returns-in_err-tally : goal.returns-in_err-tally
returns-in_err-tally g c =
    let refused : c.from_residual.result ≡ Err c.in_err-tally.field-0.0 = search rules in
    refused
    ∙ rw (← c.held-count.ensures)
    (seek_refused _ _ _ _ _ c.loop-place.invariant.sought c.acked_at-r.ensures c.loop-place-test.true c.if-j-r.false (cc) c.in_err-tally.field-0.0 (cc) (sym c.weigh_lost.ensures ∙ c.in_err-tally.was))

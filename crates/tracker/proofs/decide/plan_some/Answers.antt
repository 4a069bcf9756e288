-- `decide::plan_some` meets its contract: what the losses leave fits the space.
use Rattle.tracker.proofs.Detecting.{ends}
use mathlib.Core.Path.{sym, ◌∙◌}
use Rattle.tracker.proofs.decide.plan_some.Goals as goal

pub plan_moved-requires : goal.plan_moved-requires
plan_moved-requires c =
    let e = sym c.plan_losses.ensures ∙ c.in_ok-l.was in
    (ends _ _ _ _ _ _ _ _ _ _ c.requires _ e).keep-len

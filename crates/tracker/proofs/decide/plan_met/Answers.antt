-- `decide::plan_met` meets its contract: the drain is `first_left`, by `first-drain`.
use borrow.Author.Tests.{eq-eqb, ne_eqb}
use Rattle.tracker.proofs.Decided.{record-place, first-drain, first_fits}
use mathlib.Core.Path.{refl}
use Rattle.tracker.proofs.decide.plan_met.Goals as goal

pub plan_nothing-requires : goal.plan_nothing-requires
plan_nothing-requires c =
    first_fits c.args.m.now c.args.n c.args.q.space c.args.covered.now.flags c.args.q.len_in c.args.a.time c.args.s.shared.rtt.smoothed_rtt _ c.drain-from.ensures

pub returns-then-t-eq0 : goal.returns-then-t-eq0
returns-then-t-eq0 c =
    rw (← c.reorder.ensures, c.in_ok-o.was, eq-eqb _ _ c.if-t-eq0.true, c.plan_nothing.ensures, first-drain c.args.m.now c.args.n c.args.q.space c.args.covered.now.flags c.args.q.len_in c.args.a.time c.args.s.shared.rtt.smoothed_rtt _ c.drain-from.ensures) refl

pub plan_some-requires : goal.plan_some-requires
plan_some-requires c =
    first_fits c.args.m.now c.args.n c.args.q.space c.args.covered.now.flags c.args.q.len_in c.args.a.time c.args.s.shared.rtt.smoothed_rtt _ c.drain-from.ensures

pub returns : goal.returns
returns c =
    rw (← c.reorder.ensures, c.in_ok-o.was, ne_eqb _ _ c.if-t-eq0.false, c.plan_some.ensures, first-drain c.args.m.now c.args.n c.args.q.space c.args.covered.now.flags c.args.q.len_in c.args.a.time c.args.s.shared.rtt.smoothed_rtt _ c.drain-from.ensures, c.record_at-r.ensures, record-place) refl

-- `decide::plan_ack` meets its contract: step 1 is the survey of the whole space, by `met_all`.
use Rattle.model.specs.Ranges.{largest_for}
use Rattle.tracker.proofs.Decided.{met_all}
use Rattle.tracker.specs.Plan.{plan_ack}
use mathlib.Core.Path.{refl}
use Rattle.std.proofs.Common.{rules}
use Rattle.tracker.proofs.decide.plan_ack.Goals as goal

pub returns : goal.returns
unfolding plan_ack
returns c =
    let z = rw c.largest_for-largest.ensures at c.meet_all.ensures in
    let y = met_all c.args.m.now c.args.n c.args.q.space c.args.covered.now.flags c.args.q.len_in (largest_for c.args.q.space.epoch.largest_acked_packet c.args.words.now) c.args.covered.now.last c.args.covered.now.past in
    rw (← y, ← z, c.in_ok-t.was, c.plan_met.ensures) refl

pub returns-in_err-t : goal.returns-in_err-t
unfolding plan_ack
returns-in_err-t c =
    let z = rw c.largest_for-largest.ensures at c.meet_all.ensures in
    let y = met_all c.args.m.now c.args.n c.args.q.space c.args.covered.now.flags c.args.q.len_in (largest_for c.args.q.space.epoch.largest_acked_packet c.args.words.now) c.args.covered.now.last c.args.covered.now.past in
    rw (← y, ← z, c.in_err-t.was) (search rules)

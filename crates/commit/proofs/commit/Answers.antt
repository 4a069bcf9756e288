-- `commit::commit` meets its contract. The loop's invariant: memory and queues are what the first i places leave (`After`), and no place has queued more than one handle.
-- Assumes nothing.
use Rattle.std.proofs.Common.{rules, arith, min, max, ◌≡◌, ◌≤◌}
use Rattle.model.specs.Numbers.{capacity}
use Rattle.commit.proofs.Turns.{after_start, after_turn, after_end, turn_acked, turn_lost}
use Rattle.commit.proofs.commit.Goals as goal

pub loop-i-init : goal.loop-i-init
loop-i-init g c = (after_start _ _ _ _ _ _ _ _ _ _ _ _ _ c.held-2.ensures c.held-3.ensures, (omega arith, omega arith))

pub loop-i-preserved : goal.loop-i-preserved
loop-i-preserved g c =
    let inv = c.loop-i.invariant in
    let a = c.args in
    let count : c.min-count.result ≡ min (max a.last a.t.stop) (min a.len capacity) = search rules in (
      after_turn _ _ _ _ _ _ _ _ _ _ _ _ _ _ _ _ _ _ _ c.stamp_of-stamp.ensures count c.loop-i-test.true inv.0 (rw c.is_set.ensures at c.settle-after.ensures),
      (omega (arith, turn_acked _ _ _ _ _ _ _ _ _ _ _ _ c.settle-after.ensures), omega (arith, turn_lost _ _ _ _ _ _ _ _ _ _ _ _ c.settle-after.ensures)),
    )

pub returns : goal.returns
returns g c =
    let a = c.args in
    let count : c.min-count.result ≡ min (max a.last a.t.stop) (min a.len capacity) = search rules in
    let le : c.loop-i.i ≤ c.min-count.result = omega arith in
    after_end _ _ _ _ _ _ _ _ _ _ _ _ _ _ _ _ _ c.stamp_of-stamp.ensures count le c.loop-i-test.false c.loop-i.invariant.0

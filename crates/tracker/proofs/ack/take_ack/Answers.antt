-- `ack::take_ack` meets its contract: what was decided is the model's step, by `take-does` and `take-refused`.
use Rattle.connection.specs.View.{normal_of}
use Rattle.tracker.proofs.Carried.{take-does, take-refused}
use mathlib.Core.Path.{ap, sym, ◌∙◌}
use Rattle.tracker.proofs.ack.take_ack.Goals as goal

pub returns-in-Ok : goal.returns-in-Ok
returns-in-Ok c =
    let e = c.normal-q.ensures ∙ ap normal_of c.space_at.ensures in
    let d = rw (e) at c.cover-covered.ensures in
    let x = rw (e) at c.plan_ack.ensures in
    rw c.with_space.ensures
    (take-does c.args.m.now c.full.ensures.1 c.args.n c.requires.0 c.args.s c.args.words.now c.args.a.time c.requires.1 c.args.a.delay c.args.a.status c.args.a.limited c.cover-covered.result d c.in-Ok.p (sym x ∙ c.in-Ok.is) _ c.commit.result (rw (e) at c.commit.ensures))

pub returns-in-Err : goal.returns-in-Err
returns-in-Err c =
    let e = c.normal-q.ensures ∙ ap normal_of c.space_at.ensures in
    let d = rw (e) at c.cover-covered.ensures in
    let x = rw (e) at c.plan_ack.ensures in
    rw c.refused.ensures (take-refused c.args.m.now c.full.ensures.1 c.args.n c.requires.0 c.args.s c.args.words.now c.args.a.time c.requires.1 c.args.a.delay c.args.a.status c.args.a.limited c.cover-covered.result d (sym x ∙ c.in-Err.is))

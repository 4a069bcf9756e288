-- `ack::on_ack_received` meets its contract: the tests, then the step, by `checked-view`.
use Rattle.connection.specs.View.{connection_of, state_by}
use Rattle.connection.proofs.Placed.{does-refused}
use Rattle.tracker.specs.Event.{ack_words}
use Rattle.tracker.proofs.Carried.{checked-view, checked-space, checked-time}
use mathlib.Core.Path.{refl, sym, ◌∙◌}
use Rattle.tracker.proofs.ack.on_ack_received.Goals as goal

pub take_ack-requires : goal.take_ack-requires
unfolding connection_of
take_ack-requires c =
    let e = sym c.check_ack.ensures ∙ c.in-Ok.is in
    (checked-space c.args.s.shared.clock c.args.time c.args.n c.args.words.now c.args.delay c.args.skipped e, checked-time c.args.s.shared.clock c.args.time c.args.n c.args.words.now c.args.delay c.args.skipped e)

pub returns-in-Ok : goal.returns-in-Ok
unfolding connection_of
returns-in-Ok c =
    let e = sym c.check_ack.ensures ∙ c.in-Ok.is in
    rw (checked-view c.args.time c.args.n c.args.words.now c.args.delay c.args.status c.args.limited c.args.skipped (connection_of c.args.m.now c.args.s), e) c.take_ack.ensures

pub returns-in-Err : goal.returns-in-Err
unfolding connection_of
returns-in-Err c =
    let e = sym c.check_ack.ensures ∙ c.in-Err.is in
    rw c.refused.ensures (does-refused c.args.m.now c.args.s (state_by c.args.s c.args.n 0) (ack_words c.args.m.now c.args.s c.args.n) _ _
    (checked-view c.args.time c.args.n c.args.words.now c.args.delay c.args.status c.args.limited c.args.skipped (connection_of c.args.m.now c.args.s) ∙ rw e refl))

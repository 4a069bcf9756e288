-- `sent::on_packet_sent` meets its contract: what was decided over the state is model's event, by `sent-does` and `sent-refused`.
use mathlib.Core.Path.{sym, ◌∙◌}
use Rattle.connection.proofs.Events.{sent-does, sent-refused}
use Rattle.connection.specs.Answers.{sent_words}
use Rattle.connection.proofs.sent.on_packet_sent.Goals as goal

pub returns-in-Ok : goal.returns-in-Ok
unfolding sent_words
returns-in-Ok c =
    sent-does c.args.m.now c.full.ensures.1 c.args.time c.args.n c.args.p c.args.status c.args.s (sym c.send.ensures ∙ c.in-Ok.is) (rw (← c.next_slot-slot.ensures) c.store_record.ensures)

pub returns-in-Err : goal.returns-in-Err
returns-in-Err c =
    rw c.refused.ensures (sent-refused c.args.m.now c.full.ensures.1 c.args.time c.args.n c.args.p c.args.status c.args.s (sym c.send.ensures ∙ c.in-Err.is))

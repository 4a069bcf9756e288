-- `discard::on_pkt_num_space_discarded` meets its contract: what was decided over the state is model's event.
use mathlib.Core.Path.{refl}
use Rattle.connection.proofs.Events.{discard_says}
use Rattle.connection.proofs.discard.on_pkt_num_space_discarded.Goals as goal

pub returns : goal.returns
returns c = discard_says c.args.m.now c.args.time c.args.n c.args.status c.args.s refl c.discard.ensures

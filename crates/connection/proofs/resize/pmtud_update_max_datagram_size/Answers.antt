-- `resize::pmtud_update_max_datagram_size` meets its contract: by what the controller answered, for all words.
use mathlib.Core.Path.{sym, ◌∙◌}
use Rattle.connection.proofs.Events.{size-refused, resize-refused, resize-does}
use Rattle.connection.proofs.resize.pmtud_update_max_datagram_size.Goals as goal

pub returns-then-not-is_datagram_size : goal.returns-then-not-is_datagram_size
returns-then-not-is_datagram_size c =
    λ m. rw c.refused.ensures (size-refused c.args.size c.args.s m (sym c.is_datagram_size.ensures ∙ c.if-not-is_datagram_size.true))

pub returns-in-Ok : goal.returns-in-Ok
returns-in-Ok c =
    λ m. resize-does c.args.size c.args.s m (sym c.is_datagram_size.ensures ∙ c.if-not-is_datagram_size.false) (sym c.told.ensures ∙ c.in-Ok.is) c.sized.ensures

pub returns-in-Err : goal.returns-in-Err
returns-in-Err c =
    λ m. rw c.refused-in-Err.ensures (resize-refused c.args.size c.args.s m (sym c.is_datagram_size.ensures ∙ c.if-not-is_datagram_size.false) (sym c.told.ensures ∙ c.in-Err.is))

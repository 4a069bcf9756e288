-- `text::Text::put_byte` meets its contract: zeros stay behind the byte.
use Rattle.trace.proofs.Behinds.{padded_put}
use Rattle.trace.proofs.text.Text.put_byte.Goals as goal

pub invariant_of-self : goal.invariant_of-self
invariant_of-self g c = padded_put c.self.invariant c.put_byte-self-inside.ensures

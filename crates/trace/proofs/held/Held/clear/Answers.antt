-- `held::Held::clear` meets its contract: zeros stand where words were held.
use Rattle.std.proofs.Common.{refl}
use Rattle.trace.proofs.Padding.{padded_cleared}
use Rattle.trace.proofs.held.Held.clear.Goals as goal

pub invariant_of-self : goal.invariant_of-self
invariant_of-self c = (padded_cleared c.self.invariant.0 (c.fill.ensures.after (λ y e. e)), refl)

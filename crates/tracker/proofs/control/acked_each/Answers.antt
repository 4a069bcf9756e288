-- `control::acked_each` meets its contract: no flag past the last counts, by `newly-past`.
use Rattle.acks.specs.Places.{places_of}
use Rattle.marks.proofs.Rings.{newly-past}
use Rattle.marks.specs.Marks.{flagged, held_at}
use Rattle.model.specs.declared.Sent.{Sent}
use mathlib.Core.List.{List}
use native.Mathlib.Omega.{arith}
use Rattle.model.specs.Control.{control, ack_each}
use mathlib.Core.Path.{ap, sym, ◌∙◌}
use Rattle.tracker.proofs.control.acked_each.Goals as goal

pub returns : goal.returns
returns c =
    c.ack_each.ensures
    ∙ ap (λ (l : List Sent). control (ack_each c.args.time c.args.limited c.args.min_rtt l) c.args.g)
    (sym (newly-past (flagged c.args.covered.now.flags) (held_at c.args.m.now c.args.n c.args.q.space.head) (places_of c.args.q.space.len c.args.covered.now.last) c.args.q.space.len (omega arith)
    (λ i x y. c.args.covered.now.past i (omega arith))))

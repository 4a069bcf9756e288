-- `line::put_inspected` meets its contract: its parts, one after another, for all words.
use mathlib.Core.Path.{ap}
use Prim.Native.Nat.{ℕ}
use Rattle.trace.proofs.Puts.{put_same, put_then}
use Rattle.connection.specs.View.{connection_of}
use Rattle.connection.specs.Readouts.{cwnd_available_of}
use Rattle.field.specs.Words.{apart}
use Rattle.field.specs.Inspect.{shared_words, available_in, inspected}
use Rattle.field.proofs.Naming.{put_last}
use Rattle.field.proofs.line.put_inspected.Goals as goal

pub returns : goal.returns
unfolding connection_of cwnd_available_of available_in inspected
returns c =
    λ m.
    put_then c.put_fields-at.ensures (put_then c.put_told-at.ensures
    (put_then (put_same (ap (λ (n : ℕ). shared_words apart c.args.s.shared n) (c.cwnd_available.ensures m)) c.put_shared-at.ensures)
    (put_then (c.put_spaces-at.ensures m) (put_last c.put_byte.ensures))))

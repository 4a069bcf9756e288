-- `print_from` meets its contract: the trace is what was read.
use mathlib.Core.Path.{◌≡◌}
use mathlib.Core.List.{List}
use Prim.Native.Nat.{ℕ, ◌<◌}
use native.Mathlib.Omega.{arith}
use lib.ListN.{length, length-replicate, replicate}
use Rattle.std.specs.Prelude.{Option}
use Rattle.std.specs.Io.KnownBytes.{Consumes, IsAtEnd}
use Rattle.program.specs.From.{Reads}
use Rattle.program.proofs.print_from.Goals as goal

-- a trace has one byte less than the room
reads_all : {left left' : Option (List ℕ)} {room bytes : List ℕ} → room ≡ replicate 65537 0 → Consumes left left' bytes → (length bytes < length room → IsAtEnd left') → Reads left left' bytes
reads_all e consumed whole = record { consumed = consumed; whole = λ h. whole (rw (e, length-replicate {A = ℕ} 65537 0) (omega arith)) }

pub returns-in-Ok-print_trace : goal.returns-in-Ok-print_trace
returns-in-Ok-print_trace g c =
    record {
      bytes = c.in-Ok.bytes.now;
      reads = reads_all c.room-room.ensures c.in-Ok.ensures.bytes c.in-Ok.ensures.whole;
      prints = record { lines = c.in-Ok-print_trace.ensures.lines; long = c.in-Ok-print_trace.ensures.long };
    }

pub returns-in-Err-print_trace : goal.returns-in-Err-print_trace
returns-in-Err-print_trace g c =
    (c.in-Ok.bytes.now, reads_all c.room-room.ensures c.in-Ok.ensures.bytes c.in-Ok.ensures.whole)

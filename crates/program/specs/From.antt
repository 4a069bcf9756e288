-- What is read of a reader and written of what it gave. 01 'Replay and the host'. Definitions only.
use Rattle.std.specs.Prelude.{ℕ, ◌≤◌, ◌<◌, List, [], ◌∷◌, ◌≡◌, length, Option, Result, Ok, Err}
use Rattle.std.specs.Io.KnownBytes.{Appends, Consumes, IsAtEnd}
use Rattle.model.specs.Trace.{printed, too_long}
use Rattle.playback.specs.declared.Replay.{Replay}
use Rattle.program.specs.Printing.{PrintsAll}
use Rattle.program.specs.declared.Failed.{Failed}
use Rattle.program.specs.declared.Failed.TheVariants as failed

-- a trace is all that a reader has left, or the first of it, where that is more than a trace may have
pub record Reads (left left' : Option (List ℕ)) (bytes : List ℕ) : Type 0 where
  pub consumed : Consumes left left' bytes
  pub whole : length bytes ≤ 65536 → IsAtEnd left'

-- a trace over 65,536 bytes prints only `too long`
pub record PrintsTrace (to_come : List ℕ → Replay → List ℕ) (bytes : List ℕ) (held held' : Option (List ℕ)) : Type 0 where
  pub lines : length bytes ≤ 65536 → PrintsAll to_come bytes held held'
  pub long : 65536 < length bytes → Appends held held' (printed (too_long ∷ []))

pub record ReadAndPrinted (to_come : List ℕ → Replay → List ℕ) (left left' held held' : Option (List ℕ)) : Type 0 where
  pub bytes : List ℕ
  pub reads : Reads left left' bytes
  pub prints : PrintsTrace to_come bytes held held'

-- the trace that a reader gives is printed; after a failed read nothing is written, after a failed write all was read
abbrev pub PrintsFrom : (List ℕ → Replay → List ℕ) → Result Unit Failed → Option (List ℕ) → Option (List ℕ) → Option (List ℕ) → Option (List ℕ) → Type 0
PrintsFrom to_come (Ok x) left left' held held' = ReadAndPrinted to_come left left' held held'
PrintsFrom to_come (Err (failed.Read e)) left left' held held' = held' ≡ held
PrintsFrom to_come (Err (failed.Write e)) left left' held held' = (bytes : List ℕ) × Reads left left' bytes

-- A whole replay, written a text at a time. 01 'Replay and the host'. Definitions only.
use Rattle.std.specs.Prelude.{ℕ, true, false, List, [], ◌++◌}
use Rattle.playback.specs.Printed.{Shows}
use Rattle.playback.specs.declared.Replay.{Replay}

-- the bytes written from where a replay stands on: each text is filled from where the one before left the replay, and the last one has the last line
pub data Writes (bytes : List ℕ) : Replay → List ℕ → Type 0 where
  last : {out : List ℕ} {r r' : Replay} → Shows bytes [] out r r' true → Writes bytes r out
  more : {out written : List ℕ} {r r' : Replay} → Shows bytes [] out r r' false → Writes bytes r' written → Writes bytes r (out ++ written)

-- What a printer writes of a trace, some turns more at a time. Definitions only.
use Rattle.std.specs.Prelude.{ℕ, Bool, List, ◌++◌, ◌≡◌, Option, Ok}
use Rattle.std.specs.Io.KnownBytes.{Appends}
use Rattle.connection.specs.Answers.{Begins}
use Rattle.connection.specs.declared.State.{State}
use Rattle.playback.specs.Printed.{unless_ended, GoesOn}
use Rattle.playback.specs.Start.{replay_settings, start_with}
use Rattle.playback.specs.declared.Replay.{Replay}

-- of what is to come from where a replay stands, some is written, and the rest is still to come
pub record Prints (to_come : List ℕ → Replay → List ℕ) (bytes : List ℕ) (held held' : Option (List ℕ)) (r r' : Replay) (ended : Bool) : Type 0 where
  pub written : List ℕ
  pub appended : Appends held held' written
  pub shown : written ++ unless_ended ended (to_come bytes r') ≡ to_come bytes r
  pub goes_on : GoesOn bytes r r' ended

-- all that is to come of a trace from its first byte on, on the fresh connection that `begin` gives
abbrev pub PrintsAll : (List ℕ → Replay → List ℕ) → List ℕ → Option (List ℕ) → Option (List ℕ) → Type 0
PrintsAll to_come bytes held held' = (s : State) → Begins replay_settings (Ok s) → Appends held held' (to_come bytes (start_with s))

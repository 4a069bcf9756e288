-- What a whole replay writes is what the definition prints. Assumes nothing.
use mathlib.Core.Path.{◌≡◌, ap, sym, ◌∙◌}
use mathlib.Core.List.{List, ◌++◌, append-nil}
use Prim.Native.Nat.{ℕ, ◌≤◌}
use native.Mathlib.Omega.{arith}
use borrow.Author.Tests.{le-ltb}
use lib.ListN.{length}
use Rattle.model.specs.Connection.{fresh}
use Rattle.model.specs.Numbers.{are_settings}
use Rattle.model.specs.Trace.{printed, replay}
use Rattle.arith.specs.declared.refusal.Refusal.{Refusal}
use Rattle.connection.specs.Answers.{Begins}
use Rattle.connection.specs.Steps.{fresh_state}
use Rattle.connection.specs.View.{connection_of}
use Rattle.connection.specs.declared.State.{State}
use Rattle.trace.proofs.Replay.{replay-whole}
use Rattle.playback.specs.Printed.{lines_from}
use Rattle.playback.specs.Start.{replay_settings, start_on}
use Rattle.playback.specs.Whole.{Writes, last, more}
use Rattle.playback.specs.declared.Replay.{Replay}
use Rattle.std.specs.Prelude.{Ok, Err}

pub writes-lines : {bytes written : List ℕ} {r : Replay} → Writes bytes r written → written ≡ printed (lines_from bytes r)
writes-lines (last {out = out} h) = sym (append-nil out) ∙ h.shown
writes-lines (more {out = out} h w) = ap (λ (l : List ℕ). out ++ l) (writes-lines w) ∙ h.shown

-- a trace that is not too long, from a connection on
pub writes-replay : (bytes m written : List ℕ) (s : State) → length bytes ≤ 65536 → Writes bytes (start_on m s) written → written ≡ printed (replay bytes (connection_of m s))
unfolding lines_from
writes-replay bytes m written s le w = writes-lines w ∙ rw (replay-whole bytes (connection_of m s), le-ltb 65536 (length bytes) le)

-- the connection that `begin` gives is fresh, and it gives one
pub begins-fresh : (m : List ℕ) (s : State) → Begins replay_settings (Ok s) → fresh replay_settings ≡ Ok (connection_of m s)
begins-fresh m s h = sym (h.stands m)

pub never-refused : (k : Refusal) → Begins replay_settings (Err k) → ⊥
unfolding fresh_state are_settings
never-refused k h = let e = h.state in let z : ◌≡◌ {A = ℕ} 0 1 = cc in omega arith

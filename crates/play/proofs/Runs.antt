-- Events that each do what `play` claims do together what the definitions say of the list of them, and after each of them what the definitions say of it.
-- Assumes nothing.
use mathlib.Core.Path.{◌≡◌, refl, ap, ◌∙◌}
use mathlib.Core.List.{List}
use Prim.Native.Nat.{ℕ}
use Rattle.model.specs.Run.{step, after, run}
use Rattle.model.specs.Run as run
use Rattle.connection.specs.View.{connection_of}
use Rattle.connection.specs.declared.State.{State}
use Rattle.play.specs.Runs.{Seen, seen_of, Plays, none, next}
use Rattle.play.proofs.Read.{state-after}

pub plays-run : {m m' : List ℕ} {s s' : State} {l : List run.Event} {seen : List Seen} → Plays m s l seen m' s' → connection_of m' s' ≡ run l (connection_of m s)
unfolding run after
plays-run none = refl
plays-run (next {m = m} {s = s} {e = e} {l = l} h p) = plays-run p ∙ ap (run l) (state-after (step e (connection_of m s)) h)

pub plays-seen : {m m' : List ℕ} {s s' : State} {l : List run.Event} {seen : List Seen} → Plays m s l seen m' s' → seen ≡ seen_of l (connection_of m s)
unfolding seen_of after
plays-seen none = refl
plays-seen (next {m = m} {s = s} {e = e} {l = l} h p) = rw (plays-seen p, h.answer, state-after (step e (connection_of m s)) h)

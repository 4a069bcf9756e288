-- Texts written one after another. Assumes nothing.
use mathlib.Core.Path.{◌≡◌, refl, ap, ◌∙◌}
use mathlib.Core.Bool.{Bool, false}
use mathlib.Core.List.{List, [], ◌++◌, append_assoc}
use Prim.Native.Nat.{ℕ}
use Rattle.std.specs.Prelude.{Option}
use Rattle.std.proofs.KnownBytes.{Appends-nil, Appends-trans}
use Rattle.std.specs.Io.KnownBytes.{Appends}
use Rattle.playback.specs.Printed.{unless_ended}
use Rattle.playback.specs.declared.Replay.{Replay}
use Rattle.program.specs.Printing.{Prints}

-- so far: what is written, and what is still to come
pub record Printing (to_come : List ℕ → Replay → List ℕ) (bytes : List ℕ) (held held' : Option (List ℕ)) (r r' : Replay) (ended : Bool) : Type 0 where
  pub written : List ℕ
  pub appended : Appends held held' written
  pub shown : written ++ unless_ended ended (to_come bytes r') ≡ to_come bytes r

module _ {to_come : List ℕ → Replay → List ℕ} {bytes : List ℕ} where
  pub printing_none : (held : Option (List ℕ)) (r : Replay) → Printing to_come bytes held held r r false
  printing_none held r = record { written = []; appended = Appends-nil held; shown = refl }

  pub printing_more : {held held₁ held₂ : Option (List ℕ)} {r r₁ r₂ : Replay} {b₂ : Bool} → (b : Bool) → b ≡ false →
      Printing to_come bytes held held₁ r r₁ b → Prints to_come bytes held₁ held₂ r₁ r₂ b₂ → Printing to_come bytes held held₂ r r₂ b₂
  printing_more {held} {held₁} {held₂} {r} {r₁} {r₂} {b₂} b e p q =
      record {
        written = p.written ++ q.written;
        appended = Appends-trans held held₁ held₂ p.written q.written p.appended q.appended;
        shown = append_assoc p.written q.written (unless_ended b₂ (to_come bytes r₂)) ∙ (ap (λ (l : List ℕ). p.written ++ l) q.shown ∙ (rw e at p.shown));
      }

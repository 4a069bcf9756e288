-- Turns told one after another into one text, and texts written one after another. Assumes nothing.
use mathlib.Core.Path.{◌≡◌, refl, ◌∙◌}
use mathlib.Core.Bool.{Bool, true, false}
use mathlib.Core.List.{List}
use Prim.Native.Nat.{ℕ, suc, ◌-◌, ◌≤◌, ◌<◌}
use native.Mathlib.Omega.{arith}
use Rattle.connection.specs.declared.State.{State}
use Rattle.playback.specs.Printed.{Sound, GoesOn, Shows}
use Rattle.playback.specs.Start.{start_with}
use Rattle.playback.specs.declared.Replay.{Replay}

-- falls with each turn
abbrev pub left : ℕ → Bool → ℕ → ℕ
left size true at = 0
left size false at = suc (size - at)

pub left-falls : (size at : ℕ) (b b' : Bool) (at' : ℕ) → b ≡ false → (b' ≡ false → at < at') → (b' ≡ false → at' ≤ size) → left size b' at' < left size b at
left-falls size at b true at' e further within = rw e (omega arith)
left-falls size at b false at' e further within = let f = further refl in let w = within refl in rw e (omega arith)

-- the second goes on from where the first left the replay
pub goes-more : {bytes : List ℕ} {r r₁ r₂ : Replay} {b₂ : Bool} → (b : Bool) → b ≡ false → GoesOn bytes r r₁ b → GoesOn bytes r₁ r₂ b₂ → GoesOn bytes r r₂ b₂
goes-more b e h k = let f = h.further e in record { sound = k.sound; further = λ z. let g = k.further z in omega arith; within = k.within }

pub shows-more : {bytes out out₁ out₂ : List ℕ} {r r₁ r₂ : Replay} {b₂ : Bool} → (b : Bool) → b ≡ false →
    Shows bytes out out₁ r r₁ b → Shows bytes out₁ out₂ r₁ r₂ b₂ → Shows bytes out out₂ r r₂ b₂
shows-more b e h k = record { shown = k.shown ∙ (rw e at h.shown); goes_on = goes-more b e h.goes_on k.goes_on }

-- a replay starts sound
pub start-sound : (s : State) → Sound (start_with s)
start-sound s = record { few = omega arith }

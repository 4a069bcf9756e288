-- A chain of rules, followed by one more: it may be put inside. Assumes nothing.
use mathlib.Core.Path.{◌≡◌, refl}
use mathlib.Core.Bool.{Bool, true, false, cond}
use Prim.Native.Nat.{ℕ}
use Rattle.arith.specs.Refusals.{then, must}
use Rattle.arith.specs.declared.refusal.Refusal.{Refusal}
use Rattle.std.specs.Prelude.{Result, Ok, Err}

module _ {A B : Type 0} (f : A → Result B Refusal) where
  pub must-then : (b : Bool) (k : Refusal) (r : Result A Refusal) (q : Result B Refusal) → (b ≡ true → q ≡ then r f) → must b k q ≡ then (must b k r) f
  must-then true k r q h = h refl
  must-then false k r q h = refl

  pub reach-then : (x : Result ℕ Refusal) (r : ℕ → Result A Refusal) (q : ℕ → Result B Refusal) → ((n : ℕ) → x ≡ Ok n → q n ≡ then (r n) f) → then x q ≡ then (then x r) f
  reach-then (Ok n) r q h = h n refl
  reach-then (Err why) r q h = refl

  pub cond-then : (b : Bool) (r r' : Result A Refusal) (q q' : Result B Refusal) → q ≡ then r f → q' ≡ then r' f → cond b q q' ≡ then (cond b r r') f
  cond-then true r r' q q' g h = g
  cond-then false r r' q q' g h = h

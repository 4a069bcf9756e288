-- What holds of every value that a chain of rules accepts, from what holds of the last rule's. Assumes nothing.
use mathlib.Core.Path.{◌≡◌, refl, sym, subst}
use mathlib.Core.Bool.{Bool, true, false, cond}
use Prim.Native.Nat.{ℕ, ◌≤◌, ◌^◌}
use native.Mathlib.Omega.{arith}
use lib.Dec.{T, leb, leb→le}
use Rattle.arith.specs.declared.time.Moment.{Moment}
use Rattle.arith.specs.declared.time.Span.{Span}
use Rattle.arith.specs.Refusals.{then, must}
use Rattle.model.specs.Numbers.{reach_window}
use Rattle.arith.specs.declared.refusal.Refusal.{Refusal}
use Rattle.std.specs.Prelude.{Result, Ok, Err}
use Rattle.arith.specs.declared.refusal.Refusal.TheVariants.{TooLarge}

-- a refusal accepts nothing
pub no_value : {A B : Type 0} {k : Refusal} {a : A} → Err k ≡ Ok a → B
no_value e = absurd (let z : ◌≡◌ {A = ℕ} 0 1 = cc in let w : ⊥ = omega arith in w)

module _ {A : Type 0} (P : A → Type 0) where
  -- P of all that r accepts
  abbrev pub All : Result A Refusal → Type 0
  All r = (a : A) → r ≡ Ok a → P a

  pub all-is : (a : A) → P a → All (Ok a)
  all-is a p b e = let z : a ≡ b = cc in rw (← z) p

  pub all_then : {B : Type 0} (x : Result B Refusal) (f : B → Result A Refusal) → ((b : B) → x ≡ Ok b → All (f b)) → All (then x f)
  all_then (Ok b) f h = h b refl
  all_then (Err k) f h = λ a e. no_value e

  pub all-must : (b : Bool) (k : Refusal) (r : Result A Refusal) → All r → All (must b k r)
  all-must true k r h = h
  all-must false k r h = λ a e. no_value e

  pub all-cond : (b : Bool) (r q : Result A Refusal) → (b ≡ true → All r) → (b ≡ false → All q) → All (cond b r q)
  all-cond true r q h g = h refl
  all-cond false r q h g = g refl

  pub all-reach : {B : Type 0} (x : Result B Refusal) (f : B → Result A Refusal) → ((b : B) → All (f b)) → All (then x f)
  all-reach (Ok b) f h = h b
  all-reach (Err k) f h = λ a e. no_value e

  pub all-window : (w : ℕ) (f : ℕ → Result A Refusal) → (w ≤ 2 ^ 30 → All (f w)) → All (reach_window w f)
  all-window w f h = all-cond (leb w (2 ^ 30)) (f w) (Err _) (λ e. h (leb→le w (2 ^ 30) (subst T (sym e) tt))) (λ e a p. no_value p)

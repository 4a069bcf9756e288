-- A chain of rules, followed by one more: it may be put inside, step by step. Assumes nothing.
use mathlib.Core.Path.{◌≡◌, refl}
use Rattle.arith.specs.Refusals.{then}
use Rattle.std.specs.Prelude.{Result, Ok, Err}
use Rattle.arith.specs.declared.refusal.Refusal.{Refusal}

module _ {A B C : Type 0} (h : C → Result B Refusal) where
  pub then-then : (x : Result A Refusal) (f : A → Result B Refusal) (g : A → Result C Refusal) → ((a : A) → x ≡ Ok a → f a ≡ then (g a) h) → then x f ≡ then (then x g) h
  then-then (Ok a) f g p = p a refl
  then-then (Err n) f g p = refl

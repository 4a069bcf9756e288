-- What the controller is told, in two parts: the second follows the first. Assumes nothing.
use mathlib.Core.Path.{◌≡◌, refl}
use mathlib.Core.List.{List, [], ◌∷◌, ◌++◌}
use Rattle.arith.specs.Refusals.{then}
use Rattle.model.specs.Control.{Move, moved, control}
use Rattle.model.specs.declared.Congestion.{Congestion}
use Rattle.std.specs.Prelude.{Result, Ok, Err}
use Rattle.arith.specs.declared.refusal.Refusal.{Refusal}

pub control-append : (xs ys : List Move) (g : Congestion) → control (xs ++ ys) g ≡ then (control xs g) (λ h. control ys h)
unfolding control
control-append [] ys g = refl
control-append (x ∷ xs) ys g = go (moved x g) (λ h. control-append xs ys h)
  where
    go : (r : Result Congestion Refusal) → ((h : Congestion) → control (xs ++ ys) h ≡ then (control xs h) (λ k. control ys k)) →
        then r (λ h. control (xs ++ ys) h) ≡ then (then r (λ h. control xs h)) (λ h. control ys h)
    go (Ok h) e = e h
    go (Err k) e = refl

then_same : {A : Type 0} (r : Result A Refusal) → then r Ok ≡ r
then_same (Ok a) = refl
then_same (Err k) = refl

pub control-one : (x : Move) (g : Congestion) → control (x ∷ []) g ≡ moved x g
unfolding control
control-one x g = then_same (moved x g)

-- Any two results that a claim of this crate allows are equal. Assumes nothing.
use mathlib.Core.Path.{◌≡◌, refl, sym, ◌∙◌}
use mathlib.Core.List.{List}
use Prim.Native.Nat.{ℕ}
use Rattle.model.specs.Connection.{Connection}
use Rattle.model.specs.Events.{Step}
use Rattle.model.specs.declared.Settings.{Settings}
use Rattle.connection.specs.View.{Does}
use Rattle.connection.specs.Answers.{outcome_says, Begins}
use Rattle.connection.specs.declared.State.{State}
use Rattle.std.specs.Prelude.{Result, Ok, Err}
use Rattle.arith.specs.declared.refusal.Refusal.{Refusal}

-- the answer, the lent words and the state after an event
pub record Same {A : Type 0} (o o' : Result A Refusal) (m m' : List ℕ) (s s' : State) : Type 0 where
  pub answer : o ≡ o'
  pub memory : m ≡ m'
  pub state : s ≡ s'

pub one-result : {A : Type 0} (d : Result (Step A) Refusal) {o o' : Result A Refusal} {m m₁ m₂ : List ℕ} {s s₁ s₂ : State} {place : Connection → State} {words : Connection → List ℕ} →
    Does d o m m₁ s s₁ place words → Does d o' m m₂ s s₂ place words → Same o o' m₁ m₂ s₁ s₂
one-result (Ok x) a b =
    record { answer = a.answer ∙ sym b.answer; memory = a.leaves.stored ∙ sym b.leaves.stored; state = a.leaves.placed ∙ sym b.leaves.placed }
one-result (Err k) a b =
    record { answer = a.answer ∙ sym b.answer; memory = a.leaves.memory ∙ sym b.leaves.memory; state = a.leaves.state ∙ sym b.leaves.state }

-- and an answer is given in one way
pub one-outcome : (a b : Result Unit Refusal) → outcome_says a ≡ outcome_says b → a ≡ b
one-outcome (Ok u) (Ok w) e = refl
one-outcome (Ok u) (Err k) e = cc
one-outcome (Err k) (Ok u) e = cc
one-outcome (Err k) (Err l) e = cc

-- a fresh connection
pub one-begun : (s : Settings) (a b : Result State Refusal) → Begins s a → Begins s b → a ≡ b
one-begun s a b p q = p.state ∙ sym q.state

-- Any two results that a claim of this crate allows are equal: by value, on lent words or behind a reference, an event is one operation. Assumes nothing.
use mathlib.Core.Path.{◌≡◌, sym, ◌∙◌}
use Rattle.model.specs.Connection.{Connection}
use Rattle.model.specs.Events.{Step}
use Rattle.serve.specs.Record.{Served}
use Rattle.serve.specs.declared.Connection.{Connection as Record}
use Rattle.std.specs.Prelude.{Result}
use Rattle.arith.specs.declared.refusal.Refusal.{Refusal}

-- the answer, and the record after the event
pub record Same {B : Type 0} (r r' : B) (c c' : Record) : Type 0 where
  pub answer : r ≡ r'
  pub left : c ≡ c'

pub one-served : {A B : Type 0} {d : Result (Step A) Refusal} {says : Result A Refusal → B} {lay : Connection → Record} {c c₁ c₂ : Record} {r₁ r₂ : B} → Served d says lay c r₁ c₁ → Served d says lay c r₂ c₂ → Same r₁ r₂ c₁ c₂
one-served a b = record { answer = a.answer ∙ sym b.answer; left = a.left ∙ sym b.left }

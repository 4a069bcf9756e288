-- Any two results that `play` allows are equal. Assumes nothing.
use mathlib.Core.Path.{◌≡◌, refl, sym, ap, ◌∙◌}
use mathlib.Core.List.{List}
use Prim.Native.Nat.{ℕ}
use Rattle.model.specs.Connection.{Connection}
use Rattle.model.specs.Events.{Step}
use Rattle.model.specs.Run as run
use Rattle.connection.proofs.One.{one-result}
use Rattle.connection.specs.View.{Does}
use Rattle.connection.specs.declared.State.{State}
use Rattle.play.specs.Answers.{answered_says, mapped}
use Rattle.play.specs.declared.Told.{Told}
use Rattle.connection.specs.declared.Answer.{Answer}
use Rattle.std.specs.Prelude.{Result, Ok, Err}
use Rattle.arith.specs.declared.refusal.Refusal.{Refusal}

-- an answer is given in one way

told_of : run.Answer → Told
told_of run.done = Told.Done
told_of (run.of_ack o) = Told.Ack o
told_of (run.of_timeout o) = Told.Timeout o
told_of (run.handle h) = Told.Handle h

back : (a : Result Told Refusal) → mapped told_of (answered_says a) ≡ a
unfolding told_of
back (Ok Told.Done) = refl
back (Ok (Told.Ack o)) = refl
back (Ok (Told.Timeout o)) = refl
back (Ok (Told.Handle h)) = refl
back (Err k) = refl

pub one-answered : (a b : Result Told Refusal) → answered_says a ≡ answered_says b → a ≡ b
one-answered a b e = sym (back a) ∙ (ap (mapped told_of) e ∙ back b)

-- the answer and the state, and the words
pub record SamePlayed (a b : Answer Told) (m m' : List ℕ) : Type 0 where
  pub played : a ≡ b
  pub memory : m ≡ m'

same_parts : (x y : Result Told Refusal) (s t : State) → x ≡ y → s ≡ t → ◌≡◌ {A = Answer Told} (record { outcome = x; state = s }) (record { outcome = y; state = t })
same_parts x y s t e f = cc

pub one-played : (d : Result (Step run.Answer) Refusal) (a b : Answer Told) {m m₁ m₂ : List ℕ} {s : State} {place : Connection → State} {words : Connection → List ℕ} →
    Does d (answered_says a.outcome) m m₁ s a.state place words → Does d (answered_says b.outcome) m m₂ s b.state place words → SamePlayed a b m₁ m₂
one-played d a b p q =
    let same = one-result d p q in
    record {
      played = same_parts a.outcome b.outcome a.state b.state (one-answered a.outcome b.outcome same.answer) same.state;
      memory = same.memory;
    }

-- An event's claim, in the words of one answer for all events. Assumes nothing.
use mathlib.Core.Path.{◌≡◌, ap}
use mathlib.Core.List.{List}
use Prim.Native.Nat.{ℕ}
use Rattle.model.specs.Connection.{Connection}
use Rattle.model.specs.Events.{Step}
use Rattle.model.specs.Run as run
use Rattle.connection.specs.Answers.{outcome_says}
use Rattle.connection.specs.View.{Does}
use Rattle.connection.specs.declared.State.{State}
use Rattle.model.specs.declared.OnAckReceivedOutcome.{OnAckReceivedOutcome}
use Rattle.model.specs.declared.OnLossDetectionTimeoutOutcome.{OnLossDetectionTimeoutOutcome}
use Rattle.play.specs.Answers.{answered_says, mapped}
use Rattle.play.specs.declared.Told.{Told}
use Rattle.std.specs.Prelude.{Result, Ok, Err}
use Rattle.arith.specs.declared.refusal.Refusal.{Refusal}

module _ {A : Type 0} (f : A → run.Answer) {m m' : List ℕ} {s s' : State} {place : Connection → State} {words : Connection → List ℕ} where
  -- what an event does, it does with its answer told in other words
  pub lifted : (d : Result (Step A) Refusal) {o : Result A Refusal} → Does d o m m' s s' place words → Does (run.answering f d) (mapped f o) m m' s s' place words
  lifted (Ok x) h = record { answer = ap (mapped f) h.answer; leaves = h.leaves }
  lifted (Err k) h = record { answer = ap (mapped f) h.answer; leaves = h.leaves }

  pub lifts : (d : Result (Step A) Refusal) (o : Result A Refusal) (a : Result run.Answer Refusal) → a ≡ mapped f o →
      Does d o m m' s s' place words → Does (run.answering f d) a m m' s s' place words
  lifts d o a e h = rw e (lifted d h)

-- each answer is its event's own, told in one way for all

pub done-says : (o : Result Unit Refusal) (r : Result Told Refusal) → r ≡ mapped (λ (u : Unit). Told.Done) o → answered_says r ≡ mapped (λ (x : ℕ). run.done) (outcome_says o)
done-says (Ok u) r e = rw e
done-says (Err k) r e = rw e

pub taken-says : (o : Result ℕ Refusal) (r : Result Told Refusal) → r ≡ mapped Told.Handle o → answered_says r ≡ mapped run.handle o
taken-says (Ok h) r e = rw e
taken-says (Err k) r e = rw e

pub acked-says : (o : Result OnAckReceivedOutcome Refusal) (r : Result Told Refusal) → r ≡ mapped Told.Ack o → answered_says r ≡ mapped run.of_ack o
acked-says (Ok x) r e = rw e
acked-says (Err k) r e = rw e

pub timed-out-says : (o : Result OnLossDetectionTimeoutOutcome Refusal) (r : Result Told Refusal) → r ≡ mapped Told.Timeout o → answered_says r ≡ mapped run.of_timeout o
timed-out-says (Ok x) r e = rw e
timed-out-says (Err k) r e = rw e

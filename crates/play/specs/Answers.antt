-- What an event's answer says, in model's terms. Definitions only.
use Rattle.std.specs.Prelude.{Bool, true, false, Result, Ok, Err}
use Rattle.model.specs.Run as run
use Rattle.play.specs.declared.Told.{Told}
use Rattle.arith.specs.declared.refusal.Refusal.{Refusal}

abbrev pub told_says : Told → run.Answer
told_says Told.Done = run.done
told_says (Told.Ack o) = run.of_ack o
told_says (Told.Timeout o) = run.of_timeout o
told_says (Told.Handle h) = run.handle h

-- an answer in other words; a refusal stays
abbrev pub mapped : {A B : Type 0} → (A → B) → Result A Refusal → Result B Refusal
mapped f (Ok a) = Ok (f a)
mapped f (Err k) = Err k

abbrev pub is_accepted : {A : Type 0} → Result A Refusal → Bool
is_accepted (Ok a) = true
is_accepted (Err k) = false

abbrev pub answered_says : Result Told Refusal → Result run.Answer Refusal
answered_says = mapped told_says

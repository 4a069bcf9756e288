-- From what an event claims of words and state to what it claims of a record. Assumes nothing.
use mathlib.Core.Path.{◌≡◌, refl, ap, ◌∙◌}
use mathlib.Core.Bool.{Bool, true, false}
use mathlib.Core.List.{List}
use Prim.Native.Nat.{ℕ}
use Rattle.model.specs.Connection.{Connection, shared_fresh, fresh}
use Rattle.model.specs.Events.{Step}
use Rattle.arith.specs.Refusals.{then, must, number_of}
use Rattle.model.specs.Numbers.{are_settings}
use Rattle.model.specs.Run.{refusal_of}
use Rattle.arith.specs.declared.refusal.Refusal.{Refusal}
use Rattle.arith.specs.declared.refusal.Refusal.TheVariants.{Domain}
use Rattle.model.specs.declared.Settings.{Settings}
use Rattle.connection.specs.Answers.{Begins}
use Rattle.connection.specs.Steps.{space_state_fresh, fresh_state}
use Rattle.connection.specs.View.{connection_of, answer_of, Leaves, Does}
use Rattle.connection.specs.declared.State.{State}
use Rattle.plain.proofs.Back.{state-back}
use Rattle.plain.specs.Values.{state_of, values_of, is_sealed}
use Rattle.plain.specs.declared.Values.{Values}
use Rattle.serve.specs.Events.{begun, begin_state}
use mir.Val.{bool_byte}
use Rattle.arith.specs.Time.{span}
use Rattle.arith.specs.declared.time.Span.{Span}
use Rattle.serve.specs.Readouts.{span_or, is_refused}
use Rattle.std.specs.Result.{result_unwrap_or}
use Rattle.serve.specs.Record.{record_of, stands_for, asked, Served}
use Rattle.serve.specs.Answers.{kept_by}
use Rattle.connection.specs.Answers.{outcome_says}
use Rattle.serve.specs.declared.Connection.{Connection as Record}
use Rattle.std.specs.Prelude.{Result, Ok, Err, is_err}

module _ {A B : Type 0} (says : Result A Refusal → B) (m m' : List ℕ) (v : Values) (place : Connection → State) (words : Connection → List ℕ) where
  abbrev lay : Connection → Record
  lay x = record_of (words x) (values_of (place x))

  -- of a record that was begun
  leaves : (d : Result (Step A) Refusal) (s' : State) → Leaves d m m' (state_of v) s' place words → Served d says lay (record_of m v) (says (answer_of d)) (record_of m' (kept_by (answer_of d) v s'))
  unfolding stands_for
  leaves (Ok x) s' e =
      record {
        answer = refl;
        left = λ i. record_of (e.stored i) (values_of (e.placed i));
        stands = ap (connection_of m') (state-back s') ∙ e.stands;
      }
  leaves (Err k) s' e =
      record {
        answer = refl;
        left = ap (λ (w : List ℕ). record_of w v) e.memory;
        stands = ap (λ (w : List ℕ). connection_of w (state_of v)) e.memory;
      }

  pub serves : (d : Result (Step A) Refusal) (o : Result A Refusal) (s' : State) → is_sealed v ≡ true → Does d o m m' (state_of v) s' place words →
      Served (asked (record_of m v) d) says lay (record_of m v) (says o) (record_of m' (kept_by o v s'))
  unfolding asked
  serves d o s' begun e = rw (begun, e.answer) (leaves d s' e.leaves)

-- of one that was not
pub unserved : {A B : Type 0} (says : Result A Refusal → B) (c : Record) (lay : Connection → Record) (d : Result (Step A) Refusal) → is_sealed c.values ≡ false →
    Served (asked c d) says lay c (says (Err Domain)) c
unfolding asked
unserved says c lay d out = rw out (record { answer = refl; left = refl; stands = refl })

-- an event that answers nothing: its number, and the values beside it
pub number-says : (o : Result Unit Refusal) → refusal_of o ≡ refusal_of (outcome_says o)
number-says (Ok u) = refl
number-says (Err k) = refl

pub kept-says : (o : Result Unit Refusal) (v : Values) (s : State) → kept_by o v s ≡ kept_by (outcome_says o) v s
kept-says (Ok u) v s = refl
kept-says (Err k) v s = refl

-- a read-out that may be too large
pub too-large-says : (p : Result Span Refusal) → bool_byte (is_err p) ≡ is_refused p
too-large-says (Ok s) = refl
too-large-says (Err k) = refl

pub span-says : (p : Result Span Refusal) → (result_unwrap_or p (span 0)).0 ≡ span_or p
span-says (Ok s) = refl
span-says (Err k) = refl

-- ---- a fresh connection

module _ (m : List ℕ) where
  lies : (s : Settings) (t : State) → Ok t ≡ fresh_state s → t ≡ begin_state (connection_of m t)
  unfolding fresh_state connection_of
  lies s t e = by (are_settings s) e
    where
      by : (b : Bool) → Ok t ≡ must b Domain (Ok (record { initial = space_state_fresh; handshake = space_state_fresh; application = space_state_fresh; shared = shared_fresh s })) → t ≡ begin_state (connection_of m t)
      by true e = cc
      by false e = cc

  pub begins : (v : Values) (s : Settings) (r : Result State Refusal) (t : State) → r ≡ Ok t → Begins s r →
      Served (then (fresh s) begun) refusal_of (λ x. record_of m (values_of (begin_state x))) (record_of m v) 0 (record_of m (values_of t))
  unfolding stands_for
  begins v s r t e b =
      let b' : Begins s (Ok t) = rw e at b in
      rw (← b'.stands m)
      (record { answer = refl; left = ap (λ (u : State). record_of m (values_of u)) (lies s t b'.state); stands = ap (connection_of m) (state-back t) })

  pub unbegun : (v : Values) (s : Settings) (r : Result State Refusal) (k : Refusal) → r ≡ Err k → Begins s r →
      Served (then (fresh s) begun) refusal_of (λ x. record_of m (values_of (begin_state x))) (record_of m v) (number_of k) (record_of m v)
  unbegun v s r k e b =
      let b' : Begins s (Err k) = rw e at b in
      rw (← b'.stands m) (record { answer = refl; left = refl; stands = refl })

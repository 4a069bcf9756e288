-- Where an event leaves a space, and the claim of an event from its step. For callers. Assumes nothing.
use mathlib.Core.Path.{◌≡◌, refl, ap, subst}
use mathlib.Core.Bool.{Bool, true, false, cond}
use mathlib.Core.List.{List}
use Prim.Native.Nat.{ℕ, ◌+◌, ◌-◌, ◌<◌, ◌≤◌, ◌%◌}
use native.Mathlib.Omega.{arith}
use Rattle.arith.specs.declared.time.Moment.{Moment}
use Rattle.model.specs.Control.{Move}
use Rattle.arith.specs.Refusals.{then, must}
use Rattle.model.specs.Numbers.{capacity}
use Rattle.model.specs.Connection.{Space, Connection, space_at, with_space, with_timer}
use Rattle.model.specs.Events.{Step}
use Rattle.model.specs.Timer.{timer_of}
use Rattle.model.specs.declared.HandshakeStatus.{HandshakeStatus}
use Rattle.arith.specs.declared.refusal.Refusal.{Refusal}
use Rattle.model.specs.declared.Shared.{Shared}
use Rattle.records.proofs.Laws.{length-records, length-queue}
use Rattle.connection.specs.View.{count, space_of, connection_of, space_state_at, with_space_state, placed_by, state_by, Does}
use Rattle.connection.specs.Steps.{armed, timed_state}
use Rattle.connection.specs.declared.SpaceState.{SpaceState}
use Rattle.connection.specs.declared.State.{State}
use Rattle.connection.proofs.Views.{by-space}
use Rattle.std.specs.Prelude.{Result, Ok, Err, Option}

-- ---- where a space lies

-- a space that lies where an event leaves it that stored so many records there, its counts in their ranges
pub record Fits (old : SpaceState) (stored : ℕ) (p : SpaceState) : Type 0 where
  pub head : p.head ≡ (old.head + (count old.len + stored - p.len)) % capacity
  pub len : p.len ≤ capacity
  pub acked : p.acked ≤ capacity
  pub lost_ack : p.lost_ack ≤ capacity
  pub lost_pto : p.lost_pto ≤ capacity

counted : (n : ℕ) → n ≤ capacity → count n ≡ n
counted n h = omega arith

pub placed-self : (m : List ℕ) (n : ℕ) (old : SpaceState) (stored : ℕ) (p : SpaceState) → Fits old stored p → p ≡ placed_by old stored (space_of m n p)
unfolding placed_by space_of
placed-self m n old stored p f =
    rw (
      length-records m n p.head (count p.len),
      length-queue m n 0 (count p.acked),
      length-queue m n 1 (count p.lost_ack),
      length-queue m n 2 (count p.lost_pto),
      counted p.len f.len,
      counted p.acked f.acked,
      counted p.lost_ack f.lost_ack,
      counted p.lost_pto f.lost_pto,
      ← f.head,
    ) refl

pub placed-view : (m : List ℕ) (s : State) (stored : ℕ) (p : SpaceState) (shared : Shared) (n : ℕ) → n < 3 → Fits (space_state_at n s) stored p →
    with_space_state n p shared s ≡ state_by s n stored (connection_of m (with_space_state n p shared s))
unfolding with_space_state space_state_at state_by connection_of space_at
placed-view m s stored p shared =
    by-space
    (λ n. Fits (space_state_at n s) stored p → with_space_state n p shared s ≡ state_by s n stored (connection_of m (with_space_state n p shared s)))
    (λ f. ap (λ (x : SpaceState). with_space_state 0 x shared s) (placed-self m 0 s.initial stored p f))
    (λ f. ap (λ (x : SpaceState). with_space_state 1 x shared s) (placed-self m 1 s.handshake stored p f))
    (λ f. ap (λ (x : SpaceState). with_space_state 2 x shared s) (placed-self m 2 s.application stored p f))

-- a timer changes no space
pub armed-space : (t : Option Moment) (s : State) (p : SpaceState) (shared : Shared) (n : ℕ) → n < 3 → armed t (with_space_state n p shared s) ≡ with_space_state n p (with_timer t shared) s
unfolding armed with_space_state
armed-space t s p shared = by-space (λ n. armed t (with_space_state n p shared s) ≡ with_space_state n p (with_timer t shared) s) refl refl refl

-- the same words, one space stored anew
pub whole-view : (m : List ℕ) (s : State) (p : SpaceState) (new : Space) (n : ℕ) → n < 3 → space_of m n p ≡ new →
    with_space n new (connection_of m s) ≡ connection_of m (with_space_state n p s.shared s)
unfolding connection_of with_space_state with_space
whole-view m s p new =
    by-space (λ n. space_of m n p ≡ new → with_space n new (connection_of m s) ≡ connection_of m (with_space_state n p s.shared s))
    (λ e. rw (← e) refl) (λ e. rw (← e) refl) (λ e. rw (← e) refl)

-- ---- what holds of each accepted answer

abbrev pub Each : {A : Type 0} → (A → Type 0) → Result A Refusal → Type 0
Each P r = (a : _) → r ≡ Ok a → P a

none-accepted : {A : Type 0} {k : Refusal} {a : A} → Err k ≡ Ok a → ⊥
none-accepted e = let z : ◌≡◌ {A = ℕ} 0 1 = cc in omega arith

module _ {A : Type 0} (P : A → Type 0) where
  pub one_each : (a : A) → P a → Each P (Ok a)
  one_each a p b e = let z : a ≡ b = cc in subst P z p

  pub must-each : (b : Bool) (k : Refusal) (r : Result A Refusal) → (b ≡ true → Each P r) → Each P (must b k r)
  must-each true k r h = h refl
  must-each false k r h = λ a e. absurd (none-accepted e)

  pub cond-each : (b : Bool) (r q : Result A Refusal) → Each P r → Each P q → Each P (cond b r q)
  cond-each true r q g h = g
  cond-each false r q g h = h

  pub then-each : {B : Type 0} (x : Result B Refusal) (f : B → Result A Refusal) → ((b : B) → Each P (f b)) → Each P (then x f)
  then-each (Ok b) f h = h b
  then-each (Err k) f h = λ a e. absurd (none-accepted e)

-- a state that lies where an event in space n leaves it
abbrev pub Placed : List ℕ → State → ℕ → ℕ → State → Type 0
Placed m s n stored t = t ≡ state_by s n stored (connection_of m t)

pub timed-placed : (m : List ℕ) (s : State) (stored : ℕ) (now : Moment) (status : HandshakeStatus) (p : SpaceState) (shared : Shared) (n : ℕ) → n < 3 →
    Fits (space_state_at n s) stored p → Each (Placed m s n stored) (timed_state now status (with_space_state n p shared s))
unfolding timed_state
timed-placed m s stored now status p shared n nn f =
    then-each (Placed m s n stored) (timer_of _) _ λ t.
    one_each (Placed m s n stored) _ (rw (armed-space t s p shared n nn) (placed-view m s stored p (with_timer t shared) n nn f))

-- ---- what an event claims, from its step

module _ {A : Type 0} (m : List ℕ) (s : State) (place : Connection → State) (words : Connection → List ℕ) where
  pub does-refused : (d : Result (Step A) Refusal) (k : Refusal) → d ≡ Err k → Does d (Err k) m m s s place words
  does-refused d k e = rw e (record { answer = refl; leaves = record { state = refl; memory = refl } })

  pub does-accepted : (d : Result (Step A) Refusal) (m' : List ℕ) (t : State) (a : A) (moves : List Move) →
      d ≡ Ok (record { state = connection_of m' t; answer = a; moves = moves }) →
      t ≡ place (connection_of m' t) → m' ≡ words (connection_of m' t) → Does d (Ok a) m m' s t place words
  does-accepted d m' t a moves e p w = rw e (record { answer = refl; leaves = record { stands = refl; placed = p; stored = w } })

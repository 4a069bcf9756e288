-- What words and state stand for, when one space changes. Assumes nothing.
use mathlib.Core.Path.{◌≡◌, refl, ap, sym, ◌∙◌}
use mathlib.Core.Bool.{Bool, true, false, cond, ◌||◌}
use mathlib.Core.List.{List}
use mathlib.Core.Logic.{⊎_elim, ◌≢◌}
use Prim.Native.Nat.{ℕ, zero, suc, ◌<◌}
use native.Mathlib.Nat.{eq-zero-or-pos}
use native.Mathlib.Omega.{arith}
use borrow.Author.Tests.{lt-ltb}
use lib.Dec.{eqb, ltb}
use lib.ListN.{length}
use Rattle.model.specs.Connection.{Space, Connection, space_at, with_space, with_shared}
use Rattle.model.specs.declared.Shared.{Shared}
use Rattle.records.specs.View.{queue_of}
use Rattle.records.proofs.Laws.{length-queue}
use Rattle.connection.specs.View.{count, space_of, connection_of, space_state_at, with_space_state, placed_by, state_by, Accepts}
use Rattle.connection.specs.declared.SpaceState.{SpaceState}
use Rattle.connection.specs.declared.State.{State}

-- a statement about the spaces is one about each of the three
pub by-space : (P : ℕ → Type 0) → P 0 → P 1 → P 2 → (n : ℕ) → n < 3 → P n
by-space P a b c zero lt = a
by-space P a b c (suc zero) lt = b
by-space P a b c (suc (suc zero)) lt = c
by-space P a b c (suc (suc (suc n))) lt = absurd (let z : ⊥ = omega arith in z)

module _ (m : List ℕ) (s : State) where
  -- the space of the connection is what the space's state stands for
  pub space-view : (n : ℕ) → n < 3 → space_at n (connection_of m s) ≡ space_of m n (space_state_at n s)
  unfolding space_at connection_of space_state_at
  space-view = by-space (λ n. space_at n (connection_of m s) ≡ space_of m n (space_state_at n s)) refl refl refl

  -- whatever the number, what the space keeps beside its records and queues is the state's
  pub epoch_view : (n : ℕ) → (space_at n (connection_of m s)).epoch ≡ (space_state_at n s).epoch
  unfolding space_at connection_of space_state_at
  epoch_view n = go (eqb n 0) (eqb n 1)
    where
      go : (a b : Bool) →
          (cond a (space_of m 0 s.initial) (cond b (space_of m 1 s.handshake) (space_of m 2 s.application))).epoch
          ≡ (cond a s.initial (cond b s.handshake s.application)).epoch
      go true b = refl
      go false true = refl
      go false false = refl

  some-counted : (n : ℕ) → ltb 0 (count n) ≡ ltb 0 n
  some-counted n = ⊎_elim (λ e. rw e refl) (λ pos. lt-ltb 0 (count n) (omega arith) ∙ sym (lt-ltb 0 n pos)) (eq-zero-or-pos n)

  some-queued : (n w len : ℕ) → ltb 0 (length (queue_of m n w (count len))) ≡ ltb 0 len
  some-queued n w len = rw (length-queue m n w (count len)) (some-counted len)

  pub lost_view : (n : ℕ) →
      (ltb 0 (length (space_at n (connection_of m s)).lost_frames_ack) || ltb 0 (length (space_at n (connection_of m s)).lost_frames_pto))
      ≡ (ltb 0 (space_state_at n s).lost_ack || ltb 0 (space_state_at n s).lost_pto)
  unfolding space_at connection_of space_state_at
  lost_view n = go (eqb n 0) (eqb n 1)
    where
      one : (k : ℕ) (x : SpaceState) →
          (ltb 0 (length (queue_of m k 1 (count x.lost_ack))) || ltb 0 (length (queue_of m k 2 (count x.lost_pto))))
          ≡ (ltb 0 x.lost_ack || ltb 0 x.lost_pto)
      one k x = rw (some-queued k 1 x.lost_ack, some-queued k 2 x.lost_pto) refl

      go : (a b : Bool) →
          (ltb 0 (length (cond a (space_of m 0 s.initial) (cond b (space_of m 1 s.handshake) (space_of m 2 s.application))).lost_frames_ack)
          || ltb 0 (length (cond a (space_of m 0 s.initial) (cond b (space_of m 1 s.handshake) (space_of m 2 s.application))).lost_frames_pto))
          ≡ (ltb 0 (cond a s.initial (cond b s.handshake s.application)).lost_ack
          || ltb 0 (cond a s.initial (cond b s.handshake s.application)).lost_pto)
      go true b = one 0 s.initial
      go false true = one 1 s.handshake
      go false false = one 2 s.application

  -- one space is stored anew, the others keep what they stand for
  module _ (m' : List ℕ) (p : SpaceState) (shared : Shared) where
    abbrev Others : ℕ → Type 0
    Others n = (k : ℕ) → k < 3 → k ≢ n → (x : SpaceState) → space_of m' k x ≡ space_of m k x

    pub state-view : (n : ℕ) → n < 3 → Others n →
        connection_of m' (with_space_state n p shared s) ≡ with_shared shared (with_space n (space_of m' n p) (connection_of m s))
    unfolding connection_of with_space_state with_space
    state-view =
        by-space (λ n. Others n → connection_of m' (with_space_state n p shared s) ≡ with_shared shared (with_space n (space_of m' n p) (connection_of m s)))
        (λ o. rw (o 1 (omega arith) (λ e. omega arith) s.handshake, o 2 (omega arith) (λ e. omega arith) s.application) refl)
        (λ o. rw (o 0 (omega arith) (λ e. omega arith) s.initial, o 2 (omega arith) (λ e. omega arith) s.application) refl)
        (λ o. rw (o 0 (omega arith) (λ e. omega arith) s.initial, o 1 (omega arith) (λ e. omega arith) s.handshake) refl)

  pub placed_at : (stored : ℕ) (new : Space) (shared : Shared) (n : ℕ) → n < 3 →
      with_space_state n (placed_by (space_state_at n s) stored new) shared s ≡ state_by s n stored (with_shared shared (with_space n new (connection_of m s)))
  unfolding with_space_state placed_by space_state_at state_by with_space space_at
  placed_at stored new shared =
      by-space
      (λ n. with_space_state n (placed_by (space_state_at n s) stored new) shared s ≡ state_by s n stored (with_shared shared (with_space n new (connection_of m s))))
      refl refl refl

  -- an accepted event in space n: it is enough to say what the space stands for and where it lies
  module _ (m' : List ℕ) (p : SpaceState) (shared : Shared) (n stored : ℕ) (new : Space) (words : Connection → List ℕ) where
    pub accepts : n < 3 → Others m' p shared n → space_of m' n p ≡ new → p ≡ placed_by (space_state_at n s) stored new →
        m' ≡ words (with_shared shared (with_space n new (connection_of m s))) →
        Accepts (with_shared shared (with_space n new (connection_of m s))) m' (with_space_state n p shared s) (state_by s n stored) words
    accepts lt o e placed stored' =
        record {
          stands = state-view m' p shared n lt o ∙ rw e refl;
          placed = ap (λ (x : SpaceState). with_space_state n x shared s) placed ∙ placed_at stored new shared n lt;
          stored = stored';
        }

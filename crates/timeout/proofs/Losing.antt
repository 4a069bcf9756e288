-- A timeout with a loss time, decided and then stored, is model's on what the words and the state stand for. Assumes nothing.
use mathlib.Core.Path.{◌≡◌, refl, ap, sym, ◌∙◌}
use mathlib.Core.Bool.{false}
use mathlib.Core.List.{List, [], ◌++◌, append-nil}
use Prim.Native.Nat.{ℕ, zero, suc, ◌+◌, ◌-◌, ◌<◌, ◌≤◌, ◌%◌, min}
use native.Mathlib.Omega.{arith}
use lib.ListN.{length, get_or, replicate}
use lib.Seq.{drop_at}
use Rattle.arith.specs.Whole.{limit}
use Rattle.arith.specs.declared.time.Moment.{Moment}
use Rattle.arith.specs.Refusals.{then}
use Rattle.model.specs.Numbers.{capacity}
use Rattle.model.specs.Control.{control}
use Rattle.model.specs.Timer.{timer_of}
use Rattle.model.specs.Connection.{Connection, space_at, with_space, with_shared, with_timer, timed}
use Rattle.model.specs.Events.{Step, timeout_outcome, timeout_loss}
use Rattle.model.specs.declared.Congestion.{Congestion}
use Rattle.model.specs.declared.HandshakeStatus.{HandshakeStatus}
use Rattle.model.specs.declared.OnLossDetectionTimeoutOutcome.{OnLossDetectionTimeoutOutcome}
use Rattle.arith.specs.declared.refusal.Refusal.{Refusal}
use Rattle.model.specs.declared.Shared.{Shared}
use Rattle.model.proofs.Peel.{all_then, no_value}
use Rattle.records.specs.View.{all_words, ring, records_of, queue_of}
use Rattle.records.proofs.Laws.{length-queue}
use Rattle.records.proofs.Rings.{ring-ext, length-ring}
use Rattle.marks.specs.Marks.{flagged, held_at, handles_of}
use Rattle.marks.specs.Store.{store_marks}
use Rattle.records.specs.View.{store_handles}
use Rattle.marks.proofs.Rings.{held-records, acked-off, newly-none}
use Rattle.commit.specs.Commit.{newly_handles, gone_handles, committed, Committed}
use Rattle.commit.specs.declared.Queues.{Queues}
use Rattle.commit.proofs.Laws.{commit-memory}
use Rattle.connection.specs.View.{count, space_of, connection_of, normal_of, space_state_at, with_space_state, state_by, Does}
use Rattle.connection.specs.Steps.{armed, timed_state}
use Rattle.connection.specs.declared.SpaceState.{SpaceState}
use Rattle.connection.specs.declared.State.{State}
use Rattle.connection.proofs.Views.{by-space, space-view}
use Rattle.connection.proofs.Steps.{normal-view, timed-view}
use Rattle.connection.proofs.Placed.{Fits, Each, Placed, placed-view, armed-space, one_each, then-each, does-refused, does-accepted}
use Rattle.tracker.specs.Plan.{acked_place, settled_place, plan_losses}
use Rattle.tracker.specs.declared.Losses.{Losses}
use Rattle.tracker.proofs.Chains.{then-then}
use Rattle.tracker.proofs.Detecting.{Ends, ends, losses-view, before, after, detection}
use Rattle.tracker.proofs.Kept.{stored, kept-view, whole-kept}
use Rattle.timeout.specs.Loss.{lost_space, lost_shared, lost_moves, plan_lost, plan_loss}
use Rattle.timeout.specs.Claim.{loss_words}
use Rattle.timeout.specs.declared.loss.LossStep.{LossStep}
use Rattle.std.specs.Prelude.{Bool, Result, Ok, Err, Option}

-- a step in between that refuses nothing
through : {A B C : Type 0} (x : Result A Refusal) (f : A → B) (k : B → Result C Refusal) → then (then x (λ a. Ok (f a))) k ≡ then x (λ a. k (f a))
through (Ok a) f k = refl
through (Err n) f k = refl

module _ (m : List ℕ) (full : length m ≡ all_words) (n : ℕ) (nn : n < 3) (s : State) (fs : List Bool) (off : (i : ℕ) → flagged fs i ≡ false) (now : Moment) where
  abbrev q : SpaceState
  q = normal_of (space_state_at n s)

  -- counts in their ranges
  len-fits : q.len ≤ capacity
  unfolding normal_of
  len-fits = omega arith

  acked-fits : q.acked ≤ capacity
  unfolding normal_of
  acked-fits = omega arith

  lost-fits : q.lost_ack ≤ capacity
  unfolding normal_of
  lost-fits = omega arith

  pto-fits : q.lost_pto ≤ capacity
  unfolding normal_of
  pto-fits = omega arith

  first-place : 0 ≤ q.len
  first-place = omega arith

  -- nothing is newly acked
  nothing-acked : newly_handles m n q.head fs q.len ≡ []
  unfolding handles_of
  nothing-acked = rw (newly-none (flagged fs) (held_at m n q.head) 0 q.len (λ i a b. off i)) refl

  abbrev acks : List ℕ
  acks = queue_of m n 0 q.acked ++ newly_handles m n q.head fs q.len

  abbrev again : List ℕ
  again = queue_of m n 2 q.lost_pto

  held_all : records_of m n q.head q.len ≡ ring (acked_place m n q fs) 0 (q.len - 0)
  held_all =
      let z : q.len - 0 ≡ q.len = omega arith in
      rw z
      (sym (held-records m n q.head q.len)
      ∙ sym (ring-ext (acked_place m n q fs) (held_at m n q.head) 0 q.len (λ i lt. acked-off m n q.head fs (0 + i) (off (0 + i)))))

  counted : (k : ℕ) → k ≤ capacity → count k ≡ k
  counted k le = omega arith

  -- the space that the event is about
  space-before : space_at n (connection_of m s) ≡ before m n q fs now 0 first-place acks again q.epoch
  unfolding space_of
  space-before =
      space-view m s n nn ∙ sym (normal-view m n (space_state_at n s))
      ∙ rw (counted q.len len-fits, counted q.acked acked-fits, counted q.lost_ack lost-fits, counted q.lost_pto pto-fits, held_all, nothing-acked, append-nil) refl

  -- the words once the losses are stored
  abbrev words : Losses → List ℕ
  words l = stored m full n q fs now 0 l.stop l.keep

  module _ (l : Losses) (en : Ends m n q fs now s.shared.rtt.smoothed_rtt 0 l) where
    acked-still : q.acked ≡ q.acked + length (newly_handles m n q.head fs q.len)
    acked-still = rw nothing-acked (omega arith)

    space-lost : space_of (words l) n (lost_space q l) ≡ after m n q fs now 0 first-place acks again q.epoch l
    space-lost = kept-view m full n q fs now 0 l.stop l.keep _ q.acked l.tally.queued acked-still acked-fits en.handles (en.room lost-fits) len-fits pto-fits

    whole-lost : (shared : Shared) →
        with_shared shared (with_space n (after m n q fs now 0 first-place acks again q.epoch l) (connection_of m s)) ≡ connection_of (words l) (with_space_state n (lost_space q l) shared s)
    whole-lost shared = whole-kept m full n q fs now 0 l.stop l.keep s nn (lost_space q l) _ shared space-lost

    lost-placed : Fits (space_state_at n s) 0 (lost_space q l)
    unfolding normal_of
    lost-placed =
        let a = en.keep-len in
        let b = en.room lost-fits in
        record { head = omega arith; len = omega arith; acked = omega arith; lost_ack = b; lost_pto = omega arith }

    -- the words, told from the space after it
    words-plain : words l
        ≡ store_handles (store_marks m n (q.head + l.keep) (ring (settled_place m n q fs l.stop now) l.keep (q.len - l.keep))) n 1 q.lost_ack
        (gone_handles m n q.head fs 0 l.stop)
    unfolding committed store_handles
    words-plain = rw nothing-acked refl

    stored-as : (c : Connection) → space_at n c ≡ after m n q fs now 0 first-place acks again q.epoch l → words l ≡ loss_words m n s c
    unfolding loss_words normal_of
    stored-as c e =
        let a = en.keep-len in
        let k : count (space_state_at n s).len - (q.len - l.keep) ≡ l.keep = omega arith in
        words-plain
        ∙ sym
        (rw (
          e,
          length-ring (settled_place m n q fs l.stop now) l.keep (q.len - l.keep),
          k,
          drop_at (queue_of m n 1 q.lost_ack) (gone_handles m n q.head fs 0 l.stop) q.lost_ack (length-queue m n 1 q.lost_ack),
        ) refl)

    commit-words : now.0 ≤ limit → {last : ℕ} {m' : List ℕ} {r : Queues} → Committed m n q.head q.len fs last 0 l.stop l.keep now q.acked q.lost_ack m' r → m' ≡ words l
    commit-words timely {last} {m'} {r} done =
        let a = en.stop-len in
        let b = len-fits in
        let c : l.stop ≤ min q.len capacity = omega arith in
        commit-memory m n q.head q.len fs last 0 l.stop l.keep now q.acked q.lost_ack (λ i x y. off i) c timely acked-fits lost-fits m' r done
        ∙ ap (λ (x : ℕ). committed m n q.head x fs 0 l.stop l.keep now q.acked q.lost_ack) (counted q.len len-fits)

  space-of : (w : List ℕ) (p : SpaceState) (shared : Shared) → space_at n (connection_of w (with_space_state n p shared s)) ≡ space_of w n p
  unfolding space_at connection_of with_space_state
  space-of w p shared = by-space (λ k. space_at k (connection_of w (with_space_state k p shared s)) ≡ space_of w k p) refl refl refl n nn

  module _ (status : HandshakeStatus) where
    -- what a decision leaves
    abbrev pub lost_step : LossStep → Result (Step OnLossDetectionTimeoutOutcome) Refusal
    lost_step d =
        Ok
        (record {
          state = connection_of (words d.losses) d.state;
          answer = timeout_outcome d.losses.tally.packets d.losses.tally.bytes;
          moves = lost_moves now d.losses;
        })

    timed-lost : (l : Losses) → Ends m n q fs now s.shared.rtt.smoothed_rtt 0 l → (g : Congestion) →
        then (timed now status (with_shared (lost_shared now l g s.shared) (with_space n (after m n q fs now 0 first-place acks again q.epoch l) (connection_of m s))))
        (λ e. Ok (record { state = e; answer = timeout_outcome l.tally.packets l.tally.bytes; moves = lost_moves now l }))
        ≡ then (then (timed_state now status (with_space_state n (lost_space q l) (lost_shared now l g s.shared) s)) (λ t. Ok (record { losses = l; state = t }))) lost_step
    timed-lost l en g =
        rw (whole-lost l en (lost_shared now l g s.shared), timed-view (words l) now status (with_space_state n (lost_space q l) (lost_shared now l g s.shared) s))
        (go (timed_state now status (with_space_state n (lost_space q l) (lost_shared now l g s.shared) s)))
      where
        go : (x : Result State Refusal) →
            then (then x (λ t. Ok (connection_of (words l) t)))
            (λ e. Ok (record { state = e; answer = timeout_outcome l.tally.packets l.tally.bytes; moves = lost_moves now l }))
            ≡ then (then x (λ t. Ok (record { losses = l; state = t }))) lost_step
        go (Ok t) = refl
        go (Err k) = refl

    -- a timeout with a loss time: model's event is the decision, stored
    pub loss-view : timeout_loss now n status (connection_of m s) ≡ then (plan_loss m n fs now status s) lost_step
    unfolding timeout_loss plan_loss plan_lost connection_of
    loss-view =
        rw (space-before, losses-view m n q fs now 0 first-place acks again q.epoch s.shared.rtt s.shared.reordering s.shared.bytes_in_flight)
        (through (plan_losses m n q fs now s.shared.rtt s.shared.reordering q.epoch.largest_acked_packet q.epoch.in_flight_count 0)
        (detection m n q fs now 0 first-place acks again q.epoch s.shared.bytes_in_flight) _
        ∙ then-then lost_step (plan_losses m n q fs now s.shared.rtt s.shared.reordering q.epoch.largest_acked_packet q.epoch.in_flight_count 0) _ _ λ l e.
        then-then lost_step (control (lost_moves now l) s.shared.congestion) _ _ λ g f.
        timed-lost l (ends m n q fs now s.shared.rtt s.shared.reordering q.epoch.largest_acked_packet q.epoch.in_flight_count 0 first-place l e) g)

    -- what is learnt of a decision
    abbrev Lapsed : LossStep → Type 0
    Lapsed d =
        Ends m n q fs now s.shared.rtt.smoothed_rtt 0 d.losses
        × (Placed (words d.losses) s n 0 d.state
        × (space_at n (connection_of (words d.losses) d.state) ≡ space_of (words d.losses) n (lost_space q d.losses)))

    timed-lapsed : (l : Losses) → Ends m n q fs now s.shared.rtt.smoothed_rtt 0 l → (shared : Shared) (t : Option Moment) →
        Lapsed (record { losses = l; state = armed t (with_space_state n (lost_space q l) shared s) })
    timed-lapsed l en shared t =
        rw (armed-space t s (lost_space q l) shared n nn) (
          en,
          (placed-view (words l) s 0 (lost_space q l) (with_timer t shared) n nn (lost-placed l en), space-of (words l) (lost_space q l) (with_timer t shared)),
        )

    lapsed : Each Lapsed (plan_loss m n fs now status s)
    unfolding plan_loss plan_lost timed_state
    lapsed =
        all_then Lapsed (plan_losses m n q fs now s.shared.rtt s.shared.reordering q.epoch.largest_acked_packet q.epoch.in_flight_count 0) _ λ l e.
        let en = ends m n q fs now s.shared.rtt s.shared.reordering q.epoch.largest_acked_packet q.epoch.in_flight_count 0 first-place l e in
        then-each Lapsed (control (lost_moves now l) s.shared.congestion) _ λ g.
        ap-each l en (lost_shared now l g s.shared) (timer_of _)
      where
        ap-each : (l : Losses) → Ends m n q fs now s.shared.rtt.smoothed_rtt 0 l → (shared : Shared) (x : Result (Option Moment) Refusal) →
            Each Lapsed (then (then x (λ t. Ok (armed t (with_space_state n (lost_space q l) shared s)))) (λ t. Ok (record { losses = l; state = t })))
        ap-each l en shared (Ok t) = one_each Lapsed _ (timed-lapsed l en shared t)
        ap-each l en shared (Err k) = λ a e. no_value e

    pub loss-does : {d : LossStep} {last : ℕ} {m' : List ℕ} {r : Queues} → plan_loss m n fs now status s ≡ Ok d → now.0 ≤ limit →
        Committed m n q.head q.len fs last 0 d.losses.stop d.losses.keep now q.acked q.lost_ack m' r →
        Does (timeout_loss now n status (connection_of m s)) (Ok (timeout_outcome d.losses.tally.packets d.losses.tally.bytes)) m m' s d.state (state_by s n 0) (loss_words m n s)
    loss-does {d} {last} {m'} {r} e timely done =
        let k = lapsed d e in
        let w : m' ≡ words d.losses = commit-words d.losses k.0 timely done in
        rw w
        (does-accepted m s (state_by s n 0) (loss_words m n s) _ (words d.losses) d.state _ (lost_moves now d.losses)
        (loss-view ∙ rw e refl) k.1.0
        (stored-as d.losses k.0 (connection_of (words d.losses) d.state) (k.1.1 ∙ space-lost d.losses k.0)))

    pub loss-refused : {k : Refusal} → plan_loss m n fs now status s ≡ Err k →
        Does (timeout_loss now n status (connection_of m s)) (Err k) m m s s (state_by s n 0) (loss_words m n s)
    loss-refused {k} e = does-refused m s (state_by s n 0) (loss_words m n s) _ k (loss-view ∙ rw e refl)

-- ---- for the code

-- no flag is set
pub unflagged : (i : ℕ) → flagged (replicate 256 false) i ≡ false
unflagged i = off 256 i
  where
    off : (k i : ℕ) → get_or (replicate k false) i false ≡ false
    off zero i = refl
    off (suc k) zero = refl
    off (suc k) (suc i) = off k i

-- round the ring
pub around : (a b : ℕ) → (a % 256 + b % 256) % 256 ≡ (a + b) % 256
around a b = omega arith

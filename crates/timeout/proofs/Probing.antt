-- A timeout without a loss time, decided over the state and then stored, is model's on what the words and the state stand for. Assumes nothing.
use mathlib.Core.Path.{◌≡◌, refl, ap, sym, ◌∙◌}
use mathlib.Core.Bool.{true, false, cond}
use mathlib.Core.List.{List, [], ◌∷◌, ◌++◌, append-nil}
use mathlib.Core.Logic.{⊎_elim, ◌≢◌}
use Prim.Native.Nat.{ℕ, ◌+◌, ◌<◌, ◌≤◌, ◌%◌, min}
use native.Mathlib.Nat.{eq-zero-or-pos}
use native.Mathlib.Omega.{arith}
use borrow.Author.Tests.{eq-eqb, ne_eqb, le-leb, lt-leb}
use lib.Dec.{eqb, leb}
use lib.ListN.{length}
use lib.Seq.{drop_at}
use Rattle.arith.specs.declared.time.Moment.{Moment}
use Rattle.arith.specs.Refusals.{then}
use Rattle.model.specs.Numbers.{capacity}
use Rattle.model.specs.Timer.{timer_of, probe_space}
use Rattle.model.specs.Connection.{Connection, space_at, with_space, with_shared, with_timer, facts_of, timed}
use Rattle.model.specs.Events.{Step, timeout_outcome, probe_queue, space_probed, timeout_probe}
use Rattle.model.specs.declared.Epoch.{Epoch}
use Rattle.model.specs.declared.HandshakeStatus.{HandshakeStatus}
use Rattle.model.specs.declared.OnLossDetectionTimeoutOutcome.{OnLossDetectionTimeoutOutcome}
use Rattle.arith.specs.declared.refusal.Refusal.TheVariants.{TooLarge}
use Rattle.model.specs.declared.Sent.{Sent}
use Rattle.model.specs.declared.Shared.{Shared}
use Rattle.model.proofs.Peel.{no_value}
use Rattle.model.proofs.Spaces.{probe-small}
use Rattle.records.specs.View.{all_words, records_of, queue_of}
use Rattle.records.specs.Probes.{probes_of, StoredFrom}
use Rattle.records.specs.View.{store_handles}
use Rattle.records.proofs.Laws.{records-mod, length-records, length-queue}
use Rattle.records.proofs.Handles.{probe-handles, length-probes, handles-records, handles-queue, handles-space, queue-handles}
use Rattle.connection.specs.View.{count, space_of, connection_of, normal_of, space_state_at, with_space_state, state_by, Does}
use Rattle.connection.specs.Steps.{facts_state, armed, timed_state, probed_space}
use Rattle.connection.specs.declared.SpaceState.{SpaceState}
use Rattle.connection.specs.declared.State.{State}
use Rattle.connection.proofs.Views.{by-space, space-view, state-view}
use Rattle.connection.proofs.Steps.{timed-view}
use Rattle.connection.proofs.Results.{cond-then}
use Rattle.connection.proofs.Placed.{Fits, Each, one_each, cond-each, then-each, placed-view, armed-space, does-refused, does-accepted}
use Rattle.tracker.proofs.Chains.{then-then}
use Rattle.timeout.specs.Probe.{raised, granted_state, plan_granted, plan_probe, queued_again, probed_words, probed_state, Probing}
use Rattle.timeout.specs.Claim.{space_by, probe_at, probe_words}
use Rattle.timeout.specs.declared.probe.Probes.{Probes}
use Rattle.std.specs.Prelude.{Result, Ok, Err, Option}
use Rattle.arith.specs.declared.refusal.Refusal.{Refusal}

-- ---- the PTO queue

-- an empty queue is filled, and never too full; another stays
queue-by : (probes : ℕ) (r : List Sent) (a b l : List ℕ) (e : Epoch) → length r ≤ capacity →
    probe_queue probes (record { records = r; acked_frames = a; lost_frames_ack = b; lost_frames_pto = l; epoch = e })
    ≡ Ok (l ++ cond (eqb (length l) 0) (probes_of probes r) [])
unfolding probe_queue
queue-by probes r a b [] e le = probe-handles probes r le
queue-by probes r a b (h ∷ l) e le = rw (ne_eqb (length (h ∷ l)) 0 (λ z. omega arith)) (ap (λ (x : List ℕ). Ok (h ∷ x)) (sym (append-nil l)))

-- the handles that join leave room
joined-fit : (m : List ℕ) (n probes : ℕ) (q : SpaceState) → q.lost_pto ≤ capacity → q.lost_pto + length (queued_again m n probes q) ≤ capacity
unfolding queued_again
joined-fit m n probes q le =
    ⊎_elim
    (λ z.
    rw (eq-eqb q.lost_pto 0 z)
    (omega (arith, length-probes probes (records_of m n (q.head % capacity) (count q.len)), length-records m n (q.head % capacity) (count q.len))))
    (λ pos. rw (ne_eqb q.lost_pto 0 (λ z. omega arith)) (omega arith))
    (eq-zero-or-pos q.lost_pto)

twice : (n : ℕ) → count (count n) ≡ count n
twice n = omega arith

module _ (m : List ℕ) (full : length m ≡ all_words) (n : ℕ) (nn : n < 3) (probes : ℕ) (s : State) where
  abbrev old : SpaceState
  old = space_state_at n s

  abbrev had : ℕ
  had = count old.lost_pto

  abbrev more : List ℕ
  more = queued_again m n probes (normal_of old)

  abbrev words : List ℕ
  words = store_handles m n 2 had more

  abbrev probed : SpaceState
  probed = probed_space probes (had + length more) (normal_of old)

  more-fit : had + length more ≤ capacity
  unfolding normal_of
  more-fit = joined-fit m n probes (normal_of old) (omega arith)

  queue-view : probe_queue probes (space_of m n old) ≡ Ok (queue_of m n 2 had ++ more)
  unfolding space_of queued_again normal_of
  queue-view =
      queue-by probes (records_of m n old.head (count old.len)) _ _ (queue_of m n 2 had) old.epoch (rw (length-records m n old.head (count old.len)) (omega arith))
      ∙ rw (length-queue m n 2 had, twice old.len, records-mod m n (old.head % capacity) (count old.len), records-mod m n old.head (count old.len)) refl

  space-probed : space_of words n probed ≡ space_probed probes (queue_of m n 2 had ++ more) (space_of m n old)
  unfolding space_of probed_space normal_of
  space-probed =
      let c : count (had + length more) ≡ had + length more = omega (arith, more-fit) in
      rw (
        c,
        queue-handles m n 2 had more full more-fit,
        twice old.len,
        twice old.acked,
        twice old.lost_ack,
        handles-records m n 2 had more n (old.head % capacity) (count old.len),
        records-mod m n old.head (count old.len),
        handles-queue m n 2 had more n 0 (count old.acked) (λ e. omega arith),
        handles-queue m n 2 had more n 1 (count old.lost_ack) (λ e. omega arith),
      ) refl

  others : (k : ℕ) → k < 3 → k ≢ n → (x : SpaceState) → space_of words k x ≡ space_of m k x
  unfolding space_of
  others k kk off x =
      let apart : k % 3 ≢ n % 3 = λ e. off (omega arith) in
      rw (
        handles-records m n 2 had more k x.head (count x.len),
        handles-space m n 2 had more k 0 (count x.acked) apart,
        handles-space m n 2 had more k 1 (count x.lost_ack) apart,
        handles-space m n 2 had more k 2 (count x.lost_pto) apart,
      ) refl

  -- the connection with the probes and the handles
  whole-probed : (shared : Shared) →
      with_shared shared (with_space n (space_probed probes (queue_of m n 2 had ++ more) (space_of m n old)) (connection_of m s))
      ≡ connection_of words (with_space_state n probed shared s)
  whole-probed shared = sym (state-view m s words probed shared n nn others ∙ rw space-probed refl)

  probed-fits : Fits old 0 probed
  unfolding probed_space normal_of
  probed-fits = record { head = omega arith; len = omega arith; acked = omega arith; lost_ack = omega arith; lost_pto = more-fit }

  -- the space after it
  space-after : (shared : Shared) → space_at n (connection_of words (with_space_state n probed shared s)) ≡ space_of words n probed
  unfolding space_at connection_of with_space_state
  space-after shared = by-space (λ k. space_at k (connection_of words (with_space_state k probed shared s)) ≡ space_of words k probed) refl refl refl n nn

  -- the handles that joined
  joined : (shared : Shared) → words ≡ probe_words m n s (connection_of words (with_space_state n probed shared s))
  unfolding probe_words
  joined shared = rw (space-after shared, space-probed, drop_at (queue_of m n 2 had) more had (length-queue m n 2 had)) refl

-- the timer does not go by the queues
facts-probed : (now : Moment) (status : HandshakeStatus) (n probes a b : ℕ) (q : SpaceState) (shared : Shared) (s : State) → n < 3 →
    facts_state now status (with_space_state n (probed_space probes a q) shared s) ≡ facts_state now status (with_space_state n (probed_space probes b q) shared s)
unfolding facts_state with_space_state probed_space
facts-probed now status n probes a b q shared s =
    by-space (λ k. facts_state now status (with_space_state k (probed_space probes a q) shared s) ≡ facts_state now status (with_space_state k (probed_space probes b q) shared s)) refl refl refl n

-- ---- the event

abbrev pub done_timeout : Connection → Result (Step OnLossDetectionTimeoutOutcome) Refusal
done_timeout c = Ok (record { state = c; answer = timeout_outcome 0 0; moves = [] })

module _ (m : List ℕ) (full : length m ≡ all_words) (now : Moment) (status : HandshakeStatus) (s : State) where
  -- what a decision leaves
  abbrev pub probed_step : Probes → Result (Step OnLossDetectionTimeoutOutcome) Refusal
  probed_step p = done_timeout (connection_of (probed_words m s p) (probed_state m s p))

  granted-view : (n : ℕ) → n < 3 → (pto : ℕ) →
      then (probe_queue (min pto 2) (space_at n (connection_of m s)))
      (λ q. then (timed now status (with_shared (raised now pto s.shared) (with_space n (space_probed (min pto 2) q (space_at n (connection_of m s))) (connection_of m s)))) done_timeout)
      ≡ then (plan_granted now status n pto s) probed_step
  unfolding plan_granted granted_state timed_state probed_words probed_state normal_of
  granted-view n nn pto =
      rw (
        space-view m s n nn,
        queue-view m full n nn (min pto 2) s,
        whole-probed m full n nn (min pto 2) s (raised now pto s.shared),
        timed-view (words m full n nn (min pto 2) s) now status (with_space_state n (probed m full n nn (min pto 2) s) (raised now pto s.shared) s),
        facts-probed now status n (min pto 2) (had m full n nn (min pto 2) s + length (more m full n nn (min pto 2) s)) (had m full n nn (min pto 2) s) (normal_of (space_state_at n s)) (raised now pto s.shared) s nn,
      )
      (go (timer_of _))
    where
      go : (x : Result (Option Moment) Refusal) →
          then (then (then x (λ t. Ok (armed t (with_space_state n (probed m full n nn (min pto 2) s) (raised now pto s.shared) s)))) (λ t. Ok (connection_of (words m full n nn (min pto 2) s) t))) done_timeout
          ≡ then (then x (λ t. Ok (record { space = n; probes = min pto 2; shared = with_timer t (raised now pto s.shared) }))) probed_step
      go (Ok t) = rw (armed-space t s (probed m full n nn (min pto 2) s) (raised now pto s.shared) n nn) refl
      go (Err k) = refl

  -- a timeout without a loss time: model's event is the decision, stored
  pub probe-view : timeout_probe now status (connection_of m s) ≡ then (plan_probe now status s) probed_step
  unfolding timeout_probe plan_probe facts_of facts_state connection_of
  probe-view =
      then-then probed_step (probe_space (facts_state now status s)) _ _ λ n e.
      cond-then probed_step (leb (s.shared.pto_count + 1) 4294967295) _ _ _ _ (granted-view n (probe-small _ n e) (s.shared.pto_count + 1)) refl

  -- the space that was decided on
  abbrev Chosen : Probes → Type 0
  Chosen p = (probe_at now status s ≡ p.space) × (p.space < 3)

  chosen : Each Chosen (plan_probe now status s)
  unfolding plan_probe plan_granted probe_at
  chosen = go (probe_space (facts_state now status s)) refl
    where
      go : (x : Result ℕ Refusal) → probe_space (facts_state now status s) ≡ x →
          Each (λ p. (space_by x ≡ p.space) × (p.space < 3))
          (then x λ n. cond (leb (s.shared.pto_count + 1) 4294967295) (plan_granted now status n (s.shared.pto_count + 1) s) (Err TooLarge))
      go (Ok n) e =
          cond-each (λ p. (n ≡ p.space) × (p.space < 3)) (leb (s.shared.pto_count + 1) 4294967295) _ _
          (then-each (λ p. (n ≡ p.space) × (p.space < 3)) (timer_of _) _ λ t. one_each (λ p. (n ≡ p.space) × (p.space < 3)) _ (refl, probe-small _ n e))
          (λ a f. no_value f)
      go (Err k) e = λ a f. no_value f

  pub probe-does : {p : Probes} {m' : List ℕ} {t : State} → plan_probe now status s ≡ Ok p → Probing m s p m' t →
      Does (timeout_probe now status (connection_of m s)) (Ok (timeout_outcome 0 0)) m m' s t (state_by s (probe_at now status s) 0) (probe_words m (probe_at now status s) s)
  unfolding probed_words probed_state normal_of
  probe-does {p} {m'} {t} e pr =
      let c = chosen p e in
      rw (pr.state, pr.memory, c.0)
      (does-accepted m s (state_by s p.space 0) (probe_words m p.space s) _ (probed_words m s p) (probed_state m s p) (timeout_outcome 0 0) []
      (probe-view ∙ rw e refl)
      (placed-view (words m full p.space c.1 p.probes s) s 0 (probed m full p.space c.1 p.probes s) p.shared p.space c.1
      (probed-fits m full p.space c.1 p.probes s))
      (joined m full p.space c.1 p.probes s p.shared))

  pub probe-refused : {k : Refusal} → plan_probe now status s ≡ Err k →
      Does (timeout_probe now status (connection_of m s)) (Err k) m m s s (state_by s (probe_at now status s) 0) (probe_words m (probe_at now status s) s)
  probe-refused {k} e = does-refused m s (state_by s (probe_at now status s) 0) (probe_words m (probe_at now status s) s) _ k (probe-view ∙ rw e refl)

-- ---- for the code

pub count_over : (n : ℕ) → 4294967295 ≤ n → leb (n + 1) 4294967295 ≡ false
count_over n h = let z : 4294967295 < n + 1 = omega arith in lt-leb (n + 1) 4294967295 z

pub count_fits : (n : ℕ) → n < 4294967295 → leb (n + 1) 4294967295 ≡ true
count_fits n h = let z : n + 1 ≤ 4294967295 = omega arith in le-leb (n + 1) 4294967295 z

-- a queue that holds handles stays
pub stays : (m : List ℕ) (n probes : ℕ) (q : SpaceState) → (q.lost_pto ≡ 0 → ⊥) → StoredFrom m n 2 q.lost_pto (queued_again m n probes q) q.lost_pto m
unfolding queued_again store_handles
stays m n probes q some = rw (ne_eqb q.lost_pto 0 some) (record { count = omega arith; memory = refl })

-- one that holds none is filled
pub filled : (m : List ℕ) (n probes : ℕ) (q : SpaceState) {r : ℕ} {m' : List ℕ} → q.lost_pto ≡ 0 →
    StoredFrom m n 2 0 (probes_of probes (records_of m n (q.head % capacity) (min q.len capacity))) r m' → StoredFrom m n 2 q.lost_pto (queued_again m n probes q) r m'
unfolding queued_again
filled m n probes q none st = rw (eq-eqb q.lost_pto 0 none, none) st

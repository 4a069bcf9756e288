-- A timeout without a loss time: what it decides over the state alone, and what it then stores. Definitions that serve the proofs: proofs/Probing.antt shows
-- that together they are model's `timeout_probe` on what the words and the state stand for.
use Rattle.std.specs.Prelude.{ℕ, ◌+◌, ◌%◌, min, ◌≡◌, cond, List, [], eqb, leb, length, Result, Ok, Err}
use Rattle.arith.specs.declared.time.Moment.{Moment}
use Rattle.arith.specs.Refusals.{then}
use Rattle.model.specs.Numbers.{capacity}
use Rattle.model.specs.Timer.{timer_of, probe_space}
use Rattle.model.specs.Connection.{with_timer}
use Rattle.model.specs.Events.{shared_timeout}
use Rattle.model.specs.declared.HandshakeStatus.{HandshakeStatus}
use Rattle.arith.specs.declared.refusal.Refusal.TheVariants.{TooLarge}
use Rattle.model.specs.declared.Shared.{Shared}
use Rattle.records.specs.View.{records_of}
use Rattle.records.specs.Probes.{probes_of}
use Rattle.records.specs.View.{store_handles}
use Rattle.connection.specs.View.{count, normal_of, space_state_at, with_space_state}
use Rattle.connection.specs.Steps.{facts_state, probed_space}
use Rattle.connection.specs.declared.SpaceState.{SpaceState}
use Rattle.connection.specs.declared.State.{State}
use Rattle.timeout.specs.declared.probe.Probes.{Probes}
use Rattle.arith.specs.declared.refusal.Refusal.{Refusal}

-- ---- what is decided

-- the PTO count has risen
abbrev pub raised : Moment → ℕ → Shared → Shared
raised now pto s = shared_timeout now pto s.bytes_in_flight s.congestion s

-- the space's probes are granted; what its queues hold is still as it was
unfoldable pub granted_state : Moment → ℕ → ℕ → State → State
granted_state now n pto s =
    let q = normal_of (space_state_at n s) in
    with_space_state n (probed_space (min pto 2) q.lost_pto q) (raised now pto s.shared) s

unfoldable pub plan_granted : Moment → HandshakeStatus → ℕ → ℕ → State → Result Probes Refusal
plan_granted now status n pto s =
    then (timer_of (facts_state now status (granted_state now n pto s))) λ t.
    Ok (record { space = n; probes = min pto 2; shared = with_timer t (raised now pto s.shared) })

-- refusal 7: the PTO count passes 2^32-1
unfoldable pub plan_probe : Moment → HandshakeStatus → State → Result Probes Refusal
plan_probe now status s =
    then (probe_space (facts_state now status s)) λ n.
    cond (leb (s.shared.pto_count + 1) 4294967295) (plan_granted now status n (s.shared.pto_count + 1) s) (Err TooLarge)

-- ---- what is stored

-- the handles that join the PTO queue of space n, whose state is q: none if it holds any
unfoldable pub queued_again : List ℕ → ℕ → ℕ → SpaceState → List ℕ
queued_again m n probes q = cond (eqb q.lost_pto 0) (probes_of probes (records_of m n (q.head % capacity) (count q.len))) []

abbrev pub joining : List ℕ → State → Probes → List ℕ
joining m s p = queued_again m p.space p.probes (normal_of (space_state_at p.space s))

unfoldable pub probed_words : List ℕ → State → Probes → List ℕ
probed_words m s p = store_handles m p.space 2 (normal_of (space_state_at p.space s)).lost_pto (joining m s p)

unfoldable pub probed_state : List ℕ → State → Probes → State
probed_state m s p =
    let q = normal_of (space_state_at p.space s) in
    with_space_state p.space (probed_space p.probes (q.lost_pto + length (joining m s p)) q) p.shared s

pub record Probing (m : List ℕ) (s : State) (p : Probes) (m' : List ℕ) (s' : State) : Type 0 where
  pub state : s' ≡ probed_state m s p
  pub memory : m' ≡ probed_words m s p

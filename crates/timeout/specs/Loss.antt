-- A timeout with a loss time: what it decides, told from the words as they are. Definitions that serve the proofs: proofs/Losing.antt shows that carrying such a
-- decision out is model's `timeout_loss` on what the words and the state stand for.
use Rattle.std.specs.Prelude.{ℕ, ◌-◌, Bool, List, [], ◌∷◌, ◌++◌, Result, Ok}
use Rattle.arith.specs.declared.time.Moment.{Moment}
use Rattle.arith.specs.Refusals.{then}
use Rattle.model.specs.Control.{Move, control, lose_by, count}
use Rattle.model.specs.Events.{epoch_detected, shared_timeout}
use Rattle.model.specs.declared.Congestion.{Congestion}
use Rattle.model.specs.declared.HandshakeStatus.{HandshakeStatus}
use Rattle.model.specs.declared.Shared.{Shared}
use Rattle.connection.specs.View.{normal_of, space_state_at, with_space_state}
use Rattle.connection.specs.Steps.{timed_state}
use Rattle.connection.specs.declared.SpaceState.{SpaceState}
use Rattle.connection.specs.declared.State.{State}
use Rattle.tracker.specs.Plan.{kept_space, plan_losses}
use Rattle.tracker.specs.declared.Losses.{Losses}
use Rattle.timeout.specs.declared.loss.LossStep.{LossStep}
use Rattle.arith.specs.declared.refusal.Refusal.{Refusal}

abbrev pub lost_space : SpaceState → Losses → SpaceState
lost_space q l = kept_space q l.keep q.acked l.tally.queued (epoch_detected l.tally.in_flight l.loss_time q.epoch)

abbrev pub lost_shared : Moment → Losses → Congestion → Shared → Shared
lost_shared now l g s = shared_timeout now s.pto_count (s.bytes_in_flight - l.tally.bytes - l.tally.probe_bytes) g s

-- what the controller is told
abbrev pub lost_moves : Moment → Losses → List Move
lost_moves now l = lose_by now l.tally.last ++ (count l.tally.packets ∷ [])

unfoldable pub plan_lost : Moment → ℕ → HandshakeStatus → Losses → State → Result LossStep Refusal
plan_lost now n status l s =
    then (control (lost_moves now l) s.shared.congestion) λ g.
    then (timed_state now status (with_space_state n (lost_space (normal_of (space_state_at n s)) l) (lost_shared now l g s.shared) s)) λ t.
    Ok (record { losses = l; state = t })

-- fs flags no record as acked
unfoldable pub plan_loss : List ℕ → ℕ → List Bool → Moment → HandshakeStatus → State → Result LossStep Refusal
plan_loss m n fs now status s =
    let q = normal_of (space_state_at n s) in
    then (plan_losses m n q fs now s.shared.rtt s.shared.reordering q.epoch.largest_acked_packet q.epoch.in_flight_count 0) λ l.
    plan_lost now n status l s

-- A step of growth that the code takes by itself, in the model's words. Definitions only.
use Rattle.std.specs.Prelude.{ℕ, ◌-◌, Result, Ok, Some}
use Rattle.arith.specs.Whole.{sum_of}
use Rattle.arith.specs.declared.time.Moment.{Moment}
use Rattle.arith.specs.declared.time.Span.{Span}
use Rattle.model.specs.Cubic.{aimed_at, by_datagram, grown}
use Rattle.arith.specs.Refusals.{then}
use Rattle.model.specs.declared.Congestion.{Congestion}
use Rattle.model.specs.declared.Cubic.{Cubic}
use Rattle.arith.specs.declared.refusal.Refusal.{Refusal}

-- what is left of `avoidance` once CUBIC's values and the target are known
abbrev pub towards : Congestion → Moment → Cubic → Span → ℕ → Result Congestion Refusal
towards g start e t target =
    let window = g.congestion_window in
    let size = g.max_datagram_size in
    aimed_at e window size t target λ aim.
    then (sum_of e.cwnd_inc (aim - window)) λ waiting.
    by_datagram size window waiting λ next left.
    Ok
    (grown g next g.bytes_acked_sl (Some start)
    (record { k = e.k; w_max = e.w_max; w_est = e.w_est; alpha_aimd = e.alpha_aimd; cwnd_inc = left }))

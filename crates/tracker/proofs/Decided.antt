-- What the lower crates' functions answer, in the words of a plan. Assumes nothing.
use mathlib.Core.Path.{◌≡◌, refl, ap, sym, ◌∙◌}
use mathlib.Core.Bool.{Bool, false}
use mathlib.Core.List.{List}
use Prim.Native.Nat.{ℕ, ◌+◌, ◌-◌, ◌%◌, ◌≤◌, min}
use native.Mathlib.Omega.{arith}
use Rattle.arith.specs.declared.time.Moment.{Moment}
use Rattle.arith.specs.declared.time.Span.{Span}
use Rattle.model.specs.Numbers.{capacity}
use Rattle.records.specs.View.{record_at}
use Rattle.records.proofs.Laws.{record-mod}
use Rattle.marks.specs.Marks.{flagged, held_at, settled_at}
use Rattle.marks.specs.Survey.{survey}
use Rattle.marks.proofs.Lost.{settled-none}
use Rattle.acks.specs.Fitted.{fitted, fresh}
use Rattle.acks.specs.Places.{places_of, flags_to, held_to}
use Rattle.acks.proofs.Laws.{survey-past}
use Rattle.losses.specs.Drain.{drained_to}
use Rattle.losses.proofs.Laws.{drained-to}
use Rattle.connection.specs.declared.SpaceState.{SpaceState}
use Rattle.tracker.specs.Plan.{start_tally, flags, held, acked_place, first_left}

-- a place counts round the ring
pub record-place : (m : List ℕ) (n h i : ℕ) → record_at m n (h + i % capacity) ≡ record_at m n (h + i)
record-place m n h i =
    let e : (h + i % capacity) % capacity ≡ (h + i) % capacity = omega arith in
    sym (record-mod m n (h + i % capacity)) ∙ ap (λ (k : ℕ). record_at m n k) e ∙ record-mod m n (h + i)

module _ (m : List ℕ) (n : ℕ) (q : SpaceState) (fs : List Bool) (len : q.len ≤ capacity) where
  -- step 2's drain
  pub first-left : (now : Moment) (smoothed : Span) →
      drained_to now smoothed (settled_at m n q.head fs 0 now) (min 0 (min q.len capacity)) (min q.len capacity) ≡ first_left m n q fs now smoothed
  unfolding drained_to
  first-left now smoothed =
      let x : min q.len capacity ≡ q.len = omega arith in
      let y : min 0 q.len ≡ 0 = omega arith in
      rw (x, y, settled-none m n q.head fs now 0 (q.len - 0)) refl

  pub first-drain : (now : Moment) (smoothed : Span) (d : ℕ) →
      d ≡ drained_to now smoothed (settled_at m n q.head fs 0 now) (min 0 (min q.len capacity)) (min q.len capacity) → d ≡ first_left m n q fs now smoothed
  first-drain now smoothed d e = e ∙ first-left now smoothed

  pub first_fits : (now : Moment) (smoothed : Span) (d : ℕ) →
      d ≡ drained_to now smoothed (settled_at m n q.head fs 0 now) (min 0 (min q.len capacity)) (min q.len capacity) → d ≤ q.len
  first_fits now smoothed d e =
      rw (first-drain now smoothed d e) (drained-to now smoothed (acked_place m n q fs) q.len 0 (omega arith)).to

  -- step 1's sums
  pub met_all : (largest last : ℕ) → ((i : ℕ) → last ≤ i → flagged fs i ≡ false) →
      fitted (survey largest 0 (flags_to fs (places_of q.len last)) (held_to m n q.head (places_of q.len last)) (fresh q.acked q.epoch.in_flight_count))
      ≡ fitted (survey largest 0 (flags m n q fs) (held m n q fs) (start_tally q))
  met_all largest last off =
      ap fitted
      (sym (survey-past (flagged fs) (held_at m n q.head) largest (places_of q.len last) q.len (start_tally q) (omega arith) (λ i a b. off i (omega arith))))

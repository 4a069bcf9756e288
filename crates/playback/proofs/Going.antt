-- A turn's line, and what comes after it, are what was to come. Assumes nothing.
use mathlib.Core.Logic.{⊎_elim}
use mathlib.Core.Path.{◌≡◌, refl, sym, ◌∙◌}
use mathlib.Core.Bool.{Bool, true, false, cond}
use mathlib.Core.List.{List, ◌++◌}
use Prim.Native.Nat.{ℕ, ◌+◌, ◌-◌, ◌≤◌, ◌<◌, min}
use native.Mathlib.Nat.{eq-zero-or-pos}
use native.Mathlib.Omega.{arith}
use lib.ListN.{length}
use Rattle.model.specs.Connection.{Connection}
use Rattle.model.specs.Run.{step, state_by, refusal_of}
use Rattle.model.specs.Trace.{Line, line_of, count_by, replayed}
use Rattle.connection.specs.View.{connection_of}
use Rattle.trace.specs.Reading.{found_at, kind_at, next_at, goes_on, replay_at}
use Rattle.trace.specs.Says.{event_says}
use Rattle.trace.specs.declared.Event.{Event}
use Rattle.trace.specs.declared.Found.{Found}
use Rattle.trace.specs.declared.Found.TheVariants as found
use Rattle.trace.proofs.Replay.{replay-on}
use Rattle.trace.proofs.Standing.{found-end, next-further, next-in}
use Rattle.play.specs.Answers.{answered_says, is_accepted}
use Rattle.play.proofs.Read.{state-after, refusal-after, count-after}
use Rattle.playback.specs.Turns.{count_with, answer_in, Answers, Turns}
use Rattle.playback.specs.Printed.{lines_of, is_last, lines_from, unless_ended, Sound, GoesOn}
use Rattle.playback.specs.declared.Met.{Met}
use Rattle.playback.specs.declared.Replay.{Replay}

-- what stands somewhere lies within the trace
pub stands-inside : (bytes : List ℕ) (at : ℕ) (f : Found) → found_at bytes at ≡ f → (f ≡ found.End → ⊥) → at < length bytes
stands-inside bytes at f e no_end = ⊎_elim
    (λ z. absurd (no_end (sym e ∙ sym (found-end bytes at (omega arith)))))
    (λ pos. omega arith)
    (eq-zero-or-pos (length bytes - at))

true-false : true ≡ false → ⊥
true-false e = let w : ◌≡◌ {A = ℕ} 0 1 = cc in omega arith

-- the bound of the count is far
pub count_small : (b : Bool) (n : ℕ) → n < 18446744073709551615 → cond b (min (n + 1) 18446744073709551615) n ≡ cond b (n + 1) n
count_small true n h = omega arith
count_small false n h = refl

count-more : (b : Bool) (n : ℕ) → cond b (min (n + 1) 18446744073709551615) n ≤ n + 1
count-more true n = omega arith
count-more false n = omega arith

module _ (bytes : List ℕ) (r r' : Replay) (x : Met) (fits : length bytes ≤ 18446744073709551615) (sound : Sound r) where
  abbrev before : Connection
  before = connection_of r.words r.state

  abbrev after : Connection
  after = connection_of r'.words r'.state

  -- from the next offset on
  abbrev next : ℕ
  next = next_at bytes r.at

  abbrev on_from : Connection → List ℕ → ℕ → List Line
  on_from c h n = replay_at bytes next c h n

  abbrev told : List Line
  told = lines_of x r.at r' ++ unless_ended (is_last x) (lines_from bytes r')

  answers-event : (e : Event) → r.at < length bytes → Answers e (kind_at bytes r.at) next x r r' →
      goes_on (found.Event e) r.at (kind_at bytes r.at) before r.held r.accepted on_from ≡ told
  unfolding goes_on replayed line_of lines_from
  answers-event e lt h =
      let p = h.plays in
      let d = step (event_says e r.held) before in
      let a = answered_says (answer_in x) in
      let s : after ≡ state_by before d = state-after d p.did in
      let k : refusal_of a ≡ refusal_of d = refusal-after d p.did in
      let n : count_with a r.accepted ≡ count_by d r.accepted =
      count_small (is_accepted a) r.accepted (let f = sound.few in let g = next-further bytes r.at lt in let w = next-in bytes r.at in omega arith)
      ∙ count-after d p.did r.accepted in
      rw (h.met, p.at, p.held, p.accepted, s, k, n)

  -- by what is found
  goes_by : (f : Found) → found_at bytes r.at ≡ f → Turns f (kind_at bytes r.at) next x r r' →
      goes_on f r.at (kind_at bytes r.at) before r.held r.accepted on_from ≡ told
  unfolding goes_on lines_from
  goes_by found.End e h = rw (h.met, h.replay)
  goes_by found.Bad e h = rw h.met
  goes_by (found.Range g) e h = rw (h.met, h.replay)
  goes_by (found.Event v) e h = answers-event v (stands-inside bytes r.at (found.Event v) e (λ z. let w : ◌≡◌ {A = ℕ} 0 1 = cc in omega arith)) h

  -- the offset of the next kind byte is further on, within the trace
  passed : (f : Found) → found_at bytes r.at ≡ f → (f ≡ found.End → ⊥) → r.at < next
  passed f e no_end = next-further bytes r.at (stands-inside bytes r.at f e no_end)

  sound-by : (f : Found) → found_at bytes r.at ≡ f → Turns f (kind_at bytes r.at) next x r r' → Sound r'
  sound-by found.End e h = rw h.replay sound
  sound-by found.Bad e h = rw h.replay sound
  sound-by (found.Range g) e h =
      let few = sound.few in
      let lt = passed (found.Range g) e (λ z. let w : ◌≡◌ {A = ℕ} 0 1 = cc in omega arith) in
      rw h.replay (record { few = omega arith })
  sound-by (found.Event v) e h =
      let few = sound.few in
      let lt = passed (found.Event v) e (λ z. let w : ◌≡◌ {A = ℕ} 0 1 = cc in omega arith) in
      let more = count-more (is_accepted (answered_says (answer_in x))) r.accepted in
      record { few = rw (h.plays.at, h.plays.accepted) (omega arith) }

  further-by : (f : Found) → found_at bytes r.at ≡ f → Turns f (kind_at bytes r.at) next x r r' → is_last x ≡ false → (r.at < r'.at) × (r'.at ≤ length bytes)
  further-by found.End e h no_last = absurd (true-false (rw h.met at no_last))
  further-by found.Bad e h no_last = absurd (true-false (rw h.met at no_last))
  further-by (found.Range g) e h no_last =
      rw h.replay (passed (found.Range g) e (λ z. let w : ◌≡◌ {A = ℕ} 0 1 = cc in omega arith), next-in bytes r.at)
  further-by (found.Event v) e h no_last =
      rw h.plays.at (passed (found.Event v) e (λ z. let w : ◌≡◌ {A = ℕ} 0 1 = cc in omega arith), next-in bytes r.at)

  module _ (turns : Turns (found_at bytes r.at) (kind_at bytes r.at) next x r r') where
    pub turn-goes : lines_from bytes r ≡ told
    unfolding lines_from
    turn-goes = replay-on bytes r.at before r.held r.accepted ∙ goes_by (found_at bytes r.at) refl turns

    pub turn-on : (ended : Bool) → ended ≡ is_last x → GoesOn bytes r r' ended
    turn-on ended e =
        let on = further-by (found_at bytes r.at) refl turns in
        record { sound = sound-by (found_at bytes r.at) refl turns; further = λ z. (on (sym e ∙ z)).0; within = λ z. (on (sym e ∙ z)).1 }

-- What is printed from an offset on is a turn's line and what is printed after it. Assumes nothing.
use mathlib.Core.Path.{◌≡◌, refl, ap, ◌∙◌}
use mathlib.Core.List.{List, [], ◌∷◌, ◌++◌}
use Prim.Native.Nat.{ℕ, zero, suc, ◌+◌, ◌≤◌, ◌<◌}
use native.Mathlib.Omega.{arith}
use lib.ListN.{length}
use Rattle.model.specs.Connection.{Connection}
use Rattle.model.specs.Run.{step, state_by}
use Rattle.model.specs.Trace.{bad_at, end, printed, count_by}
use Rattle.connection.specs.View.{connection_of, answer_of}
use Rattle.trace.specs.Reading.{found_at, kind_at, next_at, held_with, kept_by}
use Rattle.trace.specs.Says.{event_says}
use Rattle.trace.specs.declared.Event.{Event}
use Rattle.trace.specs.declared.Found.{Found}
use Rattle.trace.specs.declared.Found.TheVariants as found
use Rattle.trace.proofs.Standing.{next-further, next-in}
use Rattle.play.specs.Answers.{answered_says, is_accepted}
use Rattle.play.proofs.Read.{state-after, count-after}
use Rattle.field.specs.Inspect.{inspected}
use Rattle.playback.specs.Printed.{is_last, unless_ended, Sound}
use Rattle.playback.specs.Turns.{count_with, answer_in, Answers, Turns}
use Rattle.playback.specs.declared.Met.{Met}
use Rattle.playback.specs.declared.Met.TheVariants as met
use Rattle.playback.specs.declared.Replay.{Replay}
use Rattle.playback.proofs.Going.{stands-inside, count_small}
use Rattle.inspect.specs.Inspected.{goes_on, inspect_from, inspect_at, to_come}

nothing-after : (l : List ℕ) → l ≡ l ++ []
nothing-after [] = refl
nothing-after (x ∷ l) = ap (λ (k : List ℕ). x ∷ k) (nothing-after l)

-- ---- the number of turns

module _ (bytes : List ℕ) where
  go_same : (at kind : ℕ) (c : Connection) (held : List ℕ) (n : ℕ) (go go' : Connection → List ℕ → ℕ → List ℕ) (f : Found) → found_at bytes at ≡ f →
      (at < length bytes → (d : Connection) (h : List ℕ) (a : ℕ) → go d h a ≡ go' d h a) → goes_on f at kind c held n go ≡ goes_on f at kind c held n go'
  unfolding goes_on
  go_same at kind c held n go go' found.End e same = refl
  go_same at kind c held n go go' found.Bad e same = refl
  go_same at kind c held n go go' (found.Range x) e same = same (stands-inside bytes at (found.Range x) e (λ z. let w : ◌≡◌ {A = ℕ} 0 1 = cc in omega arith)) c (held_with held x) n
  go_same at kind c held n go go' (found.Event x) e same =
      let d = step (event_says x held) c in
      ap (λ (l : List ℕ). inspected kind (answer_of d) (state_by c d) ++ l)
      (same (stands-inside bytes at (found.Event x) e (λ z. let w : ◌≡◌ {A = ℕ} 0 1 = cc in omega arith)) (state_by c d) (kept_by x held) (count_by d n))

  -- more turns than there are change nothing
  turns_same : (k k' at : ℕ) → length bytes ≤ k + at → length bytes ≤ k' + at → (c : Connection) (held : List ℕ) (n : ℕ) →
      inspect_from (suc k) bytes at c held n ≡ inspect_from (suc k') bytes at c held n
  unfolding inspect_from
  turns_same zero zero at le le' c held n = refl
  turns_same zero (suc j') at le le' c held n = go_same at _ c held n _ _ (found_at bytes at) refl (λ lt. absurd (omega arith))
  turns_same (suc j) zero at le le' c held n = go_same at _ c held n _ _ (found_at bytes at) refl (λ lt. absurd (omega arith))
  turns_same (suc j) (suc j') at le le' c held n =
      go_same at _ c held n _ _ (found_at bytes at) refl (λ lt d h a. let f = next-further bytes at lt in turns_same j j' (next_at bytes at) (omega arith) (omega arith) d h a)

  one_more : (size next : ℕ) → length bytes ≡ size → 0 < size → 0 < next → (c : Connection) (held : List ℕ) (n : ℕ) →
      inspect_from size bytes next c held n ≡ inspect_from (suc size) bytes next c held n
  one_more zero next e pos lt c held n = absurd (omega arith)
  one_more (suc j) next e pos lt c held n = turns_same j (suc j) next (omega arith) (omega arith) c held n

  inspect-on : (at : ℕ) (c : Connection) (held : List ℕ) (n : ℕ) →
      inspect_at bytes at c held n ≡ goes_on (found_at bytes at) at (kind_at bytes at) c held n (λ d h a. inspect_at bytes (next_at bytes at) d h a)
  unfolding inspect_at inspect_from
  inspect-on at c held n =
      go_same at _ c held n _ _ (found_at bytes at) refl (λ lt d h a. let f = next-further bytes at lt in one_more (length bytes) (next_at bytes at) refl (omega arith) (omega arith) d h a)

-- ---- a turn

-- the line of what was met at an offset, told from the replay after it; a range has none
abbrev pub line_of : Met → ℕ → Replay → List ℕ
line_of met.End at r = printed (end r.accepted ∷ [])
line_of met.Bad at r = printed (bad_at at ∷ [])
line_of met.Held at r = []
line_of (met.Event kind a) at r = inspected kind (answered_says a) (connection_of r.words r.state)

module _ (bytes : List ℕ) (r r' : Replay) (x : Met) (fits : length bytes ≤ 18446744073709551615) (sound : Sound r) where
  abbrev before : Connection
  before = connection_of r.words r.state

  abbrev on_from : Connection → List ℕ → ℕ → List ℕ
  on_from c h n = inspect_at bytes (next_at bytes r.at) c h n

  abbrev told : List ℕ
  told = line_of x r.at r' ++ unless_ended (is_last x) (to_come bytes r')

  answers-event : (e : Event) → r.at < length bytes → Answers e (kind_at bytes r.at) (next_at bytes r.at) x r r' →
      goes_on (found.Event e) r.at (kind_at bytes r.at) before r.held r.accepted on_from ≡ told
  unfolding goes_on to_come
  answers-event e lt h =
      let p = h.plays in
      let d = step (event_says e r.held) before in
      let a = answered_says (answer_in x) in
      let s : connection_of r'.words r'.state ≡ state_by before d = state-after d p.did in
      let k : a ≡ answer_of d = p.did.answer in
      let n : count_with a r.accepted ≡ count_by d r.accepted =
      count_small (is_accepted a) r.accepted (let f = sound.few in let g = next-further bytes r.at lt in let w = next-in bytes r.at in omega arith)
      ∙ count-after d p.did r.accepted in
      rw (h.met, p.at, p.held, p.accepted, s, n, k)

  -- by what is found
  goes_by : (f : Found) → found_at bytes r.at ≡ f → Turns f (kind_at bytes r.at) (next_at bytes r.at) x r r' →
      goes_on f r.at (kind_at bytes r.at) before r.held r.accepted on_from ≡ told
  unfolding goes_on to_come
  goes_by found.End e h = rw (h.met, h.replay) (nothing-after _)
  goes_by found.Bad e h = rw h.met (nothing-after _)
  goes_by (found.Range g) e h = rw (h.met, h.replay)
  goes_by (found.Event v) e h = answers-event v (stands-inside bytes r.at (found.Event v) e (λ z. let w : ◌≡◌ {A = ℕ} 0 1 = cc in omega arith)) h

  pub turn-goes : Turns (found_at bytes r.at) (kind_at bytes r.at) (next_at bytes r.at) x r r' → to_come bytes r ≡ told
  unfolding to_come
  turn-goes turns = inspect-on bytes r.at before r.held r.accepted ∙ goes_by (found_at bytes r.at) refl turns

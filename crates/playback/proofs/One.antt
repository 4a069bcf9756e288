-- Any two results that a turn allows are equal. Assumes nothing.
use mathlib.Core.Path.{◌≡◌, sym, ap, ◌∙◌}
use mathlib.Core.List.{List}
use Prim.Native.Nat.{ℕ}
use Rattle.model.specs.Run.{step}
use Rattle.connection.proofs.One.{one-result}
use Rattle.connection.specs.View.{connection_of}
use Rattle.connection.specs.declared.State.{State}
use Rattle.trace.specs.Held.{firsts}
use Rattle.trace.specs.Says.{event_says}
use Rattle.trace.specs.declared.Event.{Event}
use Rattle.trace.specs.declared.Found.{Found}
use Rattle.trace.specs.declared.Found.TheVariants as found
use Rattle.play.specs.Answers.{answered_says}
use Rattle.play.specs.declared.Told.{Told}
use Rattle.play.proofs.One.{one-answered}
use Rattle.playback.specs.Turns.{count_with, answer_in, Answers, Turns}
use Rattle.playback.specs.declared.Met.{Met}
use Rattle.playback.specs.declared.Met.TheVariants as met
use Rattle.playback.specs.Lent.{AnswersLent, TurnsLent}
use Rattle.playback.specs.declared.Replay.{Replay}
use Rattle.playback.specs.declared.lent.Standing.{Standing}
use Rattle.playback.specs.declared.lent.Turned.{Turned}
use Rattle.std.specs.Prelude.{Result}
use Rattle.arith.specs.declared.refusal.Refusal.{Refusal}

-- what was met and where the replay stands
pub record SameTurned (x x' : Met) (r r' : Replay) : Type 0 where
  pub met : x ≡ x'
  pub replay : r ≡ r'

same_parts : (a b : ℕ) (h k : List ℕ) (c d : ℕ) (s t : State) (m n : List ℕ) → a ≡ b → h ≡ k → c ≡ d → s ≡ t → m ≡ n →
    ◌≡◌ {A = Replay} (record { at = a; held = h; accepted = c; state = s; words = m }) (record { at = b; held = k; accepted = d; state = t; words = n })
same_parts a b h k c d s t m n e f g i j = cc

module _ (kind next : ℕ) (r : Replay) (x₁ x₂ : Met) (r₁ r₂ : Replay) where
  answers-turned : (e : Event) → Answers e kind next x₁ r r₁ → Answers e kind next x₂ r r₂ → SameTurned x₁ x₂ r₁ r₂
  answers-turned e a b =
      let p = a.plays in
      let q = b.plays in
      let same = one-result (step (event_says e r.held) (connection_of r.words r.state)) p.did q.did in
      let answers : answer_in x₁ ≡ answer_in x₂ = one-answered (answer_in x₁) (answer_in x₂) same.answer in
      let counts = ap (λ (o : Result Told Refusal). count_with (answered_says o) r.accepted) answers in
      record {
        met = a.met ∙ (ap (λ (o : Result Told Refusal). met.Event kind o) answers ∙ sym b.met);
        replay = same_parts r₁.at r₂.at r₁.held r₂.held r₁.accepted r₂.accepted r₁.state r₂.state r₁.words r₂.words
            (p.at ∙ sym q.at) (p.held ∙ sym q.held) (p.accepted ∙ (counts ∙ sym q.accepted)) same.state same.memory;
      }

  pub one-turn : (f : Found) → Turns f kind next x₁ r r₁ → Turns f kind next x₂ r r₂ → SameTurned x₁ x₂ r₁ r₂
  one-turn found.End p q = record { met = p.met ∙ sym q.met; replay = p.replay ∙ sym q.replay }
  one-turn found.Bad p q = record { met = p.met ∙ sym q.met; replay = p.replay ∙ sym q.replay }
  one-turn (found.Range g) p q = record { met = p.met ∙ sym q.met; replay = p.replay ∙ sym q.replay }
  one-turn (found.Event e) p q = answers-turned e p q

-- ---- on lent words

-- what was met and where the replay stands, the ranges and the words
pub record SameTurnedLent (t t' : Turned) (ranges ranges' m m' : List ℕ) : Type 0 where
  pub turned : t ≡ t'
  pub held : ranges ≡ ranges'
  pub memory : m ≡ m'

same_turned : (x y : Met) (a b h k c d : ℕ) (s t : State) → x ≡ y → a ≡ b → h ≡ k → c ≡ d → s ≡ t →
    ◌≡◌ {A = Turned} (record { met = x; replay = record { at = a; held = h; accepted = c; state = s } }) (record { met = y; replay = record { at = b; held = k; accepted = d; state = t } })
same_turned x y a b h k c d s t e f g i j = cc

module _ (kind next : ℕ) (r : Standing) (ranges m : List ℕ) (t t' : Turned) (m₁ m₂ : List ℕ) where
  answers-lent : (e : Event) → AnswersLent e kind next r t ranges m m₁ → AnswersLent e kind next r t' ranges m m₂ → (t ≡ t') × (m₁ ≡ m₂)
  answers-lent e p q =
      let same = one-result (step (event_says e (firsts r.held ranges)) (connection_of m r.state)) p.did q.did in
      let answers : answer_in t.met ≡ answer_in t'.met = one-answered (answer_in t.met) (answer_in t'.met) same.answer in
      let counts = ap (λ (o : Result Told Refusal). count_with (answered_says o) r.accepted) answers in (
        same_turned t.met t'.met t.replay.at t'.replay.at t.replay.held t'.replay.held t.replay.accepted t'.replay.accepted t.replay.state t'.replay.state
            (p.met ∙ (ap (λ (o : Result Told Refusal). met.Event kind o) answers ∙ sym q.met)) (p.at ∙ sym q.at) (p.held ∙ sym q.held)
            (p.accepted ∙ (counts ∙ sym q.accepted)) same.state,
        same.memory,
      )

  pub one-turn-lent : (f : Found) (ranges₁ ranges₂ : List ℕ) → TurnsLent f kind next r t ranges ranges₁ m m₁ → TurnsLent f kind next r t' ranges ranges₂ m m₂ →
      SameTurnedLent t t' ranges₁ ranges₂ m₁ m₂
  one-turn-lent found.End ranges₁ ranges₂ p q =
      record { turned = p.turned ∙ sym q.turned; held = p.held ∙ sym q.held; memory = p.memory ∙ sym q.memory }
  one-turn-lent found.Bad ranges₁ ranges₂ p q =
      record { turned = p.turned ∙ sym q.turned; held = p.held ∙ sym q.held; memory = p.memory ∙ sym q.memory }
  one-turn-lent (found.Range x) ranges₁ ranges₂ p q =
      record { turned = p.0.turned ∙ sym q.0.turned; held = p.0.held ∙ sym q.0.held; memory = p.1 ∙ sym q.1 }
  one-turn-lent (found.Event e) ranges₁ ranges₂ p q =
      let same = answers-lent e p.0 q.0 in
      record { turned = same.0; held = p.1 ∙ sym q.1; memory = same.1 }

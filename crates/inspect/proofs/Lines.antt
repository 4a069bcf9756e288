-- A turn whose line is put into a buffer that holds any. Assumes nothing.
use mathlib.Core.Path.{◌≡◌, refl, sym, ◌∙◌}
use mathlib.Core.Bool.{Bool}
use mathlib.Core.List.{List, []}
use Prim.Native.Nat.{ℕ, ◌≤◌, ◌<◌}
use native.Mathlib.Omega.{arith}
use lib.ListN.{length, take}
use Rattle.model.specs.Trace.{printed}
use Rattle.connection.specs.View.{connection_of}
use Rattle.trace.specs.Behind.{Behind}
use Rattle.trace.specs.Put.{Put}
use Rattle.trace.specs.Reading.{found_at, kind_at, next_at}
use Rattle.trace.specs.declared.Found.{Found}
use Rattle.trace.specs.declared.Found.TheVariants as found
use Rattle.trace.proofs.Lines.{bad-length, end-length}
use Rattle.trace.proofs.Behinds.{behind_put, behind_all}
use Rattle.play.specs.Answers.{answered_says}
use Rattle.play.specs.declared.Told.{Told}
use Rattle.field.proofs.Lengths.{inspected-length}
use Rattle.playback.specs.Printed.{lines_of, is_last, Sound}
use Rattle.playback.specs.Turns.{answer_in, Turns}
use Rattle.playback.specs.declared.Met.{Met}
use Rattle.playback.specs.declared.Met.TheVariants as met
use Rattle.playback.specs.declared.Replay.{Replay}
use Rattle.playback.proofs.Going.{turn-on}
use Rattle.playback.proofs.Shown.{small_by as line_fits}
use Rattle.inspect.specs.Inspected.{Inspects}
use Rattle.inspect.proofs.Going.{line_of, turn-goes}
use Rattle.std.specs.Prelude.{Result}
use Rattle.arith.specs.declared.refusal.Refusal.{Refusal}

-- but for events, the line is replay's
pub replay-line : (x : Met) (at : ℕ) (r : Replay) → ((kind : ℕ) (a : Result Told Refusal) → x ≡ met.Event kind a → ⊥) → printed (lines_of x at r) ≡ line_of x at r
unfolding printed
replay-line met.End at r no-event = refl
replay-line met.Bad at r no-event = refl
replay-line met.Held at r no-event = refl
replay-line (met.Event kind a) at r no-event = absurd (no-event kind a refl)

module _ (bytes : List ℕ) (r r' : Replay) (x : Met) (byte : kind_at bytes r.at < 256) where
  -- every line fits 2,048 bytes
  small_by : (f : Found) → Turns f (kind_at bytes r.at) (next_at bytes r.at) x r r' → length (line_of x r.at r') ≤ 2048
  small_by found.End h = let e = end-length r.accepted in rw (h.met, h.replay) (omega arith)
  small_by found.Bad h = let e = bad-length r.at in rw h.met (omega arith)
  small_by (found.Range g) h = rw h.met (omega arith)
  small_by (found.Event v) h = rw h.met (inspected-length (kind_at bytes r.at) (answered_says (answer_in x)) (connection_of r'.words r'.state) byte)

  module _ (fits : length bytes ≤ 18446744073709551615) (sound : Sound r) (turns : Turns (found_at bytes r.at) (kind_at bytes r.at) (next_at bytes r.at) x r r') where
    -- but for events, the line is a text that was told
    pub told-line : {text : List ℕ} → ((kind : ℕ) (a : Result Told Refusal) → x ≡ met.Event kind a → ⊥) → Behind 96 [] (printed (lines_of x r.at r')) text → text ≡ line_of x r.at r'
    told-line no-event put =
        let small = line_fits bytes r r' x byte (found_at bytes r.at) turns in
        behind_all put (omega arith) ∙ replay-line x r.at r' no-event

    pub step-inspects : (line line' : List ℕ) (n : ℕ) (ended : Bool) → Put line 0 (line_of x r.at r') line' n → length line ≡ 2048 → ended ≡ is_last x → Inspects bytes (take n line') r r' ended
    step-inspects line line' n ended put size last =
        let small = small_by (found_at bytes r.at) turns in
        let told = behind_put (omega arith) put size refl in
        record {
          shown = rw (behind_all told (omega arith), last) (sym (turn-goes bytes r r' x fits sound turns));
          goes_on = turn-on bytes r r' x fits sound turns ended last;
        }

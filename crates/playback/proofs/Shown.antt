-- A turn that is told: the bytes put out and those still to come are what was put out and what was to come. Assumes nothing.
use mathlib.Core.Path.{◌≡◌, refl, ap, ◌∙◌}
use mathlib.Core.Bool.{Bool, true, false}
use mathlib.Core.List.{List, ◌++◌, append_assoc}
use Prim.Native.Nat.{ℕ, ◌+◌, ◌≤◌, ◌<◌}
use native.Mathlib.Omega.{arith}
use lib.ListN.{length}
use Rattle.model.specs.Run.{refusal_of}
use Rattle.model.specs.Trace.{Line, printed}
use Rattle.connection.specs.View.{connection_of}
use Rattle.trace.specs.Reading.{found_at, kind_at, next_at}
use Rattle.trace.specs.declared.Found.{Found}
use Rattle.trace.specs.declared.Found.TheVariants as found
use Rattle.trace.proofs.Lines.{shown-length, bad-length, end-length}
use Rattle.trace.proofs.Behinds.{behind_all}
use Rattle.play.specs.Answers.{answered_says}
use Rattle.playback.specs.Turns.{answer_in, Turns}
use Rattle.playback.specs.Printed.{lines_of, is_last, lines_from, unless_ended, Sound, Tells, Shows}
use Rattle.playback.specs.declared.Met.{Met}
use Rattle.playback.specs.declared.Replay.{Replay}
use Rattle.playback.proofs.Text.{printed-append}
use Rattle.playback.proofs.Going.{turn-goes, turn-on}

printed-unless : (b : Bool) (l : List Line) → printed (unless_ended b l) ≡ unless_ended b (printed l)
unfolding printed
printed-unless true l = refl
printed-unless false l = refl

module _ (bytes : List ℕ) (r r' : Replay) (x : Met) (byte : kind_at bytes r.at < 256) where
  abbrev line : List Line
  line = lines_of x r.at r'

  -- every line fits 96 bytes
  pub small_by : (f : Found) → Turns f (kind_at bytes r.at) (next_at bytes r.at) x r r' → length (printed line) ≤ 96
  unfolding printed
  small_by found.End h = rw (h.met, h.replay) (end-length r.accepted)
  small_by found.Bad h = rw h.met (bad-length r.at)
  small_by (found.Range g) h = rw h.met (omega arith)
  small_by (found.Event v) h =
      let c = connection_of r'.words r'.state in
      rw h.met
      (shown-length (kind_at bytes r.at) (refusal_of (answered_says (answer_in x))) c.shared.congestion.congestion_window c.shared.bytes_in_flight
      c.shared.loss_timer byte)

  module _ (fits : length bytes ≤ 18446744073709551615) (sound : Sound r) (turns : Turns (found_at bytes r.at) (kind_at bytes r.at) (next_at bytes r.at) x r r')
      (N : ℕ) (out out' : List ℕ) (ended : Bool) (tells : Tells N x r.at r' out out' ended) (room : length out + 96 ≤ N) where
    abbrev rest : List Line
    rest = lines_from bytes r'

    to-come : printed (lines_from bytes r) ≡ printed line ++ unless_ended (is_last x) (printed rest)
    to-come =
        ap printed (turn-goes bytes r r' x fits sound turns)
        ∙ (printed-append line (unless_ended (is_last x) rest) ∙ ap (λ (l : List ℕ). printed line ++ l) (printed-unless (is_last x) rest))

    put : out' ≡ out ++ printed line
    put = let small = small_by (found_at bytes r.at) turns in behind_all tells.put (omega arith)

    pub step-shows : Shows bytes out out' r r' ended
    step-shows =
        record {
          shown = rw (put, tells.ended, to-come) (append_assoc out (printed line) (unless_ended (is_last x) (printed rest)));
          goes_on = turn-on bytes r r' x fits sound turns ended tells.ended;
        }

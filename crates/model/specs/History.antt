-- What happened to a connection's congestion controller, move by move, as one who knows nothing of checkpoints sees it. Definitions only.
-- A recovery period may begin and a rollback be tried in the middle of an event, so a history is of moves, not of events.
use Rattle.std.specs.Prelude.{ℕ, ◌-◌, ◌*◌, ◌/◌, max, Bool, true, false, cond, ◌&&◌, ◌||◌, not, List, [], ◌∷◌, ◌++◌, ltb, eqb, Float, Result, Ok, Err, Option}
use Rattle.model.specs.Numbers.{is_unset}
use Rattle.model.specs.Cubic.{in_recovery, rolls_back}
use Rattle.model.specs.Control.{Move, forgive, lose, count, ack, resize, moved}
use Rattle.model.specs.Connection.{Connection}
use Rattle.model.specs.Events.{Step}
use Rattle.model.specs.Run.{Event, Answer, step, after}
use Rattle.model.specs.declared.Congestion.{Congestion}
use Rattle.arith.specs.declared.time.Moment.{Moment}
use Rattle.arith.specs.declared.refusal.Refusal.{Refusal}

-- window, slow-start threshold, w_max, K and recovery start
pub record Seen : Type 0 where
  pub window : ℕ
  pub thresh : ℕ
  pub w_max : Float
  pub k : Float
  pub start : Option Moment

unfoldable pub seen : Congestion → Seen
seen g =
    record {
      window = g.congestion_window;
      thresh = g.ssthresh;
      w_max = g.cubic.w_max;
      k = g.cubic.k;
      start = g.congestion_recovery_start_time;
    }

-- ---- the history

-- a move that was made, and the controller before and after it
pub record Entry : Type 0 where
  pub before : Congestion
  pub move : Move
  pub after : Congestion

-- moves, one after another, from a controller
unfoldable pub entries_from : Congestion → List Move → List Entry
entries_from g [] = []
entries_from g (m ∷ ms) = made (moved m g) (λ h. entries_from h ms)
  where
    made : Result Congestion Refusal → (Congestion → List Entry) → List Entry
    made (Ok h) go = record { before = g; move = m; after = h } ∷ go h
    made (Err n) go = []

-- the moves of an event: a refused one makes none
abbrev pub moves_by : Result (Step Answer) Refusal → List Move
moves_by (Ok x) = x.moves
moves_by (Err n) = []

-- all moves of a list of calls, oldest first
unfoldable pub moves_of : List Event → Connection → List Move
moves_of [] c = []
moves_of (e ∷ l) c = moves_by (step e c) ++ moves_of l (after e c)

unfoldable pub history : List Event → Connection → List Entry
history l c = entries_from c.shared.congestion (moves_of l c)

-- ---- what a move is

-- a move begins a recovery period: a loss not in recovery, this alone
unfoldable pub opens : Congestion → Move → Bool
opens g (lose now sent) = not (in_recovery g.congestion_recovery_start_time sent)
opens g forgive = false
opens g (count n) = false
opens g (ack now sent size limited min_rtt) = false
opens g (resize old new) = false

-- new lost < max(window / size × 20 / 100, 2), strictly
unfoldable pub few : Congestion → Bool
few g = ltb (g.lost_count - g.prior.lost_count) (max (g.congestion_window / g.max_datagram_size * 20 / 100) 2)

-- a move asks for a rollback: a spurious record in flight; an ack outside recovery, not app-limited, with the start set, if few were lost
unfoldable pub asks : Congestion → Move → Bool
asks g forgive = true
asks g (ack now sent size limited min_rtt) =
    not (in_recovery g.congestion_recovery_start_time sent) && (not limited && (not (is_unset g.congestion_recovery_start_time) && few g))
asks g (lose now sent) = false
asks g (count n) = false
asks g (resize old new) = false

-- the rollback succeeds, or it is turned down
abbrev pub succeeds : Congestion → Move → Bool
succeeds g m = asks g m && rolls_back g

-- the datagram size does not change
unfoldable pub keeps_size : Move → Bool
keeps_size (resize old new) = eqb old new
keeps_size forgive = true
keeps_size (lose now sent) = true
keeps_size (count n) = true
keeps_size (ack now sent size limited min_rtt) = true

-- ---- of a stretch of history

-- what was seen just before the latest recovery period began, if one did
pub data Kept : Type 0 where
  never : Kept
  as' : Seen → Kept

unfoldable pub latest : Kept → List Entry → Kept
latest k [] = k
latest k (e ∷ l) = latest (cond (opens e.before e.move) (as' (seen e.before)) k) l

-- a recovery period began in it
unfoldable pub begins : List Entry → Bool
begins [] = false
begins (e ∷ l) = opens e.before e.move || begins l

unfoldable pub size_kept : List Entry → Bool
size_kept [] = true
size_kept (e ∷ l) = keeps_size e.move && size_kept l

-- The third demand: what a rollback restores. For every setting, every fresh connection and every list of calls, refused ones included. Definitions only.
-- proofs/Promises.antt proves it.
use Rattle.std.specs.Prelude.{◌≡◌, Bool, true, false, List, ◌∷◌, ◌++◌, ℕ, ◌≤◌, T, Ok}
use Rattle.arith.specs.declared.time.Moment.{Moment}
use Rattle.arith.specs.declared.time.Span.{Span}
use Rattle.model.specs.Control.{forgive, ack, control}
use Rattle.model.specs.Cubic.{grow}
use Rattle.model.specs.Connection.{Connection}
use Rattle.model.specs.Run.{Event, run}
use Rattle.model.specs.History.{seen, Entry, history, moves_of, opens, asks, succeeds, keeps_size, never, as', latest, begins, size_kept}
use Rattle.model.specs.declared.Settings.{Settings}

pub record Promises (s : Settings) (c : Connection) (calls : List Event) : Type 0 where
  -- the history is the sender's own: its moves, one after another, give the connection's controller
  pub own : control (moves_of calls c) c.shared.congestion ≡ Ok (run calls c).shared.congestion
  -- 'A rollback that succeeds puts window, slow-start threshold, w_max, K and recovery start back to what they were just before the latest recovery period began.'
  pub puts_back : (a : List Entry) (e : Entry) (b : List Entry) → history calls c ≡ a ++ (e ∷ b) → T (succeeds e.before e.move) →
      latest never a ≡ as' (seen e.after)
  -- 'One turned down changes none of them': asked for by a spurious loss, the move changes nothing at all
  pub keeps : (a : List Entry) (e : Entry) (b : List Entry) → history calls c ≡ a ++ (e ∷ b) → e.move ≡ forgive → succeeds e.before e.move ≡ false →
      e.after ≡ e.before
  -- 'If the datagram size does not change between two successful rollbacks, a new recovery period began between them.'
  pub between : (a : List Entry) (e : Entry) (b : List Entry) (f : Entry) (d : List Entry) → history calls c ≡ a ++ (e ∷ (b ++ (f ∷ d))) →
      T (succeeds e.before e.move) → T (succeeds f.before f.move) → T (size_kept b) → T (begins b)
  -- and asked for by an ack, the packet's step goes on as growth alone: the rollback has changed nothing
  pub goes_on : (a : List Entry) (e : Entry) (b : List Entry) (now sent : Moment) (size : ℕ) (limited : Bool) (min_rtt : Span) →
      history calls c ≡ a ++ (e ∷ b) → e.move ≡ ack now sent size limited min_rtt → asks e.before e.move ≡ true → succeeds e.before e.move ≡ false →
      grow now size min_rtt e.before ≡ Ok e.after
  -- only a period's beginning or a size change lowers the window
  pub lowers : (a : List Entry) (e : Entry) (b : List Entry) → history calls c ≡ a ++ (e ∷ b) → opens e.before e.move ≡ false → keeps_size e.move ≡ true →
      e.before.congestion_window ≤ e.after.congestion_window
  -- before the first period every rollback is turned down
  pub none_before : (a : List Entry) (e : Entry) (b : List Entry) → history calls c ≡ a ++ (e ∷ b) → begins a ≡ false → succeeds e.before e.move ≡ false
  -- and the first period is never undone: its threshold was 2^64-1
  pub first_stays : (a : List Entry) (o : Entry) (b : List Entry) (e : Entry) (d : List Entry) → history calls c ≡ a ++ (o ∷ (b ++ (e ∷ d))) →
      begins a ≡ false → begins b ≡ false → T (opens o.before o.move) → succeeds e.before e.move ≡ false

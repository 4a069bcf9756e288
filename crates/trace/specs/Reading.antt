-- What stands at an offset of a trace, by the model's reading of a body, and how a replay goes on from there. 01 'Replay and the host'. Definitions only.
use Rattle.std.specs.Prelude.{ℕ, ◌+◌, Bool, true, false, cond, ◌&&◌, List, [], ◌∷◌, ◌++◌, leb, ltb, eqb, length, take, drop, get_or}
use Rattle.model.specs.Connection.{Connection}
use Rattle.model.specs.Run as run
use Rattle.model.specs.Run.{step}
use Rattle.model.specs.Trace.{field, body_length, event_of, Line, bad_at, end, replayed, replay_from}
use Rattle.trace.specs.Says.{event_says, range_words}
use Rattle.trace.specs.declared.Event.{Event}
use Rattle.trace.specs.declared.Event.TheVariants as event
use Rattle.trace.specs.declared.Found.{Found}
use Rattle.trace.specs.declared.Found.TheVariants as found
use Rattle.trace.specs.declared.Range.{Range}

-- ---- what stands at an offset

-- an event of the model without the ranges that an ack brings along: those are held apart
unfoldable pub event_read : run.Event → Event
event_read (run.sent time n p status) = event.Sent (record { time = time; space = n; packet = p; status = status })
event_read (run.acked time n words delay status limited skipped) =
    event.Ack (record { time = time; space = n; delay = delay; status = status; limited = limited; skipped = skipped })
event_read (run.timeout time status) = event.Timeout (record { time = time; status = status })
event_read (run.discarded time n status) = event.Discard (record { time = time; space = n; status = status })
event_read (run.size_change size) = event.Size size
event_read (run.take_acked n) = event.TakeAcked n
event_read (run.take_lost n) = event.TakeLost n
event_read (run.ping n) = event.Ping n

-- 2 range: start 8, end 8
unfoldable pub range_of : List ℕ → Range
range_of b = record { start = field b 0 8; end = field b 8 8 }

-- a known kind, and as many bytes after it as its body has
unfoldable pub whole : ℕ → List ℕ → Bool
whole kind more = ltb 0 (body_length kind) && leb (body_length kind) (length more)

-- by whether that stands there, and whether it is a range; the same tests as the model's `replay_by`
unfoldable pub found_by : Bool → Bool → ℕ → List ℕ → Found
found_by false range kind body = found.Bad
found_by true true kind body = found.Range (range_of body)
found_by true false kind body = found.Event (event_read (event_of kind [] body))

-- by the bytes from an offset on
unfoldable pub found_from : List ℕ → Found
found_from [] = found.End
found_from (kind ∷ more) = found_by (whole kind more) (eqb kind 2) kind (take (body_length kind) more)

abbrev pub found_at : List ℕ → ℕ → Found
found_at bytes at = found_from (drop at bytes)

-- the byte at an offset, 0 past the end
abbrev pub kind_at : List ℕ → ℕ → ℕ
kind_at bytes at = get_or bytes at 0

-- the length of the whole body that stands there, 0 where none does
unfoldable pub body_from : List ℕ → ℕ
body_from [] = 0
body_from (kind ∷ more) = cond (whole kind more) (body_length kind) 0

-- the offset after what stands there; the end of the bytes where nothing does
unfoldable pub next_by : ℕ → ℕ → ℕ → ℕ
next_by size at all = cond (eqb size 0) all (at + 1 + size)

unfoldable pub next_at : List ℕ → ℕ → ℕ
next_at bytes at = next_by (body_from (drop at bytes)) at (length bytes)

-- ---- how a replay goes on

-- a range is held; a 66th is dropped
unfoldable pub held_with : List ℕ → Range → List ℕ
held_with held r = cond (ltb (length held) 130) (held ++ range_words r) held

-- an ack empties the held ranges, a refused one too
unfoldable pub kept_by : Event → List ℕ → List ℕ
kept_by (event.Sent e) held = held
kept_by (event.Ack e) held = []
kept_by (event.Timeout e) held = held
kept_by (event.Discard e) held = held
kept_by (event.Size n) held = held
kept_by (event.TakeAcked n) held = held
kept_by (event.TakeLost n) held = held
kept_by (event.Ping n) held = held

-- the lines from an offset on: by what is found there, the last line, or the event's line and those that follow
unfoldable pub goes_on : Found → ℕ → ℕ → Connection → List ℕ → ℕ → (Connection → List ℕ → ℕ → List Line) → List Line
goes_on found.End at kind c held n go = end n ∷ []
goes_on found.Bad at kind c held n go = bad_at at ∷ []
goes_on (found.Range r) at kind c held n go = go c (held_with held r) n
goes_on (found.Event e) at kind c held n go = replayed kind (step (event_says e held) c) c n (λ d m. go d (kept_by e held) m)

-- the lines from an offset on, with a bound that every offset of the bytes meets
unfoldable pub replay_at : List ℕ → ℕ → Connection → List ℕ → ℕ → List Line
replay_at bytes at c held n = replay_from (length bytes) at (drop at bytes) c held n

-- What the events that were read say. 01 'Replay and the host'. Definitions only.
use Rattle.std.specs.Prelude.{ℕ, List, [], ◌∷◌}
use Rattle.model.specs.Run as run
use Rattle.trace.specs.declared.Event.{Event}
use Rattle.trace.specs.declared.Event.TheVariants.{Sent, Ack, Timeout, Discard, Size, TakeAcked, TakeLost, Ping}
use Rattle.trace.specs.declared.Range.{Range}

-- the event of the model, with the ranges held, which an ack brings along
unfoldable pub event_says : Event → List ℕ → run.Event
event_says (Sent e) held = run.sent e.time e.space e.packet e.status
event_says (Ack e) held = run.acked e.time e.space held e.delay e.status e.limited e.skipped
event_says (Timeout e) held = run.timeout e.time e.status
event_says (Discard e) held = run.discarded e.time e.space e.status
event_says (Size n) held = run.size_change n
event_says (TakeAcked n) held = run.take_acked n
event_says (TakeLost n) held = run.take_lost n
event_says (Ping n) held = run.ping n

-- a range's two words, as they are held
abbrev pub range_words : Range → List ℕ
range_words r = r.start ∷ (r.end ∷ [])

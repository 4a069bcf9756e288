-- 01 'Strength of wording': what the definitions shut out, as laws of each event over any connection: a sender that refuses all, a window that never
-- moves, an event that does nothing, and invented lost or spurious counts. proofs/Strength.antt proves them. Definitions only.
use Rattle.std.specs.Prelude.{◌≡◌, Bool, true, false, cond, ◌&&◌, ◌||◌, not, List, [], ◌∷◌, ◌++◌, map, ◌⊎◌, ℕ, ◌+◌, ◌-◌, ◌*◌, ◌^◌, ◌≤◌, ◌<◌, min, max, T, leb, ltb, eqb, length, drop, get_or, Result, Ok, Err, Option, Some, None}
use Rattle.arith.specs.Whole.{limit}
use Rattle.arith.specs.declared.time.Moment.{Moment}
use Rattle.arith.specs.declared.time.Span.{Span}
use Rattle.model.specs.Numbers.{or_zero, is_unset}
use Rattle.model.specs.Sent.{sent_now, marked, standing, drained, covered}
use Rattle.model.specs.Loss.{loss_delay, is_lost}
use Rattle.model.specs.Timer.{loss_time_and_space, timer_of}
use Rattle.model.specs.Cubic.{times_beta, in_recovery, congestion_event, packet_acked}
use Rattle.model.specs.Connection.{Space, Connection, space_at, with_space, with_shared, facts_of}
use Rattle.model.specs.Events.{Step, space_sent, shared_sent, on_packet_sent, outcome, on_ack_received, timeout_outcome, space_probed, on_loss_detection_timeout, on_space_discarded, on_size_change, with_queues, next_acked_frame, next_lost_frame, ping_sent}
use Rattle.model.specs.Run.{Event, sent, acked, timeout, discarded, size_change, take_acked, take_lost, ping, Answer, done, of_ack, of_timeout, handle, step, refusal_of}
use Rattle.model.specs.declared.Congestion.{Congestion}
use Rattle.model.specs.declared.HandshakeStatus.{HandshakeStatus}
use Rattle.model.specs.declared.Judge.{Judge}
use Rattle.model.specs.declared.OnAckReceivedOutcome.{OnAckReceivedOutcome}
use Rattle.model.specs.declared.OnLossDetectionTimeoutOutcome.{OnLossDetectionTimeoutOutcome}
use Rattle.model.specs.declared.Packet.{Packet}
use Rattle.model.specs.declared.Sent.{Sent}
use Rattle.arith.specs.declared.refusal.Refusal.{Refusal}

-- ---- lists of records, without a word of the events

-- those that pass a test, in order
unfoldable pub those : (Sent → Bool) → List Sent → List Sent
those f [] = []
those f (r ∷ l) = cond (f r) (r ∷ those f l) (those f l)

-- their sizes, added up
unfoldable pub sizes : List Sent → ℕ
sizes [] = 0
sizes (r ∷ l) = r.size + sizes l

-- their handles, but for 0, which stands for none
unfoldable pub handles : List Sent → List ℕ
handles [] = []
handles (r ∷ l) = cond (eqb r.handle 0) (handles l) (r.handle ∷ handles l)

-- those at the places that are ticked
unfoldable pub held : List Bool → List Sent → List Sent
held [] l = []
held (b ∷ bs) [] = []
held (false ∷ bs) (r ∷ l) = held bs l
held (true ∷ bs) (r ∷ l) = r ∷ held bs l

-- all, those at the ticked places marked acked
unfoldable pub acknowledged : List Bool → List Sent → List Sent
acknowledged [] l = l
acknowledged (b ∷ bs) [] = []
acknowledged (false ∷ bs) (r ∷ l) = r ∷ acknowledged bs l
acknowledged (true ∷ bs) (r ∷ l) = marked r true r.time_lost ∷ acknowledged bs l

-- lost, and not acked since
abbrev pub was_lost : Sent → Bool
was_lost r = not r.acked && not (is_unset r.time_lost)

-- a PMTUD probe is no packet in the lost counts
abbrev pub is_packet_lost : Sent → Bool
is_packet_lost r = not r.is_pmtud_probe

abbrev pub is_packet_in_flight : Sent → Bool
is_packet_in_flight r = not r.is_pmtud_probe && r.in_flight

abbrev pub is_probe_in_flight : Sent → Bool
is_probe_in_flight r = r.is_pmtud_probe && r.in_flight

-- ---- a loss detection

-- a record above the stored largest ends the scan, and so does a survivor
abbrev pub ends : Judge → Sent → Bool
ends j r = ltb j.largest r.number || (standing r && not (is_lost j r))

unfoldable pub scanned : Judge → List Sent → List Sent
scanned j [] = []
scanned j (r ∷ l) = cond (ends j r) [] (r ∷ scanned j l)

-- the records that the rule names lost
unfoldable pub named : Judge → List Sent → List Sent
unfolding those scanned
named j l = those (λ r. standing r && is_lost j r) (scanned j l)

-- all records, those named lost marked so
unfoldable pub fallen : Judge → List Sent → List Sent
unfolding scanned
fallen j l =
    map (λ r. cond (standing r && is_lost j r) (marked r false (Some j.now)) r) (scanned j l) ++ drop (length (scanned j l)) l

-- ---- spaces that an event does not name

abbrev pub Elsewhere : ℕ → Connection → Connection → Type 0
Elsewhere n c d = (k : ℕ) → k < 3 → (k ≡ n → ⊥) → space_at k d ≡ space_at k c

-- ---- not a sender that refuses all: the first line of 01's table that applies, top down, and 0 where none does

-- the number of a line that applies, else of the lines below it
abbrev pub given : Bool → ℕ → ℕ → ℕ
given applies number more = cond applies number more

-- 1: now below the last accepted now, or above 2^53-1
abbrev pub off_clock : Moment → Connection → Bool
off_clock now c = ltb now.0 c.shared.clock.0 || ltb limit now.0

-- 2: space, size or number outside its range; a PMTUD probe not in flight
abbrev pub outside : ℕ → Packet → Bool
outside n p =
    leb 3 n || ((ltb p.size 1 || ltb 65527 p.size) || (leb (2 ^ 62) p.number || (p.is_pmtud_probe && not p.in_flight)))

-- 3: number not above the last sent in that space
abbrev pub stale : Option ℕ → ℕ → Bool
stale None number = false
stale (Some last) number = leb number last

-- the run of packets that elicit no ack
abbrev pub run_of : Packet → Connection → ℕ
run_of p c = cond p.ack_eliciting 0 (c.shared.outstanding_non_ack_eliciting + 1)

-- the connection with the packet in flight, before the timer is set
abbrev pub sending : Moment → ℕ → Packet → Connection → Connection
sending now n p c =
    with_shared (shared_sent now (run_of p c) (c.shared.bytes_in_flight + p.size) c.shared)
    (with_space n (space_sent now p ((space_at n c).epoch.in_flight_count + 1) (space_at n c)) c)

abbrev pub is_refused : {A : Type 0} → Result A Refusal → Bool
is_refused (Ok a) = false
is_refused (Err n) = true

-- 7: a count or a sum that the rules reach passes 2^53-1, or one on the way to the timer
abbrev pub overflows : Moment → ℕ → Packet → HandshakeStatus → Connection → Bool
overflows now n p status c =
    ltb limit (run_of p c)
    || (p.in_flight
    && (ltb limit ((space_at n c).epoch.in_flight_count + 1)
    || (ltb limit (c.shared.bytes_in_flight + p.size) || is_refused (timer_of (facts_of now status (sending now n p c))))))

unfoldable pub send_number : Moment → ℕ → Packet → HandshakeStatus → Connection → ℕ
send_number now n p status c =
    given (off_clock now c) 1
    (given (outside n p) 2
    (given (stale (space_at n c).epoch.largest_sent_packet p.number) 3
    (given (leb 256 (length (space_at n c).records)) 6
    (given (overflows now n p status c) 7 0))))

-- ---- not an event that does nothing

-- an accepted send
pub record Sends (now : Moment) (n : ℕ) (p : Packet) (c d : Connection) : Type 0 where
  -- its record, and nothing else, comes last
  pub appended : (space_at n d).records ≡ (space_at n c).records ++ (sent_now now p ∷ [])
  pub clock : d.shared.clock ≡ now
  pub largest : (space_at n d).epoch.largest_sent_packet ≡ Some p.number
  pub bytes : d.shared.bytes_in_flight ≡ c.shared.bytes_in_flight + cond p.in_flight p.size 0
  pub elsewhere : Elsewhere n c d

-- a loss detection in a space over records l, with so many acked bytes besides: the rule's judge is read off the connection after the event
pub record Detects (now : Moment) (n : ℕ) (l : List Sent) (acked_bytes : ℕ) (c d : Connection) (lost_packets lost_bytes : ℕ) : Type 0 where
  pub judge : Judge
  pub moment : judge.now ≡ now
  pub delay : loss_delay d.shared.rtt d.shared.reordering.time_thresh ≡ Ok judge.delay
  pub threshold : judge.threshold ≡ d.shared.reordering.pkt_thresh
  pub largest : judge.largest ≡ or_zero (space_at n d).epoch.largest_acked_packet
  -- a PMTUD probe counts in neither; lost bytes are of those in flight
  pub packets : lost_packets ≡ length (those is_packet_lost (named judge l))
  pub bytes : lost_bytes ≡ sizes (those is_packet_in_flight (named judge l))
  -- every handle is queued, every record marked, and the space drained
  pub queue : (space_at n d).lost_frames_ack ≡ (space_at n c).lost_frames_ack ++ handles (named judge l)
  pub records : (space_at n d).records ≡ drained now d.shared.rtt.smoothed_rtt (fallen judge l)
  -- lost and acked bytes come off
  pub in_flight : d.shared.bytes_in_flight ≡ c.shared.bytes_in_flight - lost_bytes - sizes (those is_probe_in_flight (named judge l)) - acked_bytes

-- the places that the ranges cover in a space, the newly acked and the spurious losses among them, and the records after steps 1 and 2
abbrev pub places : ℕ → List ℕ → Connection → List Bool
places n words c = covered words (space_at n c).records

abbrev pub newly_acked : ℕ → List ℕ → Connection → List Sent
newly_acked n words c = those standing (held (places n words c) (space_at n c).records)

abbrev pub forgiven : ℕ → List ℕ → Connection → List Sent
forgiven n words c = those was_lost (held (places n words c) (space_at n c).records)

abbrev pub remaining : Moment → ℕ → List ℕ → Connection → List Sent
remaining now n words c = drained now c.shared.rtt.smoothed_rtt (acknowledged (places n words c) (space_at n c).records)

-- step 4: nothing newly acked
pub record AcksNothing (now : Moment) (n : ℕ) (words : List ℕ) (c : Connection) (o : OnAckReceivedOutcome) (d : Connection) : Type 0 where
  pub answer : o ≡ outcome 0 0 0 0
  pub records : (space_at n d).records ≡ remaining now n words c
  pub bytes : d.shared.bytes_in_flight ≡ c.shared.bytes_in_flight
  pub stays : d.shared.pto_count ≡ c.shared.pto_count

-- steps 5 and 6
pub record AcksSome (now : Moment) (n : ℕ) (words : List ℕ) (c : Connection) (o : OnAckReceivedOutcome) (d : Connection) : Type 0 where
  pub spurious : o.spurious_losses ≡ length (forgiven n words c)
  pub lost : Detects now n (remaining now n words c) o.acked_bytes c d o.lost_packets o.lost_bytes
  pub back_to_nought : d.shared.pto_count ≡ 0

abbrev pub AcksBy : List Sent → Moment → ℕ → List ℕ → Connection → OnAckReceivedOutcome → Connection → Type 0
AcksBy [] now n words c o d = AcksNothing now n words c o d
AcksBy (r ∷ l) now n words c o d = AcksSome now n words c o d

-- an accepted acknowledgement
pub record Acknowledges (now : Moment) (n : ℕ) (words : List ℕ) (c : Connection) (o : OnAckReceivedOutcome) (d : Connection) : Type 0 where
  pub clock : d.shared.clock ≡ now
  -- so many records have left at the front; each that the ranges cover is acked afterwards, or has left
  pub gone : ℕ
  pub many : gone + length (space_at n d).records ≡ length (space_at n c).records
  pub acks : (i : ℕ) → i < length (space_at n c).records → T (get_or (places n words c) i false) →
      (i < gone) ⊎ T (get_or (map (λ r. r.acked) (space_at n d).records) (i - gone) false)
  -- handles of the newly acked are queued, and their bytes in flight answered
  pub queue : (space_at n d).acked_frames ≡ (space_at n c).acked_frames ++ handles (newly_acked n words c)
  pub bytes : o.acked_bytes ≡ sizes (those (λ r. r.in_flight) (newly_acked n words c))
  pub by : AcksBy (newly_acked n words c) now n words c o d
  pub elsewhere : Elsewhere n c d

-- an accepted timeout: with a loss time, a detection in its space
pub record TimesOutLoss (now : Moment) (n : ℕ) (c : Connection) (o : OnLossDetectionTimeoutOutcome) (d : Connection) : Type 0 where
  pub lost : Detects now n (space_at n c).records 0 c d o.lost_packets o.lost_bytes
  pub stays : d.shared.pto_count ≡ c.shared.pto_count
  pub elsewhere : Elsewhere n c d

-- without one, the PTO count is one more, and a space has probes to send
pub record TimesOutProbe (c : Connection) (o : OnLossDetectionTimeoutOutcome) (d : Connection) : Type 0 where
  pub answer : o ≡ timeout_outcome 0 0
  pub one_more : d.shared.pto_count ≡ c.shared.pto_count + 1
  pub space : ℕ
  pub probes : (space_at space d).epoch.loss_probes ≡ min (c.shared.pto_count + 1) 2
  pub records : (space_at space d).records ≡ (space_at space c).records
  pub bytes : d.shared.bytes_in_flight ≡ c.shared.bytes_in_flight
  pub elsewhere : Elsewhere space c d

abbrev pub TimesOutBy : Option Moment → ℕ → Moment → Connection → OnLossDetectionTimeoutOutcome → Connection → Type 0
TimesOutBy (Some t) n now c o d = TimesOutLoss now n c o d
TimesOutBy None n now c o d = TimesOutProbe c o d

pub record TimesOut (now : Moment) (c : Connection) (o : OnLossDetectionTimeoutOutcome) (d : Connection) : Type 0 where
  pub clock : d.shared.clock ≡ now
  pub by : TimesOutBy (loss_time_and_space c.initial.epoch c.handshake.epoch c.application.epoch).time
      (loss_time_and_space c.initial.epoch c.handshake.epoch c.application.epoch).space now c o d

-- an accepted discard
pub record Discards (now : Moment) (n : ℕ) (c d : Connection) : Type 0 where
  pub clock : d.shared.clock ≡ now
  pub records : (space_at n d).records ≡ []
  pub acked_frames : (space_at n d).acked_frames ≡ []
  pub lost_frames_ack : (space_at n d).lost_frames_ack ≡ []
  pub lost_frames_pto : (space_at n d).lost_frames_pto ≡ []
  -- what was in flight, neither acked nor lost, comes off
  pub bytes : d.shared.bytes_in_flight ≡ c.shared.bytes_in_flight - sizes (those (λ r. r.in_flight && standing r) (space_at n c).records)
  pub elsewhere : Elsewhere n c d

-- an accepted size change: the window follows if it was still the first one
pub record Resizes (new : ℕ) (c d : Connection) : Type 0 where
  pub size : d.shared.max_datagram_size ≡ new
  pub window : d.shared.congestion.congestion_window ≡
      cond (eqb c.shared.congestion.congestion_window (c.shared.max_datagram_size * c.shared.congestion.initial_window_packets))
      (new * c.shared.congestion.initial_window_packets) c.shared.congestion.congestion_window
  pub everywhere : (k : ℕ) → space_at k d ≡ space_at k c

-- the newest handle is taken off a queue; from an empty one, 0
abbrev pub Takes : List ℕ → ℕ → List ℕ → Type 0
Takes q h left = ((q ≡ []) × (h ≡ 0) × (left ≡ [])) ⊎ (q ≡ left ++ (h ∷ []))

pub record TakesAcked (n : ℕ) (c : Connection) (h : ℕ) (d : Connection) : Type 0 where
  pub taken : Takes (space_at n c).acked_frames h (space_at n d).acked_frames
  pub rest : space_at n d ≡ with_queues (space_at n d).acked_frames (space_at n c).lost_frames_ack (space_at n c).lost_frames_pto (space_at n c)
  pub shared : d.shared ≡ c.shared
  pub elsewhere : Elsewhere n c d

-- ACK losses before PTO ones
abbrev pub TakesLostBy : List ℕ → Space → ℕ → Space → Type 0
TakesLostBy [] s h t = Takes s.lost_frames_pto h t.lost_frames_pto × (t.lost_frames_ack ≡ [])
TakesLostBy (g ∷ q) s h t = Takes s.lost_frames_ack h t.lost_frames_ack × (t.lost_frames_pto ≡ s.lost_frames_pto)

pub record TakesLost (n : ℕ) (c : Connection) (h : ℕ) (d : Connection) : Type 0 where
  pub taken : TakesLostBy (space_at n c).lost_frames_ack (space_at n c) h (space_at n d)
  pub rest : space_at n d ≡ with_queues (space_at n c).acked_frames (space_at n d).lost_frames_ack (space_at n d).lost_frames_pto (space_at n c)
  pub shared : d.shared ≡ c.shared
  pub elsewhere : Elsewhere n c d

-- a ping: one probe less, not below 0
pub record Pings (n : ℕ) (c d : Connection) : Type 0 where
  pub probes : (space_at n d).epoch.loss_probes ≡ (space_at n c).epoch.loss_probes - 1
  pub rest : space_at n d ≡ space_probed (space_at n d).epoch.loss_probes (space_at n c).lost_frames_pto (space_at n c)
  pub shared : d.shared ≡ c.shared
  pub elsewhere : Elsewhere n c d

-- ---- no invented counts: what an event's answer says was lost, and the spurious losses in an ack's ranges

abbrev pub lost_by : Answer → ℕ
lost_by done = 0
lost_by (of_ack o) = o.lost_packets
lost_by (of_timeout o) = o.lost_packets
lost_by (handle h) = 0

abbrev pub spurious_by : Event → Connection → ℕ
spurious_by (sent now n p status) c = 0
spurious_by (acked now n words delay status limited skipped) c = length (forgiven n words c)
spurious_by (timeout now status) c = 0
spurious_by (discarded now n status) c = 0
spurious_by (size_change size) c = 0
spurious_by (take_acked n) c = 0
spurious_by (take_lost n) c = 0
spurious_by (ping n) c = 0

-- ---- the laws

pub record Strength : Type 0 where
  -- a send is refused exactly where a line of 01's table says so, and with that number
  pub send_refused : (now : Moment) (n : ℕ) (p : Packet) (status : HandshakeStatus) (c : Connection) →
      refusal_of (on_packet_sent now n p status c) ≡ send_number now n p status c
  -- and accepted where none does
  pub send_accepted : (now : Moment) (n : ℕ) (p : Packet) (status : HandshakeStatus) (c : Connection) → send_number now n p status c ≡ 0 →
      (x : Step ℕ) × (on_packet_sent now n p status c ≡ Ok x)
  -- takes and pings are refused outside the three spaces alone
  pub take_acked_refused : (n : ℕ) (c : Connection) → refusal_of (next_acked_frame n c) ≡ given (leb 3 n) 2 0
  pub take_lost_refused : (n : ℕ) (c : Connection) → refusal_of (next_lost_frame n c) ≡ given (leb 3 n) 2 0
  pub ping_refused : (n : ℕ) (c : Connection) → refusal_of (ping_sent n c) ≡ given (leb 3 n) 2 0
  -- what each accepted event does
  pub sends : (now : Moment) (n : ℕ) (p : Packet) (status : HandshakeStatus) (c : Connection) (x : Step ℕ) →
      on_packet_sent now n p status c ≡ Ok x → Sends now n p c x.state
  pub acknowledges : (now : Moment) (n : ℕ) (words : List ℕ) (delay : ℕ) (status : HandshakeStatus) (limited : Bool) (skipped : Option ℕ) (c : Connection)
      (x : Step OnAckReceivedOutcome) →
      on_ack_received now n words delay status limited skipped c ≡ Ok x → Acknowledges now n words c x.answer x.state
  pub times_out : (now : Moment) (status : HandshakeStatus) (c : Connection) (x : Step OnLossDetectionTimeoutOutcome) →
      on_loss_detection_timeout now status c ≡ Ok x → TimesOut now c x.answer x.state
  pub discards : (now : Moment) (n : ℕ) (status : HandshakeStatus) (c : Connection) (x : Step ℕ) →
      on_space_discarded now n status c ≡ Ok x → Discards now n c x.state
  pub resizes : (size : ℕ) (c : Connection) (x : Step ℕ) → on_size_change size c ≡ Ok x → Resizes size c x.state
  pub takes_acked : (n : ℕ) (c : Connection) (x : Step ℕ) → next_acked_frame n c ≡ Ok x → TakesAcked n c x.answer x.state
  pub takes_lost : (n : ℕ) (c : Connection) (x : Step ℕ) → next_lost_frame n c ≡ Ok x → TakesLost n c x.answer x.state
  pub pings : (n : ℕ) (c : Connection) (x : Step ℕ) → ping_sent n c ≡ Ok x → Pings n c x.state
  -- the stored counts rise by exactly what was lost, and by exactly the spurious losses
  pub lost : (e : Event) (c : Connection) (x : Step Answer) → step e c ≡ Ok x →
      x.state.shared.congestion.lost_count ≡ c.shared.congestion.lost_count + lost_by x.answer
  pub spurious : (e : Event) (c : Connection) (x : Step Answer) → step e c ≡ Ok x →
      x.state.shared.reordering.lost_spurious_count ≡ c.shared.reordering.lost_spurious_count + spurious_by e c
  -- in slow start, before any loss, a whole datagram of acked bytes raises the window by a datagram
  pub raises : (now sent : Moment) (bytes : ℕ) (min_rtt : Span) (g : Congestion) → g.congestion_recovery_start_time ≡ None →
      g.congestion_window < g.ssthresh → g.max_datagram_size ≤ g.bytes_acked_sl + bytes →
      g.bytes_acked_sl + bytes ≤ limit → g.congestion_window + g.max_datagram_size ≤ 2 ^ 30 →
      (h : Congestion) × (packet_acked now sent bytes false min_rtt g ≡ Ok h) × (h.congestion_window ≡ g.congestion_window + g.max_datagram_size)
  -- a loss outside recovery sets it to 0.7 of itself, at least two datagrams
  pub reduces : (now sent : Moment) (g h : Congestion) → in_recovery g.congestion_recovery_start_time sent ≡ false →
      congestion_event now sent g ≡ Ok h → h.congestion_window ≡ max (times_beta g.congestion_window) (g.max_datagram_size * 2)
  -- which is less, of a window above two datagrams
  pub lowers : (now sent : Moment) (g h : Congestion) → in_recovery g.congestion_recovery_start_time sent ≡ false →
      congestion_event now sent g ≡ Ok h → g.max_datagram_size * 2 < g.congestion_window → g.congestion_window ≤ 2 ^ 30 →
      h.congestion_window < g.congestion_window

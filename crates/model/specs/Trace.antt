-- 01 'Replay and the host': a trace's bytes, the events that they say, and the lines that a replay prints. Definitions only.
use Rattle.std.specs.Prelude.{ℕ, zero, suc, ◌+◌, ◌*◌, ◌/◌, ◌%◌, Bool, true, false, cond, ◌&&◌, List, [], ◌∷◌, ◌++◌, leb, ltb, eqb, length, take, drop, Result, Ok, Err, Option, Some, None}
use Rattle.arith.specs.Time.{moment}
use Rattle.model.specs.Connection.{Connection}
use Rattle.model.specs.Events.{Step}
use Rattle.model.specs.Run.{Event, sent, acked, timeout, discarded, size_change, take_acked, take_lost, ping, Answer, step, refusal_of, state_by}
use Rattle.model.specs.declared.HandshakeStatus.{HandshakeStatus}
use Rattle.model.specs.declared.Packet.{Packet}
use Rattle.arith.specs.declared.time.Moment.{Moment}
use Rattle.arith.specs.declared.refusal.Refusal.{Refusal}

-- ---- numbers are big-endian

unfoldable pub big_endian : ℕ → List ℕ → ℕ
big_endian n [] = n
big_endian n (b ∷ l) = big_endian (256 * n + b) l

-- so many bytes of a body, from a place on
abbrev pub field : List ℕ → ℕ → ℕ → ℕ
field body from size = big_endian 0 (take size (drop from body))

abbrev pub odd : ℕ → Bool
odd n = eqb (n % 2) 1

-- status: 1 keys, 2 verified, 4 completed; other bits are ignored
abbrev pub status_of : ℕ → HandshakeStatus
status_of n = record { has_handshake_keys = odd n; peer_verified_address = odd (n / 2); completed = odd (n / 4) }

-- ---- a kind byte, then its fixed body

-- the body's length; 0 for an unknown kind
unfoldable pub body_length : ℕ → ℕ
body_length kind =
    cond (eqb kind 1) 29 (cond (eqb kind 2) 16 (cond (eqb kind 3) 27 (cond (eqb kind 4) 9 (cond (eqb kind 5) 10 (cond (eqb kind 6) 2 (cond (leb 7 kind && leb kind 9) 1 0))))))

-- flags: 1 eliciting, 2 in flight, 4 data, 8 probe; other bits are ignored
unfoldable pub packet_of : ℕ → ℕ → ℕ → ℕ → Packet
packet_of number size flags handle =
    record {
      number = number;
      size = size;
      ack_eliciting = odd flags;
      in_flight = odd (flags / 2);
      has_data = odd (flags / 4);
      is_pmtud_probe = odd (flags / 8);
      handle = handle;
    }

-- 1 sent: now 8, space 1, number 8, size 2, flags 1 (1 eliciting, 2 in flight, 4 data, 8 probe), handle 8, status 1
unfoldable pub sent_of : List ℕ → Event
unfolding big_endian packet_of
sent_of b =
    sent (moment (field b 0 8)) (field b 8 1) (packet_of (field b 9 8) (field b 17 2) (field b 19 1) (field b 20 8))
    (status_of (field b 28 1))

-- skipped 8 (all ones: none)
unfoldable pub skipped_of : ℕ → Option ℕ
skipped_of n = cond (eqb n 18446744073709551615) None (Some n)

-- 3 ack on held ranges: now 8, space 1, delay µs 8, status 1, limited 1, skipped 8
unfoldable pub ack_of : List ℕ → List ℕ → Event
unfolding big_endian skipped_of
ack_of held b = acked (moment (field b 0 8)) (field b 8 1) held (field b 9 8) (status_of (field b 17 1)) (odd (field b 18 1)) (skipped_of (field b 19 8))

-- 4 timeout: now 8, status 1. 5 discard: now 8, space 1, status 1. 6 size 2. 7, 8, 9: take acked, take lost, ping; space 1
unfoldable pub event_of : ℕ → List ℕ → List ℕ → Event
unfolding sent_of ack_of big_endian
event_of kind held b =
    cond (eqb kind 1) (sent_of b)
    (cond (eqb kind 3) (ack_of held b)
    (cond (eqb kind 4) (timeout (moment (field b 0 8)) (status_of (field b 8 1)))
    (cond (eqb kind 5) (discarded (moment (field b 0 8)) (field b 8 1) (status_of (field b 9 1)))
    (cond (eqb kind 6) (size_change (field b 0 2))
    (cond (eqb kind 7) (take_acked (field b 0 1)) (cond (eqb kind 8) (take_lost (field b 0 1)) (ping (field b 0 1))))))))

-- 2 range: start 8, end 8; a 66th held range is dropped
unfoldable pub holding : List ℕ → List ℕ → List ℕ
unfolding big_endian
holding held b = cond (ltb (length held) 130) (held ++ (field b 0 8 ∷ (field b 8 8 ∷ []))) held

-- ---- what a replay prints

pub data Line : Type 0 where
  -- kind, refusal, window, in flight, timer or `-`
  shows : ℕ → ℕ → ℕ → ℕ → Option Moment → Line
  -- the offset of the kind byte
  bad_at : ℕ → Line
  -- accepted events but ranges
  end : ℕ → Line
  too_long : Line

unfoldable pub line_of : ℕ → Result (Step Answer) Refusal → Connection → Line
line_of kind r c = shows kind (refusal_of r) c.shared.congestion.congestion_window c.shared.bytes_in_flight c.shared.loss_timer

-- an accepted event counts
abbrev pub count_by : Result (Step Answer) Refusal → ℕ → ℕ
count_by (Ok x) n = n + 1
count_by (Err k) n = n

-- an ack empties the held ranges, a refused one too
abbrev pub held_after : ℕ → List ℕ → List ℕ
held_after kind held = cond (eqb kind 3) [] held

-- one event's line, and what goes on from there
unfoldable pub replayed : ℕ → Result (Step Answer) Refusal → Connection → ℕ → (Connection → ℕ → List Line) → List Line
unfolding line_of
replayed kind r c n go = line_of kind r (state_by c r) ∷ go (state_by c r) (count_by r n)

-- by what stands at an offset: a known kind with its whole body, or not; a range has no line
unfoldable pub replay_by : Bool → Bool → ℕ → ℕ → List ℕ → Connection → List ℕ → ℕ → (Connection → List ℕ → ℕ → List Line) → List Line
unfolding holding replayed event_of step
replay_by false range at kind body c held n go = bad_at at ∷ []
replay_by true true at kind body c held n go = go c (holding held body) n
replay_by true false at kind body c held n go = replayed kind (step (event_of kind held body) c) c n (λ d m. go d (held_after kind held) m)

-- a first byte and those after it, or none
abbrev pub on_byte : List ℕ → List Line → (ℕ → List ℕ → List Line) → List Line
on_byte [] none k = none
on_byte (b ∷ l) none k = k b l

-- the bytes from an offset on; the first argument bounds how many there are
unfoldable pub replay_from : ℕ → ℕ → List ℕ → Connection → List ℕ → ℕ → List Line
unfolding replay_by body_length
replay_from zero at l c held n = end n ∷ []
replay_from (suc fuel) at l c held n =
    on_byte l (end n ∷ []) λ kind more.
    let size = body_length kind in
    replay_by (ltb 0 size && leb size (length more)) (eqb kind 2) at kind (take size more) c held n
    (λ d ranges m. replay_from fuel (at + 1 + size) (drop size more) d ranges m)

-- a trace over 65,536 bytes prints only `too long`
unfoldable pub replay : List ℕ → Connection → List Line
unfolding replay_from
replay bytes c = cond (ltb 65536 (length bytes)) (too_long ∷ []) (replay_from (length bytes) 0 bytes c [] 0)

-- ---- a line's characters

-- a number's decimal digits; the first argument bounds how many there are
unfoldable pub digits : ℕ → ℕ → List ℕ → List ℕ
digits zero n l = l
digits (suc k) n l = cond (eqb (n / 10) 0) ((48 + n % 10) ∷ l) (digits k (n / 10) ((48 + n % 10) ∷ l))

abbrev pub decimal : ℕ → List ℕ
decimal n = digits 20 n []

abbrev pub timer_text : Option Moment → List ℕ
timer_text None = 45 ∷ []
timer_text (Some m) = decimal m.0

abbrev pub spaced : List ℕ → List ℕ → List ℕ
spaced a b = a ++ (32 ∷ b)

-- `bad at`, `end`, `too long`
unfoldable pub text : Line → List ℕ
unfolding digits
text (shows kind refusal window bytes timer) =
    spaced (decimal kind) (spaced (decimal refusal) (spaced (decimal window) (spaced (decimal bytes) (timer_text timer))))
text (bad_at at) = spaced (98 ∷ 97 ∷ 100 ∷ []) (spaced (97 ∷ 116 ∷ []) (decimal at))
text (end n) = spaced (101 ∷ 110 ∷ 100 ∷ []) (decimal n)
text too_long = spaced (116 ∷ 111 ∷ 111 ∷ []) (108 ∷ 111 ∷ 110 ∷ 103 ∷ [])

-- each line ends with a newline
unfoldable pub printed : List Line → List ℕ
unfolding text
printed [] = []
printed (x ∷ l) = text x ++ (10 ∷ printed l)

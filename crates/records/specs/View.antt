-- How the sent records and the queues of three spaces lie in one lent array of words, and what they are read as. Definitions only.
-- One array, so that an event lends one thing; all of a space lies together, so that a space can be copied as one piece.
-- Every index is taken modulo its range, so that any number names a word and no reader or writer needs a `requires`.
use Rattle.std.specs.Prelude.{ℕ, zero, suc, ◌+◌, ◌-◌, ◌*◌, ◌/◌, ◌%◌, Bool, true, false, cond, ◌&&◌, List, [], ◌∷◌, ◌++◌, eqb, get_or, set, Option, Some, None}
use Rattle.arith.specs.Time.{moment}
use Rattle.arith.specs.declared.time.Moment.{Moment}
use Rattle.model.specs.Numbers.{capacity}
use Rattle.model.specs.Sent.{standing}
use Rattle.model.specs.declared.Packet.{Packet}
use Rattle.model.specs.declared.Sent.{Sent}
use Rattle.records.specs.declared.memory.Queue.{Queue}
use Rattle.records.specs.declared.memory.Queue.TheVariants.{AckedFrames, LostFramesAck, LostFramesPto}
use Rattle.records.specs.declared.memory.Word.{Word}
use Rattle.records.specs.declared.memory.Word.TheVariants.{Number, TimeSent, Size, Flags, Handle, Mark}

-- ---- where a word lies

-- a space: `capacity` records of 6 words, then three queues of `capacity` handles
abbrev pub space_words : ℕ
space_words = 9 * capacity

abbrev pub all_words : ℕ
all_words = 3 * space_words

-- the place of a word in a record
abbrev pub word_place : Word → ℕ
word_place Number = 0
word_place TimeSent = 1
word_place Size = 2
word_place Flags = 3
word_place Handle = 4
word_place Mark = 5

-- the queues of a space: handles of acked packets, of packets lost by an ACK, of packets sent again on a PTO
abbrev pub queue_place : Queue → ℕ
queue_place AckedFrames = 0
queue_place LostFramesAck = 1
queue_place LostFramesPto = 2

-- word j of record slot k of space n
abbrev pub at : ℕ → ℕ → ℕ → ℕ
at n k j = space_words * (n % 3) + (6 * (k % capacity) + j)

-- place i of queue w of space n
abbrev pub slot : ℕ → ℕ → ℕ → ℕ
slot n w i = space_words * (n % 3) + (6 * capacity + (capacity * (w % 3) + i % capacity))

-- ---- flags and marks

-- flags: 1 eliciting, 2 in flight, 4 data, 8 probe, as in a trace (01 'Replay and the host')
abbrev pub bit : Bool → ℕ
bit true = 1
bit false = 0

abbrev pub flags_of : Packet → ℕ
flags_of p = bit p.ack_eliciting + 2 * bit p.in_flight + 4 * bit p.has_data + 8 * bit p.is_pmtud_probe

-- a mark: 0 standing, 1 acked, 2·(t + 1) lost at t, 2·(t + 1) + 1 lost at t and acked since
abbrev pub acked_by : ℕ → Bool
acked_by mark = eqb (mark % 2) 1

abbrev pub lost_by : ℕ → Option Moment
lost_by mark = cond (eqb (mark / 2) 0) None (Some (moment (mark / 2 - 1)))

-- ---- what is held

-- the record in slot k of space n, if its mark were this one
unfoldable pub record_by : List ℕ → ℕ → ℕ → ℕ → Sent
record_by m n k mark =
    record {
      number = get_or m (at n k 0) 0;
      time_sent = moment (get_or m (at n k 1) 0);
      size = get_or m (at n k 2) 0;
      ack_eliciting = eqb (get_or m (at n k 3) 0 % 2) 1;
      in_flight = eqb (get_or m (at n k 3) 0 / 2 % 2) 1;
      has_data = eqb (get_or m (at n k 3) 0 / 4 % 2) 1;
      is_pmtud_probe = eqb (get_or m (at n k 3) 0 / 8 % 2) 1;
      handle = get_or m (at n k 4) 0;
      acked = acked_by mark;
      time_lost = lost_by mark;
    }

unfoldable pub record_at : List ℕ → ℕ → ℕ → Sent
unfolding record_by
record_at m n k = record_by m n k (get_or m (at n k 5) 0)

-- what f gives of `count` places from h on; f takes a place round the ring itself
unfoldable pub ring : {A : Type 0} → (ℕ → A) → ℕ → ℕ → List A
ring f h zero = []
ring f h (suc count) = f h ∷ ring f (h + 1) count

-- the records of space n, oldest first: `len` of them from slot head on
abbrev pub records_of : List ℕ → ℕ → ℕ → ℕ → List Sent
records_of m n head len = ring (record_at m n) head len

-- the number at each place from slot head on
abbrev pub number_in : List ℕ → ℕ → ℕ → ℕ → ℕ
number_in m n head i = get_or m (at n (head + i) 0) 0

-- the size of a record that is in flight and neither acked nor lost
unfoldable pub weight_of : Sent → ℕ
weight_of r = cond (r.in_flight && standing r) r.size 0

-- queue w of space n, newest last: its first `len` places
unfoldable pub queue_of : List ℕ → ℕ → ℕ → ℕ → List ℕ
queue_of m n w zero = []
queue_of m n w (suc len) = queue_of m n w len ++ (get_or m (slot n w len) 0 ∷ [])

-- ---- what is stored

-- a packet that is sent at a moment, in slot k of space n; it stands
unfoldable pub store_record : List ℕ → ℕ → ℕ → Moment → Packet → List ℕ
store_record m n k time p =
    set (set (set (set (set (set m (at n k 0) p.number) (at n k 1) time.0) (at n k 2) p.size) (at n k 3) (flags_of p)) (at n k 4) p.handle) (at n k 5) 0

abbrev pub store_mark : List ℕ → ℕ → ℕ → ℕ → List ℕ
store_mark m n k mark = set m (at n k 5) mark

abbrev pub store_handle : List ℕ → ℕ → ℕ → ℕ → ℕ → List ℕ
store_handle m n w i handle = set m (slot n w i) handle

-- handles stored one after another, from place i of queue w of space n on
unfoldable pub store_handles : List ℕ → ℕ → ℕ → ℕ → List ℕ → List ℕ
store_handles m n w i [] = m
store_handles m n w i (h ∷ l) = store_handles (store_handle m n w i h) n w (i + 1) l

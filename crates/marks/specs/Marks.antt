-- The records of a space as an event is about to leave them, told from the words as they are. Definitions only.
-- Places count from the front: place i is slot head + i. `fs` tells for each place whether the ranges hold its record.
use Rattle.std.specs.Prelude.{ℕ, zero, suc, ◌+◌, ◌*◌, ◌/◌, Bool, true, false, cond, ◌&&◌, List, [], ◌∷◌, map, eqb, ltb, get_or, Some}
use Rattle.arith.specs.declared.time.Moment.{Moment}
use Rattle.model.specs.Sent.{standing, marked}
use Rattle.model.specs.declared.Sent.{Sent}
use Rattle.records.specs.View.{at, record_by, record_at}

-- whether a range holds the record at place i
abbrev pub flagged : List Bool → ℕ → Bool
flagged fs i = get_or fs i false

-- flags that are bytes: 1 alone is one
abbrev pub of_bytes : List ℕ → List Bool
of_bytes bs = map (λ b. eqb b 1) bs

-- the mark at place i
abbrev pub mark_of : List ℕ → ℕ → ℕ → ℕ → ℕ
mark_of m n head i = get_or m (at n (head + i) 5) 0

-- 01 'Acknowledgement (000)' 1: a record in the ranges is marked acked, and stays lost if it was
abbrev pub acked_mark : Bool → ℕ → ℕ
acked_mark b mark = cond b (mark / 2 * 2 + 1) mark

-- 01 'Lost or not': one that neither was nor is acked, before the place where the scan stops, is marked lost now
abbrev pub lost_mark : Bool → Moment → ℕ → ℕ
lost_mark b now mark = cond (b && eqb mark 0) (2 * (now.0 + 1)) mark

-- the mark at place i after step 1, and after a detection that stops at place `stop`
unfoldable pub mark_acked : List ℕ → ℕ → ℕ → List Bool → ℕ → ℕ
mark_acked m n head fs i = acked_mark (flagged fs i) (mark_of m n head i)

unfoldable pub mark_settled : List ℕ → ℕ → ℕ → List Bool → ℕ → Moment → ℕ → ℕ
unfolding mark_acked
mark_settled m n head fs stop now i = lost_mark (ltb i stop) now (mark_acked m n head fs i)

-- the record at place i as it stands, after step 1, and after a detection
abbrev pub held_at : List ℕ → ℕ → ℕ → ℕ → Sent
held_at m n head i = record_at m n (head + i)

abbrev pub acked_at : List ℕ → ℕ → ℕ → List Bool → ℕ → Sent
acked_at m n head fs i = record_by m n (head + i) (mark_acked m n head fs i)

abbrev pub settled_at : List ℕ → ℕ → ℕ → List Bool → ℕ → Moment → ℕ → Sent
settled_at m n head fs stop now i = record_by m n (head + i) (mark_settled m n head fs stop now i)

-- ---- of records and their flags: who is newly acked

-- newly acked: in the ranges, neither acked nor lost before
abbrev pub is_newly : Bool → Sent → Bool
is_newly b r = b && standing r

unfoldable pub newly_of : List Bool → List Sent → List Sent
newly_of [] l = []
newly_of (b ∷ bs) [] = []
newly_of (b ∷ bs) (r ∷ l) = cond (is_newly b r) (r ∷ newly_of bs l) (newly_of bs l)

-- the records after step 1: those in the ranges are marked acked
unfoldable pub acked_all : List Bool → List Sent → List Sent
acked_all [] l = l
acked_all (b ∷ bs) [] = []
acked_all (b ∷ bs) (r ∷ l) = cond b (marked r true r.time_lost) r ∷ acked_all bs l

-- the records after a detection that passed over the first k of them: those that stood are lost now
unfoldable pub lost_all : Moment → ℕ → List Sent → List Sent
lost_all now zero l = l
lost_all now (suc k) [] = []
lost_all now (suc k) (r ∷ l) = cond (standing r) (marked r false (Some now)) r ∷ lost_all now k l

-- the handles that a list of records queues: those that are not 0
unfoldable pub handles_of : List Sent → List ℕ
handles_of [] = []
handles_of (r ∷ l) = cond (eqb r.handle 0) (handles_of l) (r.handle ∷ handles_of l)

-- the records of a list that stand, as a detection loses them
unfoldable pub standing_of : List Sent → List Sent
standing_of [] = []
standing_of (r ∷ l) = cond (standing r) (r ∷ standing_of l) (standing_of l)

-- The packets from a place on, one turn after another. Assumes nothing.
use mathlib.Core.Bool.{true}
use mathlib.Core.List.{List}
use mathlib.Core.Path.{◌≡◌, refl, ap, ◌∙◌}
use Prim.Native.Nat.{ℕ, ◌+◌, ◌≤◌, ◌<◌}
use native.Mathlib.Numerals.{add-one}
use lib.ListN.{length, drop, get_or, drop_of_length-le}
use lib.Seq.{drop-cons}
use Rattle.arith.specs.Time.{moment}
use Rattle.model.specs.Connection.{Connection as Model}
use Rattle.model.specs.Events.{Step, on_packet_sent}
use Rattle.model.specs.Run.{Answer, done, answering, sent, state_by, step, after, run}
use Rattle.model.specs.Trace.{status_of}
use Rattle.model.specs.Trace.{packet_of}
use Rattle.plain.specs.Values.{is_sealed, values_of}
use Rattle.serve.specs.Events.{SentServed, sent_step, sent_lay}
use Rattle.serve.specs.Record.{stands_for, asked, left_by, connection_by}
use Rattle.serve.specs.declared.Connection.{Connection}
use Rattle.drive.specs.Sends.{sends, send_one, send_from, SentAll}
use Rattle.std.specs.Prelude.{Result, Ok, Err}
use Rattle.arith.specs.declared.refusal.Refusal.{Refusal}

-- ---- one event

-- what it claims of the record after it
left_one : (c : Connection) (time i size : ℕ) (r : ℕ) (c' : Connection) → SentServed c time 2 i size 7 i 7 r c' → c' ≡ send_one c time i size
unfolding send_one
left_one c time i size r c' e = e.left

-- model's connection after it
by_answer : {A : Type 0} (f : A → Answer) (d : Result (Step A) Refusal) (c : Model) → connection_by d c ≡ state_by c (answering f d)
by_answer f (Ok x) c = refl
by_answer f (Err k) c = refl

stands_one : (c : Connection) (time i size : ℕ) (r : ℕ) (c' : Connection) → is_sealed c.values ≡ true → SentServed c time 2 i size 7 i 7 r c' → stands_for c' ≡ after (sent (moment time) 2 (packet_of i size 7 i) (status_of 7)) (stands_for c)
unfolding sent_step asked after step
stands_one c time i size r c' begun e =
    (rw begun at e.stands) ∙ by_answer (λ a. done) (on_packet_sent (moment time) 2 (packet_of i size 7 i) (status_of 7) (stands_for c)) (stands_for c)

-- a record that was begun stays so
kept : (c : Connection) (time i size : ℕ) (d : Result (Step ℕ) Refusal) → is_sealed c.values ≡ true → is_sealed (left_by d (sent_lay c time 2 i size 7 i) c).values ≡ true
unfolding is_sealed values_of sent_lay
kept c time i size (Ok x) begun = refl
kept c time i size (Err k) begun = begun

begun-one : (c : Connection) (time i size : ℕ) (r : ℕ) (c' : Connection) → is_sealed c.values ≡ true → SentServed c time 2 i size 7 i 7 r c' → is_sealed c'.values ≡ true
begun-one c time i size r c' begun e = ap (λ (x : Connection). is_sealed x.values) e.left ∙ kept c time i size (sent_step c time 2 i size 7 i 7) begun

-- ---- what stands before turn i: the record after the packets below i

pub record Turn (start : Connection) (time : ℕ) (l : List ℕ) (i : ℕ) (c : Connection) : Type 0 where
  pub left : send_from c time i (drop i l) ≡ send_from start time 0 l
  pub begun : is_sealed start.values ≡ true → is_sealed c.values ≡ true
  pub stands : is_sealed start.values ≡ true → run (sends time i (drop i l)) (stands_for c) ≡ run (sends time 0 l) (stands_for start)

pub first-turn : (c : Connection) (time : ℕ) (l : List ℕ) → Turn c time l 0 c
first-turn c time l = record { left = refl; begun = λ p. p; stands = λ p. refl }

-- one turn
more_left : (c : Connection) (time i : ℕ) (l : List ℕ) → i < length l → send_from c time i (drop i l) ≡ send_from (send_one c time i (get_or l i 0)) time (i + 1) (drop (i + 1) l)
unfolding send_from
more_left c time i l h = rw (add-one, drop-cons l i 0)

more-run : (c : Model) (time i : ℕ) (l : List ℕ) → i < length l →
    run (sends time i (drop i l)) c ≡ run (sends time (i + 1) (drop (i + 1) l)) (after (sent (moment time) 2 (packet_of i (get_or l i 0) 7 i) (status_of 7)) c)
unfolding sends run
more-run c time i l h = rw (add-one, drop-cons l i 0)

pub next-turn : (start : Connection) (time : ℕ) (l : List ℕ) (i : ℕ) (c : Connection) → Turn start time l i c → i < length l →
    (size r : ℕ) (c' : Connection) → size ≡ get_or l i 0 → SentServed c time 2 i size 7 i 7 r c' → Turn start time l (i + 1) c'
next-turn start time l i c t h size r c' is e =
    record {
      left = rw (left_one c time i size r c' e, is, ← more_left c time i l h) t.left;
      begun = λ p. begun-one c time i size r c' (t.begun p) e;
      stands = λ p. rw (stands_one c time i size r c' (t.begun p) e, is, ← more-run (stands_for c) time i l h) (t.stands p);
    }

-- none is left
pub last_turn : (start : Connection) (time : ℕ) (l : List ℕ) (i : ℕ) (c : Connection) → Turn start time l i c → length l ≤ i → SentAll start time l c
unfolding send_from sends run
last_turn start time l i c t h =
    record { left = rw (← t.left, drop_of_length-le l h); stands = λ p. rw (← t.stands p, drop_of_length-le l h) }

-- What is stored for one record: its mark, if it is kept, and its handle, if it is newly acked or lost. Definitions only.
use Rattle.std.specs.Prelude.{ℕ, ◌+◌, ◌≡◌, Bool, cond, ◌&&◌, List, [], ◌∷◌, eqb, leb, ltb, length, get_or, set}
use Rattle.records.specs.View.{at}
use Rattle.marks.specs.Marks.{acked_mark}
use Rattle.records.specs.View.{store_handles}
use Rattle.commit.specs.declared.Queues.{Queues}

-- a handle that is queued: if it is chosen, and not 0
abbrev pub entry : Bool → ℕ → List ℕ
entry chosen handle = cond chosen (cond (eqb handle 0) [] (handle ∷ [])) []

-- a mark, if the record is kept
abbrev pub remark : Bool → List ℕ → ℕ → ℕ → ℕ → List ℕ
remark kept m n k mark = cond kept (set m (at n k 5) mark) m

-- a mark after step 1 and after a detection, whose stamp is the mark of one lost now
abbrev pub stamped : Bool → ℕ → ℕ → ℕ
stamped passed stamp mark = cond (passed && eqb mark 0) stamp mark

-- who is queued: the newly acked, and those that a detection loses
abbrev pub is_new : Bool → ℕ → Bool
is_new flag mark = flag && eqb mark 0

abbrev pub is_gone : ℕ → ℕ → ℕ → ℕ → Bool
is_gone i from stop mark = leb from i && (ltb i stop && eqb mark 0)

-- all that is stored for the record in slot k, at place i
pub record Turned (m : List ℕ) (n k i : ℕ) (flag : Bool) (from stop keep stamp : ℕ) (q : Queues) (after : List ℕ) (r : Queues) : Type 0 where
  pub memory :
      after
      ≡ store_handles
      (store_handles (remark (leb keep i) m n k (stamped (ltb i stop) stamp (acked_mark flag (get_or m (at n k 5) 0)))) n 0 q.acked
      (entry (is_new flag (get_or m (at n k 5) 0)) (get_or m (at n k 4) 0)))
      n 1 q.lost
      (entry (is_gone i from stop (acked_mark flag (get_or m (at n k 5) 0))) (get_or m (at n k 4) 0))
  pub acked : r.acked ≡ q.acked + length (entry (is_new flag (get_or m (at n k 5) 0)) (get_or m (at n k 4) 0))
  pub lost : r.lost ≡ q.lost + length (entry (is_gone i from stop (acked_mark flag (get_or m (at n k 5) 0))) (get_or m (at n k 4) 0))

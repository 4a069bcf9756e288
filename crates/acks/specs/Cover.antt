-- What the flags of the records that the ranges hold are, and where the last of them lies. Definitions only.
use Rattle.std.specs.Prelude.{ℕ, suc, ◌+◌, ◌≡◌, Bool, true, false, cond, List, [], ◌∷◌, ◌++◌, eqb, length, get_or, drop, replicate}
use Rattle.marks.specs.declared.Covered.{Covered}
use Rattle.model.specs.Numbers.{capacity}
use Rattle.model.specs.Sent.{place_of, count_below, covered}
use Rattle.model.specs.declared.Sent.{Sent}
use Rattle.records.specs.View.{bit}
use Rattle.acks.specs.declared.cover.Reach.{Reach}

-- the place after the last true one; 0 if none is
unfoldable pub past_last : List Bool → ℕ
past_last [] = 0
past_last (b ∷ bs) = cond (eqb (past_last bs) 0) (bit b) (suc (past_last bs))

-- for each place: true where the list is, false where it is not and past its end
pub record Flags (fs : List Bool) (bs : List Bool) : Type 0 where
  pub held : (i : ℕ) → get_or fs i false ≡ get_or bs i false
  pub size : length fs ≡ capacity

-- which of the records the ranges hold
pub record Covers (words : List ℕ) (l : List Sent) (r : Covered) : Type 0 where
  pub flags : Flags r.flags (covered words l)
  pub last : r.last ≡ past_last (covered words l)

-- ---- for the private steps

-- the records that the walk of a range adds, from a place on
pub record Walked (l : List Sent) (end place r : ℕ) (fs gs : List Bool) : Type 0 where
  pub to : r ≡ place + count_below end l
  pub flags : (bs : List Bool) → Flags fs bs → length bs ≡ place → Flags gs (bs ++ replicate (count_below end l) true)

-- what a range adds: `l` are the records left, from the place that was reached on
pub record Ranged (l : List Sent) (start end : ℕ) (w r : Reach) (fs gs : List Bool) : Type 0 where
  pub place : r.place ≡ w.place + (place_of start l + count_below end (drop (place_of start l) l))
  pub flags : (bs : List Bool) → Flags fs bs → length bs ≡ w.place →
      Flags gs (bs ++ (replicate (place_of start l) false ++ replicate (count_below end (drop (place_of start l) l)) true))
  pub last : r.last ≡ cond (eqb (count_below end (drop (place_of start l) l)) 0) w.last r.place

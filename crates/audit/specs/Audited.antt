-- What an audit's answer tells, whatever the records. 01 'Replay and the host'. Definitions only; proofs/Audited.antt proves it.
use Rattle.std.specs.Prelude.{ℕ, ◌+◌, ◌≤◌, ◌<◌, ◌≡◌, Ok, Err}
use mathlib.Core.List.{List, ◌++◌, Permᴰ}
use Rattle.arith.specs.Whole.{limit, within, sum_of}
use Rattle.model.specs.Connection.{Connection, outstanding}
use Rattle.model.specs.declared.Sent.{Sent}
use Rattle.audit.specs.Total.{total_of, all_records, added_up}
use Rattle.arith.specs.declared.refusal.Refusal.TheVariants.{TooLarge}

pub record Audited : Type 0 where
  -- a number is answered exactly where the plain sum is at most 2^53-1, and is that sum
  pub fine : (l : List Sent) (n : ℕ) → total_of l ≡ Ok n → (outstanding l ≡ n) × (n ≤ limit)
  pub fits : (l : List Sent) (n : ℕ) → outstanding l ≡ n → n ≤ limit → total_of l ≡ Ok n
  -- and over exactly where it passes that
  pub over : (l : List Sent) → total_of l ≡ (Err TooLarge) → limit < outstanding l
  pub passes : (l : List Sent) → limit < outstanding l → total_of l ≡ (Err TooLarge)
  -- one record after another, by the bounded sum, comes to the same; so does any order
  pub one_by_one : (l : List Sent) → added_up (Ok 0) l ≡ total_of l
  pub any_order : (l k : List Sent) → Permᴰ l k → total_of l ≡ total_of k
  -- totals of parts add up to the total of the whole
  pub parts : (l k : List Sent) (m n : ℕ) → total_of l ≡ Ok m → total_of k ≡ Ok n → total_of (l ++ k) ≡ sum_of m n
  -- of a connection: what its three spaces have out
  pub spaces : (c : Connection) → total_of (all_records c) ≡ within (outstanding c.initial.records + (outstanding c.handshake.records + outstanding c.application.records))

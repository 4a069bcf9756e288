-- The audit's total. 01 'Replay and the host'. Definitions only.
use Rattle.std.specs.Prelude.{List, [], ◌∷◌, ◌++◌, Result, Ok, Err, ℕ}
use Rattle.arith.specs.Whole.{within, sum_of}
use Rattle.model.specs.Connection.{Connection, outstanding}
use Rattle.model.specs.declared.Sent.{Sent}
use Rattle.arith.specs.declared.refusal.Refusal.{Refusal}
use Rattle.arith.specs.declared.refusal.Refusal.TheVariants.{TooLarge}

-- an audit totals in-flight bytes over packet records: sizes of those in flight and neither acked nor lost; or says that they pass 2^53-1
unfoldable pub total_of : List Sent → Result ℕ Refusal
total_of l = within (outstanding l)

-- the records of a connection's three spaces
unfoldable pub all_records : Connection → List Sent
all_records c = c.initial.records ++ (c.handshake.records ++ c.application.records)

-- ---- the same total, one record after another

-- with one record more; once past 2^53-1, it stays there
unfoldable pub plus_of : Result ℕ Refusal → Sent → Result ℕ Refusal
plus_of (Ok n) r = sum_of n (outstanding (r ∷ []))
plus_of (Err why) r = Err TooLarge

-- with all of these, in their order
unfoldable pub added_up : Result ℕ Refusal → List Sent → Result ℕ Refusal
unfolding plus_of
added_up total [] = total
added_up total (r ∷ l) = added_up (plus_of total r) l

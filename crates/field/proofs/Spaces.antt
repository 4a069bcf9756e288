-- The counts of a space's records and queues are those that its state has, cut at their capacity. Assumes nothing.
use mathlib.Core.Path.{◌≡◌}
use mathlib.Core.List.{List, [], ◌∷◌}
use Prim.Native.Nat.{ℕ}
use lib.ListN.{length}
use Rattle.records.proofs.Rings.{length-ring}
use Rattle.records.proofs.Laws.{length-queue}
use Rattle.records.specs.View.{record_at, records_of}
use Rattle.connection.specs.View.{space_of, count}
use Rattle.connection.specs.declared.SpaceState.{SpaceState}
use Rattle.field.specs.Words.{sentence}
use Rattle.field.specs.Inspect.{time_words, frame_words, last_words, space_words}

module _ (tag m : List ℕ) (n : ℕ) (s : SpaceState) (run : ℕ) where
  pub space-words : {sent acked ack pto : ℕ} → sent ≡ count s.len → acked ≡ count s.acked → ack ≡ count s.lost_ack → pto ≡ count s.lost_pto →
      sentence (time_words tag s.epoch ∷ frame_words tag sent acked ack pto ∷ last_words tag s.epoch run ∷ []) ≡ space_words tag (space_of m n s) run
  unfolding space_words space_of
  space-words a b c d =
      let e : length (records_of m n s.head (count s.len)) ≡ count s.len = length-ring (record_at m n) s.head (count s.len) in
      rw (e, length-queue m n 0 (count s.acked), length-queue m n 1 (count s.lost_ack), length-queue m n 2 (count s.lost_pto), a, b, c, d)

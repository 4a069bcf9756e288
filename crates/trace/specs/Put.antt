-- Bytes written into a lent buffer from a place on. Definitions only.
use Rattle.std.specs.Prelude.{ℕ, ◌+◌, min, List, ◌≡◌, length}
use Rattle.std.proofs.lemmas.List.Edits.{sets}

-- the list is written from the place on, as far as the buffer reaches, and nothing else is changed; next is the place after it
pub record Put (out : List ℕ) (at : ℕ) (l : List ℕ) (after : List ℕ) (next : ℕ) : Type 0 where
  pub bytes : after ≡ sets out at l
  pub place : next ≡ min (at + length l) (length out)

-- Bytes put behind those that a text of at most N bytes has. Definitions only.
use Rattle.std.specs.Prelude.{ℕ, ◌-◌, List, ◌++◌, ◌≡◌, length, take}

-- what does not fit is dropped
pub record Behind (N : ℕ) (t l after : List ℕ) : Type 0 where
  pub is : after ≡ t ++ take (N - length t) l

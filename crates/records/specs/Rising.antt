-- Records whose numbers rise, and the first of them that is not below a number: what the halving finds there. Definitions only.
use Rattle.std.specs.Prelude.{ℕ, ◌≤◌, ◌<◌, List, length}
use Rattle.model.specs.Sent.{number_at}
use Rattle.model.specs.declared.Sent.{Sent}

-- each number is above those before it
pub record Rising (l : List Sent) : Type 0 where
  pub rises : (i j : ℕ) → i < j → j < length l → number_at l i < number_at l j

-- the numbers before place r are below x, the one there is not
pub record First (x : ℕ) (l : List Sent) (r : ℕ) : Type 0 where
  pub inside : r ≤ length l
  pub below : (i : ℕ) → i < r → number_at l i < x
  pub above : r < length l → x ≤ number_at l r

-- What can be said of input from anywhere: of a file no contract says which bytes a read brings. Definitions only.
use Rattle.std.specs.Prelude.{ℕ, ◌≤◌, List, length, Result, IfOk}

-- the bytes counted lie in the buffer
abbrev pub Within : {E : Type 0} → Result ℕ E → List ℕ → Type 0
Within r l = IfOk r (λ n. n ≤ length l)

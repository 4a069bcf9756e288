-- The cube root, by what it is and not by how it is found. 01 'CUBIC (001)', 'The stage numbers' refusal 2. Definitions only.
use Rattle.std.specs.Prelude.{◌≡◌, ℕ, ◌+◌, ◌*◌, ◌<◌, ◌≤◌, Bool, true, false, T, ℤ, pos, negsuc, Float, Result, Ok, Err}
use Rattle.std.specs.Result.{result_unwrap_or}
use Rattle.std.specs.Float.{nan, inf, fin, binary64}
use Rattle.std.specs.Float.Ieee.{fits, le, eq}
use Rattle.arith.specs.declared.refusal.Refusal.{Refusal}
use Rattle.arith.specs.declared.refusal.Refusal.TheVariants.{Domain}

-- the exponent of a cube
abbrev pub thrice : ℤ → ℤ
thrice (pos k) = pos (3 * k)
thrice (negsuc k) = negsuc (3 * k + 2)

-- the exact cube over whole numbers, which no format need hold. 01 'CUBIC (001)'
unfoldable pub cube : Float → Float
cube nan = nan
cube (inf s) = inf s
cube (fin s m e) = fin s (m * m * m) (thrice e)

-- the largest float whose exact cube is at most x: r is a 64-bit float, its cube is at most x, and no larger float's is. 01 'CUBIC (001)'
pub record Largest (x r : Float) : Type 0 where
  pub held : T (fits binary64 r)
  pub under : T (le (cube r) x)
  pub most : (y : Float) → T (fits binary64 y) → T (le (cube y) x) → T (le y r)

-- +0. 01 'CUBIC (001)'
abbrev pub nought : Float
nought = fin false 0 (pos 0)

-- 2^-60 and 2^40. 01 'The stage numbers', refusal 2
abbrev pub least : Float
least = fin false 1 (negsuc 59)

abbrev pub greatest : Float
greatest = fin false 1 (pos 40)

-- either 0 gives +0; outside 2^-60 to 2^40, or no number, it is refused. The Bools: x is a 0, least <= x, x <= greatest. 01 'CUBIC (001)', 'The stage numbers' refusal 2
unfoldable pub Case : Bool → Bool → Bool → Float → Result Float Refusal → Type 0
Case true a b x o = o ≡ Ok nought
Case false true true x o = (r : Float) × (o ≡ Ok r) × Largest x r
Case false true false x o = o ≡ Err Domain
Case false false b x o = o ≡ Err Domain

unfoldable pub Answers : Float → Result Float Refusal → Type 0
unfolding Case
Answers x o = Case (eq x nought) (le least x) (le x greatest) x o

-- what the operation promises: the argument is a 64-bit float, as any is that it is called with, and the answer is right
pub record Rooted (x : Float) (o : Result Float Refusal) : Type 0 where
  pub given : T (fits binary64 x)
  pub right : Answers x o

-- the root, +0 where it is refused
abbrev pub root_value : Result Float Refusal → Float
root_value o = result_unwrap_or o nought

-- over whole numbers, for the code's own parts: q is the largest whose cube is at most n
pub record WholeRoot (n q : ℕ) : Type 0 where
  pub under : q * q * q ≤ n
  pub over : n < (q + 1) * (q + 1) * (q + 1)

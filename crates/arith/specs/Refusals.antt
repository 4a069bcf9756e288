-- 01 'The stage numbers': the refusals' numbers, and what a refusal does to a chain of rules. Definitions only.
use Rattle.std.specs.Prelude.{ℕ, Bool, true, false, Result, Ok, Err}
use Rattle.arith.specs.declared.refusal.Refusal.{Refusal}
use Rattle.arith.specs.declared.refusal.Refusal.TheVariants.{Clock, Domain, Stale, Ranges, Skipped, Full, TooLarge}

-- the refusal's number in 01's table; 0 is accepted
abbrev pub number_of : Refusal → ℕ
number_of Clock = 1
number_of Domain = 2
number_of Stale = 3
number_of Ranges = 4
number_of Skipped = 5
number_of Full = 6
number_of TooLarge = 7

-- the number of an answer's refusal, 0 where it is accepted
abbrev pub refusal_of : {A : Type 0} → Result A Refusal → ℕ
refusal_of (Ok a) = 0
refusal_of (Err why) = number_of why

-- one rule after another: the first refusal stands
abbrev pub then : {A B : Type 0} → Result A Refusal → (A → Result B Refusal) → Result B Refusal
then (Ok a) k = k a
then (Err why) k = Err why

-- goes on where the test holds
abbrev pub must : {A : Type 0} → Bool → Refusal → Result A Refusal → Result A Refusal
must true why r = r
must false why r = Err why

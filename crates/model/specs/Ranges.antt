-- 01's table, refusals 4 and 5; 'Acknowledgement (000)': ranges are half-open, ascending. A list of words: start, end, start, end, ... Definitions only.
use Rattle.std.specs.Prelude.{ℕ, ◌+◌, ◌-◌, ◌^◌, max, Bool, true, false, ◌&&◌, ◌||◌, List, [], ◌∷◌, leb, ltb, length, Option, Some, None}
use Rattle.model.specs.Numbers.{is_number, or_zero}

-- each start at least `least` and below its end, each end at most 2^62 and below the next start; no odd word
unfoldable pub ascending : ℕ → List ℕ → Bool
ascending least [] = true
ascending least (start ∷ []) = false
ascending least (start ∷ (end ∷ more)) =
    leb least start && (ltb start end && (leb end (2 ^ 62) && ascending (end + 1) more))

-- refusal 4 spares: at least one range, at most 64
unfoldable pub are_ranges : List ℕ → Bool
unfolding ascending
are_ranges words = ltb 0 (length words) && (leb (length words) 128 && ascending 0 words)

-- a range holds x: start <= x < end
unfoldable pub hold : List ℕ → ℕ → Bool
hold [] x = false
hold (start ∷ []) x = false
hold (start ∷ (end ∷ more)) x = (leb start x && ltb x end) || hold more x

-- refusal 5: a range holds the skipped number
abbrev pub hold_skipped : List ℕ → Option ℕ → Bool
hold_skipped words None = false
hold_skipped words (Some n) = hold words n

-- refusal 2: the skipped number is a packet number, or none
abbrev pub is_skipped : Option ℕ → Bool
is_skipped None = true
is_skipped (Some n) = is_number n

-- the last range's end
unfoldable pub last_end : List ℕ → ℕ
last_end [] = 0
last_end (start ∷ []) = 0
last_end (start ∷ (end ∷ [])) = end
last_end (start ∷ (end ∷ (s ∷ more))) = last_end (s ∷ more)

-- largest for the spurious test = max(stored or 0, last range end - 1)
unfoldable pub largest_for : Option ℕ → List ℕ → ℕ
largest_for stored words = max (or_zero stored) (last_end words - 1)

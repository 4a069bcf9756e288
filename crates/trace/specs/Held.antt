-- The ranges held, as words of an array. 01 'Replay and the host'. Definitions only.
use Rattle.std.specs.Prelude.{ℕ, ◌+◌, min, cond, List, ltb, take, set}
use Rattle.trace.specs.declared.Range.{Range}

-- 65 ranges
abbrev pub held_words : ℕ
held_words = 130

-- the words held: the first n of the array
abbrev pub firsts : ℕ → List ℕ → List ℕ
firsts n m = take (min n held_words) m

-- how many are held after one range more; a 66th is dropped
unfoldable pub count_with : ℕ → ℕ
count_with n = cond (ltb (n + 1) held_words) (n + 2) (min n held_words)

unfoldable pub words_with : List ℕ → ℕ → Range → List ℕ
words_with m n r = cond (ltb (n + 1) held_words) (set (set m n r.start) (n + 1) r.end) m

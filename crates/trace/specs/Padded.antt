-- A list in the first places of an array, and zeros behind it. Definitions, and the two laws that a type with such an array has to name to be copied.
use Rattle.std.specs.Prelude.{ℕ, ◌-◌, List, ◌++◌, ◌≡◌, ◌≤◌, length, take, drop, replicate}
use mathlib.Core.Path.{ap, sym, subst, ◌∙◌}
use lib.ListN.{take-append-drop}
use lib.Seq.{length-take-le}

-- a list and zeros behind it
abbrev pub padded : ℕ → List ℕ → List ℕ
padded size l = l ++ replicate (size - length l) 0

-- the first count places are taken; zeros stand in the others
pub record Padded (size : ℕ) (items : List ℕ) (count : ℕ) : Type 0 where
  pub inside : count ≤ size
  pub whole : length items ≡ size
  pub zeros : drop count items ≡ replicate (size - count) 0

module _ {size : ℕ} {items : List ℕ} {count : ℕ} (p : Padded size items count) where
  pub padded_length : length (take count items) ≡ count
  padded_length = length-take-le count items (subst (λ (n : ℕ). count ≤ n) (sym p.whole) p.inside)

  pub padded_items : padded size (take count items) ≡ items
  padded_items =
      ap (λ (n : ℕ). take count items ++ replicate (size - n) 0) padded_length
      ∙ (ap (λ (l : List ℕ). take count items ++ l) (sym p.zeros) ∙ take-append-drop count items)

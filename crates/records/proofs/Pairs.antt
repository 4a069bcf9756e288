-- The checks of ranges, a pair of words at a time. Assumes nothing.
use mathlib.Core.Path.{◌≡◌, refl, ap, sym, ◌∙◌}
use mathlib.Core.Bool.{Bool, true, false}
use mathlib.Core.List.{List, [], ◌∷◌}
use Prim.Native.Nat.{ℕ, suc, ◌+◌, ◌-◌, ◌^◌, ◌≤◌, ◌<◌, ◌%◌}
use native.Mathlib.Omega.{arith}
use lib.ListN.{length, get_or, take, drop, length-drop}
use Rattle.std.proofs.lemmas.List.{take_all}
use borrow.Author.Tests.{le-leb, lt-leb, lt-ltb, le-ltb}
use Rattle.model.specs.Ranges.{ascending, are_ranges, hold, last_end}

-- what a loop goes on with
abbrev pub past_two : List ℕ → List ℕ
past_two l = take (length l - 2) (drop 2 l)

pub past_two_is : (l : List ℕ) → past_two l ≡ drop 2 l
past_two_is l = take_all (length l - 2) (drop 2 l) (rw length-drop (omega arith))

two : (l : List ℕ) → 2 ≤ length l → l ≡ get_or l 0 0 ∷ (get_or l 1 0 ∷ past_two l)
two [] le = absurd (let z : ⊥ = omega arith in z)
two (s ∷ []) le = absurd (let z : ⊥ = omega arith in z)
two (s ∷ (e ∷ l)) le = ap (λ (k : List ℕ). s ∷ (e ∷ k)) (sym (take_all (suc (suc (length l)) - 2) l (omega arith)))

-- ---- whether a range holds x
pub hold_end : (l : List ℕ) (x : ℕ) → length l ≤ 1 → hold l x ≡ false
unfolding hold
hold_end [] x le = refl
hold_end (s ∷ []) x le = refl
hold_end (s ∷ (e ∷ l)) x le = absurd (let z : ⊥ = omega arith in z)

module _ (l : List ℕ) (x : ℕ) {b : Bool} (le : 2 ≤ length l) (inv : hold l x ≡ b) where
  pub hold_hit : get_or l 0 0 ≤ x → x < get_or l 1 0 → true ≡ b
  unfolding hold
  hold_hit lo hi = rw (two l le, le-leb _ _ lo, lt-ltb _ _ hi) at inv

  pub hold_low : x < get_or l 0 0 → hold (past_two l) x ≡ b
  unfolding hold
  hold_low lo = rw (two l le, lt-leb _ _ lo) at inv

  pub hold_high : get_or l 0 0 ≤ x → get_or l 1 0 ≤ x → hold (past_two l) x ≡ b
  unfolding hold
  hold_high lo hi = rw (two l le, le-leb _ _ lo, le-ltb _ _ hi) at inv

-- ---- whether the ranges ascend
pub ascending_end : (least : ℕ) (l : List ℕ) {b : Bool} → ascending least l ≡ b → length l ≤ 0 → true ≡ b
unfolding ascending
ascending_end least [] inv le = inv
ascending_end least (s ∷ l) inv le = absurd (let z : ⊥ = omega arith in z)

pub ascending_odd : (least : ℕ) (l : List ℕ) {b : Bool} → ascending least l ≡ b → 0 < length l → length l ≤ 1 → false ≡ b
unfolding ascending
ascending_odd least [] inv lt le = absurd (let z : ⊥ = omega arith in z)
ascending_odd least (s ∷ []) inv lt le = inv
ascending_odd least (s ∷ (e ∷ l)) inv lt le = absurd (let z : ⊥ = omega arith in z)

module _ (least : ℕ) (l : List ℕ) {b : Bool} (le : 2 ≤ length l) (inv : ascending least l ≡ b) where
  pub ascending_low : get_or l 0 0 < least → false ≡ b
  unfolding ascending
  ascending_low p = rw (two l le, lt-leb _ _ p) at inv

  pub ascending_turned : least ≤ get_or l 0 0 → get_or l 1 0 ≤ get_or l 0 0 → false ≡ b
  unfolding ascending
  ascending_turned p q = rw (two l le, le-leb _ _ p, le-ltb _ _ q) at inv

  pub ascending_far : least ≤ get_or l 0 0 → get_or l 0 0 < get_or l 1 0 → 2 ^ 62 < get_or l 1 0 → false ≡ b
  unfolding ascending
  ascending_far p q h = rw (two l le, le-leb _ _ p, lt-ltb _ _ q, lt-leb _ _ h) at inv

  pub ascending_on : least ≤ get_or l 0 0 → get_or l 0 0 < get_or l 1 0 → get_or l 1 0 ≤ 2 ^ 62 → ascending (get_or l 1 0 + 1) (past_two l) ≡ b
  unfolding ascending
  ascending_on p q h = rw (two l le, le-leb _ _ p, lt-ltb _ _ q, le-leb _ _ h) at inv

-- ---- at least one range, at most 64
pub ranges_none : (l : List ℕ) → length l ≡ 0 → false ≡ are_ranges l
unfolding are_ranges
ranges_none l z = rw z

pub ranges_many : (l : List ℕ) → 128 < length l → false ≡ are_ranges l
unfolding are_ranges
ranges_many l p = let q : 0 < length l = omega arith in rw (lt-ltb _ _ q, lt-leb _ _ p)

pub ranges_by : (l : List ℕ) {b : Bool} → (length l ≡ 0 → ⊥) → length l ≤ 128 → b ≡ ascending 0 l → b ≡ are_ranges l
unfolding are_ranges
ranges_by l z p e = let q : 0 < length l = omega arith in rw (lt-ltb _ _ q, le-leb _ _ p) e

-- ---- the last end
pub last_none : (l : List ℕ) → length l ≡ 0 → 0 ≡ last_end l
unfolding last_end
last_none [] e = refl
last_none (s ∷ l) e = absurd (let z : ⊥ = omega arith in z)

pub last_odd : (l : List ℕ) → (length l % 2 ≡ 0 → ⊥) → 0 ≡ last_end l
unfolding last_end
last_odd [] e = refl
last_odd (s ∷ []) e = refl
last_odd (s ∷ (e ∷ [])) h = absurd (h (omega arith))
last_odd (s ∷ (e ∷ (t ∷ l))) h = last_odd (t ∷ l) (λ k. h (omega arith))

last-even : (l : List ℕ) → length l % 2 ≡ 0 → get_or l (length l - 1) 0 ≡ last_end l
unfolding last_end
last-even [] e = refl
last-even (s ∷ []) h = absurd (let z : ⊥ = omega arith in z)
last-even (s ∷ (e ∷ [])) h = refl
last-even (s ∷ (e ∷ (t ∷ l))) h =
    let i : suc (suc (suc (length l))) - 1 ≡ suc (suc (suc (length l) - 1)) = omega arith in
    rw i (last-even (t ∷ l) (omega arith))

pub last_even : (l : List ℕ) {v : ℕ} → length l % 2 ≡ 0 → v ≡ get_or l (length l - 1) 0 → v ≡ last_end l
last_even l h e = e ∙ last-even l h

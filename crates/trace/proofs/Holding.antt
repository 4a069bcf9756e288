-- The words held are the ranges that the model holds. Assumes nothing.
use mathlib.Core.Logic.{⊎_elim}
use mathlib.Core.Path.{◌≡◌, refl, ap, ◌∙◌}
use mathlib.Core.List.{List, [], ◌∷◌, ◌++◌, append_assoc}
use Prim.Native.Nat.{ℕ, suc, ◌+◌, ◌-◌, ◌%◌, ◌≤◌, ◌<◌, min}
use native.Mathlib.Nat.{eq-zero-or-pos}
use native.Mathlib.Omega.{arith}
use borrow.Author.Tests.{lt-ltb, le-ltb}
use lib.ListN.{length, take, drop, set, length-take, length-set}
use lib.Seq.{take-suc-set, drop-set-lt}
use Rattle.trace.specs.Reading.{held_with}
use Rattle.trace.specs.Held.{firsts, count_with, words_with}
use Rattle.trace.specs.Padded.{Padded}
use Rattle.trace.specs.declared.Range.{Range}
use Rattle.trace.proofs.Padding.{padded_more}

module _ (m : List ℕ) (n : ℕ) (r : Range) where
  pub hold-room : n < 129 → (n + 2 ≡ count_with n) × (set (set m n r.start) (n + 1) r.end ≡ words_with m n r)
  unfolding count_with words_with
  hold-room lt = let h : n + 1 < 130 = omega arith in (rw (lt-ltb _ _ h), rw (lt-ltb _ _ h))

  pub hold-full : (k : ℕ) → 129 ≤ n → k ≡ min n 130 → (k ≡ count_with n) × (m ≡ words_with m n r)
  unfolding count_with words_with
  hold-full k le e = let h : 130 ≤ n + 1 = omega arith in (rw (le-ltb _ _ h) e, rw (le-ltb _ _ h))

-- ---- the words held are the model's

firsts-room : (m : List ℕ) (n a b : ℕ) → n + 1 < length m → take (n + 2) (set (set m n a) (n + 1) b) ≡ take n m ++ (a ∷ (b ∷ []))
firsts-room m n a b lt =
    let e : n + 2 ≡ suc (n + 1) = omega arith in
    let f : n + 1 ≡ suc n = omega arith in
    let h : n + 1 < length (set m n a) = rw (length-set m n a) lt in
    let k : n < length m = omega arith in
    let p : take (n + 2) (set (set m n a) (n + 1) b) ≡ take (n + 1) (set m n a) ++ (b ∷ []) = rw e (take-suc-set (set m n a) (n + 1) b h) in
    let q : take (n + 1) (set m n a) ≡ take n m ++ (a ∷ []) = rw f (take-suc-set m n a k) in
    p ∙ (ap (λ (l : List ℕ). l ++ (b ∷ [])) q ∙ append_assoc (take n m) (a ∷ []) (b ∷ []))

module _ (m : List ℕ) (n : ℕ) (r : Range) (whole : length m ≡ 130) where
  pub held_room : n < 129 → take (n + 2) (set (set m n r.start) (n + 1) r.end) ≡ held_with (take n m) r
  unfolding held_with
  held_room lt =
      let f : length (take n m) < 130 = rw (length-take n m) (omega arith) in
      rw (lt-ltb (length (take n m)) 130 f) (firsts-room m n r.start r.end (omega arith))

  pub held_full : 130 ≤ n → take n m ≡ held_with (take n m) r
  unfolding held_with
  held_full le =
      let f : 130 ≤ length (take n m) = rw (length-take n m) (omega arith) in
      rw (le-ltb (length (take n m)) 130 f)

-- as long as they come in pairs
module _ (m : List ℕ) (n : ℕ) (r : Range) (whole : length m ≡ 130) (even : n % 2 ≡ 0) where
  count_room : n ≤ 128 → count_with n % 2 ≡ 0
  count_room le = let e : n + 2 ≡ count_with n = (hold-room m n r (omega arith)).0 in omega arith

  count-full : 129 ≤ n → count_with n % 2 ≡ 0
  count-full le = let e : 130 ≡ count_with n = (hold-full m n r 130 le (omega arith)).0 in omega arith

  pub count-even : count_with n % 2 ≡ 0
  count-even = ⊎_elim (λ z. count_room (omega arith)) (λ pos. count-full (omega arith)) (eq-zero-or-pos (n - 128))

  holds-room : n ≤ 128 → firsts (count_with n) (words_with m n r) ≡ held_with (firsts n m) r
  holds-room le =
      let e = hold-room m n r (omega arith) in
      let c : min (n + 2) 130 ≡ n + 2 = omega arith in
      let d : min n 130 ≡ n = omega arith in
      rw (← e.0, ← e.1, c, d) (held_room m n r whole (omega arith))

  holds-full : 129 ≤ n → firsts (count_with n) (words_with m n r) ≡ held_with (firsts n m) r
  holds-full le =
      let e = hold-full m n r 130 le (omega arith) in
      let d : min n 130 ≡ 130 = omega arith in
      rw (← e.0, ← e.1, d) (held_full m 130 r whole (omega arith))

  pub holds : firsts (count_with n) (words_with m n r) ≡ held_with (firsts n m) r
  holds = ⊎_elim (λ z. holds-room (omega arith)) (λ pos. holds-full (omega arith)) (eq-zero-or-pos (n - 128))

-- an ack leaves none
pub holds-none : (m : List ℕ) → firsts 0 m ≡ []
holds-none m = refl

-- ---- an array of words held, and zeros behind them

module _ {m : List ℕ} {n : ℕ} (p : Padded 130 m n) (even : n % 2 ≡ 0) (r : Range) where
  stays_room : n ≤ 128 → Padded 130 (words_with m n r) (count_with n)
  stays_room le =
      let e = hold-room m n r (omega arith) in
      let a : drop (n + 2) (set (set m n r.start) (n + 1) r.end) ≡ drop (n + 2) (set m n r.start) = drop-set-lt (n + 2) (set m n r.start) (n + 1) r.end (omega arith) in
      let b : drop (n + 2) (set m n r.start) ≡ drop (n + 2) m = drop-set-lt (n + 2) m n r.start (omega arith) in
      let size : length (set (set m n r.start) (n + 1) r.end) ≡ 130 = rw (length-set, length-set) p.whole in
      rw (← e.0, ← e.1) (padded_more p (omega arith) (omega arith) size (a ∙ b))

  stays_full : 129 ≤ n → Padded 130 (words_with m n r) (count_with n)
  stays_full le =
      let e = hold-full m n r n le (omega arith) in
      rw (← e.0, ← e.1) p

  pub held_stays : Padded 130 (words_with m n r) (count_with n) × (count_with n % 2 ≡ 0)
  held_stays = (⊎_elim (λ z. stays_room (omega arith)) (λ pos. stays_full (omega arith)) (eq-zero-or-pos (n - 128)), count-even m n r p.whole even)

  pub held_more : take (count_with n) (words_with m n r) ≡ held_with (take n m) r
  held_more =
      let inside : min (count_with n) 130 ≡ count_with n = let s = held_stays.0 in omega (arith, s.inside) in
      let before : min n 130 ≡ n = omega (arith, p.inside) in
      rw (inside, before) at (holds m n r p.whole even)

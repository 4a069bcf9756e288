-- The halving search: how often it halves does not matter, a half at a time, what it finds in a memory, and among numbers that rise. Assumes nothing.
use mathlib.Core.Path.{◌≡◌, refl, ap, sym, ◌∙◌}
use mathlib.Core.Bool.{Bool, true, false, cond, ◌&&◌}
use mathlib.Core.List.{List}
use mathlib.Core.Logic.{◌⊎◌, inl, inr, ⊎_elim}
use Prim.Native.Nat.{ℕ, zero, suc, ◌+◌, ◌-◌, ◌/◌, ◌≤◌, ◌<◌}
use native.Mathlib.Nat.{eq-zero-or-pos, add-zero}
use native.Mathlib.Decide.{dec_lt}
use native.Mathlib.Omega.{arith}
use borrow.Author.Tests.{lt-ltb, le-ltb}
use lib.Dec.{ltb}
use lib.ListN.{length, get_or}
use Rattle.model.specs.Sent.{halved, place_of, number_at}
use Rattle.model.specs.declared.Sent.{Sent}
use Rattle.records.specs.Rising.{Rising, First}
use Rattle.records.specs.View.{at, record_at, ring, records_of, number_in}
use Rattle.records.proofs.Rings.{length-ring}
use Rattle.records.proofs.Laws.{record-number}

pub lt-or-ge : (a b : ℕ) → (a < b) ⊎ (b ≤ a)
lt-or-ge a b = elim (dec_lt a b) [ yes h ↦ inl h | no h ↦ inr (omega arith) ]

module _ (f : ℕ → ℕ) (x : ℕ) where
  -- no place: nothing is halved
  pub halved_none : (k lo : ℕ) → halved k f x lo 0 ≡ lo
  unfolding halved
  halved_none zero lo = refl
  halved_none (suc k) lo = halved_none k lo

  none-at : (k lo width : ℕ) → width ≤ 0 → halved k f x lo width ≡ lo
  none-at k lo width z = let e : width ≡ 0 = omega arith in ap (halved k f x lo) e ∙ halved_none k lo

  -- the bound on how often does not matter once it is at least the width
  pub halved-bound : (k j lo width : ℕ) → width ≤ k → width ≤ j → halved k f x lo width ≡ halved j f x lo width
  unfolding halved
  halved-bound zero j lo width p q = none-at zero lo width p ∙ sym (none-at j lo width p)
  halved-bound (suc k) zero lo width p q = none-at (suc k) lo width q ∙ sym (none-at zero lo width q)
  halved-bound (suc k) (suc j) lo width p q =
      let b = ltb 0 width && ltb (f (lo + width / 2)) x in
      halved-bound k j (cond b (lo + width / 2 + 1) lo) (cond b (width - width / 2 - 1) (width / 2)) (less b k p) (less b j q)
    where
      less : (b : Bool) (k : ℕ) → width ≤ suc k → cond b (width - width / 2 - 1) (width / 2) ≤ k
      less true k p = omega arith
      less false k p = omega arith

  -- one halving, by whether the number in the middle is below x
  abbrev half : ℕ → ℕ → ℕ → Bool → ℕ
  half k lo width b = halved k f x (cond b (lo + width / 2 + 1) lo) (cond b (width - width / 2 - 1) (width / 2))

  halved-step : (lo width : ℕ) → 0 < width → halved width f x lo width ≡ half (width - 1) lo width (ltb 0 width && ltb (f (lo + width / 2)) x)
  unfolding halved
  halved-step lo width pos = let e : width ≡ suc (width - 1) = omega arith in ap (λ (k : ℕ). halved k f x lo width) e

  module _ (lo width : ℕ) (pos : 0 < width) where
    -- the upper half
    pub halved-past : f (lo + width / 2) < x → halved width f x lo width ≡ halved (width - width / 2 - 1) f x (lo + width / 2 + 1) (width - width / 2 - 1)
    halved-past lt =
        let e : (ltb 0 width && ltb (f (lo + width / 2)) x) ≡ true = rw (lt-ltb 0 width pos, lt-ltb (f (lo + width / 2)) x lt) in
        halved-step lo width pos
        ∙ ap (half (width - 1) lo width) e
        ∙ halved-bound (width - 1) (width - width / 2 - 1) (lo + width / 2 + 1) (width - width / 2 - 1) (omega arith) (omega arith)

    -- the lower half
    pub halved-left : x ≤ f (lo + width / 2) → halved width f x lo width ≡ halved (width / 2) f x lo (width / 2)
    halved-left le =
        let e : (ltb 0 width && ltb (f (lo + width / 2)) x) ≡ false = rw (lt-ltb 0 width pos, le-ltb (f (lo + width / 2)) x le) in
        halved-step lo width pos
        ∙ ap (half (width - 1) lo width) e
        ∙ halved-bound (width - 1) (width / 2) lo (width / 2) (omega arith) (omega arith)

-- only the numbers of the places matter
pub halved-ext : (f g : ℕ → ℕ) (x k lo width : ℕ) → ((i : ℕ) → lo ≤ i → i < lo + width → f i ≡ g i) → halved k f x lo width ≡ halved k g x lo width
unfolding halved
halved-ext f g x zero lo width p = refl
halved-ext f g x (suc k) lo width p =
    ⊎_elim
    (λ z. none-at f x (suc k) lo width (omega arith) ∙ sym (none-at g x (suc k) lo width (omega arith)))
    (λ pos.
    let e = p (lo + width / 2) (omega arith) (omega arith) in
    rw e
    (go
    (halved-ext f g x k (lo + width / 2 + 1) (width - width / 2 - 1) (λ i l r. p i (omega arith) (omega arith)))
    (halved-ext f g x k lo (width / 2) (λ i l r. p i l (omega arith)))
    (ltb 0 width && ltb (g (lo + width / 2)) x)))
    (eq-zero-or-pos width)
  where
    go :
        halved k f x (lo + width / 2 + 1) (width - width / 2 - 1) ≡ halved k g x (lo + width / 2 + 1) (width - width / 2 - 1) →
        halved k f x lo (width / 2) ≡ halved k g x lo (width / 2) →
        (b : Bool) → half f x k lo width b ≡ half g x k lo width b
    go upper lower true = upper
    go upper lower false = lower

-- ---- in a memory
pub number-ring : (m : List ℕ) (n head len i : ℕ) → i < len → number_at (records_of m n head len) i ≡ number_in m n head i
unfolding number_at ring
number-ring m n head zero i lt = absurd (let z : ⊥ = omega arith in z)
number-ring m n head (suc len) zero lt = record-number m n head ∙ ap (λ (k : ℕ). get_or m (at n k 0) 0) (sym (add-zero head))
number-ring m n head (suc len) (suc i) lt =
    let e : head + 1 + i ≡ head + suc i = omega arith in
    number-ring m n (head + 1) len i (omega arith) ∙ rw e

pub place_memory : (m : List ℕ) (n head len x : ℕ) {r : ℕ} → r ≡ halved len (number_in m n head) x 0 len → r ≡ place_of x (records_of m n head len)
unfolding place_of
place_memory m n head len x e = e ∙ sym (rw (length-ring (record_at m n) head len) (halved-ext (number_at (records_of m n head len)) (number_in m n head) x len 0 len (λ i l r. number-ring m n head len i (omega arith))))

-- ---- among numbers that rise

-- what a search among the places from lo on finds
record Among (f : ℕ → ℕ) (x lo width r : ℕ) : Type 0 where
  from : lo ≤ r
  to : r ≤ lo + width
  below : (i : ℕ) → lo ≤ i → i < r → f i < x
  above : (i : ℕ) → r ≤ i → i < lo + width → x ≤ f i

module _ (f : ℕ → ℕ) (x top : ℕ) (rises : (i j : ℕ) → i < j → j < top → f i < f j) where
  upper : (lo width r : ℕ) → 0 < width → lo + width ≤ top → f (lo + width / 2) < x → Among f x (lo + width / 2 + 1) (width - width / 2 - 1) r → Among f x lo width r
  upper lo width r pos le lt a =
      record {
        from = omega (arith, a.from);
        to = omega (arith, a.to);
        below = λ i p q. ⊎_elim
            (λ l. let h = rises i (lo + width / 2) l (omega arith) in omega arith)
            (λ l. ⊎_elim (λ k. a.below i (omega arith) q) (λ k. let e : i ≡ lo + width / 2 = omega arith in rw e lt) (lt-or-ge (lo + width / 2) i))
            (lt-or-ge i (lo + width / 2));
        above = λ i p q. a.above i p (omega arith);
      }

  lower : (lo width r : ℕ) → 0 < width → lo + width ≤ top → x ≤ f (lo + width / 2) → Among f x lo (width / 2) r → Among f x lo width r
  lower lo width r pos le ge a =
      record {
        from = a.from;
        to = omega (arith, a.to);
        below = a.below;
        above = λ i p q. ⊎_elim
            (λ l. a.above i p l)
            (λ l. ⊎_elim (λ k. let h = rises (lo + width / 2) i k (omega arith) in omega arith) (λ k. let e : i ≡ lo + width / 2 = omega arith in rw e ge) (lt-or-ge (lo + width / 2) i))
            (lt-or-ge i (lo + width / 2));
      }

  found : (k lo width : ℕ) → width ≤ k → lo + width ≤ top → Among f x lo width (halved k f x lo width)
  found zero lo width p q =
      rw (none-at f x zero lo width p) (record { from = omega arith; to = omega arith; below = λ i a b. absurd (let z : ⊥ = omega arith in z); above = λ i a b. absurd (let z : ⊥ = omega arith in z) })
  found (suc k) lo width p q =
      ⊎_elim
      (λ z.
      rw (none-at f x (suc k) lo width (omega arith))
      (record { from = omega arith; to = omega arith; below = λ i a b. absurd (let z : ⊥ = omega arith in z); above = λ i a b. absurd (let z : ⊥ = omega arith in z) }))
      (λ pos. ⊎_elim
      (λ lt.
      rw (halved-bound f x (suc k) width lo width p (omega arith), halved-past f x lo width pos lt, halved-bound f x (width - width / 2 - 1) k (lo + width / 2 + 1) (width - width / 2 - 1) (omega arith) (omega arith))
      (upper lo width _ pos q lt (found k (lo + width / 2 + 1) (width - width / 2 - 1) (omega arith) (omega arith))))
      (λ le.
      rw (halved-bound f x (suc k) width lo width p (omega arith), halved-left f x lo width pos le, halved-bound f x (width / 2) k lo (width / 2) (omega arith) (omega arith))
      (lower lo width _ pos q le (found k lo (width / 2) (omega arith) (omega arith))))
      (lt-or-ge (f (lo + width / 2)) x))
      (eq-zero-or-pos width)

-- the halving finds the first record that is not below x
pub place-first : (x : ℕ) (l : List Sent) → Rising l → First x l (place_of x l)
unfolding place_of
place-first x l rising =
    let a = found (number_at l) x (length l) rising.rises (length l) 0 (length l) (omega arith) (omega arith) in
    record { inside = omega (arith, a.to); below = λ i lt. a.below i (omega arith) lt; above = λ lt. a.above _ (omega arith) (omega arith) }

-- ---- a turn of the recursion
module _ (f : ℕ → ℕ) (x lo width : ℕ) where
  pub halved_empty : width ≡ 0 → lo ≡ halved width f x lo width
  halved_empty z = sym (none-at f x width lo width (omega arith))

  module _ {v r : ℕ} (some : width ≡ 0 → ⊥) (e : v ≡ f (lo + width / 2)) where
    pub place_past : v < x → r ≡ halved (width - width / 2 - 1) f x (lo + width / 2 + 1) (width - width / 2 - 1) → r ≡ halved width f x lo width
    place_past lt g = g ∙ sym (halved-past f x lo width (omega arith) (omega arith))

    pub place_left : x ≤ v → r ≡ halved (width / 2) f x lo (width / 2) → r ≡ halved width f x lo width
    place_left le g = g ∙ sym (halved-left f x lo width (omega arith) (omega arith))

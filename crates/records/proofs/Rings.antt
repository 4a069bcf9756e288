-- What a ring gives, place by place, for any capacity and any elements. Assumes nothing.
use mathlib.Core.Path.{◌≡◌, refl, sym, ap, ◌∙◌}
use mathlib.Core.List.{List, [], ◌∷◌, ◌++◌}
use mathlib.Core.Logic.{◌≢◌, ⊎_elim}
use Prim.Native.Nat.{ℕ, zero, suc, ◌+◌, ◌-◌, ◌≤◌, ◌<◌, ◌%◌}
use native.Mathlib.Nat.{mod-eq_of_lt, mod-add-mod, mod-lt, mod-eq-sub-mod, add-zero, zero-add, suc-add, eq-zero-or-pos}
use native.Mathlib.Omega.{arith}
use lib.ListN.{length, take, drop}
use lib.Seq.{take_at, drop_at}
use Rattle.records.specs.View.{ring}

-- two places less than a whole round apart differ
pub apart : (cap a k : ℕ) → 0 < k → k < cap → a % cap ≢ (a + k) % cap
apart cap a k pos lt e =
    let m : a % cap < cap = mod-lt a (omega arith) in
    let e' : a % cap ≡ (a % cap + k) % cap = e ∙ sym (mod-add-mod a cap k) in
    ⊎_elim
    (λ z.
    let up : cap ≤ a % cap + k = omega arith in
    let w : (a % cap + k) % cap ≡ a % cap + k - cap = mod-eq-sub-mod up ∙ mod-eq_of_lt (omega arith) in
    omega arith)
    (λ z. let w : (a % cap + k) % cap ≡ a % cap + k = mod-eq_of_lt (omega arith) in omega arith)
    (eq-zero-or-pos (cap - (a % cap + k)))

-- two of at most `cap` places from h on differ
pub places-apart : (cap h i j : ℕ) → i < j → j < cap → (h + i) % cap ≢ (h + j) % cap
places-apart cap h i j l r =
    let e : h + i + (j - i) ≡ h + j = omega arith in
    rw e at (apart cap (h + i) (j - i) (omega arith) (omega arith))

module _ {A : Type 0} (f : ℕ → A) where
  pub ring-end : (h n : ℕ) → n ≤ 0 → ring f h n ≡ []
  unfolding ring
  ring-end h n z = let e : n ≡ zero = omega arith in ap (ring f h) e

  -- the first place, and the others
  pub ring-step : (h n : ℕ) → 0 < n → ring f h n ≡ f h ∷ ring f (h + 1) (n - 1)
  unfolding ring
  ring-step h n pos = let e : n ≡ suc (n - 1) = omega arith in ap (ring f h) e

  pub ring-split : (h m k : ℕ) → ring f h (m + k) ≡ ring f h m ++ ring f (h + m) k
  unfolding ring
  ring-split h zero k = rw (zero-add, add-zero)
  ring-split h (suc m) k =
      let e : h + 1 + m ≡ h + suc m = omega arith in
      rw (suc-add, ← e) (ap (λ (l : List A). f h ∷ l) (ring-split (h + 1) m k))

  pub ring-one : (h : ℕ) → ring f h 1 ≡ f h ∷ []
  unfolding ring
  ring-one h = refl

  -- one place more
  pub ring-snoc : (h n : ℕ) → ring f h (n + 1) ≡ ring f h n ++ (f (h + n) ∷ [])
  ring-snoc h n = ring-split h n 1 ∙ ap (λ (l : List A). ring f h n ++ l) (ring-one (h + n))

  pub length-ring : (h n : ℕ) → length (ring f h n) ≡ n
  unfolding ring
  length-ring h zero = refl
  length-ring h (suc n) = ap suc (length-ring (h + 1) n)

  pub ring-take : (h a n : ℕ) → a ≤ n → take a (ring f h n) ≡ ring f h a
  ring-take h a n le =
      let e : n ≡ a + (n - a) = omega arith in
      ap (λ (k : ℕ). take a (ring f h k)) e ∙ ap (take a) (ring-split h a (n - a)) ∙ take_at (ring f h a) (ring f (h + a) (n - a)) a (length-ring h a)

  -- what is left when the first a places are dropped
  pub ring-drop : (h a n : ℕ) → a ≤ n → drop a (ring f h n) ≡ ring f (h + a) (n - a)
  ring-drop h a n le =
      let e : n ≡ a + (n - a) = omega arith in
      ap (λ (k : ℕ). drop a (ring f h k)) e ∙ ap (drop a) (ring-split h a (n - a)) ∙ drop_at (ring f h a) (ring f (h + a) (n - a)) a (length-ring h a)

  -- before, at and after place i
  pub ring-around : (h i n : ℕ) → i < n → ring f h n ≡ ring f h i ++ (f (h + i) ∷ ring f (h + i + 1) (n - (i + 1)))
  ring-around h i n lt =
      let e : n ≡ i + (n - i) = omega arith in
      let d : n - i - 1 ≡ n - (i + 1) = omega arith in
      ap (ring f h) e ∙ ring-split h i (n - i) ∙ rw (ring-step (h + i) (n - i) (omega arith), d) refl

-- equal at each place, equal
pub ring-ext : {A : Type 0} (f g : ℕ → A) (h n : ℕ) → ((i : ℕ) → i < n → f (h + i) ≡ g (h + i)) → ring f h n ≡ ring g h n
unfolding ring
ring-ext f g h zero p = refl
ring-ext f g h (suc n) p =
    let a : f h ≡ g h = rw add-zero at (p 0 (omega arith)) in
    let b : ring f (h + 1) n ≡ ring g (h + 1) n = ring-ext f g (h + 1) n (λ i lt. let e : h + 1 + i ≡ h + (suc i) = omega arith in rw e (p (suc i) (omega arith))) in
    cc

-- two rings that agree place by place, from two heads
ring-shift : {A : Type 0} (f : ℕ → A) (a b n : ℕ) → ((i : ℕ) → f (a + i) ≡ f (b + i)) → ring f a n ≡ ring f b n
unfolding ring
ring-shift f a b zero p = refl
ring-shift f a b (suc n) p =
    let x : f a ≡ f b = sym (ap f (add-zero a)) ∙ p 0 ∙ ap f (add-zero b) in
    let y : ring f (a + 1) n ≡ ring f (b + 1) n =
    ring-shift f (a + 1) (b + 1) n (λ i. let e : a + 1 + i ≡ a + (suc i) = omega arith in let d : b + 1 + i ≡ b + (suc i) = omega arith in rw (e, d) (p (suc i))) in
    cc

-- the head may be taken round the ring
pub ring-mod : {A : Type 0} (f : ℕ → A) (cap : ℕ) → ((k : ℕ) → f (k % cap) ≡ f k) → (h n : ℕ) → ring f (h % cap) n ≡ ring f h n
ring-mod f cap round h n = ring-shift f (h % cap) h n (λ i. sym (round (h % cap + i)) ∙ ap f (mod-add-mod h cap i) ∙ round (h + i))

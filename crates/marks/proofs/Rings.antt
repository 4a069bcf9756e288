-- Records, flags and marks over the places of a space, as rings: places taken round, the marks of step 1, and who is newly acked. For callers. Assumes nothing.
use mathlib.Core.Path.{◌≡◌, refl, ap, sym, ◌∙◌}
use mathlib.Core.Bool.{Bool, true, false, cond}
use mathlib.Core.List.{List, [], ◌∷◌, ◌++◌, append-nil}
use Prim.Native.Nat.{ℕ, zero, suc, ◌+◌, ◌-◌, ◌%◌, ◌≤◌, ◌<◌}
use native.Mathlib.Nat.{mod-add-mod}
use native.Mathlib.Omega.{arith}
use lib.ListN.{length}
use Rattle.model.specs.Numbers.{capacity}
use Rattle.model.specs.Sent.{marked}
use Rattle.model.specs.declared.Sent.{Sent}
use Rattle.records.specs.View.{record_by, record_at, ring, records_of}
use Rattle.records.proofs.Laws.{record-mod, record-by, record-acked}
use Rattle.records.proofs.Rings.{ring-step, ring-split, ring-ext, length-ring}
use Rattle.marks.specs.Marks.{flagged, mark_of, acked_mark, mark_acked, held_at, acked_at, is_newly, newly_of, acked_all}

-- ---- places taken round
module _ (m : List ℕ) (n head : ℕ) where
  pub held-round : (i : ℕ) → held_at m n (head % capacity) i ≡ held_at m n head i
  held-round i = sym (record-mod m n (head % capacity + i)) ∙ ap (record_at m n) (mod-add-mod head capacity i) ∙ record-mod m n (head + i)

  pub held-rounds : (a c : ℕ) → ring (held_at m n (head % capacity)) a c ≡ ring (held_at m n head) a c
  held-rounds a c = ring-ext (held_at m n (head % capacity)) (held_at m n head) a c (λ i lt. held-round (a + i))

  -- the records from place a on are those from slot head + a on
  pub held-ring : (a c : ℕ) → ring (held_at m n head) a c ≡ records_of m n (head + a) c
  unfolding ring
  held-ring a zero = refl
  held-ring a (suc c) =
      let e : head + (a + 1) ≡ head + a + 1 = omega arith in
      let b : ring (held_at m n head) (a + 1) c ≡ records_of m n (head + a + 1) c = held-ring (a + 1) c ∙ ap (λ (k : ℕ). records_of m n k c) e in
      ap (λ (l : List Sent). record_at m n (head + a) ∷ l) b

  pub held-records : (c : ℕ) → ring (held_at m n head) 0 c ≡ records_of m n head c
  held-records c = let e : head + 0 ≡ head = omega arith in held-ring 0 c ∙ ap (λ (k : ℕ). records_of m n k c) e

-- ---- the marks of step 1
module _ (m : List ℕ) (n head : ℕ) (fs : List Bool) where
  acked-one : (i : ℕ) (b : Bool) →
      cond b (marked (held_at m n head i) true (held_at m n head i).time_lost) (held_at m n head i)
      ≡ record_by m n (head + i) (acked_mark b (mark_of m n head i))
  acked-one i true =
      rw (record-by m n (head + i)) (sym (record-acked m n (head + i) (mark_of m n head i)))
  acked-one i false = record-by m n (head + i)

  pub acked-ring : (a c : ℕ) → acked_all (ring (flagged fs) a c) (ring (held_at m n head) a c) ≡ ring (acked_at m n head fs) a c
  unfolding ring acked_all mark_acked
  acked-ring a zero = refl
  acked-ring a (suc c) =
      let x = acked-one a (flagged fs a) in
      let y = acked-ring (a + 1) c in
      cc

  -- no range holds it: it stays
  pub acked-off : (i : ℕ) → flagged fs i ≡ false → acked_at m n head fs i ≡ held_at m n head i
  unfolding mark_acked
  acked-off i e = rw e (sym (record-by m n (head + i)))

-- ---- who is newly acked
pub newly-append : (bs cs : List Bool) (l k : List Sent) → length bs ≡ length l → newly_of (bs ++ cs) (l ++ k) ≡ newly_of bs l ++ newly_of cs k
unfolding newly_of
newly-append [] cs [] k e = refl
newly-append [] cs (r ∷ l) k e = absurd (let z : ⊥ = omega arith in z)
newly-append (b ∷ bs) cs [] k e = absurd (let z : ⊥ = omega arith in z)
newly-append (b ∷ bs) cs (r ∷ l) k e = go (newly-append bs cs l k (omega arith)) (is_newly b r)
  where
    go : newly_of (bs ++ cs) (l ++ k) ≡ newly_of bs l ++ newly_of cs k →
        (x : Bool) → cond x (r ∷ newly_of (bs ++ cs) (l ++ k)) (newly_of (bs ++ cs) (l ++ k)) ≡ cond x (r ∷ newly_of bs l) (newly_of bs l) ++ newly_of cs k
    go ih true = ap (λ (s : List Sent). r ∷ s) ih
    go ih false = ih

module _ (f : ℕ → Bool) (g : ℕ → Sent) where
  -- the first place, and the others
  pub newly-first : (a c : ℕ) → 0 < c →
      newly_of (ring f a c) (ring g a c)
      ≡ cond (is_newly (f a) (g a)) (g a ∷ newly_of (ring f (a + 1) (c - 1)) (ring g (a + 1) (c - 1))) (newly_of (ring f (a + 1) (c - 1)) (ring g (a + 1) (c - 1)))
  unfolding newly_of
  newly-first a c pos = rw (ring-step f a c pos, ring-step g a c pos)

  pub newly-split : (a k d : ℕ) → newly_of (ring f a (k + d)) (ring g a (k + d)) ≡ newly_of (ring f a k) (ring g a k) ++ newly_of (ring f (a + k) d) (ring g (a + k) d)
  newly-split a k d =
      rw (ring-split f a k d, ring-split g a k d)
      (newly-append (ring f a k) (ring f (a + k) d) (ring g a k) (ring g (a + k) d) (length-ring f a k ∙ sym (length-ring g a k)))

  -- no range holds any of them
  pub newly-none : (a c : ℕ) → ((i : ℕ) → a ≤ i → i < a + c → f i ≡ false) → newly_of (ring f a c) (ring g a c) ≡ []
  unfolding newly_of ring
  newly-none a zero off = refl
  newly-none a (suc c) off =
      rw (off a (omega arith) (omega arith)) (newly-none (a + 1) c (λ i l r. off i (omega arith) (omega arith)))

  -- no range holds any from place k on
  pub newly-past : (k c : ℕ) → k ≤ c → ((i : ℕ) → k ≤ i → i < c → f i ≡ false) → newly_of (ring f 0 c) (ring g 0 c) ≡ newly_of (ring f 0 k) (ring g 0 k)
  newly-past k c le off =
      let e : c ≡ k + (c - k) = omega arith in
      ap (λ (x : ℕ). newly_of (ring f 0 x) (ring g 0 x)) e
      ∙ newly-split 0 k (c - k)
      ∙ ap (λ (l : List Sent). newly_of (ring f 0 k) (ring g 0 k) ++ l) (newly-none (0 + k) (c - k) (λ i l r. off i (omega arith) (omega arith)))
      ∙ append-nil (newly_of (ring f 0 k) (ring g 0 k))

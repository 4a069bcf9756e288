-- The bytes still out, record by record. Assumes nothing.
use mathlib.Core.Path.{◌≡◌, refl, ap, sym, ◌∙◌}
use mathlib.Core.Bool.{Bool, true, false, cond, ◌&&◌}
use mathlib.Core.List.{List, ◌∷◌}
use Prim.Native.Nat.{ℕ, ◌+◌, ◌-◌, ◌/◌, ◌%◌, ◌≤◌, ◌<◌}
use native.Mathlib.Nat.{zero-add}
use native.Mathlib.Omega.{arith}
use borrow.Author.Tests.{eq-eqb, ne_eqb}
use lib.Dec.{eqb}
use lib.ListN.{get_or}
use Rattle.arith.specs.Whole.{limit, within, sum_of}
use Rattle.arith.proofs.Laws.{within-fine, within-over, sum_is, sum-large, sum-only}
use Rattle.model.specs.Connection.{outstanding}
use Rattle.model.specs.Sent.{standing}
use Rattle.model.specs.declared.Sent.{Sent}
use Rattle.records.specs.View.{at, record_by, record_at, records_of, weight_of}
use Rattle.records.proofs.Rings.{ring-step, ring-end}
use Rattle.records.proofs.Laws.{standing-mark}
use Rattle.std.proofs.Math.Bool.{and-false}
use Rattle.std.specs.Prelude.{Result, Ok, Err}
use Rattle.arith.specs.declared.refusal.Refusal.{Refusal}

-- what is out of one record, from its words
weight-words : (m : List ℕ) (n k : ℕ) → weight_of (record_at m n k) ≡ cond (eqb (get_or m (at n k 3) 0 / 2 % 2) 1 && eqb (get_or m (at n k 5) 0) 0) (get_or m (at n k 2) 0) 0
unfolding weight_of record_at record_by
weight-words m n k =
    ap (λ (b : Bool). cond (eqb (get_or m (at n k 3) 0 / 2 % 2) 1 && b) (get_or m (at n k 2) 0) 0) (standing-mark m n k (get_or m (at n k 5) 0))

module _ (m : List ℕ) (n k : ℕ) {mark : ℕ} (e : mark ≡ get_or m (at n k 5) 0) where
  pub weight_marked : (mark ≡ 0 → ⊥) → 0 ≡ weight_of (record_at m n k)
  weight_marked p = rw (weight-words m n k, ← e, ne_eqb mark 0 p, and-false)

  module _ {flags : ℕ} (f : flags ≡ get_or m (at n k 3) 0) where
    pub weight_resting : (flags / 2 % 2 ≡ 1 → ⊥) → 0 ≡ weight_of (record_at m n k)
    weight_resting p = rw (weight-words m n k, ← f, ne_eqb (flags / 2 % 2) 1 p)

    pub weight_out : {size : ℕ} → mark ≡ 0 → flags / 2 % 2 ≡ 1 → size ≡ get_or m (at n k 2) 0 → size ≡ weight_of (record_at m n k)
    weight_out p q g = rw (weight-words m n k, ← e, ← f, ← g, eq-eqb (flags / 2 % 2) 1 q, eq-eqb mark 0 p)

-- one record, and the others
pub outstanding-first : (r : Sent) (l : List Sent) → outstanding (r ∷ l) ≡ weight_of r + outstanding l
unfolding outstanding weight_of
outstanding-first r l = go (r.in_flight && standing r)
  where
    go : (b : Bool) → cond b (r.size + outstanding l) (outstanding l) ≡ cond b r.size 0 + outstanding l
    go true = refl
    go false = omega arith

outstanding-step : (m : List ℕ) (n h c : ℕ) → 0 < c → outstanding (records_of m n h c) ≡ weight_of (record_at m n h) + outstanding (records_of m n (h + 1) (c - 1))
outstanding-step m n h c pos = ap outstanding (ring-step (record_at m n) h c pos) ∙ outstanding-first (record_at m n h) (records_of m n (h + 1) (c - 1))

outstanding-none : (m : List ℕ) (n h c : ℕ) → c ≤ 0 → outstanding (records_of m n h c) ≡ 0
unfolding outstanding
outstanding-none m n h c z = ap outstanding (ring-end (record_at m n) h c z)

-- a turn of the loop
module _ (m : List ℕ) (n first count i total N : ℕ) (inv : total + outstanding (records_of m n (first + i) (count - i)) ≡ N) where
  step : i < count → outstanding (records_of m n (first + i) (count - i)) ≡ weight_of (record_at m n (first + i)) + outstanding (records_of m n (first + (i + 1)) (count - (i + 1)))
  step lt =
      let a : first + i + 1 ≡ first + (i + 1) = omega arith in
      let b : count - i - 1 ≡ count - (i + 1) = omega arith in
      outstanding-step m n (first + i) (count - i) (omega arith) ∙ rw (a, b)

  module _ {w : ℕ} {s : (Result ℕ Refusal)} (lt : i < count) (e : w ≡ weight_of (record_at m n (first + i))) (g : s ≡ sum_of total w) where
    pub scan_small : {t : ℕ} → s ≡ Ok t → t ≤ limit
    scan_small f = (sum_is total w (sym g ∙ f)).1

    pub scan_on : {t : ℕ} → s ≡ Ok t → t + outstanding (records_of m n (first + (i + 1)) (count - (i + 1))) ≡ N
    scan_on f = let a = (sum_is total w (sym g ∙ f)).0 in let b = step lt in omega arith

    pub scan_over : {why : Refusal} → s ≡ Err why → Err why ≡ within N
    scan_over {why} f =
        let only = sum-only total w (sym g ∙ f) in
        let a : limit < total + w = sum-large total w (sym g ∙ f ∙ ap Err only) in
        let b = step lt in
        ap Err only ∙ sym (within-over N (omega arith))

  pub scan_end : count ≤ i → total ≤ limit → Ok total ≡ within N
  scan_end le small =
      let a = outstanding-none m n (first + i) (count - i) (omega arith) in
      let b : total ≡ N = omega arith in
      rw b (sym (within-fine N (omega arith)))

pub scan_start : (m : List ℕ) (n first count : ℕ) → 0 + outstanding (records_of m n (first + 0) (count - 0)) ≡ outstanding (records_of m n first count)
scan_start m n first count =
    let a : first + 0 ≡ first = omega arith in
    let b : count - 0 ≡ count = omega arith in
    rw (a, b) (zero-add _)

-- Laws of the audit's total: one record, one record more, all of them. Assumes nothing.
use Prim.Native.Nat.{ℕ, suc, ◌+◌, ◌≤◌, ◌<◌}
use mathlib.Core.Path.{◌≡◌, refl, ap, sym, ◌∙◌}
use mathlib.Core.Bool.{Bool, true, false, cond, ◌&&◌, not}
use mathlib.Core.List.{List, [], ◌∷◌}
use native.Mathlib.Nat.{add_assoc, zero-add}
use native.Mathlib.Omega.{arith}
use native.Mathlib.Numerals.{add-one}
use lib.Dec.{T, leb, leb→le, nleb→lt}
use lib.ListN.{length, get_or, drop, drop_of_length-le}
use lib.Seq.{drop-cons}
use Rattle.arith.specs.Whole.{limit, within, sum_of}
use Rattle.arith.proofs.Laws.{within-fine, within-over, sum-fine, sum_over, sum_is, sum-large, sum-only}
use Rattle.model.specs.Connection.{outstanding}
use Rattle.model.specs.Sent.{standing}
use Rattle.model.specs.declared.Sent.{Sent}
use Rattle.audit.specs.Total.{total_of, added_up}
use Rattle.std.specs.Prelude.{Result, Ok, Err}
use Rattle.arith.specs.declared.refusal.Refusal.{Refusal}
use Rattle.arith.specs.declared.refusal.Refusal.TheVariants.{TooLarge}

-- one record, and the others
pub one_more : (r : Sent) (l : List Sent) → outstanding (r ∷ l) ≡ outstanding (r ∷ []) + outstanding l
unfolding outstanding
one_more r l = go (r.in_flight && standing r)
  where
    go : (b : Bool) → cond b (r.size + outstanding l) (outstanding l) ≡ cond b (r.size + 0) 0 + outstanding l
    go true = omega arith
    go false = omega arith

-- ---- all of them

-- once over, it stays over
pub over-stays : (l : List Sent) → added_up (Err TooLarge) l ≡ (Err TooLarge)
unfolding added_up
over-stays [] = refl
over-stays (r ∷ l) = over-stays l

-- from a total that fits, the sum of all, or over
pub added-fine : (l : List Sent) (n : ℕ) → n ≤ limit → added_up (Ok n) l ≡ within (n + outstanding l)
unfolding added_up outstanding
added-fine [] n small = let z : n + 0 ≡ n = omega arith in rw z (sym (within-fine n small))
added-fine (r ∷ l) n small = go (leb (n + outstanding (r ∷ [])) limit) (leb→le _ _) (nleb→lt _ _) (λ m fits. added-fine l m fits)
  where
    whole : n + outstanding (r ∷ l) ≡ n + outstanding (r ∷ []) + outstanding l
    whole = rw (one_more r l) (sym (add_assoc n (outstanding (r ∷ [])) (outstanding l)))

    go : (b : Bool) → (T b → n + outstanding (r ∷ []) ≤ limit) → (T (not b) → limit < n + outstanding (r ∷ [])) → ((m : ℕ) → m ≤ limit → added_up (Ok m) l ≡ within (m + outstanding l))
        → added_up (sum_of n (outstanding (r ∷ []))) l ≡ within (n + outstanding (r ∷ l))
    go true fits over rest = rw (sum-fine n (outstanding (r ∷ [])) (fits tt), whole) (rest _ (fits tt))
    go false fits over rest = rw (sum_over n (outstanding (r ∷ [])) (over tt), whole) (over-stays l ∙ sym (within-over _ (let p = over tt in omega arith)))

-- one after another, from nothing
pub one_by_one : (l : List Sent) → added_up (Ok 0) l ≡ total_of l
unfolding total_of
one_by_one l = added-fine l 0 (omega arith) ∙ ap within (zero-add (outstanding l))

-- ---- a turn of the loop
module _ (l : List Sent) (i total : ℕ) (inv : total + outstanding (drop i l) ≡ outstanding l) where
  module _ {w : ℕ} {s : Result ℕ Refusal} (blank : Sent) (lt : i < length l) (e : w ≡ outstanding (get_or l i blank ∷ [])) (g : s ≡ sum_of total w) where
    step : outstanding (drop i l) ≡ w + outstanding (drop (i + 1) l)
    step = rw (add-one, drop-cons l i blank lt, e) (one_more (get_or l i blank) (drop (suc i) l))

    pub scan_small : {t : ℕ} → s ≡ Ok t → t ≤ limit
    scan_small f = (sum_is total w (sym g ∙ f)).1

    pub scan_on : {t : ℕ} → s ≡ Ok t → t + outstanding (drop (i + 1) l) ≡ outstanding l
    scan_on f = let a = (sum_is total w (sym g ∙ f)).0 in let b = step in omega arith

    pub scan_over : {why : Refusal} → s ≡ Err why → Err why ≡ total_of l
    unfolding total_of
    scan_over {why} f =
        let only = sum-only total w (sym g ∙ f) in
        let a : limit < total + w = sum-large total w (sym g ∙ f ∙ ap Err only) in
        let b = step in
        ap Err only ∙ sym (within-over (outstanding l) (omega arith))

  pub scan_end : length l ≤ i → total ≤ limit → Ok total ≡ total_of l
  unfolding total_of outstanding
  scan_end le small =
      let a : total + 0 ≡ outstanding l = rw (drop_of_length-le l le) at inv in
      let b : total ≡ outstanding l = omega arith in
      rw (← b) (sym (within-fine total small))

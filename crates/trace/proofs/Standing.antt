-- Whether a known kind with its whole body stands at an offset, and what is found there. Assumes nothing.
use mathlib.Core.Logic.{⊎_elim}
use mathlib.Core.Path.{◌≡◌, refl, sym, ◌∙◌}
use mathlib.Core.Bool.{Bool, true, false, cond, ◌&&◌}
use mathlib.Core.List.{List, ◌∷◌}
use Prim.Native.Nat.{ℕ, ◌+◌, ◌-◌, ◌≤◌, ◌<◌}
use native.Mathlib.Nat.{eq-zero-or-pos}
use native.Mathlib.Numerals.{add-one}
use native.Mathlib.Omega.{arith}
use borrow.Author.Tests.{ltb-true, leb-true, ne_eqb}
use lib.Dec.{ltb, leb, eqb}
use lib.ListN.{length, take, drop, get_or, length-drop, drop_of_length-le}
use lib.Seq.{drop-cons}
use Rattle.model.specs.Trace.{body_length}
use Rattle.trace.specs.Reading.{whole, found_by, found_from, found_at, body_from, next_by, next_at}
use Rattle.trace.specs.declared.Found.TheVariants as found

-- ---- tests

both_left : (a b : Bool) → (a && b) ≡ true → a ≡ true
both_left true b h = refl
both_left false b h = h

both_right : (a b : Bool) → (a && b) ≡ true → b ≡ true
both_right true b h = h
both_right false b h = let z : ◌≡◌ {A = ℕ} 0 1 = cc in absurd (let w : ⊥ = omega arith in w)

cond-some : (t : Bool) (n : ℕ) → (cond t n 0 ≡ 0 → ⊥) → t ≡ true
cond-some true n h = refl
cond-some false n h = absurd (h refl)

module _ (l : List ℕ) (at : ℕ) where
  pub body_end : length l ≤ at → 0 ≡ body_from (drop at l)
  unfolding body_from
  body_end le = rw (drop_of_length-le l le)

  pub found-end : length l ≤ at → found.End ≡ found_at l at
  unfolding found_from
  found-end le = rw (drop_of_length-le l le)

  module _ (lt : at < length l) where
    abbrev kind : ℕ
    kind = get_or l at 0

    abbrev more : List ℕ
    more = drop (at + 1) l

    pub opened : drop at l ≡ kind ∷ more
    opened = rw (add-one) (drop-cons l at 0 lt)

    body-by : body_from (drop at l) ≡ cond (whole kind more) (body_length kind) 0
    unfolding body_from
    body-by = rw opened

    pub found-by : found_at l at ≡ found_by (whole kind more) (eqb kind 2) kind (take (body_length kind) more)
    unfolding found_from
    found-by = rw opened

    left : length more ≡ length l - at - 1
    left = rw length-drop (omega arith)

    whole_length : whole kind more ≡ true → at + 1 + body_length kind ≤ length l
    unfolding whole
    whole_length h =
        let a : body_length kind ≤ length more = leb-true _ _ (both_right (ltb 0 (body_length kind)) (leb (body_length kind) (length more)) h) in
        let b : length more ≡ length l - at - 1 = left in
        omega arith

    whole-some : whole kind more ≡ true → 0 < body_length kind
    unfolding whole
    whole-some h = ltb-true _ _ (both_left (ltb 0 (body_length kind)) (leb (body_length kind) (length more)) h)

    pub next-by : whole kind more ≡ true → next_at l at ≡ at + 1 + body_length kind
    unfolding next_at next_by
    next-by h = let p : 0 < body_length kind = whole-some h in rw (body-by, h, ne_eqb (body_length kind) 0 (λ e. omega arith))

    -- a body stands, or none does
    module _ (some : body_from (drop at l) ≡ 0 → ⊥) where
      stands : whole kind more ≡ true
      stands = cond-some (whole kind more) (body_length kind) (rw body-by at some)

      pub stands-length : at + 1 + body_length kind ≤ length l
      stands-length = whole_length stands

      pub stands-body : body_from (drop at l) ≡ body_length kind
      stands-body = rw (body-by, stands)

  pub next-none : body_from (drop at l) ≡ 0 → length l ≡ next_at l at
  unfolding next_at next_by
  next-none none = rw none

  module _ (some : body_from (drop at l) ≡ 0 → ⊥) where
    pub inside : at < length l
    inside = ⊎_elim (λ z. absurd (some (sym (body_end (omega arith))))) (λ pos. omega arith) (eq-zero-or-pos (length l - at))

    pub room : at + 1 + body_from (drop at l) ≤ length l
    room = rw (stands-body inside some) (stands-length inside some)

    pub next-some : at + 1 + body_from (drop at l) ≡ next_at l at
    unfolding next_at next_by
    next-some = rw (ne_eqb (body_from (drop at l)) 0 some)

  -- the next offset lies further on, and not past the end
  pub next-further : at < length l → at < next_at l at
  next-further lt = next-case (body_from (drop at l)) refl
    where
      next-case : (n : ℕ) → body_from (drop at l) ≡ n → at < next_at l at
      next-case n e = ⊎_elim
          (λ z. rw (← next-none (e ∙ z)) lt)
          (λ pos. rw (← next-some (λ z. let w : n ≡ 0 = sym e ∙ z in omega arith)) (omega arith))
          (eq-zero-or-pos n)

  pub next-in : next_at l at ≤ length l
  next-in = next-case (body_from (drop at l)) refl
    where
      next-case : (n : ℕ) → body_from (drop at l) ≡ n → next_at l at ≤ length l
      next-case n e = ⊎_elim
          (λ z. rw (← next-none (e ∙ z)) (omega arith))
          (λ pos. let some : body_from (drop at l) ≡ 0 → ⊥ = λ z. let w : n ≡ 0 = sym e ∙ z in omega arith in rw (← next-some some) (room some))
          (eq-zero-or-pos n)

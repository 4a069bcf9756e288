-- Laws of the definitions on whole numbers and rounding: a test's outcome from the fact, and the fact from the outcome. Assumes nothing.
use Rattle.std.proofs.Common.{◌≡◌, ℕ, ◌+◌, ◌-◌, ◌*◌, ◌/◌, ◌^◌, ◌<◌, ◌≤◌, min, Bool, true, false, cond, not, T, leb, pos, refl, ap, subst, lt_of_lt_of_le, mul-le-mul_right, mul_comm, div-lt_iff_lt-mul, le-div_iff_mul-le, zero-mul, div-mul-le_self, arith, leb→le, ltb-false, le-leb}
use native.Mathlib.Nat.{lt-div-mul-add}
use lib.Dec.{nleb→lt}
use lib.Ieee.{Float, nan, inf, fin, up, down, lt, to_unsigned}
use lib.Ieee.Fits.{down_pos}
use borrow.Author.Tests.{lt-leb}
use Rattle.arith.specs.Whole.{limit, within, sum_of, times_of}
use Rattle.arith.specs.Time.{span, moment, as_span, as_moment, span_sum_of, scaled_of, later_of}
use Rattle.arith.specs.Round.{Small, nearest, product_of, numerator_of, denominator_of, truncated_of}
use Rattle.arith.specs.declared.time.Span.{Span}
use Rattle.arith.specs.declared.time.Moment.{Moment}
use Rattle.arith.specs.declared.round.TimeThreshold.{TimeThreshold}
use Rattle.std.specs.Prelude.{Result, Ok, Err}
use Rattle.arith.specs.declared.refusal.Refusal.{Refusal}
use Rattle.arith.specs.declared.refusal.Refusal.TheVariants.{TooLarge}

apart : ◌≡◌ {A = ℕ} 0 1 → ⊥
apart z = omega arith

-- ---- up to 2^53-1, or past it
pub within-fine : (n : ℕ) → n ≤ limit → within n ≡ Ok n
unfolding within
within-fine n h = rw le-leb

pub within-over : (n : ℕ) → limit < n → within n ≡ Err TooLarge
unfolding within
within-over n h = rw lt-leb

-- what is fine is the number itself, which is small
pub fine-is : (n : ℕ) {m : ℕ} → within n ≡ Ok m → m ≡ n
unfolding within
fine-is n {m} = go (leb n limit)
  where
    go : (t : Bool) → cond t (Ok n) (Err TooLarge) ≡ Ok m → m ≡ n
    go true e = cc
    go false e = cc

pub fine-small : (n : ℕ) {m : ℕ} → within n ≡ Ok m → m ≤ limit
unfolding within
fine-small n {m} = go (leb n limit) (leb→le n limit)
  where
    go : (t : Bool) → (T t → n ≤ limit) → cond t (Ok n) (Err TooLarge) ≡ Ok m → m ≤ limit
    go true f e = let z : n ≡ m = cc in subst (λ (k : ℕ). k ≤ limit) z (f tt)
    go false f e = let z : ◌≡◌ {A = ℕ} 0 1 = cc in absurd (apart z)

pub over-large : (n : ℕ) → within n ≡ Err TooLarge → limit < n
unfolding within
over-large n = go (leb n limit) (nleb→lt n limit)
  where
    go : (t : Bool) → (T (not t) → limit < n) → cond t (Ok n) (Err TooLarge) ≡ Err TooLarge → limit < n
    go true f e = let z : ◌≡◌ {A = ℕ} 0 1 = cc in absurd (apart z)
    go false f e = f tt

-- ---- sums and products of whole numbers
-- past the limit there is one refusal
pub over-only : (n : ℕ) {why : Refusal} → within n ≡ Err why → why ≡ TooLarge
unfolding within
over-only n {why} = go (leb n limit)
  where
    go : (t : Bool) → cond t (Ok n) (Err TooLarge) ≡ Err why → why ≡ TooLarge
    go true e = cc
    go false e = cc

pub sum-fine : (a b : ℕ) → a + b ≤ limit → sum_of a b ≡ Ok (a + b)
unfolding sum_of
sum-fine a b h = within-fine (a + b) h

pub sum_over : (a b : ℕ) → limit < a + b → sum_of a b ≡ Err TooLarge
unfolding sum_of
sum_over a b h = within-over (a + b) h

pub sum_is : (a b : ℕ) {n : ℕ} → sum_of a b ≡ Ok n → (n ≡ a + b) × (n ≤ limit)
unfolding sum_of
sum_is a b e = (fine-is (a + b) e, fine-small (a + b) e)

pub sum-large : (a b : ℕ) → sum_of a b ≡ Err TooLarge → limit < a + b
unfolding sum_of
sum-large a b e = over-large (a + b) e

pub sum-only : (a b : ℕ) {why : Refusal} → sum_of a b ≡ Err why → why ≡ TooLarge
unfolding sum_of
sum-only a b e = over-only (a + b) e

pub times-fine : (a b : ℕ) → a * b ≤ limit → times_of a b ≡ Ok (a * b)
unfolding times_of
times-fine a b h = within-fine (a * b) h

pub times-over : (a b : ℕ) → limit < a * b → times_of a b ≡ Err TooLarge
unfolding times_of
times-over a b h = within-over (a * b) h

pub times-is : (a b : ℕ) {n : ℕ} → times_of a b ≡ Ok n → (n ≡ a * b) × (n ≤ limit)
unfolding times_of
times-is a b e = (fine-is (a * b) e, fine-small (a * b) e)

pub times-large : (a b : ℕ) → times_of a b ≡ Err TooLarge → limit < a * b
unfolding times_of
times-large a b e = over-large (a * b) e

pub times-only : (a b : ℕ) {why : Refusal} → times_of a b ≡ Err why → why ≡ TooLarge
unfolding times_of
times-only a b e = over-only (a * b) e

pub times_none : (a b : ℕ) → a ≡ 0 → times_of a b ≡ Ok 0
unfolding times_of
times_none a b h = rw (h, zero-mul) (within-fine 0 (omega arith))

-- a product, judged by a quotient that cannot wrap
pub product_small : (a b n : ℕ) → 0 < a → b ≤ n / a → a * b ≤ n
product_small a b n p h = subst (λ (k : ℕ). k ≤ n) (mul_comm b a) ((le-div_iff_mul-le p).0 h)

pub product-large : (a b n : ℕ) → 0 < a → n / a < b → n < a * b
product-large a b n p h = subst (λ (k : ℕ). n < k) (mul_comm b a) ((div-lt_iff_lt-mul p).0 h)

-- ---- moments and spans
span-in : (o : Result ℕ Refusal) {s : Span} → as_span o ≡ Ok s → o ≡ Ok s.0
span-in (Ok n) {s} e = let z : span n ≡ s = cc in ap (λ (t : Span). Ok t.0) z
span-in (Err why) {s} e = cc

span-out : (o : Result ℕ Refusal) {why : Refusal} → as_span o ≡ Err why → o ≡ Err why
span-out (Ok n) {why} e = cc
span-out (Err r) {why} e = cc

moment-in : (o : Result ℕ Refusal) {m : Moment} → as_moment o ≡ Ok m → o ≡ Ok m.0
moment-in (Ok n) {m} e = let z : moment n ≡ m = cc in ap (λ (t : Moment). Ok t.0) z
moment-in (Err why) {m} e = cc

moment-out : (o : Result ℕ Refusal) {why : Refusal} → as_moment o ≡ Err why → o ≡ Err why
moment-out (Ok n) {why} e = cc
moment-out (Err r) {why} e = cc

pub spans-fine : (a b : Span) → a.0 + b.0 ≤ limit → span_sum_of a b ≡ Ok (span (a.0 + b.0))
unfolding span_sum_of
spans-fine a b h = ap as_span (sum-fine a.0 b.0 h)

pub spans-over : (a b : Span) → limit < a.0 + b.0 → span_sum_of a b ≡ Err TooLarge
unfolding span_sum_of
spans-over a b h = ap as_span (sum_over a.0 b.0 h)

pub spans-is : (a b : Span) {s : Span} → span_sum_of a b ≡ Ok s → (s.0 ≡ a.0 + b.0) × (s.0 ≤ limit)
unfolding span_sum_of
spans-is a b e = sum_is a.0 b.0 (span-in (sum_of a.0 b.0) e)

pub spans-large : (a b : Span) → span_sum_of a b ≡ Err TooLarge → limit < a.0 + b.0
unfolding span_sum_of
spans-large a b e = sum-large a.0 b.0 (span-out (sum_of a.0 b.0) e)

pub spans-only : (a b : Span) {why : Refusal} → span_sum_of a b ≡ Err why → why ≡ TooLarge
unfolding span_sum_of
spans-only a b e = sum-only a.0 b.0 (span-out (sum_of a.0 b.0) e)

pub scaled-fine : (k : ℕ) (s : Span) → k * s.0 ≤ limit → scaled_of k s ≡ Ok (span (k * s.0))
unfolding scaled_of
scaled-fine k s h = ap as_span (times-fine k s.0 h)

pub scaled-over : (k : ℕ) (s : Span) → limit < k * s.0 → scaled_of k s ≡ Err TooLarge
unfolding scaled_of
scaled-over k s h = ap as_span (times-over k s.0 h)

pub scaled-is : (k : ℕ) (s : Span) {r : Span} → scaled_of k s ≡ Ok r → (r.0 ≡ k * s.0) × (r.0 ≤ limit)
unfolding scaled_of
scaled-is k s e = times-is k s.0 (span-in (times_of k s.0) e)

pub scaled-large : (k : ℕ) (s : Span) → scaled_of k s ≡ Err TooLarge → limit < k * s.0
unfolding scaled_of
scaled-large k s e = times-large k s.0 (span-out (times_of k s.0) e)

pub scaled-only : (k : ℕ) (s : Span) {why : Refusal} → scaled_of k s ≡ Err why → why ≡ TooLarge
unfolding scaled_of
scaled-only k s e = times-only k s.0 (span-out (times_of k s.0) e)

pub later-fine : (m : Moment) (s : Span) → m.0 + s.0 ≤ limit → later_of m s ≡ Ok (moment (m.0 + s.0))
unfolding later_of
later-fine m s h = ap as_moment (sum-fine m.0 s.0 h)

pub later-over : (m : Moment) (s : Span) → limit < m.0 + s.0 → later_of m s ≡ Err TooLarge
unfolding later_of
later-over m s h = ap as_moment (sum_over m.0 s.0 h)

pub later-is : (m : Moment) (s : Span) {r : Moment} → later_of m s ≡ Ok r → (r.0 ≡ m.0 + s.0) × (r.0 ≤ limit)
unfolding later_of
later-is m s e = sum_is m.0 s.0 (moment-in (sum_of m.0 s.0) e)

pub later-large : (m : Moment) (s : Span) → later_of m s ≡ Err TooLarge → limit < m.0 + s.0
unfolding later_of
later-large m s e = sum-large m.0 s.0 (moment-out (sum_of m.0 s.0) e)

pub later-only : (m : Moment) (s : Span) {why : Refusal} → later_of m s ≡ Err why → why ≡ TooLarge
unfolding later_of
later-only m s e = sum-only m.0 s.0 (moment-out (sum_of m.0 s.0) e)

pub none-since : (m earlier : ℕ) → m < earlier → span 0 ≡ span (m - earlier)
none-since m earlier h = ap span (nothing m earlier h)
  where
    nothing : (m earlier : ℕ) → m < earlier → 0 ≡ m - earlier
    nothing m earlier h = omega arith

pub moved : (m s now : ℕ) → s ≤ now → leb m (now - s) ≡ leb (m + s) now
moved m s now h = go (leb (m + s) now) (leb→le (m + s) now) (nleb→lt (m + s) now)
  where
    less : (m s now : ℕ) → m + s ≤ now → m ≤ now - s
    less m s now h = omega arith

    more : (m s now : ℕ) → s ≤ now → now < m + s → now - s < m
    more m s now h k = omega arith

    go : (t : Bool) → (T t → m + s ≤ now) → (T (not t) → now < m + s) → leb m (now - s) ≡ t
    go true f g = le-leb m (now - s) (less m s now (f tt))
    go false f g = lt-leb m (now - s) (more m s now h (g tt))

pub not_yet : (m s now : ℕ) → now < s → leb (m + s) now ≡ false
not_yet m s now h = lt-leb (m + s) now (more m s now h)
  where
    more : (m s now : ℕ) → now < s → now < m + s
    more m s now h = omega arith

-- ---- the loss delay's product
-- nearest, halves up: r - 1/2 <= x × num / den < r + 1/2
pub record Nearest (num den x r : ℕ) : Type 0 where
  pub low : r * (2 * den) ≤ 2 * (num * x) + den
  pub high : 2 * (num * x) + den < (r + 1) * (2 * den)

pub nearest-is : (num den x : ℕ) → 0 < den → Nearest num den x (nearest num den x)
unfolding nearest
nearest-is num den x p =
    let n = 2 * (num * x) + den in
    let h = lt-div-mul-add {a = n} {b = 2 * den} (omega arith) in
    record { low = div-mul-le_self n (2 * den); high = omega arith }

-- so the product is no smaller than the span
pub nearest-least : (num den x : ℕ) → Small num den → x ≤ nearest num den x
unfolding nearest
nearest-least num den x s =
    let p : 0 < 2 * den = omega arith in
    let m = mul-le-mul_right x s.least in
    (le-div_iff_mul-le p).1 (omega arith)

pub nearest-past : (num den x : ℕ) → Small num den → limit < x → (Err TooLarge) ≡ as_span (within (nearest num den x))
nearest-past num den x s h = rw (within-over (nearest num den x) (lt_of_lt_of_le h (nearest-least num den x s)))

pub nearest-over : (num den x : ℕ) → limit < nearest num den x → (Err TooLarge) ≡ as_span (within (nearest num den x))
nearest-over num den x h = rw (within-over (nearest num den x) h)

pub nearest-fine : (num den x : ℕ) → nearest num den x ≤ limit → Ok (span (nearest num den x)) ≡ as_span (within (nearest num den x))
nearest-fine num den x h = rw (within-fine (nearest num den x) h)

-- for callers
pub product-fine : (s : Span) (t : TimeThreshold) → nearest (numerator_of t) (denominator_of t) s.0 ≤ limit → product_of s t ≡ Ok (span (nearest (numerator_of t) (denominator_of t) s.0))
unfolding product_of
product-fine s t h = ap as_span (within-fine (nearest (numerator_of t) (denominator_of t) s.0) h)

pub product-over : (s : Span) (t : TimeThreshold) → limit < nearest (numerator_of t) (denominator_of t) s.0 → product_of s t ≡ Err TooLarge
unfolding product_of
product-over s t h = ap as_span (within-over (nearest (numerator_of t) (denominator_of t) s.0) h)

pub product_is : (s : Span) (t : TimeThreshold) {r : Span} → product_of s t ≡ Ok r → (r.0 ≡ nearest (numerator_of t) (denominator_of t) s.0) × (r.0 ≤ limit)
unfolding product_of
product_is s t e =
    let n = nearest (numerator_of t) (denominator_of t) s.0 in
    let f = span-in (within n) e in
    (fine-is n f, fine-small n f)

-- ---- truncation
pub not-above : (x : Float) → lt (fin true 1 (pos 0)) x ≡ false → 0 ≡ truncated_of x
unfolding lt to_unsigned
not-above nan h = refl
not-above (inf true) h = refl
not-above (inf false) h = cc
not-above (fin true m e) h = refl
not-above (fin false m e) h = absurd (clash (down e) (m * up e) (down_pos e) (ltb-false _ _ h))
  where
    clash : (d n : ℕ) → 0 < d → 1 * 1 * d + n * 1 ≤ 0 → ⊥
    clash d n p q = omega arith

pub past_words : (x : Float) → lt (fin true 1 (pos 0)) x ≡ true → lt x (fin false 1 (pos 64)) ≡ false → 18446744073709551615 ≡ truncated_of x
unfolding lt to_unsigned
past_words nan l h = cc
past_words (inf true) l h = cc
past_words (inf false) l h = refl
past_words (fin true m e) l h = absurd (clash (down e) (m * up e) (down_pos e) (ltb-false _ _ h))
  where
    clash : (d n : ℕ) → 0 < d → n * 1 + 1 * 2 ^ 64 * d ≤ 0 → ⊥
    clash d n p q = omega arith
past_words (fin false m e) l h = least (m * up e / down e) ((le-div_iff_mul-le (down_pos e)).1 (sized (down e) (m * up e) (ltb-false _ _ h)))
  where
    sized : (d n : ℕ) → 1 * 2 ^ 64 * d ≤ n * 1 → 18446744073709551616 * d ≤ n
    sized d n q = omega arith

    least : (q : ℕ) → 18446744073709551616 ≤ q → 18446744073709551615 ≡ min q 18446744073709551615
    least q h = omega arith

-- The cases of the answer, and that no two answers to one argument differ. Assumes nothing.
use Rattle.std.proofs.Common.{◌≡◌, ℕ, ◌+◌, ◌*◌, ◌/◌, ◌%◌, ◌^◌, ◌<◌, ◌≤◌, Bool, true, false, cond, T, ℤ, negsuc, sym, refl, ap, ◌∙◌, subst, le_antisymm, mul_right_comm, arith, lit≤}
use lib.Ieee.{Float, nan, inf, fin, binary64, fits, le, eq, to_bits, of_bits, up, down}
use lib.Ieee.Fits.{down_pos}
use lib.Ieee.Bits.{of_bits-to_bits}
use lib.Ieee.Nearest.{div_same}
use lib.Ieee.Positive.{positive, le→cross, between, above, above_of_le}
use Rattle.arith.specs.Root.{Answers, Case, Largest, Rooted, WholeRoot, cube, nought, least, greatest}
use Rattle.arith.proofs.root.Limbs.{widest}
use Rattle.arith.proofs.root.Units.{shifted, bit-by-bit}
use Rattle.arith.proofs.root.Wrap.{argument, is-largest}
use Rattle.arith.specs.RootOf.{whole_from, root_bits, root_of}
use Rattle.std.specs.Prelude.{Result, Ok, Err}
use Rattle.arith.specs.declared.refusal.Refusal.{Refusal}
use Rattle.arith.specs.declared.refusal.Refusal.TheVariants.{Domain}

pub zero-answer : (x : Float) → eq x nought ≡ true → Answers x (Ok nought)
unfolding Answers Case
zero-answer x h = rw h refl

pub root_answer : (x r : Float) → eq x nought ≡ false → le least x ≡ true → le x greatest ≡ true → Largest x r → Answers x (Ok r)
unfolding Answers Case
root_answer x r z l g h = rw (z, l, g) (r, refl, h)

pub low-answer : (x : Float) → eq x nought ≡ false → le least x ≡ false → Answers x (Err Domain)
unfolding Answers Case
low-answer x z l = rw (z, l) refl

pub high-answer : (x : Float) → eq x nought ≡ false → le least x ≡ true → le x greatest ≡ false → Answers x (Err Domain)
unfolding Answers Case
high-answer x z l g = rw (z, l, g) refl

-- ---- two floats that the format holds, above zero, each at most the other, are the same
same_bits : (m : ℕ) (e : ℤ) (n : ℕ) (d : ℤ) → m * up e * down d ≡ n * up d * down e → to_bits binary64 (fin false m e) ≡ to_bits binary64 (fin false n d)
unfolding to_bits
same_bits m e n d h =
    let k : m * up e * 2 ^ 1074 / down e ≡ n * up d * 2 ^ 1074 / down d =
    div_same (m * up e * 2 ^ 1074) (down e) (n * up d * 2 ^ 1074) (down d) (down_pos e) (down_pos d)
    (mul_right_comm (m * up e) (2 ^ 1074) (down d) ∙ ap (λ (x : ℕ). x * 2 ^ 1074) h ∙ mul_right_comm (n * up d) (down e) (2 ^ 1074)) in
    rw k refl

pub both_ways : (x y : Float) → T (fits binary64 x) → T (fits binary64 y) → T (positive x) → T (positive y) → T (le x y) → T (le y x) → x ≡ y
both_ways nan y F G p q h k = absurd p
both_ways (inf s) y F G p q h k = absurd p
both_ways (fin true m e) y F G p q h k = absurd p
both_ways (fin false m e) nan F G p q h k = absurd q
both_ways (fin false m e) (inf t) F G p q h k = absurd q
both_ways (fin false m e) (fin true n d) F G p q h k = absurd q
both_ways (fin false m e) (fin false n d) F G p q h k =
    sym (of_bits-to_bits binary64 (fin false m e) F)
    ∙ ap (of_bits binary64) (same_bits m e n d (le_antisymm (le→cross (fin false m e) (fin false n d) p q h) (le→cross (fin false n d) (fin false m e) q p k)))
    ∙ of_bits-to_bits binary64 (fin false n d) G

-- ---- a root of an argument within the range is above zero and finite
abbrev small : Float
small = fin false 1 (negsuc 19)

small-fits : T (fits binary64 small)
unfolding fits
small-fits = tt

small-cube : cube small ≡ least
unfolding cube
small-cube = refl

not-inf : (x r : Float) → T (positive x) → T (le (cube r) x) → T (above r) → T (positive r)
unfolding cube le
not-inf x nan p h a = absurd a
not-inf x (inf true) p h a = absurd a
not-inf nan (inf false) p h a = absurd p
not-inf (inf s) (inf false) p h a = absurd p
not-inf (fin s m e) (inf false) p h a = absurd h
not-inf x (fin true n d) p h a = absurd a
not-inf x (fin false n d) p h a = a

root-positive : (x r : Float) → T (le least x) → T (le x greatest) → Largest x r → T (positive r)
root-positive x r l g h =
    not-inf x r (between least x greatest tt tt l g) h.under
    (above_of_le small r tt (h.most small small-fits (subst (λ (v : Float). T (le v x)) (sym small-cube) l)))

pub one-root : (x r s : Float) → T (le least x) → T (le x greatest) → Largest x r → Largest x s → r ≡ s
one-root x r s l g h k =
    both_ways r s h.held k.held (root-positive x r l g h) (root-positive x s l g k) (k.most r h.held h.under) (h.most s k.held k.under)

-- any two answers that the contract allows are equal
pub one_answer : (x : Float) (o p : Result Float Refusal) → Answers x o → Answers x p → o ≡ p
unfolding Answers Case
one_answer x o p = go (eq x nought) (le least x) (le x greatest) (λ t. t) (λ t. t)
  where
    go : (z a b : Bool) → (T a → T (le least x)) → (T b → T (le x greatest)) → Case z a b x o → Case z a b x p → o ≡ p
    go true a b f g h k = h ∙ sym k
    go false true true f g h k = h.1 ∙ ap Ok (one-root x h.0 k.0 (f tt) (g tt) h.2 k.2) ∙ sym k.1
    go false true false f g h k = h ∙ sym k
    go false false b f g h k = h ∙ sym k

-- ---- the answer as a function is an answer
computed : (x : Float) → T (fits binary64 x) → T (le least x) → T (le x greatest) → Largest x (of_bits binary64 (root_bits (to_bits binary64 x)))
unfolding root_bits
computed x F l g =
    let b = to_bits binary64 x in
    let m = b % 4503599627370496 + 4503599627370496 in
    let e = b / 4503599627370496 in
    let s = shifted m e (m-lo b) (m-hi b) in
    let a = m * 2 ^ (e % 3) in
    let n = a * 20282409603651670423947251286016 in
    let w = widest a s.least s.most in
    let r = bit-by-bit 52 n 9007199254740992 4503599627370496 (lit≤ tt) w.2 w.3 in
    is-largest x b (whole_from 52 4503599627370496 n) (argument x F l g)
    (subst (λ (z : ℕ). WholeRoot (z * 20282409603651670423947251286016) (whole_from 52 4503599627370496 n)) (sym s.fits) r.0.root) r.1 r.0.less
  where
    m-lo : (b : ℕ) → 4503599627370496 ≤ b % 4503599627370496 + 4503599627370496
    m-lo b = omega arith

    m-hi : (b : ℕ) → b % 4503599627370496 + 4503599627370496 < 9007199254740992
    m-hi b = omega arith

pub function-answers : (x : Float) → T (fits binary64 x) → Answers x (root_of x)
unfolding Answers Case root_of
function-answers x F = go (eq x nought) (le least x) (le x greatest) (λ t. t) (λ t. t)
  where
    y : Float
    y = of_bits binary64 (root_bits (to_bits binary64 x))

    go : (z a b : Bool) → (T a → T (le least x)) → (T b → T (le x greatest)) → Case z a b x (cond z (Ok nought) (cond a (cond b (Ok y) (Err Domain)) (Err Domain)))
    go true a b f g = refl
    go false true true f g = (y, refl, computed x F (f tt) (g tt))
    go false true false f g = refl
    go false false b f g = refl

-- what the code shows at each of its returns
pub rooted : (x : Float) (o : Result Float Refusal) → T (fits binary64 x) → Answers x o → Rooted x o
rooted x o F h = record { given = F; right = h }

-- ---- for callers
-- the claim allows one answer, which is the function's value
pub root_is : {x : Float} {o : (Result Float Refusal)} → Rooted x o → o ≡ root_of x
root_is {x} {o} h = one_answer x o (root_of x) h.right (function-answers x h.given)

-- any two answers that the claim allows are equal
pub one-rooted : {x : Float} {o p : (Result Float Refusal)} → Rooted x o → Rooted x p → o ≡ p
one-rooted {x} {o} {p} h k = one_answer x o p h.right k.right

-- a refusal is refusal 2: for a caller that drops the number
pub only_domain : (x : Float) (n : Refusal) → root_of x ≡ Err n → n ≡ Domain
unfolding root_of
only_domain x n = go (eq x nought) (le least x) (le x greatest)
  where
    y : Float
    y = of_bits binary64 (root_bits (to_bits binary64 x))

    go : (z a b : Bool) → cond z (Ok nought) (cond a (cond b (Ok y) (Err Domain)) (Err Domain)) ≡ Err n → n ≡ Domain
    go true a b e = cc
    go false true true e = cc
    go false true false e = cc
    go false false b e = cc

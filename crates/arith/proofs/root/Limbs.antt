-- Products cut at 2^26 and 2^52. K is 2^26, 4503599627370496 is 2^52, 20282409603651670423947251286016 is 2^104. Assumes nothing.
use Rattle.std.proofs.Common.{◌≡◌, ℕ, ◌+◌, ◌*◌, ◌/◌, ◌%◌, ◌<◌, ◌≤◌, true, false, leb, sym, ap, ◌∙◌, subst, mul-le-mul_right, mul-le-mul, mul-lt-mul_of_pos_right, div-add-mod', arith, lit<, lit≤, le-leb}
use borrow.Author.Tests.{lt-leb}
use Rattle.arith.specs.Root.{WholeRoot}

-- the four products of the halves are small
pub record Small (a b : ℕ) : Type 0 where
  pub hl : a / 67108864 * (b % 67108864) ≤ 18014398509481984
  pub lh : a % 67108864 * (b / 67108864) ≤ 9007199254740992
  pub ll : a % 67108864 * (b % 67108864) ≤ 4503599493152769
  pub hh : a / 67108864 * (b / 67108864) ≤ 36028797018963968

pub small : (a b : ℕ) → a < 18014398509481984 → b < 9007199254740992 → Small a b
small a b h k =
    let a1 : a / 67108864 ≤ 268435456 = omega arith in
    let a0 : a % 67108864 ≤ 67108863 = omega arith in
    let b1 : b / 67108864 ≤ 134217728 = omega arith in
    let b0 : b % 67108864 ≤ 67108863 = omega arith in
    let hl = mul-le-mul a1 b0 in
    let lh = mul-le-mul a0 b1 in
    record { hl = omega (arith, hl); lh = omega (arith, lh); ll = mul-le-mul a0 b0; hh = mul-le-mul a1 b1 }

expand : (a1 a0 b1 b0 : ℕ) → (a1 * 67108864 + a0) * (b1 * 67108864 + b0) ≡ a1 * b1 * 4503599627370496 + (a1 * b0 + a0 * b1) * 67108864 + a0 * b0
expand a1 a0 b1 b0 = omega arith

pub whole : (a b : ℕ) → a * b ≡ a / 67108864 * (b / 67108864) * 4503599627370496 + (a / 67108864 * (b % 67108864) + a % 67108864 * (b / 67108864)) * 67108864 + a % 67108864 * (b % 67108864)
whole a b =
    ap (λ (x : ℕ). x * b) (sym (div-add-mod' a 67108864))
    ∙ ap (λ (x : ℕ). (a / 67108864 * 67108864 + a % 67108864) * x) (sym (div-add-mod' b 67108864))
    ∙ expand (a / 67108864) (a % 67108864) (b / 67108864) (b % 67108864)

-- a cube from its three products
pub cubed : (q sh sl th tl uh ul : ℕ) → sh * 4503599627370496 + sl ≡ q * q → th * 4503599627370496 + tl ≡ sl * q → uh * 4503599627370496 + ul ≡ sh * q
    → q * q * q ≡ (uh + (ul + th) / 4503599627370496) * 20282409603651670423947251286016 + (ul + th) % 4503599627370496 * 4503599627370496 + tl
cubed q sh sl th tl uh ul s t u =
    let e : q * q * q ≡ (sh * 4503599627370496 + sl) * q = ap (λ (x : ℕ). x * q) (sym s) in
    omega arith

-- the two ends of a bracket have met
pub next : (n lo hi : ℕ) → hi ≡ lo + 1 → lo * lo * lo ≤ n → n < hi * hi * hi → WholeRoot n lo
next n lo hi e u o = record { under = u; over = subst (λ (h : ℕ). n < h * h * h) e o }

-- how large the upper parts are
pub square-high : (q h l : ℕ) → q < 9007199254740992 → h * 4503599627370496 + l ≡ q * q → h < 18014398509481984
square-high q h l b e =
    let q1 : q ≤ 9007199254740991 = omega arith in
    let k = mul-le-mul q1 q1 in
    omega arith

pub product_high : (a b h l : ℕ) → a < 18014398509481984 → b < 9007199254740992 → h * 4503599627370496 + l ≡ a * b → h ≤ 36028797018963968
product_high a b h l p q e =
    let a1 : a ≤ 18014398509481984 = omega arith in
    let b1 : b ≤ 9007199254740992 = omega arith in
    let k = mul-le-mul a1 b1 in
    omega arith

-- the cube's three limbs: the whole part over 2^104, and what lies below it
pub record Limbs (q uh mid tl : ℕ) : Type 0 where
  pub is : q * q * q ≡ (uh + mid / 4503599627370496) * 20282409603651670423947251286016 + mid % 4503599627370496 * 4503599627370496 + tl
  pub low : tl < 4503599627370496

pub yes-less : (q a uh mid tl : ℕ) → Limbs q uh mid tl → uh + mid / 4503599627370496 < a → true ≡ leb (q * q * q) (a * 20282409603651670423947251286016)
yes-less q a uh mid tl c h = sym (le-leb (q * q * q) (a * 20282409603651670423947251286016) (omega arith))

pub no_more : (q a uh mid tl : ℕ) → Limbs q uh mid tl → a < uh + mid / 4503599627370496 → false ≡ leb (q * q * q) (a * 20282409603651670423947251286016)
no_more q a uh mid tl c h = sym (lt-leb (q * q * q) (a * 20282409603651670423947251286016) (omega arith))

pub yes-even : (q a uh mid tl : ℕ) → Limbs q uh mid tl → uh + mid / 4503599627370496 ≤ a → mid % 4503599627370496 ≡ 0 → tl ≡ 0 → true ≡ leb (q * q * q) (a * 20282409603651670423947251286016)
yes-even q a uh mid tl c h y z = sym (le-leb (q * q * q) (a * 20282409603651670423947251286016) (omega arith))

pub no-low : (q a uh mid tl : ℕ) → Limbs q uh mid tl → a ≤ uh + mid / 4503599627370496 → (tl ≡ 0 → ⊥) → false ≡ leb (q * q * q) (a * 20282409603651670423947251286016)
no-low q a uh mid tl c h z = sym (lt-leb (q * q * q) (a * 20282409603651670423947251286016) (omega arith))

pub no-mid : (q a uh mid tl : ℕ) → Limbs q uh mid tl → a ≤ uh + mid / 4503599627370496 → (mid % 4503599627370496 ≡ 0 → ⊥) → false ≡ leb (q * q * q) (a * 20282409603651670423947251286016)
no-mid q a uh mid tl c h z = sym (lt-leb (q * q * q) (a * 20282409603651670423947251286016) (omega arith))

-- the bracket that every root of a is in: 2^52 to 2^53
pub widest : (a : ℕ) → 4503599627370496 ≤ a → a < 36028797018963968
    → (4503599627370496 < 9007199254740992) × (9007199254740992 ≤ 9007199254740992)
    × (4503599627370496 * 4503599627370496 * 4503599627370496 ≤ a * 20282409603651670423947251286016)
    × (a * 20282409603651670423947251286016 < 9007199254740992 * 9007199254740992 * 9007199254740992)
widest a h k = (lit< tt, lit≤ tt, mul-le-mul_right 20282409603651670423947251286016 h, mul-lt-mul_of_pos_right k (lit< tt))

-- Whole numbers and powers of two that the float part of the root rests on. No float here. Assumes nothing.
use Rattle.std.proofs.Common.{◌≡◌, ℕ, zero, suc, ◌+◌, ◌-◌, ◌*◌, ◌/◌, ◌%◌, ◌^◌, ◌<◌, ◌≤◌, Bool, true, false, cond, not, T, leb, ◌⊎◌, sym, refl, ap, ◌∙◌, subst, inl, inr, le_trans, le_of_eq, lt_of_lt_of_le, lt_of_le_of_lt, le_of_lt, lt_irrefl, mul-le-mul_right, mod-eq_of_lt, mul_assoc, mul_comm, mul-le-mul, lt_of_mul-lt-mul_right, mul-le-mul_left, mul-lt-mul_of_pos_right, mul-pos, not-le_of_lt, le_of_mul-le-mul_right, arith, lit≤, leb→le, pow_pos, pow_mono, pow-add}
use native.Mathlib.Nat.{pow-succ'}
use lib.Dec.{nleb→lt}
use lib.Pow.{pow-lt}
use Rattle.arith.specs.Root.{WholeRoot}
use Rattle.arith.specs.RootOf.{whole_from}

pub either : (a b : ℕ) → (a ≤ b) ⊎ (b < a)
either a b = go (leb a b) (leb→le a b) (nleb→lt a b)
  where
    go : (t : Bool) → (T t → a ≤ b) → (T (not t) → b < a) → (a ≤ b) ⊎ (b < a)
    go true p q = inl (p tt)
    go false p q = inr (q tt)

pub pow_le_back : (a l : ℕ) → 2 ^ a ≤ 2 ^ l → a ≤ l
pow_le_back a l h = elim (either a l) [ inl p ↦ p | inr q ↦ absurd (lt_irrefl (2 ^ l) (lt_of_lt_of_le (pow-lt q) h)) ]

pub pow_lt_back : (a l : ℕ) → 2 ^ a < 2 ^ l → a < l
pow_lt_back a l h = elim (either l a) [ inl p ↦ absurd (lt_irrefl (2 ^ a) (lt_of_lt_of_le h (pow_mono p))) | inr q ↦ q ]

pub cube-mono : {a b : ℕ} → a ≤ b → a * a * a ≤ b * b * b
cube-mono h = mul-le-mul (mul-le-mul h h) h

pub cube-times : (a p : ℕ) → a * p * (a * p) * (a * p) ≡ a * a * a * (p * p * p)
cube-times a p = omega arith

one_more : (p : ℕ) → 0 < p → 2 ^ p ≡ 2 * 2 ^ (p - 1)
one_more p h = ap (λ (x : ℕ). 2 ^ x) (shift p h) ∙ pow-succ' 2 (p - 1)
  where
    shift : (p : ℕ) → 0 < p → p ≡ suc (p - 1)
    shift p h = omega arith

-- Two numbers on the grid of p digits, h being 2^(p-1): q * 2^f with all p digits in use, and m * 2^j above it, so that m * 2^j is at least the next one.
pub next-on-grid : (h m j q f : ℕ) → m < 2 * h → h ≤ q → q * 2 ^ f < m * 2 ^ j → (q + 1) * 2 ^ f ≤ m * 2 ^ j
next-on-grid h m j q f M Q l = elim (either f j) [
  | inl p ↦
      let e : m * 2 ^ j ≡ m * 2 ^ (j - f) * 2 ^ f = ap (λ (x : ℕ). m * 2 ^ x) (parts f j p) ∙ ap (λ (x : ℕ). m * x) (pow-add 2 (j - f) f) ∙ sym (mul_assoc m (2 ^ (j - f)) (2 ^ f)) in
      let k : q < m * 2 ^ (j - f) = lt_of_mul-lt-mul_right (2 ^ f) (subst (λ (x : ℕ). q * 2 ^ f < x) e l) in
      subst (λ (x : ℕ). (q + 1) * 2 ^ f ≤ x) (sym e) (mul-le-mul_right (2 ^ f) (more q (m * 2 ^ (j - f)) k))
  | inr p ↦
      let a : m * 2 ^ j ≤ 2 * h * 2 ^ j = mul-le-mul_right (2 ^ j) (le_of_lt M) in
      let b : 2 ^ suc j ≤ 2 ^ f = pow_mono p in
      let c : h * 2 ^ suc j ≤ h * 2 ^ f = mul-le-mul_left h b in
      let d : h * 2 ^ suc j ≡ 2 * h * 2 ^ j = ap (λ (x : ℕ). h * x) (pow-succ' 2 j) ∙ sym (mul_assoc h 2 (2 ^ j)) ∙ ap (λ (x : ℕ). x * 2 ^ j) (mul_comm h 2) in
      let e : h * 2 ^ f ≤ q * 2 ^ f = mul-le-mul_right (2 ^ f) Q in
      absurd (lt_irrefl (q * 2 ^ f) (lt_of_lt_of_le l (le_trans a (le_trans (le_of_eq (sym d)) (le_trans c e)))))
]
  where
    parts : (f j : ℕ) → f ≤ j → j ≡ j - f + f
    parts f j h = omega arith

    more : (a b : ℕ) → a < b → a + 1 ≤ b
    more a b h = omega arith

-- n * p^3 is the argument in the cube's units: the root's cube is at most it
pub under-it : (n q p X : ℕ) → WholeRoot n q → X ≡ n * (p * p * p) → q * p * (q * p) * (q * p) ≤ X
under-it n q p X w e = le_trans (le_of_eq (cube-times q p)) (le_trans (mul-le-mul_right (p * p * p) w.under) (le_of_eq (sym e)))

-- and no number on the grid above the root has a cube at most it
pub none_above : (h n q f X m j : ℕ) → WholeRoot n q → X ≡ n * (2 ^ f * 2 ^ f * 2 ^ f) → m < 2 * h → h ≤ q → m * 2 ^ j * (m * 2 ^ j) * (m * 2 ^ j) ≤ X → m * 2 ^ j ≤ q * 2 ^ f
none_above h n q f X m j w e M Q c = elim (either (m * 2 ^ j) (q * 2 ^ f)) [
  | inl p ↦ p
  | inr l ↦
      let g = cube-mono (next-on-grid h m j q f M Q l) in
      let k : (q + 1) * (q + 1) * (q + 1) * (2 ^ f * 2 ^ f * 2 ^ f) ≤ n * (2 ^ f * 2 ^ f * 2 ^ f) =
      le_trans (le_of_eq (sym (cube-times (q + 1) (2 ^ f)))) (le_trans g (le_trans c (le_of_eq e))) in
      absurd (not-le_of_lt w.over (le_of_mul-le-mul_right k (mul-pos (mul-pos (pow_pos f) (pow_pos f)) (pow_pos f))))
]

-- the exponents: with l = 1074, and f = e / 3 + 681
pub exponents : (m e l : ℕ) → l ≡ 1074 → 0 < e
    → m * 2 ^ (e - 1) * (2 ^ l * 2 ^ l) ≡ m * 2 ^ (e % 3) * 2 ^ 104 * (2 ^ (e / 3 + 681) * 2 ^ (e / 3 + 681) * 2 ^ (e / 3 + 681))
exponents m e l h p =
    let f = e / 3 + 681 in
    let r = e % 3 in
    let s : e - 1 + (l + l) ≡ r + (104 + (f + f + f)) = omega arith in
    ap (λ (x : ℕ). m * 2 ^ (e - 1) * x) (sym (pow-add 2 l l))
    ∙ mul_assoc m (2 ^ (e - 1)) (2 ^ (l + l))
    ∙ ap (λ (x : ℕ). m * x) (sym (pow-add 2 (e - 1) (l + l)) ∙ ap (λ (x : ℕ). 2 ^ x) s ∙ pow-add 2 r (104 + (f + f + f)) ∙ ap (λ (x : ℕ). 2 ^ r * x) (pow-add 2 104 (f + f + f) ∙ ap (λ (x : ℕ). 2 ^ 104 * x) (pow-add 2 (f + f) f ∙ ap (λ (x : ℕ). x * 2 ^ f) (pow-add 2 f f))))
    ∙ sym (mul_assoc m (2 ^ r) (2 ^ 104 * (2 ^ f * 2 ^ f * 2 ^ f)))
    ∙ sym (mul_assoc (m * 2 ^ r) (2 ^ 104) (2 ^ f * 2 ^ f * 2 ^ f))

-- m with e % 3 zeros after it, in a word
pub record Shifted (m e : ℕ) : Type 0 where
  pub fits : m * 2 ^ (e % 3) % 18446744073709551616 ≡ m * 2 ^ (e % 3)
  pub least : 4503599627370496 ≤ m * 2 ^ (e % 3)
  pub most : m * 2 ^ (e % 3) < 36028797018963968

pub shifted : (m e : ℕ) → 4503599627370496 ≤ m → m < 9007199254740992 → Shifted m e
shifted m e h k =
    let p = 2 ^ (e % 3) in
    let p2 : p ≤ 2 ^ 2 = pow_mono (rest e) in
    let m1 : m ≤ 9007199254740991 = omega arith in
    let a : m * p ≤ 9007199254740991 * 4 = mul-le-mul m1 p2 in
    let b : m * 1 ≤ m * p = mul-le-mul_left m (pow_pos (e % 3)) in
    let l : m * p < 36028797018963968 = omega arith in
    record { fits = mod-eq_of_lt (lt_of_lt_of_le l (lit≤ tt)); least = omega arith; most = l }
  where
    rest : (e : ℕ) → e % 3 ≤ 2
    rest e = omega arith

-- the field of an argument within 2^-60 to 2^40
pub at_least : (m k l : ℕ) → l ≡ 1074 → m < 2 ^ 53 → 1 * 2 ^ l ≤ m * 2 ^ k * 2 ^ 60 → 962 ≤ k
at_least m k l e M h =
    let a : m * 2 ^ k * 2 ^ 60 ≡ m * 2 ^ (k + 60) = mul_assoc m (2 ^ k) (2 ^ 60) ∙ ap (λ (x : ℕ). m * x) (sym (pow-add 2 k 60)) in
    let b : m * 2 ^ (k + 60) < 2 ^ 53 * 2 ^ (k + 60) = mul-lt-mul_of_pos_right M (pow_pos (k + 60)) in
    let c : 2 ^ l < 2 ^ (53 + (k + 60)) = lt_of_le_of_lt (le_trans (le_of_eq (sym (one (2 ^ l)))) (le_trans h (le_of_eq a))) (lt_of_lt_of_le b (le_of_eq (sym (pow-add 2 53 (k + 60))))) in
    let d = pow_lt_back l (53 + (k + 60)) c in
    omega arith
  where
    one : (x : ℕ) → 1 * x ≡ x
    one x = omega arith

pub at_most : (m k l : ℕ) → l ≡ 1074 → 2 ^ 52 ≤ m → m * 2 ^ k * 1 ≤ 2 ^ 40 * 2 ^ l → k ≤ 1062
at_most m k l e M h =
    let a : 2 ^ (52 + k) ≤ 2 ^ (40 + l) =
    le_trans (le_of_eq (pow-add 2 52 k)) (le_trans (mul-le-mul_right (2 ^ k) M) (le_trans (le_of_eq (sym (one (m * 2 ^ k)))) (le_trans h (le_of_eq (sym (pow-add 2 40 l)))))) in
    let d = pow_le_back (52 + k) (40 + l) a in
    omega arith
  where
    one : (x : ℕ) → x * 1 ≡ x
    one x = omega arith

-- ---- the definition that works a bit at a time
pub record Within (n q to : ℕ) : Type 0 where
  pub root : WholeRoot n q
  pub less : q < to

abbrev pub Step : ℕ → ℕ → ℕ → Type 0
Step k n to = (q : ℕ) → q + 2 ^ k ≤ to → q * q * q ≤ n → n < (q + 2 ^ k) * (q + 2 ^ k) * (q + 2 ^ k) → Within n (whole_from k q n) to × (q ≤ whole_from k q n)

twice : (q k : ℕ) → q + 2 ^ suc k ≡ q + 2 ^ k + 2 ^ k
twice q k = ap (λ (x : ℕ). q + x) (pow-succ' 2 k) ∙ two q (2 ^ k)
  where
    two : (q p : ℕ) → q + 2 * p ≡ q + p + p
    two q p = omega arith

one_bit : (k n to : ℕ) → Step k n to → Step (suc k) n to
unfolding whole_from
one_bit k n to ih q t u o = go (leb (mid * mid * mid) n) (leb→le (mid * mid * mid) n) (nleb→lt (mid * mid * mid) n)
  where
    mid : ℕ
    mid = q + 2 ^ k

    smaller : (a b c : ℕ) → a + b + b ≤ c → a + b ≤ c
    smaller a b c h = omega arith

    from : (a b : ℕ) → a ≤ a + b
    from a b = omega arith

    go : (b : Bool) → (T b → mid * mid * mid ≤ n) → (T (not b) → n < mid * mid * mid) → Within n (whole_from k (cond b mid q) n) to × (q ≤ whole_from k (cond b mid q) n)
    go true f g =
        let r = ih mid (subst (λ (x : ℕ). x ≤ to) (twice q k) t) (f tt) (subst (λ (x : ℕ). n < x * x * x) (twice q k) o) in
        (r.0, le_trans (from q (2 ^ k)) r.1)
    go false f g = ih q (smaller q (2 ^ k) to (subst (λ (x : ℕ). x ≤ to) (twice q k) t)) u (g tt)

pub bit-by-bit : (k n to : ℕ) → Step k n to
unfolding whole_from
bit-by-bit zero n to q t u o = (record { root = record { under = u; over = o }; less = at_last q to t }, le_of_eq refl)
  where
    at_last : (q to : ℕ) → q + 1 ≤ to → q < to
    at_last q to h = omega arith
bit-by-bit (suc k) n to q t u o = one_bit k n to (bit-by-bit k n to) q t u o

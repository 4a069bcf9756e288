-- From the whole root to the float: what a pattern's fields stand for, and that the float so written is the largest whose exact cube is at most the argument. Assumes nothing.
use Rattle.std.proofs.Common.{◌≡◌, ℕ, zero, suc, ◌+◌, ◌-◌, ◌*◌, ◌/◌, ◌%◌, ◌^◌, ◌<◌, ◌≤◌, Bool, true, false, cond, not, ◌&&◌, ◌||◌, T, eqb, ltb, leb, ℤ, pos, negsuc, sym, refl, ap, ◌∙◌, subst, zero-le, le_trans, le_of_eq, lt_of_lt_of_le, mul-le-mul_right, mul_assoc, mul-pos, mul-one, le_of_mul-le-mul_right, arith, lit<, lit≤, eqb→eq, ltb→lt, lt→ltb, leb→le, pow_pos, pow-add}
use lib.Dec.{nleb→lt}
use borrow.Author.Tests.{lt-leb}
use lib.Ieee.{Float, nan, inf, fin, binary64, up, down, odd, fits, is_nan, nan_bits, of_fields, of_bits, to_bits, le}
use lib.Ieee.Fits.{and_l, and_r, up_pos, down_pos}
use lib.Ieee.Exact.{HasValue, odd_sign}
use lib.Ieee.Bits.{of_bits-to_bits, of_bits-fits, nan_bits_is}
use lib.Ieee.Order.{le_of_values}
use lib.Ieee.Positive.{positive, positive_of_value, values_of_le, between}
use Rattle.arith.specs.Root.{WholeRoot}
use Rattle.arith.specs.Root.{thrice, cube, Largest, least, greatest}
use Rattle.arith.proofs.root.Units.{pow_le_back, under-it, none_above, exponents, at_least, at_most, shifted}

-- ---- the exact cube of a / c is a^3 / c^3
up-thrice : (e : ℤ) → up (thrice e) ≡ up e * up e * up e
up-thrice (pos k) = ap (λ (x : ℕ). 2 ^ x) (three k) ∙ pow-add 2 (k + k) k ∙ ap (λ (x : ℕ). x * 2 ^ k) (pow-add 2 k k)
  where
    three : (k : ℕ) → 3 * k ≡ k + k + k
    three k = omega arith
up-thrice (negsuc k) = refl

down-thrice : (e : ℤ) → down (thrice e) ≡ down e * down e * down e
down-thrice (pos k) = refl
down-thrice (negsuc k) = ap (λ (x : ℕ). 2 ^ x) (three k) ∙ pow-add 2 (suc k + suc k) (suc k) ∙ ap (λ (x : ℕ). x * 2 ^ suc k) (pow-add 2 (suc k) (suc k))
  where
    three : (k : ℕ) → suc (3 * k + 2) ≡ suc k + suc k + suc k
    three k = omega arith

cubes : (m u c a d : ℕ) → m * u * c ≡ a * d → m * m * m * (u * u * u) * (c * c * c) ≡ a * a * a * (d * d * d)
cubes m u c a d h =
    let l : m * m * m * (u * u * u) * (c * c * c) ≡ m * u * c * (m * u * c) * (m * u * c) = omega arith in
    let r : a * d * (a * d) * (a * d) ≡ a * a * a * (d * d * d) = omega arith in
    l ∙ ap (λ (x : ℕ). x * x * x) h ∙ r

cube-value : (y : Float) (s : Bool) (a c : ℕ) → HasValue y s a c → HasValue (cube y) s (a * a * a) (c * c * c)
unfolding cube
cube-value nan s a c h = h
cube-value (inf t) s a c h = h
cube-value (fin t m e) s a c h = (
  h.0,
  ap (λ (x : ℕ). m * m * m * x * (c * c * c)) (up-thrice e) ∙ cubes m (up e) c a (down e) h.1 ∙ ap (λ (x : ℕ). a * a * a * x) (sym (down-thrice e)),
)

-- ---- a float that the format holds, in units of the smallest value 2^-l
record InUnits (l m : ℕ) (s : Bool) (y : Float) : Type 0 where
  j : ℕ
  is : HasValue y s (m * 2 ^ j) (2 ^ l)

in-units : (l : ℕ) (s : Bool) (m : ℕ) (e : ℤ) → down e ≤ 2 ^ l → InUnits l m s (fin s m e)
in-units l s m (pos a) h = record {
  j = a + l;
  is = (refl, mul_assoc m (2 ^ a) (2 ^ l) ∙ ap (λ (x : ℕ). m * x) (sym (pow-add 2 a l)) ∙ sym (mul-one (m * 2 ^ (a + l))));
}
in-units l s m (negsuc a) h =
    let k = pow_le_back (suc a) l h in
    record {
      j = l - suc a;
      is = (refl, ap (λ (x : ℕ). x * 2 ^ l) (mul-one m) ∙ ap (λ (x : ℕ). m * 2 ^ x) (parts (suc a) l k) ∙ ap (λ (x : ℕ). m * x) (pow-add 2 (l - suc a) (suc a)) ∙ sym (mul_assoc m (2 ^ (l - suc a)) (2 ^ suc a)));
    }
  where
    parts : (f j : ℕ) → f ≤ j → j ≡ j - f + f
    parts f j h = omega arith

digits_of : (s : Bool) (m : ℕ) (e : ℤ) → T (fits binary64 (fin s (suc m) e)) → (suc m < 2 ^ 53) × (down e ≤ 2 ^ 1074)
unfolding fits
digits_of s m e h =
    let A = eqb (suc m % 2) 1 in
    let B = ltb (suc m) (2 ^ 53) in
    let C = leb (down e) (2 ^ 1074) in
    let D = ltb (suc m * up e) (2 ^ 1024 * down e) in (
      ltb→lt (suc m) (2 ^ 53) (and_r A B (and_l (A && B) C (and_l (A && B && C) D h))),
      leb→le (down e) (2 ^ 1074) (and_r (A && B) C (and_l (A && B && C) D h)),
    )

-- ---- the order
or_l : (a b : Bool) → T a → T (a || b)
or_l true b t = tt
or_l false b t = absurd t

negative-le : (m : ℕ) (e : ℤ) (r : Float) → T (positive r) → T (le (fin true m e) r)
unfolding le
negative-le m e nan p = absurd p
negative-le m e (inf t) p = absurd p
negative-le m e (fin true n d) p = absurd p
negative-le m e (fin false n d) p =
    let a = m * up e * down d in
    let b = n * up d * down e in
    or_l (ltb 0 (a + b)) _ (lt→ltb 0 (a + b) (lt_of_lt_of_le (mul-pos (mul-pos (ltb→lt 0 n p) (up_pos d)) (down_pos e)) (right a b)))
  where
    right : (a b : ℕ) → b ≤ a + b
    right a b = omega arith

-- an infinity is at most no positive value
no-inf : (x : Float) → T (positive x) → T (le (inf false) x) → ⊥
unfolding le
no-inf nan p h = p
no-inf (inf s) p h = p
no-inf (fin true m e) p h = p
no-inf (fin false m e) p h = h

-- ---- q * 2^f units, over x of X / 2^(2 l) units
module _ (n q f : ℕ) (x r : Float) (A : ℕ) (p : T (positive x)) (vx : HasValue x false A (2 ^ 1074)) (vr : HasValue r false (q * 2 ^ f) (2 ^ 1074))
    (w : WholeRoot n q) (e : A * (2 ^ 1074 * 2 ^ 1074) ≡ n * (2 ^ f * 2 ^ f * 2 ^ f)) (Q : 2 ^ 52 ≤ q) where
  abbrev X : ℕ
  X = A * (2 ^ 1074 * 2 ^ 1074)

  pos-r : T (positive r)
  pos-r = positive_of_value r (q * 2 ^ f) (2 ^ 1074) vr (mul-pos (lt_of_lt_of_le (pow_pos 52) Q) (pow_pos f))

  to-cube : (l c : ℕ) → 0 < l → c ≤ A * (l * l) → c * l ≤ A * (l * l * l)
  to-cube l c L h = le_trans (mul-le-mul_right l h) (le_of_eq (mul_assoc A (l * l) l))

  of-cube : (l c : ℕ) → 0 < l → c * l ≤ A * (l * l * l) → c ≤ A * (l * l)
  of-cube l c L h = le_of_mul-le-mul_right (le_trans h (le_of_eq (sym (mul_assoc A (l * l) l)))) L

  root-under : T (le (cube r) x)
  root-under =
      le_of_values (cube r) x (q * 2 ^ f * (q * 2 ^ f) * (q * 2 ^ f)) (2 ^ 1074 * 2 ^ 1074 * 2 ^ 1074) A (2 ^ 1074) (mul-pos (mul-pos (pow_pos 1074) (pow_pos 1074)) (pow_pos 1074)) (pow_pos 1074)
      (cube-value r false (q * 2 ^ f) (2 ^ 1074) vr) vx (to-cube (2 ^ 1074) (q * 2 ^ f * (q * 2 ^ f) * (q * 2 ^ f)) (pow_pos 1074) (under-it n q (2 ^ f) X w e))

  finite-most : (m j : ℕ) (y : Float) → HasValue y false (m * 2 ^ j) (2 ^ 1074) → 0 < m → m < 2 * 2 ^ 52 → T (le (cube y) x) → T (le y r)
  finite-most m j y v M N h =
      let Y = m * 2 ^ j in
      let vc = cube-value y false Y (2 ^ 1074) v in
      let Y0 : 0 < Y = mul-pos M (pow_pos j) in
      let pc = positive_of_value (cube y) (Y * Y * Y) (2 ^ 1074 * 2 ^ 1074 * 2 ^ 1074) vc (mul-pos (mul-pos Y0 Y0) Y0) in
      let c = of-cube (2 ^ 1074) (Y * Y * Y) (pow_pos 1074) (values_of_le (cube y) x (Y * Y * Y) (2 ^ 1074 * 2 ^ 1074 * 2 ^ 1074) A (2 ^ 1074) pc p vc vx h) in
      le_of_values y r Y (2 ^ 1074) (q * 2 ^ f) (2 ^ 1074) (pow_pos 1074) (pow_pos 1074) v vr (mul-le-mul_right (2 ^ 1074) (none_above (2 ^ 52) n q f X m j w e N Q c))

  root-most : (y : Float) → T (fits binary64 y) → T (le (cube y) x) → T (le y r)
  unfolding cube le
  root-most nan F h = absurd h
  root-most (inf true) F h = inf-le r pos-r
    where
      inf-le : (r : Float) → T (positive r) → T (le (inf true) r)
      inf-le nan p = absurd p
      inf-le (inf s) p = absurd p
      inf-le (fin s m e) p = tt
  root-most (inf false) F h = absurd (no-inf x p h)
  root-most (fin true m d) F h = negative-le m d r pos-r
  root-most (fin false zero d) F h = le_of_values (fin false 0 d) r 0 1 (q * 2 ^ f) (2 ^ 1074) (lit< tt) (pow_pos 1074) (refl, nothing (up d) (down d)) vr zero-le
    where
      nothing : (u d : ℕ) → 0 * u * 1 ≡ 0 * d
      nothing u d = omega arith
  root-most (fin false (suc m) d) F h =
      let g = digits_of false m d F in
      let u = in-units 1074 false (suc m) d g.1 in
      finite-most (suc m) u.j (fin false (suc m) d) u.is (lit m) g.0 h
    where
      lit : (m : ℕ) → 0 < suc m
      lit m = omega arith

-- ---- what the fields of a pattern stand for
sign_of : (v : Float) (s : Bool) (a c : ℕ) → T (positive v) → HasValue v s a c → s ≡ false
sign_of nan s a c p h = absurd p
sign_of (inf t) s a c p h = absurd p
sign_of (fin true m e) s a c p h = absurd p
sign_of (fin false m e) s a c p h = sym h.0

at_zero : (s : Bool) (t : ℕ) → HasValue (of_fields binary64 s 0 t) s (t * 2 ^ 0) (2 ^ 1074)
unfolding of_fields
at_zero s t = odd_sign 53 s t 0 1074

above_zero : (s : Bool) (k t : ℕ) → T (positive (of_fields binary64 s (suc k) t)) → HasValue (of_fields binary64 s (suc k) t) s ((2 ^ 52 + t) * 2 ^ k) (2 ^ 1074)
unfolding of_fields
above_zero s k t = go (eqb (suc k) 2047) (eqb t 0)
  where
    go : (a b : Bool) → T (positive (cond a (cond b (inf s) nan) (odd 53 s (2 ^ 52 + t) k 1074))) → HasValue (cond a (cond b (inf s) nan) (odd 53 s (2 ^ 52 + t) k 1074)) s ((2 ^ 52 + t) * 2 ^ k) (2 ^ 1074)
    go true true p = absurd p
    go true false p = absurd p
    go false b p = odd_sign 53 s (2 ^ 52 + t) k 1074

below-ones : (k t : ℕ) → k < 2046 → HasValue (of_fields binary64 false (suc k) t) false ((2 ^ 52 + t) * 2 ^ k) (2 ^ 1074)
unfolding of_fields
below-ones k t h = go (eqb (suc k) 2047) (eqb→eq (suc k) 2047)
  where
    clash : (k : ℕ) → k < 2046 → suc k ≡ 2047 → ⊥
    clash k h e = omega arith

    go : (a : Bool) → (T a → suc k ≡ 2047) → HasValue (cond a (cond (eqb t 0) (inf false) nan) (odd 53 false (2 ^ 52 + t) k 1074)) false ((2 ^ 52 + t) * 2 ^ k) (2 ^ 1074)
    go true e = absurd (clash k h (e tt))
    go false e = odd_sign 53 false (2 ^ 52 + t) k 1074

opened : (b : ℕ) → of_bits binary64 b ≡ of_fields binary64 (leb 9223372036854775808 b) (b % 9223372036854775808 / 4503599627370496) (b % 4503599627370496)
unfolding of_bits
opened b = refl

-- ---- the argument
pub record Argument (x : Float) (b : ℕ) : Type 0 where
  pub positive-x : T (positive x)
  pub value : HasValue x false ((b % 4503599627370496 + 4503599627370496) * 2 ^ (b / 4503599627370496 - 1)) (2 ^ 1074)
  pub lo : 963 ≤ b / 4503599627370496
  pub hi : b / 4503599627370496 ≤ 1063

private-range : (v : Float) (a : ℕ) → T (positive v) → HasValue v false a (2 ^ 1074) → T (le least v) → T (le v greatest) → (1 * 2 ^ 1074 ≤ a * 2 ^ 60) × (a * 1 ≤ 2 ^ 40 * 2 ^ 1074)
private-range v a p h l g = (
  values_of_le least v 1 (2 ^ 60) a (2 ^ 1074) tt p (refl, refl) h l,
  values_of_le v greatest a (2 ^ 1074) (2 ^ 40) 1 p tt h (refl, refl) g,
)

record Read (s : Bool) (E t : ℕ) (v : Float) : Type 0 where
  sign : s ≡ false
  value : HasValue v false ((2 ^ 52 + t) * 2 ^ (E - 1)) (2 ^ 1074)
  lo : 963 ≤ E
  hi : E ≤ 1063

read : (s : Bool) (E t : ℕ) → t < 4503599627370496 → T (le least (of_fields binary64 s E t)) → T (le (of_fields binary64 s E t) greatest) → Read s E t (of_fields binary64 s E t)
read s zero t H l g =
    let v = of_fields binary64 s 0 t in
    let p = between least v greatest tt tt l g in
    let z = sign_of v s (t * 2 ^ 0) (2 ^ 1074) p (at_zero s t) in
    let h = subst (λ (a : Bool). HasValue v a (t * 2 ^ 0) (2 ^ 1074)) z (at_zero s t) in
    absurd (clash (at_least t 0 1074 refl (lt_of_lt_of_le H (lit≤ tt)) (private-range v (t * 2 ^ 0) p h l g).0))
  where
    clash : 962 ≤ 0 → ⊥
    clash h = omega arith
read s (suc k) t H l g =
    let v = of_fields binary64 s (suc k) t in
    let a = (2 ^ 52 + t) * 2 ^ k in
    let p = between least v greatest tt tt l g in
    let z = sign_of v s a (2 ^ 1074) p (above_zero s k t p) in
    let h = subst (λ (c : Bool). HasValue v c a (2 ^ 1074)) z (above_zero s k t p) in
    let r = private-range v a p h l g in
    record {
      sign = z;
      value = subst (λ (i : ℕ). HasValue v false ((2 ^ 52 + t) * 2 ^ i) (2 ^ 1074)) (before k) h;
      lo = up_one (at_least (2 ^ 52 + t) k 1074 refl (lead t H) r.0);
      hi = down-one k (at_most (2 ^ 52 + t) k 1074 refl (more t) r.1);
    }
  where
    before : (k : ℕ) → k ≡ suc k - 1
    before k = omega arith

    lead : (t : ℕ) → t < 4503599627370496 → 4503599627370496 + t < 9007199254740992
    lead t h = omega arith

    more : (t : ℕ) → 4503599627370496 ≤ 4503599627370496 + t
    more t = omega arith

    up_one : {k : ℕ} → 962 ≤ k → 963 ≤ suc k
    up_one h = omega arith

    down-one : (k : ℕ) → k ≤ 1062 → suc k ≤ 1063
    down-one k h = omega arith

pub argument : (x : Float) → T (fits binary64 x) → T (le least x) → T (le x greatest) → Argument x (to_bits binary64 x)
argument x F l g =
    let b = to_bits binary64 x in
    let s = leb 9223372036854775808 b in
    let E = b % 9223372036854775808 / 4503599627370496 in
    let t = b % 4503599627370496 in
    let is : of_fields binary64 s E t ≡ x = sym (opened b) ∙ of_bits-to_bits binary64 x F in
    let r = read s E t (rest b) (subst (λ (v : Float). T (le least v)) (sym is) l) (subst (λ (v : Float). T (le v greatest)) (sym is) g) in
    let b_lt : b < 9223372036854775808 = nleb→lt 9223372036854775808 b (subst (λ (c : Bool). T (not c)) (sym r.sign) tt) in
    let E-is : E ≡ b / 4503599627370496 = exponent b b_lt in
    record {
      positive-x = between least x greatest tt tt l g;
      value = subst (λ (v : Float). HasValue v false ((b % 4503599627370496 + 4503599627370496) * 2 ^ (b / 4503599627370496 - 1)) (2 ^ 1074)) is
          (subst (λ (i : ℕ). HasValue (of_fields binary64 s E t) false ((b % 4503599627370496 + 4503599627370496) * 2 ^ (i - 1)) (2 ^ 1074)) E-is
          (subst (λ (m : ℕ). HasValue (of_fields binary64 s E t) false (m * 2 ^ (E - 1)) (2 ^ 1074)) (swap t) r.value));
      lo = subst (λ (i : ℕ). 963 ≤ i) E-is r.lo;
      hi = subst (λ (i : ℕ). i ≤ 1063) E-is r.hi;
    }
  where
    rest : (b : ℕ) → b % 4503599627370496 < 4503599627370496
    rest b = omega arith

    swap : (t : ℕ) → 4503599627370496 + t ≡ t + 4503599627370496
    swap t = omega arith

    exponent : (b : ℕ) → b < 9223372036854775808 → b % 9223372036854775808 / 4503599627370496 ≡ b / 4503599627370496
    exponent b h = omega arith

-- ---- the root's pattern
pub written : (F q : ℕ) → F < 2046 → 4503599627370496 ≤ q → q < 9007199254740992 → HasValue (of_bits binary64 (F * 4503599627370496 + q)) false (q * 2 ^ F) (2 ^ 1074)
written F q h a b =
    let R = F * 4503599627370496 + q in
    let f = fields F q h a b in
    subst (λ (v : Float). HasValue v false (q * 2 ^ F) (2 ^ 1074)) (sym (opened R))
    (subst (λ (c : Bool). HasValue (of_fields binary64 c (R % 9223372036854775808 / 4503599627370496) (R % 4503599627370496)) false (q * 2 ^ F) (2 ^ 1074)) (sym (le-false R f.0))
    (subst (λ (i : ℕ). HasValue (of_fields binary64 false i (R % 4503599627370496)) false (q * 2 ^ F) (2 ^ 1074)) (sym f.1)
    (subst (λ (t : ℕ). HasValue (of_fields binary64 false (suc F) (R % 4503599627370496)) false (t * 2 ^ F) (2 ^ 1074)) f.2
    (below-ones F (R % 4503599627370496) h))))
  where
    fields : (F q : ℕ) → F < 2046 → 4503599627370496 ≤ q → q < 9007199254740992
        → (F * 4503599627370496 + q < 9223372036854775808)
        × ((F * 4503599627370496 + q) % 9223372036854775808 / 4503599627370496 ≡ suc F)
        × (4503599627370496 + (F * 4503599627370496 + q) % 4503599627370496 ≡ q)
    fields F q h a b = (omega arith, omega arith, omega arith)

    le-false : (R : ℕ) → R < 9223372036854775808 → leb 9223372036854775808 R ≡ false
    le-false R h = lt-leb 9223372036854775808 R h

value-no-nan : (v : Float) (s : Bool) (a c : ℕ) → HasValue v s a c → T (not (is_nan v))
unfolding is_nan
value-no-nan nan s a c h = absurd h
value-no-nan (inf t) s a c h = tt
value-no-nan (fin t m e) s a c h = tt

pub argument-no-nan : (x : Float) → T (le least x) → T (not (is_nan x))
unfolding is_nan le
argument-no-nan nan h = absurd h
argument-no-nan (inf s) h = tt
argument-no-nan (fin s m e) h = tt

pub written-no-nan : (F q : ℕ) → F < 2046 → 4503599627370496 ≤ q → q < 9007199254740992 → T (not (nan_bits binary64 (F * 4503599627370496 + q)))
written-no-nan F q h a b =
    subst (λ (c : Bool). T (not c)) (sym (nan_bits_is binary64 (F * 4503599627370496 + q)))
    (value-no-nan (of_bits binary64 (F * 4503599627370496 + q)) false (q * 2 ^ F) (2 ^ 1074) (written F q h a b))

-- ---- together
pub is-largest : (x : Float) (b q : ℕ) → Argument x b
    → WholeRoot ((b % 4503599627370496 + 4503599627370496) * 2 ^ (b / 4503599627370496 % 3) % 18446744073709551616 * 20282409603651670423947251286016) q
    → 4503599627370496 ≤ q → q < 9007199254740992 → Largest x (of_bits binary64 ((b / 4503599627370496 / 3 + 681) * 4503599627370496 + q))
is-largest x b q g w lo hi =
    let e = b / 4503599627370496 in
    let m = b % 4503599627370496 + 4503599627370496 in
    let F = e / 3 + 681 in
    let n = m * 2 ^ (e % 3) * 20282409603651670423947251286016 in
    let s = shifted m e (m-lo b) (m-hi b) in
    let w' : WholeRoot n q = subst (λ (a : ℕ). WholeRoot (a * 20282409603651670423947251286016) q) s.fits w in
    let r = of_bits binary64 (F * 4503599627370496 + q) in
    let vr = written F q (field e g.hi) lo hi in
    let E = exponents m e 1074 refl (some e g.lo) in
    record {
      held = of_bits-fits binary64 (F * 4503599627370496 + q);
      under = root-under n q F x r (m * 2 ^ (e - 1)) g.positive-x g.value vr w' E lo;
      most = root-most n q F x r (m * 2 ^ (e - 1)) g.positive-x g.value vr w' E lo;
    }
  where
    m-lo : (b : ℕ) → 4503599627370496 ≤ b % 4503599627370496 + 4503599627370496
    m-lo b = omega arith

    m-hi : (b : ℕ) → b % 4503599627370496 + 4503599627370496 < 9007199254740992
    m-hi b = omega arith

    field : (e : ℕ) → e ≤ 1063 → e / 3 + 681 < 2046
    field e h = omega arith

    some : (e : ℕ) → 963 ≤ e → 0 < e
    some e h = omega arith

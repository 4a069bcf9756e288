-- A float equals itself unless it is a NaN; hex digits, the last one apart. Assumes nothing.
use mathlib.Core.Path.{◌≡◌, refl, ap, sym, ◌∙◌}
use mathlib.Core.Bool.{Bool, true, false, beq, not, ◌||◌}
use mathlib.Core.List.{List, [], ◌∷◌, ◌++◌, append_assoc}
use Prim.Native.Nat.{ℕ, zero, suc, ◌+◌, ◌-◌, ◌*◌, ◌/◌, ◌%◌, ◌≤◌, ◌<◌}
use native.Mathlib.Omega.{arith}
use borrow.Author.Tests.{eq-eqb, lt-ltb, le-ltb}
use lib.Dec.{T, eqb}
use lib.ListN.{length}
use lib.Ieee.{Float, nan, inf, fin, binary64, eq, is_nan, to_bits, up, down}
use Rattle.field.specs.Words.{hex_digit, hex}

-- ---- a NaN

never : true ≡ false → {A : Type 0} → A
never e = absurd (let z : ◌≡◌ {A = ℕ} 0 1 = cc in let w : ⊥ = omega arith in w)

pub equal_no_nan : (x : Float) → eq x x ≡ true → T (not (is_nan x))
unfolding eq is_nan
equal_no_nan nan e = never (sym e)
equal_no_nan (inf s) e = tt
equal_no_nan (fin s m k) e = tt

same_sign : (s : Bool) (b : Bool) → (beq s s || b) ≡ true
same_sign true b = refl
same_sign false b = refl

pub unequal-nan : (x : Float) → eq x x ≡ false → 9221120237041090560 ≡ to_bits binary64 x
unfolding eq to_bits
unequal-nan nan e = refl
unequal-nan (inf true) e = never e
unequal-nan (inf false) e = never e
unequal-nan (fin s m k) e =
    let n = m * up k * down k in
    never (rw (eq-eqb n n refl, same_sign s (eqb n 0)) at e)

-- ---- hex digits

pub digit_low : (d : ℕ) → d < 10 → 48 + d ≡ hex_digit d
digit_low d lt = rw (lt-ltb d 10 lt)

pub digit-high : (d : ℕ) → 10 ≤ d → 87 + d ≡ hex_digit d
digit-high d le = rw (le-ltb d 10 le)

hex-append : (k n : ℕ) (l : List ℕ) → hex k n l ≡ hex k n [] ++ l
unfolding hex
hex-append zero n l = refl
hex-append (suc k) n l =
    let d = hex_digit (n % 16) in
    hex-append k (n / 16) (d ∷ l) ∙ sym (ap (λ (h : List ℕ). h ++ l) (hex-append k (n / 16) (d ∷ [])) ∙ append_assoc (hex k (n / 16) []) (d ∷ []) l)

pub hex-one : (n k : ℕ) → k ≡ 0 → hex_digit (n % 16) ∷ [] ≡ hex (suc k) n []
unfolding hex
hex-one n k e = rw e

pub hex-more : (n k : ℕ) → (k ≡ 0 → ⊥) → hex (suc (k - 1)) (n / 16) [] ++ (hex_digit (n % 16) ∷ []) ≡ hex (suc k) n []
unfolding hex
hex-more n k pos =
    let e : suc (k - 1) ≡ k = omega arith in
    ap (λ (j : ℕ). hex j (n / 16) [] ++ (hex_digit (n % 16) ∷ [])) e ∙ sym (hex-append k (n / 16) (hex_digit (n % 16) ∷ []))

pub hex-length : (k n : ℕ) (l : List ℕ) → length (hex k n l) ≡ k + length l
unfolding hex
hex-length zero n l = omega arith
hex-length (suc k) n l = hex-length k (n / 16) (hex_digit (n % 16) ∷ l) ∙ omega arith

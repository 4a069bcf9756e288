-- Decimal digits: the last one apart, and how many there are. Assumes nothing.
use mathlib.Core.Logic.{⊎_elim}
use mathlib.Core.Path.{◌≡◌, refl, ap, sym, ◌∙◌}
use mathlib.Core.Bool.{Bool, true, false, cond}
use mathlib.Core.List.{List, [], ◌∷◌, ◌++◌, append_assoc}
use Prim.Native.Nat.{ℕ, zero, suc, ◌+◌, ◌*◌, ◌^◌, ◌/◌, ◌%◌, ◌≤◌, ◌<◌}
use native.Mathlib.Nat.{pow-succ', eq-zero-or-pos}
use native.Mathlib.Omega.{arith}
use borrow.Author.Tests.{ne_eqb}
use lib.Dec.{eqb}
use lib.ListN.{length}
use Rattle.model.specs.Trace.{digits, decimal}

abbrev last : ℕ → ℕ
last n = 48 + n % 10

cond_same : {A : Type 0} (t : Bool) {a b c d : A} → (t ≡ true → a ≡ c) → (t ≡ false → b ≡ d) → cond t a b ≡ cond t c d
cond_same true f g = f refl
cond_same false f g = g refl

cond-append : (t : Bool) (a b l : List ℕ) → cond t a b ++ l ≡ cond t (a ++ l) (b ++ l)
cond-append true a b l = refl
cond-append false a b l = refl

-- what stands behind stays behind
digits_append : (k n : ℕ) (l : List ℕ) → digits k n l ≡ digits k n [] ++ l
unfolding digits
digits_append zero n l = refl
digits_append (suc k) n l =
    let e : digits k (n / 10) (last n ∷ l) ≡ digits k (n / 10) (last n ∷ []) ++ l =
    digits_append k (n / 10) (last n ∷ l) ∙ sym (ap (λ (d : List ℕ). d ++ l) (digits_append k (n / 10) (last n ∷ [])) ∙ append_assoc (digits k (n / 10) []) (last n ∷ []) l) in
    cond_same (eqb (n / 10) 0) (λ t. refl) (λ t. e) ∙ sym (cond-append (eqb (n / 10) 0) (last n ∷ []) (digits k (n / 10) (last n ∷ [])) l)

-- more than enough is as good as enough
pub digits-fuel : (k j n : ℕ) (l : List ℕ) → k ≤ j → n < 10 ^ suc k → digits (suc j) n l ≡ digits (suc k) n l
unfolding digits
digits-fuel zero j n l le lt = let e : n / 10 ≡ 0 = omega arith in rw e
digits-fuel (suc k) zero n l le lt = absurd (let w : ⊥ = omega arith in w)
digits-fuel (suc k) (suc j) n l le lt =
    let p : 10 ^ suc (suc k) ≡ 10 * 10 ^ suc k = pow-succ' 10 (suc k) in
    cond_same (eqb (n / 10) 0) (λ t. refl) (λ t. digits-fuel k j (n / 10) (last n ∷ l) (omega arith) (omega arith))

digits_step : (k n : ℕ) (l : List ℕ) → (n / 10 ≡ 0 → ⊥) → digits (suc k) n l ≡ digits k (n / 10) (last n ∷ l)
unfolding digits
digits_step k n l e = rw (ne_eqb (n / 10) 0 e)

-- one digit
pub decimal-one : (n : ℕ) → n < 10 → last n ∷ [] ≡ decimal n
unfolding digits
decimal-one n lt = let e : n / 10 ≡ 0 = omega arith in rw e

-- the digits before the last, and the last
pub decimal-more : (n : ℕ) → 10 ≤ n → n < 2 ^ 64 → decimal (n / 10) ++ (last n ∷ []) ≡ decimal n
decimal-more n le lt =
    let e : n / 10 ≡ 0 → ⊥ = λ z. omega arith in
    let f : digits 20 (n / 10) [] ≡ digits 19 (n / 10) [] = digits-fuel 18 19 (n / 10) [] (omega arith) (omega arith) in
    sym (digits_step 19 n [] e ∙ (digits_append 19 (n / 10) (last n ∷ []) ∙ ap (λ (d : List ℕ). d ++ (last n ∷ [])) (sym f)))

-- at most so many digits
digits-length : (k n : ℕ) (l : List ℕ) → length (digits k n l) ≤ k + length l
unfolding digits
digits-length zero n l = omega arith
digits-length (suc k) n l = ⊎_elim
    (λ z. rw z (omega arith))
    (λ pos. rw (ne_eqb (n / 10) 0 (λ e. omega arith)) (let h = digits-length k (n / 10) (last n ∷ l) in omega arith))
    (eq-zero-or-pos (n / 10))

pub decimal-length : (n : ℕ) → length (decimal n) ≤ 20
decimal-length n = digits-length 20 n []

pub decimal-short : (n : ℕ) → n < 256 → length (decimal n) ≤ 3
decimal-short n lt = rw (digits-fuel 2 19 n [] (omega arith) (omega arith)) (digits-length 3 n [])

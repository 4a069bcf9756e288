-- Bytes written one list after another are written as one list. Assumes nothing.
use mathlib.Core.Logic.{⊎_elim}
use mathlib.Core.Path.{◌≡◌, refl, ap, sym, ◌∙◌}
use mathlib.Core.List.{List, [], ◌∷◌, ◌++◌}
use Prim.Native.Nat.{ℕ, suc, ◌+◌, ◌-◌, ◌≤◌, ◌<◌, min}
use native.Mathlib.Nat.{eq-zero-or-pos}
use native.Mathlib.Numerals.{add-one}
use native.Mathlib.Omega.{arith}
use lib.ListN.{length, take, set, get_or, length-append}
use lib.Seq.{sets, length-sets, set_out, take-suc, take_all}
use Rattle.trace.specs.Put.{Put}

pub sets-append : (l : List ℕ) (i : ℕ) (a b : List ℕ) → sets l i (a ++ b) ≡ sets (sets l i a) (i + length a) b
sets-append l i [] b = let e : i + 0 ≡ i = omega arith in ap (λ (k : ℕ). sets l k b) (sym e)
sets-append l i (x ∷ a) b =
    let e : suc i + length a ≡ i + suc (length a) = omega arith in
    sets-append (set l i x) (suc i) a b ∙ ap (λ (k : ℕ). sets (sets (set l i x) (suc i) a) k b) e

-- nothing is written past the end
pub sets-past : (l : List ℕ) (i : ℕ) (a : List ℕ) → length l ≤ i → sets l i a ≡ l
sets-past l i [] le = refl
sets-past l i (x ∷ a) le = rw (set_out l i x le) (sets-past l (suc i) a (omega arith))

pub put_length : {out : List ℕ} {at : ℕ} {l after : List ℕ} {next : ℕ} → Put out at l after next → length after ≡ length out
put_length {out} {at} {l} p = ap length p.bytes ∙ length-sets out at l

pub put_out : (out : List ℕ) (at b : ℕ) → length out ≤ at → Put out at (b ∷ []) out (length out)
put_out out at b le = record { bytes = sym (set_out out at b le); place = omega arith }

pub put_none : (out : List ℕ) (at : ℕ) {next : ℕ} → next ≡ min at (length out) → Put out at [] out next
put_none out at e = record { bytes = refl; place = e ∙ (let z : at + 0 ≡ at = omega arith in rw z) }

-- a place cut at the end writes the same
sets-cut : (l : List ℕ) (i : ℕ) (b : List ℕ) → sets l (min i (length l)) b ≡ sets l i b
sets-cut l i b = ⊎_elim
    (λ z. let e : min i (length l) ≡ i = omega arith in rw e)
    (λ pos. let e : min i (length l) ≡ length l = omega arith in rw e (sets-past l (length l) b (omega arith) ∙ sym (sets-past l i b (omega arith))))
    (eq-zero-or-pos (i - length l))

-- one after another
pub put_then : {out : List ℕ} {at : ℕ} {a m : List ℕ} {p : ℕ} {b after : List ℕ} {next : ℕ} → Put out at a m p → Put m p b after next → Put out at (a ++ b) after next
put_then {out} {at} {a} {m} {p} {b} f g =
    let size : length m ≡ length out = put_length f in
    let e : p ≡ min (at + length a) (length m) = rw size f.place in
    record {
      bytes = g.bytes ∙ (ap (λ (k : ℕ). sets m k b) e ∙ (sets-cut m (at + length a) b ∙ (ap (λ (k : List ℕ). sets k (at + length a) b) f.bytes ∙ sym (sets-append out at a b))));
      place = g.place ∙ rw (length-append a b, size, f.place) (omega arith);
    }

-- a byte of a word more
pub put_more : {out : List ℕ} {at : ℕ} {m : List ℕ} {p : ℕ} {after : List ℕ} {next : ℕ} (word : List ℕ) (i : ℕ) → i < length word →
    Put out at (take i word) m p → Put m p (get_or word i 0 ∷ []) after next → Put out at (take (i + 1) word) after next
put_more word i lt f g = rw (add-one, take-suc word i 0 lt) (put_then f g)

pub put_whole : {out : List ℕ} {at : ℕ} {after : List ℕ} {next : ℕ} (word : List ℕ) (i : ℕ) → length word ≤ i → Put out at (take i word) after next → Put out at word after next
put_whole word i le f = rw (take_all i word le) at f

-- what is written, by another name
pub put_same : {out : List ℕ} {at : ℕ} {l k after : List ℕ} {next : ℕ} → l ≡ k → Put out at l after next → Put out at k after next
put_same e f = rw e at f

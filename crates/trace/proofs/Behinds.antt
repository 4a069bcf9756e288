-- Bytes put behind what a text has, one list after another, are put as one list; what is written into its array from its length on is put behind it. Assumes nothing.
use mathlib.Core.Logic.{⊎_elim}
use mathlib.Core.Path.{◌≡◌, refl, ap, sym, ◌∙◌}
use mathlib.Core.List.{List, [], ◌∷◌, ◌++◌, append-nil, append_assoc}
use Prim.Native.Nat.{ℕ, suc, zero, ◌+◌, ◌-◌, ◌≤◌}
use native.Mathlib.Nat.{eq-zero-or-pos}
use native.Mathlib.Omega.{arith}
use lib.ListN.{length, take, drop, length-append, length-take, take-append-drop}
use lib.Seq.{sets, sets-eq, length-sets, take-nil, take_at, take-take, drop_at, length-take-le}
use native.Mathlib.Numerals.{unary_clauses}
use Rattle.std.proofs.lemmas.List.{take_all}
use Rattle.trace.specs.Put.{Put}
use Rattle.trace.specs.Behind.{Behind}
use Rattle.trace.specs.Padded.{Padded}
use Rattle.trace.proofs.Puts.{sets-append, sets-past, put_length}
use Rattle.trace.proofs.Padding.{padded_more}

-- the first n of two lists
take_both : (n : ℕ) (a b : List ℕ) → take n (a ++ b) ≡ take n a ++ take (n - length (take n a)) b
take_both zero a b = refl
take_both (suc n) [] b = simp unary_clauses refl
take_both (suc n) (x ∷ a) b = simp unary_clauses (ap (λ (l : List ℕ). x ∷ l) (take_both n a b))

-- one after another
pub behind_then : {N : ℕ} {t a m b after : List ℕ} → Behind N t a m → Behind N m b after → Behind N t (a ++ b) after
behind_then {N} {t} {a} {m} {b} f g =
    let n = N - length t in
    let e : N - length (t ++ take n a) ≡ n - length (take n a) = rw (length-append t (take n a)) (omega arith) in
    record {
      is = g.is ∙ (ap (λ (l : List ℕ). l ++ take (N - length l) b) f.is
          ∙ (append_assoc t (take n a) (take (N - length (t ++ take n a)) b) ∙ ap (λ (l : List ℕ). t ++ l) (ap (λ (k : ℕ). take n a ++ take k b) e ∙ sym (take_both n a b))));
    }

-- what is put, by another name
pub behind_same : {N : ℕ} {t l k after : List ℕ} → l ≡ k → Behind N t l after → Behind N t k after
behind_same e f = rw e at f

-- nothing put changes nothing
pub behind_none : (N : ℕ) (t : List ℕ) → Behind N t [] t
behind_none N t = record { is = sym (ap (λ (l : List ℕ). t ++ l) (take-nil (N - length t)) ∙ append-nil t) }

-- where there is room, all of it is put
pub behind_all : {N : ℕ} {t l after : List ℕ} → Behind N t l after → length t + length l ≤ N → after ≡ t ++ l
behind_all {N} {t} {l} p room = p.is ∙ ap (λ (k : List ℕ). t ++ k) (take_all (N - length t) l (omega arith))

-- ---- an array, and a text in its first bytes

-- what does not fit is not written
sets_room : (out : List ℕ) (at : ℕ) (l : List ℕ) → at ≤ length out → length out - at ≤ length l → sets out at l ≡ sets out at (take (length out - at) l)
sets_room out at l inside long =
    let k = length out - at in
    let e : length out ≤ at + length (take k l) = rw (length-take k l) (omega arith) in
    let past : sets (sets out at (take k l)) (at + length (take k l)) (drop k l) ≡ sets out at (take k l) =
    sets-past (sets out at (take k l)) (at + length (take k l)) (drop k l) (rw (length-sets out at (take k l)) e) in
    ap (λ (m : List ℕ). sets out at m) (sym (take-append-drop k l)) ∙ (sets-append out at (take k l) (drop k l) ∙ past)

sets_first : (out : List ℕ) (at : ℕ) (l : List ℕ) → at ≤ length out → sets out at l ≡ sets out at (take (length out - at) l)
sets_first out at l inside =
    ⊎_elim
    (λ z. ap (λ (m : List ℕ). sets out at m) (sym (take_all (length out - at) l (omega arith))))
    (λ pos. sets_room out at l inside (omega arith))
    (eq-zero-or-pos (length l - (length out - at)))

-- the bytes before the place, what is written, and the bytes after it
module _ {out : List ℕ} {at : ℕ} {l after : List ℕ} {next : ℕ} (inside : at ≤ length out) (p : Put out at l after next) where
  front_length : length (take at out ++ take (length out - at) l) ≡ next
  front_length = rw (length-append (take at out) (take (length out - at) l), length-take at out, length-take (length out - at) l) (omega (arith, p.place))

  put_split : after ≡ (take at out ++ take (length out - at) l) ++ drop next out
  put_split =
      let k = length out - at in
      let room : at + length (take k l) ≤ length out = rw (length-take k l) (omega arith) in
      let e : at + length (take k l) ≡ next = rw (length-take k l) (omega (arith, p.place)) in
      p.bytes ∙ (sets_first out at l inside ∙ (sets-eq (take k l) out at room ∙ ap (λ (n : ℕ). (take at out ++ take k l) ++ drop n out) e))

  pub behind_put : {N : ℕ} {t : List ℕ} → length out ≡ N → take at out ≡ t → Behind N t l (take next after)
  behind_put {N} {t} size text =
      let e : length (take at out) ≡ at = length-take-le at out inside in
      record { is = rw (← size, ← text, e, put_split) (take_at (take at out ++ take (length out - at) l) (drop next out) next front_length) }

-- what is written from the start of a buffer as long as a text may be is put behind the text as it would be without the buffer
pub behind_room : {N : ℕ} {room l room' : List ℕ} {next : ℕ} {t after : List ℕ} → length room ≡ N → Put room 0 l room' next → Behind N t (take next room') after → Behind N t l after
behind_room {N} {room} {l} {room'} {next} {t} size p q =
    let first : Behind N [] l (take next room') = behind_put (omega arith) p size refl in
    let e : N - 0 ≡ N = omega arith in
    let written : take next room' ≡ take N l = rw e at first.is in
    record { is = q.is ∙ ap (λ (k : List ℕ). t ++ k) (ap (take (N - length t)) written ∙ take-take (N - length t) N l (omega arith)) }

-- zeros stay behind it
pub padded_put : {size : ℕ} {out : List ℕ} {at : ℕ} {l after : List ℕ} {next : ℕ} → Padded size out at → Put out at l after next → Padded size after next
padded_put {size} {out} {at} {l} {after} {next} z p =
    let inside : at ≤ length out = omega arith in
    let e : length (take at out ++ take (length out - at) l) ≡ next = front_length inside p in
    let d : drop next after ≡ drop next out = rw (put_split inside p) (drop_at (take at out ++ take (length out - at) l) (drop next out) next e) in
    padded_more z (omega arith) (omega arith) (put_length p ∙ z.whole) d

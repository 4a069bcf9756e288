-- A line, put together from its fields, and its length: every line fits 96 bytes. Assumes nothing.
use mathlib.Core.Path.{◌≡◌, refl, ap, ◌∙◌}
use mathlib.Core.List.{List, [], ◌∷◌, ◌++◌, append_assoc}
use Prim.Native.Nat.{ℕ, ◌+◌, ◌≤◌, ◌<◌}
use native.Mathlib.Omega.{arith}
use lib.ListN.{length, replicate, length-append, length-replicate}
use lib.Seq.{sets-eq}
use Rattle.std.proofs.lemmas.List.{drop-replicate}
use Rattle.model.specs.Trace.{Line, shows, bad_at, end, text, printed, decimal, timer_text, spaced}
use Rattle.trace.specs.Put.{Put}
use Rattle.trace.specs.Behind.{Behind}
use Rattle.trace.specs.Padded.{padded}
use Rattle.trace.proofs.Behinds.{behind_then, behind_all}
use Rattle.trace.proofs.Digits.{decimal-length, decimal-short}
use Rattle.std.specs.Prelude.{Option, Some, None}
use Rattle.arith.specs.declared.time.Moment.{Moment}

-- ---- a buffer of zeros that a list was written into

pub put-padded : {z out : List ℕ} {n : ℕ} (size : ℕ) (l : List ℕ) → z ≡ replicate size 0 → Put z 0 l out n → length l ≤ size → (out ≡ padded size l) × (n ≡ length l)
put-padded {z} {out} {n} size l e p le =
    let f : length z ≡ size = ap length e ∙ length-replicate size 0 in
    let g : z ≡ replicate size 0 = e in (
      p.bytes ∙ (sets-eq l z 0 (omega arith) ∙ ap (λ (r : List ℕ). l ++ r) (rw (e) (let h : 0 + length l ≡ length l = omega arith in rw h (drop-replicate (length l) size 0)))),
      p.place ∙ (omega arith),
    )

-- ---- a line's fields

pub shown-fields : (kind refusal window bytes : ℕ) (timer : Option Moment) →
    (decimal kind ++ (32 ∷ [])) ++ ((decimal refusal ++ (32 ∷ [])) ++ ((decimal window ++ (32 ∷ [])) ++ ((decimal bytes ++ (32 ∷ [])) ++ timer_text timer)))
    ≡ text (shows kind refusal window bytes timer)
unfolding text
shown-fields kind refusal window bytes timer = simp append_assoc

pub line-end : (line : Line) → text line ++ (10 ∷ []) ≡ printed (line ∷ [])
unfolding printed
line-end line = refl

pub timer-length : (timer : Option Moment) → length (timer_text timer) ≤ 20
timer-length None = omega arith
timer-length (Some m) = decimal-length m.0

spaced-length : (a b : List ℕ) (m n : ℕ) → length a ≤ m → length b ≤ n → length (spaced a b) ≤ m + 1 + n
spaced-length a b m n p q = rw (length-append a (32 ∷ b)) (omega arith)

line-length : (line : Line) (n : ℕ) → length (text line) ≤ n → length (printed (line ∷ [])) ≤ n + 1
unfolding printed
line-length line n p = rw (length-append (text line) (10 ∷ [])) (omega arith)

pub shown-length : (kind refusal window bytes : ℕ) (timer : Option Moment) → kind < 256 → length (printed (shows kind refusal window bytes timer ∷ [])) ≤ 96
unfolding text
shown-length kind refusal window bytes timer lt =
    let h = line-length (shows kind refusal window bytes timer) 87
    (spaced-length (decimal kind) _ 3 83 (decimal-short kind lt)
    (spaced-length (decimal refusal) _ 20 62 (decimal-length refusal)
    (spaced-length (decimal window) _ 20 41 (decimal-length window)
    (spaced-length (decimal bytes) (timer_text timer) 20 20 (decimal-length bytes) (timer-length timer))))) in
    omega arith

-- a line put on an empty text is the line: it fits
pub whole-line : (line : Line) {a b : List ℕ} → Behind 96 [] (text line) a → Behind 96 a (10 ∷ []) b → length (printed (line ∷ [])) ≤ 96 → b ≡ printed (line ∷ [])
unfolding printed
whole-line line p q le = behind_all (behind_then p q) (omega arith)

-- ---- the last line

pub bad-length : (at : ℕ) → length (printed (bad_at at ∷ [])) ≤ 96
unfolding text
bad-length at = let h = decimal-length at in let l = line-length (bad_at at) 27 (omega arith) in omega arith

pub end-length : (n : ℕ) → length (printed (end n ∷ [])) ≤ 96
unfolding text
end-length n = let h = decimal-length n in let l = line-length (end n) 24 (omega arith) in omega arith

-- Words written one behind another make a sentence. Assumes nothing.
use mathlib.Core.Path.{sym}
use mathlib.Core.List.{List, [], ◌∷◌, append-nil}
use Prim.Native.Nat.{ℕ}
use Rattle.trace.specs.Put.{Put}
use Rattle.trace.proofs.Puts.{put_same, put_then}
use Rattle.field.specs.Words.{sentence}

-- the last word of a sentence
pub put_last : {out : List ℕ} {at : ℕ} {w after : List ℕ} {next : ℕ} → Put out at w after next → Put out at (sentence (w ∷ [])) after next
put_last {w = w} f = put_same (sym (append-nil w)) f

pub ruleset sentences = (put_then, put_last)

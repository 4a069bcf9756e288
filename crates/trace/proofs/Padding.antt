-- Zeros stay behind what is written next, and stand alone where what was written is zeroed. Assumes nothing.
use mathlib.Core.Path.{◌≡◌, ap, ◌∙◌}
use mathlib.Core.List.{List, ◌++◌}
use Prim.Native.Nat.{ℕ, ◌+◌, ◌-◌, ◌≤◌}
use native.Mathlib.Omega.{arith}
use lib.ListN.{length, take, drop, replicate, length-replicate}
use lib.Seq.{drop-drop}
use Rattle.std.proofs.lemmas.List.{drop-replicate, replicate-append-replicate}
use Rattle.trace.specs.Padded.{Padded, padded_length}

module _ {size : ℕ} {items : List ℕ} {count : ℕ} (p : Padded size items count) where
  -- the zeros from a later place on
  padded_from : (next : ℕ) → count ≤ next → next ≤ size → drop next items ≡ replicate (size - next) 0
  padded_from next more fits =
      let k = next - count in
      let e : count + k ≡ next = omega arith in
      let n : size - count - k ≡ size - next = omega arith in
      let d : drop k (drop count items) ≡ replicate (size - count - k) 0 = rw p.zeros (drop-replicate k (size - count) 0) in
      rw (drop-drop k count items, e, n) at d

  pub padded_more : {after : List ℕ} {next : ℕ} → count ≤ next → next ≤ size → length after ≡ size → drop next after ≡ drop next items → Padded size after next
  padded_more {next = next} more fits whole same =
      record {
        inside = fits;
        whole = whole;
        zeros = same ∙ padded_from next more fits;
      }

  pub padded_cleared : {zeros : List ℕ} → zeros ≡ replicate (length (take count items)) 0 → Padded size (zeros ++ drop count items) 0
  padded_cleared {zeros} e =
      let n : count + (size - count) ≡ size = omega (arith, p.inside) in
      let all : zeros ++ drop count items ≡ replicate size 0 = rw (e, padded_length p, p.zeros, replicate-append-replicate {A = ℕ} count (size - count) 0, n) in
      let z : size - 0 ≡ size = omega arith in
      record { inside = omega arith; whole = ap length all ∙ length-replicate size 0; zeros = rw z all }

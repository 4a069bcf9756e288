-- What an audit's answer tells, proved. Assumes nothing.
use Prim.Native.Nat.{ℕ, ◌+◌}
use mathlib.Core.Path.{◌≡◌, refl, ap, sym, ◌∙◌}
use mathlib.Core.List.{List, [], ◌∷◌, ◌++◌, Permᴰ}
use native.Mathlib.Omega.{arith}
use Rattle.arith.specs.Whole.{within, sum_of}
use Rattle.arith.proofs.Laws.{within-fine, within-over, fine-is, fine-small, over-large}
use Rattle.model.specs.Connection.{outstanding}
use Rattle.model.specs.declared.Sent.{Sent}
use Rattle.audit.specs.Total.{total_of, all_records}
use Rattle.audit.specs.Audited.{Audited}
use Rattle.audit.proofs.Laws.{one_more, one_by_one}

-- what is out of a list is out of its parts
pub of_parts : (l k : List Sent) → outstanding (l ++ k) ≡ outstanding l + outstanding k
unfolding outstanding
of_parts [] k = omega arith
of_parts (r ∷ l) k = let rest = of_parts l k in let a = one_more r (l ++ k) in let b = one_more r l in omega arith

-- and is the same in any order
pub of-any-order : {l k : List Sent} → Permᴰ l k → outstanding l ≡ outstanding k
of-any-order Permᴰ.nil = refl
of-any-order (Permᴰ.cons {a} {b} {l₁} {l₂} e p) = rw e (one_more b l₁ ∙ ap (λ (n : ℕ). outstanding (b ∷ []) + n) (of-any-order p) ∙ sym (one_more b l₂))
of-any-order (Permᴰ.swap {a} {b} {a'} {b'} {l} e f) =
    rw (e, f) (let p = one_more b' (a' ∷ l) in let q = one_more a' l in let s = one_more a' (b' ∷ l) in let t = one_more b' l in omega arith)
of-any-order (Permᴰ.trans p q) = of-any-order p ∙ of-any-order q

pub audited : Audited
unfolding total_of all_records sum_of
audited =
    record {
      fine = λ l n e. (sym (fine-is (outstanding l) e), fine-small (outstanding l) e);
      fits = λ l n e small. rw e (within-fine n small);
      over = λ l e. over-large (outstanding l) e;
      passes = λ l large. within-over (outstanding l) large;
      one_by_one = one_by_one;
      any_order = λ l k p. ap within (of-any-order p);
      parts = λ l k m n e f. ap within (rw (of_parts l k, fine-is (outstanding l) e, fine-is (outstanding k) f));
      spaces = λ c. rw (of_parts c.initial.records, of_parts c.handshake.records);
    }

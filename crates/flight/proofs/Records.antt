-- What is out of a list of records, as records are marked and drained. Assumes nothing.
use Prim.Native.Nat.{ℕ, ◌+◌}
use mathlib.Core.Path.{◌≡◌, refl}
use mathlib.Core.Bool.{Bool, true, false, cond, ◌&&◌, not}
use mathlib.Core.List.{List, [], ◌∷◌, ◌++◌}
use native.Mathlib.Omega.{arith}
use Rattle.arith.specs.declared.time.Moment.{Moment}
use Rattle.arith.specs.declared.time.Span.{Span}
use Rattle.model.specs.Connection.{outstanding}
use Rattle.model.specs.Sent.{standing, marked, may_leave_by, may_leave, drained}
use Rattle.model.specs.declared.Sent.{Sent}
use Rattle.audit.proofs.Laws.{one_more}
use Rattle.flight.specs.Flight.{count_out}
use Rattle.std.specs.Prelude.{Option, Some, None}

pub one-counted : (r : Sent) (l : List Sent) → count_out (r ∷ l) ≡ count_out (r ∷ []) + count_out l
unfolding count_out
one-counted r l = go (r.in_flight && standing r)
  where
    go : (b : Bool) → cond b (1 + count_out l) (count_out l) ≡ cond b (1 + 0) 0 + count_out l
    go true = omega arith
    go false = omega arith

pub counted-parts : (l k : List Sent) → count_out (l ++ k) ≡ count_out l + count_out k
unfolding count_out
counted-parts [] k = omega arith
counted-parts (r ∷ l) k = let rest = counted-parts l k in let a = one-counted r (l ++ k) in let b = one-counted r l in omega arith

-- from the first list to the second, so many bytes and so many records are no longer out
pub record Less (l k : List Sent) (b n : ℕ) : Type 0 where
  pub bytes : outstanding l ≡ outstanding k + b
  pub count : count_out l ≡ count_out k + n

pub less_none : (l : List Sent) → Less l l 0 0
less_none l = record { bytes = omega arith; count = omega arith }

pub less-first : {r q : Sent} {l k : List Sent} {b n d m : ℕ} → Less (r ∷ []) (q ∷ []) b n → Less l k d m → Less (r ∷ l) (q ∷ k) (b + d) (n + m)
less-first {r} {q} {l} {k} x y =
    record {
      bytes = omega (arith, x.bytes, y.bytes, one_more r l, one_more q k);
      count = omega (arith, x.count, y.count, one-counted r l, one-counted q k);
    }

pub less_then : {l k j : List Sent} {b n d m : ℕ} → Less l k b n → Less k j d m → Less l j (b + d) (n + m)
less_then x y = record { bytes = omega (arith, x.bytes, y.bytes); count = omega (arith, x.count, y.count) }

-- ---- one record

pub out-bytes : (r : Sent) → (r.in_flight && standing r) ≡ true → outstanding (r ∷ []) ≡ r.size
unfolding outstanding
out-bytes r e = rw e (omega arith)

pub out-count : (r : Sent) → (r.in_flight && standing r) ≡ true → count_out (r ∷ []) ≡ 1
unfolding count_out
out-count r e = rw e

pub gone-bytes : (r : Sent) → (r.in_flight && standing r) ≡ false → outstanding (r ∷ []) ≡ 0
unfolding outstanding
gone-bytes r e = rw e

pub gone-count : (r : Sent) → (r.in_flight && standing r) ≡ false → count_out (r ∷ []) ≡ 0
unfolding count_out
gone-count r e = rw e

never : (b : Bool) → (b && false) ≡ false
never true = refl
never false = refl

-- not standing, so not out
pub fallen : (r : Sent) → standing r ≡ false → (r.in_flight && standing r) ≡ false
fallen r e = rw e (never r.in_flight)

-- not in flight, so not out
pub aside : (r : Sent) → r.in_flight ≡ false → (r.in_flight && standing r) ≡ false
aside r e = rw e

pub both : (r : Sent) → r.in_flight ≡ true → standing r ≡ true → (r.in_flight && standing r) ≡ true
both r e f = rw (e, f)

-- out before and not after
pub less-out : (r q : Sent) → (r.in_flight && standing r) ≡ true → (q.in_flight && standing q) ≡ false → Less (r ∷ []) (q ∷ []) r.size 1
less-out r q e f = record { bytes = omega (arith, out-bytes r e, gone-bytes q f); count = omega (arith, out-count r e, gone-count q f) }

-- out neither before nor after
pub less-neither : (r q : Sent) → (r.in_flight && standing r) ≡ false → (q.in_flight && standing q) ≡ false → Less (r ∷ []) (q ∷ []) 0 0
less-neither r q e f = record { bytes = omega (arith, gone-bytes r e, gone-bytes q f); count = omega (arith, gone-count r e, gone-count q f) }

-- an acked one and a lost one are not standing
pub acked-fallen : (r : Sent) → r.acked ≡ true → standing r ≡ false
acked-fallen r e = rw e

pub lost-fallen : (r : Sent) {t : Moment} → r.time_lost ≡ Some t → standing r ≡ false
lost-fallen r e = rw e (never (not r.acked))

pub is-standing : (r : Sent) → r.acked ≡ false → r.time_lost ≡ None → standing r ≡ true
is-standing r e f = rw (e, f)

pub marked-acked : (r : Sent) (t : Option Moment) → ((marked r true t).in_flight && standing (marked r true t)) ≡ false
unfolding marked
marked-acked r t = fallen (marked r true t) refl

pub marked-lost : (r : Sent) (t : Moment) → ((marked r false (Some t)).in_flight && standing (marked r false (Some t))) ≡ false
unfolding marked
marked-lost r t = fallen (marked r false (Some t)) refl

-- ---- draining takes none that is out

leaves-fallen : (r : Sent) (now : Moment) (smoothed : Span) → may_leave now smoothed r ≡ true → standing r ≡ false
leaves-fallen r now smoothed = go r.time_lost refl
  where
    go : (t : Option Moment) → r.time_lost ≡ t → may_leave_by t r.acked now smoothed ≡ true → standing r ≡ false
    go None e may = acked-fallen r may
    go (Some t) e may = lost-fallen r e

pub less-drained : (now : Moment) (smoothed : Span) (l : List Sent) → Less l (drained now smoothed l) 0 0
unfolding drained
less-drained now smoothed [] = less_none []
less-drained now smoothed (r ∷ l) = go (may_leave now smoothed r) refl (less-drained now smoothed l)
  where
    go : (b : Bool) → may_leave now smoothed r ≡ b → Less l (drained now smoothed l) 0 0 → Less (r ∷ l) (cond b (drained now smoothed l) (r ∷ l)) 0 0
    go true e x =
        let f = fallen r (leaves-fallen r now smoothed e) in
        record { bytes = omega (arith, x.bytes, one_more r l, gone-bytes r f); count = omega (arith, x.count, one-counted r l, gone-count r f) }
    go false e x = less_none (r ∷ l)

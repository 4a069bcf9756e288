-- What an event leaves of a space's records and of the other spaces. Assumes nothing.
use mathlib.Core.Path.{◌≡◌, refl, ap, ap₂, sym, ◌∙◌, subst}
use mathlib.Core.Bool.{Bool, true, false, cond, ◌&&◌, not}
use mathlib.Core.List.{List, [], ◌∷◌, ◌++◌, map}
use mathlib.Core.Logic.{◌⊎◌, ⊎_elim, inl, inr}
use Prim.Native.Nat.{ℕ, zero, suc, ◌+◌, ◌-◌, ◌≤◌, ◌<◌}
use native.Mathlib.Nat.{sub-zero}
use native.Mathlib.Omega.{arith}
use lib.Dec.{T, ltb, eqb}
use lib.ListN.{length, drop, get_or, length-map, length-drop}
use lib.Seq.{get_or-drop}
use borrow.Author.Tests.{ltb-true, ltb-false}
use Rattle.arith.specs.declared.time.Moment.{Moment}
use Rattle.arith.specs.declared.time.Span.{Span}
use Rattle.arith.specs.Refusals.{must}
use Rattle.model.specs.Numbers.{is_unset}
use Rattle.model.specs.Sent.{marked, standing, may_leave, drained}
use Rattle.model.specs.Loss.{is_lost}
use Rattle.model.specs.Timer.{timer_of}
use Rattle.model.specs.Connection.{Space, Connection, space_at, with_space, with_shared, with_timer, facts_of, timed}
use Rattle.model.specs.Strength.{acknowledged, ends, scanned, fallen, Elsewhere}
use Rattle.model.specs.declared.HandshakeStatus.{HandshakeStatus}
use Rattle.model.specs.declared.Judge.{Judge}
use Rattle.arith.specs.declared.refusal.Refusal.{Refusal}
use Rattle.model.specs.declared.Sent.{Sent}
use Rattle.model.specs.declared.Shared.{Shared}
use Rattle.model.proofs.Peel.{All, all-is, all_then, no_value}
use Rattle.std.specs.Prelude.{Result, Ok, Option, Some}

-- ---- records

abbrev marks : List Sent → List Bool
marks l = map (λ r. r.acked) l

-- k is what is left of l: so many have gone at the front, and each that is ticked is acked, or has gone
pub record Remains (ticks : List Bool) (l k : List Sent) : Type 0 where
  pub gone : ℕ
  pub many : gone + length k ≡ length l
  pub acks : (i : ℕ) → i < length l → T (get_or ticks i false) → (i < gone) ⊎ T (get_or (marks k) (i - gone) false)

length-acknowledged : (ticks : List Bool) (l : List Sent) → length (acknowledged ticks l) ≡ length l
unfolding acknowledged
length-acknowledged [] l = refl
length-acknowledged (b ∷ bs) [] = refl
length-acknowledged (false ∷ bs) (r ∷ l) = ap suc (length-acknowledged bs l)
length-acknowledged (true ∷ bs) (r ∷ l) = ap suc (length-acknowledged bs l)

acknowledged-at : (ticks : List Bool) (l : List Sent) (i : ℕ) → i < length l → T (get_or ticks i false) → T (get_or (marks (acknowledged ticks l)) i false)
unfolding acknowledged marked
acknowledged-at [] l i h t = absurd t
acknowledged-at (b ∷ bs) [] i h t = absurd (let w : ⊥ = omega arith in w)
acknowledged-at (false ∷ bs) (r ∷ l) zero h t = absurd t
acknowledged-at (false ∷ bs) (r ∷ l) (suc i) h t = acknowledged-at bs l i (omega arith) t
acknowledged-at (true ∷ bs) (r ∷ l) zero h t = tt
acknowledged-at (true ∷ bs) (r ∷ l) (suc i) h t = acknowledged-at bs l i (omega arith) t

pub remains-acked : (ticks : List Bool) (l : List Sent) → Remains ticks l (acknowledged ticks l)
remains-acked ticks l =
    record {
      gone = 0;
      many = omega (arith, length-acknowledged ticks l);
      acks = λ i h t. inr (subst (λ (x : ℕ). T (get_or (marks (acknowledged ticks l)) x false)) (sym (sub-zero i)) (acknowledged-at ticks l i h t));
    }

-- draining drops some at the front
drained-drops : (now : Moment) (smoothed : Span) (l : List Sent) → (m : ℕ) × (m ≤ length l) × (drained now smoothed l ≡ drop m l)
unfolding drained
drained-drops now smoothed [] = (0, omega arith, refl)
drained-drops now smoothed (r ∷ l) = go (may_leave now smoothed r) (drained-drops now smoothed l)
  where
    go : (b : Bool) → (m : ℕ) × (m ≤ length l) × (drained now smoothed l ≡ drop m l) →
        (m : ℕ) × (m ≤ length (r ∷ l)) × (cond b (drained now smoothed l) (r ∷ l) ≡ drop m (r ∷ l))
    go true h = (suc h.0, omega arith, h.2)
    go false h = (0, omega arith, refl)

marks-drop : (m : ℕ) (l : List Sent) → marks (drop m l) ≡ drop m (marks l)
marks-drop zero l = refl
marks-drop (suc m) [] = refl
marks-drop (suc m) (r ∷ l) = marks-drop m l

remains-drop : {ticks : List Bool} {l k : List Sent} (m : ℕ) → m ≤ length k → Remains ticks l k → Remains ticks l (drop m k)
remains-drop {ticks} {l} {k} m le h =
    record {
      gone = h.gone + m;
      many = omega (arith, h.many, length-drop m k);
      acks = λ i small t. ⊎_elim (λ x. inl (omega arith)) (λ x. by i x (ltb (i - h.gone) m) refl) (h.acks i small t);
    }
  where
    by : (i : ℕ) → T (get_or (marks k) (i - h.gone) false) → (b : Bool) → ltb (i - h.gone) m ≡ b → (i < h.gone + m) ⊎ T (get_or (marks (drop m k)) (i - (h.gone + m)) false)
    by i x true e = inl (omega (arith, ltb-true (i - h.gone) m e))
    by i x false e =
        let same : m + (i - (h.gone + m)) ≡ i - h.gone = omega (arith, ltb-false (i - h.gone) m e) in
        inr (rw (marks-drop m k, get_or-drop, same) x)

pub remains-drained : {ticks : List Bool} {l k : List Sent} (now : Moment) (smoothed : Span) → Remains ticks l k → Remains ticks l (drained now smoothed k)
remains-drained {ticks} {l} {k} now smoothed h =
    let d = drained-drops now smoothed k in
    subst (λ (x : List Sent). Remains ticks l x) (sym d.2) (remains-drop d.0 d.1 h)

-- a loss marks none that is acked
fall-acked : (r : Sent) (b : Bool) (t : Option Moment) → (standing r ≡ false → b ≡ false) → (cond b (marked r false t) r).acked ≡ r.acked
unfolding marked
fall-acked r false t h = refl
fall-acked r true t h = go r.acked refl
  where
    go : (a : Bool) → r.acked ≡ a → false ≡ r.acked
    go false e = sym e
    go true e = sym (h (ap (λ (x : Bool). not x && is_unset r.time_lost) e)) ∙ sym e

first-false : (a b : Bool) → a ≡ false → (a && b) ≡ false
first-false a b e = ap (λ (x : Bool). x && b) e

fallen-marks : (j : Judge) (l : List Sent) → marks (fallen j l) ≡ marks l
unfolding fallen scanned
fallen-marks j [] = refl
fallen-marks j (r ∷ l) = go (ends j r) (fallen-marks j l)
  where
    fall : Sent → Sent
    fall q = cond (standing q && is_lost j q) (marked q false (Some j.now)) q

    same : (fall r).acked ≡ r.acked
    same = fall-acked r (standing r && is_lost j r) (Some j.now) (first-false (standing r) (is_lost j r))

    go : (b : Bool) → marks (map fall (scanned j l) ++ drop (length (scanned j l)) l) ≡ marks l →
        marks (map fall (cond b [] (r ∷ scanned j l)) ++ drop (length (cond b [] (r ∷ scanned j l))) (r ∷ l)) ≡ r.acked ∷ marks l
    go true ih = refl
    go false ih = ap₂ (λ (x : Bool) (y : List Bool). x ∷ y) same ih

pub remains-fallen : {ticks : List Bool} {l k : List Sent} (j : Judge) → Remains ticks l k → Remains ticks l (fallen j k)
remains-fallen {ticks} {l} {k} j h =
    let n : length (fallen j k) ≡ length k = sym (length-map (fallen j k) (λ r. r.acked)) ∙ ap length (fallen-marks j k) ∙ length-map k (λ r. r.acked) in
    record {
      gone = h.gone;
      many = omega (arith, h.many, n);
      acks = λ i small t. ⊎_elim (λ x. inl x) (λ x. inr (subst (λ (z : List Bool). T (get_or z (i - h.gone) false)) (sym (fallen-marks j k)) x)) (h.acks i small t);
    }

-- draining twice is draining once
pub drained-twice : (now : Moment) (smoothed : Span) (l : List Sent) → drained now smoothed (drained now smoothed l) ≡ drained now smoothed l
unfolding drained
drained-twice now smoothed [] = refl
drained-twice now smoothed (r ∷ l) = go (may_leave now smoothed r) refl (drained-twice now smoothed l)
  where
    go : (b : Bool) → may_leave now smoothed r ≡ b → drained now smoothed (drained now smoothed l) ≡ drained now smoothed l →
        drained now smoothed (cond b (drained now smoothed l) (r ∷ l)) ≡ cond b (drained now smoothed l) (r ∷ l)
    go true e ih = ih
    go false e ih = ap (λ (x : Bool). cond x (drained now smoothed l) (r ∷ l)) e

-- ---- spaces

-- the space that was put there
pub with-here : (n : ℕ) (s : Space) (x : Shared) (c : Connection) → space_at n (with_shared x (with_space n s c)) ≡ s
unfolding space_at with_space
with-here n s x c = go (eqb n 0) (eqb n 1)
  where
    put : Bool → Bool → Connection
    put a b =
        cond a (record { initial = s; handshake = c.handshake; application = c.application; shared = c.shared })
        (cond b (record { initial = c.initial; handshake = s; application = c.application; shared = c.shared })
        (record { initial = c.initial; handshake = c.handshake; application = s; shared = c.shared }))

    go : (a b : Bool) → cond a (put a b).initial (cond b (put a b).handshake (put a b).application) ≡ s
    go true b = refl
    go false true = refl
    go false false = refl

-- a statement about the spaces is one about each of the three
by-space : (P : ℕ → Type 0) → P 0 → P 1 → P 2 → (n : ℕ) → n < 3 → P n
by-space P a b c zero lt = a
by-space P a b c (suc zero) lt = b
by-space P a b c (suc (suc zero)) lt = c
by-space P a b c (suc (suc (suc n))) lt = absurd (let z : ⊥ = omega arith in z)

-- and the others
pub with-else : (n : ℕ) (s : Space) (x : Shared) (c : Connection) → n < 3 → Elsewhere n c (with_shared x (with_space n s c))
unfolding space_at with_space
with-else n s x c =
    by-space (λ n. Elsewhere n c (with_shared x (with_space n s c)))
    (by-space (λ k. (k ≡ 0 → ⊥) → space_at k (with_shared x (with_space 0 s c)) ≡ space_at k c) (λ e. absurd (e refl)) (λ e. refl) (λ e. refl))
    (by-space (λ k. (k ≡ 1 → ⊥) → space_at k (with_shared x (with_space 1 s c)) ≡ space_at k c) (λ e. refl) (λ e. absurd (e refl)) (λ e. refl))
    (by-space (λ k. (k ≡ 2 → ⊥) → space_at k (with_shared x (with_space 2 s c)) ≡ space_at k c) (λ e. refl) (λ e. refl) (λ e. absurd (e refl)))
    n

-- an event that ends in the timer: the connection before it, but for the timer
abbrev pub Ended : Shared → Connection → Connection → Type 0
Ended x w d = (t : Option Moment) × (d ≡ with_shared (with_timer t x) w)

pub ended : (now : Moment) (status : HandshakeStatus) (x : Shared) (w : Connection) → All (Ended x w) (timed now status (with_shared x w))
unfolding timed
ended now status x w =
    all_then (Ended x w) (timer_of (facts_of now status (with_shared x w))) (λ t. Ok (with_shared (with_timer t x) w)) λ t e.
    all-is (Ended x w) (with_shared (with_timer t x) w) (t, refl)

-- a test that an accepted event has passed
pub all_tested : {A : Type 0} (P : A → Type 0) (b : Bool) (k : Refusal) (r : Result A Refusal) → (b ≡ true → All P r) → All P (must b k r)
all_tested P true k r h = h refl
all_tested P false k r h = λ a e. no_value e

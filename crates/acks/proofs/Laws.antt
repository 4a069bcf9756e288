-- What a caller learns of step 1: the flags as a list, the sums' other fields, the last newly acked record, and a word's distance. Assumes nothing.
use mathlib.Core.Path.{◌≡◌, refl, ap, sym, path_j, ◌∙◌}
use mathlib.Core.Bool.{Bool, true, false, cond, ◌||◌}
use denote.Struct.Props.{props}
use mathlib.Core.List.{List, [], ◌∷◌, ◌++◌}
use mathlib.Core.Logic.{◌⊎◌, inl, inr, ⊎_elim}
use Prim.Native.Nat.{ℕ, zero, suc, ◌+◌, ◌-◌, ◌≤◌, ◌<◌, min}
use native.Mathlib.Nat.{zero-add, suc-add}
use native.Mathlib.Omega.{arith}
use lib.ListN.{length, get_or, length-append}
use lib.Seq.{ext_get_or}
use Rattle.arith.specs.Refusals.{then}
use Rattle.arith.specs.declared.time.Moment.{Moment}
use Rattle.arith.specs.declared.time.Span.{Span}
use Rattle.marks.specs.Marks.{flagged, held_at, acked_at, is_newly, newly_of, acked_all, handles_of}
use Rattle.marks.specs.Survey.{weighed, survey}
use Rattle.marks.specs.declared.Covered.{Covered}
use Rattle.marks.specs.declared.Tally.{Tally}
use Rattle.marks.proofs.Rings.{held-records, acked-ring, newly-past}
use Rattle.marks.proofs.Split.{met_by, finish, split}
use Rattle.marks.proofs.SplitLoss.{handles-cons}
use Rattle.model.specs.Ack.{Met, meet_all, reordered_by, reordered}
use Rattle.model.specs.Connection.{Connection}
use Rattle.model.specs.Events.{any_eliciting, acked_some, acked_by}
use Rattle.model.specs.Numbers.{capacity}
use Rattle.model.specs.Sent.{covered}
use Rattle.model.specs.declared.HandshakeStatus.{HandshakeStatus}
use Rattle.arith.specs.declared.refusal.Refusal.{Refusal}
use Rattle.model.specs.declared.Reordering.{Reordering}
use Rattle.model.specs.declared.Sent.{Sent}
use Rattle.records.specs.View.{ring, records_of}
use Rattle.records.proofs.Laws.{length-records}
use Rattle.acks.specs.Cover.{Covers}
use Rattle.acks.specs.Fitted.{fit_number, fitted, fresh}
use Rattle.acks.proofs.Flags.{length-covered}
use Rattle.acks.proofs.Fitting.{Took, Kept, One, one, Back, back, back-refused}
use Rattle.std.specs.Prelude.{Result, Ok, Err, Option, Some, None}

-- ---- the flags

ring-list : (f : ℕ → Bool) (bs : List Bool) (a : ℕ) → ((i : ℕ) → f (a + i) ≡ get_or bs i false) → ring f a (length bs) ≡ bs
unfolding ring
ring-list f [] a p = refl
ring-list f (b ∷ bs) a p =
    let x : f a ≡ b = (let e : a ≡ a + 0 = omega arith in ap f e) ∙ p 0 in
    let y : ring f (a + 1) (length bs) ≡ bs = ring-list f bs (a + 1) (λ i. let e : a + 1 + i ≡ a + suc i = omega arith in ap f e ∙ p (suc i)) in
    cc

module _ (words : List ℕ) (l : List Sent) (r : Covered) (c : Covers words l r) where
  -- the flags of as many places as there are records are the ranges' records
  pub covers-ring : ring (flagged r.flags) 0 (length l) ≡ covered words l
  covers-ring =
      rw (← length-covered words l)
      (ring-list (flagged r.flags) (covered words l) 0 (λ i. ap (flagged r.flags) (zero-add i) ∙ c.flags.held i))

-- any two answers that the claim allows are equal
pub one-cover : (words : List ℕ) (l : List Sent) (a b : Covered) → Covers words l a → Covers words l b → a ≡ b
one-cover words l a b c d =
    let x : a.flags ≡ b.flags =
    ext_get_or false a.flags b.flags (c.flags.size ∙ sym d.flags.size) (λ i lt. c.flags.held i ∙ sym (d.flags.held i)) in
    same a.flags b.flags a.last b.last x (c.last ∙ sym d.last) a.past b.past
  where
    Past : List Bool → ℕ → Type 0
    Past fs k = (i : ℕ) → k ≤ i → flagged fs i ≡ false

    past-prop : (fs : List Bool) (k : ℕ) → IsProp (Past fs k)
    past-prop fs k = hlevel props

    made : (fs : List Bool) (k : ℕ) → Past fs k → Covered
    made fs k u = record { flags = fs; last = k; past = u }

    same : (x y : List Bool) (p q : ℕ) → x ≡ y → p ≡ q → (u : Past x p) (v : Past y q) → made x p u ≡ made y q v
    same x y p q e f u =
        path_j (λ y' _. (v : Past y' q) → made x p u ≡ made y' q v)
        (path_j (λ q' _. (v : Past x q') → made x p u ≡ made x q' v) (λ v. ap (made x p) (past-prop x p u v)) f) e

-- ---- the sums' other fields

-- a list that ends with a record
pub record Ends (l : List Sent) (r : Sent) : Type 0 where
  pub before : List Sent
  pub ends : l ≡ before ++ (r ∷ [])

-- the newly acked among some places, of which g gives the records
pub record Tallied (g : ℕ → Sent) (ns : List Sent) (t u : Tally) : Type 0 where
  pub newly : u.newly ≡ t.newly + length ns
  pub queued : u.queued ≡ t.queued + length (handles_of ns)
  pub room : t.queued ≤ capacity → u.queued ≤ capacity
  pub eliciting : u.eliciting ≡ (t.eliciting || any_eliciting ns)
  pub last : ((ns ≡ []) × (u.last ≡ t.last)) ⊎ Ends ns (g u.last)

or_assoc : (a b c : Bool) → ((a || b) || c) ≡ (a || (b || c))
or_assoc true b c = refl
or_assoc false b c = refl

or-false : (a : Bool) → a ≡ (a || false)
or-false true = refl
or-false false = refl

then-ok : {A : Type 0} (x : Result Tally Refusal) (Z : Tally → Result Tally Refusal) {u : Tally} → Ok u ≡ then x Z → ((v : Tally) → Ok v ≡ x → Ok u ≡ Z v → A) → A
then-ok (Ok v) Z e k = k v refl e
then-ok (Err n) Z e k = absurd (let z : ◌≡◌ {A = ℕ} 0 1 = cc in let w : ⊥ = omega arith in w)

module _ (f : ℕ → Bool) (g : ℕ → Sent) (largest : ℕ) where
  -- the first record, and the others
  module _ (i : ℕ) (t v u : Tally) (ns : List Sent) (d : Tallied g ns v u) where
    first-took : Took i (g i) t v → Tallied g (g i ∷ ns) t u
    unfolding any_eliciting
    first-took k =
        let h : length (handles_of (g i ∷ ns)) ≡ length (handles_of (g i ∷ [])) + length (handles_of ns) =
        ap length (handles-cons (g i) ns) ∙ length-append (handles_of (g i ∷ [])) (handles_of ns) in
        let a = d.newly in
        let b = d.queued in
        let p = k.newly in
        let q = k.queued in
        record {
          newly = omega arith;
          queued = omega arith;
          room = λ r. d.room (k.room r);
          eliciting = d.eliciting ∙ rw k.eliciting (or_assoc t.eliciting (g i).ack_eliciting (any_eliciting ns));
          last = inr (⊎_elim
              (λ (n : (ns ≡ []) × (u.last ≡ v.last)). record { before = []; ends = rw (n.0, n.1, k.last) refl })
              (λ (n : Ends ns (g u.last)). record { before = g i ∷ n.before; ends = ap (λ (l : List Sent). g i ∷ l) n.ends })
              d.last);
        }

    first-kept : Kept t v → Tallied g ns t u
    first-kept k =
        let a = d.newly in
        let b = d.queued in
        let p = k.newly in
        let q = k.queued in
        record {
          newly = omega arith;
          queued = omega arith;
          room = λ r. d.room (omega arith);
          eliciting = d.eliciting ∙ rw k.eliciting refl;
          last = ⊎_elim (λ (n : (ns ≡ []) × (u.last ≡ v.last)). inl (n.0, n.1 ∙ k.last)) (λ n. inr n) d.last;
        }

    first : (w : Bool) → One largest i (g i) t w v → Tallied g (cond w (g i ∷ ns) ns) t u
    first true o = first-took (o.took refl)
    first false o = first-kept (o.kept refl)

  -- c places from place i on
  pub tallied : (i c : ℕ) (t : Tally) {u : Tally} → Ok u ≡ survey largest i (ring f i c) (ring g i c) t → Tallied g (newly_of (ring f i c) (ring g i c)) t u
  unfolding survey ring newly_of handles_of any_eliciting
  tallied i zero t {u} e =
      let z : u ≡ t = cc in
      rw z
      (record { newly = omega arith; queued = omega arith; room = λ r. r; eliciting = or-false t.eliciting; last = inl (refl, refl) })
  tallied i (suc c) t {u} e =
      then-ok (weighed (f i) largest i (g i) t) (survey largest (i + 1) (ring f (i + 1) c) (ring g (i + 1) c)) e
      (λ v x y. first i t v u (newly_of (ring f (i + 1) c) (ring g (i + 1) c)) (tallied (i + 1) c v y) (is_newly (f i) (g i)) (one largest i (g i) t (f i) x))

  -- the same as words hold it
  pub tallied-fit : (i c : ℕ) (t : Tally) {u : Tally} → Ok u ≡ fitted (survey largest i (ring f i c) (ring g i c) t) → Tallied g (newly_of (ring f i c) (ring g i c)) t u
  tallied-fit i c t {u} e =
      let k = back (survey largest i (ring f i c) (ring g i c) t) e in
      let d = tallied i c t k.fits in
      rw k.short (record { newly = d.newly; queued = d.queued; room = d.room; eliciting = d.eliciting; last = d.last })

-- from a fresh tally: some record is newly acked, and the last of them is the one at `last`; or none is
module _ (g : ℕ → Sent) (ns : List Sent) (queued in_flight : ℕ) {u : Tally} (d : Tallied g ns (fresh queued in_flight) u) where
  pub newly-some : (u.newly ≡ 0 → ⊥) → Ends ns (g u.last)
  newly-some some = ⊎_elim
      (λ (n : (ns ≡ []) × (u.last ≡ 0)).
      let a = d.newly in let b : length ns ≡ 0 = ap length n.0 in absurd (some (omega arith)))
      (λ n. n)
      d.last

  pub newly-zero : u.newly ≡ 0 → ns ≡ []
  newly-zero z = empty ns (let a = d.newly in omega arith)
    where
      empty : (l : List Sent) → length l ≡ 0 → l ≡ []
      empty [] e = refl
      empty (r ∷ l) e = absurd (let w : ⊥ = omega arith in w)

-- the event goes by the last of the newly acked
pub acked-last : (xs : List Sent) (r : Sent) (now : Moment) (n : ℕ) (delay : Span) (status : HandshakeStatus) (limited : Bool) (records : List Sent) (m : Met) (o : Reordering) (c : Connection) →
    acked_by (xs ++ (r ∷ [])) now n delay status limited records m o c ≡ acked_some now n delay status limited records m r o c
unfolding acked_by
acked-last [] r now n delay status limited records m o c = refl
acked-last (x ∷ []) r now n delay status limited records m o c = refl
acked-last (x ∷ (y ∷ xs)) r now n delay status limited records m o c = acked-last (y ∷ xs) r now n delay status limited records m o c

-- ---- a word's distance

-- reordering learns the same of it
pub reordered-fit : (d : Option ℕ) (spurious : ℕ) (o : Reordering) → reordered (fit_number d) spurious o ≡ reordered d spurious o
unfolding reordered reordered_by
reordered-fit None spurious o = refl
reordered-fit (Some d) spurious o = let e : min (min d 18446744073709551615) 20 ≡ min d 20 = omega arith in rw e refl

-- where the largest is below 2^64-1, it is the distance itself
module _ (largest : ℕ) (low : largest < 18446744073709551615) where
  short-one : (r : Sent) (d e : Option ℕ) → fit_number d ≡ d → (e ≡ d) ⊎ (e ≡ Some (largest - r.number + 1)) → fit_number e ≡ e
  short-one r d e s p = ⊎_elim
      (λ (x : e ≡ d). rw x s)
      (λ (x : e ≡ Some (largest - r.number + 1)). let y : min (largest - r.number + 1) 18446744073709551615 ≡ largest - r.number + 1 = omega arith in rw (x, y) refl)
      p

  pub survey-short : (i : ℕ) (bs : List Bool) (l : List Sent) (t : Tally) → fit_number t.distance ≡ t.distance → fitted (survey largest i bs l t) ≡ survey largest i bs l t
  unfolding survey
  survey-short i [] l t s = rw s refl
  survey-short i (b ∷ bs) [] t s = rw s refl
  survey-short i (b ∷ bs) (r ∷ l) t s =
      go (survey largest (i + 1) bs l) (survey-short (i + 1) bs l) (weighed b largest i r t)
      (λ u e. short-one r t.distance u.distance s (one largest i r t b e).distance)
    where
      go : (Z : Tally → Result Tally Refusal) → ((u : Tally) → fit_number u.distance ≡ u.distance → fitted (Z u) ≡ Z u) → (x : Result Tally Refusal) →
          ((u : Tally) → Ok u ≡ x → fit_number u.distance ≡ u.distance) → fitted (then x Z) ≡ then x Z
      go Z ih (Ok u) p = ih u (p u refl)
      go Z ih (Err n) p = refl

  pub survey-whole : (bs : List Bool) (l : List Sent) (queued in_flight : ℕ) → fitted (survey largest 0 bs l (fresh queued in_flight)) ≡ survey largest 0 bs l (fresh queued in_flight)
  survey-whole bs l queued in_flight = survey-short 0 bs l (fresh queued in_flight) refl

-- ---- no range holds any record from place k on

same-on : (x : Result Tally Refusal) (Y Z : Tally → Result Tally Refusal) → ((u : Tally) → Y u ≡ Z u) → then x Y ≡ then x Z
same-on (Ok u) Y Z p = p u
same-on (Err n) Y Z p = refl

module _ (f : ℕ → Bool) (g : ℕ → Sent) (largest : ℕ) where
  pub survey-none : (a c : ℕ) (t : Tally) → ((i : ℕ) → a ≤ i → i < a + c → f i ≡ false) → survey largest a (ring f a c) (ring g a c) t ≡ Ok t
  unfolding survey ring weighed
  survey-none a zero t off = refl
  survey-none a (suc c) t off =
      rw (off a (omega arith) (omega arith)) (survey-none (a + 1) c t (λ i l r. off i (omega arith) (omega arith)))

  survey-add : (a k d : ℕ) (t : Tally) → ((i : ℕ) → a + k ≤ i → i < a + k + d → f i ≡ false) →
      survey largest a (ring f a (k + d)) (ring g a (k + d)) t ≡ survey largest a (ring f a k) (ring g a k) t
  unfolding survey ring
  survey-add a zero d t off = rw (zero-add d) (survey-none a d t (λ i l r. off i (omega arith) (omega arith)))
  survey-add a (suc k) d t off =
      rw (suc-add k d)
      (same-on (weighed (f a) largest a (g a) t)
      (survey largest (a + 1) (ring f (a + 1) (k + d)) (ring g (a + 1) (k + d)))
      (survey largest (a + 1) (ring f (a + 1) k) (ring g (a + 1) k))
      (λ u. survey-add (a + 1) k d u (λ i l r. off i (omega arith) (omega arith))))

  pub survey-past : (k c : ℕ) (t : Tally) → k ≤ c → ((i : ℕ) → k ≤ i → i < c → f i ≡ false) →
      survey largest 0 (ring f 0 c) (ring g 0 c) t ≡ survey largest 0 (ring f 0 k) (ring g 0 k) t
  survey-past k c t le off =
      let e : c ≡ k + (c - k) = omega arith in
      ap (λ (x : ℕ). survey largest 0 (ring f 0 x) (ring g 0 x) t) e ∙ survey-add 0 k (c - k) t (λ i l r. off i (omega arith) (omega arith))

-- ---- the model's own words: the records of a space, c of them from slot head on, and the ranges that were covered

module _ (words m : List ℕ) (n head c : ℕ) (r : Covered) (d : Covers words (records_of m n head c) r) where
  -- the flags, as the list that the model goes by
  pub cover-ring : ring (flagged r.flags) 0 c ≡ covered words (records_of m n head c)
  cover-ring = rw (length-records m n head c) at (covers-ring words (records_of m n head c) r d)

  off : (i : ℕ) → min c r.last ≤ i → i < c → flagged r.flags i ≡ false
  off i le lt = r.past i (omega arith)

  -- who is newly acked
  pub newly-covered :
      newly_of (ring (flagged r.flags) 0 (min c r.last)) (ring (held_at m n head) 0 (min c r.last))
      ≡ newly_of (covered words (records_of m n head c)) (records_of m n head c)
  newly-covered =
      sym (newly-past (flagged r.flags) (held_at m n head) (min c r.last) c (omega arith) off) ∙ rw (cover-ring, held-records m n head c) refl

  -- what step 1 comes to
  pub survey-covered : (largest : ℕ) (t : Tally) →
      survey largest 0 (ring (flagged r.flags) 0 (min c r.last)) (ring (held_at m n head) 0 (min c r.last)) t
      ≡ survey largest 0 (covered words (records_of m n head c)) (records_of m n head c) t
  survey-covered largest t =
      sym (survey-past (flagged r.flags) (held_at m n head) largest (min c r.last) c t (omega arith) off) ∙ rw (cover-ring, held-records m n head c) refl

  -- the records after step 1
  pub acked-covered : ring (acked_at m n head r.flags) 0 c ≡ acked_all (covered words (records_of m n head c)) (records_of m n head c)
  acked-covered = sym (acked-ring m n head r.flags 0 c) ∙ rw (cover-ring, held-records m n head c) refl

  -- step 1 itself, from what `meet_all` answers: q is the acked queue
  module _ (largest : ℕ) (q : List ℕ) (in_flight : ℕ) where
    abbrev pub unmet : Met
    unmet = record { queue = q; newly = []; acked_bytes = 0; in_flight = in_flight; spurious = 0; distance = None; spurious_in_flight = false }

    abbrev pub surveyed : Result Tally Refusal
    surveyed = survey largest 0 (ring (flagged r.flags) 0 (min c r.last)) (ring (held_at m n head) 0 (min c r.last)) (fresh (length q) in_flight)

    abbrev pub newly_acked : List Sent
    newly_acked = newly_of (ring (flagged r.flags) 0 (min c r.last)) (ring (held_at m n head) 0 (min c r.last))

    step-one :
        meet_all largest (covered words (records_of m n head c)) (records_of m n head c) unmet
        ≡ finish surveyed (ring (acked_at m n head r.flags) 0 c) (q ++ handles_of newly_acked) newly_acked
    step-one =
        split largest 0 (covered words (records_of m n head c)) (records_of m n head c) unmet 0 0 false
        ∙ rw (survey-covered largest (fresh (length q) in_flight), acked-covered, newly-covered) refl

    pub step_fits : {u : Tally} (b : Back surveyed u) →
        meet_all largest (covered words (records_of m n head c)) (records_of m n head c) unmet
        ≡ Ok (record { records = ring (acked_at m n head r.flags) 0 c; met = met_by b.tally (q ++ handles_of newly_acked) newly_acked })
    unfolding finish
    step_fits b = step-one ∙ ap (λ (x : Result Tally Refusal). finish x (ring (acked_at m n head r.flags) 0 c) (q ++ handles_of newly_acked) newly_acked) (sym b.fits)

    pub step-refused : {why : Refusal} → Err why ≡ fitted surveyed → meet_all largest (covered words (records_of m n head c)) (records_of m n head c) unmet ≡ Err why
    unfolding finish
    step-refused e = step-one ∙ ap (λ (x : Result Tally Refusal). finish x (ring (acked_at m n head r.flags) 0 c) (q ++ handles_of newly_acked) newly_acked) (sym (back-refused surveyed e))

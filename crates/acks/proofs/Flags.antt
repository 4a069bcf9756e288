-- Which records the ranges hold, a range at a time: the flags of a list, the walk, the search, and the place after the last one held. Assumes nothing.
use mathlib.Core.Path.{◌≡◌, refl, ap, sym, subst, ◌∙◌}
use mathlib.Core.Bool.{Bool, true, false, cond, ◌&&◌}
use mathlib.Core.List.{List, [], ◌∷◌, ◌++◌, append-nil, append_assoc}
use mathlib.Core.Logic.{⊎_elim}
use Prim.Native.Nat.{ℕ, zero, suc, ◌+◌, ◌-◌, ◌/◌, ◌%◌, ◌≤◌, ◌<◌, min}
use native.Mathlib.Nat.{eq-zero-or-pos}
use native.Mathlib.Omega.{arith}
use borrow.Author.Tests.{eq-eqb, ne_eqb, lt-ltb, le-ltb}
use lib.Dec.{eqb, ltb}
use lib.ListN.{length, get_or, set, take, drop, replicate, length-append, length-drop, length-replicate, length-set, get_or-replicate, replicate-append-replicate, take-append-drop, get_or-append, get_or-eq_default}
use lib.Seq.{take-length, get_or-append-add, get_or-set_same, get_or-set_other, length-take-le, take_at, drop_at, drop-drop, get_or_at}
use Rattle.model.specs.Numbers.{capacity}
use Rattle.model.specs.Sent.{halved, number_at, place_of, count_below, covered}
use Rattle.model.specs.declared.Sent.{Sent}
use Rattle.records.specs.View.{at, bit, record_at, records_of}
use Rattle.records.proofs.Laws.{record-number, records-first, records-drop, records-mod, length-records}
use Rattle.records.proofs.Rings.{ring-end}
use Rattle.records.proofs.Halving.{lt-or-ge}
use Rattle.marks.specs.Marks.{flagged}
use Rattle.marks.specs.declared.Covered.{Covered}
use Rattle.acks.specs.Cover.{past_last, Flags, Covers, Walked, Ranged}
use Rattle.acks.specs.declared.cover.Reach.{Reach}

-- ---- lists

nil-at : (i : ℕ) → get_or [] i false ≡ false
nil-at i = get_or-eq_default [] false {n = i} (omega arith)

past_end : (bs cs : List Bool) (i : ℕ) → length bs ≤ i → get_or (bs ++ cs) i false ≡ get_or cs (i - length bs) false
past_end bs cs i le =
    let e : i ≡ length bs + (i - length bs) = omega arith in
    ap (λ (k : ℕ). get_or (bs ++ cs) k false) e ∙ get_or-append-add bs cs (i - length bs) false

false-at : (k i : ℕ) → get_or (replicate k false) i false ≡ false
false-at k i = ⊎_elim (λ lt. get_or-replicate k i false false lt) (λ ge. get_or-eq_default (replicate k false) false (rw length-replicate ge)) (lt-or-ge i k)

-- one more at the end
replicate-snoc : (k : ℕ) → replicate (k + 1) true ≡ replicate k true ++ (true ∷ [])
replicate-snoc k = sym (replicate-append-replicate k 1 true)

-- ---- flags

pub flags-zeros : Flags (replicate capacity false) []
flags-zeros = record { held = λ i. false-at capacity i ∙ sym (nil-at i); size = length-replicate {A = Bool} capacity false }

pub flags-false : (fs : List Bool) (bs : List Bool) (k : ℕ) → Flags fs bs → Flags fs (bs ++ replicate k false)
flags-false fs bs k f =
    record {
      held = λ i. f.held i ∙ sym (⊎_elim
          (λ lt. get_or-append bs (replicate k false) false i lt)
          (λ ge. past_end bs (replicate k false) i ge ∙ false-at k (i - length bs) ∙ sym (get_or-eq_default bs false ge))
          (lt-or-ge i (length bs)));
      size = f.size;
    }

pub flags-true : (fs : List Bool) (bs : List Bool) (i : ℕ) → Flags fs bs → length bs ≡ i → i < capacity → Flags (set fs i true) (bs ++ (true ∷ []))
flags-true fs bs i f len lt =
    record {
      held = λ j. ⊎_elim
          (λ (l : j < i).
          get_or-set_other fs i j true false (λ e. let z : ⊥ = omega arith in z)
          ∙ f.held j ∙ (sym (get_or-append bs (true ∷ []) false j (omega arith))))
          (λ (l : i ≤ j). ⊎_elim
          (λ (k : i < j).
          get_or-set_other fs i j true false (λ e. let z : ⊥ = omega arith in z)
          ∙ f.held j
          ∙ (get_or-eq_default bs false (omega arith))
          ∙ (sym (get_or-eq_default (bs ++ (true ∷ [])) false (rw length-append (omega arith)))))
          (λ (k : j ≤ i).
          let e : j ≡ i = omega arith in
          rw (e, get_or-set_same fs i true false (rw f.size lt), get_or_at bs true [] false i len))
          (lt-or-ge i j))
          (lt-or-ge j i);
      size = length-set fs i true ∙ f.size;
    }

-- one record more in the walk
pub flags-walk : (fs : List Bool) (bs : List Bool) (place i : ℕ) → length bs ≡ place → place ≤ i → i < capacity →
    Flags fs (bs ++ replicate (i - place) true) → Flags (set fs i true) (bs ++ replicate (i + 1 - place) true)
flags-walk fs bs place i len le lt f =
    let e : i + 1 - place ≡ i - place + 1 = omega arith in
    let g : length (bs ++ replicate (i - place) true) ≡ i = rw (length-append, length-replicate) (omega arith) in
    rw (e, replicate-snoc (i - place), ← append_assoc bs (replicate (i - place) true) (true ∷ []))
    (flags-true fs (bs ++ replicate (i - place) true) i f g lt)

-- ---- the walk

-- the records from place k on
abbrev pub left : List ℕ → ℕ → ℕ → ℕ → ℕ → List Sent
left m n first count k = records_of m n (first + k) (count - k)

module _ (m : List ℕ) (n first count end i : ℕ) where
  pub count-on : i < count → get_or m (at n (first + i) 0) 0 < end → count_below end (left m n first count i) ≡ suc (count_below end (left m n first count (i + 1)))
  unfolding count_below
  count-on lt below =
      let a : first + i + 1 ≡ first + (i + 1) = omega arith in
      let b : count - i - 1 ≡ count - (i + 1) = omega arith in
      rw (records-first m n (first + i) (count - i) (omega arith), record-number m n (first + i), lt-ltb _ _ below, a, b)

  pub count-stop : i < count → end ≤ get_or m (at n (first + i) 0) 0 → count_below end (left m n first count i) ≡ 0
  unfolding count_below
  count-stop lt above =
      rw (records-first m n (first + i) (count - i) (omega arith), record-number m n (first + i), le-ltb _ _ above)

  pub count-end : count ≤ i → count_below end (left m n first count i) ≡ 0
  unfolding count_below
  count-end le = rw (ring-end (record_at m n) (first + i) (count - i) (omega arith))

-- the places from `place` to i are flagged
pub record Walking (m : List ℕ) (n first count end place : ℕ) (fs : List Bool) (i : ℕ) (gs : List Bool) : Type 0 where
  pub from : place ≤ i
  pub within : i ≤ count
  pub same : count_below end (left m n first count place) ≡ i - place + count_below end (left m n first count i)
  pub flags : (bs : List Bool) → Flags fs bs → length bs ≡ place → Flags gs (bs ++ replicate (i - place) true)

pub walking-none : (m : List ℕ) (n first count end place : ℕ) (fs : List Bool) → place ≤ count → Walking m n first count end place fs place fs
walking-none m n first count end place fs le =
    let e : place - place ≡ 0 = omega arith in
    record { from = omega arith; within = le; same = rw e (omega arith); flags = λ bs f len. rw (e, append-nil bs) f }

module _ {m : List ℕ} {n first count end place : ℕ} {fs : List Bool} {i : ℕ} {gs : List Bool} (w : Walking m n first count end place fs i gs) where
  pub walking_on : i < count → count ≤ capacity → get_or m (at n (first + i) 0) 0 < end → Walking m n first count end place fs (i + 1) (set gs i true)
  walking_on lt le below =
      let a = count-on m n first count end i lt below in
      let b = w.same in
      let c = w.from in
      record {
        from = omega arith;
        within = omega arith;
        same = omega arith;
        flags = λ bs f len. flags-walk gs bs place i len w.from (omega arith) (w.flags bs f len);
      }

  done : count_below end (left m n first count i) ≡ 0 → Walked (left m n first count place) end place i fs gs
  done z =
      let b = w.same in
      let c = w.from in
      let e : count_below end (left m n first count place) ≡ i - place = omega arith in
      record { to = omega arith; flags = λ bs f len. rw e (w.flags bs f len) }

  pub walking_stop : i < count → end ≤ get_or m (at n (first + i) 0) 0 → Walked (left m n first count place) end place i fs gs
  walking_stop lt above = done (count-stop m n first count end i lt above)

  pub walking_end : count ≤ i → Walked (left m n first count place) end place count fs gs
  walking_end le = let e : i ≡ count = omega (arith, w.within) in subst (λ (k : ℕ). Walked (left m n first count place) end place k fs gs) e (done (count-end m n first count end i le))

-- ---- what the search and the walk answer lies among the records

pub halved-within : (f : ℕ → ℕ) (x k lo width : ℕ) → halved k f x lo width ≤ lo + width
unfolding halved
halved-within f x zero lo width = omega arith
halved-within f x (suc k) lo width = go (halved-within f x k) (ltb 0 width && ltb (f (lo + width / 2)) x) refl
  where
    go : ((lo width : ℕ) → halved k f x lo width ≤ lo + width) → (b : Bool) → (ltb 0 width && ltb (f (lo + width / 2)) x) ≡ b →
        halved k f x (cond b (lo + width / 2 + 1) lo) (cond b (width - width / 2 - 1) (width / 2)) ≤ lo + width
    go ih true e = ⊎_elim
        (λ z. absurd (let q : ◌≡◌ {A = Bool} false true = sym (rw (le-ltb 0 width (omega arith))) ∙ e in let y : ◌≡◌ {A = ℕ} 0 1 = cc in let w : ⊥ = omega arith in w))
        (λ pos. omega (arith, ih (lo + width / 2 + 1) (width - width / 2 - 1)))
        (eq-zero-or-pos width)
    go ih false e = omega (arith, ih lo (width / 2))

pub place-within : (x : ℕ) (l : List Sent) → place_of x l ≤ length l
unfolding place_of
place-within x l = let a = halved-within (number_at l) x (length l) 0 (length l) in omega arith

pub count-within : (x : ℕ) (l : List Sent) → count_below x l ≤ length l
unfolding count_below
count-within x [] = omega arith
count-within x (r ∷ l) = go (count-within x l) (ltb r.number x)
  where
    go : count_below x l ≤ length l → (b : Bool) → cond b (suc (count_below x l)) 0 ≤ suc (length l)
    go ih true = omega arith
    go ih false = omega arith

-- ---- a range at a time

-- how many records a range passes over, and how many it holds
abbrev pub before : ℕ → List Sent → ℕ
before start l = place_of start l

abbrev pub inside : ℕ → ℕ → List Sent → ℕ
inside start end l = count_below end (drop (place_of start l) l)

pub range-within : (start end : ℕ) (l : List Sent) → before start l + inside start end l ≤ length l
range-within start end l =
    let a = place-within start l in
    let b = rw length-drop at (count-within end (drop (place_of start l) l)) in
    omega arith

pub length-covered : (words : List ℕ) (l : List Sent) → length (covered words l) ≡ length l
unfolding covered
length-covered [] l = length-replicate (length l) false
length-covered (start ∷ []) l = length-replicate (length l) false
length-covered (start ∷ (end ∷ more)) l =
    let a = range-within start end l in
    let b = length-covered more (drop (before start l + inside start end l) l) in
    rw (length-append, length-append, length-replicate, length-replicate, b, length-drop) (omega arith)

two-words : (l : List ℕ) → 2 ≤ length l → l ≡ get_or l 0 0 ∷ (get_or l 1 0 ∷ take (length l - 2) (drop 2 l))
two-words [] h = absurd (let z : ⊥ = omega arith in z)
two-words (s ∷ []) h = absurd (let z : ⊥ = omega arith in z)
two-words (s ∷ (e ∷ more)) h = let n : suc (suc (length more)) - 2 ≡ length more = omega arith in rw (n, take-length) refl

covered-two : (start end : ℕ) (more : List ℕ) (l : List Sent) →
    covered (start ∷ (end ∷ more)) l
    ≡ (replicate (before start l) false ++ replicate (inside start end l) true) ++ covered more (drop (before start l + inside start end l) l)
unfolding covered
covered-two s e more l = sym (append_assoc (replicate (before s l) false) (replicate (inside s e l) true) (covered more (drop (before s l + inside s e l) l)))

covered-short : (words : List ℕ) (l : List Sent) → length words ≤ 1 → covered words l ≡ replicate (length l) false
unfolding covered
covered-short [] l h = refl
covered-short (s ∷ []) l h = refl
covered-short (s ∷ (e ∷ words)) l h = absurd (let z : ⊥ = omega arith in z)

-- ---- the place after the last

pick-zero : (p x y : ℕ) → p ≡ 0 → cond (eqb p 0) x y ≡ x
pick-zero p x y e = rw (eq-eqb p 0 e)

pick_pos : (p x y : ℕ) → 0 < p → cond (eqb p 0) x y ≡ y
pick_pos p x y pos = rw (ne_eqb p 0 (λ e. let z : ⊥ = omega arith in z))

past-none : (k : ℕ) → past_last (replicate k false) ≡ 0
unfolding past_last
past-none zero = refl
past-none (suc k) = rw (past-none k)

past_all : (k : ℕ) → past_last (replicate k true) ≡ k
unfolding past_last
past_all zero = refl
past_all (suc zero) = refl
past_all (suc (suc k)) = rw (past_all (suc k)) (pick_pos (suc k) 1 (suc (suc k)) (omega arith))

pub past-append : (bs cs : List Bool) → past_last (bs ++ cs) ≡ cond (eqb (past_last cs) 0) (past_last bs) (length bs + past_last cs)
unfolding past_last
past-append [] cs = ⊎_elim (λ e. e ∙ sym (pick-zero _ _ _ e)) (λ pos. sym (pick_pos (past_last cs) 0 (0 + past_last cs) pos ∙ omega arith)) (eq-zero-or-pos (past_last cs))
past-append (b ∷ bs) cs =
    let ih = past-append bs cs in
    ⊎_elim
    (λ e. let a : past_last (bs ++ cs) ≡ past_last bs = ih ∙ pick-zero _ _ _ e in rw (a, pick-zero (past_last cs) (cond (eqb (past_last bs) 0) (bit b) (suc (past_last bs))) _ e))
    (λ pos.
    let a : past_last (bs ++ cs) ≡ length bs + past_last cs = ih ∙ pick_pos _ _ _ pos in
    rw (a, pick_pos (length bs + past_last cs) (bit b) (suc (length bs + past_last cs)) (omega arith), pick_pos (past_last cs) _ (suc (length bs) + past_last cs) pos) (omega arith))
    (eq-zero-or-pos (past_last cs))

pub past-false : (bs : List Bool) (k : ℕ) → past_last (bs ++ replicate k false) ≡ past_last bs
past-false bs k = past-append bs (replicate k false) ∙ pick-zero _ _ _ (past-none k)

-- a range that passes over p records and holds h
pub past-range : (bs : List Bool) (p h : ℕ) → past_last (bs ++ (replicate p false ++ replicate h true)) ≡ cond (eqb h 0) (past_last bs) (length bs + (p + h))
past-range bs p zero = ap (λ (cs : List Bool). past_last (bs ++ cs)) (append-nil (replicate p false)) ∙ past-false bs p
past-range bs p (suc h) =
    let a : past_last (replicate p false ++ replicate (suc h) true) ≡ p + suc h =
    past-append (replicate p false) (replicate (suc h) true) ∙ rw (past_all (suc h), length-replicate) (pick_pos (suc h) _ (p + suc h) (omega arith)) in
    past-append bs (replicate p false ++ replicate (suc h) true) ∙ rw a (pick_pos (p + suc h) _ _ (omega arith) ∙ sym (pick_pos (suc h) (past_last bs) _ (omega arith)))

-- none is held from there on
pub past_off : (bs : List Bool) (i : ℕ) → past_last bs ≤ i → get_or bs i false ≡ false
unfolding past_last
past_off [] i le = nil-at i
past_off (b ∷ bs) i le = ⊎_elim
    (λ e. small b i (rw (pick-zero (past_last bs) (bit b) (suc (past_last bs)) e) at le) (λ j. past_off bs j (omega arith)))
    (λ pos. large i (rw (pick_pos (past_last bs) (bit b) (suc (past_last bs)) pos) at le) (past_off bs))
    (eq-zero-or-pos (past_last bs))
  where
    small : (b : Bool) (i : ℕ) → bit b ≤ i → ((j : ℕ) → get_or bs j false ≡ false) → get_or (b ∷ bs) i false ≡ false
    small true zero le ih = absurd (let z : ⊥ = omega arith in z)
    small false zero le ih = refl
    small b (suc j) le ih = ih j

    large : (i : ℕ) → suc (past_last bs) ≤ i → ((j : ℕ) → past_last bs ≤ j → get_or bs j false ≡ false) → get_or (b ∷ bs) i false ≡ false
    large zero le ih = absurd (let z : ⊥ = omega arith in z)
    large (suc j) le ih = ih j (omega arith)

-- ---- the loop over the ranges

-- the words before `rest` are done: the records up to the place reached are flagged
pub record Found (l : List Sent) (words rest : List ℕ) (w : Reach) (fs : List Bool) : Type 0 where
  pub within : w.place ≤ length l
  pub flags : Flags fs (take w.place (covered words l))
  pub left : drop w.place (covered words l) ≡ covered rest (drop w.place l)
  pub last : w.last ≡ past_last (take w.place (covered words l))

pub found_none : (l : List Sent) (words : List ℕ) (fs : List Bool) (w : Reach) → w.place ≡ 0 → w.last ≡ 0 → Flags fs [] → Found l words words w fs
unfolding past_last
found_none l words fs w p q f = record { within = omega arith; flags = rw p f; left = rw p refl; last = rw p q }

module _ (l : List Sent) (words rest : List ℕ) (w : Reach) (fs : List Bool) (d : Found l words rest w fs) where
  abbrev past : List Bool
  past = take w.place (covered words l)

  length-done : length past ≡ w.place
  length-done = length-take-le w.place (covered words l) (rw length-covered d.within)

  pub found_all : length rest ≤ 1 → Flags fs (covered words l) × (w.last ≡ past_last (covered words l))
  found_all h =
      let a : covered words l ≡ past ++ replicate (length (drop w.place l)) false =
      sym (take-append-drop w.place (covered words l)) ∙ ap (λ (bs : List Bool). past ++ bs) (d.left ∙ covered-short rest (drop w.place l) h) in
      let n = length (drop w.place l) in
      (rw a (flags-false fs past n d.flags), rw a (d.last ∙ sym (past-false past n)))

  -- one range more
  module _ (start end : ℕ) (more : List ℕ) (r : Reach) (gs : List Bool) (e : rest ≡ start ∷ (end ∷ more))
      (x : Ranged (drop w.place l) start end w r fs gs) where
    abbrev new : List Bool
    new = replicate (before start (drop w.place l)) false ++ replicate (inside start end (drop w.place l)) true

    abbrev still : List Bool
    still = covered more (drop (before start (drop w.place l) + inside start end (drop w.place l)) (drop w.place l))

    split : covered words l ≡ (past ++ new) ++ still
    split =
        sym (take-append-drop w.place (covered words l))
        ∙ ap (λ (bs : List Bool). past ++ bs) (d.left ∙ rw e (covered-two start end more (drop w.place l)))
        ∙ sym (append_assoc past new still)

    length_more : length (past ++ new) ≡ r.place
    length_more = rw (length-append, length-append, length-replicate, length-replicate, length-done, x.place) refl

    pub found-more : Found l words more r gs
    found-more =
        let a : take r.place (covered words l) ≡ past ++ new = ap (take r.place) split ∙ take_at (past ++ new) still r.place length_more in
        let b : drop r.place (covered words l) ≡ still = ap (drop r.place) split ∙ drop_at (past ++ new) still r.place length_more in
        let c = range-within start end (drop w.place l) in
        let f : length (drop w.place l) ≡ length l - w.place = length-drop w.place l in
        let g = x.place in
        let h = d.within in
        record {
          within = omega arith;
          flags = rw a (x.flags past d.flags length-done);
          left = b ∙ rw (drop-drop, ← x.place) refl;
          last = rw (a, past-range past (before start (drop w.place l)) (inside start end (drop w.place l)), length-done, ← x.place, ← d.last) x.last;
        }

-- ---- one range in the memory

module _ (m : List ℕ) (n first count place start p : ℕ) (le : place ≤ count) (small : count ≤ capacity)
    (e : p ≡ place_of start (records_of m n ((first + place) % capacity) (min (count - place) capacity))) where
  range-place : p ≡ place_of start (left m n first count place)
  range-place = let f : min (count - place) capacity ≡ count - place = omega arith in e ∙ rw (f, records-mod m n (first + place) (count - place)) refl

  pub range_near : place + p ≤ count
  range_near =
      let a = place-within start (left m n first count place) in
      let b = length-records m n (first + place) (count - place) in
      let c = range-place in
      omega arith

  range-left : drop p (left m n first count place) ≡ left m n first count (place + p)
  range-left =
      let a = range_near in
      let b : first + place + p ≡ first + (place + p) = omega arith in
      let c : count - place - p ≡ count - (place + p) = omega arith in
      records-drop m n (first + place) p (count - place) (omega arith) ∙ rw (b, c) refl

  module _ (end to last : ℕ) (fs gs : List Bool) (x : Walked (left m n first count (place + p)) end (place + p) to fs gs) where
    many : inside start end (left m n first count place) ≡ count_below end (left m n first count (place + p))
    many = rw (← range-place, range-left) refl

    ranged : (r : ℕ) → r ≡ cond (eqb (inside start end (left m n first count place)) 0) last to →
        Ranged (left m n first count place) start end (record { place = place; last = last }) (record { place = to; last = r }) fs gs
    ranged r q =
        let a = x.to in
        let b = many in
        let c = range-place in
        record {
          place = omega arith;
          flags = λ bs f len.
              rw (b, ← range-place, ← append_assoc bs (replicate p false) (replicate (count_below end (left m n first count (place + p))) true))
              (x.flags (bs ++ replicate p false) (flags-false fs bs p f) (rw (length-append, length-replicate, len) refl));
          last = q;
        }

    pub ranged_none : to ≡ place + p → Ranged (left m n first count place) start end (record { place = place; last = last }) (record { place = to; last = last }) fs gs
    ranged_none q = let a = x.to in let b = many in ranged last (sym (pick-zero (inside start end (left m n first count place)) last to (omega arith)))

    pub ranged_some : (to ≡ place + p → ⊥) → Ranged (left m n first count place) start end (record { place = place; last = last }) (record { place = to; last = to }) fs gs
    ranged_some q = ranged to (sym (pick_pos (inside start end (left m n first count place)) last to (some (count_below end (left m n first count (place + p))) x.to many)))
      where
        some : (h : ℕ) → to ≡ place + p + h → inside start end (left m n first count place) ≡ h → 0 < inside start end (left m n first count place)
        some h a b = omega (arith, q)

-- ---- all ranges in the memory

module _ (m : List ℕ) (n first count : ℕ) {words rest : List ℕ} {w : Reach} {fs : List Bool} (d : Found (records_of m n first count) words rest w fs) where
  pub found_near : w.place ≤ count
  found_near = let a = length-records m n first count in let b = d.within in omega arith

  pub found_next : {r : Reach} {gs : List Bool} → 2 ≤ length rest → Ranged (left m n first count w.place) (get_or rest 0 0) (get_or rest 1 0) w r fs gs →
      Found (records_of m n first count) words (take (length rest - 2) (drop 2 rest)) r gs
  found_next {r} {gs} h x =
      found-more (records_of m n first count) words rest w fs d (get_or rest 0 0) (get_or rest 1 0) (take (length rest - 2) (drop 2 rest)) r gs (two-words rest h)
      (rw (records-drop m n first w.place count found_near) x)

-- none is flagged from the place after the last one on
pub found_past : (l : List Sent) (words rest : List ℕ) (w : Reach) (fs : List Bool) → Found l words rest w fs → length rest ≤ 1 →
    (i : ℕ) → w.last ≤ i → flagged fs i ≡ false
found_past l words rest w fs d h i le =
    let a = found_all l words rest w fs d h in a.0.held i ∙ past_off (covered words l) i (rw a.1 at le)

pub covers : (m : List ℕ) (n head count len : ℕ) (words rest : List ℕ) (w : Reach) (fs : List Bool) → Found (records_of m n (head % capacity) count) words rest w fs →
    length rest ≤ 1 → count ≡ min len capacity → (r : Covered) → r.flags ≡ fs → r.last ≡ w.last → Covers words (records_of m n head (min len capacity)) r
covers m n head count len words rest w fs d h e r p q =
    let a = found_all (records_of m n (head % capacity) count) words rest w fs d h in
    let b : records_of m n head (min len capacity) ≡ records_of m n (head % capacity) count = rw (← e) (sym (records-mod m n head count)) in
    rw b (record { flags = rw p a.0; last = rw q a.1 })

-- Among numbers that rise, the records that the halving covers are those that a range holds. Assumes nothing.
use mathlib.Core.Path.{◌≡◌, refl, ap, sym, ◌∙◌}
use mathlib.Core.Bool.{Bool, true, false, ◌&&◌, ◌||◌}
use mathlib.Core.List.{List, [], ◌∷◌, ◌++◌, map}
use mathlib.Core.Logic.{⊎_elim}
use Prim.Native.Nat.{ℕ, zero, suc, ◌+◌, ◌^◌, ◌≤◌, ◌<◌}
use native.Mathlib.Omega.{arith}
use borrow.Author.Tests.{lt-ltb, le-ltb, le-leb, lt-leb, ltb-true, leb-true}
use lib.Dec.{leb, ltb}
use lib.ListN.{length, take, drop, replicate, length-drop, take-append-drop}
use lib.Seq.{length-take-le, drop-drop}
use Rattle.model.specs.Ranges.{ascending, hold}
use Rattle.model.specs.Sent.{place_of, number_at, count_below, covered}
use Rattle.model.specs.declared.Sent.{Sent}
use Rattle.records.specs.Rising.{Rising, First}
use Rattle.records.proofs.Halving.{lt-or-ge, place-first}

-- ---- numbers, place by place
pub number-drop : (a : ℕ) (l : List Sent) (i : ℕ) → number_at (drop a l) i ≡ number_at l (a + i)
unfolding number_at
number-drop zero l i = let e : 0 + i ≡ i = omega arith in ap (number_at l) (sym e)
number-drop (suc a) [] i = refl
number-drop (suc a) (r ∷ l) i = let e : suc a + i ≡ suc (a + i) = omega arith in number-drop a l i ∙ sym (ap (number_at (r ∷ l)) e)

number-take : (a : ℕ) (l : List Sent) (i : ℕ) → i < a → number_at (take a l) i ≡ number_at l i
unfolding number_at
number-take zero l i lt = absurd (let z : ⊥ = omega arith in z)
number-take (suc a) [] i lt = refl
number-take (suc a) (r ∷ l) zero lt = refl
number-take (suc a) (r ∷ l) (suc i) lt = number-take a l i (omega arith)

pub rising-drop : (a : ℕ) (l : List Sent) → Rising l → Rising (drop a l)
rising-drop a l rising =
    record {
      rises = λ i j lt in_List.
          let n = length-drop a l in
          rw (number-drop a l i, number-drop a l j) (rising.rises (a + i) (a + j) (omega arith) (omega arith));
    }

-- ---- the first that is not below x

-- counting finds it in any list
pub count-first : (x : ℕ) (l : List Sent) → First x l (count_below x l)
unfolding count_below number_at
count-first x [] = record { inside = omega arith; below = λ i lt. absurd (let z : ⊥ = omega arith in z); above = λ lt. absurd (let z : ⊥ = omega arith in z) }
count-first x (r ∷ l) = ⊎_elim
    (λ lt. rw (lt-ltb r.number x lt) (later lt (count-first x l)))
    (λ le. rw (le-ltb r.number x le) (record { inside = omega arith; below = λ i lt. absurd (let z : ⊥ = omega arith in z); above = λ lt. le }))
    (lt-or-ge r.number x)
  where
    before : (c : ℕ) → r.number < x → ((i : ℕ) → i < c → number_at l i < x) → (i : ℕ) → i < suc c → number_at (r ∷ l) i < x
    before c lt p zero q = lt
    before c lt p (suc i) q = p i (omega arith)

    later : {c : ℕ} → r.number < x → First x l c → First x (r ∷ l) (suc c)
    later {c} lt f = record { inside = omega (arith, f.inside); below = before c lt f.below; above = λ q. f.above (omega arith) }

-- there is one at most
pub one-first : (x : ℕ) (l : List Sent) (r s : ℕ) → First x l r → First x l s → r ≡ s
one-first x l r s f g = ⊎_elim
    (λ lt. absurd (let a = g.below r lt in let b = f.above (omega (arith, g.inside)) in let z : ⊥ = omega arith in z))
    (λ ge. ⊎_elim
    (λ lt. absurd (let a = f.below s lt in let b = g.above (omega (arith, f.inside)) in let z : ⊥ = omega arith in z))
    (λ le. omega arith)
    (lt-or-ge s r))
    (lt-or-ge r s)

-- so the halving finds as many as are below x from the front on
pub place-count : (x : ℕ) (l : List Sent) → Rising l → place_of x l ≡ count_below x l
place-count x l rising = one-first x l (place_of x l) (count_below x l) (place-first x l rising) (count-first x l)

-- from there on none is below x
from_first : (x : ℕ) (l : List Sent) (r : ℕ) → Rising l → First x l r → (i : ℕ) → r ≤ i → i < length l → x ≤ number_at l i
from_first x l r rising f i le lt = ⊎_elim
    (λ p. let a = rising.rises r i p lt in let b = f.above (omega arith) in omega arith)
    (λ p. let e : r ≡ i = omega arith in rw e at (f.above (omega arith)))
    (lt-or-ge r i)

-- ---- ranges
both : (a b : Bool) → (a && b) ≡ true → (a ≡ true) × (b ≡ true)
both true b e = (refl, e)
both false b e = absurd (let z : ◌≡◌ {A = ℕ} 0 1 = cc in let w : ⊥ = omega arith in w)

record Pair (least start end : ℕ) (more : List ℕ) : Type 0 where
  low : least ≤ start
  wide : start < end
  next : ascending (end + 1) more ≡ true

pair : (least start end : ℕ) (more : List ℕ) → ascending least (start ∷ (end ∷ more)) ≡ true → Pair least start end more
unfolding ascending
pair least start end more e =
    let a = both (leb least start) _ e in
    let b = both (ltb start end) _ a.1 in
    let c = both (leb end (2 ^ 62)) _ b.1 in
    record { low = leb-true least start a.0; wide = ltb-true start end b.0; next = c.1 }

-- a range that begins above x does not hold it
hold-above : (least : ℕ) (words : List ℕ) (x : ℕ) → ascending least words ≡ true → x < least → hold words x ≡ false
unfolding hold
hold-above least [] x e lt = refl
hold-above least (start ∷ []) x e lt = refl
hold-above least (start ∷ (end ∷ more)) x e lt =
    let p = pair least start end more e in
    let a : x < start = omega (arith, p.low) in
    let b : x < end + 1 = omega (arith, p.low, p.wide) in
    rw (lt-leb start x a) (hold-above (end + 1) more x p.next b)

-- ---- lists
map_same : (f g : ℕ → Bool) (l : List Sent) → ((i : ℕ) → i < length l → f (number_at l i) ≡ g (number_at l i)) → map (λ (r : Sent). f r.number) l ≡ map (λ (r : Sent). g r.number) l
unfolding number_at
map_same f g [] p = refl
map_same f g (r ∷ l) p =
    let a : f r.number ≡ g r.number = p 0 (omega arith) in
    let b : map (λ (r : Sent). f r.number) l ≡ map (λ (r : Sent). g r.number) l = map_same f g l (λ i lt. p (suc i) (omega arith)) in
    cc

map-all : (f : ℕ → Bool) (b : Bool) (l : List Sent) → ((i : ℕ) → i < length l → f (number_at l i) ≡ b) → map (λ (r : Sent). f r.number) l ≡ replicate (length l) b
unfolding number_at
map-all f b [] p = refl
map-all f b (r ∷ l) p =
    let a : f r.number ≡ b = p 0 (omega arith) in
    let c : map (λ (r : Sent). f r.number) l ≡ replicate (length l) b = map-all f b l (λ i lt. p (suc i) (omega arith)) in
    cc

map-append : (f : Sent → Bool) (a b : List Sent) → map f (a ++ b) ≡ map f a ++ map f b
map-append f [] b = refl
map-append f (r ∷ a) b = ap (λ (l : List Bool). f r ∷ l) (map-append f a b)

map-split : (f : Sent → Bool) (a : ℕ) (l : List Sent) → map f l ≡ map f (take a l) ++ map f (drop a l)
map-split f a l = ap (map f) (sym (take-append-drop a l)) ∙ map-append f (take a l) (drop a l)

-- ---- one range, and the others
module _ (start end : ℕ) (more : List ℕ) (l : List Sent) (least : ℕ) (rising : Rising l) (p : Pair least start end more) where
  abbrev in-these : ℕ → Bool
  in-these x = (leb start x && ltb x end) || hold more x

  abbrev a : ℕ
  a = place_of start l

  abbrev h : ℕ
  h = count_below end (drop a l)

  start-at : First start l a
  start-at = place-first start l rising

  end-at : First end (drop a l) h
  end-at = count-first end (drop a l)

  in-front : map (λ (r : Sent). in-these r.number) (take a l) ≡ replicate a false
  in-front =
      let n = length-take-le a l start-at.inside in
      map-all in-these false (take a l)
      (λ i lt.
      let b : number_at l i < start = start-at.below i (omega arith) in
      rw (number-take a l i (omega arith), lt-leb start (number_at l i) b) (hold-above (end + 1) more (number_at l i) p.next (omega (arith, p.wide))))
      ∙ ap (λ (k : ℕ). replicate k false) n

  inside : map (λ (r : Sent). in-these r.number) (take h (drop a l)) ≡ replicate h true
  inside =
      let n = length-take-le h (drop a l) end-at.inside in
      map-all in-these true (take h (drop a l))
      (λ i lt.
      let b : number_at (drop a l) i < end = end-at.below i (omega arith) in
      let c : start ≤ number_at (drop a l) i =
      rw (number-drop a l i) (from_first start l a rising start-at (a + i) (omega arith) (omega (arith, length-drop a l, end-at.inside))) in
      rw (number-take h (drop a l) i (omega arith), le-leb start (number_at (drop a l) i) c, lt-ltb (number_at (drop a l) i) end b))
      ∙ ap (λ (k : ℕ). replicate k true) n

  behind : map (λ (r : Sent). in-these r.number) (drop h (drop a l)) ≡ map (λ (r : Sent). hold more r.number) (drop h (drop a l))
  behind =
      map_same in-these (hold more) (drop h (drop a l))
      (λ i lt.
      let n = length-drop h (drop a l) in
      let b : end ≤ number_at (drop h (drop a l)) i =
      rw (number-drop h (drop a l) i) (from_first end (drop a l) h (rising-drop a l rising) end-at (h + i) (omega arith) (omega arith)) in
      no_start (leb start (number_at (drop h (drop a l)) i)) (ltb (number_at (drop h (drop a l)) i) end) (hold more (number_at (drop h (drop a l)) i)) (le-ltb (number_at (drop h (drop a l)) i) end b))
    where
      no_start : (x y z : Bool) → y ≡ false → ((x && y) || z) ≡ z
      no_start true y z e = rw e
      no_start false y z e = refl

  one-range : covered more (drop (a + h) l) ≡ map (λ (r : Sent). hold more r.number) (drop (a + h) l) →
      replicate a false ++ (replicate h true ++ covered more (drop (a + h) l)) ≡ map (λ (r : Sent). in-these r.number) l
  one-range ih =
      let d : drop h (drop a l) ≡ drop (a + h) l = drop-drop h a l in
      let e = map-split (λ (r : Sent). in-these r.number) a l in
      let f = map-split (λ (r : Sent). in-these r.number) h (drop a l) in
      sym (e ∙ rw (in-front, f, inside, behind, d, ← ih))

within-from : (least : ℕ) (words : List ℕ) (l : List Sent) → Rising l → ascending least words ≡ true → covered words l ≡ map (λ (r : Sent). hold words r.number) l
unfolding covered hold
within-from least [] l rising e = sym (map-all (λ (x : ℕ). false) false l (λ i lt. refl))
within-from least (start ∷ []) l rising e = sym (map-all (λ (x : ℕ). false) false l (λ i lt. refl))
within-from least (start ∷ (end ∷ more)) l rising e =
    let p = pair least start end more e in
    let n = place_of start l + count_below end (drop (place_of start l) l) in
    one-range start end more l least rising p (within-from (end + 1) more (drop n l) (rising-drop n l rising) p.next)

-- for each record, whether a range holds it
pub covered-within : (words : List ℕ) (l : List Sent) → Rising l → ascending 0 words ≡ true → covered words l ≡ map (λ (r : Sent). hold words r.number) l
covered-within words l rising e = within-from 0 words l rising e

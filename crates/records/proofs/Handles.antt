-- The handles that a PTO queues: stored one after another, and never too many. Assumes nothing.
use mathlib.Core.Path.{◌≡◌, refl, ap, sym, ◌∙◌}
use mathlib.Core.Bool.{Bool, true, false, cond, ◌&&◌}
use mathlib.Core.Logic.{◌≢◌}
use mathlib.Core.List.{List, [], ◌∷◌, ◌++◌, append-nil, append_assoc}
use Prim.Native.Nat.{ℕ, suc, ◌+◌, ◌-◌, ◌/◌, ◌%◌, ◌≤◌, ◌<◌}
use native.Mathlib.Nat.{add-zero}
use native.Mathlib.Omega.{arith}
use borrow.Author.Tests.{eq-eqb, ne_eqb, lt-ltb}
use lib.Dec.{eqb, ltb}
use lib.ListN.{length, get_or, length-append}
use Rattle.model.specs.Numbers.{capacity}
use Rattle.model.specs.Sent.{standing, queued}
use Rattle.model.specs.Timer.{probe_by, probe_handles}
use Rattle.arith.specs.declared.refusal.Refusal.TheVariants.{Full}
use Rattle.model.specs.declared.Sent.{Sent}
use Rattle.records.specs.View.{all_words, at, record_by, record_at, records_of, queue_of, store_handle, store_handles}
use Rattle.records.specs.Probes.{awaits_of, unless_none, probes_of, Put, StoredFrom}
use Rattle.records.proofs.Rings.{ring-step, ring-end}
use Rattle.records.proofs.Laws.{standing-mark, record-handle, handle-records, handle-queue, handle-space, length-store-handle, queue-push}
use Rattle.std.proofs.Math.Bool.{and-false, and-true}
use Rattle.std.specs.Prelude.{Result, Ok, Err}
use Rattle.arith.specs.declared.refusal.Refusal.{Refusal}

-- ---- one record
awaits-words : (m : List ℕ) (n k : ℕ) → awaits_of (record_at m n k) ≡ (eqb (get_or m (at n k 3) 0 / 4 % 2) 1 && eqb (get_or m (at n k 5) 0) 0)
unfolding awaits_of record_at record_by
awaits-words m n k = ap (λ (b : Bool). eqb (get_or m (at n k 3) 0 / 4 % 2) 1 && b) (standing-mark m n k (get_or m (at n k 5) 0))

module _ (m : List ℕ) (n k : ℕ) {mark : ℕ} (e : mark ≡ get_or m (at n k 5) 0) where
  pub awaits_marked : (mark ≡ 0 → ⊥) → false ≡ awaits_of (record_at m n k)
  awaits_marked p = rw (awaits-words m n k, ← e, ne_eqb mark 0 p, and-false)

  pub awaits_data : {flags : ℕ} → mark ≡ 0 → flags ≡ get_or m (at n k 3) 0 → eqb (flags / 4 % 2) 1 ≡ awaits_of (record_at m n k)
  awaits_data p f = rw (awaits-words m n k, ← e, ← f, eq-eqb mark 0 p, and-true)

pub put_none : (m : List ℕ) (n w i handle : ℕ) → handle ≡ 0 → Put m n w i handle 0 m
put_none m n w i handle z = record { count = rw (eq-eqb handle 0 z); memory = rw (eq-eqb handle 0 z) }

pub put_one : (m : List ℕ) (n w i handle : ℕ) {m' : List ℕ} → (handle ≡ 0 → ⊥) → m' ≡ store_handle m n w i handle → Put m n w i handle 1 m'
put_one m n w i handle p e = record { count = rw (ne_eqb handle 0 p); memory = rw (ne_eqb handle 0 p) e }

pub put_small : {m m' : List ℕ} {n w i handle r : ℕ} → Put m n w i handle r m' → r ≤ 1
put_small {handle = handle} {r = r} p = go (eqb handle 0) p.count
  where
    go : (z : Bool) → r ≡ cond z 0 1 → r ≤ 1
    go true e = omega arith
    go false e = omega arith

-- ---- a turn of the loop
probes-end : (probes : ℕ) (m : List ℕ) (n h c : ℕ) → c ≤ 0 → probes_of probes (records_of m n h c) ≡ []
unfolding probes_of
probes-end probes m n h c z = ap (probes_of probes) (ring-end (record_at m n) h c z)

pub probes-none : (l : List Sent) → probes_of 0 l ≡ []
unfolding probes_of
probes-none [] = refl
probes-none (r ∷ l) = probes-none l

probes-step : (probes : ℕ) (m : List ℕ) (n h c : ℕ) → 0 < c →
    probes_of probes (records_of m n h c)
    ≡ cond (ltb 0 probes && awaits_of (record_at m n h)) (unless_none (record_at m n h).handle (probes_of (probes - 1) (records_of m n (h + 1) (c - 1)))) (probes_of probes (records_of m n (h + 1) (c - 1)))
unfolding probes_of
probes-step probes m n h c pos = ap (probes_of probes) (ring-step (record_at m n) h c pos)

-- what is left to be stored is stored to the same end
pub record Left (m : List ℕ) (n first total i stored left : ℕ) (m₀ : List ℕ) (l : List ℕ) : Type 0 where
  pub count : stored + length (probes_of left (records_of m n (first + i) (total - i))) ≡ 0 + length l
  pub memory : store_handles m n 2 stored (probes_of left (records_of m n (first + i) (total - i))) ≡ store_handles m₀ n 2 0 l

pub left_start : (m : List ℕ) (n first total probes : ℕ) → Left m n first total 0 0 probes m (probes_of probes (records_of m n first total))
left_start m n first total probes =
    let a : first + 0 ≡ first = omega arith in
    let b : total - 0 ≡ total = omega arith in
    record { count = rw (a, b) refl; memory = rw (a, b) refl }

module _ (m : List ℕ) (n first total i stored left : ℕ) (m₀ : List ℕ) (l : List ℕ) (inv : Left m n first total i stored left m₀ l) where
  abbrev later : List ℕ → List ℕ
  later x = probes_of (left - 1) (records_of x n (first + (i + 1)) (total - (i + 1)))

  nothing : probes_of left (records_of m n (first + i) (total - i)) ≡ [] → StoredFrom m₀ n 2 0 l stored m
  unfolding store_handles
  nothing e =
      record {
        count = sym (add-zero stored) ∙ (rw e at inv.count);
        memory = rw e at inv.memory;
      }

  pub left_none : left ≡ 0 → StoredFrom m₀ n 2 0 l stored m
  left_none z = nothing (ap (λ (k : ℕ). probes_of k (records_of m n (first + i) (total - i))) z ∙ probes-none (records_of m n (first + i) (total - i)))

  pub left_end : total ≤ i → StoredFrom m₀ n 2 0 l stored m
  left_end le = nothing (probes-end left m n (first + i) (total - i) (omega arith))

  module _ (lt : i < total) (some : left ≡ 0 → ⊥) {b : Bool} (e : b ≡ awaits_of (record_at m n (first + i))) where
    step : probes_of left (records_of m n (first + i) (total - i))
        ≡ cond b (unless_none (get_or m (at n (first + i) 4) 0) (probes_of (left - 1) (records_of m n (first + (i + 1)) (total - (i + 1))))) (probes_of left (records_of m n (first + (i + 1)) (total - (i + 1))))
    step =
        let x : first + i + 1 ≡ first + (i + 1) = omega arith in
        let y : total - i - 1 ≡ total - (i + 1) = omega arith in
        probes-step left m n (first + i) (total - i) (omega arith)
        ∙ rw (lt-ltb 0 left (omega arith), ← e, record-handle m n (first + i), x, y)

    pub left_on : b ≡ false → Left m n first total (i + 1) stored left m₀ l
    left_on f = record { count = rw (step, f) at inv.count; memory = rw (step, f) at inv.memory }

    module _ {handle r : ℕ} {m' : List ℕ} (t : b ≡ true) (h : handle ≡ get_or m (at n (first + i) 4) 0) (p : Put m n 2 stored handle r m') where
      pub left_put : Left m' n first total (i + 1) (stored + r) (left - 1) m₀ l
      unfolding unless_none store_handles
      left_put =
          let s : probes_of left (records_of m n (first + i) (total - i)) ≡ unless_none handle (later m) = step ∙ rw (t, h) in
          go (eqb handle 0) p.count p.memory (rw s at inv.count) (rw s at inv.memory)
        where
          go : (z : Bool) → r ≡ cond z 0 1 → m' ≡ cond z m (store_handle m n 2 stored handle) →
              stored + length (cond z (later m) (handle ∷ later m)) ≡ 0 + length l →
              store_handles m n 2 stored (cond z (later m) (handle ∷ later m)) ≡ store_handles m₀ n 2 0 l →
              Left m' n first total (i + 1) (stored + r) (left - 1) m₀ l
          go true a b c d = let e : stored + r ≡ stored = omega arith in rw (e, b) (record { count = c; memory = d })
          go false a b c d =
              let q : later (store_handle m n 2 stored handle) ≡ later m = ap (probes_of (left - 1)) (handle-records m n 2 stored handle n (first + (i + 1)) (total - (i + 1))) in
              rw (a, b) (record { count = rw q (omega (arith, c)); memory = rw q d })

-- ---- never too many
queue-fits : (handle : ℕ) (q : List ℕ) (k : List ℕ → Result (List ℕ) Refusal) → length q < capacity → queued handle q k ≡ k (q ++ unless_none handle [])
unfolding unless_none
queue-fits handle q k lt = go (eqb handle 0)
  where
    go : (z : Bool) → cond z (k q) (cond (ltb (length q) capacity) (k (q ++ (handle ∷ []))) (Err Full)) ≡ k (q ++ cond z [] (handle ∷ []))
    go true = ap k (sym (append-nil q))
    go false = rw (lt-ltb (length q) capacity lt)

unless-append : (handle : ℕ) (l : List ℕ) → unless_none handle [] ++ l ≡ unless_none handle l
unfolding unless_none
unless-append handle l = go (eqb handle 0)
  where
    go : (z : Bool) → cond z [] (handle ∷ []) ++ l ≡ cond z l (handle ∷ l)
    go true = refl
    go false = refl

unless-small : (handle : ℕ) → length (unless_none handle []) ≤ 1
unfolding unless_none
unless-small handle = go (eqb handle 0)
  where
    go : (z : Bool) → length (cond z [] (handle ∷ [])) ≤ 1
    go true = omega arith
    go false = omega arith

probe-all : (n : ℕ) (l : List Sent) (q : List ℕ) → length q + length l ≤ capacity → probe_handles n l q ≡ Ok (q ++ probes_of n l)
unfolding probe_handles probe_by probes_of awaits_of
probe-all n [] q le = rw append-nil
probe-all n (r ∷ l) q le =
    go
    (probe-all (n - 1) l (q ++ unless_none r.handle []) (omega (arith, length-append q (unless_none r.handle []), unless-small r.handle)))
    (probe-all n l q (omega arith))
    (ltb 0 n && (r.has_data && standing r))
  where
    go : probe_handles (n - 1) l (q ++ unless_none r.handle []) ≡ Ok ((q ++ unless_none r.handle []) ++ probes_of (n - 1) l) →
        probe_handles n l q ≡ Ok (q ++ probes_of n l) →
        (b : Bool) →
        probe_by b n r.handle q (λ m p. probe_handles m l p) ≡ Ok (q ++ cond b (unless_none r.handle (probes_of (n - 1) l)) (probes_of n l))
    go a b true =
        queue-fits r.handle q (λ p. probe_handles (n - 1) l p) (omega arith)
        ∙ a
        ∙ ap Ok (append_assoc q (unless_none r.handle []) (probes_of (n - 1) l) ∙ ap (λ (x : List ℕ). q ++ x) (unless-append r.handle (probes_of (n - 1) l)))
    go a b false = b

-- model's chain of handles never refuses where the queue was empty
pub probe-handles : (n : ℕ) (l : List Sent) → length l ≤ capacity → probe_handles n l [] ≡ Ok (probes_of n l)
probe-handles n l le = probe-all n l [] (omega arith)

-- as many handles as records at most
pub length-probes : (n : ℕ) (l : List Sent) → length (probes_of n l) ≤ length l
unfolding probes_of unless_none
length-probes n [] = omega arith
length-probes n (r ∷ l) = go (length-probes (n - 1) l) (length-probes n l) (ltb 0 n && awaits_of r) (eqb r.handle 0)
  where
    go : length (probes_of (n - 1) l) ≤ length l → length (probes_of n l) ≤ length l → (b z : Bool) →
        length (cond b (cond z (probes_of (n - 1) l) (r.handle ∷ probes_of (n - 1) l)) (probes_of n l)) ≤ suc (length l)
    go a b true true = omega arith
    go a b true false = omega arith
    go a b false z = omega arith

-- ---- what the stores leave
pub length-handles : (m : List ℕ) (n w i : ℕ) (l : List ℕ) → length (store_handles m n w i l) ≡ length m
unfolding store_handles
length-handles m n w i [] = refl
length-handles m n w i (h ∷ l) = length-handles (store_handle m n w i h) n w (i + 1) l ∙ length-store-handle m n w i h

pub handles-records : (m : List ℕ) (n w i : ℕ) (l : List ℕ) (n' head len : ℕ) → records_of (store_handles m n w i l) n' head len ≡ records_of m n' head len
unfolding store_handles
handles-records m n w i [] n' head len = refl
handles-records m n w i (h ∷ l) n' head len = handles-records (store_handle m n w i h) n w (i + 1) l n' head len ∙ handle-records m n w i h n' head len

pub handles-queue : (m : List ℕ) (n w i : ℕ) (l : List ℕ) (n' w' len : ℕ) → w' % 3 ≢ w % 3 → queue_of (store_handles m n w i l) n' w' len ≡ queue_of m n' w' len
unfolding store_handles
handles-queue m n w i [] n' w' len off = refl
handles-queue m n w i (h ∷ l) n' w' len off = handles-queue (store_handle m n w i h) n w (i + 1) l n' w' len off ∙ handle-queue m n w i h n' w' len off

pub handles-space : (m : List ℕ) (n w i : ℕ) (l : List ℕ) (n' w' len : ℕ) → n' % 3 ≢ n % 3 → queue_of (store_handles m n w i l) n' w' len ≡ queue_of m n' w' len
unfolding store_handles
handles-space m n w i [] n' w' len off = refl
handles-space m n w i (h ∷ l) n' w' len off = handles-space (store_handle m n w i h) n w (i + 1) l n' w' len off ∙ handle-space m n w i h n' w' len off

-- the queue holds what it held, then the handles
pub queue-handles : (m : List ℕ) (n w i : ℕ) (l : List ℕ) → length m ≡ all_words → i + length l ≤ capacity → queue_of (store_handles m n w i l) n w (i + length l) ≡ queue_of m n w i ++ l
unfolding store_handles
queue-handles m n w i [] full le = rw (add-zero, append-nil)
queue-handles m n w i (h ∷ l) full le =
    let e : i + suc (length l) ≡ i + 1 + length l = omega arith in
    rw e
    (queue-handles (store_handle m n w i h) n w (i + 1) l (length-store-handle m n w i h ∙ full) (omega arith)
    ∙ ap (λ (x : List ℕ). x ++ l) (queue-push m n w i h full (omega arith))
    ∙ append_assoc (queue_of m n w i) (h ∷ []) l)

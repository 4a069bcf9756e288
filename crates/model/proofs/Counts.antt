-- Step 1 of an acknowledgement and a loss detection, told by filters over the records: what is counted is there. Assumes nothing.
use mathlib.Core.Path.{◌≡◌, refl, ap, ap₂, sym, ◌∙◌, subst}
use mathlib.Core.Bool.{Bool, true, false, cond, ◌&&◌, ◌||◌, not}
use mathlib.Core.List.{List, [], ◌∷◌, ◌++◌, append-nil, append_assoc}
use Prim.Native.Nat.{ℕ, ◌+◌, ◌-◌}
use native.Mathlib.Nat.{add-zero, add_assoc}
use native.Mathlib.Omega.{arith}
use lib.Dec.{leb, ltb, eqb}
use lib.ListN.{length, length-append}
use Rattle.arith.specs.Whole.{limit, within, sum_of}
use Rattle.arith.specs.Time.{later_of}
use Rattle.arith.specs.declared.time.Moment.{Moment}
use Rattle.arith.specs.Refusals.{then}
use Rattle.model.specs.Numbers.{capacity, is_unset}
use Rattle.model.specs.Sent.{marked, standing, queued}
use Rattle.model.specs.Ack.{Met, Acked, meet_lost, newly_met, meet_standing, meet_by, keep_acked, meet_all}
use Rattle.model.specs.Loss.{Lost, Detected, is_lost, lose_probe, lose_packet, lose, keep_detected, detect_by, detect}
use Rattle.model.specs.Strength.{those, sizes, handles, held, acknowledged, was_lost, is_packet_lost, is_packet_in_flight, is_probe_in_flight, scanned, named, fallen}
use Rattle.model.specs.declared.Judge.{Judge}
use Rattle.arith.specs.declared.refusal.Refusal.TheVariants.{Full}
use Rattle.model.specs.declared.Sent.{Sent}
use Rattle.model.proofs.Peel.{All, all-is, all_then, all-cond, all-reach, no_value}
use Rattle.std.specs.Prelude.{Result, Ok, Err, Option, Some, None}
use Rattle.arith.specs.declared.refusal.Refusal.{Refusal}
use Rattle.arith.specs.declared.refusal.Refusal.TheVariants.{TooLarge}

-- ---- filters of two lists, one after the other

pub those-append : (f : Sent → Bool) (k l : List Sent) → those f (k ++ l) ≡ those f k ++ those f l
unfolding those
those-append f [] l = refl
those-append f (r ∷ k) l = go (f r) (those-append f k l)
  where
    go : (b : Bool) → those f (k ++ l) ≡ those f k ++ those f l →
        cond b (r ∷ those f (k ++ l)) (those f (k ++ l)) ≡ cond b (r ∷ those f k) (those f k) ++ those f l
    go true e = ap (λ (x : List Sent). r ∷ x) e
    go false e = e

-- one record more, by its test
pub those-more : (f : Sent → Bool) (r : Sent) (l : List Sent) (b : Bool) → f r ≡ b → those f (r ∷ l) ≡ cond b (r ∷ those f l) (those f l)
unfolding those
those-more f r l b e = ap (λ (x : Bool). cond x (r ∷ those f l) (those f l)) e

pub sizes-append : (k l : List Sent) → sizes (k ++ l) ≡ sizes k + sizes l
unfolding sizes
sizes-append [] l = omega arith
sizes-append (r ∷ k) l = omega (arith, sizes-append k l)

pub handles-append : (k l : List Sent) → handles (k ++ l) ≡ handles k ++ handles l
unfolding handles
handles-append [] l = refl
handles-append (r ∷ k) l = go (eqb r.handle 0) (handles-append k l)
  where
    go : (b : Bool) → handles (k ++ l) ≡ handles k ++ handles l →
        cond b (handles (k ++ l)) (r.handle ∷ handles (k ++ l)) ≡ cond b (handles k) (r.handle ∷ handles k) ++ handles l
    go true e = e
    go false e = ap (λ (x : List ℕ). r.handle ∷ x) e

-- a number that the rules reach is the sum
pub sum_is : (a b n : ℕ) → sum_of a b ≡ Ok n → n ≡ a + b
unfolding sum_of within
sum_is a b n = go (leb (a + b) limit)
  where
    go : (t : Bool) → cond t (Ok (a + b)) (Err TooLarge) ≡ Ok n → n ≡ a + b
    go true e = cc
    go false e = absurd (let z : ◌≡◌ {A = ℕ} 0 1 = cc in let w : ⊥ = omega arith in w)

-- a handle that is queued stands last
pub all-queued : {A : Type 0} (P : A → Type 0) (h : ℕ) (q : List ℕ) (f : List ℕ → Result A Refusal) →
    ((p : List ℕ) → p ≡ q ++ cond (eqb h 0) [] (h ∷ []) → All P (f p)) → All P (queued h q f)
all-queued P h q f k = go (eqb h 0) k
  where
    go : (b : Bool) → ((p : List ℕ) → p ≡ q ++ cond b [] (h ∷ []) → All P (f p)) →
        All P (cond b (f q) (cond (ltb (length q) capacity) (f (q ++ (h ∷ []))) (Err Full)))
    go true k = k q (sym (append-nil q))
    go false k = all-cond P (ltb (length q) capacity) (f (q ++ (h ∷ []))) (Err Full) (λ e. k (q ++ (h ∷ [])) refl) (λ e a p. no_value p)

-- ---- step 1

-- what is gathered more, over some records that the ranges hold
pub record Gathers (k : List Sent) (m n : Met) : Type 0 where
  pub newly : n.newly ≡ m.newly ++ those standing k
  pub queue : n.queue ≡ m.queue ++ handles (those standing k)
  pub bytes : n.acked_bytes ≡ m.acked_bytes + sizes (those (λ r. r.in_flight) (those standing k))
  pub spurious : n.spurious ≡ m.spurious + length (those was_lost k)

gathers-none : (m : Met) → Gathers [] m m
unfolding those handles sizes
gathers-none m = record { newly = sym (append-nil _); queue = sym (append-nil _); bytes = sym (add-zero _); spurious = sym (add-zero _) }

gathers-more : (k l : List Sent) (m n o : Met) → Gathers k m n → Gathers l n o → Gathers (k ++ l) m o
gathers-more k l m n o g h =
    record {
      newly = h.newly ∙ rw (g.newly, append_assoc, those-append) refl;
      queue = h.queue ∙ rw (g.queue, append_assoc, those-append, handles-append) refl;
      bytes = h.bytes ∙ rw (g.bytes, add_assoc, those-append standing, those-append, sizes-append) refl;
      spurious = h.spurious ∙ rw (g.spurious, add_assoc, those-append, length-append) refl;
    }

module _ (r : Sent) (m : Met) where
  abbrev One : Met → Type 0
  One n = Gathers (r ∷ []) m n

  met-skip : r.acked ≡ true → One m
  unfolding those handles sizes
  met-skip e = record { newly = rw e (sym (append-nil _)); queue = rw e (sym (append-nil _)); bytes = rw e (sym (add-zero _)); spurious = rw e (sym (add-zero _)) }

  met-lost : (largest : ℕ) (t : Moment) → r.acked ≡ false → r.time_lost ≡ Some t → One (meet_lost largest r m)
  unfolding those handles sizes
  met-lost largest t e f =
      record { newly = rw (e, f) (sym (append-nil _)); queue = rw (e, f) (sym (append-nil _)); bytes = rw (e, f) (sym (add-zero _)); spurious = rw (e, f) refl }

  met-newly : r.acked ≡ false → r.time_lost ≡ None → (q : List ℕ) (n in_flight : ℕ) → q ≡ m.queue ++ cond (eqb r.handle 0) [] (r.handle ∷ []) →
      n ≡ m.acked_bytes + cond r.in_flight (r.size + 0) 0 → One (newly_met r m q n in_flight)
  unfolding those handles sizes
  met-newly e f q n in_flight eq en =
      let stands : those standing (r ∷ []) ≡ r ∷ [] = those-more standing r [] true (ap₂ (λ (a : Bool) (t : Option Moment). not a && is_unset t) e f) in
      let kept : those was_lost (r ∷ []) ≡ [] = those-more was_lost r [] false (ap₂ (λ (a : Bool) (t : Option Moment). not a && not (is_unset t)) e f) in
      record {
        newly = ap (λ (x : List Sent). m.newly ++ x) (sym stands);
        queue = eq ∙ ap (λ (x : List Sent). m.queue ++ handles x) (sym stands);
        bytes = en ∙ by r.in_flight ∙ ap (λ (x : List Sent). m.acked_bytes + sizes (those (λ r. r.in_flight) x)) (sym stands);
        spurious = sym (add-zero _) ∙ ap (λ (x : List Sent). m.spurious + length x) (sym kept);
      }
    where
      by : (b : Bool) → m.acked_bytes + cond b (r.size + 0) 0 ≡ m.acked_bytes + sizes (cond b (r ∷ []) [])
      by true = refl
      by false = refl

  met-standing : r.acked ≡ false → r.time_lost ≡ None → All One (meet_standing r m)
  met-standing e f =
      all-queued One r.handle m.queue _ λ q eq.
      all-cond One r.in_flight (then (sum_of m.acked_bytes r.size) λ n. Ok (newly_met r m q n (m.in_flight - 1)))
      (Ok (newly_met r m q m.acked_bytes m.in_flight))
      (λ t.
      all_then One (sum_of m.acked_bytes r.size) (λ n. Ok (newly_met r m q n (m.in_flight - 1))) λ n s.
      all-is One _ (met-newly e f q n (m.in_flight - 1) eq (sum_is _ _ n s ∙ rw t (omega arith))))
      (λ t. all-is One _ (met-newly e f q m.acked_bytes m.in_flight eq (rw t (omega arith))))

  met-one : (largest : ℕ) → All One (meet_by r.acked r.time_lost largest r m)
  unfolding meet_by
  met-one largest = go r.acked refl r.time_lost refl
    where
      go : (a : Bool) → r.acked ≡ a → (t : Option Moment) → r.time_lost ≡ t → All One (meet_by a t largest r m)
      go true e t f = all-is One m (met-skip e)
      go false e (Some t) f = all-is One (meet_lost largest r m) (met-lost largest t e f)
      go false e None f = met-standing e f

pub record Meets (bs : List Bool) (l : List Sent) (m : Met) (a : Acked) : Type 0 where
  pub records : a.records ≡ acknowledged bs l
  pub gathers : Gathers (held bs l) m a.met

pub meets : (largest : ℕ) (bs : List Bool) (l : List Sent) (m : Met) → All (Meets bs l m) (meet_all largest bs l m)
unfolding meet_all acknowledged held keep_acked
meets largest [] l m = all-is (Meets [] l m) _ (record { records = refl; gathers = gathers-none m })
meets largest (b ∷ bs) [] m = all-is (Meets (b ∷ bs) [] m) _ (record { records = refl; gathers = gathers-none m })
meets largest (false ∷ bs) (r ∷ l) m =
    all_then (Meets (false ∷ bs) (r ∷ l) m) (meet_all largest bs l m) (λ a. Ok (keep_acked r a)) λ a e.
    let h = meets largest bs l m a e in
    all-is (Meets (false ∷ bs) (r ∷ l) m) (keep_acked r a) (record { records = ap (λ (x : List Sent). r ∷ x) h.records; gathers = h.gathers })
meets largest (true ∷ bs) (r ∷ l) m =
    all_then (Meets (true ∷ bs) (r ∷ l) m) (meet_by r.acked r.time_lost largest r m)
    (λ n. then (meet_all largest bs l n) λ a. Ok (keep_acked (marked r true r.time_lost) a)) λ n e.
    all_then (Meets (true ∷ bs) (r ∷ l) m) (meet_all largest bs l n) (λ a. Ok (keep_acked (marked r true r.time_lost) a)) λ a f.
    let h = meets largest bs l n a f in
    all-is (Meets (true ∷ bs) (r ∷ l) m) (keep_acked (marked r true r.time_lost) a)
    (record {
      records = ap (λ (x : List Sent). marked r true r.time_lost ∷ x) h.records;
      gathers = gathers-more (r ∷ []) (held bs l) m n a.met (met-one r m largest n e) h.gathers;
    })

-- ---- loss detection

-- what is lost more, over some records that are named lost
pub record Loses (k : List Sent) (s t : Lost) : Type 0 where
  pub packets : t.packets ≡ s.packets + length (those is_packet_lost k)
  pub bytes : t.bytes ≡ s.bytes + sizes (those is_packet_in_flight k)
  pub probe_bytes : t.probe_bytes ≡ s.probe_bytes + sizes (those is_probe_in_flight k)
  pub queue : t.queue ≡ s.queue ++ handles k

loses-none : (s : Lost) → Loses [] s s
unfolding those handles sizes
loses-none s = record { packets = sym (add-zero _); bytes = sym (add-zero _); probe_bytes = sym (add-zero _); queue = sym (append-nil _) }

loses-more : (k l : List Sent) (s t u : Lost) → Loses k s t → Loses l t u → Loses (k ++ l) s u
loses-more k l s t u g h =
    record {
      packets = h.packets ∙ rw (g.packets, add_assoc, those-append, length-append) refl;
      bytes = h.bytes ∙ rw (g.bytes, add_assoc, those-append, sizes-append) refl;
      probe_bytes = h.probe_bytes ∙ rw (g.probe_bytes, add_assoc, those-append, sizes-append) refl;
      queue = h.queue ∙ rw (g.queue, append_assoc, handles-append) refl;
    }

module _ (r : Sent) (s : Lost) where
  abbrev Loss : Lost → Type 0
  Loss t = Loses (r ∷ []) s t

  -- one record's share, by whether it is a probe and in flight
  abbrev part : Bool → ℕ
  part b = sizes (cond b (r ∷ []) [])

  lost_as : (probe flying : Bool) → r.is_pmtud_probe ≡ probe → r.in_flight ≡ flying → (t : Lost) → t.packets ≡ s.packets + length (cond (not probe) (r ∷ []) []) →
      t.bytes ≡ s.bytes + part (not probe && flying) → t.probe_bytes ≡ s.probe_bytes + part (probe && flying) →
      t.queue ≡ s.queue ++ cond (eqb r.handle 0) [] (r.handle ∷ []) → Loss t
  unfolding those handles
  lost_as probe flying e f t packets bytes probe_bytes queue =
      record {
        packets = packets ∙ ap (λ (x : List Sent). s.packets + length x) (sym (those-more is_packet_lost r [] (not probe) (ap not e)));
        bytes = bytes ∙ ap (λ (x : List Sent). s.bytes + sizes x) (sym (those-more is_packet_in_flight r [] (not probe && flying) (ap₂ (λ (a b : Bool). not a && b) e f)));
        probe_bytes = probe_bytes ∙ ap (λ (x : List Sent). s.probe_bytes + sizes x) (sym (those-more is_probe_in_flight r [] (probe && flying) (ap₂ (λ (a b : Bool). a && b) e f)));
        queue = queue;
      }

  lost-probe : r.is_pmtud_probe ≡ true → (q : List ℕ) → q ≡ s.queue ++ cond (eqb r.handle 0) [] (r.handle ∷ []) → All Loss (lose_probe r s q)
  unfolding sizes
  lost-probe e q eq =
      all-cond Loss r.in_flight _ _
      (λ f.
      all_then Loss (sum_of s.probe_bytes r.size) _ λ n w.
      all-is Loss _ (lost_as true true e f _ (sym (add-zero _)) (sym (add-zero _)) (sum_is _ _ n w ∙ omega arith) eq))
      (λ f. all-is Loss _ (lost_as true false e f _ (sym (add-zero _)) (sym (add-zero _)) (sym (add-zero _)) eq))

  lost-packet : r.is_pmtud_probe ≡ false → (q : List ℕ) → q ≡ s.queue ++ cond (eqb r.handle 0) [] (r.handle ∷ []) → All Loss (lose_packet r s q)
  unfolding sizes
  lost-packet e q eq =
      all-cond Loss r.in_flight _ _
      (λ f.
      all_then Loss (sum_of s.bytes r.size) _ λ n w.
      all-is Loss _ (lost_as false true e f _ refl (sum_is _ _ n w ∙ omega arith) (sym (add-zero _)) eq))
      (λ f. all-is Loss _ (lost_as false false e f _ refl (sym (add-zero _)) (sym (add-zero _)) eq))

  lost-one : All Loss (lose r s)
  unfolding lose
  lost-one =
      all-queued Loss r.handle s.queue _ λ q eq.
      all-cond Loss r.is_pmtud_probe (lose_probe r s q) (lose_packet r s q) (λ e. lost-probe e q eq) (λ e. lost-packet e q eq)

pub record Finds (j : Judge) (l : List Sent) (s : Lost) (d : Detected) : Type 0 where
  pub records : d.records ≡ fallen j l
  pub loses : Loses (named j l) s d.lost

module _ (j : Judge) (r : Sent) (l : List Sent) where
  -- the scan by its three tests
  scan-ends : ltb j.largest r.number ≡ true → scanned j (r ∷ l) ≡ []
  unfolding scanned
  scan-ends e = ap (λ (x : Bool). cond (x || (standing r && not (is_lost j r))) [] (r ∷ scanned j l)) e

  scan-survives : ltb j.largest r.number ≡ false → standing r ≡ true → is_lost j r ≡ false → scanned j (r ∷ l) ≡ []
  unfolding scanned
  scan-survives e f g = rw (e, f, g) refl

  scan-passes : ltb j.largest r.number ≡ false → (b : Bool) → standing r ≡ b → (b && not (is_lost j r)) ≡ false → scanned j (r ∷ l) ≡ r ∷ scanned j l
  unfolding scanned
  scan-passes e b f g = ap₂ (λ (x y : Bool). cond (x || y) [] (r ∷ scanned j l)) e (ap (λ (x : Bool). x && not (is_lost j r)) f ∙ g)

  abbrev fall : Sent → Sent
  fall q = cond (standing q && is_lost j q) (marked q false (Some j.now)) q

  ended-fallen : scanned j (r ∷ l) ≡ [] → r ∷ l ≡ fallen j (r ∷ l)
  unfolding fallen
  ended-fallen e = rw e refl

  ended_named : scanned j (r ∷ l) ≡ [] → [] ≡ named j (r ∷ l)
  unfolding named those
  ended_named e = rw e refl

  passed-fallen : scanned j (r ∷ l) ≡ r ∷ scanned j l → fallen j (r ∷ l) ≡ fall r ∷ fallen j l
  unfolding fallen
  passed-fallen e = rw e refl

  passed-named : scanned j (r ∷ l) ≡ r ∷ scanned j l → named j (r ∷ l) ≡ cond (standing r && is_lost j r) (r ∷ named j l) (named j l)
  unfolding named those
  passed-named e = rw e refl

  -- a record that is passed over, and one that is lost
  falls-not : standing r ≡ false → fall r ≡ r
  falls-not f = ap (λ (x : Bool). cond (x && is_lost j r) (marked r false (Some j.now)) r) f

  falls : standing r ≡ true → is_lost j r ≡ true → fall r ≡ marked r false (Some j.now)
  falls f g = ap₂ (λ (x y : Bool). cond (x && y) (marked r false (Some j.now)) r) f g

  finds-ended : (s : Lost) (t : Option Moment) → scanned j (r ∷ l) ≡ [] → Finds j (r ∷ l) s (record { records = r ∷ l; lost = s; loss_time = t })
  finds-ended s t e = record { records = ended-fallen e; loses = subst (λ (x : List Sent). Loses x s s) (ended_named e) (loses-none s) }

  finds-passed : (s : Lost) (d : Detected) → ltb j.largest r.number ≡ false → standing r ≡ false → Finds j l s d → Finds j (r ∷ l) s (keep_detected r d)
  unfolding keep_detected
  finds-passed s d e f h =
      let p : scanned j (r ∷ l) ≡ r ∷ scanned j l = scan-passes e false f refl in
      let n : named j l ≡ named j (r ∷ l) = sym (passed-named p ∙ ap (λ (x : Bool). cond (x && is_lost j r) (r ∷ named j l) (named j l)) f) in
      record {
        records = sym (passed-fallen p ∙ ap₂ (λ (x : Sent) (y : List Sent). x ∷ y) (falls-not f) (sym h.records));
        loses = subst (λ (x : List Sent). Loses x s d.lost) n h.loses;
      }

  finds-lost : (s t : Lost) (d : Detected) → ltb j.largest r.number ≡ false → standing r ≡ true → is_lost j r ≡ true → Loses (r ∷ []) s t → Finds j l t d →
      Finds j (r ∷ l) s (keep_detected (marked r false (Some j.now)) d)
  unfolding keep_detected
  finds-lost s t d e f g one h =
      let p : scanned j (r ∷ l) ≡ r ∷ scanned j l = scan-passes e true f (ap not g) in
      let n : (r ∷ []) ++ named j l ≡ named j (r ∷ l) = sym (passed-named p ∙ ap₂ (λ (x y : Bool). cond (x && y) (r ∷ named j l) (named j l)) f g) in
      record {
        records = sym (passed-fallen p ∙ ap₂ (λ (x : Sent) (y : List Sent). x ∷ y) (falls f g) (sym h.records));
        loses = subst (λ (x : List Sent). Loses x s d.lost) n (loses-more (r ∷ []) (named j l) s t d.lost one h.loses);
      }

finds-none : (j : Judge) (s : Lost) → Finds j [] s (record { records = []; lost = s; loss_time = None })
unfolding fallen named scanned those
finds-none j s = record { records = refl; loses = loses-none s }

pub finds : (j : Judge) (l : List Sent) (s : Lost) → All (Finds j l s) (detect j l s)
unfolding detect
finds j [] s = all-is (Finds j [] s) _ (finds-none j s)
finds j (r ∷ l) s = go (finds j l) (ltb j.largest r.number) refl (standing r) refl (is_lost j r) refl
  where
    go : ((t : Lost) → All (Finds j l t) (detect j l t)) → (a : Bool) → ltb j.largest r.number ≡ a → (b : Bool) → standing r ≡ b → (v : Bool) → is_lost j r ≡ v →
        All (Finds j (r ∷ l) s) (detect_by a b v j r l s (detect j l))
    go ih true e b f v g = all-is (Finds j (r ∷ l) s) _ (finds-ended j r l s None (scan-ends j r l e))
    go ih false e false f v g =
        all_then (Finds j (r ∷ l) s) (detect j l s) (λ d. Ok (keep_detected r d)) λ d x.
        all-is (Finds j (r ∷ l) s) (keep_detected r d) (finds-passed j r l s d e f (ih s d x))
    go ih false e true f false g =
        all-reach (Finds j (r ∷ l) s) (later_of r.time_sent j.delay) _ λ t. all-is (Finds j (r ∷ l) s) _ (finds-ended j r l s (Some t) (scan-survives j r l e f g))
    go ih false e true f true g =
        all_then (Finds j (r ∷ l) s) (lose r s) (λ t. then (detect j l t) λ d. Ok (keep_detected (marked r false (Some j.now)) d)) λ t x.
        all_then (Finds j (r ∷ l) s) (detect j l t) (λ d. Ok (keep_detected (marked r false (Some j.now)) d)) λ d y.
        all-is (Finds j (r ∷ l) s) (keep_detected (marked r false (Some j.now)) d) (finds-lost j r l s t d e f g (lost-one r s t x) (ih t d y))

-- What an acknowledgement and a loss detection take off is what is no longer out. Assumes nothing.
use Prim.Native.Nat.{ℕ, ◌+◌, ◌-◌}
use mathlib.Core.Path.{◌≡◌, refl, ap, ◌∙◌}
use mathlib.Core.Bool.{Bool, true, false, cond}
use mathlib.Core.List.{List, [], ◌∷◌, ◌++◌, append_assoc}
use native.Mathlib.Omega.{arith}
use lib.Dec.{eqb, ltb}
use lib.ListN.{length}
use Rattle.arith.specs.Whole.{sum_of}
use Rattle.arith.specs.Time.{later_of}
use Rattle.arith.proofs.Laws.{sum_is}
use Rattle.model.specs.Ack.{Met, meet_lost, newly_met, meet_by, keep_acked, meet_all}
use Rattle.model.specs.Loss.{is_lost, Lost, Detected, lose, lose_probe, lose_packet, keep_detected, detect_by, detect}
use Rattle.arith.specs.Refusals.{then}
use Rattle.model.specs.Numbers.{capacity}
use Rattle.model.specs.Sent.{standing, marked, queued}
use Rattle.model.specs.declared.Judge.{Judge}
use Rattle.arith.specs.declared.refusal.Refusal.TheVariants.{Full}
use Rattle.model.specs.declared.Sent.{Sent}
use Rattle.model.proofs.Peel.{All, all-is, all_then, all-cond, all-reach, no_value}
use Rattle.flight.proofs.Records.{Less, less_none, less-first, less-out, less-neither, fallen, aside, both, acked-fallen, lost-fallen, is-standing, marked-acked, marked-lost}
use Rattle.std.specs.Prelude.{Result, Ok, Err, Option, Some, None}
use Rattle.arith.specs.declared.time.Moment.{Moment}
use Rattle.arith.specs.declared.refusal.Refusal.{Refusal}

-- whatever a queue holds after a handle
pub all-queued : {A : Type 0} (P : A → Type 0) (handle : ℕ) (q : List ℕ) (k : List ℕ → Result A Refusal) → ((p : List ℕ) → All P (k p)) → All P (queued handle q k)
all-queued P handle q k h =
    all-cond P (eqb handle 0) (k q) (cond (ltb (length q) capacity) (k (q ++ (handle ∷ []))) (Err Full)) (λ e. h q)
    (λ e. all-cond P (ltb (length q) capacity) (k (q ++ (handle ∷ []))) (Err Full) (λ f. h (q ++ (handle ∷ []))) (λ f a p. no_value p))

-- ---- an acknowledgement

-- from records l to k, the gathering went from m to t
pub record Taken (l k : List Sent) (m t : Met) : Type 0 where
  pub b : ℕ
  pub n : ℕ
  pub less : Less l k b n
  pub bytes : t.acked_bytes ≡ m.acked_bytes + b
  pub in_flight : t.in_flight ≡ m.in_flight - n
  -- and nothing where none is newly acked
  pub more : List Sent
  pub newly : t.newly ≡ m.newly ++ more
  pub none : more ≡ [] → (b ≡ 0) × (n ≡ 0)

append-none : (l : List Sent) → l ≡ l ++ []
append-none [] = refl
append-none (r ∷ l) = ap (λ (k : List Sent). r ∷ k) (append-none l)

taken_none : (l k : List Sent) (m : Met) → Less l k 0 0 → Taken l k m m
taken_none l k m x =
    record { b = 0; n = 0; less = x; bytes = omega arith; in_flight = omega arith; more = []; newly = append-none m.newly; none = λ e. (refl, refl) }

both-none : (l k : List Sent) → l ++ k ≡ [] → (l ≡ []) × (k ≡ [])
both-none [] k e = (refl, e)
both-none (r ∷ l) k e = absurd (let z : ◌≡◌ {A = ℕ} 0 1 = cc in let w : ⊥ = omega arith in w)

taken-first : {r q : Sent} {l k : List Sent} {m t u : Met} → Taken (r ∷ []) (q ∷ []) m t → Taken l k t u → Taken (r ∷ l) (q ∷ k) m u
taken-first {r} {q} {l} {k} {m} {t} {u} x y =
    record {
      b = x.b + y.b;
      n = x.n + y.n;
      less = less-first x.less y.less;
      bytes = omega (arith, x.bytes, y.bytes);
      in_flight = omega (arith, x.in_flight, y.in_flight);
      more = x.more ++ y.more;
      newly = y.newly ∙ ap (λ (k : List Sent). k ++ y.more) x.newly ∙ append_assoc m.newly x.more y.more;
      none = λ e.
          let p = x.none (both-none x.more y.more e).0 in
          let s = y.none (both-none x.more y.more e).1 in
          (omega (arith, p.0, s.0), omega (arith, p.1, s.1));
    }

module _ (largest : ℕ) (r : Sent) (m : Met) where
  abbrev TakenOne : Met → Type 0
  TakenOne t = Taken (r ∷ []) (marked r true r.time_lost ∷ []) m t

  unchanged : (t : Met) → standing r ≡ false → t.acked_bytes ≡ m.acked_bytes → t.in_flight ≡ m.in_flight → t.newly ≡ m.newly → TakenOne t
  unchanged t e f g h =
      record {
        b = 0;
        n = 0;
        less = less-neither r (marked r true r.time_lost) (fallen r e) (marked-acked r r.time_lost);
        bytes = omega (arith, f);
        in_flight = omega (arith, g);
        more = [];
        newly = h ∙ append-none m.newly;
        none = λ e. (refl, refl);
      }

  pub meet_one : All TakenOne (meet_by r.acked r.time_lost largest r m)
  unfolding meet_by
  meet_one = go r.acked refl r.time_lost refl
    where
      go : (a : Bool) → r.acked ≡ a → (t : Option Moment) → r.time_lost ≡ t → All TakenOne (meet_by a t largest r m)
      go true e t f = all-is TakenOne m (unchanged m (acked-fallen r e) refl refl refl)
      go false e (Some t) f = all-is TakenOne (meet_lost largest r m) (unchanged (meet_lost largest r m) (lost-fallen r f) refl refl refl)
      go false e None f =
          all-queued TakenOne r.handle m.queue
          (λ q.
          cond r.in_flight (then (sum_of m.acked_bytes r.size) λ n. Ok (newly_met r m q n (m.in_flight - 1)))
          (Ok (newly_met r m q m.acked_bytes m.in_flight))) λ q.
          all-cond TakenOne r.in_flight
          (then (sum_of m.acked_bytes r.size) λ n. Ok (newly_met r m q n (m.in_flight - 1)))
          (Ok (newly_met r m q m.acked_bytes m.in_flight))
          (λ flies.
          all_then TakenOne (sum_of m.acked_bytes r.size) (λ n. Ok (newly_met r m q n (m.in_flight - 1))) λ n s.
          all-is TakenOne (newly_met r m q n (m.in_flight - 1))
          (record {
            b = r.size;
            n = 1;
            less = less-out r (marked r true r.time_lost) (both r flies (is-standing r e f)) (marked-acked r r.time_lost);
            bytes = (sum_is m.acked_bytes r.size s).0;
            in_flight = refl;
            more = r ∷ [];
            newly = refl;
            none = λ e. absurd (let z : ◌≡◌ {A = ℕ} 0 1 = cc in let w : ⊥ = omega arith in w);
          }))
          (λ lies.
          all-is TakenOne (newly_met r m q m.acked_bytes m.in_flight)
          (record {
            b = 0;
            n = 0;
            less = less-neither r (marked r true r.time_lost) (aside r lies) (marked-acked r r.time_lost);
            bytes = omega arith;
            in_flight = omega arith;
            more = r ∷ [];
            newly = refl;
            none = λ e. (refl, refl);
          }))

-- all records
pub meet-all : (largest : ℕ) (bs : List Bool) (l : List Sent) (m : Met) → All (λ a. Taken l a.records m a.met) (meet_all largest bs l m)
unfolding meet_all keep_acked
meet-all largest [] l m = all-is (λ a. Taken l a.records m a.met) (record { records = l; met = m }) (taken_none l l m (less_none l))
meet-all largest (b ∷ bs) [] m = all-is (λ a. Taken [] a.records m a.met) (record { records = []; met = m }) (taken_none [] [] m (less_none []))
meet-all largest (false ∷ bs) (r ∷ l) m =
    all_then (λ a. Taken (r ∷ l) a.records m a.met) (meet_all largest bs l m) (λ a. Ok (keep_acked r a)) λ a e.
    all-is (λ a. Taken (r ∷ l) a.records m a.met) (keep_acked r a) (taken-first (taken_none (r ∷ []) (r ∷ []) m (less_none (r ∷ []))) (meet-all largest bs l m a e))
meet-all largest (true ∷ bs) (r ∷ l) m =
    all_then (λ a. Taken (r ∷ l) a.records m a.met) (meet_by r.acked r.time_lost largest r m)
    (λ n. then (meet_all largest bs l n) λ a. Ok (keep_acked (marked r true r.time_lost) a)) λ t e.
    all_then (λ a. Taken (r ∷ l) a.records m a.met) (meet_all largest bs l t) (λ a. Ok (keep_acked (marked r true r.time_lost) a)) λ a f.
    all-is (λ a. Taken (r ∷ l) a.records m a.met) (keep_acked (marked r true r.time_lost) a)
    (taken-first (meet_one largest r m t e) (meet-all largest bs l t a f))

-- ---- a loss detection

pub record Gone (l k : List Sent) (s t : Lost) : Type 0 where
  pub b : ℕ
  pub p : ℕ
  pub n : ℕ
  pub less : Less l k (b + p) n
  pub bytes : t.bytes ≡ s.bytes + b
  pub probes : t.probe_bytes ≡ s.probe_bytes + p
  pub in_flight : t.in_flight ≡ s.in_flight - n

gone-none : (l k : List Sent) (s : Lost) → Less l k 0 0 → Gone l k s s
gone-none l k s x = record { b = 0; p = 0; n = 0; less = x; bytes = omega arith; probes = omega arith; in_flight = omega arith }

gone-first : {r q : Sent} {l k : List Sent} {s t u : Lost} → Gone (r ∷ []) (q ∷ []) s t → Gone l k t u → Gone (r ∷ l) (q ∷ k) s u
gone-first {r} {q} {l} {k} x y =
    record {
      b = x.b + y.b;
      p = x.p + y.p;
      n = x.n + y.n;
      less = let z = less-first x.less y.less in record { bytes = omega (arith, z.bytes); count = z.count };
      bytes = omega (arith, x.bytes, y.bytes);
      probes = omega (arith, x.probes, y.probes);
      in_flight = omega (arith, x.in_flight, y.in_flight);
    }

module _ (j : Judge) (r : Sent) (s : Lost) (stands : standing r ≡ true) where
  abbrev q : Sent
  q = marked r false (Some j.now)

  abbrev GoneOne : Lost → Type 0
  GoneOne t = Gone (r ∷ []) (q ∷ []) s t

  out : r.in_flight ≡ true → Less (r ∷ []) (q ∷ []) r.size 1
  out flies = less-out r q (both r flies stands) (marked-lost r j.now)

  kept : (t : Lost) → r.in_flight ≡ false → t.bytes ≡ s.bytes → t.probe_bytes ≡ s.probe_bytes → t.in_flight ≡ s.in_flight → GoneOne t
  kept t lies e f g =
      record { b = 0; p = 0; n = 0; less = less-neither r q (aside r lies) (marked-lost r j.now); bytes = omega (arith, e); probes = omega (arith, f); in_flight = omega (arith, g) }

  pub lose-one : All GoneOne (lose r s)
  unfolding lose
  lose-one =
      all-queued GoneOne r.handle s.queue (λ k. cond r.is_pmtud_probe (lose_probe r s k) (lose_packet r s k)) λ k.
      all-cond GoneOne r.is_pmtud_probe (lose_probe r s k) (lose_packet r s k)
      (λ e.
      all-cond GoneOne r.in_flight _ _
      (λ flies.
      all_then GoneOne (sum_of s.probe_bytes r.size) _ λ n f.
      all-is GoneOne _ (record { b = 0; p = r.size; n = 1; less = let z = out flies in record { bytes = omega (arith, z.bytes); count = z.count }; bytes = omega arith; probes = (sum_is s.probe_bytes r.size f).0; in_flight = refl }))
      (λ lies. all-is GoneOne _ (kept _ lies refl refl refl)))
      (λ e.
      all-cond GoneOne r.in_flight _ _
      (λ flies.
      all_then GoneOne (sum_of s.bytes r.size) _ λ n f.
      all-is GoneOne _
      (record {
        b = r.size;
        p = 0;
        n = 1;
        less = let z = out flies in record { bytes = omega (arith, z.bytes); count = z.count };
        bytes = (sum_is s.bytes r.size f).0;
        probes = omega arith;
        in_flight = refl;
      }))
      (λ lies. all-is GoneOne _ (kept _ lies refl refl refl)))

module _ (j : Judge) (r : Sent) (l : List Sent) (s : Lost) where
  abbrev GoneAll : Detected → Type 0
  GoneAll d = Gone (r ∷ l) d.records s d.lost

  here : Gone (r ∷ l) (r ∷ l) s s
  here = gone-none (r ∷ l) (r ∷ l) s (less_none (r ∷ l))

  by-verdict : (a b : Bool) → standing r ≡ b → (v : Bool) → ((t : Lost) → All (λ d. Gone l d.records t d.lost) (detect j l t)) → All GoneAll (detect_by a b v j r l s (detect j l))
  unfolding detect_by keep_detected
  by-verdict true b e v ih = all-is GoneAll (record { records = r ∷ l; lost = s; loss_time = None }) here
  by-verdict false false e v ih =
      all_then GoneAll (detect j l s) (λ d. Ok (keep_detected r d)) λ d f.
      all-is GoneAll (keep_detected r d) (gone-first (gone-none (r ∷ []) (r ∷ []) s (less_none (r ∷ []))) (ih s d f))
  by-verdict false true e false ih =
      all-reach GoneAll (later_of r.time_sent j.delay) (λ t. Ok (record { records = r ∷ l; lost = s; loss_time = Some t })) λ t. all-is GoneAll _ here
  by-verdict false true e true ih =
      all_then GoneAll (lose r s) (λ t. then (detect j l t) λ d. Ok (keep_detected (marked r false (Some j.now)) d)) λ t f.
      all_then GoneAll (detect j l t) (λ d. Ok (keep_detected (marked r false (Some j.now)) d)) λ d g.
      all-is GoneAll (keep_detected (marked r false (Some j.now)) d) (gone-first (lose-one j r s e t f) (ih t d g))

pub detect-all : (j : Judge) (l : List Sent) (s : Lost) → All (λ d. Gone l d.records s d.lost) (detect j l s)
unfolding detect
detect-all j [] s = all-is (λ d. Gone [] d.records s d.lost) (record { records = []; lost = s; loss_time = None }) (gone-none [] [] s (less_none []))
detect-all j (r ∷ l) s = by-verdict j r l s (ltb j.largest r.number) (standing r) refl (is_lost j r) (λ t. detect-all j l t)

-- What a caller learns of a drain and of a loss detection. marks/proofs/Lost.antt has the laws of their definitions. Assumes nothing.
use mathlib.Core.Path.{◌≡◌, refl, ap, sym, ◌∙◌}
use mathlib.Core.Bool.{Bool, true, false}
use mathlib.Core.List.{List, ◌++◌}
use Prim.Native.Nat.{ℕ, zero, suc, ◌+◌, ◌-◌, ◌≤◌}
use native.Mathlib.Omega.{arith}
use lib.ListN.{length}
use Rattle.arith.specs.declared.time.Moment.{Moment}
use Rattle.arith.specs.declared.time.Span.{Span}
use Rattle.model.specs.Numbers.{capacity}
use Rattle.model.specs.Sent.{may_leave, drained}
use Rattle.model.specs.Loss.{Lost, detect}
use Rattle.model.specs.declared.Judge.{Judge}
use Rattle.arith.specs.declared.refusal.Refusal.{Refusal}
use Rattle.model.specs.declared.Sent.{Sent}
use Rattle.records.specs.View.{ring}
use Rattle.records.proofs.Rings.{ring-end, length-ring, ring-take}
use Rattle.marks.specs.Marks.{acked_at, settled_at, standing_of, handles_of}
use Rattle.marks.specs.declared.Stop.{Stop}
use Rattle.marks.proofs.SplitLoss.{lost_of, finish_lost, split-loss}
use Rattle.marks.proofs.Lost.{lost-ring, sought}
use Rattle.losses.specs.Drain.{drained_to}
use Rattle.losses.specs.Seek.{seek_from}
use Rattle.losses.proofs.Turns.{drained-on, drained-stop, drained-none}
use Rattle.std.specs.Prelude.{Ok, Err, None}

-- ---- where draining ends: what is left from there on is what the definition leaves
module _ (now : Moment) (smoothed : Span) (f : ℕ → Sent) (k : ℕ) where
  pub record Drained (a r : ℕ) : Type 0 where
    pub from : a ≤ r
    pub to : r ≤ k
    pub left : drained now smoothed (ring f a (k - a)) ≡ ring f r (k - r)

  drained-by : (c a : ℕ) → c ≡ k - a → a ≤ k → Drained a (drained_to now smoothed f a k)
  unfolding drained_to
  drained-by zero a e le =
      let z = drained-none now smoothed f k a (omega arith) in
      let n : length (drained now smoothed (ring f a (k - a))) ≡ 0 = ap length z in
      let r : k - 0 ≡ k = omega arith in
      rw (n, r) (record { from = le; to = omega arith; left = z ∙ sym (ring-end f k (k - k) (omega arith)) })
  drained-by (suc c) a e le = go (may_leave now smoothed (f a)) refl (drained-by c (a + 1) (omega arith) (omega arith))
    where
      go : (b : Bool) → may_leave now smoothed (f a) ≡ b → Drained (a + 1) (k - length (drained now smoothed (ring f (a + 1) (k - (a + 1))))) →
          Drained a (k - length (drained now smoothed (ring f a (k - a))))
      go true p ih =
          let s = drained-on now smoothed f k a (omega arith) p in
          rw s (record { from = omega (arith, ih.from); to = ih.to; left = s ∙ ih.left })
      go false p ih =
          let s = drained-stop now smoothed f k a (omega arith) p in
          let n : length (drained now smoothed (ring f a (k - a))) ≡ k - a = ap length s ∙ length-ring f a (k - a) in
          let r : k - (k - a) ≡ a = omega arith in
          rw (n, r) (record { from = omega arith; to = le; left = s })

  pub drained-to : (a : ℕ) → a ≤ k → Drained a (drained_to now smoothed f a k)
  drained-to a le = drained-by (k - a) a refl le

-- ---- a detection that stops: where, and the handles of those lost, which the queue holds
module _ (j : Judge) (f : ℕ → Sent) (a k queued in_flight : ℕ) (g : Stop) (e : seek_from j f a k queued in_flight ≡ Ok g) (le : a ≤ k) where
  pub seek-from : a ≤ g.place
  seek-from = (sought j a (ring f a (k - a)) _ g e).from

  pub seek-to : g.place ≤ k
  seek-to = omega (arith, (sought j a (ring f a (k - a)) _ g e).to, length-ring f a (k - a))

  pub seek-handles : g.tally.queued ≡ queued + length (handles_of (standing_of (ring f a (g.place - a))))
  seek-handles =
      let n : g.place - a ≤ k - a = omega (arith, seek-to) in
      rw (← ring-take f a (g.place - a) (k - a) n) (sought j a (ring f a (k - a)) _ g e).handles

  pub seek-room : queued ≤ capacity → g.tally.queued ≤ capacity
  seek-room h = (sought j a (ring f a (k - a)) _ g e).room h

-- ---- model's detection, from the answer
module _ (m : List ℕ) (n head : ℕ) (fs : List Bool) (j : Judge) (a k : ℕ) (q : List ℕ) (in_flight : ℕ) where
  abbrev fresh : Lost
  fresh = record { queue = q; packets = 0; bytes = 0; probe_bytes = 0; in_flight = in_flight; last = None }

  -- what stood before the stop is lost now
  pub detect-stops : (g : Stop) → seek_from j (acked_at m n head fs) a k (length q) in_flight ≡ Ok g → a ≤ k →
      detect j (ring (acked_at m n head fs) a (k - a)) fresh
      ≡ Ok
      (record {
        records = ring (settled_at m n head fs g.place j.now) a (k - a);
        lost = lost_of g.tally (q ++ handles_of (standing_of (ring (acked_at m n head fs) a (g.place - a))));
        loss_time = g.loss_time;
      })
  unfolding finish_lost
  detect-stops g e le =
      let lo = seek-from j (acked_at m n head fs) a k (length q) in_flight g e le in
      let hi = seek-to j (acked_at m n head fs) a k (length q) in_flight g e le in
      let d : g.place - a ≤ k - a = omega arith in
      split-loss j a (ring (acked_at m n head fs) a (k - a)) fresh
      ∙ rw (e, lost-ring m n head fs g.place j.now a (k - a) lo, ring-take (acked_at m n head fs) a (g.place - a) (k - a) d) refl

  pub detect-refused : (x : Refusal) → seek_from j (acked_at m n head fs) a k (length q) in_flight ≡ Err x →
      detect j (ring (acked_at m n head fs) a (k - a)) fresh ≡ Err x
  unfolding finish_lost
  detect-refused x e = split-loss j a (ring (acked_at m n head fs) a (k - a)) fresh ∙ rw e refl

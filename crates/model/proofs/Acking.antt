-- An accepted acknowledgement's law. Assumes nothing.
use mathlib.Core.Path.{◌≡◌, refl, ap, sym, ◌∙◌, subst}
use mathlib.Core.Bool.{Bool, true, false, cond, ◌&&◌, not}
use mathlib.Core.List.{List, [], ◌∷◌, ◌++◌}
use Prim.Native.Nat.{ℕ, ◌-◌, ◌<◌}
use native.Mathlib.Nat.{zero-add}
use lib.Dec.{eqb}
use borrow.Author.Tests.{ltb-true}
use Rattle.arith.specs.Whole.{times_of}
use Rattle.arith.specs.Time.{span}
use Rattle.arith.specs.declared.time.Moment.{Moment}
use Rattle.arith.specs.declared.time.Span.{Span}
use Rattle.arith.specs.Refusals.{then}
use Rattle.model.specs.Numbers.{on_clock, is_space}
use Rattle.model.specs.Sent.{drained}
use Rattle.model.specs.Ranges.{are_ranges, hold_skipped, is_skipped, largest_for}
use Rattle.model.specs.Ack.{Met, Acked, meet_all, reordered}
use Rattle.model.specs.Control.{control, forgive_by, ack_each}
use Rattle.model.specs.Connection.{Space, Connection, space_at, with_space, with_shared, with_timer, timed}
use Rattle.model.specs.Events.{Step, Detection, detect_lost_packets, stored_largest, sampled, space_acked, outcome, acked_nothing, shared_acked, drained_again, acked_some, acked_by, acknowledge, on_ack_received}
use Rattle.model.specs.Strength.{those, sizes, held, fallen, places, newly_acked, remaining, AcksBy, Acknowledges}
use Rattle.model.specs.declared.Congestion.{Congestion}
use Rattle.model.specs.declared.HandshakeStatus.{HandshakeStatus}
use Rattle.model.specs.declared.Judge.{Judge}
use Rattle.model.specs.declared.OnAckReceivedOutcome.{OnAckReceivedOutcome}
use Rattle.arith.specs.declared.refusal.Refusal.TheVariants.{Clock, Domain, Ranges, Skipped}
use Rattle.model.specs.declared.Reordering.{Reordering}
use Rattle.model.specs.declared.Rtt.{Rtt}
use Rattle.model.specs.declared.Sent.{Sent}
use Rattle.model.specs.declared.Shared.{Shared}
use Rattle.model.proofs.Peel.{All, all-is, all_then, all-must, all-reach}
use Rattle.model.proofs.Counts.{Gathers, meets}
use Rattle.model.proofs.Remains.{Remains, remains-acked, remains-drained, remains-fallen, drained-twice, with-here, with-else, ended, all_tested}
use Rattle.model.proofs.Detecting.{Found, found, detected, judge_by}
use Rattle.std.specs.Prelude.{Result, Option, Some, None}
use Rattle.arith.specs.declared.refusal.Refusal.{Refusal}

first : (a b : Bool) → (a && b) ≡ true → a ≡ true
first true b e = refl
first false b e = e

-- a space put in the place of another
with-twice : (n : ℕ) (s t : Space) (x : Shared) (c : Connection) → with_space n s (with_shared x (with_space n t c)) ≡ with_shared x (with_space n s c)
unfolding with_space
with-twice n s t x c = go (eqb n 0) (eqb n 1)
  where
    put : Space → Connection → Bool → Bool → Connection
    put s c a b =
        cond a (record { initial = s; handshake = c.handshake; application = c.application; shared = c.shared })
        (cond b (record { initial = c.initial; handshake = s; application = c.application; shared = c.shared })
        (record { initial = c.initial; handshake = c.handshake; application = s; shared = c.shared }))

    go : (a b : Bool) → put s (with_shared x (put t c a b)) a b ≡ with_shared x (put s c a b)
    go true b = refl
    go false true = refl
    go false false = refl

-- ---- acknowledgement
module _ (now : Moment) (n : ℕ) (words : List ℕ) (c : Connection) (small : n < 3) where
  abbrev Acking : Step OnAckReceivedOutcome → Type 0
  Acking x = Acknowledges now n words c x.answer x.state

  abbrev met_none : Met
  met_none =
      record {
        queue = (space_at n c).acked_frames;
        newly = [];
        acked_bytes = 0;
        in_flight = (space_at n c).epoch.in_flight_count;
        spurious = 0;
        distance = None;
        spurious_in_flight = false;
      }

  abbrev ticks : List Bool
  ticks = places n words c

  abbrev before : List Sent
  before = (space_at n c).records

  left : Remains ticks before (remaining now n words c)
  left = remains-drained now c.shared.rtt.smoothed_rtt (remains-acked ticks before)

  module _ (m : Met) (o : Reordering) (g : Gathers (held ticks before) met_none m) where
    acking : (out : OnAckReceivedOutcome) (y : Shared) (t : Space) → y.clock ≡ now → Remains ticks before t.records → t.acked_frames ≡ m.queue →
        out.acked_bytes ≡ m.acked_bytes → AcksBy (newly_acked n words c) now n words c out (with_shared y (with_space n t c)) →
        Acknowledges now n words c out (with_shared y (with_space n t c))
    acking out y t clock r queue bytes by =
        let here = with-here n t y c in
        let r' : Remains ticks before (space_at n (with_shared y (with_space n t c))).records = subst (λ (x : Space). Remains ticks before x.records) (sym here) r in
        record {
          clock = clock;
          gone = r'.gone;
          many = r'.many;
          acks = r'.acks;
          queue = ap (λ (x : Space). x.acked_frames) here ∙ queue ∙ g.queue;
          bytes = bytes ∙ g.bytes ∙ zero-add _;
          by = by;
          elsewhere = with-else n t y c small;
        }

    nothing : newly_acked n words c ≡ [] → All Acking (acked_nothing now n (remaining now n words c) m o c)
    unfolding acked_nothing those sizes
    nothing none =
        all_then Acking (control (forgive_by m.spurious_in_flight) c.shared.congestion) _ λ h e.
        all-is Acking _
        (acking (outcome 0 0 0 0) (y h) t refl left refl
        (sym (g.bytes ∙ zero-add _ ∙ ap (λ (l : List Sent). sizes (those (λ r. r.in_flight) l)) none))
        (subst (λ (l : List Sent). AcksBy l now n words c (outcome 0 0 0 0) (with_shared (y h) (with_space n t c))) (sym none)
        (record { answer = refl; records = ap (λ (x : Space). x.records) (with-here n t (y h) c); bytes = refl; stays = refl })))
      where
        y : Congestion → Shared
        y h =
            record {
              clock = now;
              loss_timer = c.shared.loss_timer;
              pto_count = c.shared.pto_count;
              rtt = c.shared.rtt;
              reordering = o;
              bytes_in_flight = c.shared.bytes_in_flight;
              max_datagram_size = c.shared.max_datagram_size;
              outstanding_non_ack_eliciting = c.shared.outstanding_non_ack_eliciting;
              congestion = h;
            }

        t : Space
        t = space_acked (remaining now n words c) m (space_at n c).epoch.largest_acked_packet (space_at n c)

    module _ (r : Sent) (k : List Sent) (is : newly_acked n words c ≡ r ∷ k) (delay : Span) (status : HandshakeStatus) (limited : Bool) (last : Sent) where
      abbrev old : Option ℕ
      old = (space_at n c).epoch.largest_acked_packet

      abbrev met : Space
      met = space_acked (remaining now n words c) m (Some (stored_largest old last)) (space_at n c)

      -- the space drained again
      finished : (rtt : Rtt) (d : Detection) (x : Shared) (e : Connection) → e ≡ with_shared x (with_space n d.space c) →
          with_space n (drained_again now rtt (space_at n e)) e ≡ with_shared x (with_space n (drained_again now rtt d.space) c)
      finished rtt d x e is =
          ap (λ (f : Connection). with_space n (drained_again now rtt (space_at n f)) f) is
          ∙ ap (λ (s : Space). with_space n (drained_again now rtt s) (with_shared x (with_space n d.space c))) (with-here n d.space x c)
          ∙ with-twice n (drained_again now rtt d.space) d.space x c

      some-done : (rtt : Rtt) (d : Detection) → Found now rtt o c.shared.bytes_in_flight met d → (h : Congestion) (t : Option Moment) →
          Acknowledges now n words c (outcome d.packets d.lost_bytes m.acked_bytes m.spurious)
          (with_shared (with_timer t (shared_acked now rtt o (d.bytes - m.acked_bytes) h c.shared)) (with_space n (drained_again now rtt d.space) c))
      some-done rtt d f h t =
          acking out y (drained_again now rtt d.space) refl
          (subst (λ (l : List Sent). Remains ticks before l) (sym once) (remains-drained now rtt.smoothed_rtt (remains-fallen judge left)))
          (ap (λ (x : Detection). x.space.acked_frames) f.is) refl
          (subst (λ (l : List Sent). AcksBy l now n words c out (with_shared y (with_space n (drained_again now rtt d.space) c))) (sym is)
          (record {
            spurious = g.spurious ∙ zero-add _;
            lost = detected now n rtt o met m.acked_bytes c refl d f y (drained_again now rtt d.space) refl refl refl refl (once ∙ sym drained_once) refl;
            back_to_nought = refl;
          }))
        where
          out : OnAckReceivedOutcome
          out = outcome d.packets d.lost_bytes m.acked_bytes m.spurious

          y : Shared
          y = with_timer t (shared_acked now rtt o (d.bytes - m.acked_bytes) h c.shared)

          judge : Judge
          judge = judge_by now rtt o c.shared.bytes_in_flight met f.delay

          drained_once : d.space.records ≡ drained now rtt.smoothed_rtt (fallen judge (remaining now n words c))
          drained_once = ap (λ (x : Detection). x.space.records) f.is ∙ ap (λ (l : List Sent). drained now rtt.smoothed_rtt l) f.finds.records

          once : drained now rtt.smoothed_rtt d.space.records ≡ drained now rtt.smoothed_rtt (fallen judge (remaining now n words c))
          once = ap (λ (l : List Sent). drained now rtt.smoothed_rtt l) drained_once ∙ drained-twice now rtt.smoothed_rtt _

      some : All Acking (acked_some now n delay status limited (remaining now n words c) m last o c)
      unfolding acked_some
      some =
          all_then Acking (sampled now delay status old last m.newly c.shared.rtt) _ λ rtt x.
          all_then Acking (detect_lost_packets now rtt o c.shared.bytes_in_flight met) _ λ d y.
          all_then Acking (control (forgive_by m.spurious_in_flight ++ (d.moves ++ ack_each now limited rtt.min_rtt m.newly)) c.shared.congestion) _ λ h z.
          all_then Acking
          (timed now status (with_shared (shared_acked now rtt o (d.bytes - m.acked_bytes) h c.shared) (with_space n d.space c))) _ λ e w.
          all-is Acking _
          (let v = ended now status (shared_acked now rtt o (d.bytes - m.acked_bytes) h c.shared) (with_space n d.space c) e w in
          subst (λ (f : Connection). Acknowledges now n words c (outcome d.packets d.lost_bytes m.acked_bytes m.spurious) f)
          (sym (finished rtt d (with_timer v.0 (shared_acked now rtt o (d.bytes - m.acked_bytes) h c.shared)) e v.1))
          (some-done rtt d (found now rtt o c.shared.bytes_in_flight met d y) h v.0))

    by-some : (r : Sent) (k : List Sent) → newly_acked n words c ≡ r ∷ k → (delay : Span) (status : HandshakeStatus) (limited : Bool) (q : Sent) (l : List Sent) →
        All Acking (acked_by (q ∷ l) now n delay status limited (remaining now n words c) m o c)
    unfolding acked_by
    by-some r k is delay status limited q [] = some r k is delay status limited q
    by-some r k is delay status limited q (p ∷ l) = by-some r k is delay status limited p l

    by-newly : (delay : Span) (status : HandshakeStatus) (limited : Bool) (l : List Sent) → l ≡ newly_acked n words c →
        All Acking (acked_by l now n delay status limited (remaining now n words c) m o c)
    unfolding acked_by
    by-newly delay status limited [] e = nothing (sym e)
    by-newly delay status limited (r ∷ l) e = by-some r l (sym e) delay status limited r l

  acknowledging : (delay : Span) (status : HandshakeStatus) (limited : Bool) → All Acking (acknowledge now n words delay status limited c)
  unfolding acknowledge
  acknowledging delay status limited =
      all_then Acking (meet_all largest ticks before met_none) on λ a e.
      all_then Acking (reordered a.met.distance a.met.spurious c.shared.reordering)
      (λ o. acked_by a.met.newly now n delay status limited (drained now c.shared.rtt.smoothed_rtt a.records) a.met o c) λ o f.
      let h = meets largest ticks before met_none a e in
      subst (λ (l : List Sent). All Acking (acked_by a.met.newly now n delay status limited (drained now c.shared.rtt.smoothed_rtt l) a.met o c))
      (sym h.records) (by-newly a.met o h.gathers delay status limited a.met.newly h.gathers.newly)
    where
      largest : ℕ
      largest = largest_for (space_at n c).epoch.largest_acked_packet words

      on : Acked → Result (Step OnAckReceivedOutcome) Refusal
      on a =
          then (reordered a.met.distance a.met.spurious c.shared.reordering) λ o.
          acked_by a.met.newly now n delay status limited (drained now c.shared.rtt.smoothed_rtt a.records) a.met o c

pub acknowledges : (now : Moment) (n : ℕ) (words : List ℕ) (delay : ℕ) (status : HandshakeStatus) (limited : Bool) (skipped : Option ℕ) (c : Connection) →
    All (λ x. Acknowledges now n words c x.answer x.state) (on_ack_received now n words delay status limited skipped c)
unfolding on_ack_received
acknowledges now n words delay status limited skipped c =
    all-must P (on_clock c.shared.clock now) Clock _
    (all_tested P (is_space n && is_skipped skipped) Domain _ λ ok.
    all-must P (are_ranges words) Ranges _
    (all-must P (not (hold_skipped words skipped)) Skipped _
    (all-reach P (times_of 1000 delay) _ λ ns. acknowledging now n words c (ltb-true n 3 (first (is_space n) (is_skipped skipped) ok)) (span ns) status limited)))
  where
    P : Step OnAckReceivedOutcome → Type 0
    P x = Acknowledges now n words c x.answer x.state

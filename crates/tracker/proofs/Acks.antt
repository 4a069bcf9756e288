-- Carrying a plan out is model's acknowledgement on what the words and the state stand for. Assumes nothing.
use mathlib.Core.Path.{◌≡◌, refl, ap, sym, ◌∙◌, subst}
use mathlib.Core.Bool.{Bool, true, false, cond}
use mathlib.Core.List.{List, [], ◌∷◌, ◌++◌, append-nil}
use Prim.Native.Nat.{ℕ, zero, ◌+◌, ◌-◌, ◌≤◌, ◌<◌, min}
use native.Mathlib.Omega.{arith}
use lib.Dec.{T, eqb, eqb→eq}
use lib.ListN.{length}
use borrow.Author.Tests.{eq-eqb}
use Rattle.arith.specs.declared.time.Moment.{Moment}
use Rattle.arith.specs.declared.time.Span.{Span}
use Rattle.arith.specs.Refusals.{then}
use Rattle.model.specs.Numbers.{capacity}
use Rattle.model.specs.Ranges.{largest_for}
use Rattle.model.specs.Sent.{drained, covered}
use Rattle.model.specs.Ack.{Met, Acked, reordered}
use Rattle.model.specs.Control.{control, forgive_by}
use Rattle.model.specs.Timer.{timer_of}
use Rattle.model.specs.Connection.{Space, Connection, space_at, with_space, with_shared, with_timer, timed}
use Rattle.model.specs.Events.{Step, any_eliciting, stored_largest, sampled, epoch_acked, space_acked, outcome, acked_nothing, shared_acked, drained_again, acked_some, acked_by, acknowledge}
use Rattle.model.specs.declared.Congestion.{Congestion}
use Rattle.model.specs.declared.Epoch.{Epoch}
use Rattle.model.specs.declared.HandshakeStatus.{HandshakeStatus}
use Rattle.model.specs.declared.OnAckReceivedOutcome.{OnAckReceivedOutcome}
use Rattle.model.specs.declared.Reordering.{Reordering}
use Rattle.model.specs.declared.Rtt.{Rtt}
use Rattle.model.specs.declared.Sent.{Sent}
use Rattle.model.specs.declared.Shared.{Shared}
use Rattle.records.specs.View.{all_words, ring, queue_of}
use Rattle.records.proofs.Laws.{length-queue}
use Rattle.marks.specs.Marks.{held_at, newly_of, acked_all, handles_of, standing_of}
use Rattle.marks.specs.Survey.{survey}
use Rattle.marks.specs.declared.Tally.{Tally}
use Rattle.marks.proofs.Split.{met_by, finish, split}
use Rattle.marks.proofs.Lost.{settled-ring-past}
use Rattle.marks.proofs.Rings.{held-records, acked-ring}
use Rattle.acks.specs.Fitted.{fit_number, fit, fitted}
use Rattle.losses.proofs.Laws.{drained-to}
use Rattle.commit.specs.Commit.{newly_handles, gone_handles}
use Rattle.connection.specs.View.{count, space_of, connection_of, normal_of, space_state_at, with_space_state}
use Rattle.connection.specs.Steps.{facts_state, armed, timed_state}
use Rattle.connection.specs.declared.SpaceState.{SpaceState}
use Rattle.connection.specs.declared.State.{State}
use Rattle.connection.proofs.Views.{by-space, space-view}
use Rattle.connection.proofs.Steps.{normal-view, timed-view}
use Rattle.tracker.specs.declared.Plan.{Plan}
use Rattle.tracker.specs.declared.Losses.{Losses}
use Rattle.tracker.specs.Plan.{Shown, shown, start_tally, kept_space, sampled_by, flags, held, acked_place, first_left, plan_losses, plan_nothing, moves_of, space_planned, plan_timed, plan_some, plan_ack}
use Rattle.tracker.proofs.Chains.{then-then}
use Rattle.tracker.proofs.Detecting.{Ends, ends, losses-view, after, detection}
use Rattle.tracker.proofs.Kept.{stored, kept-view, whole-kept}
use Rattle.std.specs.Prelude.{Result, Ok, Err, Option, Some, None}
use Rattle.arith.specs.declared.refusal.Refusal.{Refusal}

-- what is learnt of a survey that fits
pub record Surveys (m : List ℕ) (n : ℕ) (q : SpaceState) (fs : List Bool) (t : Tally) : Type 0 where
  pub newly : t.newly ≡ length (newly_of (flags m n q fs) (held m n q fs))
  pub queued : t.queued ≡ q.acked + length (newly_handles m n q.head fs q.len)
  pub room : t.queued ≤ capacity
  pub eliciting : t.eliciting ≡ any_eliciting (newly_of (flags m n q fs) (held m n q fs))
  pub last : (t.newly ≡ 0 → ⊥) → (l : List Sent) × (newly_of (flags m n q fs) (held m n q fs) ≡ l ++ (held_at m n q.head t.last ∷ []))

-- a distance past what a word holds is past 20 as well
reordered-fit : (d : Option ℕ) (n : ℕ) (o : Reordering) → reordered (fit_number d) n o ≡ reordered d n o
unfolding reordered
reordered-fit None n o = refl
reordered-fit (Some d) n o = let e : min (min d 18446744073709551615) 20 ≡ min d 20 = omega arith in simp e

module _ (m : List ℕ) (full : length m ≡ all_words) (n : ℕ) (nn : n < 3) (s : State) (fs : List Bool) (words : List ℕ) (now : Moment) (delay : Span) (status : HandshakeStatus) (limited : Bool) where
  abbrev q : SpaceState
  q = normal_of (space_state_at n s)

  abbrev c : Connection
  c = connection_of m s

  -- the space that the event is about
  abbrev here : Space
  here =
      record {
        records = held m n q fs;
        acked_frames = queue_of m n 0 q.acked;
        lost_frames_ack = queue_of m n 1 q.lost_ack;
        lost_frames_pto = queue_of m n 2 q.lost_pto;
        epoch = q.epoch;
      }

  space-here : space_at n c ≡ here
  unfolding space_of normal_of
  space-here =
      let a : count (count (space_state_at n s).len) ≡ count (space_state_at n s).len = omega arith in
      let b : count (count (space_state_at n s).acked) ≡ count (space_state_at n s).acked = omega arith in
      let d : count (count (space_state_at n s).lost_ack) ≡ count (space_state_at n s).lost_ack = omega arith in
      let e : count (count (space_state_at n s).lost_pto) ≡ count (space_state_at n s).lost_pto = omega arith in
      space-view m s n nn ∙ sym (normal-view m n (space_state_at n s)) ∙ rw (a, b, d, e, held-records m n q.head q.len) refl

  -- what a plan leaves
  abbrev pub shown_by : Plan → Result (Shown OnAckReceivedOutcome) Refusal
  shown_by p =
      Ok
      (record {
        state = connection_of (stored m full n q fs now p.from p.stop p.keep) (with_space_state n p.space p.shared s);
        answer = p.outcome;
      })

  -- counts in their ranges
  len-fits : q.len ≤ capacity
  unfolding normal_of
  len-fits = omega arith

  lost-fits : q.lost_ack ≤ capacity
  unfolding normal_of
  lost-fits = omega arith

  pto-fits : q.lost_pto ≤ capacity
  unfolding normal_of
  pto-fits = omega arith

  shown-then : {A : Type 0} (x : Result A Refusal) (f : A → Result (Step OnAckReceivedOutcome) Refusal) → shown (then x f) ≡ then x (λ a. shown (f a))
  shown-then (Ok a) f = refl
  shown-then (Err k) f = refl

  shown_by_lem : {A B : Type 0} (x : Result A Refusal) (f : A → B) (g : B → Result (Step OnAckReceivedOutcome) Refusal) →
      shown (then (then x (λ a. Ok (f a))) g) ≡ then x (λ a. shown (g (f a)))
  shown_by_lem (Ok a) f g = refl
  shown_by_lem (Err k) f g = refl

  gone-none : (from : ℕ) → gone_handles m n q.head fs from from ≡ []
  unfolding handles_of standing_of ring
  gone-none from = let z : from - from ≡ zero = omega arith in rw z refl

  -- the records that step 2 leaves
  module _ (smoothed : Span) where
    abbrev first : ℕ
    first = first_left m n q fs now smoothed

    first-drained : drained now smoothed (ring (acked_place m n q fs) 0 q.len) ≡ ring (acked_place m n q fs) first (q.len - first)
    first-drained =
        let z : q.len - 0 ≡ q.len = omega arith in
        ap (λ (k : ℕ). drained now smoothed (ring (acked_place m n q fs) 0 k)) (sym z)
        ∙ (drained-to now smoothed (acked_place m n q fs) q.len 0 (omega arith)).left

    first_fits : first ≤ q.len
    first_fits = (drained-to now smoothed (acked_place m n q fs) q.len 0 (omega arith)).to

  -- what step 1 gathered
  abbrev met : Tally → Met
  met t = met_by t (queue_of m n 0 q.acked ++ newly_handles m n q.head fs q.len) (newly_of (flags m n q fs) (held m n q fs))

  -- 4. nothing newly acked
  module _ (t : Tally) (sv : Surveys m n q fs t) (o : Reordering) (from : ℕ) (fits : from ≤ q.len) where
    abbrev left : List Sent
    left = ring (acked_place m n q fs) from (q.len - from)

    space-nothing :
        space_of (stored m full n q fs now from from from) n
        (kept_space q from t.queued q.lost_ack (epoch_acked t.in_flight q.epoch.largest_acked_packet q.epoch))
        ≡ space_acked left (met t) q.epoch.largest_acked_packet here
    space-nothing =
        kept-view m full n q fs now from from from _ t.queued q.lost_ack sv.queued sv.room (rw (gone-none from) (omega arith)) lost-fits len-fits pto-fits
        ∙ rw (gone-none from, append-nil, settled-ring-past m n q.head fs from now from (q.len - from) (omega arith)) refl

    nothing-view : shown (acked_nothing now n left (met t) o c) ≡ then (plan_nothing q now t o from s.shared) shown_by
    unfolding acked_nothing plan_nothing connection_of
    nothing-view =
        rw space-here
        (shown-then (control (forgive_by t.spurious_in_flight) s.shared.congestion) _
        ∙ then-then shown_by (control (forgive_by t.spurious_in_flight) s.shared.congestion) _ _ λ g e.
        ap (λ (d : Connection). Ok (record { state = d; answer = outcome 0 0 0 0 }))
        (whole-kept m full n q fs now from from from s nn _ _ _ space-nothing))

  -- the timer's state is the space's, the other spaces' and what is shared
  armed-at : (p : SpaceState) (shared : Shared) (t : Option Moment) → armed t (with_space_state n p shared s) ≡ with_space_state n p (with_timer t shared) s
  unfolding armed with_space_state
  armed-at p shared t = by-space (λ k. armed t (with_space_state k p shared s) ≡ with_space_state k p (with_timer t shared) s) refl refl refl n nn

  -- a space put back where it was
  same-space : (d : Connection) → with_space n (space_at n d) d ≡ d
  unfolding with_space space_at
  same-space d = by-space (λ k. with_space k (space_at k d) d ≡ d) refl refl refl n nn

  pub space-of : (w : List ℕ) (p : SpaceState) (shared : Shared) → space_at n (connection_of w (with_space_state n p shared s)) ≡ space_of w n p
  unfolding space_at connection_of with_space_state
  space-of w p shared = by-space (λ k. space_at k (connection_of w (with_space_state k p shared s)) ≡ space_of w k p) refl refl refl n nn

  -- 5 and 6: some newly acked
  module _ (t : Tally) (sv : Surveys m n q fs t) (o : Reordering) (from : ℕ) (fits : from ≤ q.len) (last : Sent) where
    abbrev largest : Option ℕ
    largest = Some (stored_largest q.epoch.largest_acked_packet last)

    abbrev epoch : Epoch
    epoch = epoch_acked t.in_flight largest q.epoch

    abbrev acks : List ℕ
    acks = queue_of m n 0 q.acked ++ newly_handles m n q.head fs q.len

    abbrev again : List ℕ
    again = queue_of m n 2 q.lost_pto

    sampled-is : (rtt : Rtt) →
        sampled now delay status q.epoch.largest_acked_packet last (newly_of (flags m n q fs) (held m n q fs)) rtt
        ≡ sampled_by now delay status q.epoch.largest_acked_packet last t.eliciting rtt
    unfolding sampled sampled_by
    sampled-is rtt = rw sv.eliciting refl

    module _ (rtt : Rtt) (l : Losses) (en : Ends m n q fs now rtt.smoothed_rtt from l) (g : Congestion) where
      abbrev planned : SpaceState
      planned = space_planned q t largest l

      abbrev words' : List ℕ
      words' = stored m full n q fs now from l.stop l.keep

      abbrev shared : Shared
      shared = shared_acked now rtt o (s.shared.bytes_in_flight - l.tally.bytes - l.tally.probe_bytes - t.acked_bytes) g s.shared

      space-some : space_of words' n planned ≡ after m n q fs now from fits acks again epoch l
      space-some =
          kept-view m full n q fs now from l.stop l.keep _ t.queued l.tally.queued sv.queued sv.room en.handles (en.room lost-fits) len-fits pto-fits

      ended : (time : Option Moment) →
          with_space n (drained_again now rtt (space_at n (connection_of words' (with_space_state n planned (with_timer time shared) s))))
          (connection_of words' (with_space_state n planned (with_timer time shared) s))
          ≡ connection_of words' (with_space_state n planned (with_timer time shared) s)
      ended time =
          let d = connection_of words' (with_space_state n planned (with_timer time shared) s) in
          let e : space_at n d ≡ after m n q fs now from fits acks again epoch l = space-of words' planned (with_timer time shared) ∙ space-some in
          let f : drained_again now rtt (space_at n d) ≡ space_at n d = rw (e, en.still) refl in
          ap (λ (x : Space). with_space n x d) f ∙ same-space d

      timed-some :
          then (timed now status (with_shared shared (with_space n (after m n q fs now from fits acks again epoch l) c)))
          (λ e.
          Ok
          (record {
            state = with_space n (drained_again now rtt (space_at n e)) e;
            answer = outcome l.tally.packets l.tally.bytes t.acked_bytes t.spurious;
          }))
          ≡ then (plan_timed n q now status rtt o t largest l from g s) shown_by
      unfolding plan_timed timed_state
      timed-some =
          rw (whole-kept m full n q fs now from l.stop l.keep s nn planned _ shared space-some, timed-view words' now status (with_space_state n planned shared s))
          (go (timer_of (facts_state now status (with_space_state n planned shared s))))
        where
          finish_with : Connection → Result (Shown OnAckReceivedOutcome) Refusal
          finish_with e =
              Ok
              (record {
                state = with_space n (drained_again now rtt (space_at n e)) e;
                answer = outcome l.tally.packets l.tally.bytes t.acked_bytes t.spurious;
              })

          go : (x : Result (Option Moment) Refusal) →
              then (then (then x (λ time. Ok (armed time (with_space_state n planned shared s)))) (λ u. Ok (connection_of words' u))) finish_with
              ≡ then
              (then x
              (λ time.
              Ok
              (record {
                space = planned;
                shared = with_timer time shared;
                outcome = outcome l.tally.packets l.tally.bytes t.acked_bytes t.spurious;
                from = from;
                stop = l.stop;
                keep = l.keep;
              })))
              shown_by
          go (Ok time) =
              rw (armed-at planned shared time)
              (ap
              (λ (d : Connection).
              Ok (record { state = d; answer = outcome l.tally.packets l.tally.bytes t.acked_bytes t.spurious }))
              (ended time))
          go (Err k) = refl

    some-view : shown (acked_some now n delay status limited (ring (acked_place m n q fs) from (q.len - from)) (met t) last o c)
        ≡ then (plan_some m n q fs now delay status limited t last o from s) shown_by
    unfolding acked_some plan_some connection_of
    some-view =
        rw (space-here, sampled-is s.shared.rtt)
        (shown-then (sampled_by now delay status q.epoch.largest_acked_packet last t.eliciting s.shared.rtt) _
        ∙ then-then shown_by (sampled_by now delay status q.epoch.largest_acked_packet last t.eliciting s.shared.rtt) _ _ λ rtt e.
        rw (losses-view m n q fs now from fits acks again epoch rtt o s.shared.bytes_in_flight)
        (shown_by_lem (plan_losses m n q fs now rtt o largest t.in_flight from) (detection m n q fs now from fits acks again epoch s.shared.bytes_in_flight) _
        ∙ then-then shown_by (plan_losses m n q fs now rtt o largest t.in_flight from) _ _ λ l f.
        shown-then (control (moves_of m n q fs now limited rtt.min_rtt t l) s.shared.congestion) _
        ∙ then-then shown_by (control (moves_of m n q fs now limited rtt.min_rtt t l) s.shared.congestion) _ _ λ g h.
        shown-then {A = Connection}
        (timed now status
        (with_shared
        (shared_acked now rtt o (s.shared.bytes_in_flight - l.tally.bytes - l.tally.probe_bytes - t.acked_bytes) g s.shared)
        (with_space n (after m n q fs now from fits acks again epoch l) c)))
        _
        ∙ timed-some rtt l (ends m n q fs now rtt o largest t.in_flight from fits l f) g))

  -- the largest newly acked is the last
  module _ (left : List Sent) (mt : Met) (o : Reordering) where
    acked-last : (l : List Sent) (r : Sent) → acked_by (l ++ (r ∷ [])) now n delay status limited left mt o c ≡ acked_some now n delay status limited left mt r o c
    unfolding acked_by
    acked-last [] r = refl
    acked-last (x ∷ []) r = refl
    acked-last (x ∷ (y ∷ l)) r = acked-last (y ∷ l) r

    acked-some : (ns l : List Sent) (r : Sent) → ns ≡ l ++ (r ∷ []) →
        acked_by ns now n delay status limited left mt o c ≡ acked_some now n delay status limited left mt r o c
    acked-some ns l r e = ap (λ (x : List Sent). acked_by x now n delay status limited left mt o c) e ∙ acked-last l r

    acked-none : (ns : List Sent) → length ns ≡ 0 → acked_by ns now n delay status limited left mt o c ≡ acked_nothing now n left mt o c
    unfolding acked_by
    acked-none [] e = refl
    acked-none (x ∷ ns) e = absurd (let z : ⊥ = omega arith in z)

  abbrev smoothed : Span
  smoothed = s.shared.rtt.smoothed_rtt

  -- steps 4 to 6, by whether anything is newly acked
  module _ (t : Tally) (sv : Surveys m n q fs t) (o : Reordering) where
    abbrev first' : ℕ
    first' = first smoothed

    rest-view : (b : Bool) → eqb t.newly 0 ≡ b →
        shown (acked_by (newly_of (flags m n q fs) (held m n q fs)) now n delay status limited (ring (acked_place m n q fs) first' (q.len - first')) (met t) o c)
        ≡ then
        (cond b (plan_nothing q now t o first' s.shared) (plan_some m n q fs now delay status limited t (held_at m n q.head t.last) o first' s))
        shown_by
    rest-view true e =
        let z : length (newly_of (flags m n q fs) (held m n q fs)) ≡ 0 = sym sv.newly ∙ eqb→eq t.newly 0 (subst T (sym e) tt) in
        ap shown (acked-none _ (met t) o (newly_of (flags m n q fs) (held m n q fs)) z) ∙ nothing-view t sv o first' (first_fits smoothed)
    rest-view false e =
        let some : t.newly ≡ 0 → ⊥ = λ z. let y : eqb t.newly 0 ≡ true = eq-eqb t.newly 0 z in let x : ◌≡◌ {A = ℕ} 0 1 = cc in omega arith in
        let w = sv.last some in
        ap shown (acked-some _ (met t) o (newly_of (flags m n q fs) (held m n q fs)) w.0 (held_at m n q.head t.last) w.1)
        ∙ some-view t sv o first' (first_fits smoothed) (held_at m n q.head t.last)

  -- no plan goes by the distance
  same-plan : (t : Tally) (o : Reordering) →
      cond (eqb t.newly 0) (plan_nothing q now t o (first smoothed) s.shared)
      (plan_some m n q fs now delay status limited t (held_at m n q.head t.last) o (first smoothed) s)
      ≡ cond (eqb (fit t).newly 0) (plan_nothing q now (fit t) o (first smoothed) s.shared)
      (plan_some m n q fs now delay status limited (fit t) (held_at m n q.head (fit t).last) o (first smoothed) s)
  unfolding plan_nothing plan_some plan_timed
  same-plan t o = refl

  -- an acknowledgement is its plan, carried out
  pub ack-view : covered words (held m n q fs) ≡ flags m n q fs →
      ((t : Tally) → survey (largest_for q.epoch.largest_acked_packet words) 0 (flags m n q fs) (held m n q fs) (start_tally q) ≡ Ok t → Surveys m n q fs t) →
      shown (acknowledge now n words delay status limited c) ≡ then (plan_ack m n q fs now words delay status limited s) shown_by
  unfolding acknowledge plan_ack connection_of finish
  ack-view cov svs =
      rw (space-here, cov, split (largest_for q.epoch.largest_acked_packet words) 0 (flags m n q fs) (held m n q fs) start 0 0 false, length-queue m n 0 q.acked)
      (surveyed (survey (largest_for q.epoch.largest_acked_packet words) 0 (flags m n q fs) (held m n q fs) (start_tally q)) refl)
    where
      start : Met
      start =
          record {
            queue = queue_of m n 0 q.acked;
            newly = [];
            acked_bytes = 0;
            in_flight = q.epoch.in_flight_count;
            spurious = 0;
            distance = None;
            spurious_in_flight = false;
          }

      go_on : Acked → Result (Step OnAckReceivedOutcome) Refusal
      go_on a =
          then (reordered a.met.distance a.met.spurious s.shared.reordering) λ o.
          acked_by a.met.newly now n delay status limited (drained now smoothed a.records) a.met o c

      plan : Tally → Result Plan Refusal
      plan t =
          then (reordered t.distance t.spurious s.shared.reordering) λ o.
          cond (eqb t.newly 0) (plan_nothing q now t o (first smoothed) s.shared)
          (plan_some m n q fs now delay status limited t (held_at m n q.head t.last) o (first smoothed) s)

      surveyed : (x : Result Tally Refusal) → survey (largest_for q.epoch.largest_acked_packet words) 0 (flags m n q fs) (held m n q fs) (start_tally q) ≡ x →
          shown
          (then (finish x (acked_all (flags m n q fs) (held m n q fs)) (queue_of m n 0 q.acked ++ newly_handles m n q.head fs q.len) (newly_of (flags m n q fs) (held m n q fs)))
          go_on)
          ≡ then (then (fitted x) plan) shown_by
      surveyed (Ok t) e =
          rw (acked-ring m n q.head fs 0 q.len, first-drained smoothed, reordered-fit t.distance t.spurious s.shared.reordering)
          (shown-then (reordered t.distance t.spurious s.shared.reordering) _
          ∙ then-then shown_by (reordered t.distance t.spurious s.shared.reordering) _ _ λ o f.
          rest-view t (svs t e) o (eqb t.newly 0) refl ∙ ap (λ (r : Result Plan Refusal). then r shown_by) (same-plan t o))
      surveyed (Err k) e = refl

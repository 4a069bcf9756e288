-- What the acknowledgement event claims, from what was decided and what was stored. Assumes nothing.
use mathlib.Core.Path.{◌≡◌, refl, ap, sym, ◌∙◌, subst}
use mathlib.Core.Bool.{Bool, true, false, ◌&&◌, not}
use mathlib.Core.List.{List}
use Prim.Native.Nat.{ℕ, zero, ◌+◌, ◌-◌, ◌≤◌, ◌<◌, min}
use native.Mathlib.Omega.{arith}
use lib.Dec.{eqb, ltb, leb}
use lib.ListN.{length}
use lib.Seq.{drop_at}
use borrow.Author.Tests.{ltb-true, leb-true}
use Rattle.arith.specs.Whole.{limit, times_of}
use Rattle.arith.specs.declared.time.Moment.{Moment}
use Rattle.arith.specs.declared.time.Span.{Span}
use Rattle.arith.specs.Refusals.{then, must}
use Rattle.model.specs.Numbers.{on_clock, is_space, capacity}
use Rattle.model.specs.Ranges.{are_ranges, hold_skipped, is_skipped, largest_for}
use Rattle.model.specs.Sent.{covered}
use Rattle.model.specs.Ack.{reordered}
use Rattle.model.specs.Control.{control, forgive_by}
use Rattle.model.specs.Timer.{timer_of}
use Rattle.model.specs.Connection.{Connection, space_at}
use Rattle.model.specs.Events.{Step, stored_largest, acknowledge, on_ack_received}
use Rattle.model.specs.declared.Epoch.{Epoch}
use Rattle.model.specs.declared.HandshakeStatus.{HandshakeStatus}
use Rattle.arith.specs.declared.refusal.Refusal.{Refusal}
use Rattle.arith.specs.declared.refusal.Refusal.TheVariants.{Clock, Domain, Ranges, Skipped}
use Rattle.model.specs.declared.Reordering.{Reordering}
use Rattle.model.specs.declared.Sent.{Sent}
use Rattle.records.specs.View.{all_words, ring, records_of, queue_of}
use Rattle.records.proofs.Laws.{length-queue}
use Rattle.records.proofs.Rings.{length-ring}
use Rattle.front.specs.Checked.{checked_ack}
use Rattle.marks.specs.Marks.{flagged, held_at, settled_at, newly_of, handles_of, standing_of}
use Rattle.marks.specs.Survey.{survey}
use Rattle.marks.specs.declared.Covered.{Covered}
use Rattle.marks.specs.declared.Tally.{Tally}
use Rattle.marks.proofs.Rings.{held-records}
use Rattle.acks.specs.Cover.{Covers}
use Rattle.acks.specs.Fitted.{fit, fitted}
use Rattle.acks.proofs.Laws.{tallied, newly-some, cover-ring}
use Rattle.commit.specs.Commit.{newly_handles, gone_handles, committed, Committed}
use Rattle.commit.specs.declared.Queues.{Queues}
use Rattle.commit.proofs.Laws.{commit-memory}
use Rattle.connection.specs.View.{space_of, connection_of, normal_of, space_state_at, with_space_state, state_by, Does}
use Rattle.connection.specs.declared.SpaceState.{SpaceState}
use Rattle.connection.specs.declared.State.{State}
use Rattle.connection.proofs.Results.{must-then, reach-then}
use Rattle.connection.proofs.Placed.{Fits, Each, placed-view, one_each, cond-each, then-each, does-refused}
use Rattle.tracker.specs.declared.Plan.{Plan}
use Rattle.tracker.specs.Event.{ack_words}
use Rattle.tracker.specs.Plan.{Shown, shown, start_tally, kept_space, flags, held, sampled_by, plan_losses, plan_nothing, plan_timed, plan_some, plan_met, plan_ack}
use Rattle.tracker.proofs.Detecting as detecting
use Rattle.tracker.proofs.Kept.{stored, kept_as, kept-view}
use Rattle.tracker.proofs.Acks.{Surveys, shown_by, space-of, ack-view}
use Rattle.tracker.proofs.Decided.{first_fits, first-left}
use Rattle.std.specs.Prelude.{Result, Ok, Err, Option, Some}

-- ---- an event's claim, from its step as an outsider sees it

clash : {A : Type 0} {B : Type 0} {k : Refusal} {a : A} → Err k ≡ Ok a → B
clash e = absurd (let z : ◌≡◌ {A = ℕ} 0 1 = cc in let w : ⊥ = omega arith in w)

module _ {A : Type 0} (m : List ℕ) (s : State) (place : Connection → State) (words : Connection → List ℕ) where
  shown-does : (d : Result (Step A) Refusal) (m' : List ℕ) (t : State) (a : A) → shown d ≡ Ok (record { state = connection_of m' t; answer = a }) →
      t ≡ place (connection_of m' t) → m' ≡ words (connection_of m' t) → Does d (Ok a) m m' s t place words
  shown-does (Ok x) m' t a e p w =
      let z : ◌≡◌ {A = Shown A} (record { state = x.state; answer = x.answer }) (record { state = connection_of m' t; answer = a }) = cc in
      let c : x.state ≡ connection_of m' t = ap (λ (v : Shown A). v.state) z in
      let b : x.answer ≡ a = ap (λ (v : Shown A). v.answer) z in
      record { answer = rw b refl; leaves = record { stands = sym c; placed = rw c p; stored = rw c w } }
  shown-does (Err k) m' t a e p w = clash e

  shown-refused : (d : Result (Step A) Refusal) (k : Refusal) → shown d ≡ Err k → d ≡ Err k
  shown-refused (Ok x) k e = clash (sym e)
  shown-refused (Err j) k e = let z : j ≡ k = cc in rw z refl

-- ---- what holds of each plan: its space is kept as `Kept` says, and its places lie among the records

pub record Carries (m : List ℕ) (n : ℕ) (q : SpaceState) (fs : List Bool) (p : Plan) : Type 0 where
  pub acked : ℕ
  pub lost : ℕ
  pub epoch : Epoch
  pub space : p.space ≡ kept_space q p.keep acked lost epoch
  pub acked-is : acked ≡ q.acked + length (newly_handles m n q.head fs q.len)
  pub acked-room : acked ≤ capacity
  pub lost-is : lost ≡ q.lost_ack + length (gone_handles m n q.head fs p.from p.stop)
  pub lost-room : lost ≤ capacity
  pub stop : p.stop ≤ q.len
  pub keep : p.keep ≤ q.len

module _ {A : Type 0} (P : A → Type 0) where
  then-known : {B : Type 0} (x : Result B Refusal) (f : B → Result A Refusal) → ((b : B) → x ≡ Ok b → Each P (f b)) → Each P (then x f)
  then-known (Ok b) f h = h b refl
  then-known (Err k) f h = λ a e. clash e

module _ (m : List ℕ) (n : ℕ) (q : SpaceState) (fs : List Bool) (len : q.len ≤ capacity) (lost : q.lost_ack ≤ capacity)
    (now : Moment) (delay : Span) (status : HandshakeStatus) (limited : Bool) (s : State) where
  abbrev C : Plan → Type 0
  C = Carries m n q fs

  none-gone : (from : ℕ) → length (gone_handles m n q.head fs from from) ≡ 0
  unfolding handles_of standing_of ring
  none-gone from = let z : from - from ≡ zero = omega arith in rw z refl

  module _ (t : Tally) (queued : t.queued ≡ q.acked + length (newly_handles m n q.head fs q.len)) (room : t.queued ≤ capacity) (o : Reordering) (from : ℕ) (le : from ≤ q.len) where
    nothing-carries : Each C (plan_nothing q now t o from s.shared)
    unfolding plan_nothing
    nothing-carries =
        then-each C (control (forgive_by t.spurious_in_flight) s.shared.congestion) _ λ g.
        one_each C _
        (record {
          acked = t.queued;
          lost = q.lost_ack;
          epoch = _;
          space = refl;
          acked-is = queued;
          acked-room = room;
          lost-is = (let z = none-gone from in omega arith);
          lost-room = lost;
          stop = le;
          keep = le;
        })

    some-carries : (last : Sent) → Each C (plan_some m n q fs now delay status limited t last o from s)
    unfolding plan_some plan_timed
    some-carries last =
        then-each C (sampled_by now delay status _ last _ _) _ λ rtt.
        then-known C (plan_losses m n q fs now rtt o (Some (stored_largest q.epoch.largest_acked_packet last)) t.in_flight from) _ λ l e.
        let en = detecting.ends m n q fs now rtt o (Some (stored_largest q.epoch.largest_acked_packet last)) t.in_flight from le l e in
        then-each C (control _ s.shared.congestion) _ λ g.
        then-each C (timer_of _) _ λ time.
        one_each C _
        (record {
          acked = t.queued;
          lost = l.tally.queued;
          epoch = _;
          space = refl;
          acked-is = queued;
          acked-room = room;
          lost-is = en.handles;
          lost-room = en.room lost;
          stop = en.stop-len;
          keep = en.keep-len;
        })

  met-carries : (t : Tally) → t.queued ≡ q.acked + length (newly_handles m n q.head fs q.len) → t.queued ≤ capacity →
      Each C (plan_met m n q fs now delay status limited s t)
  met-carries t queued room =
      let le = first_fits m n q fs len now s.shared.rtt.smoothed_rtt _ (sym (first-left m n q fs len now s.shared.rtt.smoothed_rtt)) in
      then-each C (reordered t.distance t.spurious s.shared.reordering) _ λ o.
      cond-each C (eqb t.newly 0) _ _ (nothing-carries t queued room o _ le) (some-carries t queued room o _ le _)

  module _ (words : List ℕ)
      (svs : (t : Tally) → survey (largest_for q.epoch.largest_acked_packet words) 0 (flags m n q fs) (held m n q fs) (start_tally q) ≡ Ok t → Surveys m n q fs t) where
    by-survey : (x : Result Tally Refusal) → ((t : Tally) → x ≡ Ok t → Surveys m n q fs t) → Each C (then (fitted x) (plan_met m n q fs now delay status limited s))
    by-survey (Ok t) h = met-carries (fit t) (h t refl).queued (h t refl).room
    by-survey (Err k) h = λ p e. clash e

    pub plan-carries : Each C (plan_ack m n q fs now words delay status limited s)
    unfolding plan_ack
    plan-carries = by-survey (survey (largest_for q.epoch.largest_acked_packet words) 0 (flags m n q fs) (held m n q fs) (start_tally q)) svs

-- ---- of the ranges that are covered

module _ (words m : List ℕ) (n : ℕ) (q : SpaceState) (r : Covered) (d : Covers words (records_of m n q.head q.len) r) (acked : q.acked ≤ capacity) where
  pub flags-here : covered words (held m n q r.flags) ≡ flags m n q r.flags
  flags-here = rw (held-records m n q.head q.len) (sym (cover-ring words m n q.head q.len r d))

  pub surveys-here : (largest : ℕ) (t : Tally) → survey largest 0 (flags m n q r.flags) (held m n q r.flags) (start_tally q) ≡ Ok t → Surveys m n q r.flags t
  surveys-here largest t e =
      let y = tallied (flagged r.flags) (held_at m n q.head) largest 0 q.len (start_tally q) (sym e) in
      record {
        newly = (let z = y.newly in omega arith);
        queued = y.queued;
        room = y.room acked;
        eliciting = y.eliciting;
        last = λ some. let w = newly-some (held_at m n q.head) (newly_of (flags m n q r.flags) (held m n q r.flags)) q.acked q.epoch.in_flight_count y some in
            (w.before, w.ends);
      }

-- ---- the event

module _ (m : List ℕ) (full : length m ≡ all_words) (n : ℕ) (nn : n < 3) (s : State) (words : List ℕ) (now : Moment) (timely : now.0 ≤ limit) (delay : Span)
    (status : HandshakeStatus) (limited : Bool) where
  abbrev q : SpaceState
  q = normal_of (space_state_at n s)

  pub len-fits : q.len ≤ capacity
  unfolding normal_of
  len-fits = omega arith

  acked-fits : q.acked ≤ capacity
  unfolding normal_of
  acked-fits = omega arith

  lost-fits : q.lost_ack ≤ capacity
  unfolding normal_of
  lost-fits = omega arith

  pto-fits : q.lost_pto ≤ capacity
  unfolding normal_of
  pto-fits = omega arith

  -- where the space lies
  space-fits : (fs : List Bool) (p : Plan) → Carries m n q fs p → Fits (space_state_at n s) 0 p.space
  unfolding normal_of
  space-fits fs p c =
      let k = c.keep in
      let a = c.acked-room in
      let l = c.lost-room in
      rw c.space (record { head = omega arith; len = omega arith; acked = a; lost_ack = l; lost_pto = omega arith })

  module _ (fs : List Bool) (p : Plan) (c : Carries m n q fs p) where
    abbrev m' : List ℕ
    m' = stored m full n q fs now p.from p.stop p.keep

    abbrev t : State
    t = with_space_state n p.space p.shared s

    space-kept : space_at n (connection_of m' t) ≡ kept_as m full n q fs now p.from p.stop p.keep c.epoch
    space-kept =
        space-of m full n nn s fs words now delay status limited m' p.space p.shared
        ∙ ap (space_of m' n) c.space
        ∙ kept-view m full n q fs now p.from p.stop p.keep c.epoch c.acked c.lost c.acked-is c.acked-room c.lost-is c.lost-room len-fits pto-fits

    -- the memory
    words-kept : m' ≡ ack_words m s n (connection_of m' t)
    unfolding ack_words committed
    words-kept =
        let k = c.keep in
        let z : q.len - (q.len - p.keep) ≡ p.keep = omega arith in
        rw (
          space-kept,
          length-ring (settled_at m n q.head fs p.stop now) p.keep (q.len - p.keep),
          z,
          drop_at (queue_of m n 0 q.acked) (newly_handles m n q.head fs q.len) q.acked (length-queue m n 0 q.acked),
          drop_at (queue_of m n 1 q.lost_ack) (gone_handles m n q.head fs p.from p.stop) q.lost_ack (length-queue m n 1 q.lost_ack),
        ) refl

  module _ (r : Covered) (d : Covers words (records_of m n q.head (min q.len capacity)) r) where
    same_len : min q.len capacity ≡ q.len
    same_len = let x = len-fits in omega arith

    here : Covers words (records_of m n q.head q.len) r
    here = subst (λ (k : ℕ). Covers words (records_of m n q.head k) r) same_len d

    view : shown (acknowledge now n words delay status limited (connection_of m s))
        ≡ then (plan_ack m n q r.flags now words delay status limited s) (shown_by m full n nn s r.flags words now delay status limited)
    view =
        ack-view m full n nn s r.flags words now delay status limited (flags-here words m n q r here acked-fits)
        (surveys-here words m n q r here acked-fits (largest_for q.epoch.largest_acked_packet words))

    carried : (p : Plan) → plan_ack m n q r.flags now words delay status limited s ≡ Ok p → Carries m n q r.flags p
    carried =
        plan-carries m n q r.flags len-fits lost-fits now delay status limited s words
        (surveys-here words m n q r here acked-fits (largest_for q.epoch.largest_acked_packet words))

    pub take-refused : {k : Refusal} → plan_ack m n q r.flags now words delay status limited s ≡ Err k →
        Does (acknowledge now n words delay status limited (connection_of m s)) (Err k) m m s s (state_by s n 0) (ack_words m s n)
    take-refused {k} e =
        does-refused m s (state_by s n 0) (ack_words m s n) _ k
        (shown-refused m s (state_by s n 0) (ack_words m s n) _ k (view ∙ rw e refl))

    pub take-does : (p : Plan) → plan_ack m n q r.flags now words delay status limited s ≡ Ok p → (after : List ℕ) (k : Queues) →
        Committed m n q.head q.len r.flags r.last p.from p.stop p.keep now q.acked q.lost_ack after k →
        Does (acknowledge now n words delay status limited (connection_of m s)) (Ok p.outcome) m after s (with_space_state n p.space p.shared s) (state_by s n 0) (ack_words m s n)
    take-does p e after k done =
        let c = carried p e in
        let x = len-fits in
        let y = c.stop in
        let a : after ≡ stored m full n q r.flags now p.from p.stop p.keep =
        commit-memory m n q.head q.len r.flags r.last p.from p.stop p.keep now q.acked q.lost_ack
        (λ i le lt. r.past i le) (omega arith) timely acked-fits lost-fits after k done
        ∙ ap (λ (j : ℕ). committed m n q.head j r.flags p.from p.stop p.keep now q.acked q.lost_ack) same_len in
        rw a
        (shown-does m s (state_by s n 0) (ack_words m s n) _ _ _ p.outcome (view ∙ rw e refl)
        (placed-view _ s 0 p.space p.shared n nn (space-fits r.flags p c)) (words-kept r.flags p c))

-- ---- the tests before it

pub checked-view : (now : Moment) (n : ℕ) (words : List ℕ) (delay : ℕ) (status : HandshakeStatus) (limited : Bool) (skipped : Option ℕ) (c : Connection) →
    on_ack_received now n words delay status limited skipped c
    ≡ then (checked_ack c.shared.clock now n words delay skipped) (λ d. acknowledge now n words d status limited c)
unfolding on_ack_received checked_ack
checked-view now n words delay status limited skipped c =
    must-then (λ d. acknowledge now n words d status limited c) (on_clock c.shared.clock now) Clock _ _ λ x.
    must-then (λ d. acknowledge now n words d status limited c) (is_space n && is_skipped skipped) Domain _ _ λ y.
    must-then (λ d. acknowledge now n words d status limited c) (are_ranges words) Ranges _ _ λ z.
    must-then (λ d. acknowledge now n words d status limited c) (not (hold_skipped words skipped)) Skipped _ _ λ w.
    reach-then (λ d. acknowledge now n words d status limited c) (times_of 1000 delay) _ _ λ k e. refl

and_left : (a b : Bool) → (a && b) ≡ true → a ≡ true
and_left true b e = refl
and_left false b e = e

and_right : (a b : Bool) → (a && b) ≡ true → b ≡ true
and_right true b e = e
and_right false b e = absurd (let z : ◌≡◌ {A = ℕ} 0 1 = cc in let w : ⊥ = omega arith in w)

must-holds : {A : Type 0} (b : Bool) (k : Refusal) (r : Result A Refusal) {a : A} → must b k r ≡ Ok a → (b ≡ true) × (r ≡ Ok a)
must-holds true k r e = (refl, e)
must-holds false k r e = clash e

module _ (clock now : Moment) (n : ℕ) (words : List ℕ) (delay : ℕ) (skipped : Option ℕ) {d : Span} (e : checked_ack clock now n words delay skipped ≡ Ok d) where
  pub checked-space : n < 3
  unfolding checked_ack
  checked-space =
      let a = must-holds (on_clock clock now) Clock _ e in
      let b = must-holds (is_space n && is_skipped skipped) Domain _ a.1 in
      ltb-true _ _ (and_left (ltb n 3) (is_skipped skipped) b.0)

  pub checked-time : now.0 ≤ limit
  unfolding checked_ack on_clock
  checked-time =
      let a = must-holds (on_clock clock now) Clock _ e in
      leb-true _ _ (and_right (leb clock.0 now.0) (leb now.0 limit) a.0)

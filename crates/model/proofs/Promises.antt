-- The third demand, proved: one move's facts, carried along any list of calls. Assumes nothing.
use mathlib.Core.Path.{◌≡◌, refl, ap, sym, ◌∙◌, subst}
use mathlib.Core.Bool.{Bool, true, false, cond, ◌&&◌, ◌||◌, not}
use mathlib.Core.List.{List, [], ◌∷◌, ◌++◌}
use mathlib.Core.Logic.{◌⊎◌, ⊎_elim, inl, inr}
use Prim.Native.Nat.{ℕ, ◌*◌, ◌^◌, ◌≤◌, ◌<◌}
use native.Mathlib.Omega.{arith}
use lib.Dec.{T, leb, leb→le}
use borrow.Author.Tests.{lt-ltb}
use native.Mathlib.Nat.{mul-le-mul_left, le_trans}
use Rattle.arith.specs.declared.time.Moment.{Moment}
use Rattle.arith.specs.declared.time.Span.{Span}
use Rattle.arith.specs.Refusals.{must}
use Rattle.model.specs.Numbers.{is_datagram_size, are_settings}
use Rattle.model.specs.Cubic.{checkpoint, rolls_back, rolled_back, rollback, grow, congestion_fresh}
use Rattle.model.specs.Control.{Move, forgive, ack, moved, control}
use Rattle.model.specs.Connection.{Connection, fresh, space_fresh, shared_fresh}
use Rattle.model.specs.Run.{Event, Answer, step, state_by, after, run}
use Rattle.model.specs.Events.{Step}
use Rattle.model.specs.History.{Seen, seen, Entry, entries_from, moves_by, moves_of, history, opens, asks, succeeds, keeps_size, Kept, never, as', latest, begins, size_kept}
use Rattle.model.specs.Promises.{Promises}
use Rattle.model.specs.declared.Congestion.{Congestion}
use Rattle.model.specs.declared.PriorState.{PriorState}
use Rattle.arith.specs.declared.refusal.Refusal.{Refusal}
use Rattle.arith.specs.declared.refusal.Refusal.TheVariants.{Domain}
use Rattle.model.specs.declared.Settings.{Settings}
use Rattle.model.proofs.Peel.{All, all-is, all-must, no_value}
use Rattle.model.proofs.Moves.{Made, made, rises, turned_down}
use Rattle.model.proofs.Events.{control-append, sound}
use Rattle.std.specs.Prelude.{Result, Ok, Err}

clash : {A : Type 0} → true ≡ false → A
clash e = absurd (let z : ◌≡◌ {A = ℕ} 0 1 = cc in let w : ⊥ = omega arith in w)

holds : (b : Bool) → T b → b ≡ true
holds true t = refl
holds false t = absurd t

hold : (b : Bool) → b ≡ true → T b
hold true e = tt
hold false e = clash (sym e)

second : (a b : Bool) → (a && b) ≡ true → b ≡ true
second true b e = e
second false b e = clash (sym e)

both_false : (a b : Bool) → (a || b) ≡ false → (a ≡ false) × (b ≡ false)
both_false true b e = clash e
both_false false b e = (refl, e)

both_true : (a b : Bool) → (a && b) ≡ true → (a ≡ true) × (b ≡ true)
both_true true b e = (refl, e)
both_true false b e = clash (sym e)

flip : (a : Bool) → not a ≡ true → a ≡ false
flip true e = clash (sym e)
flip false e = refl

-- ---- the history is the sender's own
one-own : (e : Event) (c : Connection) → control (moves_by (step e c)) c.shared.congestion ≡ Ok (after e c).shared.congestion
unfolding after control
one-own e c = go (step e c) refl
  where
    go : (x : Result (Step Answer) Refusal) → step e c ≡ x → control (moves_by x) c.shared.congestion ≡ Ok (state_by c x).shared.congestion
    go (Ok x) p = sound c e x p
    go (Err n) p = refl

events-own : (l : List Event) (c : Connection) → control (moves_of l c) c.shared.congestion ≡ Ok (run l c).shared.congestion
unfolding moves_of run control
events-own [] c = refl
events-own (e ∷ l) c = control-append (moves_by (step e c)) (moves_of l (after e c)) c.shared.congestion ∙ rw (one-own e c) (events-own l (after e c))

-- ---- the checkpoint is what was seen just before the latest period began
abbrev prior_seen : Congestion → Seen
prior_seen g =
    record {
      window = g.prior.congestion_window;
      thresh = g.prior.ssthresh;
      w_max = g.prior.w_max;
      k = g.prior.k;
      start = g.prior.epoch_start;
    }

abbrev Holds : Kept → Congestion → Type 0
Holds k g = ((k ≡ never) × (g.prior.congestion_window ≡ 0)) ⊎ (k ≡ as' (prior_seen g))

same-prior : (g h : Congestion) (k : Kept) → h.prior ≡ g.prior → Holds k g → Holds k h
same-prior g h k e = ⊎_elim (λ x. inl (x.0, ap (λ (p : PriorState). p.congestion_window) e ∙ x.1)) (λ x. inr (x ∙ rw e refl))

holds_on : (g : Congestion) (m : Move) (h : Congestion) → Made g m h → (k : Kept) → Holds k g → Holds (cond (opens g m) (as' (seen g)) k) h
unfolding seen checkpoint
holds_on g m h f k x = go (opens g m) refl
  where
    go : (b : Bool) → opens g m ≡ b → Holds (cond b (as' (seen g)) k) h
    go true e = inr (rw (f.opened e) refl)
    go false e = same-prior g h k (f.kept e) x

-- a rollback can succeed only after a period began
not-never : (k : Kept) (g : Congestion) → Holds k g → rolls_back g ≡ true → k ≡ as' (prior_seen g)
not-never k g x r = ⊎_elim (λ n. absurd (let w : ⊥ = omega (arith, rises g r, n.1) in w)) (λ e. e) x

-- ---- walking a history: what each move keeps of a note taken on the way
none_is : {A : Type 0} (a : List Entry) (e : Entry) (b : List Entry) → [] ≡ a ++ (e ∷ b) → A
none_is [] e b p = absurd (let z : ◌≡◌ {A = ℕ} 0 1 = cc in let w : ⊥ = omega arith in w)
none_is (x ∷ a) e b p = absurd (let z : ◌≡◌ {A = ℕ} 0 1 = cc in let w : ⊥ = omega arith in w)

abbrev entry : Congestion → Move → Congestion → Entry
entry g m h = record { before = g; move = m; after = h }

entries-made : (g : Congestion) (m : Move) (h : Congestion) (ms : List Move) → moved m g ≡ Ok h → entries_from g (m ∷ ms) ≡ entry g m h ∷ entries_from h ms
unfolding entries_from
entries-made g m h ms e = rw e refl

entries-refused : (g : Congestion) (m : Move) (ms : List Move) {n : Refusal} → moved m g ≡ Err n → entries_from g (m ∷ ms) ≡ []
unfolding entries_from
entries-refused g m ms e = rw e refl

module _ {S : Type 0} (note : S → Congestion → Move → S) (Inv : S → Congestion → Type 0)
    (on : (g : Congestion) (m : Move) (h : Congestion) → Made g m h → (k : S) → Inv k g → Inv (note k g m) h) where
  unfoldable noted : S → List Entry → S
  noted k [] = k
  noted k (e ∷ l) = noted (note k e.before e.move) l

  record At (k : S) (a : List Entry) (e : Entry) (b : List Entry) : Type 0 where
    inv : Inv (noted k a) e.before
    was : moved e.move e.before ≡ Ok e.after
    rest : (ms : List Move) × (entries_from e.after ms ≡ b)

  -- a list that begins with a move's entry: it is the wanted one, or the wanted one comes later
  step-to : (k : S) (g : Congestion) (m : Move) (h : Congestion) (rest : List Entry) → moved m g ≡ Ok h → Inv k g →
      ((a : List Entry) (e : Entry) (b : List Entry) → rest ≡ a ++ (e ∷ b) → At (note k g m) a e b) →
      ((ms : List Move) × (entries_from h ms ≡ rest)) →
      (a : List Entry) (e : Entry) (b : List Entry) → entry g m h ∷ rest ≡ a ++ (e ∷ b) → At k a e b
  unfolding noted
  step-to k g m h rest q x later r [] e b p =
      let y : entry g m h ≡ e = cc in
      let z : rest ≡ b = cc in
      subst (λ (w : Entry). At k [] w b) y (record { inv = x; was = q; rest = (r.0, r.1 ∙ z) })
  step-to k g m h rest q x later r (y ∷ a) e b p =
      let u : entry g m h ≡ y = cc in
      let v : rest ≡ a ++ (e ∷ b) = cc in
      let f = later a e b v in
      subst (λ (w : Entry). At k (w ∷ a) e b) u (record { inv = f.inv; was = f.was; rest = f.rest })

  walk : (ms : List Move) (g : Congestion) (k : S) → Inv k g → (a : List Entry) (e : Entry) (b : List Entry) → entries_from g ms ≡ a ++ (e ∷ b) → At k a e b
  unfolding entries_from
  walk [] g k x a e b p = none_is a e b p
  walk (m ∷ ms) g k x a e b p = go (λ h y. walk ms h (note k g m) y) (moved m g) refl
    where
      go : ((h : Congestion) → Inv (note k g m) h → (a : List Entry) (e : Entry) (b : List Entry) → entries_from h ms ≡ a ++ (e ∷ b) → At (note k g m) a e b) →
          (r : Result Congestion Refusal) → moved m g ≡ r → At k a e b
      go ih (Ok h) q =
          step-to k g m h (entries_from h ms) q x (ih h (on g m h (made g m h q) k x)) (ms, refl) a e b (sym (entries-made g m h ms q) ∙ p)
      go ih (Err n) q = none_is a e b (sym (entries-refused g m ms q) ∙ p)

-- ---- the latest period is noted
abbrev kept_note : Kept → Congestion → Move → Kept
kept_note k g m = cond (opens g m) (as' (seen g)) k

latest-noted : (k : Kept) (a : List Entry) → latest k a ≡ noted kept_note Holds holds_on k a
unfolding latest noted
latest-noted k [] = refl
latest-noted k (e ∷ a) = latest-noted (kept_note k e.before e.move) a

never-noted : (a : List Entry) → begins a ≡ false → latest never a ≡ never
unfolding latest begins
never-noted [] e = refl
never-noted (x ∷ a) e = let w = both_false (opens x.before x.move) (begins a) e in rw w.0 (never-noted a w.1)

-- ---- after a rollback no other succeeds, unless a period begins or the size changes
abbrev Spent : Congestion → Type 0
Spent g = g.prior.congestion_window ≤ g.congestion_window

abbrev quiet_note : Bool → Congestion → Move → Bool
quiet_note k g m = k && (not (opens g m) && keeps_size m)

abbrev Quiet : Bool → Congestion → Type 0
Quiet k g = k ≡ true → Spent g

spent-rolled : (g : Congestion) → Spent (rolled_back g)
unfolding rolled_back
spent-rolled g = omega arith

quiet-on : (g : Congestion) (m : Move) (h : Congestion) → Made g m h → (k : Bool) → Quiet k g → Quiet (quiet_note k g m) h
quiet-on g m h f k x e =
    let u = both_true k _ e in
    let v = both_true (not (opens g m)) (keeps_size m) u.1 in
    let o : opens g m ≡ false = flip (opens g m) v.0 in
    rw (f.kept o) (omega (arith, f.window o v.1, x u.0))

quiet-noted : (b : List Entry) → begins b ≡ false → size_kept b ≡ true → noted quiet_note Quiet quiet-on true b ≡ true
unfolding begins size_kept noted
quiet-noted [] nb sk = refl
quiet-noted (e ∷ b) nb sk =
    let u = both_false (opens e.before e.move) (begins b) nb in
    let v = both_true (keeps_size e.move) (size_kept b) sk in
    rw (u.0, v.0) (quiet-noted b u.1 v.1)

-- ---- before the first period the threshold is 2^64-1, and no window comes near it
abbrev calm_note : Bool → Congestion → Move → Bool
calm_note k g m = k && not (opens g m)

pub record Early (g : Congestion) : Type 0 where
  pub thresh : g.ssthresh ≡ 18446744073709551615
  pub window : g.congestion_window ≤ 2 ^ 30
  pub prior : g.prior.congestion_window ≡ 0

abbrev Calm : Bool → Congestion → Type 0
Calm k g = k ≡ true → Early g

early-down : (g : Congestion) (m : Move) → Early g → succeeds g m ≡ false
early-down g m x = go (succeeds g m) refl
  where
    go : (b : Bool) → succeeds g m ≡ b → b ≡ false
    go false e = refl
    go true e = absurd (let w : ⊥ = omega (arith, rises g (second (asks g m) (rolls_back g) e), x.prior) in w)

calm-on : (g : Congestion) (m : Move) (h : Congestion) → Made g m h → (k : Bool) → Calm k g → Calm (calm_note k g m) h
calm-on g m h f k x e =
    let u = both_true k (not (opens g m)) e in
    let o = flip (opens g m) u.1 in
    let y = x u.0 in
    let d = early-down g m y in
    record {
      thresh = f.thresh o d ∙ y.thresh;
      window = f.bound o d y.window;
      prior = ap (λ (p : PriorState). p.congestion_window) (f.kept o) ∙ y.prior;
    }

calm-noted : {P : Bool → Congestion → Type 0} (on : (g : Congestion) (m : Move) (h : Congestion) → Made g m h → (k : Bool) → P k g → P (calm_note k g m) h) →
    (b : List Entry) → begins b ≡ false → noted calm_note P on true b ≡ true
unfolding begins noted
calm-noted on [] nb = refl
calm-noted on (e ∷ b) nb = let u = both_false (opens e.before e.move) (begins b) nb in rw u.0 (calm-noted on b u.1)

-- and after it the checkpoint's window is below its threshold
abbrev Low : Bool → Congestion → Type 0
Low k g = k ≡ true → g.prior.congestion_window < g.prior.ssthresh

low-on : (g : Congestion) (m : Move) (h : Congestion) → Made g m h → (k : Bool) → Low k g → Low (calm_note k g m) h
low-on g m h f k x e = let u = both_true k (not (opens g m)) e in rw (f.kept (flip (opens g m) u.1)) (x u.0)

low-down : (g : Congestion) (m : Move) → g.prior.congestion_window < g.prior.ssthresh → succeeds g m ≡ false
unfolding rolls_back
low-down g m lt = rw (lt-ltb _ _ lt) (and-false (asks g m))
  where
    and-false : (a : Bool) → (a && false) ≡ false
    and-false true = refl
    and-false false = refl

-- ---- a fresh connection has no checkpoint
fresh_holds : (s : Settings) → All (λ c. Holds never c.shared.congestion) (fresh s)
unfolding fresh shared_fresh congestion_fresh
fresh_holds s = all-must (λ c. Holds never c.shared.congestion) (are_settings s) Domain _ (all-is (λ c. Holds never c.shared.congestion) _ (inl (refl, refl)))

-- at most 100 packets of at most 65,527 bytes
small-window : (s : Settings) → are_settings s ≡ true → s.max_datagram_size * s.initial_window_packets ≤ 2 ^ 30
unfolding are_settings is_datagram_size
small-window s e =
    let a = both_true _ (leb s.max_ack_delay.0 16383000000) e in
    let b = both_true _ (leb 1000000 s.initial_rtt.0 && leb s.initial_rtt.0 10000000000) a.0 in
    let d = both_true (leb 1200 s.max_datagram_size && leb s.max_datagram_size 65527) (leb 2 s.initial_window_packets && leb s.initial_window_packets 100) b.0 in
    let x : s.max_datagram_size ≤ 65527 = leb→le _ _ (hold _ (both_true (leb 1200 s.max_datagram_size) (leb s.max_datagram_size 65527) d.0).1) in
    let y : s.initial_window_packets ≤ 100 = leb→le _ _ (hold _ (both_true (leb 2 s.initial_window_packets) (leb s.initial_window_packets 100) d.1).1) in
    le_trans (mul-le-mul_left s.max_datagram_size y) (omega (arith, x))

fresh-early : (s : Settings) → All (λ c. Early c.shared.congestion) (fresh s)
unfolding fresh shared_fresh congestion_fresh
fresh-early s = go (are_settings s) refl
  where
    go : (b : Bool) → are_settings s ≡ b → All (λ (c : Connection). Early c.shared.congestion)
        (must b Domain (Ok (record { initial = space_fresh; handshake = space_fresh; application = space_fresh; shared = shared_fresh s })))
    go true e = all-is (λ (c : Connection). Early c.shared.congestion) _ (record { thresh = refl; window = small-window s e; prior = refl })
    go false e = λ a p. no_value p

module _ (s : Settings) (c : Connection) (start : fresh s ≡ Ok c) (calls : List Event) where
  place : (a : List Entry) (e : Entry) (b : List Entry) → history calls c ≡ a ++ (e ∷ b) → At kept_note Holds holds_on never a e b
  unfolding history
  place a e b p = walk kept_note Holds holds_on (moves_of calls c) c.shared.congestion never (fresh_holds s c start) a e b p

  facts : (a : List Entry) (e : Entry) (b : List Entry) → history calls c ≡ a ++ (e ∷ b) → Made e.before e.move e.after
  facts a e b p = made e.before e.move e.after (place a e b p).was

  rolls : (e : Entry) → succeeds e.before e.move ≡ true → rolls_back e.before ≡ true
  rolls e t = second (asks e.before e.move) (rolls_back e.before) t

  puts-back : (a : List Entry) (e : Entry) (b : List Entry) → history calls c ≡ a ++ (e ∷ b) → T (succeeds e.before e.move) → latest never a ≡ as' (seen e.after)
  unfolding seen rolled_back
  puts-back a e b p t =
      let ok = holds (succeeds e.before e.move) t in
      let after_is : e.after ≡ rolled_back e.before = (facts a e b p).rolled ok in
      latest-noted never a ∙ not-never _ e.before (place a e b p).inv (rolls e ok) ∙ rw after_is refl

  keeps : (a : List Entry) (e : Entry) (b : List Entry) → history calls c ≡ a ++ (e ∷ b) → e.move ≡ forgive → succeeds e.before e.move ≡ false → e.after ≡ e.before
  unfolding moved rollback asks
  keeps a e b p f n =
      let w : moved forgive e.before ≡ Ok e.after = rw f at (place a e b p).was in
      let r : succeeds e.before forgive ≡ false = rw f at n in
      same w r
    where
      same : moved forgive e.before ≡ Ok e.after → succeeds e.before forgive ≡ false → e.after ≡ e.before
      same w r = let u : Ok (cond (rolls_back e.before) (rolled_back e.before) e.before) ≡ Ok e.after = w in
          let v : Ok e.before ≡ Ok e.after = rw r at u in cc

  between : (a : List Entry) (e : Entry) (b : List Entry) (f : Entry) (d : List Entry) → history calls c ≡ a ++ (e ∷ (b ++ (f ∷ d))) →
      T (succeeds e.before e.move) → T (succeeds f.before f.move) → T (size_kept b) → T (begins b)
  between a e b f d p t u k = go (begins b) refl
    where
      ok : e.after ≡ rolled_back e.before
      ok = (facts a e (b ++ (f ∷ d)) p).rolled (holds (succeeds e.before e.move) t)

      spent : Spent e.after
      spent = rw ok (spent-rolled e.before)

      later : (ms : List Move) × (entries_from e.after ms ≡ b ++ (f ∷ d))
      later = (place a e (b ++ (f ∷ d)) p).rest

      at_f : At quiet_note Quiet quiet-on true b f d
      at_f = walk quiet_note Quiet quiet-on later.0 e.after true (λ x. spent) b f d later.1

      go : (x : Bool) → begins b ≡ x → T x
      go true q = tt
      go false q =
          let v : Spent f.before = at_f.inv (quiet-noted b q (holds (size_kept b) k)) in
          let w : ⊥ = omega (arith, rises f.before (rolls f (holds (succeeds f.before f.move) u))) in absurd w

  none_before : (a : List Entry) (e : Entry) (b : List Entry) → history calls c ≡ a ++ (e ∷ b) → begins a ≡ false → succeeds e.before e.move ≡ false
  none_before a e b p n = go (succeeds e.before e.move) refl
    where
      go : (x : Bool) → succeeds e.before e.move ≡ x → x ≡ false
      go false q = refl
      go true q =
          let w = sym (latest-noted never a) ∙ never-noted a n in
          let v = not-never _ e.before (place a e b p).inv (rolls e q) in
          absurd (let z : ◌≡◌ {A = ℕ} 0 1 = cc in let y : ⊥ = omega arith in y)

  lowers : (a : List Entry) (e : Entry) (b : List Entry) → history calls c ≡ a ++ (e ∷ b) → opens e.before e.move ≡ false → keeps_size e.move ≡ true →
      e.before.congestion_window ≤ e.after.congestion_window
  lowers a e b p o k = (facts a e b p).window o k

  goes_on : (a : List Entry) (e : Entry) (b : List Entry) (now sent : Moment) (size : ℕ) (limited : Bool) (min_rtt : Span) →
      history calls c ≡ a ++ (e ∷ b) → e.move ≡ ack now sent size limited min_rtt → asks e.before e.move ≡ true → succeeds e.before e.move ≡ false →
      grow now size min_rtt e.before ≡ Ok e.after
  goes_on a e b now sent size limited min_rtt p m q n =
      let w : moved (ack now sent size limited min_rtt) e.before ≡ Ok e.after = rw m at (place a e b p).was in
      turned_down e.before now sent size limited min_rtt e.after (rw m at q) (rw m at n) w

  first-stays : (a : List Entry) (o : Entry) (b : List Entry) (e : Entry) (d : List Entry) → history calls c ≡ a ++ (o ∷ (b ++ (e ∷ d))) →
      begins a ≡ false → begins b ≡ false → T (opens o.before o.move) → succeeds e.before e.move ≡ false
  unfolding history checkpoint
  first-stays a o b e d p na nb t =
      let at-o = walk calm_note Calm calm-on (moves_of calls c) c.shared.congestion true (λ x. fresh-early s c start) a o (b ++ (e ∷ d)) p in
      let y : Early o.before = at-o.inv (calm-noted calm-on a na) in
      let op : o.after.prior ≡ checkpoint o.before = (made o.before o.move o.after at-o.was).opened (holds (opens o.before o.move) t) in
      let lt : o.after.prior.congestion_window < o.after.prior.ssthresh = rw op (omega (arith, y.thresh, y.window)) in
      let at-e = walk calm_note Low low-on at-o.rest.0 o.after true (λ x. lt) b e d at-o.rest.1 in
      low-down e.before e.move (at-e.inv (calm-noted low-on b nb))

  pub promised : Promises s c calls
  promised = record { own = events-own calls c; puts_back = puts-back; keeps = keeps; goes_on = goes_on; lowers = lowers; between = between; none_before = none_before; first_stays = first-stays }

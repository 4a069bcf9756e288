-- The space that a rule names is one of the three. Assumes nothing.
use mathlib.Core.Bool.{Bool, true, false, cond, ◌||◌, not}
use Prim.Native.Nat.{ℕ, ◌<◌}
use lib.Dec.{eqb, lit<}
use Rattle.arith.specs.Time.{later_of}
use Rattle.arith.specs.declared.time.Span.{Span}
use Rattle.model.specs.Numbers.{is_unset}
use Rattle.model.specs.Timer.{sooner, of, better, loss_time_and_space, pto_from, try_epoch, try_application, pto_application, search, pto_backed, pto_time_and_space, idle_space, probe_space}
use Rattle.model.specs.declared.Epoch.{Epoch}
use Rattle.model.specs.declared.HandshakeStatus.{HandshakeStatus}
use Rattle.model.specs.declared.TimeAndSpace.{TimeAndSpace}
use Rattle.model.specs.declared.TimerFacts.{TimerFacts}
use Rattle.model.proofs.Peel.{All, all-is, all_then, all-cond, all-reach}
use Rattle.std.specs.Prelude.{Ok, Option, Some, None}
use Rattle.arith.specs.declared.time.Moment.{Moment}

better-small : (best : TimeAndSpace) (t : Option Moment) (n : ℕ) → best.space < 3 → n < 3 → (better best t n).space < 3
unfolding better
better-small best t n b s = go (is_unset best.time || sooner t best.time)
  where
    go : (x : Bool) → (cond x (of t n) best).space < 3
    go true = s
    go false = b

-- the loss time's space
pub earliest-small : (i h a : Epoch) → (loss_time_and_space i h a).space < 3
unfolding loss_time_and_space
earliest-small i h a =
    better-small (better (of i.loss_time 0) h.loss_time 1) a.loss_time 2 (better-small (of i.loss_time 0) h.loss_time 1 (lit< tt) (lit< tt)) (lit< tt)

abbrev Small : TimeAndSpace → Type 0
Small x = x.space < 3

epoch-small : (e : Epoch) (n : ℕ) (d : Span) (best : TimeAndSpace) → best.space < 3 → n < 3 → All Small (try_epoch e n d best)
unfolding try_epoch
epoch-small e n d best b s =
    all-cond Small (eqb e.in_flight_count 0) (Ok best) _ (λ x. all-is Small best b) λ x.
    all_then Small (pto_from e.time_of_last_ack_eliciting_packet d) (λ t. Ok (better best t n)) λ t y. all-is Small (better best t n) (better-small best t n b s)

search-small : (f : TimerFacts) (d : Span) → All Small (search f d)
unfolding search try_application
search-small f d =
    all_then Small (try_epoch f.initial 0 d (of None 0)) _ λ a x.
    all_then Small (try_epoch f.handshake 1 d a) _ λ b y.
    let lt-a : a.space < 3 = epoch-small f.initial 0 d (of None 0) (lit< tt) (lit< tt) a x in
    let lt-b : b.space < 3 = epoch-small f.handshake 1 d a lt-a (lit< tt) b y in
    all-cond Small (eqb f.application.in_flight_count 0 || not f.status.completed) (Ok b) _ (λ e. all-is Small b lt-b) λ e.
    all_then Small (pto_application f d) (λ longer. try_epoch f.application 2 longer b) λ longer z. epoch-small f.application 2 longer b lt-b (lit< tt)

idle-small : (s : HandshakeStatus) → idle_space s < 3
idle-small s = go s.has_handshake_keys
  where
    go : (b : Bool) → cond b 1 0 < 3
    go true = lit< tt
    go false = lit< tt

-- the space that gets probes
pub probe-small : (f : TimerFacts) → All (λ n. n < 3) (probe_space f)
unfolding probe_space pto_time_and_space
probe-small f =
    all-cond (λ n. n < 3) (eqb f.bytes_in_flight 0) (Ok (idle_space f.status)) _ (λ e. all-is (λ n. n < 3) _ (idle-small f.status)) λ e.
    all_then (λ n. n < 3) (pto_time_and_space f) (λ c. Ok c.space) λ c x. all-is (λ n. n < 3) c.space (searched c x)
  where
    searched : All Small (pto_time_and_space f)
    searched =
        all_then Small (pto_backed f) _ λ d y.
        all-cond Small (eqb f.bytes_in_flight 0) _ (search f d)
        (λ z. all-reach Small (later_of f.now d) (λ m. Ok (of (Some m) (idle_space f.status))) λ m. all-is Small (of (Some m) (idle_space f.status)) (idle-small f.status))
        (λ z. search-small f d)

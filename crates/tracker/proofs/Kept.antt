-- What a plan leaves, once it is stored: the space, and the connection around it. Assumes nothing.
use mathlib.Core.Bool.{Bool}
use mathlib.Core.Path.{◌≡◌, refl, sym, ◌∙◌}
use mathlib.Core.List.{List, ◌++◌}
use mathlib.Core.Logic.{◌≢◌}
use Prim.Native.Nat.{ℕ, ◌+◌, ◌-◌, ◌%◌, ◌≤◌, ◌<◌}
use native.Mathlib.Omega.{arith}
use lib.ListN.{length}
use Rattle.arith.specs.declared.time.Moment.{Moment}
use Rattle.model.specs.Numbers.{capacity}
use Rattle.model.specs.Connection.{Space, with_space, with_shared}
use Rattle.model.specs.declared.Epoch.{Epoch}
use Rattle.model.specs.declared.Shared.{Shared}
use Rattle.records.specs.View.{all_words, ring, queue_of}
use Rattle.records.proofs.Laws.{records-mod}
use Rattle.commit.specs.Commit.{newly_handles, gone_handles, committed}
use Rattle.commit.proofs.Laws.{committed-records, committed-acked, committed-lost, committed-again, committed-space, committed-space-queue}
use Rattle.connection.specs.View.{count, space_of, connection_of, with_space_state}
use Rattle.connection.specs.declared.SpaceState.{SpaceState}
use Rattle.connection.specs.declared.State.{State}
use Rattle.connection.proofs.Views.{state-view}
use Rattle.tracker.specs.Plan.{kept_space, settled_place}

module _ (m : List ℕ) (full : length m ≡ all_words) (n : ℕ) (q : SpaceState) (fs : List Bool) (now : Moment) (from stop keep : ℕ) where
  -- the words once the plan is stored
  abbrev pub stored : List ℕ
  stored = committed m n q.head q.len fs from stop keep now q.acked q.lost_ack

  abbrev pub kept_as : Epoch → Space
  kept_as e =
      record {
        records = ring (settled_place m n q fs stop now) keep (q.len - keep);
        acked_frames = queue_of m n 0 q.acked ++ newly_handles m n q.head fs q.len;
        lost_frames_ack = queue_of m n 1 q.lost_ack ++ gone_handles m n q.head fs from stop;
        lost_frames_pto = queue_of m n 2 q.lost_pto;
        epoch = e;
      }

  pub kept-view : (e : Epoch) (a l : ℕ) → a ≡ q.acked + length (newly_handles m n q.head fs q.len) → a ≤ capacity →
      l ≡ q.lost_ack + length (gone_handles m n q.head fs from stop) → l ≤ capacity → q.len ≤ capacity → q.lost_pto ≤ capacity →
      space_of stored n (kept_space q keep a l e) ≡ kept_as e
  unfolding space_of
  kept-view e a l ea la el ll len pto =
      let x : count (q.len - keep) ≡ q.len - keep = omega arith in
      let y : count a ≡ q.acked + length (newly_handles m n q.head fs q.len) = omega arith in
      let z : count l ≡ q.lost_ack + length (gone_handles m n q.head fs from stop) = omega arith in
      let w : count q.lost_pto ≡ q.lost_pto = omega arith in
      rw (
        x,
        y,
        z,
        w,
        records-mod stored n (q.head + keep) (q.len - keep),
        committed-records m n q.head q.len fs from stop keep now q.acked q.lost_ack full len,
        committed-acked m n q.head q.len fs from stop keep now q.acked q.lost_ack full (omega arith),
        committed-lost m n q.head q.len fs from stop keep now q.acked q.lost_ack full (omega arith),
        committed-again m n q.head q.len fs from stop keep now q.acked q.lost_ack n q.lost_pto,
      ) refl

  others : n < 3 → (k : ℕ) → k < 3 → k ≢ n → (x : SpaceState) → space_of stored k x ≡ space_of m k x
  unfolding space_of
  others nn k kk off x =
      let apart : k % 3 ≢ n % 3 = λ e. off (omega arith) in
      rw (
        committed-space m n q.head q.len fs from stop keep now q.acked q.lost_ack k x.head (count x.len) apart,
        committed-space-queue m n q.head q.len fs from stop keep now q.acked q.lost_ack k 0 (count x.acked) apart,
        committed-space-queue m n q.head q.len fs from stop keep now q.acked q.lost_ack k 1 (count x.lost_ack) apart,
        committed-space-queue m n q.head q.len fs from stop keep now q.acked q.lost_ack k 2 (count x.lost_pto) apart,
      ) refl

  -- the connection with the space as the plan leaves it
  pub whole-kept : (s : State) → n < 3 → (p : SpaceState) (new : Space) (shared : Shared) → space_of stored n p ≡ new →
      with_shared shared (with_space n new (connection_of m s)) ≡ connection_of stored (with_space_state n p shared s)
  whole-kept s nn p new shared e = sym (state-view m s stored p shared n nn (others nn) ∙ rw e refl)
